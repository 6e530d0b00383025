-- What each action makes of a tree: by its definition.
use Rattle.image_versions.specs.declared.version.Version.{Version}
use Rattle.tree_laws.proofs.Vocabulary.{◌≡◌, effect_by, answer_by, ActionsAreTold}

it : {A : Type 0} {x : A} → x ≡ x
it {A} {x} = λ _. x

pub told : (version : Version) → ActionsAreTold version
unfolding effect_by answer_by
told version = record {
  opens = λ path flags t h res par new id. (it, it);
  truncate = λ fd t h res par new id. (it, it);
  read = λ fd n t h res par new id. (it, it);
  write = λ fd bytes t h res par new id. (it, it);
  find = λ old t h res par new id. (it, it);
  bump = λ t h res par new id. (it, it);
  enter = λ name t h res par new id. (it, it);
  unbump = λ t h res par new id. (it, it);
  unlink = λ path t h res par new id. (it, it);
  mkdir = λ path t h res par new id. (it, it);
  chdir = λ path t h res par new id. (it, it);
  dup = λ fd t h res par new id. (it, it);
  close = λ fd t h res par new id. (it, it);
  fstat = λ fd t h res par new id. (it, it);
  inherit = λ child t h res par new id. (it, it);
}
