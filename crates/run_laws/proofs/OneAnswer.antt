-- An operation has one answer in a pair with it: operations are a set.
use Rattle.run_laws.proofs.Vocabulary.{◌≡◌, refl, sym, ◌∙◌, ap, subst}
use mathlib.Core.Path.{path_j, subst_refl}
use Rattle.std.proofs.Props.{props}
use Rattle.fs_machine.specs.Steps as steps
use Rattle.inode_machine.specs.World as above

answer_over : {A : Type 0} (B : A → Type 0) (x y : (a : A) × B a) (p : x ≡ y) → subst B (ap (λ (z : (a : A) × B a). z.0) p) x.1 ≡ y.1
answer_over {A} B x y p = path_j (λ (z : (a : A) × B a) (q : x ≡ z). subst B (ap (λ (w : (a : A) × B a). w.0) q) x.1 ≡ z.1) (subst_refl B x.1) p

same_at : {A : Type 0} → IsSet A → (B : A → Type 0) (a : A) (b c : B a) → ◌≡◌ {A = (x : A) × B x} (a, b) (a, c) → b ≡ c
same_at {A} set B a b c p = sym (subst_refl B b) ∙ ap (λ (q : a ≡ a). subst B q b) (set a a refl (ap (λ (w : (x : A) × B x). w.0) p)) ∙ answer_over B (a, b) (a, c) p

below_set : IsSet steps.Op
below_set = hlevel props

above_set : IsSet above.Op
above_set = hlevel props

pub one_below : (op : steps.Op) (a b : steps.Answer op) → ◌≡◌ {A = (x : steps.Op) × steps.Answer x} (op, a) (op, b) → a ≡ b
one_below op a b p = same_at below_set steps.Answer op a b p

pub one_above : (op : above.Op) (a b : above.Answer op) → ◌≡◌ {A = (x : above.Op) × above.Answer x} (op, a) (op, b) → a ≡ b
one_above op a b p = same_at above_set above.Answer op a b p
