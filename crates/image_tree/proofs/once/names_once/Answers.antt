use Rattle.image_tree.proofs.Lemmas.{List, [], subst, sym, ◌∙◌, Bool, Marks, marks_none}
use Rattle.image_tree.proofs.once.names_once.Goals as goal

pub has_no_repeat-requires : goal.has_no_repeat-requires
has_no_repeat-requires g c = record {
  layout = c.requires.layout;
  numbers = c.requires.numbers;
  length = c.deref_mut.ensures.len ∙ c.in_ok-seen.ensures.len;
  blank = subst (λ (xs : List Bool). Marks xs []) (sym (c.deref_mut.ensures.value ∙ c.in_ok-seen.ensures.items_if_clones_equal (λ _ e. e))) marks_none;
}
