-- From element to element.
use Rattle.path_walk.proofs.Vocabulary.{◌≡◌, ℕ, List, ◌∷◌, drop, sym, ◌∙◌, ap, Name, elements, Action, Do, name_in, AtName, Take, looks_or_quits, walk_step, After, onward, walk_of, Element}
use Rattle.image_versions.specs.declared.version.Version.{Version}
use Rattle.path_walk.specs.declared.walk.Goal.TheVariants as goal
use Rattle.path_walk.specs.declared.walk.Walk.TheVariants as walking

module _ (v : Version) (s : Action) (path : List ℕ) (after : After) (d rest : ℕ) (e : Element) (ns : List ℕ) (first : elements v (drop rest path) ≡ name_in path e ∷ elements v (drop e.rest path)) where
  pub inside_is : walk_of v s path after goal.Inside ns (walking.Look d e) ≡ onward v s path after goal.Inside d (elements v (drop rest path)) ns
  inside_is = sym (ap (λ (es : List Name). onward v s path after goal.Inside d es ns) first)

  pub parent_is : (x : Name) (xs : List Name) → elements v (drop e.rest path) ≡ x ∷ xs
      → walk_of v s path after goal.Parent ns (walking.Look d e) ≡ onward v s path after goal.Parent d (elements v (drop rest path)) ns
  parent_is x xs second =
      ap (λ (es : List Name). Do (Take d (AtName (name_in path e))) (looks_or_quits s) (λ a. walk_step d ns (λ j ms. onward v s path after goal.Parent j es ms) after.lost a.found)) second
      ∙ sym (ap (λ (es : List Name). onward v s path after goal.Parent d (name_in path e ∷ es) ns) second)
      ∙ sym (ap (λ (es : List Name). onward v s path after goal.Parent d es ns) first)
