-- What a child's new directory makes of the tables.
use Rattle.fs_machine.proofs.Vocabulary.{◌≡◌, ◌∙◌, ℕ, List, ap, sym, Some, None, slice_get, Ran, Desk, Entry, change_at, TablesState, place_of, one_more, directory_of, with_directory, given_directory}
use Rattle.fs_machine.specs.declared.slots.Given.TheVariants as given

module _ (h child n : ℕ) (t : TablesState) (is : n ≡ directory_of (slice_get t.desks h)) where
  pub given_nowhere : place_of n t.entries ≡ None
      → given_directory h child t (place_of (directory_of (slice_get t.desks h)) t.entries) ≡ Ran (given.Directory (directory_of (slice_get t.desks child))) t
  given_nowhere e = ap (λ m. given_directory h child t (place_of m t.entries)) (sym is) ∙ ap (given_directory h child t) e

  pub given_there : (k : ℕ) (entries : List Entry) (desks : List Desk) → place_of n t.entries ≡ Some k → entries ≡ change_at k one_more t.entries → desks ≡ change_at child (with_directory n) t.desks
      → given_directory h child t (place_of (directory_of (slice_get t.desks h)) t.entries)
      ≡ Ran (given.Directory (directory_of (slice_get t.desks child))) (record t { entries = entries; desks = desks })
  given_there k entries desks e counted set =
      let to : desks ≡ change_at child (with_directory (directory_of (slice_get t.desks h))) t.desks = set ∙ ap (λ m. change_at child (with_directory m) t.desks) is in
      ap (λ m. given_directory h child t (place_of m t.entries)) (sym is)
      ∙ (ap (given_directory h child t) e ∙ (λ i. Ran (given.Directory (directory_of (slice_get t.desks child))) (record t { entries = sym counted i; desks = sym to i })))
