-- An inode that dies when a reference is dropped is loaded.
use Rattle.fs_machine.proofs.Vocabulary.{◌≡◌, ℕ, Option, Some, None, refl, subst, IsSome, slice_get, Loaded, Ran, Dies, drop_at, drop_dying, drop_inode, dying, place_of, Outside, State, exec, in_tables}
use Rattle.fs_machine.specs.Steps as steps

pub dies_loaded : (h k n : ℕ) (o : Option Loaded) (x : Outside) (s t : State) → exec h x (steps.Down (steps.Held n)) s ≡ Ran (Dies k o) t → IsSome o
unfolding exec drop_inode
dies_loaded h k n o x s t e = at (place_of n s.tables.entries) e
  where
    within : (p : ℕ) (d : Option Loaded) → in_tables s (drop_dying h n p s.tables d) ≡ Ran (Dies k o) t → IsSome o
    within p None e = absurd (cc e)
    within p (Some d) e = let is : Some d ≡ o = cc e in subst (λ (o : Option Loaded). IsSome o) is refl

    at : (p : Option ℕ) → in_tables s (drop_at h n s.tables p) ≡ Ran (Dies k o) t → IsSome o
    at None e = absurd (cc e)
    at (Some p) e = within p (dying (slice_get s.tables.entries p) (slice_get s.tables.locks p)) e
