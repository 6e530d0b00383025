-- What the proofs of this crate's functions use: its lemmas, and what they speak of.
pub use Rattle.sleep_lock.proofs.Vocabulary.{GuardState, List, Option, SlotState, [], ap, arith, filled, length, refl, row_of, slice_set, subst, sym, ℕ, ◌++◌, ◌+◌, ◌∙◌, ◌∷◌, ◌≡◌}
unfoldable pub use Rattle.sleep_lock.proofs.Vocabulary.{lock_of, unlocked}
pub use Rattle.sleep_lock.proofs.Locks.{IfSome_each, LockLaws, length-row_of, lock_gives, lock_laws, numbered_row, numbered_unlocked, row_of-push}
pub use Rattle.std.proofs.Common.{append_assoc, length-append, rules}
pub use Rattle.std.proofs.lemmas.Grind.{common_steps}
pub use Rattle.std.specs.Vec.Iter.{into_iter_items}
