-- What this crate's proofs speak of: its own definitions, and what the crates below and the library call things.
pub use Rattle.std.proofs.Common.{IfSome, List, None, Option, Some, [], add-zero, ap, arith, inl, inr, length, length-set, refl, set, slice_get, slice_set, subst, suc, sym, zero, ℕ, ◌++◌, ◌+◌, ◌<◌, ◌∙◌, ◌∷◌, ◌≡◌, ◌≢◌}
pub use Rattle.sleep_lock.specs.Row.{LeavesOthers, lock_at, row_of}
unfoldable pub use Rattle.sleep_lock.specs.Row.{IsNumbered, IsOut, lock_of, unlocked}
pub use Rattle.sleep_lock.specs.SleepLock.{GuardState, SlotState, emptied, filled, guard_of, taken}
pub use Rattle.std.proofs.lemmas.Bool.{cases_eq}
pub use Rattle.std.proofs.lemmas.List.{set-get_or}
pub use Rattle.std.proofs.lemmas.Option.{get_or_from_slice_get, none-some, same_Some, slice_get_within}
