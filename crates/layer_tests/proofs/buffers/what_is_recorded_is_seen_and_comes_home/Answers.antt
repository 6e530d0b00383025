use Rattle.fs_machine.proofs.Vocabulary.{◌≡◌, Bool, true, false, Option, Some, None, IsSome, refl}
use Rattle.layer_tests.proofs.buffers.what_is_recorded_is_seen_and_comes_home.Goals as goal

none_there : {T : Type 0} (o : Option T) (r : Bool) → (IsSome o → r ≡ true) → r ≡ false → o ≡ None
none_there None r some no_ = refl
none_there (Some x) r some no_ = let yes = some refl in absurd (cc (yes, no_))

pub write_uncached-requires-clause-uncached : goal.write_uncached-requires-clause-uncached
write_uncached-requires-clause-uncached g c = none_there _ c.is_cached.result c.is_cached.ensures.1 c.if-is_cached.false
