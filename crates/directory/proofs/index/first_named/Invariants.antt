use Rattle.directory.proofs.Lemmas.{◌≡◌, drop, dirent_of, on_disk, first_that, is_named}
use Rattle.directory.proofs.index.first_named.Given as goal

abbrev pub invariant-loop-slot : goal.invariant-loop-slot
invariant-loop-slot l =
    first_that (λ e. is_named l.name (dirent_of l.version (on_disk l.version e.bytes))) l.count l.slots ≡ first_that (λ e. is_named l.name (dirent_of l.version (on_disk l.version e.bytes))) l.count (drop l.slot-index l.slots)
