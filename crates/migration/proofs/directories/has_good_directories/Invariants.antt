use Rattle.std.proofs.Common.{◌≡◌, ℕ, ◌<◌, ◌≤◌, ◌/◌, true}
use Rattle.migration.specs.Vocabulary.{ComesByCalls, dirent_len_of, inode_of, is_live_directory, most_slots_of}
use Rattle.migration.proofs.directories.has_good_directories.Given as goal

abbrev pub invariant-loop-i : goal.invariant-loop-i
invariant-loop-i g l =
    (g.D.Device.contents l.old ≡ g.D.Device.contents l.fn.old) × (g.D.Device.failures l.old ≡ g.D.Device.failures l.fn.old)
    × ((k : ℕ) → 1 ≤ k → k < l.i
    → is_live_directory (g.D.Device.contents l.fn.old) k ≡ true
    → (inode_of (g.D.Device.contents l.fn.old) k).size / dirent_len_of l.layout.version ≤ most_slots_of l.version)
    × ComesByCalls g.D.Device.Called l.fn.old l.old
