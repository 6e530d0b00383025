-- A world in which nobody is in a transaction.
use Rattle.std.specs.Prelude.{◌≡◌, ℕ, ◌<◌, List, length, false}
use Rattle.inodes_on_blocks.specs.Vocabulary.{IsNamedPart, tree_of, settle, hart_count, IsWellFormed, tree_in, seen_of, Idle, Inv}
use Rattle.inodes_on_blocks.specs.Basics.{IsImageOf, IsRecoveredSo, World, log_of, disk_of, Shows}
use Rattle.inode_machine.specs.World as above

-- no hart is in a transaction
abbrev pub IsQuiet : above.World → Type 0
IsQuiet w = (h : ℕ) → h < hart_count → (w.desks h).joined ≡ false

-- Then the seen blocks are a well-formed image of the tree before it settles, whose live part it holds. So is each
-- disk that recovery would leave so. What has names in it has them in the tree as it settles too. A commit that is
-- under way is in no one's transaction: nothing that is seen changes by it.
abbrev pub QuietWorldsAreImages : Type 0
QuietWorldsAreImages =
    (r : World) (w : above.World) → Shows r w → Inv w → IsQuiet w
    → IsImageOf (disk_of (log_of r)) w.disk w.all
    × ((disk : List (List ℕ)) → length disk ≡ length (log_of r).contents → IsRecoveredSo (log_of r).sizes (seen_of (log_of r)) disk
    → IsWellFormed disk × (tree_in disk ≡ tree_in (disk_of (log_of r))))
    × IsNamedPart (settle w.all) (tree_of (tree_in (disk_of (log_of r))))

-- So whenever every hart rests.
abbrev pub RestingWorldsAreImages : Type 0
RestingWorldsAreImages =
    (r : World) (w : above.World) → Shows r w → Inv w → ((h : ℕ) → Idle h w)
    → IsImageOf (disk_of (log_of r)) w.disk w.all
    × ((disk : List (List ℕ)) → length disk ≡ length (log_of r).contents → IsRecoveredSo (log_of r).sizes (seen_of (log_of r)) disk
    → IsWellFormed disk × (tree_in disk ≡ tree_in (disk_of (log_of r))))
    × IsNamedPart (settle w.all) (tree_of (tree_in (disk_of (log_of r))))
