-- The laws of the disk as it is seen.
use Rattle.std.specs.Prelude.{◌≡◌, ℕ, List, length}
use Rattle.inodes_on_blocks.specs.Vocabulary.{Super, IsWellFormed, tree_in}
use Rattle.inodes_on_blocks.specs.Basics.{IsPut, seen_blocks, AreSeen, IsGoodSeen, AreSeenAlike, IsSeenPut, IsRecoveredSo}

abbrev pub SeenDisksAreGood : Type 0
SeenDisksAreGood = (sizes : Super) (see : ℕ → List ℕ) (n : ℕ) → AreSeen sizes see n → IsGoodSeen sizes see n

-- A change of one block as it is seen is a put of the seen disk.
abbrev pub SeenPutsArePuts : Type 0
SeenPutsArePuts =
    (sizes : Super) (see now : ℕ → List ℕ) (n b : ℕ) → AreSeen sizes see n → IsSeenPut sizes see now b
    → AreSeen sizes now n × IsPut (seen_blocks sizes see n) (seen_blocks sizes now n) b

-- What changes nothing that is seen outside the log leaves the seen disk: a read, a buffer given back, a step of a
-- commit.
abbrev pub SeenDisksStay : Type 0
SeenDisksStay =
    (sizes : Super) (see now : ℕ → List ℕ) (n : ℕ) → AreSeen sizes see n → AreSeenAlike sizes see now n
    → AreSeen sizes now n × (seen_blocks sizes now n ≡ seen_blocks sizes see n)

-- A disk that recovery would leave as it is seen is a well-formed image just if the seen disk is one. Both are images
-- of the same tree then.
abbrev pub RecoveredDisksAreImages : Type 0
RecoveredDisksAreImages =
    (sizes : Super) (see : ℕ → List ℕ) (disk : List (List ℕ)) → AreSeen sizes see (length disk) → IsRecoveredSo sizes see disk
    → (IsWellFormed (seen_blocks sizes see (length disk))
    → IsWellFormed disk × (tree_in disk ≡ tree_in (seen_blocks sizes see (length disk))))
    × (IsWellFormed disk → IsWellFormed (seen_blocks sizes see (length disk))
    × (tree_in (seen_blocks sizes see (length disk)) ≡ tree_in disk))
