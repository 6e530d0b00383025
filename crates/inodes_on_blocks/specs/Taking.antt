-- A block taken between two operations above: how the hart that is changing an inode goes on.
use Rattle.std.specs.Prelude.{◌≡◌, ◌≢◌, ℕ, true, ◌<◌, [], Option, Some, None}
use Rattle.inodes_on_blocks.specs.Vocabulary.{Dinode, Super, recovered, Node, hart_count, IsData, is_marked, Wp, Both, joined, lock_holder, zeros, take_block, Spent, size, with_contents, most_recorded}
use Rattle.inodes_on_blocks.specs.Basics.{HasContent, World, log_of, tables_of, disk_of, inode_in, Shows, Kept, Carry, InHand, Stands, below, whole}
use Rattle.inode_machine.specs.World as above
use Rattle.inodes_on_blocks.specs.Holding.{in_hand}
use Rattle.inodes_on_blocks.specs.Recording.{IsChanging}
use Rattle.inodes_on_blocks.specs.Room.{HasSpent}

-- a data block of zeros that the hart has taken: its bit is set, and it is no inode's
pub record HasTaken (sizes : Super) (h b : ℕ) (r : World) : Type 0 where
  pub block : IsData sizes b
  pub taken : r.taken b ≡ Some h
  pub marked : is_marked (disk_of (log_of r)) b ≡ true
  pub unowned : r.owner b ≡ 0
  pub zeros_are : recovered (disk_of (log_of r)) b ≡ zeros

-- How it goes on, from w, at v. It is changing inode n still, whose record d names what it named, with the same
-- content. It has its other inodes, and no buffer.
pub record ChangesStill (h n : ℕ) (c : Carry) (d : Dinode) (x : Node) (w v : Both World above.World) : Type 0 where
  pub changing : IsChanging h n v.seen
  pub kept : Kept h w.seen v.seen
  pub shows : Shows v.real v.seen
  pub content : HasContent (disk_of (log_of v.real)) d x.kind
  pub inodes : (i : ℕ) → i ≢ n → lock_holder i (tables_of v.real) ≡ Some h → InHand h i (c i) v.real v.seen
  pub free : in_hand h v.real ≡ 0

-- what was taken, and spent
abbrev pub TookOne : Super → ℕ → Spent → Option ℕ → World → Type 0
TookOne sizes h s None r = HasSpent sizes h s r
TookOne sizes h s (Some b) r = HasTaken sizes h b r × HasSpent sizes h (with_contents 1 s) r

-- The program that takes a block does so for an inode that the hart is changing, whatever the other harts do. Or no
-- block is free. What its transaction has spent must have the bitmap and be less than ten blocks. No operation acts
-- above.
abbrev pub BlocksAreTaken : Type 0
BlocksAreTaken =
    (sizes : Super) (h n : ℕ) (c : Carry) (x : Node) (s : Spent) (w : Both World above.World) → h < hart_count → IsChanging h n w.seen
    → (w.seen.desks h).lender ≡ None
    → Stands sizes h w.real w.seen c → lock_holder n (tables_of w.real) ≡ Some h → w.seen.disk n ≡ Some x → s.bitmap ≡ true
    → size s < most_recorded → HasSpent sizes h s w.real
    → Wp (joined (whole sizes.version) (below sizes)) h (λ es. es ≡ [])
    (λ a es v. (es ≡ []) × ChangesStill h n c (inode_in (log_of w.real) n) x w v × TookOne sizes h s a v.real)
    (take_block sizes.bmapstart sizes.size) 6 [] w
