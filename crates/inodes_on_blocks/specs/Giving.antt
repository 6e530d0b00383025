-- Blocks recorded between two operations above, and blocks given back: how the hart that is changing their inode goes
-- on.
use Rattle.std.specs.Prelude.{◌≡◌, ◌≢◌, ℕ, true, false, ◌<◌, ◌≤◌, ◌*◌, List, [], ◌∷◌, length, Some, None}
use Rattle.inodes_on_blocks.specs.Vocabulary.{Super, recovered, holder_of, hart_count, IsData, is_marked, Ret, Wp, Both, joined, lock_holder, seen_of, free_block, free_numbers, Spent, size, most_recorded, if_kept, Inv}
use Rattle.inodes_on_blocks.specs.Basics.{NamesOwned, World, log_of, tables_of, disk_of, inode_in, untyped, Shows, KeepsInode, Kept, buffer_in, undertaken, below, whole}
use Rattle.inode_machine.specs.World as above
use Rattle.inodes_on_blocks.specs.Holding.{in_hand}
use Rattle.inodes_on_blocks.specs.Recording.{log_with, owners_with, IsChanging}
use Rattle.inodes_on_blocks.specs.Room.{GivesRoom, HasSpent}

-- the world after hart h put block b with these bytes
abbrev pub world_with : ℕ → ℕ → List ℕ → World → World
world_with h b bytes r = record {
  state = record (r.state) { log = log_with h b bytes r };
  owner = (owners_with h b bytes r).owner;
  left = (owners_with h b bytes r).left;
  taken = (owners_with h b bytes r).taken;
  commits = r.commits;
  new = untyped (log_with h b bytes r) r.new;
}

-- What a hart knows of its transaction says that block b may be recorded; and this it knows when it was.
pub record KeepsRoom (h b : ℕ) (Knows Then : World → Type 0) : Type 0 where
  pub gives : GivesRoom h b Knows
  pub put : (bytes : List ℕ) (r : World) → Knows r → Then (world_with h b bytes r)

-- What changed of a hart's, from v to w, after it gave block b of inode n back. Its other inodes and n's record stay,
-- and n's other blocks.
pub record GaveBlock (h n b : ℕ) (v w : World) : Type 0 where
  pub inodes : (i : ℕ) → i ≢ n → lock_holder i (tables_of v) ≡ Some h → KeepsInode h i v w
  pub lock : lock_holder n (tables_of w) ≡ Some h
  pub no_more : (i : ℕ) → lock_holder i (tables_of w) ≡ Some h → lock_holder i (tables_of v) ≡ Some h
  pub sizes : (log_of w).sizes ≡ (log_of v).sizes
  pub inode : inode_in (log_of w) n ≡ inode_in (log_of v) n
  -- b's bit is clear and it is nobody's; and what is n's beside it
  pub clear : is_marked (disk_of (log_of w)) b ≡ false
  pub free : w.owner b ≡ 0
  pub owned : (c : ℕ) → c ≢ b → IsData (log_of v).sizes c → v.owner c ≡ n → w.owner c ≡ n
  pub content : (c : ℕ) → IsData (log_of v).sizes c → w.owner c ≡ n
      → (v.owner c ≡ n) × (recovered (disk_of (log_of w)) c ≡ recovered (disk_of (log_of v)) c)
  pub named : (numbers : List ℕ) → NamesOwned (disk_of (log_of v)) v.owner n (b ∷ numbers)
      → NamesOwned (disk_of (log_of w)) w.owner n numbers
  pub buffers : (k : ℕ) → k ≢ (log_of v).sizes.bmapstart
      → if_kept (holder_of k (log_of w).seats) h (buffer_in (log_of w) k)
      ≡ if_kept (holder_of k (log_of v).seats) h (buffer_in (log_of v) k)
  pub back : holder_of (log_of v).sizes.bmapstart (log_of w).seats ≡ None
  pub taken : (c : ℕ) → if_kept (w.taken c) h (seen_of (log_of w) c) ≡ if_kept (v.taken c) h (seen_of (log_of v) c)
  pub begun : undertaken h w ≡ undertaken h v

-- How it goes on, from w, with what it knows of v.
pub record Gave (h n b : ℕ) (Stage : above.World → Type 0) (w v : Both World above.World) : Type 0 where
  pub since : GaveBlock h n b w.real v.real
  pub kept : Kept h w.seen v.seen
  pub shows : Shows v.real v.seen
  pub inv : Inv v.seen
  pub stage : Stage v.seen
  pub held : in_hand h v.real ≡ in_hand h w.real

-- ---- many blocks

-- none of these is b
abbrev pub Avoids : ℕ → List ℕ → Type 0
Avoids b [] = Unit {0}
Avoids b (c ∷ cs) = (c ≢ b) × Avoids b cs

-- each of these that isn't 0 is a data block of inode n, and occurs there once
abbrev pub Owns : Super → (ℕ → ℕ) → ℕ → List ℕ → Type 0
Owns sizes owner n [] = Unit {0}
Owns sizes owner n (b ∷ bs) = (b ≢ 0 → IsData sizes b × (owner b ≡ n) × Avoids b bs) × Owns sizes owner n bs

-- All that it had but blocks of inode n: its other inodes, n's record, the blocks that n has still, its buffers but
-- the bitmap's.
pub record GaveBlocks (h n : ℕ) (v w : World) : Type 0 where
  pub inodes : (i : ℕ) → i ≢ n → lock_holder i (tables_of v) ≡ Some h → KeepsInode h i v w
  pub lock : lock_holder n (tables_of w) ≡ Some h
  pub no_more : (i : ℕ) → lock_holder i (tables_of w) ≡ Some h → lock_holder i (tables_of v) ≡ Some h
  pub sizes : (log_of w).sizes ≡ (log_of v).sizes
  pub inode : inode_in (log_of w) n ≡ inode_in (log_of v) n
  pub content : (c : ℕ) → IsData (log_of v).sizes c → w.owner c ≡ n
      → (v.owner c ≡ n) × (recovered (disk_of (log_of w)) c ≡ recovered (disk_of (log_of v)) c)
  pub buffers : (k : ℕ) → k ≢ (log_of v).sizes.bmapstart
      → if_kept (holder_of k (log_of w).seats) h (buffer_in (log_of w) k)
      ≡ if_kept (holder_of k (log_of v).seats) h (buffer_in (log_of v) k)
  pub held : in_hand h w ≡ in_hand h v
  pub taken : (c : ℕ) → if_kept (w.taken c) h (seen_of (log_of w) c) ≡ if_kept (v.taken c) h (seen_of (log_of v) c)
  pub begun : undertaken h w ≡ undertaken h v

-- ---- the laws

-- The program that gives a block of an inode back does so, whatever the other harts do. The hart that runs it must be
-- changing the inode, and what its transaction has spent must have the bitmap. Then the block's bit is clear and the
-- block nobody's, and the hart has all else that it had. No operation acts above.
abbrev pub BlocksAreGivenBack : Type 0
BlocksAreGivenBack =
    (sizes : Super) (h n b : ℕ) (s : Spent) (w : Both World above.World) → h < hart_count → IsChanging h n w.seen → w.seen.keeper n ≡ Some h
    → (w.seen.desks h).lender ≡ None
    → lock_holder n (tables_of w.real) ≡ Some h → IsData sizes b → w.real.owner b ≡ n → in_hand h w.real ≤ 1
    → holder_of sizes.bmapstart (log_of w.real).seats ≢ Some h
    → s.bitmap ≡ true → size s ≤ most_recorded → HasSpent sizes h s w.real
    → Wp (joined (whole sizes.version) (below sizes)) h (λ es. es ≡ [])
    (λ a es x. (es ≡ []) × Gave h n b (IsChanging h n) w x × HasSpent sizes h s x.real)
    (free_block sizes.bmapstart b) 3 [] w

-- So does the program that gives back the blocks with these numbers, which are all that the inode has: then it has
-- none.
abbrev pub NumbersAreGivenBack : Type 0
NumbersAreGivenBack =
    (sizes : Super) (h n : ℕ) (numbers : List ℕ) (s : Spent) (w : Both World above.World) → h < hart_count → IsChanging h n w.seen
    → w.seen.keeper n ≡ Some h → (w.seen.desks h).lender ≡ None
    → lock_holder n (tables_of w.real) ≡ Some h → Owns sizes w.real.owner n numbers
    → NamesOwned (disk_of (log_of w.real)) w.real.owner n numbers → in_hand h w.real ≤ 1
    → holder_of sizes.bmapstart (log_of w.real).seats ≢ Some h
    → s.bitmap ≡ true → size s ≤ most_recorded → HasSpent sizes h s w.real
    → Wp (joined (whole sizes.version) (below sizes)) h (λ es. es ≡ [])
    (λ a es x. (es ≡ []) × IsChanging h n x.seen × Kept h w.seen x.seen × GaveBlocks h n w.real x.real
    × NamesOwned (disk_of (log_of x.real)) x.real.owner n [] × HasSpent sizes h s x.real)
    (free_numbers sizes.bmapstart numbers (Ret (tt {0}))) (3 * length numbers) [] w
