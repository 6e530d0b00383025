-- What a hart's transaction has added to the group, beside what its call's program may spend.
use Rattle.std.specs.Prelude.{◌≡◌, ◌⊎◌, ℕ, ◌+◌, ◌<◌, ◌≤◌, ◌&&◌, List, [], ◌∷◌, true, false, Some, slice_get, slice_set}
use Rattle.inodes_on_blocks.specs.Vocabulary.{Super, one_if, has, HasRoom, IsMember, inode_block, Spent, unspent, size, with_record, with_bitmap, with_contents, most_recorded, LogPart, put_block}
use Rattle.inode_machine.specs.Budget as budget

-- how many of these inodes' records, each by its block, are in the group
abbrev pub recorded_in : Super → List ℕ → List ℕ → ℕ
recorded_in sizes group [] = 0
recorded_in sizes group (n ∷ ns) = one_if (has group (inode_block sizes.inodestart n)) + recorded_in sizes group ns

-- how much of it the group has
abbrev pub used : LogPart → Spent → ℕ
used l s = recorded_in l.sizes l.group s.records + one_if (s.bitmap && has l.group l.sizes.bmapstart) + s.contents

-- the hart's transaction, if it is in one, has added no more
abbrev pub Accounts : ℕ → LogPart → Spent → Type 0
Accounts h l s = (k : ℕ) → slice_get l.members h ≡ Some (Some k) → k ≤ used l s

-- the block is of these inodes' records, or the bitmap's
abbrev pub IsSpent : Super → Spent → ℕ → Type 0
IsSpent sizes s b =
    ((n : ℕ) × (budget.has s.records n ≡ true) × (b ≡ inode_block sizes.inodestart n)) ⊎ ((s.bitmap ≡ true) × (b ≡ sizes.bmapstart))

-- the block may be recorded, and then this has been spent
abbrev pub MaySpend : ℕ → ℕ → List ℕ → LogPart → Spent → Type 0
MaySpend h b bytes l s = (has l.group b ≡ false → HasRoom l.members h) × Accounts h (put_block h b (Some bytes) l) s

-- the others leave of a log to a hart its transaction, and what the group had
pub record LeavesGroup (h : ℕ) (l m : LogPart) : Type 0 where
  pub member : slice_get m.members h ≡ slice_get l.members h
  pub sizes : m.sizes ≡ l.sizes
  pub group : (b : ℕ) → IsMember l.members h → has l.group b ≡ true → has m.group b ≡ true

-- What may be spent begins with nothing at a join, lasts, and may become more. If it is at most ten blocks, each of
-- those that it says may be recorded. If it is less, any other one may.
pub record RoomLaws (h : ℕ) (l : LogPart) : Type 0 where
  pub begins : (group : List ℕ) → Accounts h (record l { members = slice_set l.members h (Some 0); group = group }) unspent
  pub lasts : (m : LogPart) (s : Spent) → LeavesGroup h l m → Accounts h l s → Accounts h m s
  pub record_more : (n : ℕ) (s : Spent) → Accounts h l s → Accounts h l (with_record n s)
  pub bitmap_more : (s : Spent) → Accounts h l s → Accounts h l (with_bitmap s)
  pub contents_more : (k : ℕ) (s : Spent) → Accounts h l s → Accounts h l (with_contents k s)
  pub said : (b : ℕ) (bytes : List ℕ) (s : Spent) → IsMember l.members h → Accounts h l s → size s ≤ most_recorded → IsSpent l.sizes s b
      → MaySpend h b bytes l s
  pub other : (b : ℕ) (bytes : List ℕ) (s : Spent) → IsMember l.members h → Accounts h l s → size s < most_recorded
      → MaySpend h b bytes l (with_contents 1 s)

abbrev pub TransactionsHaveRoom : Type 0
TransactionsHaveRoom = (h : ℕ) (l : LogPart) → RoomLaws h l
