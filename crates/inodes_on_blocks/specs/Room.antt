-- That a hart may record a block, if its transaction has room for it.
use Rattle.std.specs.Prelude.{◌≡◌, ℕ, suc, ◌<◌, ◌≤◌, true, false, [], Option}
use Rattle.inodes_on_blocks.specs.Vocabulary.{Super, has, HasRoom, hart_count, Wp, once, Both, joined, Below, Spent, size, spent_after, most_recorded, more}
use Rattle.inode_machine.specs.World as above
use Rattle.inodes_on_blocks.specs.Basics.{Accounts, World, log_of, is_joined, Same, Carry, Stands, below, Handler, whole, IsDone, Answers}
use Rattle.inodes_on_blocks.specs.Holding.{SameBut}

-- What a hart knows of its transaction lasts while the others step and while it takes buffers, and says that block b
-- may be recorded.
pub record GivesRoom (h b : ℕ) (Knows : World → Type 0) : Type 0 where
  pub lasts : (v w : World) → Same h v w → Knows v → Knows w
  pub fetched : (k : ℕ) (v w : World) → SameBut h k v w → Knows v → Knows w
  pub room : (v : World) → Knows v → is_joined (log_of v).members h ≡ true → has (log_of v).group b ≡ false → HasRoom (log_of v).members h

-- its transaction has added no more to the group than this, on a disk of these sizes
abbrev pub HasSpent : Super → ℕ → Spent → World → Type 0
HasSpent sizes h s w = ((log_of w).sizes ≡ sizes) × Accounts h (log_of w) s

-- An operation's program below does it, as DoesItAt says, if two things hold. The hart's transaction has spent no
-- more than s, and s with what the operation spends is no more than a transaction may.
abbrev pub DoesItSpending : Super → (op : above.Op) → Handler op → Type 0
DoesItSpending sizes op p =
    (h : ℕ) (s : Spent) (m : above.Answer op → Option above.Mark) (c : Carry) (w : Both World above.World) → h < hart_count
    → size (spent_after op s) ≤ most_recorded
    → Wp (whole sizes.version) h (IsDone op) (Answers op) (once op m) (suc (more op)) [] w.seen → Stands sizes h w.real w.seen c
    → Accounts h (log_of w.real) s
    → Wp (joined (whole sizes.version) (below sizes)) h (IsDone op)
    (Below (whole sizes.version) (below sizes) h (Answers op)) (p c m) (suc (more op)) [] w
