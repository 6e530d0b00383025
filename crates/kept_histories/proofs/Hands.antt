-- What a call has in hand as its program runs over whole inodes. If a mark depends on what is seen of an inode, the
-- program takes the lock of one that it has counted up.
use Rattle.std.specs.Prelude.{◌≡◌, ◌⊎◌, ◌≤◌, ℕ, ◌+◌, ◌-◌, ◌==◌, Bool, true, false, Option, Some, None}
use Rattle.atomic_programs.specs.Prog.{Ret, Do}
use Rattle.inode_machine.specs.Inodes.{Query, AtNothing, AtName, AtEntries}
use Rattle.inode_machine.specs.Parts.{P}
use Rattle.inode_machine.specs.World.{Op, Answer, Mark, LocksIt}
use Rattle.inode_machine.specs.World.Op.{Take, UnlockInode, UpStart, Up, WalkDown, Store, StatFile, LockFile, LockOpen, Join}

-- how often it has counted up each inode and not down again, and which one it has counted up last
pub record Hands : Type 0 where
  pub has : ℕ → ℕ
  pub last : Option ℕ

abbrev pub one : Bool → ℕ
one true = 1
one false = 0

abbrev pub counted : ℕ → (ℕ → ℕ) → ℕ → ℕ
counted n has k = one (n == k) + has k

abbrev pub uncounted : ℕ → (ℕ → ℕ) → ℕ → ℕ
uncounted n has k = has k - one (n == k)

-- ---- after an operation; None: it isn't followed any more

abbrev pub still : Option Hands → Option Hands
still None = None
still (Some g) = Some (record { has = g.has; last = None })

abbrev pub up : ℕ → Bool → Option Hands → Option Hands
up n b None = None
up n true (Some g) = Some (record { has = counted n g.has; last = Some n })
up n false (Some g) = Some (record { has = g.has; last = None })

abbrev pub started : Option ℕ → Option Hands → Option Hands
started o None = None
started None (Some g) = Some (record { has = g.has; last = None })
started (Some d) (Some g) = Some (record { has = counted d g.has; last = None })

abbrev pub down : ℕ → Option Hands → Option Hands
down n None = None
down n (Some g) = Some (record { has = uncounted n g.has; last = None })

abbrev pub after : (op : Op) → Answer op → Option Hands → Option Hands
after (Take n looking) a g = still g
after (UnlockInode n) a g = still g
after (UpStart absolute) a g = started a g
after (Up n) a g = up n a g
after (WalkDown n) a g = down n g
after (Store n count) a g = still g
after Join a g = still g
after op a g = None

-- ---- what a program takes

abbrev pub IsAlike : {A : Type 0} → (A → Option Mark) → Type 0
IsAlike {A} m = (a b : A) → m a ≡ m b

-- the inode is in hand; one that is looked through for entries has just been counted up
abbrev pub TakesInHand : Option Hands → ℕ → Query → Type 0
TakesInHand None n looking = ⊥
TakesInHand (Some g) n AtNothing = 1 ≤ g.has n
TakesInHand (Some g) n (AtName e) = 1 ≤ g.has n
TakesInHand (Some g) n AtEntries = (1 ≤ g.has n) × (g.last ≡ Some n)

abbrev pub IsFollowed : Option Hands → Type 0
IsFollowed None = ⊥
IsFollowed (Some g) = Unit {0}

-- a walk gives up what is in hand
abbrev pub DropsInHand : Option Hands → ℕ → Type 0
DropsInHand None n = Unit {0}
DropsInHand (Some g) n = 1 ≤ g.has n

abbrev pub AsksSo : Option Hands → (op : Op) → (Answer op → Option Mark) → Type 0
AsksSo g (Take n looking) m = IsAlike m ⊎ TakesInHand g n looking
AsksSo g (StatFile fd) m = IsAlike m
AsksSo g (LockOpen fd n) m = IsAlike m
AsksSo g (LockFile fd) m = IsFollowed g × ((n k offset at : ℕ) → m (LocksIt n offset) ≡ m (LocksIt k at))
AsksSo g (Up n) m = m true ≡ None
AsksSo g (WalkDown n) m = DropsInHand g n
AsksSo g op m = Unit {0}

-- so it is of each operation that the program makes, whatever the ones before it answer
abbrev pub TakesSo : {A : Type 0} → Option Hands → P A → Type 0
TakesSo g (Ret a) = Unit {0}
TakesSo g (Do op m k) = AsksSo g op m × ((a : Answer op) → TakesSo (after op a g) (k a))
