-- A call over whole inodes with its history: a record is swapped for another one.
use Rattle.std.specs.Prelude.{◌≡◌, ◌≢◌, ℕ, Bool, false, Option, Some, None, List, [], ◌∷◌}
use Rattle.atomic_programs.specs.Basics.{Prog, Ret, Do, unmarked, Theory, lowered_calls, code_below, Code, operations_of, put, if_held, Dinode, World, Op, Take, Store, Give, Enter, Exit, Look, Write, Answer, Labels, whole, Machine, P, Both, joined, lowered}
use Rattle.atomic_programs.specs.Blocks as low
use Rattle.atomic_programs.specs.Blocks.{IsOut}
use Rattle.atomic_programs.specs.OfWhole.{Calls, theory, begins_at_once, core}

pub data Step : Type 0 where
  Swapped : ℕ → Dinode → Dinode → Step

abbrev pub Happens : (ℕ → Dinode) → ℕ → Step → (ℕ → Dinode) → Type 0
Happens t h (Swapped i n o) u = (t i ≡ o) × (u ≡ put t i n)

abbrev pub placed : ℕ → Option Step → List (ℕ × Step)
placed h None = []
placed h (Some e) = (h, e) ∷ []

-- what the others leave a hart: the inodes in its hand, and whether it is in a transaction
pub record Mine (h : ℕ) (v w : World) : Type 0 where
  pub inodes : (i : ℕ) → if_held {A = Dinode × (ℕ → ℕ)} (w.lock i) h (w.dino i, w.node i)
      ≡ if_held {A = Dinode × (ℕ → ℕ)} (v.lock i) h (v.dino i, v.node i)
  pub txn : w.txn h ≡ v.txn h

abbrev pub MayWait : ℕ → Op → World → Type 0
MayWait h (Take i) w = IsOut h (w.lock i)
MayWait h (Store i d) w = ⊥
MayWait h (Give i) w = ⊥
MayWait h Enter w = ⊥
MayWait h Exit w = ⊥
MayWait h (Look i k) w = ⊥
MayWait h (Write i k z zs) w = ⊥

-- the hart has no inode
pub record HasNothing (h : ℕ) (t : Bool) (w : World) : Type 0 where
  pub none : (i : ℕ) → w.lock i ≢ Some h
  pub txn : w.txn h ≡ t

-- the call: this inode's record becomes that one, and the old one is answered
pub record Swap : Type 0 where
  pub inode : ℕ
  pub to : Dinode

abbrev pub program : Swap → Prog Op Answer Step Dinode
program c = Do Enter unmarked
    (λ _. Do (Take c.inode) unmarked
    (λ o. Do (Store c.inode c.to) (λ _. Some (Swapped c.inode c.to o))
    (λ _. Do (Give c.inode) unmarked (λ _. Do Exit unmarked (λ _. Ret o)))))

abbrev pub labels : Labels
labels =
    record {
      Mark = Step;
      Step = Step;
      Tree = ℕ → Dinode;
      places = λ h op a m w. placed h m;
      tree = λ w. w.dino;
      Takes = Happens;
      Inv = λ w. Unit {0};
      Others = λ h v xs w. (xs ≡ []) × Mine h v w;
      Idle = λ h w. HasNothing h false w;
      MayWait = MayWait;
      Clean = λ w. Unit {0};
    }

abbrev pub calls : Calls labels
calls =
    record {
      Call = Swap;
      Reply = Dinode;
      Refusal = Unit {0};
      busy = tt;
      no_hart = tt;
      program = program;
      Written = λ c es o. es ≡ Swapped c.inode c.to o ∷ [];
      limit = λ c. 10;
    }

-- the swaps on blocks, with their own history, and with the operations on whole inodes
abbrev pub swaps : Theory
swaps = lowered_calls (theory labels calls) low.blocks (low.handler Step) (begins_at_once labels calls)

abbrev pub swaps_above : Theory
swaps_above = lowered_calls (operations_of (theory labels calls) (core labels)) low.blocks (low.handler Step) (begins_at_once labels calls)

-- An inode is taken and given back, by a hart with nothing in hand.
abbrev pub blocks_below : Machine
blocks_below = joined (whole labels) low.blocks

abbrev pub look : ℕ → P blocks_below Dinode
look i =
    lowered (whole labels) low.blocks (low.handler Step) low.blocks.none (Do (Take i) unmarked (λ o. Do (Give i) unmarked (λ _. Ret o)))

-- what the code has of both: the blocks
abbrev pub code : Code swaps
code = code_below (theory labels calls) low.blocks (low.handler Step) (begins_at_once labels calls) low.Op (λ op a. op)

abbrev pub code_above : Code swaps_above
code_above = code_below (operations_of (theory labels calls) (core labels)) low.blocks (low.handler Step)
    (begins_at_once labels calls) low.Op (λ op a. op)

-- a world at rest: no inode is loaded, and no block is valid
abbrev pub real : low.World
real = record {
  lock = λ i. None;
  mem = λ i. None;
  out = λ b. None;
  valid = λ b. false;
  cell = λ b k. record { kind = b; size = k };
  txn = λ h. false;
  part = λ i k. 0;
}

abbrev pub rest : Both low.World World
rest = record { real = real; seen = record { lock = λ i. None; dino = λ i. low.at real.cell i; txn = λ h. false; node = λ i k. 0 } }
