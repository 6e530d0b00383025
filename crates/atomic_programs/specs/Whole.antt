-- The machine above: whole inodes, each under its lock.
use Rattle.std.specs.Prelude.{◌≡◌, ◌≢◌, ℕ, Bool, true, false, nat_eq, if◌then◌else◌, Option, Some, None, suc, List, [], ◌∷◌, length}
use Rattle.atomic_programs.specs.Prog.{ExecResult, Waits, Ran}
use Rattle.atomic_programs.specs.Logic.{Machine}

-- one entry of a table changed
unfoldable pub put : {A : Type 0} → (ℕ → A) → ℕ → A → ℕ → A
put f k v n = if nat_eq n k then v else f n

-- what the hart has, where it is the holder
abbrev pub if_held : {A : Type 0} → Option ℕ → ℕ → A → Option A
if_held None h x = None
if_held (Some g) h x = if nat_eq g h then Some x else None

-- an inode's record
pub record Dinode : Type 0 where
  pub kind : ℕ
  pub size : ℕ

pub record World : Type 0 where
  pub lock : ℕ → Option ℕ
  pub dino : ℕ → Dinode
  pub txn : ℕ → Bool
  -- the parts of each inode's content
  pub node : ℕ → ℕ → ℕ

pub data Op : Type 0 where
  Take : ℕ → Op
  Store : ℕ → Dinode → Op
  Give : ℕ → Op
  Enter : Op
  Exit : Op
  -- a part of inode i; the parts of inode i from k on, one and then the others
  Look : ℕ → ℕ → Op
  Write : ℕ → ℕ → ℕ → List ℕ → Op

-- the parts from k on are these
abbrev pub written : (ℕ → ℕ) → ℕ → List ℕ → ℕ → ℕ
written n k [] = n
written n k (z ∷ zs) = written (put n k z) (suc k) zs

abbrev pub Answer : Op → Type 0
Answer (Take i) = Dinode
Answer (Store i d) = Unit {0}
Answer (Give i) = Unit {0}
Answer Enter = Unit {0}
Answer Exit = Unit {0}
Answer (Look i k) = ℕ
Answer (Write i k z zs) = Unit {0}

abbrev pub May : ℕ → Op → World → Type 0
May h (Take i) w = w.lock i ≢ Some h
May h (Store i d) w = (w.lock i ≡ Some h) × (w.txn h ≡ true)
May h (Give i) w = w.lock i ≡ Some h
May h Enter w = w.txn h ≡ false
May h Exit w = w.txn h ≡ true
May h (Look i k) w = w.lock i ≡ Some h
May h (Write i k z zs) w = (w.lock i ≡ Some h) × (w.txn h ≡ true)

abbrev pub take_if : ℕ → ℕ → World → Option ℕ → ExecResult Dinode World
take_if h i w None = Ran (w.dino i) (record w { lock = put w.lock i (Some h) })
take_if h i w (Some g) = Waits

abbrev pub exec : ℕ → (op : Op) → World → ExecResult (Answer op) World
exec h (Take i) w = take_if h i w (w.lock i)
exec h (Store i d) w = Ran tt (record w { dino = put w.dino i d })
exec h (Give i) w = Ran tt (record w { lock = put w.lock i None })
exec h Enter w = Ran tt (record w { txn = put w.txn h true })
exec h Exit w = Ran tt (record w { txn = put w.txn h false })
exec h (Look i k) w = Ran (w.node i k) w
exec h (Write i k z zs) w = Ran tt (record w { node = put w.node i (written (w.node i) k (z ∷ zs)) })

-- the steps that each operation's program takes, beyond one
abbrev pub more : Op → ℕ
more (Take i) = 3
more (Store i d) = 2
more (Give i) = 0
more Enter = 0
more Exit = 0
more (Look i k) = 0
more (Write i k z zs) = length zs

-- the inode in the hart's hand stays in it, and its content as it is
pub record Kept (h : ℕ) (v w : World) : Type 0 where
  pub node : (i : ℕ) → v.lock i ≡ Some h → (w.lock i ≡ Some h) × (w.node i ≡ v.node i)

-- What a history of the calls adds to the machine. No operation's program knows of it.
pub record Labels : Type 1 where
  pub Mark : Type 0
  pub Step : Type 0
  pub Tree : Type 0
  pub places : ℕ → (op : Op) → Answer op → Option Mark → World → List (ℕ × Step)
  pub tree : World → Tree
  pub Takes : Tree → ℕ → Step → Tree → Type 0
  pub Inv : World → Type 0
  pub Others : ℕ → World → List Step → World → Type 0
  pub Idle : ℕ → World → Type 0
  pub MayWait : ℕ → Op → World → Type 0
  pub Clean : World → Type 0

abbrev pub whole : Labels → Machine
whole l =
    record {
      Op = Op;
      Answer = Answer;
      Mark = l.Mark;
      Step = l.Step;
      World = World;
      Tree = l.Tree;
      more = more;
      Outside = Unit {0};
      Honest = λ h op w x. Unit {0};
      May = May;
      go = λ h x op m w. exec h op w;
      places = l.places;
      tree = l.tree;
      Takes = l.Takes;
      Inv = l.Inv;
      Halted = l.Inv;
      Others = l.Others;
      Idle = l.Idle;
      MayWait = l.MayWait;
      Clean = l.Clean;
    }

-- what the history says of a hart has in it what the operations' programs need
pub record Keeps (l : Labels) : Type 0 where
  pub kept : (h : ℕ) (v w : World) (xs : List l.Step) → l.Others h v xs w → Kept h v w
  -- an idle hart has no inode
  pub idle : (h : ℕ) (w : World) → l.Idle h w → (i : ℕ) → w.lock i ≢ Some h
