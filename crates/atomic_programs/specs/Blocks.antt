-- The machine below: locks of inodes, records in memory, and buffers of blocks that hold 16 records each. An inode is unlocked
-- with its record, which the program of the operation that took or stored it hands on.
use Rattle.std.specs.Prelude.{◌≡◌, ◌≢◌, ◌<◌, ◌/◌, ◌%◌, ℕ, Bool, true, false, Option, Some, None, suc, List, [], ◌∷◌}
use Rattle.atomic_programs.specs.Basics.{Prog, Ret, Do, bind, once, unmarked, ExecResult, Waits, Ran, Stops, Act, LowerLayer, Handover, holding, put, if_held, Dinode}
use Rattle.atomic_programs.specs.Whole as above

-- no other hart starts a call
abbrev pub hart_count : ℕ
hart_count = 8

abbrev pub Block : Type 0
Block = ℕ → Dinode

pub record World : Type 0 where
  pub lock : ℕ → Option ℕ
  -- the record in memory, if it has been loaded
  pub mem : ℕ → Option Dinode
  -- who has the buffer of a block
  pub out : ℕ → Option ℕ
  pub valid : ℕ → Bool
  -- what the block shows to who gets it
  pub cell : ℕ → Block
  pub txn : ℕ → Bool
  -- the blocks of each inode's content, which its lock protects
  pub part : ℕ → ℕ → ℕ

pub data Op : Type 0 where
  Lock : ℕ → Op
  Unlock : ℕ → Dinode → Op
  Get : ℕ → Op
  Read : ℕ → Op
  Put : ℕ → Option Block → Op
  Join : Op
  Leave : Op
  PutPart : ℕ → ℕ → ℕ → Op
  GetPart : ℕ → ℕ → Op

abbrev pub Answer : Op → Type 0
Answer (Lock i) = Option Dinode
Answer (Unlock i d) = Unit {0}
Answer (Get b) = Option Block
Answer (Read b) = Block
Answer (Put b z) = Unit {0}
Answer Join = Unit {0}
Answer Leave = Unit {0}
Answer (PutPart i k z) = Unit {0}
Answer (GetPart i k) = ℕ

pub data Outside : Type 0 where
  Passes : Outside
  Fails : Outside

abbrev pub lock_if : ℕ → ℕ → World → Option ℕ → ExecResult (Option Dinode) World
lock_if h i w None = Ran (w.mem i) (record w { lock = put w.lock i (Some h) })
lock_if h i w (Some g) = Waits

abbrev pub bytes_if : Bool → Block → Option Block
bytes_if true z = Some z
bytes_if false z = None

abbrev pub get_if : ℕ → ℕ → World → Option ℕ → ExecResult (Option Block) World
get_if h b w None = Ran (bytes_if (w.valid b) (w.cell b)) (record w { out = put w.out b (Some h) })
get_if h b w (Some g) = Waits

abbrev pub read_if : ℕ → World → Outside → ExecResult Block World
read_if b w Passes = Ran (w.cell b) (record w { valid = put w.valid b true })
read_if b w Fails = Stops w

abbrev pub put_if : ℕ → World → Option Block → World
put_if b w None = record w { out = put w.out b None }
put_if b w (Some z) = record w { out = put w.out b None; cell = put w.cell b z }

abbrev pub exec : ℕ → Outside → (op : Op) → World → ExecResult (Answer op) World
exec h x (Lock i) w = lock_if h i w (w.lock i)
exec h x (Unlock i d) w = Ran tt (record w { lock = put w.lock i None; mem = put w.mem i (Some d) })
exec h x (Get b) w = get_if h b w (w.out b)
exec h x (Read b) w = read_if b w x
exec h x (Put b z) w = Ran tt (put_if b w z)
exec h x Join w = Ran tt (record w { txn = put w.txn h true })
exec h x Leave w = Ran tt (record w { txn = put w.txn h false })
exec h x (PutPart i k z) w = Ran tt (record w { part = put w.part i (put (w.part i) k z) })
exec h x (GetPart i k) w = Ran (w.part i k) w

-- a hart changes a block that it has read, and in a transaction
abbrev pub MayPut : ℕ → ℕ → Option Block → World → Type 0
MayPut h b None w = w.out b ≡ Some h
MayPut h b (Some z) w = (w.out b ≡ Some h) × (w.valid b ≡ true) × (w.txn h ≡ true)

abbrev pub May : ℕ → Op → World → Type 0
May h (Lock i) w = (w.lock i ≢ Some h) × (h < hart_count)
May h (Unlock i d) w = w.lock i ≡ Some h
May h (Get b) w = w.out b ≢ Some h
May h (Read b) w = w.out b ≡ Some h
May h (Put b z) w = MayPut h b z w
May h Join w = w.txn h ≡ false
May h Leave w = w.txn h ≡ true
May h (PutPart i k z) w = (w.lock i ≡ Some h) × (w.txn h ≡ true)
May h (GetPart i k) w = w.lock i ≡ Some h

-- out in another hart's hand
abbrev pub IsOut : ℕ → Option ℕ → Type 0
IsOut h o = (g : ℕ) × (g ≢ h) × (o ≡ Some g)

abbrev pub MayWait : ℕ → Op → World → Type 0
MayWait h (Lock i) w = IsOut h (w.lock i)
MayWait h (Unlock i d) w = ⊥
MayWait h (Get b) w = IsOut h (w.out b)
MayWait h (Read b) w = ⊥
MayWait h (Put b z) w = ⊥
MayWait h Join w = ⊥
MayWait h Leave w = ⊥
MayWait h (PutPart i k z) w = ⊥
MayWait h (GetPart i k) w = ⊥

-- an inode's record in its block
abbrev pub at : (ℕ → Block) → ℕ → Dinode
at cell i = cell (i / 16) (i % 16)

-- what the world below says of the one above
pub record Shows (r : World) (g : above.World) : Type 0 where
  pub locks : (i : ℕ) → g.lock i ≡ r.lock i
  pub dinos : (i : ℕ) → g.dino i ≡ at r.cell i
  pub txns : (h : ℕ) → g.txn h ≡ r.txn h
  -- what is in memory and in nobody's hand is as in the block
  pub loaded : (i : ℕ) (d : Dinode) → r.lock i ≡ None → r.mem i ≡ Some d → d ≡ at r.cell i
  -- the content of an inode that nobody has
  pub parts : (i : ℕ) → r.lock i ≡ None → g.node i ≡ r.part i

-- nothing of the hart's changed: what its locks and its buffers protect, and whether it is in a transaction
pub record Same (h : ℕ) (v w : World) : Type 0 where
  pub inodes : (i : ℕ) → if_held (w.lock i) h (at w.cell i) ≡ if_held (v.lock i) h (at v.cell i)
  pub buffers : (b : ℕ) → if_held {A = Block × Bool} (w.out b) h (w.cell b, w.valid b)
      ≡ if_held {A = Block × Bool} (v.out b) h (v.cell b, v.valid b)
  pub txn : w.txn h ≡ v.txn h
  pub parts : (i : ℕ) → if_held (w.lock i) h (w.part i) ≡ if_held (v.lock i) h (v.part i)

-- between two operations above the content of the hart's inodes is as above
abbrev pub IsTied : ℕ → World → above.World → Type 0
IsTied h r g = (i : ℕ) → r.lock i ≡ Some h → (g.lock i ≡ Some h) × (g.node i ≡ r.part i)

-- what a hart has in hand: the record of each inode of its own
abbrev pub Carry : Type 0
Carry = ℕ → Option Dinode

abbrev pub InHand : ℕ → World → Carry → Type 0
InHand h r hand = (i : ℕ) → r.lock i ≡ Some h → hand i ≡ Some (at r.cell i)

-- Between two operations above the hart has no buffer. Of inodes that aren't its own, nothing is said of what is in hand.
pub record Base (h : ℕ) (r : World) (g : above.World) (hand : Carry) : Type 0 where
  pub free : (b : ℕ) → r.out b ≢ Some h
  pub tied : IsTied h r g
  pub in_hand : InHand h r hand

abbrev pub blocks : LowerLayer above.World
blocks =
    record {
      Op = Op;
      Answer = Answer;
      World = World;
      Outside = Outside;
      Honest = λ h op w x. Unit {0};
      May = May;
      exec = exec;
      MayWait = MayWait;
      Shows = Shows;
      Halted = Shows;
      Same = Same;
      Kept = above.Kept;
      Carry = Carry;
      none = λ i. None;
      Base = Base;
    }

-- Each operation above as a program, with marks of a type M.
module _ (M : Type 0) where
  abbrev pub Acts : Type 0
  Acts = Act above.Op above.Answer M (Unit {0})

  abbrev pub P : Type 0 → Type 0
  P A = Prog Op Answer Acts A

  -- this operation acts at the step so marked
  abbrev pub act : (op : above.Op) → (above.Answer op → Option M) → Option Acts
  act op m = Some (record { op = op; outside = tt; mark = m })

  abbrev pub read_or : ℕ → Option Block → P Block
  read_or b (Some z) = Ret z
  read_or b None = once (Read b) unmarked

  abbrev pub fetch : ℕ → P Block
  fetch b = Do (Get b) unmarked (read_or b)

  abbrev pub look_back : ℕ → Block → P Dinode
  look_back i z = Do (Put (i / 16) None) unmarked (λ _. Ret (z (i % 16)))

  abbrev pub load_or : ℕ → Option Dinode → P Dinode
  load_or i (Some d) = Ret d
  load_or i None = bind (fetch (i / 16)) (look_back i)

  -- the last one acts
  abbrev pub write_parts : ℕ → Option Acts → ℕ → ℕ → List ℕ → P (Unit {0})
  write_parts i t k z [] = once (PutPart i k z) (λ _. t)
  write_parts i t k z (y ∷ ys) = Do (PutPart i k z) unmarked (λ _. write_parts i t (suc k) y ys)

  -- this record is in hand from here on
  abbrev pub with_record : Carry → ℕ → Dinode → Handover Dinode Carry
  with_record hand i d = record { answer = d; carry = put hand i (Some d) }

  -- the record in hand; if there is none, the hart hasn't the inode
  abbrev pub record_of : Option Dinode → Dinode
  record_of (Some d) = d
  record_of None = record { kind = 0; size = 0 }

  abbrev pub handler : Carry → (op : above.Op) → (above.Answer op → Option M) → P (Handover (above.Answer op) Carry)
  handler hand (above.Take i) m = Do (Lock i) (λ _. act (above.Take i) m) (λ r. bind (load_or i r) (λ d. Ret (with_record hand i d)))
  handler hand (above.Store i d) m = bind (fetch (i / 16))
      (λ z. holding (put hand i (Some d)) (once (Put (i / 16) (Some (put z (i % 16) d))) (λ _. act (above.Store i d) m)))
  handler hand (above.Give i) m = holding (put hand i None) (once (Unlock i (record_of (hand i))) (λ _. act (above.Give i) m))
  handler hand above.Enter m = holding hand (once Join (λ _. act above.Enter m))
  handler hand above.Exit m = holding hand (once Leave (λ _. act above.Exit m))
  handler hand (above.Look i k) m = holding hand (once (GetPart i k) (λ _. act (above.Look i k) m))
  handler hand (above.Write i k z zs) m = holding hand (write_parts i (act (above.Write i k z zs) m) k z zs)
