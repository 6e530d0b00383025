-- A second example: a block is taken below by two puts, of the bitmap and of the block, and above in one step.
use Rattle.std.specs.Prelude.{◌≡◌, ◌≢◌, ◌<◌, ℕ, suc, zero, Bool, true, false, if◌then◌else◌, Option, Some, None, []}
use Rattle.atomic_programs.specs.Basics.{Prog, Ret, Do, once, unmarked, ExecResult, Waits, Ran, Machine, Theory, Begins, Core, all_of, operations_of, Act, LowerLayer, Handover, holding, Both, lowered_calls, Part, code_part, Code, put, if_held}

-- above: locks of inodes, and blocks with the inode that has each
pub record Above : Type 0 where
  pub lock : ℕ → Option ℕ
  pub owner : ℕ → Option ℕ
  pub bytes : ℕ → ℕ

pub data Op : Type 0 where
  Hold : ℕ → Op
  Grab : ℕ → Op
  Drop : ℕ → Op

abbrev pub Answer : Op → Type 0
Answer (Hold i) = Unit {0}
Answer (Grab i) = Option ℕ
Answer (Drop i) = Unit {0}

abbrev pub may : ℕ → Op → Above → Type 0
may h (Hold i) w = w.lock i ≢ Some h
may h (Grab i) w = w.lock i ≡ Some h
may h (Drop i) w = w.lock i ≡ Some h

-- above, any free block may be taken; none is if none of the eight is free
abbrev pub Picks : Above → Option ℕ → Type 0
Picks w None = (c : ℕ) → c < 8 → w.owner c ≢ None
Picks w (Some c) = w.owner c ≡ None

abbrev pub honest : ℕ → Op → Above → Option ℕ → Type 0
honest h (Hold i) w x = Unit {0}
honest h (Grab i) w x = Picks w x
honest h (Drop i) w x = Unit {0}

abbrev pub hold_if : ℕ → ℕ → Above → Option ℕ → ExecResult (Unit {0}) Above
hold_if h i w None = Ran tt (record w { lock = put w.lock i (Some h) })
hold_if h i w (Some g) = Waits

abbrev pub grabbed : ℕ → Above → Option ℕ → Above
grabbed i w None = w
grabbed i w (Some c) = record w { owner = put w.owner c (Some i); bytes = put w.bytes c 0 }

abbrev pub exec_above : ℕ → Option ℕ → (op : Op) → Above → ExecResult (Answer op) Above
exec_above h x (Hold i) w = hold_if h i w (w.lock i)
exec_above h x (Grab i) w = Ran x (grabbed i w x)
exec_above h x (Drop i) w = Ran tt (record w { lock = put w.lock i None })

abbrev pub Kept : ℕ → Above → Above → Type 0
Kept h g u = (c i : ℕ) → g.owner c ≡ Some i → g.lock i ≡ Some h → (u.owner c ≡ Some i) × (u.lock i ≡ Some h) × (u.bytes c ≡ g.bytes c)

abbrev pub more : Op → ℕ
more (Hold i) = 0
more (Grab i) = 2
more (Drop i) = 0

abbrev pub machine : Machine
machine =
    record {
      Op = Op;
      Answer = Answer;
      Mark = Unit {0};
      Step = Unit {0};
      World = Above;
      Tree = Unit {0};
      more = more;
      Outside = Option ℕ;
      Honest = honest;
      May = may;
      go = λ h x op m w. exec_above h x op w;
      places = λ h op a m w. [];
      tree = λ w. tt;
      Takes = λ t h e u. ⊥;
      Inv = λ w. Unit {0};
      Halted = λ w. Unit {0};
      Others = λ h v xs w. (xs ≡ []) × ((i : ℕ) → if_held (w.lock i) h i ≡ if_held (v.lock i) h i) × Kept h v w;
      Idle = λ h w. (i : ℕ) → if_held (w.lock i) h i ≡ None;
      MayWait = λ h op w. Unit {0};
      Clean = λ w. Unit {0};
    }

-- a call takes a block for an inode; no history is kept of it
abbrev pub grabs : Theory
grabs =
    record {
      M = machine;
      Call = ℕ;
      Reply = Option ℕ;
      Refusal = Unit {0};
      start = λ h i busy w. Begins w;
      busy = tt;
      program = λ i. Do (Hold i) unmarked (λ _. Do (Grab i) unmarked (λ r. Do (Drop i) unmarked (λ _. Ret r)));
      Written = λ i es r. Unit {0};
      WrittenSoFar = λ i es. Unit {0};
      limit = λ i. 5;
    }

abbrev pub core : Core machine
core = all_of machine exec_above

pub record World : Type 0 where
  pub lock : ℕ → Option ℕ
  -- the bitmap, and who has its buffer
  pub bits : ℕ → Bool
  pub bits_out : Option ℕ
  pub block : ℕ → ℕ
  -- for the proof: which inode has the block
  pub owner : ℕ → Option ℕ

-- a put of the bitmap takes a block for an inode; which inode is for the proof alone
pub data LowOp : Type 0 where
  Lock : ℕ → LowOp
  Unlock : ℕ → LowOp
  GetBits : LowOp
  PutBits : Option (ℕ × ℕ) → LowOp
  Zero : ℕ → LowOp

abbrev pub LowAnswer : LowOp → Type 0
LowAnswer (Lock i) = Unit {0}
LowAnswer (Unlock i) = Unit {0}
LowAnswer GetBits = ℕ → Bool
LowAnswer (PutBits p) = Unit {0}
LowAnswer (Zero c) = Unit {0}

abbrev pub lock_if : ℕ → ℕ → World → Option ℕ → ExecResult (Unit {0}) World
lock_if h i w None = Ran tt (record w { lock = put w.lock i (Some h) })
lock_if h i w (Some g) = Waits

abbrev pub bits_if : ℕ → World → Option ℕ → ExecResult (ℕ → Bool) World
bits_if h w None = Ran w.bits (record w { bits_out = Some h })
bits_if h w (Some g) = Waits

abbrev pub put_bits : World → Option (ℕ × ℕ) → World
put_bits w None = record w { bits_out = None }
put_bits w (Some p) = record w { bits_out = None; bits = put w.bits p.0 true; owner = put w.owner p.0 (Some p.1) }

abbrev pub exec : ℕ → Unit {0} → (op : LowOp) → World → ExecResult (LowAnswer op) World
exec h x (Lock i) w = lock_if h i w (w.lock i)
exec h x (Unlock i) w = Ran tt (record w { lock = put w.lock i None })
exec h x GetBits w = bits_if h w w.bits_out
exec h x (PutBits p) w = Ran tt (put_bits w p)
exec h x (Zero c) w = Ran tt (record w { block = put w.block c 0 })

abbrev pub lock_of : (ℕ → Option ℕ) → Option ℕ → Option ℕ
lock_of lock None = None
lock_of lock (Some i) = lock i

-- the hart in whose hand a block is
abbrev pub holder : World → ℕ → Option ℕ
holder w c = lock_of w.lock (w.owner c)

abbrev pub low_may : ℕ → LowOp → World → Type 0
low_may h (Lock i) w = w.lock i ≢ Some h
low_may h (Unlock i) w = w.lock i ≡ Some h
low_may h GetBits w = w.bits_out ≢ Some h
low_may h (PutBits p) w = w.bits_out ≡ Some h
low_may h (Zero c) w = holder w c ≡ Some h

abbrev pub IsOut : ℕ → Option ℕ → Type 0
IsOut h o = (g : ℕ) × (g ≢ h) × (o ≡ Some g)

abbrev pub waits : ℕ → LowOp → World → Type 0
waits h (Lock i) w = IsOut h (w.lock i)
waits h (Unlock i) w = ⊥
waits h GetBits w = IsOut h w.bits_out
waits h (PutBits p) w = ⊥
waits h (Zero c) w = ⊥

pub record Shows (r : World) (g : Above) : Type 0 where
  pub locks : (i : ℕ) → g.lock i ≡ r.lock i
  pub owners : (c : ℕ) → g.owner c ≡ r.owner c
  pub free : (c : ℕ) → r.bits c ≡ false → r.owner c ≡ None
  pub used : (c : ℕ) → r.bits c ≡ true → r.owner c ≢ None
  pub datas : (c i : ℕ) → r.owner c ≡ Some i → r.lock i ≡ None → g.bytes c ≡ r.block c

pub record Same (h : ℕ) (v w : World) : Type 0 where
  pub locks : (i : ℕ) → if_held (w.lock i) h i ≡ if_held (v.lock i) h i
  pub bits : if_held w.bits_out h w.bits ≡ if_held v.bits_out h v.bits
  pub blocks : (c : ℕ) → if_held {A = Option ℕ × ℕ} (holder w c) h (w.owner c, w.block c)
      ≡ if_held {A = Option ℕ × ℕ} (holder v c) h (v.owner c, v.block c)

-- a block of the hart's is above as below
abbrev pub TiedAt : ℕ → ℕ → World → Above → Type 0
TiedAt h c r g = (i : ℕ) × (r.owner c ≡ Some i) × (g.owner c ≡ Some i) × (g.lock i ≡ Some h) × (g.bytes c ≡ r.block c)

pub record Base (h : ℕ) (r : World) (g : Above) : Type 0 where
  pub free : r.bits_out ≢ Some h
  pub tied : (c : ℕ) → holder r c ≡ Some h → TiedAt h c r g

abbrev pub low : LowerLayer Above
low = record {
  Op = LowOp;
  Answer = LowAnswer;
  World = World;
  Outside = Unit {0};
  Honest = λ h op w x. Unit {0};
  May = low_may;
  exec = exec;
  MayWait = waits;
  Shows = Shows;
  Halted = Shows;
  Same = Same;
  Kept = Kept;
  Carry = Unit {0};
  none = tt;
  Base = λ h r g hand. Base h r g;
}

abbrev pub first : (ℕ → Bool) → ℕ → ℕ → Option ℕ
first z k zero = None
first z k (suc n) = if z k then first z (suc k) n else Some k

abbrev pub P : Type 0 → Type 0
P A = Prog LowOp LowAnswer (Act Op Answer (Unit {0}) (Option ℕ)) A

abbrev pub act : (op : Op) → (Answer op → Option (Unit {0})) → Option ℕ → Option (Act Op Answer (Unit {0}) (Option ℕ))
act op m x = Some (record { op = op; outside = x; mark = m })

-- the put of the bitmap acts, and the block is zeroed after it
abbrev pub grab_at : ℕ → (Option ℕ → Option (Unit {0})) → Option ℕ → P (Option ℕ)
grab_at i m None = Do (PutBits None) (λ _. act (Grab i) m None) (λ _. Ret None)
grab_at i m (Some c) = Do (PutBits (Some (c, i))) (λ _. act (Grab i) m (Some c)) (λ _. Do (Zero c) unmarked (λ _. Ret (Some c)))

-- nothing is handed on: whose a block is, the world tells
abbrev pub handler : Unit {0} → (op : Op) → (Answer op → Option (Unit {0})) → P (Handover (Answer op) (Unit {0}))
handler hand (Hold i) m = holding hand (once (Lock i) (λ _. act (Hold i) m None))
handler hand (Grab i) m = holding hand (Do GetBits unmarked (λ z. grab_at i m (first z 0 8)))
handler hand (Drop i) m = holding hand (once (Unlock i) (λ _. act (Drop i) m None))

-- the calls below, explained by their operations above
abbrev pub grabs_above : Theory
grabs_above = lowered_calls (operations_of grabs core) low handler (λ h i busy r. Begins r)

-- all blocks are free
abbrev pub rest : Both World Above
rest = record {
  real = record { lock = λ i. None; bits = λ c. false; bits_out = None; block = λ c. c; owner = λ c. None };
  seen = record { lock = λ i. None; owner = λ c. None; bytes = λ c. c };
}

-- What the code has of the world below: all but which inode has a block.
pub record SharedState : Type 0 where
  pub lock : ℕ → Option ℕ
  pub bits : ℕ → Bool
  pub bits_out : Option ℕ
  pub block : ℕ → ℕ

abbrev pub shared_of : World → SharedState
shared_of w = record { lock = w.lock; bits = w.bits; bits_out = w.bits_out; block = w.block }

abbrev pub lock_in : ℕ → ℕ → SharedState → Option ℕ → ExecResult (Unit {0}) SharedState
lock_in h i s None = Ran tt (record s { lock = put s.lock i (Some h) })
lock_in h i s (Some g) = Waits

abbrev pub bits_in : ℕ → SharedState → Option ℕ → ExecResult (ℕ → Bool) SharedState
bits_in h s None = Ran s.bits (record s { bits_out = Some h })
bits_in h s (Some g) = Waits

abbrev pub put_in : SharedState → Option (ℕ × ℕ) → SharedState
put_in s None = record s { bits_out = None }
put_in s (Some p) = record s { bits_out = None; bits = put s.bits p.0 true }

abbrev pub exec_code : ℕ → Unit {0} → (op : LowOp) → SharedState → ExecResult (LowAnswer op) SharedState
exec_code h x (Lock i) s = lock_in h i s (s.lock i)
exec_code h x (Unlock i) s = Ran tt (record s { lock = put s.lock i None })
exec_code h x GetBits s = bits_in h s s.bits_out
exec_code h x (PutBits p) s = Ran tt (put_in s p)
exec_code h x (Zero c) s = Ran tt (record s { block = put s.block c 0 })

-- whose a block is, it can't ask
abbrev pub may_code : ℕ → LowOp → SharedState → Type 0
may_code h (Lock i) s = s.lock i ≢ Some h
may_code h (Unlock i) s = s.lock i ≡ Some h
may_code h GetBits s = s.bits_out ≢ Some h
may_code h (PutBits p) s = s.bits_out ≡ Some h
may_code h (Zero c) s = Unit {0}

abbrev pub grabs_part : Part (operations_of grabs core) low
grabs_part = record {
  Shared = SharedState;
  of = shared_of;
  exec = exec_code;
  may = may_code;
  honest = λ h op s x. Unit {0};
  begin = λ h i busy s. Begins s;
}

abbrev pub grabs_code : Code grabs_above
grabs_code = code_part (operations_of grabs core) low handler (λ h i busy r. Begins r) grabs_part LowOp (λ op a. op)
