-- An example of a start that reserves an idle hart for its call: what is in a hart's purse is handed to another hart, below in
-- two steps. The call has no history; it is explained by its operations.
use Rattle.std.specs.Prelude.{◌≡◌, ◌≢◌, ℕ, Bool, true, false, nat_eq, Option, Some, None, []}
use Rattle.atomic_programs.specs.Basics.{Prog, Do, once, unmarked, ExecResult, Ran, Machine, Theory, Began, Refuses, Begins, Core, operations_of, Act, LowerLayer, Handover, holding, Both, lowered_calls, put, if_held}

-- each hart's purse, and the hart for whose call it is reserved
pub record World : Type 0 where
  pub purse : ℕ → ℕ
  pub ward : ℕ → Option ℕ

-- Above: what is in the hart's purse is put into hart j's, and hart j is free again.
pub data Op : Type 0 where
  Give : ℕ → Op
  Free : ℕ → Op

abbrev pub Answer : Op → Type 0
Answer (Give j) = Unit {0}
Answer (Free j) = Unit {0}

-- a purse is changed while its hart is reserved, by a hart that isn't
abbrev pub May : ℕ → Op → World → Type 0
May h (Give j) w = (w.ward j ≡ Some h) × (w.ward h ≡ None)
May h (Free j) w = w.ward j ≡ Some h

abbrev pub given : ℕ → ℕ → (ℕ → ℕ) → ℕ → ℕ
given h j purse = put purse j (purse h)

abbrev pub exec : ℕ → (op : Op) → World → ExecResult (Answer op) World
exec h (Give j) w = Ran tt (record w { purse = given h j w.purse })
exec h (Free j) w = Ran tt (record w { ward = put w.ward j None })

abbrev pub more : Op → ℕ
more (Give j) = 1
more (Free j) = 0

-- The others leave a hart its wards with their purses, and, if nobody has reserved it, its own.
pub record Mine (h : ℕ) (v w : World) : Type 0 where
  pub wards : (j : ℕ) → if_held (w.ward j) h (w.purse j) ≡ if_held (v.ward j) h (v.purse j)
  pub self : v.ward h ≡ None → (w.ward h ≡ None) × (w.purse h ≡ v.purse h)

-- no history is claimed
abbrev pub machine : Machine
machine =
    record {
      Op = Op;
      Answer = Answer;
      Mark = Unit {0};
      Step = Unit {0};
      World = World;
      Tree = Unit {0};
      more = more;
      Outside = Unit {0};
      Honest = λ h op w x. Unit {0};
      May = May;
      go = λ h x op m w. exec h op w;
      places = λ h op a m w. [];
      tree = λ w. tt;
      Takes = λ t h e u. ⊥;
      Inv = λ w. Unit {0};
      Halted = λ w. Unit {0};
      Others = λ h v xs w. (xs ≡ []) × Mine h v w;
      Idle = λ h w. (j : ℕ) → w.ward j ≢ Some h;
      MayWait = λ h op w. ⊥;
      Clean = λ w. ⊥;
    }

pub data Refusal : Type 0 where
  Busy : Refusal
  Reserved : Refusal

abbrev pub unless : {S : Type 0} → Bool → Began Refusal S → Began Refusal S
unless true b = Refuses Busy
unless false b = b

abbrev pub unless_ward : {S : Type 0} → Option ℕ → Began Refusal S → Began Refusal S
unless_ward None b = b
unless_ward (Some g) b = Refuses Reserved

abbrev pub reserved : ℕ → ℕ → World → World
reserved h j w = record w { ward = put w.ward j (Some h) }

-- a hart that is reserved starts nothing, and one that is busy or reserved isn't reserved
abbrev pub start : ℕ → ℕ → (ℕ → Bool) → World → Began Refusal World
start h j busy w = unless_ward (w.ward h) (unless (nat_eq j h) (unless (busy j) (unless_ward (w.ward j) (Begins (reserved h j w)))))

-- a call names the hart that it gives to
abbrev pub gifts : Theory
gifts =
    record {
      M = machine;
      Call = ℕ;
      Reply = Unit {0};
      Refusal = Refusal;
      start = start;
      busy = Busy;
      program = λ j. Do (Give j) unmarked (λ _. once (Free j) unmarked);
      Written = λ j es r. Unit {0};
      WrittenSoFar = λ j es. Unit {0};
      limit = λ j. 3;
    }

-- the purses alone: reserving is left out
abbrev pub core : Core machine
core =
    record {
      World = ℕ → ℕ;
      of = λ w. w.purse;
      May = λ h op p. Unit {0};
      Honest = λ h op p x. Unit {0};
      go = λ h x op p. move h op p;
    }
  where
    move : ℕ → (op : Op) → (ℕ → ℕ) → ExecResult (Answer op) (ℕ → ℕ)
    move h (Give j) p = Ran tt (given h j p)
    move h (Free j) p = Ran tt p

-- Below: a purse is looked into, and then the other one is filled.
pub data LowOp : Type 0 where
  Peek : LowOp
  Fill : ℕ → ℕ → LowOp
  Release : ℕ → LowOp

abbrev pub LowAnswer : LowOp → Type 0
LowAnswer Peek = ℕ
LowAnswer (Fill j x) = Unit {0}
LowAnswer (Release j) = Unit {0}

abbrev pub low_may : ℕ → LowOp → World → Type 0
low_may h Peek w = w.ward h ≡ None
low_may h (Fill j x) w = w.ward j ≡ Some h
low_may h (Release j) w = w.ward j ≡ Some h

abbrev pub low_exec : ℕ → Unit {0} → (op : LowOp) → World → ExecResult (LowAnswer op) World
low_exec h x Peek w = Ran (w.purse h) w
low_exec h x (Fill j y) w = Ran tt (record w { purse = put w.purse j y })
low_exec h x (Release j) w = Ran tt (record w { ward = put w.ward j None })

-- a ward's purse may be out of date until it is free
pub record Shows (r g : World) : Type 0 where
  pub wards : (j : ℕ) → g.ward j ≡ r.ward j
  pub purses : (j : ℕ) → r.ward j ≡ None → g.purse j ≡ r.purse j

-- between two operations above it doesn't
abbrev pub Base : ℕ → World → World → Type 0
Base h r g = (j : ℕ) → r.ward j ≡ Some h → (g.ward j ≡ Some h) × (g.purse j ≡ r.purse j)

abbrev pub low : LowerLayer World
low =
    record {
      Op = LowOp;
      Answer = LowAnswer;
      World = World;
      Outside = Unit {0};
      Honest = λ h op w x. Unit {0};
      May = low_may;
      exec = low_exec;
      MayWait = λ h op w. ⊥;
      Shows = Shows;
      Halted = Shows;
      Same = Mine;
      Kept = Mine;
      Carry = Unit {0};
      none = tt;
      Base = λ h r g hand. Base h r g;
    }

abbrev pub act : (op : Op) → (Answer op → Option (Unit {0})) → Option (Act Op Answer (Unit {0}) (Unit {0}))
act op m = Some (record { op = op; outside = tt; mark = m })

-- the look into the hart's own purse acts: from then on the ward has it above
abbrev pub handler : Unit {0} → (op : Op) → (Answer op → Option (Unit {0}))
    → Prog LowOp LowAnswer (Act Op Answer (Unit {0}) (Unit {0})) (Handover (Answer op) (Unit {0}))
handler hand (Give j) m = holding hand (Do Peek (λ _. act (Give j) m) (λ x. once (Fill j x) unmarked))
handler hand (Free j) m = holding hand (once (Release j) (λ _. act (Free j) m))

-- the gifts below, explained by their operations above
abbrev pub gifts_above : Theory
gifts_above = lowered_calls (operations_of gifts core) low handler start

abbrev pub rest : (ℕ → ℕ) → Both World World
rest purse = record { real = record { purse = purse; ward = λ h. None }; seen = record { purse = purse; ward = λ h. None } }
