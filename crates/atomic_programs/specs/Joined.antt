-- Two machines as one: the operations of the machine below run. Beside its world there is, for the proof alone, the
-- world of the machine above. That world goes on when an operation is marked to act.
use Rattle.std.specs.Prelude.{ℕ, suc, Option, Some, None, List, []}
use Rattle.atomic_programs.specs.Prog.{Prog, Ret, Do, bind, once, ExecResult, Waits, Ran, Stops}
use Rattle.atomic_programs.specs.Logic.{Machine, P, onto, placed_with, Grown, Wp}

-- the mark below: this operation above acts now, at this answer from outside, with its own mark
pub record Act (Op : Type 0) (Answer : Op → Type 0) (M Outside : Type 0) : Type 0 where
  pub op : Op
  pub outside : Outside
  pub mark : Answer op → Option M

abbrev pub ActOf : Machine → Type 0
ActOf U = Act U.Op U.Answer U.Mark U.Outside

-- The machine below, under a world above of this type. It knows nothing of steps, marks and trees.
pub record LowerLayer (Above : Type 0) : Type 1 where
  pub Op : Type 0
  pub Answer : Op → Type 0
  pub World : Type 0
  pub Outside : Type 0
  pub Honest : ℕ → Op → World → Outside → Type 0
  pub May : ℕ → Op → World → Type 0
  pub exec : ℕ → Outside → (op : Op) → World → ExecResult (Answer op) World
  pub MayWait : ℕ → Op → World → Type 0
  -- its own invariant, and what it says of the world above, between any two events
  pub Shows : World → Above → Type 0
  -- the same once the world has stopped
  pub Halted : World → Above → Type 0
  -- nothing of this hart's changed
  pub Same : ℕ → World → World → Type 0
  -- what the others leave to the hart of the world above
  pub Kept : ℕ → Above → Above → Type 0
  -- what a hart may have in hand between two operations above, for the programs of the next ones to know
  pub Carry : Type 0
  -- nothing, as a call begins
  pub none : Carry
  -- what the hart has below between two operations above, with this in hand
  pub Base : ℕ → World → Above → Carry → Type 0

-- the world of the code, and the one that the proof sees in it
pub record Both (R S : Type 0) : Type 0 where
  pub real : R
  pub seen : S

-- the world to which an operation led, and what it placed
abbrev pub ran_to : {A S : Type 0} → S → ExecResult A S → S
ran_to g Waits = g
ran_to g (Ran b u) = u
ran_to g (Stops u) = g

abbrev pub placed_at : {A S E : Type 0} → (A → List E) → ExecResult A S → List E
placed_at f Waits = []
placed_at f (Ran b u) = f b
placed_at f (Stops u) = []

-- the world above after an act
abbrev pub seen_after : (U : Machine) → ℕ → Option (ActOf U) → U.World → U.World
seen_after U h None g = g
seen_after U h (Some t) g = ran_to g (U.go h t.outside t.op t.mark g)

-- what an act places
abbrev pub act_places : (U : Machine) → ℕ → Option (ActOf U) → U.World → List (ℕ × U.Step)
act_places U h None g = []
act_places U h (Some t) g = placed_at (placed_with U h t.op t.mark g) (U.go h t.outside t.op t.mark g)

abbrev pub both : (U : Machine) → {A R : Type 0} → ℕ → (A → Option (ActOf U)) → U.World → ExecResult A R → ExecResult A (Both R U.World)
both U h m g Waits = Waits
both U h m g (Ran a r) = Ran a (record { real = r; seen = seen_after U h (m a) g })
both U h m g (Stops r) = Stops (record { real = r; seen = g })

-- its steps, and what explains it, are those of the machine above; what it asks, waits for and is answered from outside is
-- of the machine below
abbrev pub joined : (U : Machine) → LowerLayer U.World → Machine
joined U R =
    record {
      Op = R.Op;
      Answer = R.Answer;
      Mark = ActOf U;
      Step = U.Step;
      World = Both R.World U.World;
      Tree = U.Tree;
      more = λ op. 0;
      Outside = R.Outside;
      Honest = λ h op w x. R.Honest h op w.real x;
      May = λ h op w. R.May h op w.real;
      go = λ h x op m w. both U h m w.seen (R.exec h x op w.real);
      places = λ h op a m w. act_places U h m w.seen;
      tree = λ w. U.tree w.seen;
      Takes = U.Takes;
      Inv = λ w. R.Shows w.real w.seen × U.Inv w.seen;
      Halted = λ w. R.Halted w.real w.seen × U.Inv w.seen;
      Others = λ h v xs w. R.Same h v.real w.real × U.Others h v.seen xs w.seen;
      Idle = λ h w. R.Base h w.real w.seen R.none × U.Idle h w.seen;
      MayWait = λ h op w. R.MayWait h op w.real;
      Clean = λ w. U.Clean w.seen;
    }

-- the laws that a machine below shows once
pub record LowerLaws (U : Machine) (R : LowerLayer U.World) : Type 0 where
  pub same : (h : ℕ) (w : R.World) → R.Same h w w
  pub trans : (h : ℕ) (u v w : R.World) → R.Same h u v → R.Same h v w → R.Same h u w
  pub kept : (h : ℕ) (g u : U.World) (xs : List U.Step) → U.Others h g xs u → R.Kept h g u
  pub base : (h : ℕ) (v w : R.World) (g u : U.World) (c : R.Carry) → R.Same h v w → R.Kept h g u → R.Base h v g c → R.Base h w u c
  -- a hart that owns nothing above has nothing in hand
  pub idle : (h : ℕ) (w : R.World) (g : U.World) (c : R.Carry) → U.Inv g → U.Idle h g → R.Base h w g c → R.Base h w g R.none

-- what an operation's program below ends with: the answer above, and what the hart has in hand after it
pub record Handover (A C : Type 0) : Type 0 where
  pub answer : A
  pub carry : C

-- a program that ends with this in hand
abbrev pub holding : {Op : Type 0} {Answer : Op → Type 0} {M A C : Type 0} → C → Prog Op Answer M A → Prog Op Answer M (Handover A C)
holding c p = bind p (λ a. Ret (record { answer = a; carry = c }))

-- each operation above as a program below, for a hart with this in hand
abbrev pub Handlers : (U : Machine) → LowerLayer U.World → Type 0
Handlers U R = R.Carry → (op : U.Op) → (U.Answer op → Option U.Mark) → Prog R.Op R.Answer (ActOf U) (Handover (U.Answer op) R.Carry)

-- each operation's program hands on to the next one's what is in hand
abbrev pub lowered : (U : Machine) (R : LowerLayer U.World) → Handlers U R → {A : Type 0} → R.Carry → P U A → Prog R.Op R.Answer (ActOf U) A
lowered U R handler c (Ret a) = Ret a
lowered U R handler c (Do op m k) = bind (handler c op m) (λ r. lowered U R handler r.carry (k r.answer))

-- C holds above, and the hart has below what it has between two operations, with what the program hands on
abbrev pub Below : (U : Machine) (R : LowerLayer U.World) → {A : Type 0} → ℕ → (A → List U.Step → U.World → Type 0) → Handover A R.Carry
    → List U.Step → Both R.World U.World → Type 0
Below U R h C r es w = C r.answer es w.seen × R.Base h w.real w.seen r.carry

-- the same at the end of a whole program, whatever it leaves in hand, in a world above that holds
abbrev pub AtEnd : (U : Machine) (R : LowerLayer U.World) → {A : Type 0} → ℕ → (A → List U.Step → U.World → Type 0) → A → List U.Step
    → Both R.World U.World → Type 0
AtEnd U R h C a es w = C a es w.seen × U.Inv w.seen × ((c : R.Carry) × R.Base h w.real w.seen c)

-- C lasts while the others step
abbrev pub Lasts : (L : Machine) {A : Type 0} → ℕ → (List L.Step → Type 0) → (A → List L.Step → L.World → Type 0) → Type 0
Lasts L {A} h B C =
    (a : A) (fs xs : List L.Step) (v u : L.World) → L.Others h v xs u → L.Inv u → C a fs v
    → (L.Clean u → Grown B xs fs) × C a (onto xs fs) u

-- An operation's program below acts at one moment: whatever the operation alone is shown to do above, its program does
-- below. Others may step before and after that moment, and it takes as many steps as it counts for. It does so
-- whatever the hart has in hand, and what it hands on is again what Base is of.
abbrev pub Atomic : (U : Machine) (R : LowerLayer U.World) → Handlers U R → ℕ → (op : U.Op) → (U.Answer op → Option U.Mark) → Type 1
Atomic U R handler h op m =
    (c : R.Carry) (B : List U.Step → Type 0) (C : U.Answer op → List U.Step → U.World → Type 0) (es : List U.Step)
    (w : Both R.World U.World)
    → Lasts U h B C → Wp U h B C (once op m) (suc (U.more op)) es w.seen → R.Base h w.real w.seen c
    → Wp (joined U R) h B (Below U R h C) (handler c op m) (suc (U.more op)) es w
