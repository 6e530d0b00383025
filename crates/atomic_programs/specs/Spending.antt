-- Programs with a budget: what their operations spend, and a layer below that keeps account of it.
use Rattle.std.specs.Prelude.{◌≡◌, ℕ, suc, List, Option}
use Rattle.atomic_programs.specs.Basics.{Ret, Do, Ran, once, Machine, P, Wp, LowerLayer, Both, joined, Handlers, Below, Lasts}

-- how much has been spent after an operation, and how much may be
pub record Budget (U : Machine) : Type 1 where
  pub Spent : Type 0
  pub after : U.Op → Spent → Spent
  pub Allowed : Spent → Type 0

-- If so much was spent before, the program spends no more than it may, whatever its operations answer.
abbrev pub Affords : (U : Machine) (b : Budget U) → {A : Type 0} → b.Spent → P U A → Type 0
Affords U b s (Ret a) = Unit {0}
Affords U b s (Do op m k) = b.Allowed (b.after op s) × ((a : U.Answer op) → Affords U b (b.after op s) (k a))

-- An operation's program below acts at one moment, as Atomic says, if the operation may be paid for; and then no more
-- is spent. Has: the hart has spent no more than this below.
abbrev pub AtomicWithin : (U : Machine) (R : LowerLayer U.World) → Handlers U R → (b : Budget U) → (R.World → b.Spent → Type 0) → ℕ
    → (op : U.Op) → (U.Answer op → Option U.Mark) → Type 1
AtomicWithin U R handler b Has h op m =
    (c : R.Carry) (s : b.Spent) (B : List U.Step → Type 0) (C : U.Answer op → List U.Step → U.World → Type 0) (es : List U.Step)
    (w : Both R.World U.World)
    → Lasts U h B C → Wp U h B C (once op m) (suc (U.more op)) es w.seen → R.Base h w.real w.seen c → b.Allowed (b.after op s)
    → Has w.real s
    → Wp (joined U R) h B (λ r fs u. Below U R h C r fs u × Has u.real (b.after op s)) (handler c op m) (suc (U.more op)) es w

-- ---- what the hart's own steps make of something that it has

module _ (L : Machine) (h : ℕ) {S : Type 0} (Has : L.World → S → Type 0) where
  -- a step with this answer, from s to r
  abbrev pub Leads : (op : L.Op) → (L.Answer op → Option L.Mark) → L.Answer op → S → S → Type 0
  Leads op m a s r =
      (x : L.Outside) (v w : L.World) → L.Inv v → L.May h op v → L.Honest h op v x → L.go h x op m v ≡ Ran a w → Has v s → Has w r

  -- all of the program's, whatever they answer
  abbrev pub Tracks : {A : Type 0} → S → P L A → S → Type 0
  Tracks s (Ret a) t = (w : L.World) → Has w s → Has w t
  Tracks s (Do op m k) t = (a : L.Answer op) → (r : S) × Leads op m a s r × Tracks r (k a) t
