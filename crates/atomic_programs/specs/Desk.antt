-- An example: requests that another hart serves, tokens that are handed to an idle hart, and a call after which nothing is
-- claimed of the list of steps any more.
use Rattle.std.specs.Prelude.{◌≡◌, ◌⊎◌, ℕ, Bool, true, false, nat_eq, Option, Some, None, List, [], ◌∷◌}
use Rattle.atomic_programs.specs.Basics.{Prog, Ret, Do, unmarked, ExecResult, Waits, Ran, Machine, Theory, Began, Refuses, Begins, BeginsWhole, changed}

-- a hart's place at the desk: a number that it asks to be put in, or the old one, once another hart has done so
pub data Slot : Type 0 where
  Empty : Slot
  Asked : ℕ → Slot
  Served : ℕ → Slot

-- the sequential object
pub record Book : Type 0 where
  pub number : ℕ
  pub tokens : ℕ → ℕ

pub record World : Type 0 where
  pub book : Book
  pub slots : ℕ → Slot
  -- for whom a hart is reserved
  pub lent : ℕ → Option ℕ
  -- nothing was wiped yet
  pub clean : Bool

pub data Op : Type 0 where
  Ask : ℕ → Op
  Serve : ℕ → Op
  Collect : Op
  Hand : ℕ → Op
  Free : ℕ → Op
  Wipe : Op

abbrev pub Answer : Op → Type 0
Answer (Ask n) = Unit {0}
Answer (Serve j) = Bool
Answer Collect = ℕ
Answer (Hand j) = Unit {0}
Answer (Free j) = Unit {0}
Answer Wipe = Unit {0}

pub data Step : Type 0 where
  Swapped : ℕ → ℕ → Step
  Gave : ℕ → ℕ → Step

abbrev pub Happens : Book → ℕ → Step → Book → Type 0
Happens t h (Swapped n old) u = (old ≡ t.number) × (u ≡ record t { number = n })
Happens t h (Gave j x) u = (x ≡ t.tokens h) × (u ≡ record t { tokens = changed t.tokens j x })

abbrev pub serve_if : ℕ → World → Slot → ExecResult Bool World
serve_if j w Empty = Ran false w
serve_if j w (Asked n) =
    Ran true (record w { book = record { number = n; tokens = w.book.tokens }; slots = changed w.slots j (Served w.book.number) })
serve_if j w (Served old) = Ran false w

abbrev pub collect_if : ℕ → World → Slot → ExecResult ℕ World
collect_if h w Empty = Waits
collect_if h w (Asked n) = Waits
collect_if h w (Served old) = Ran old (record w { slots = changed w.slots h Empty })

abbrev pub go : ℕ → (op : Op) → (Answer op → Option (Unit {0})) → World → ExecResult (Answer op) World
go h (Ask n) m w = Ran tt (record w { slots = changed w.slots h (Asked n) })
go h (Serve j) m w = serve_if j w (w.slots j)
go h Collect m w = collect_if h w (w.slots h)
go h (Hand j) m w = Ran tt (record w { book = record { number = w.book.number; tokens = changed w.book.tokens j (w.book.tokens h) } })
go h (Free j) m w = Ran tt (record w { lent = changed w.lent j None })
go h Wipe m w = Ran tt (record w { book = record { number = 0; tokens = w.book.tokens }; clean = false })

-- who serves a request places the asking hart's step
abbrev pub served : ℕ → ℕ → Slot → List (ℕ × Step)
served j old Empty = []
served j old (Asked n) = (j, Swapped n old) ∷ []
served j old (Served x) = []

abbrev pub places : ℕ → (op : Op) → Answer op → Option (Unit {0}) → World → List (ℕ × Step)
places h (Ask n) a m w = []
places h (Serve j) a m w = served j w.book.number (w.slots j)
places h Collect a m w = []
places h (Hand j) a m w = (h, Gave j (w.book.tokens h)) ∷ []
places h (Free j) a m w = []
places h Wipe a m w = []

-- how a hart's place fares while the others step: a request may be served, with its step
abbrev pub IsServedAs : Slot → List Step → Slot → Type 0
IsServedAs Empty xs s = (xs ≡ []) × (s ≡ Empty)
IsServedAs (Asked n) xs s = ((xs ≡ []) × (s ≡ Asked n)) ⊎ ((old : ℕ) × (xs ≡ Swapped n old ∷ []) × (s ≡ Served old))
IsServedAs (Served old) xs s = (xs ≡ []) × (s ≡ Served old)

abbrev pub is_for : ℕ → Option ℕ → Bool
is_for h None = false
is_for h (Some g) = nat_eq g h

pub record Others (h : ℕ) (v : World) (xs : List Step) (w : World) : Type 0 where
  pub fared : IsServedAs (v.slots h) xs (w.slots h)
  -- the tokens of a hart that is reserved may change
  pub tokens : v.lent h ≡ None → (w.lent h ≡ None) × (w.book.tokens h ≡ v.book.tokens h)
  pub lends : (j : ℕ) → is_for h (w.lent j) ≡ is_for h (v.lent j)
  pub clean : w.clean ≡ true → v.clean ≡ true

pub record Idle (h : ℕ) (w : World) : Type 0 where
  pub slot : w.slots h ≡ Empty
  pub lends : (j : ℕ) → is_for h (w.lent j) ≡ false

abbrev pub IsAsked : Slot → Type 0
IsAsked Empty = ⊥
IsAsked (Asked n) = Unit {0}
IsAsked (Served old) = ⊥

-- a hart waits at the desk while its request is not served
abbrev pub MayWait : ℕ → Op → World → Type 0
MayWait h (Ask n) w = ⊥
MayWait h (Serve j) w = ⊥
MayWait h Collect w = IsAsked (w.slots h)
MayWait h (Hand j) w = ⊥
MayWait h (Free j) w = ⊥
MayWait h Wipe w = ⊥

abbrev pub machine : Machine
machine =
    record {
      Op = Op;
      Answer = Answer;
      Mark = Unit {0};
      Step = Step;
      World = World;
      Tree = Book;
      more = λ op. 0;
      Outside = Unit {0};
      Honest = λ h op w x. Unit {0};
      May = λ h op w. Unit {0};
      go = λ h x op m w. go h op m w;
      places = places;
      tree = λ w. w.book;
      Takes = Happens;
      Inv = λ w. Unit {0};
      Halted = λ w. Unit {0};
      Others = Others;
      Idle = Idle;
      MayWait = MayWait;
      Clean = λ w. w.clean ≡ true;
    }

pub data Call : Type 0 where
  Request : ℕ → Call
  Help : ℕ → Call
  Give : ℕ → Call
  Reset : Call

pub data Reply : Type 0 where
  Got : ℕ → Reply
  Helped : Bool → Reply
  Given : Reply
  Wiped : Reply

pub data Refusal : Type 0 where
  Busy : Refusal
  Reserved : Refusal

abbrev pub P : Type 0 → Type 0
P A = Prog Op Answer (Unit {0}) A

abbrev pub program : Call → P Reply
program (Request n) = Do (Ask n) unmarked (λ _. Do Collect unmarked (λ old. Ret (Got old)))
program (Help j) = Do (Serve j) unmarked (λ b. Ret (Helped b))
program (Give j) = Do (Hand j) unmarked (λ _. Do (Free j) unmarked (λ _. Ret Given))
program Reset = Do Wipe unmarked (λ _. Ret Wiped)

abbrev pub IsHistoryOf : Call → List Step → Reply → Type 0
IsHistoryOf (Request n) es (Got old) = es ≡ Swapped n old ∷ []
IsHistoryOf (Request n) es (Helped b) = ⊥
IsHistoryOf (Request n) es Given = ⊥
IsHistoryOf (Request n) es Wiped = ⊥
IsHistoryOf (Help j) es (Got old) = ⊥
IsHistoryOf (Help j) es (Helped b) = es ≡ []
IsHistoryOf (Help j) es Given = ⊥
IsHistoryOf (Help j) es Wiped = ⊥
IsHistoryOf (Give j) es (Got old) = ⊥
IsHistoryOf (Give j) es (Helped b) = ⊥
IsHistoryOf (Give j) es Given = (x : ℕ) × (es ≡ Gave j x ∷ [])
IsHistoryOf (Give j) es Wiped = ⊥
IsHistoryOf Reset es (Got old) = ⊥
IsHistoryOf Reset es (Helped b) = ⊥
IsHistoryOf Reset es Given = ⊥
IsHistoryOf Reset es Wiped = es ≡ []

abbrev pub unless : Bool → Refusal → Began Refusal World → Began Refusal World
unless true why b = Refuses why
unless false why b = b

abbrev pub reserve_if : ℕ → ℕ → World → Option ℕ → Began Refusal World
reserve_if h j w None = Begins (record w { lent = changed w.lent j (Some h) })
reserve_if h j w (Some g) = Refuses Reserved

abbrev pub start_call : ℕ → Call → (ℕ → Bool) → World → Began Refusal World
start_call h (Request n) busy w = Begins w
start_call h (Help j) busy w = unless (nat_eq j h) Busy (Begins w)
start_call h (Give j) busy w = unless (nat_eq j h) Busy (unless (busy j) Busy (reserve_if h j w (w.lent j)))
start_call h Reset busy w = Begins w

-- a hart that is reserved starts nothing
abbrev pub start_if : Option ℕ → Began Refusal World → Began Refusal World
start_if None b = b
start_if (Some g) b = Refuses Reserved

abbrev pub desk : Theory
desk =
    record {
      M = machine;
      Call = Call;
      Reply = Reply;
      Refusal = Refusal;
      start = λ h call busy w. start_if (w.lent h) (start_call h call busy w);
      busy = Busy;
      program = program;
      Written = IsHistoryOf;
      WrittenSoFar = BeginsWhole IsHistoryOf;
      limit = λ call. 2;
    }

abbrev pub rest : ℕ → (ℕ → ℕ) → World
rest x tokens = record { book = record { number = x; tokens = tokens }; slots = λ h. Empty; lent = λ h. None; clean = true }
