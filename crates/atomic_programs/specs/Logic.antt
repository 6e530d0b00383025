-- A logic for programs that harts run at once: what a hart owns stays while the others step.
use Rattle.std.specs.Prelude.{◌≡◌, ◌≢◌, ◌⊎◌, ℕ, ◌+◌, ◌<◌, ◌≤◌, Option, nat_eq, if◌then◌else◌, List, [], ◌∷◌, ◌++◌, length}
use Rattle.atomic_programs.specs.Prog.{Prog, Ret, Do, ExecResult, Waits, Ran, Stops}

-- What a project's machine is: its operations, its world, the sequential object, and the rules between harts.
pub record Machine : Type 1 where
  pub Op : Type 0
  pub Answer : Op → Type 0
  -- what an operation is marked with, for the proof alone
  pub Mark : Type 0
  -- a step of the sequential object, with its answer
  pub Step : Type 0
  pub World : Type 0
  pub Tree : Type 0
  -- the steps that an operation counts for, beyond one
  pub more : Op → ℕ
  -- what a device, or whatever else is no part of the world, may answer to an operation
  pub Outside : Type 0
  -- what it may answer to this one
  pub Honest : ℕ → Op → World → Outside → Type 0
  -- what an operation asks of the world in this hart's hand: it is never made unless this holds
  pub May : ℕ → Op → World → Type 0
  -- what the operation makes of the world in this hart's hand, at this answer
  pub go : ℕ → Outside → (op : Op) → (Answer op → Option Mark) → World → ExecResult (Answer op) World
  -- the steps that are placed when it runs with this answer and this mark, each with its hart; an operation may place
  -- steps of other harts' calls
  pub places : ℕ → (op : Op) → Answer op → Option Mark → World → List (ℕ × Step)
  pub tree : World → Tree
  -- the sequential object may go so, by this hart
  pub Takes : Tree → ℕ → Step → Tree → Type 0
  -- what holds between any two events
  pub Inv : World → Type 0
  -- what still holds once the world has stopped
  pub Halted : World → Type 0
  -- nothing of this hart's own changed, and these steps of its call were placed, the oldest first
  pub Others : ℕ → World → List Step → World → Type 0
  -- the hart owns nothing
  pub Idle : ℕ → World → Type 0
  -- when this operation may wait
  pub MayWait : ℕ → Op → World → Type 0
  -- the premise under which one list of steps explains the run still holds
  pub Clean : World → Type 0

abbrev pub P : Machine → Type 0 → Type 0
P L A = Prog L.Op L.Answer L.Mark A

-- an operation with its answer
abbrev pub OpWithAnswer : Machine → Type 0
OpWithAnswer L = (op : L.Op) × L.Answer op

-- the steps that are hart j's
abbrev pub own : {A : Type 0} → ℕ → List (ℕ × A) → List A
own j [] = []
own j (p ∷ ps) = if nat_eq p.0 j then p.1 ∷ own j ps else own j ps

-- one after the other onto a list that has the newest first
abbrev pub onto : {A : Type 0} → List A → List A → List A
onto [] es = es
onto (x ∷ xs) es = onto xs (x ∷ es)

-- a list that has the newest first, turned round
abbrev pub oldest_first : {A : Type 0} → List A → List A
oldest_first es = onto es []

-- the sequential object goes through these steps
abbrev pub Goes : (L : Machine) → L.Tree → List (ℕ × L.Step) → L.Tree → Type 0
Goes L t [] u = u ≡ t
Goes L t (p ∷ ps) u = (mid : L.Tree) × L.Takes t p.0 p.1 mid × Goes L mid ps u

-- what is placed with each answer
abbrev pub placed_with : (L : Machine) → ℕ → (op : L.Op) → (L.Answer op → Option L.Mark) → L.World → L.Answer op → List (ℕ × L.Step)
placed_with L h op m v a = L.places h op a (m a) v

-- if these steps came onto es, the newest first, what is there then is B
abbrev pub Grown : {A : Type 0} → (List A → Type 0) → List A → List A → Type 0
Grown B xs es = (xs ≡ []) ⊎ B (onto xs es)

-- an operation of hart h that placed ps and led from v to w: Next is of what comes after it; of n steps it took one, and
-- `more`
pub record Fine (L : Machine) (h : ℕ) (ps : List (ℕ × L.Step)) (more n : ℕ) (B : List L.Step → Type 0) (es : List L.Step) (v w : L.World)
    (Next : ℕ → Type 0) : Type 0 where
  pub inv : L.Inv w
  pub kept : (other : ℕ) → other ≢ h → L.Others other v (own other ps) w
  pub goes : L.Clean w → Goes L (L.tree v) ps (L.tree w)
  pub clean : L.Clean w → L.Clean v
  -- the hart's own steps are a beginning still
  pub begun : L.Clean w → Grown B (own h ps) es
  pub left : ℕ
  pub falls : left + more < n
  pub next : Next left

-- an operation of hart h that stopped the world
pub record Halts (L : Machine) (h : ℕ) (v w : L.World) : Type 0 where
  pub halted : L.Halted w
  pub kept : (other : ℕ) → other ≢ h → L.Others other v [] w
  pub tree : L.Clean w → L.tree w ≡ L.tree v
  pub clean : L.Clean w → L.Clean v

abbrev pub Good : (L : Machine) (A : Type 0) → ℕ → (A → List (ℕ × L.Step)) → ℕ → ℕ → (List L.Step → Type 0) → List L.Step → L.World → Type 0
    → ExecResult A L.World → (ℕ → A → L.World → Type 0) → Type 0
Good L A h ps more n B es v wait Waits Next = wait
Good L A h ps more n B es v wait (Ran a w) Next = Fine L h (ps a) more n B es v w (λ l. Next l a w)
Good L A h ps more n B es v wait (Stops w) Next = Halts L h v w

-- From w on hart h's program does as it should whatever the others do and the outside answers. It takes at most n
-- steps, ends with Q, and makes each operation only when it may be made. The list es has the steps so far, the newest
-- first, and is B whenever it has grown.
abbrev pub Wp : (L : Machine) {A : Type 0} → ℕ → (List L.Step → Type 0) → (A → List L.Step → L.World → Type 0) → P L A → ℕ → List L.Step
    → L.World → Type 0
Wp L h B Q (Ret a) n es w = Q a es w
Wp L h B Q (Do op m k) n es w =
    (v : L.World) (xs : List L.Step) → L.Others h w xs v → L.Inv v
    → (L.Clean v → Grown B xs es)
    × L.May h op v
    × ((x : L.Outside) → L.Honest h op v x
    → Good L (L.Answer op) h (placed_with L h op m v) (L.more op) n B (onto xs es) v (L.MayWait h op v) (L.go h x op m v)
    (λ l a u. Wp L h B Q (k a) l (onto (own h (L.places h op a (m a) v)) (onto xs es)) u))
    × (L.more op < n)

-- the same, closed, so that the program can be read off it
pub record Safe (L : Machine) {A : Type 0} (h : ℕ) (B : List L.Step → Type 0) (Q : A → List L.Step → L.World → Type 0) (p : P L A) (n : ℕ)
    (es : List L.Step) (w : L.World) : Type 0 where
  pub wp : Wp L h B Q p n es w

-- when an operation runs, at most one of the steps that are placed is its own hart's
abbrev pub PlacesOne : Machine → Type 0
PlacesOne L = (h : ℕ) (op : L.Op) (a : L.Answer op) (m : Option L.Mark) (w : L.World) → L.Inv w → length (own h (L.places h op a m w)) ≤ 1

-- the laws that a machine shows once
pub record Laws (L : Machine) : Type 0 where
  pub same : (h : ℕ) (w : L.World) → L.Others h w [] w
  pub trans : (h : ℕ) (u v w : L.World) (xs ys : List L.Step) → L.Others h u xs v → L.Others h v ys w → L.Others h u (xs ++ ys) w
  pub idle_none : (h : ℕ) (v w : L.World) (xs : List L.Step) → L.Others h v xs w → L.Idle h v → xs ≡ []
  pub idle_stays : (h : ℕ) (v w : L.World) (xs : List L.Step) → L.Others h v xs w → L.Idle h v → L.Idle h w
  pub clean_before : (h : ℕ) (v w : L.World) (xs : List L.Step) → L.Others h v xs w → L.Clean w → L.Clean v
