-- A machine whose steps are its own operations, each with its answer: what is explained by them is a run of the machine itself.
use Rattle.std.specs.Prelude.{◌≡◌, ℕ, Bool, Option, List, [], ◌∷◌}
use Rattle.atomic_programs.specs.Prog.{Ret, Do, ExecResult, Ran, Stops, exec_result_in}
use Rattle.atomic_programs.specs.Logic.{Machine, P, OpWithAnswer}
use Rattle.atomic_programs.specs.Calls.{Theory, Begins, BeginsWhole}

-- A machine's world without all that starts reserve and that marks change; and what the operations make of it.
pub record Core (L : Machine) : Type 1 where
  pub World : Type 0
  pub of : L.World → World
  pub May : ℕ → L.Op → World → Type 0
  pub Honest : ℕ → L.Op → World → L.Outside → Type 0
  pub go : ℕ → L.Outside → (op : L.Op) → World → ExecResult (L.Answer op) World

-- all of the world, if no start reserves anything and no mark changes it
abbrev pub all_of : (L : Machine) → (ℕ → L.Outside → (op : L.Op) → L.World → ExecResult (L.Answer op) L.World) → Core L
all_of L exec = record { World = L.World; of = λ w. w; May = L.May; Honest = L.Honest; go = exec }

-- what a theory shows of a core
pub record IsCore (T : Theory) (K : Core T.M) : Type 0 where
  pub may : (h : ℕ) (op : T.M.Op) (w : T.M.World) → T.M.May h op w → K.May h op (K.of w)
  pub honest : (h : ℕ) (op : T.M.Op) (w : T.M.World) (x : T.M.Outside) → T.M.Honest h op w x → K.Honest h op (K.of w) x
  pub goes : (h : ℕ) (x : T.M.Outside) (op : T.M.Op) (m : T.M.Answer op → Option T.M.Mark) (w : T.M.World)
      → exec_result_in K.of (T.M.go h x op m w) ≡ K.go h x op (K.of w)
  -- an operation that stops the world leaves the core as it was
  pub stops : (h : ℕ) (x : T.M.Outside) (op : T.M.Op) (t u : K.World) → K.go h x op t ≡ Stops u → u ≡ t
  -- and so does a start
  pub starts : (h : ℕ) (call : T.Call) (busy : ℕ → Bool) (w u : T.M.World) → T.start h call busy w ≡ Begins u → K.of u ≡ K.of w
  -- each operation has some answer
  pub some : (op : T.M.Op) → T.M.Answer op

-- the operation was made here by this hart, which may make it, and answered so
abbrev pub Makes : (L : Machine) (K : Core L) → K.World → ℕ → OpWithAnswer L → K.World → Type 0
Makes L K t h e u = (x : L.Outside) × K.May h e.0 t × K.Honest h e.0 t x × (K.go h x e.0 t ≡ Ran e.1 u)

abbrev pub operations : (L : Machine) → Core L → Machine
operations L K =
    record {
      Op = L.Op;
      Answer = L.Answer;
      Mark = L.Mark;
      Step = OpWithAnswer L;
      World = L.World;
      Tree = K.World;
      more = L.more;
      Outside = L.Outside;
      Honest = L.Honest;
      May = L.May;
      go = L.go;
      places = λ h op a m w. (h, (op, a)) ∷ [];
      tree = K.of;
      Takes = Makes L K;
      Inv = L.Inv;
      Halted = L.Halted;
      Others = λ h v xs w. (xs ≡ []) × ((ys : List L.Step) × L.Others h v ys w);
      Idle = L.Idle;
      MayWait = L.MayWait;
      Clean = λ w. Unit {0};
    }

-- these operations with their answers, the oldest first, are a run of the program that ends with r
abbrev pub IsRun : (L : Machine) → {A : Type 0} → P L A → List (OpWithAnswer L) → A → Type 0
IsRun L (Ret a) [] r = a ≡ r
IsRun L (Ret a) (e ∷ es) r = ⊥
IsRun L (Do op m k) [] r = ⊥
IsRun L (Do op m k) (e ∷ es) r = (a : L.Answer op) × (e ≡ (op, a)) × IsRun L (k a) es r

-- the same calls, each explained by the operations of its program
abbrev pub operations_of : (T : Theory) → Core T.M → Theory
operations_of T K =
    record {
      M = operations T.M K;
      Call = T.Call;
      Reply = T.Reply;
      Refusal = T.Refusal;
      start = T.start;
      busy = T.busy;
      program = T.program;
      Written = λ call es r. IsRun T.M (T.program call) es r;
      WrittenSoFar = BeginsWhole (λ call es r. IsRun T.M (T.program call) es r);
      limit = T.limit;
    }

-- the machine of which no history is claimed
abbrev pub bare : Machine → Machine
bare L = record L { Clean = λ w. ⊥ }

-- The same calls, without a claim about their history. That they are lawful says only that each makes its operations
-- when it may, leaves to the others what is theirs, and ends in time with nothing owned.
abbrev pub bare_calls : Theory → Theory
bare_calls T =
    record {
      M = bare T.M;
      Call = T.Call;
      Reply = T.Reply;
      Refusal = T.Refusal;
      start = T.start;
      busy = T.busy;
      program = T.program;
      Written = λ call es r. Unit {0};
      WrittenSoFar = λ call es. Unit {0};
      limit = T.limit;
    }
