-- The block machine: what harts whose calls are programs of operations make of all that they share, an operation a
-- step. Nothing is said here of the calls' results. The machine asks when each operation may be made, and doesn't
-- show it.
use Rattle.std.specs.Prelude.{◌≡◌, ℕ, [], false}
use Rattle.hart_core.specs.Vocabulary.{Reply, Machine, Theory, Begins, Code, Plain, MayOf, Kind, Outside, State, Op, Answer, exec, kind_of, May, Honest, MayWait, P}

-- the operations, and no history
abbrev pub operations : Machine
operations =
    record {
      Op = Op;
      Answer = Answer;
      Mark = ⊥;
      Step = ⊥;
      World = State;
      Tree = Unit {0};
      more = λ op. 0;
      Outside = Outside;
      Honest = Honest;
      May = May;
      go = λ h x op m s. exec h x op s;
      places = λ h op a m s. [];
      tree = λ s. tt;
      Takes = λ t h step u. ⊥;
      Inv = λ s. Unit {0};
      Halted = λ s. Unit {0};
      Others = λ h v xs w. Unit {0};
      Idle = λ h s. Unit {0};
      MayWait = MayWait;
      Clean = λ s. Unit {0};
    }

-- a call is any program that ends with a reply; a hart that has one is refused
abbrev pub blocks : Theory
blocks =
    record {
      M = operations;
      Call = P Reply;
      Reply = Reply;
      Refusal = Unit {0};
      start = λ h call busy s. Begins s;
      busy = tt;
      program = λ call. call;
      Written = λ call steps reply. Unit {0};
      WrittenSoFar = λ call steps. Unit {0};
      limit = λ call. 0;
    }

-- the code has all of it
abbrev pub code : Code blocks
code = record {
  Shared = State;
  Kind = Kind;
  shared = λ s. s;
  kind = kind_of;
  exec = exec;
  may = May;
  honest = Honest;
  begin = λ h call busy s. Begins s;
}

-- all harts' programs over what they share
abbrev pub Programs : Type 0
Programs = Plain blocks code

-- the operation that the hart's call makes next may be made, unless the world has stopped
abbrev pub MayStep : ℕ → Programs → Type 0
MayStep h p = p.stopped ≡ false → MayOf blocks code h p.shared (p.running h)
