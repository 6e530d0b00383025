-- A theory whose operations tell at which answers they are marked. So code knows the places of a program's marks after
-- they are left out.
use Rattle.std.specs.Prelude.{Bool, is_some}
use Rattle.atomic_programs.specs.Basics.{Prog, Ret, Do, Machine, Handlers, LowerLayer, Theory, Code}

abbrev pub with_marks : Machine → Machine
with_marks M =
    record {
      Op = (op : M.Op) × (M.Answer op → Bool);
      Answer = λ o. M.Answer o.0;
      Mark = M.Mark;
      Step = M.Step;
      World = M.World;
      Tree = M.Tree;
      more = λ o. M.more o.0;
      Outside = M.Outside;
      Honest = λ h o w x. M.Honest h o.0 w x;
      May = λ h o w. M.May h o.0 w;
      go = λ h x o m w. M.go h x o.0 m w;
      places = λ h o a m w. M.places h o.0 a m w;
      tree = M.tree;
      Takes = M.Takes;
      Inv = M.Inv;
      Halted = M.Halted;
      Others = M.Others;
      Idle = M.Idle;
      MayWait = λ h o w. M.MayWait h o.0 w;
      Clean = M.Clean;
    }

abbrev pub telling : {Op : Type 0} (Answer : Op → Type 0) → (o : (op : Op) × (Answer op → Bool)) → Type 0
telling Answer o = Answer o.0

-- each operation with what tells its mark
abbrev pub carrying : {Op : Type 0} {Answer : Op → Type 0} {M A : Type 0} → Prog Op Answer M A
    → Prog ((op : Op) × (Answer op → Bool)) (telling Answer) M A
carrying (Ret a) = Ret a
carrying (Do op m k) = Do (op, λ x. is_some (m x)) m (λ x. carrying (k x))

abbrev pub keeping : Theory → Theory
keeping L =
    record {
      M = with_marks L.M;
      Call = L.Call;
      Reply = L.Reply;
      Refusal = L.Refusal;
      start = L.start;
      busy = L.busy;
      program = λ call. carrying (L.program call);
      Written = L.Written;
      WrittenSoFar = L.WrittenSoFar;
      limit = L.limit;
    }

-- the same code: the kind of a step tells too whether its operation was marked
abbrev pub keeping_code : (L : Theory) → Code L → Code (keeping L)
keeping_code L C =
    record {
      Shared = C.Shared;
      Kind = C.Kind × Bool;
      shared = C.shared;
      kind = λ o a. (C.kind o.0 a, o.1 a);
      exec = λ h x o s. C.exec h x o.0 s;
      may = λ h o s. C.may h o.0 s;
      honest = λ h o s x. C.honest h o.0 s x;
      begin = C.begin;
    }

-- ---- of the lowered calls: at which step below an operation above acts

abbrev pub lower_with_marks : {S : Type 0} → LowerLayer S → LowerLayer S
lower_with_marks R =
    record {
      Op = (op : R.Op) × (R.Answer op → Bool);
      Answer = telling R.Answer;
      World = R.World;
      Outside = R.Outside;
      Honest = λ h o w x. R.Honest h o.0 w x;
      May = λ h o w. R.May h o.0 w;
      exec = λ h x o w. R.exec h x o.0 w;
      MayWait = λ h o w. R.MayWait h o.0 w;
      Shows = R.Shows;
      Halted = R.Halted;
      Same = R.Same;
      Kept = R.Kept;
      Carry = R.Carry;
      none = R.none;
      Base = R.Base;
    }

abbrev pub handlers_with_marks : (U : Machine) (R : LowerLayer U.World) → Handlers U R → Handlers U (lower_with_marks R)
handlers_with_marks U R handler c op m = carrying (handler c op m)
