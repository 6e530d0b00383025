-- Calls over the machine of whole inodes, with any history; and the history that is the machine's own operations.
use Rattle.std.specs.Prelude.{◌≡◌, ℕ, nat_lt, if◌then◌else◌, List, [], ◌∷◌}
use Rattle.atomic_programs.specs.Basics.{Prog, Theory, Refuses, Begins, BeginsWhole, OpWithAnswer, Core, Makes, all_of, Starts, World, Op, Answer, exec, Labels, whole}
use Rattle.atomic_programs.specs.Blocks.{hart_count, blocks}

-- calls over the machine with these labels
pub record Calls (l : Labels) : Type 1 where
  pub Call : Type 0
  pub Reply : Type 0
  pub Refusal : Type 0
  pub busy : Refusal
  pub no_hart : Refusal
  pub program : Call → Prog Op Answer l.Mark Reply
  pub Written : Call → List l.Step → Reply → Type 0
  pub limit : Call → ℕ

abbrev pub theory : (l : Labels) → Calls l → Theory
theory l c =
    record {
      M = whole l;
      Call = c.Call;
      Reply = c.Reply;
      Refusal = c.Refusal;
      start = λ h call busy w. Begins w;
      busy = c.busy;
      program = c.program;
      Written = c.Written;
      WrittenSoFar = BeginsWhole c.Written;
      limit = c.limit;
    }

-- a start reserves nothing; below only the harts that there are start calls
abbrev pub begins_at_once : (l : Labels) (c : Calls l) → Starts (theory l c) blocks
begins_at_once l c h call busy r = if nat_lt h hart_count then Begins r else Refuses c.no_hart

-- an operation knows of nothing but the world
abbrev pub core : (l : Labels) → Core (whole l)
core l = all_of (whole l) (λ h x op w. exec h op w)

-- the labels under which the machine's own operations are its history
abbrev pub operation_labels : Labels → Labels
operation_labels l =
    record {
      Mark = l.Mark;
      Step = OpWithAnswer (whole l);
      Tree = World;
      places = λ h op a m w. (h, (op, a)) ∷ [];
      tree = λ w. w;
      Takes = Makes (whole l) (core l);
      Inv = l.Inv;
      Others = λ h v xs w. (xs ≡ []) × ((ys : List l.Step) × l.Others h v ys w);
      Idle = l.Idle;
      MayWait = l.MayWait;
      Clean = λ w. Unit {0};
    }
