-- A toy: above, an operation that raises a number by two; below, it is two steps. A call raises it so many times.
use Rattle.std.specs.Prelude.{ℕ, zero, suc, ◌+◌, [], Some}
use Rattle.atomic_programs.specs.Basics.{Prog, Ret, Do, ExecResult, Ran, unmarked, Machine, P, Handlers, Handover, LowerLayer}
use Rattle.atomic_programs.specs.Below as layers
use Rattle.atomic_programs.specs.declared.toy.Count.{Count}
use Rattle.atomic_programs.specs.declared.toy.Part.{Part}
use Rattle.atomic_programs.specs.declared.toy.Part.TheVariants as part
use Rattle.atomic_programs.specs.declared.toy.Under.{Under}
use Rattle.atomic_programs.specs.declared.toy.Turn.{Turn}
use Rattle.atomic_programs.specs.declared.toy.Turn.TheVariants as turn

pub data Above : Type 0 where
  Twice : Above

pub data Below : Type 0 where
  Tick : Below

abbrev pub upper : Machine
upper =
    record {
      Op = Above;
      Answer = λ op. ℕ;
      Mark = ⊥;
      Step = ⊥;
      World = ℕ;
      Tree = Unit {0};
      more = λ op. 1;
      Outside = Unit {0};
      Honest = λ h op w x. Unit {0};
      May = λ h op w. Unit {0};
      go = λ h x op m w. Ran (w + 2) (w + 2);
      places = λ h op a m w. [];
      tree = λ w. tt;
      Takes = λ t h s u. ⊥;
      Inv = λ w. Unit {0};
      Halted = λ w. Unit {0};
      Others = λ h v xs w. Unit {0};
      Idle = λ h w. Unit {0};
      MayWait = λ h op w. ⊥;
      Clean = λ w. Unit {0};
    }

abbrev pub lower : LowerLayer ℕ
lower =
    record {
      Op = Below;
      Answer = λ op. ℕ;
      World = ℕ;
      Outside = Unit {0};
      Honest = λ h op w x. Unit {0};
      May = λ h op w. Unit {0};
      exec = λ h x op w. Ran (w + 1) (w + 1);
      MayWait = λ h op w. ⊥;
      Shows = λ w u. Unit {0};
      Halted = λ w u. Unit {0};
      Same = λ h v w. Unit {0};
      Kept = λ h v w. Unit {0};
      Carry = Unit {0};
      none = tt;
      Base = λ h w u c. Unit {0};
    }

abbrev pub handler : Handlers upper lower
handler c Twice m = Do Tick unmarked
    (λ a. Do Tick (λ b. Some (record { op = Twice; outside = tt; mark = m })) (λ b. Ret (record { answer = b; carry = tt })))

-- so many times more, and then the answer
abbrev pub counting : ℕ → P upper ℕ
counting zero = Do Twice unmarked (λ a. Ret a)
counting (suc n) = Do Twice unmarked (λ a. counting n)

-- ---- in code

abbrev pub answer_to : (op : Above) → ℕ → ℕ
answer_to op x = x

abbrev pub control_of : Count → P upper ℕ
control_of c = counting c.left

abbrev pub LowerPart : Type 0
LowerPart = layers.Part upper lower handler answer_to

abbrev pub last_tick : LowerPart
last_tick = Do Tick unmarked (λ b. Ret (record { answer = b; carry = tt }))

abbrev pub part_of : Part → LowerPart
part_of part.First = Do Tick unmarked (λ a. last_tick)
part_of part.Second = last_tick

abbrev pub handed_as : ℕ → Handover ℕ (Unit {0})
handed_as x = record { answer = x; carry = tt }

abbrev pub under_of : Under → Prog Below (λ op. ℕ) ⊥ ℕ
under_of u = layers.with_part upper lower handler answer_to (part_of u.part) (control_of u.control)

abbrev pub turned : Turn → P upper ℕ
turned (turn.Asks c) = control_of c
turned (turn.Ends n) = Ret n

abbrev pub kind : (op : Below) → ℕ → Unit {0}
kind op x = tt

abbrev pub exec : (op : Below) → ℕ → ExecResult ℕ ℕ
exec op w = Ran (w + 1) (w + 1)

abbrev pub itself : ℕ → ℕ
itself n = n
