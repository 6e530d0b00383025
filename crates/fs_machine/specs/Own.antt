-- What is a hart's of the log, and that no operation of another changes it.
use Rattle.std.specs.Prelude.{◌≡◌, ◌≢◌, ℕ, List, length, Option, Some, None, if◌then◌else◌, slice_get}
use Rattle.fs_machine.specs.Vocabulary.{Super, count_of, SeatState, seat_of, is_held_by}
use Rattle.fs_machine.specs.LogPart.{LogPart, Outside}
use Rattle.fs_machine.specs.Steps.{State, Op, exec}
use Rattle.fs_machine.specs.Premises.{May, Honest}
use Rattle.fs_machine.specs.Whole.{IsWholeLog, After}

-- what is kept of a buffer, if the hart has it in its hand
abbrev pub mine_of : ℕ → Option SeatState → Option (Option (List ℕ))
mine_of g None = None
mine_of g (Some s) = if is_held_by g s then Some s.content else None

-- its transaction, what is kept of the buffers in its hand, and how many these are; and what never changes
pub record Own : Type 0 where
  pub member : Option (Option ℕ)
  pub buffers : ℕ → Option (Option (List ℕ))
  pub count : ℕ
  pub sizes : Super
  pub blocks : ℕ

abbrev pub own_of : ℕ → LogPart → Own
own_of g l =
    record {
      member = slice_get l.members g;
      buffers = λ b. mine_of g (seat_of b l.seats);
      count = count_of (is_held_by g) l.seats;
      sizes = l.sizes;
      blocks = length l.contents;
    }

abbrev pub LeavesOwn : Type 0
LeavesOwn = (h g : ℕ) (x : Outside) (op : Op) (s : State) → g ≢ h → IsWholeLog s.log → May h op s → Honest h op s x
    → After (λ t. own_of g t.log ≡ own_of g s.log) (exec h x op s)
