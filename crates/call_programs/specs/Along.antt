-- What holds all along a program, whatever its operations answer.
use Rattle.std.specs.Prelude.{Option}
use Rattle.inode_machine.specs.Vocabulary.{Ret, Do}
use Rattle.inode_machine.specs.Basics.{P, Op, Answer, Mark}

-- From state s on each operation is so, with its mark and with how the program goes on after its answer. The program
-- goes on from the state after the operation. What it ends with is so in the last state. The state after an operation
-- may depend on how the operation is so.
abbrev pub Along : {State A : Type 0} (Is : State → (op : Op) → (Answer op → Option Mark) → (Answer op → P A) → Type 0)
    → ((s : State) (op : Op) (m : Answer op → Option Mark) (k : Answer op → P A) → Is s op m k → Answer op → State)
    → (State → A → Type 0) → State → P A → Type 0
Along Is next Ends s (Ret a) = Ends s a
Along Is next Ends s (Do op m k) = (is : Is s op m k) × ((a : Answer op) → Along Is next Ends (next s op m k is a) (k a))
