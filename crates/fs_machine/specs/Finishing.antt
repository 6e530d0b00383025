-- The end of a transaction.
use Rattle.std.specs.Prelude.{◌≡◌, ◌<◌, None, IsSome}
use Rattle.fs_machine.specs.Machines.{P}
use Rattle.fs_machine.specs.Programs.{finish, commits}
use Rattle.fs_machine.specs.declared.hand.Hand.{Hand}
use Rattle.fs_machine.specs.declared.op.Op.{Op}
use Rattle.fs_machine.specs.declared.op.Op.TheVariants as ops
use Rattle.fs_machine.specs.declared.finish.Finish.{Finish}
use Rattle.fs_machine.specs.declared.finish.Finish.TheVariants.{Leave, Commit}

abbrev pub finish_left : Finish → Hand → P (Unit {0})
finish_left Leave h = finish
finish_left (Commit left) h = commits left

abbrev pub finish_asked : Finish → Op
finish_asked Leave = ops.Leave
finish_asked (Commit left) = ops.Commit

abbrev pub FinishReady : Finish → Hand → Type 0
FinishReady Leave h = IsSome h.txn
FinishReady (Commit left) h = (0 < left) × (h.txn ≡ None)
