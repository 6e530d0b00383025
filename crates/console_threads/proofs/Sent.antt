-- A task may go to another thread.
use denote.RattleType.{RattleType}
use denote.Param.Send.{IsSend, sendable}
use denote.Param.SendFields.{declared_send}
use Rattle.console_threads.proofs.Vocabulary.{crosses, Ghosts, seat_send}
use Rattle.plain_tree.proofs.call.Call.TheSendSync as call
use Rattle.console_threads.specs.contracts.work.Task as task

pub task_send : (L : RattleType) (g : Ghosts L.Denot) → IsSend L → IsSend (task.the_row L g)
task_send L g s = declared_send (task.the_type L g) (search (seat_send, call.the_send, sendable, crosses) depth 60 fits 20000)
