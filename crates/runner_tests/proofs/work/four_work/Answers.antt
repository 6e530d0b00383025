use denote.RattleType.{RattleType}
use denote.Param.SendFields.{declared_send}
use Rattle.console_threads.proofs.Vocabulary.{crosses, seat_send}
use Rattle.std.specs.declared.sync.ledger.Ledger.{Ghosts}
use Rattle.hart_runner.proofs.Sent.{five_send, kernel_sync}
use Rattle.plain_tree.proofs.call.Call.TheSendSync as call
use denote.Exit.{no}
use denote.Param.Send.{IsSend, sendable, param_send, arg_send, shr_send}
use Rattle.runner_tests.specs.contracts.work.four_work.{L-row, G-row}
use Rattle.runner_tests.specs.contracts.work.Task as task
use Rattle.runner_tests.proofs.work.four_work.Goals as goal

-- a task may go to another thread
task_send : (L : RattleType) (g : Ghosts L.Denot) → IsSend L → IsSend (task.the_row L g)
task_send L g s = declared_send (task.the_type L g) (search (seat_send, call.the_send, sendable, crosses) depth 60 fits 20000)

pub join-low-requires-send-F : goal.join-low-requires-send-F
join-low-requires-send-F g c κs within =
    let L = L-row g.row.L g.row.G g.row.R in
    let G = G-row g.row.L g.row.G g.row.R in
    let kernel = shr_send _ _ _ (kernel_sync L G _ c.type_bounds.sync-G) in
    let gate = shr_send _ _ _ c.type_bounds.sync-G in
    let task = task_send L _ c.type_bounds.send-L in
    param_send 1 _ (arg_send _ no _ (five_send _ _ _ _ _ _ (shr_send _ _ _ c.type_bounds.sync-R) kernel gate task task))
