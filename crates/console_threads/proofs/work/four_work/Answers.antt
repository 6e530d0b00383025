use denote.Exit.{no}
use denote.Param.Send.{param_send, arg_send, shr_send}
use Rattle.console_threads.proofs.Lemmas.{four_send, kernel_sync, the_row, task_send}
use Rattle.hart_runner.proofs.gate.NoGate.TheSendSync as gate
use Rattle.console_threads.specs.contracts.work.four_work.{L-row}
use Rattle.console_threads.proofs.work.four_work.Goals as goal

pub join-a-requires-send-F : goal.join-a-requires-send-F
join-a-requires-send-F g c κs within =
    let L = L-row g.row.L g.row.R in
    let task = task_send L _ c.type_bounds.send-L in
    param_send 1 _ (arg_send _ no _ (four_send _ _ _ _ _ (shr_send _ _ _ c.type_bounds.sync-R) (shr_send _ _ _ (kernel_sync L the_row _ gate.the_sync)) task task))
