use denote.Exit.{no}
use denote.Param.Send.{param_send, arg_send, shr_send}
use Rattle.plain_tree.proofs.call.Call.TheSendSync as call
use Rattle.hart_runner.proofs.Sent.{five_send, kernel_sync}
use Rattle.console_threads.proofs.Vocabulary.{seat_send}
use Rattle.runner_tests.specs.contracts.meeting.met.{L-row, G-row}
use Rattle.runner_tests.proofs.meeting.Flags.TheSendSync as flags
use Rattle.runner_tests.proofs.meeting.met.Goals as goal

pub join-one-requires-send-F : goal.join-one-requires-send-F
join-one-requires-send-F g c κs within =
    let L = L-row g.row.L g.row.G g.row.R in
    let G = G-row g.row.L g.row.G g.row.R in
    param_send 1 _ (arg_send _ no _ (five_send _ _ _ _ _ _ (shr_send _ _ _ c.type_bounds.sync-R) (shr_send _ _ _ (kernel_sync L G _ c.type_bounds.sync-G)) (shr_send _ _ _ flags.the_sync) (seat_send L _ c.type_bounds.send-L) call.the_send))
