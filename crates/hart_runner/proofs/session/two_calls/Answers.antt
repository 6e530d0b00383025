use denote.Exit.{no}
use denote.Param.Send.{param_send, arg_send, shr_send}
use Rattle.plain_tree.proofs.call.Call.TheSendSync as call
use Rattle.hart_runner.specs.contracts.session.two_calls.{L-row, G-row}
use Rattle.hart_runner.proofs.Sent.{four_send, kernel_sync, seat_send}
use Rattle.hart_runner.proofs.session.two_calls.Goals as goal

pub join-one-requires-send-F : goal.join-one-requires-send-F
join-one-requires-send-F g c κs within =
    let L = L-row g.row.L g.row.G g.row.R in
    let G = G-row g.row.L g.row.G g.row.R in
    param_send 1 _ (arg_send _ no _ (four_send _ _ _ _ _ (shr_send _ _ _ c.type_bounds.sync-R) (shr_send _ _ _ (kernel_sync L G _ c.type_bounds.sync-G)) (seat_send L _ c.type_bounds.send-L) call.the_send))
