use denote.Exit.{no}
use denote.Param.Send.{param_send, arg_send, shr_send}
use Rattle.bench.proofs.Lemmas.{six_send, kernel_sync, seat_send, the_row, L-row}
use Rattle.hart_runner.proofs.gate.NoGate.TheSendSync as gate
use Rattle.bench.proofs.threads.Plan.TheSendSync as plan
use Rattle.bench.proofs.threads.four_work.Goals as goal

pub join-low-requires-send-F : goal.join-low-requires-send-F
join-low-requires-send-F g c κs within =
    let L = L-row g.row.L g.row.R in
    let seat = seat_send L _ c.type_bounds.send-L in
    param_send 1 _ (arg_send _ no _ (six_send _ _ _ _ _ _ _ (shr_send _ _ _ c.type_bounds.sync-R) (shr_send _ _ _ (kernel_sync L the_row _ gate.the_sync)) seat plan.the_send seat plan.the_send))
