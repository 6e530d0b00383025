use denote.Exit.{no}
use denote.Param.Send.{param_send, arg_send, shr_send}
use Rattle.bench.proofs.Lemmas.{two_send, three_send, kernel_sync, seat_send, the_row}
use Rattle.hart_runner.proofs.gate.NoGate.TheSendSync as gate
use Rattle.bench.specs.contracts.threads.two_work.{L-row}
use Rattle.bench.proofs.threads.Plan.TheSendSync as plan
use Rattle.bench.proofs.threads.two_work.Goals as goal

pub join-requires-send-F : goal.join-requires-send-F
join-requires-send-F g c κs within =
    let L = L-row g.row.L g.row.R in
    param_send 1 _ (arg_send _ no _ (three_send _ _ _ _ (shr_send _ _ _ c.type_bounds.sync-R) (shr_send _ _ _ (kernel_sync L the_row _ gate.the_sync)) (two_send _ _ _ (seat_send L _ c.type_bounds.send-L) plan.the_send)))
