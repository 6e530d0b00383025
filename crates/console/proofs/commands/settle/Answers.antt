use Rattle.console.proofs.Lemmas.{rules, ◌≡◌, Err, Rests, Waits, Moves, quiet, settle_fault, settled_so}
use Rattle.console.proofs.commands.settle.Goals as goal

pub returns-in_err-last : goal.returns-in_err-last
returns-in_err-last g c =
    let fails : c.from_residual.result ≡ Err c.in_err-last.field-0.0 = search rules in
    settle_fault g.D.Device.contents g.D.Device.failures c.args.plan.now c.args.harts.now c.in_err-last.field-0.0 c.from_residual.result _ _ _ _ _ _ fails c.in_err-last.ensures

pub returns-in-Waits : goal.returns-in-Waits
returns-in-Waits g c =
    settled_so g.D.Device.contents g.D.Device.failures c.args.plan.now c.args.harts.now c.in_ok-last.last Waits _ _ _ _ _ _ _ _ _ c.tell_waits.result c.in-Waits.is c.in_ok-last.ensures (c.tell_waits.ensures c.turns.new.running.queues c.turns.new.running.notes)

pub returns-in-Moves : goal.returns-in-Moves
returns-in-Moves g c = settled_so g.D.Device.contents g.D.Device.failures c.args.plan.now c.args.harts.now c.in_ok-last.last Moves _ _ _ _ _ _ _ _ _ _ c.in-Moves.is c.in_ok-last.ensures (quiet g.D.Device.contents g.D.Device.failures _ _ _)

pub returns-in-Rests : goal.returns-in-Rests
returns-in-Rests g c = settled_so g.D.Device.contents g.D.Device.failures c.args.plan.now c.args.harts.now c.in_ok-last.last Rests _ _ _ _ _ _ _ _ _ _ c.in-Rests.is c.in_ok-last.ensures (quiet g.D.Device.contents g.D.Device.failures _ _ _)
