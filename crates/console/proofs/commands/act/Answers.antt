use Rattle.console.proofs.Lemmas.{call_said, began_next, had_enough, had_none, made_step, sym, ◌∙◌}
use Rattle.console.proofs.commands.act.Goals as goal

pub returns-then-is_enough : goal.returns-then-is_enough
returns-then-is_enough g c = had_enough g.D.Device.contents g.D.Device.failures c.args.until c.args.hart c.in-Some.doing _ _ _ c.in-Some.ensures (sym c.is_enough.ensures ∙ c.if-is_enough.true)

pub returns-else-is_enough : goal.returns-else-is_enough
returns-else-is_enough g c = made_step g.D.Device.contents g.D.Device.failures c.args.until c.args.hart c.in-Some.doing _ _ _ _ _ _ c.happen.result c.in-Some.ensures (sym c.is_enough.ensures ∙ c.if-is_enough.false) c.happen.ensures

pub returns-in-Some-take_next : goal.returns-in-Some-take_next
returns-in-Some-take_next g c =
    began_next g.D.Device.contents g.D.Device.failures c.args.until c.args.hart (call_said c.in-Some-take_next.call) c.args.session.now c.args.running.now.queues _ _ _ _ _ _ c.start.result c.in-None.ensures c.in-Some-take_next.ensures c.start.ensures

pub returns-in-None-take_next : goal.returns-in-None-take_next
returns-in-None-take_next g c = had_none g.D.Device.contents g.D.Device.failures c.args.until c.args.hart c.args.session.now c.args.running.now.queues _ _ _ c.in-None.ensures c.in-None-take_next.ensures
