use Rattle.console.proofs.Lemmas.{happened}
use Rattle.console.proofs.commands.happen.Goals as goal

pub returns : goal.returns
returns g c = happened g.D.Device.contents g.D.Device.failures c.args.event c.args.verb c.event-came.result c.hart_in-hart.result c.args.copy c.args.session.now c.event-came.new.self c.args.running.now.queues _ _ _ _ c.tell.result
    c.hart_in-hart.ensures c.requires c.event-came.ensures c.tell.ensures.passed c.tell.ensures.prints c.tell.ensures.notes
