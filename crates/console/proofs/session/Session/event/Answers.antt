use Rattle.console.proofs.Lemmas.{rules, ◌≡◌, beside_in, doing_at, hart_in, doing_set, keeps_beside}
use Rattle.console.proofs.session.Session.event.Goals as goal

pub returns : goal.returns
returns g c =
    let had : c.doing-doing.result ≡ doing_at c.hart_in-hart.result c.self.inside.doing = search rules in
    rw (← c.self.view_is) (record {
      makes = c.event-came.ensures.makes;
      honest = c.event-came.ensures.honest;
      sizes = c.event-came.ensures.sizes;
      doing = doing_set c.self.inside.doing c.put_doing.new.doing (hart_in c.args.event) c.hart_in-hart.result c.args.verb c.event-came.result c.doing-doing.result c.done_after-next.result c.put_doing.ensures c.hart_in-hart.ensures had c.done_after-next.ensures;
      beside = keeps_beside g.D.Device.contents g.D.Device.failures c.self.inside.world c.event-came.new.self c.args.event c.hart_in-hart.result c.args.copy.now c.event-came.result (beside_in c.self.inside.keeper) (beside_in c.hear.new.keeper) c.hart_in-hart.ensures c.requires c.event-came.ensures.makes c.event-came.ensures.honest c.event-came.ensures.tells c.hear.ensures;
    })
