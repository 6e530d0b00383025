use Rattle.group_log.proofs.Lemmas.{◌≡◌, ◌∙◌, ap, sym, subst, IsOutsideLog, same_cache, waits_same, kept_get, sound_kept, slots_get, slots_kept}
use Rattle.group_log.proofs.log.Log.get.Goals as goal

pub invariant_of-self : goal.invariant_of-self
invariant_of-self g c =
    let l = c.self.inside in
    let out : IsOutsideLog l.sizes c.args.b = subst (λ v. IsOutsideLog v.sizes c.args.b) (sym c.self.view_is) c.requires.outside in
    record {
      log = sound_kept (g.D.Device.contents l.cache.device) (g.D.Device.contents c.get.new.self.device) l.cache.seats c.get.new.self.seats l.sizes l.group.items l.members l.phase c.args.b
          c.self.invariant.log (kept_get c.args.hart c.args.b l.cache.seats c.get.new.self.seats c.get.result c.get.ensures.gives) out (ap g.D.Device.contents c.get.ensures.device) c.get.ensures.seen;
      placed = slots_kept l.sizes l.cache.seats c.get.new.self.seats l.group.items l.slots.items l.phase (slots_get c.args.hart c.args.b l.cache.seats c.get.new.self.seats c.get.result c.get.ensures.gives) c.self.invariant.log.buffers c.self.invariant.placed;
    }

pub returns-clause-same : goal.returns-clause-same
returns-clause-same g c waits =
    let l = c.self.inside in
    let cache : c.get.new.self ≡ l.cache =
    same_cache c.get.new.self l.cache c.get.ensures.device (waits_same c.args.hart c.args.b l.cache.seats c.get.new.self.seats c.get.result c.get.ensures.gives waits) in
    (λ i. record { cache = cache i; sizes = l.sizes; group = l.group.items; members = l.members; phase = l.phase }) ∙ c.self.view_is
