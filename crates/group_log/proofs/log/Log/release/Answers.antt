use Rattle.group_log.proofs.Lemmas.{ap, sym, subst, ◌∙◌, List, IsOutsideLog, SeatState, slot_of, Kept, kept_back, sound_kept, slot_back, slots_kept}
use Rattle.group_log.proofs.log.Log.release.Goals as goal

pub invariant_of-self : goal.invariant_of-self
invariant_of-self g c =
    let l = c.self.inside in
    let b = c.args.guard.value.block in
    let out : IsOutsideLog l.sizes b = subst (λ v. IsOutsideLog v.sizes b) (sym c.self.view_is) c.requires.outside in
    record {
      log = sound_kept (g.D.Device.contents l.cache.device) (g.D.Device.contents c.release.new.self.device) l.cache.seats c.release.new.self.seats l.sizes l.group.items l.members l.phase b
          c.self.invariant.log (subst (λ (s : List SeatState). Kept b l.cache.seats s) (sym c.release.ensures.seats) (kept_back b l.cache.seats (c.show_each_once.ensures b)))
          out (ap g.D.Device.contents c.release.ensures.device) c.release.ensures.seen;
      placed = slots_kept l.sizes l.cache.seats c.release.new.self.seats l.group.items l.slots.items l.phase
          (λ k is. ap (λ (s : List SeatState). slot_of k s) c.release.ensures.seats ∙ slot_back b k l.cache.seats (c.show_each_once.ensures b))
          c.self.invariant.log.buffers c.self.invariant.placed;
    }
