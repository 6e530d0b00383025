use Rattle.buffer_cache.proofs.Lemmas.{◌≡◌, List, sym, ◌∙◌, ap, subst, false, block_at, is_recorded, is_pinned, IsPinned, IsRecorded, SeatState, seen, seen_in, KeepsHeld, IsSound, sound_unpin, unpin_others, pin_keeps, pin_seen}
use Rattle.buffer_cache.proofs.cache.Cache.unpin.Goals as goal

pub invariant_of-self : goal.invariant_of-self
invariant_of-self g c =
    let disk = g.D.Device.contents c.self.inside.device in
    let premise = subst (λ v. block_at (g.D.Device.contents v.device) c.args.guard.now.value.block ≡ seen g.D.Device.contents v c.args.guard.now.value.block) (sym c.self.view_is) c.requires.home in
    subst (λ (l : List SeatState). IsSound disk l) (sym c.set_pinned.ensures) (sound_unpin disk c.self.inside.buffers c.args.guard.now.value.block premise c.self.invariant)

pub returns-clause-others : goal.returns-clause-others
returns-clause-others g c =
    let keeps = subst (λ (l : List SeatState). KeepsHeld c.self.inside.buffers l) (sym c.set_pinned.ensures) (pin_keeps c.self.inside.buffers c.args.guard.now.value.block false) in
    subst (λ v. KeepsHeld v.seats c.set_pinned.new.self) c.self.view_is keeps

pub returns-clause-seen : goal.returns-clause-seen
returns-clause-seen g c k =
    let disk = g.D.Device.contents c.self.inside.device in
    ap (λ (l : List SeatState). seen_in disk l k) c.set_pinned.ensures ∙ pin_seen disk c.self.inside.buffers c.args.guard.now.value.block false k ∙ ap (λ v. seen g.D.Device.contents v k) c.self.view_is

pub returns-clause-pins : goal.returns-clause-pins
returns-clause-pins g c k ne pinned =
    let before = subst (λ v. IsPinned k v.seats) (sym c.self.view_is) pinned in
    subst (λ (l : List SeatState). IsPinned k l) (sym c.set_pinned.ensures) (unpin_others is_pinned c.self.inside.buffers c.args.guard.now.value.block k ne before)

pub returns-clause-recorded : goal.returns-clause-recorded
returns-clause-recorded g c k ne recorded =
    let before = subst (λ v. IsRecorded k v.seats) (sym c.self.view_is) recorded in
    subst (λ (l : List SeatState). IsRecorded k l) (sym c.set_pinned.ensures) (unpin_others is_recorded c.self.inside.buffers c.args.guard.now.value.block k ne before)
