use Rattle.buffer_cache.proofs.Lemmas.{◌≡◌, List, sym, ◌∙◌, ap, subst, IfSome, Keeps, is_recorded, is_pinned, SeatState, seen, IsHeld, KeepsOthers, BackLaws, back_laws, unchanged_kept}
use Rattle.buffer_cache.proofs.cache.Cache.release.Goals as goal

pub release-requires-clause-unchanged : goal.release-requires-clause-unchanged
release-requires-clause-unchanged g c =
    let held = subst (λ v. IsHeld v.seats c.args.guard) (sym c.self.view_is) c.requires.held in
    let same = subst (λ v. IfSome c.args.guard.value.content (λ bytes. bytes ≡ seen g.D.Device.contents v c.args.guard.value.block)) (sym c.self.view_is) c.requires.unchanged in
    unchanged_kept (g.D.Device.contents c.self.inside.device) c.self.inside.buffers c.args.guard held same

pub invariant_of-self : goal.invariant_of-self
invariant_of-self g c =
    let disk = g.D.Device.contents c.self.inside.device in
    let ss : List SeatState = c.self.inside.buffers in
    let laws : BackLaws disk c.args.guard.value.block ss c.release.new.self = subst (λ (l : List SeatState). BackLaws disk c.args.guard.value.block ss l) (sym c.release.ensures) (back_laws disk ss c.args.guard.value.block c.self.invariant) in
    laws.sound

pub returns-clause-others : goal.returns-clause-others
returns-clause-others g c =
    let disk = g.D.Device.contents c.self.inside.device in
    let ss : List SeatState = c.self.inside.buffers in
    let laws : BackLaws disk c.args.guard.value.block ss c.release.new.self = subst (λ (l : List SeatState). BackLaws disk c.args.guard.value.block ss l) (sym c.release.ensures) (back_laws disk ss c.args.guard.value.block c.self.invariant) in
    subst (λ v. KeepsOthers c.args.guard.value.block v.seats c.release.new.self) c.self.view_is laws.others

pub returns-clause-seen : goal.returns-clause-seen
returns-clause-seen g c k =
    let disk = g.D.Device.contents c.self.inside.device in
    let ss : List SeatState = c.self.inside.buffers in
    let laws : BackLaws disk c.args.guard.value.block ss c.release.new.self = subst (λ (l : List SeatState). BackLaws disk c.args.guard.value.block ss l) (sym c.release.ensures) (back_laws disk ss c.args.guard.value.block c.self.invariant) in
    laws.seen k ∙ ap (λ v. seen g.D.Device.contents v k) c.self.view_is

pub returns-clause-pins : goal.returns-clause-pins
returns-clause-pins g c =
    let disk = g.D.Device.contents c.self.inside.device in
    let ss : List SeatState = c.self.inside.buffers in
    let laws : BackLaws disk c.args.guard.value.block ss c.release.new.self = subst (λ (l : List SeatState). BackLaws disk c.args.guard.value.block ss l) (sym c.release.ensures) (back_laws disk ss c.args.guard.value.block c.self.invariant) in
    subst (λ v. Keeps is_pinned v.seats c.release.new.self) c.self.view_is laws.pins

pub returns-clause-recorded : goal.returns-clause-recorded
returns-clause-recorded g c =
    let disk = g.D.Device.contents c.self.inside.device in
    let ss : List SeatState = c.self.inside.buffers in
    let laws : BackLaws disk c.args.guard.value.block ss c.release.new.self = subst (λ (l : List SeatState). BackLaws disk c.args.guard.value.block ss l) (sym c.release.ensures) (back_laws disk ss c.args.guard.value.block c.self.invariant) in
    subst (λ v. Keeps is_recorded v.seats c.release.new.self) c.self.view_is laws.recorded
