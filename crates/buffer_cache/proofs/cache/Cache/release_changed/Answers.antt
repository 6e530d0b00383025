use Rattle.buffer_cache.proofs.Lemmas.{◌≡◌, List, sym, ◌∙◌, ap, subst, Some, true, ◌==◌, if◌then◌else◌, [], option_map, unwrap_or, Keeps, is_recorded, is_pinned, IsRecorded, SeatState, seat_of, seen, seen_in, IsHeld, KeepsOthers, IsSound, change_some, once_content}
use Rattle.buffer_cache.proofs.cache.Cache.release_changed.Goals as goal

pub release-requires-clause-held : goal.release-requires-clause-held
release-requires-clause-held g c =
    let disk = g.D.Device.contents c.self.inside.device in
    let ss : List SeatState = c.self.inside.buffers in
    let held = subst (λ v. IsHeld v.seats c.args.guard) (sym c.self.view_is) c.requires.held in
    let pinned = subst (λ v. option_map is_pinned (seat_of c.args.guard.value.block v.seats) ≡ Some true) (sym c.self.view_is) c.requires.pinned in
    let laws = change_some disk ss c.keep.new.self c.args.guard held c.requires.valid pinned c.self.invariant c.keep.ensures in
    laws.held

pub release-requires-clause-unchanged : goal.release-requires-clause-unchanged
release-requires-clause-unchanged g c =
    let disk = g.D.Device.contents c.self.inside.device in
    let ss : List SeatState = c.self.inside.buffers in
    let held = subst (λ v. IsHeld v.seats c.args.guard) (sym c.self.view_is) c.requires.held in
    let pinned = subst (λ v. option_map is_pinned (seat_of c.args.guard.value.block v.seats) ≡ Some true) (sym c.self.view_is) c.requires.pinned in
    let laws = change_some disk ss c.keep.new.self c.args.guard held c.requires.valid pinned c.self.invariant c.keep.ensures in
    laws.kept_then

pub release-requires-clause-once : goal.release-requires-clause-once
release-requires-clause-once g c = once_content c.self.inside.buffers c.keep.new.self c.args.guard.value.block c.args.guard.value.content c.requires.valid (c.self.invariant.once c.args.guard.value.block) c.keep.ensures

pub invariant_of-self : goal.invariant_of-self
invariant_of-self g c =
    let disk = g.D.Device.contents c.self.inside.device in
    let ss : List SeatState = c.self.inside.buffers in
    let held = subst (λ v. IsHeld v.seats c.args.guard) (sym c.self.view_is) c.requires.held in
    let pinned = subst (λ v. option_map is_pinned (seat_of c.args.guard.value.block v.seats) ≡ Some true) (sym c.self.view_is) c.requires.pinned in
    let laws = change_some disk ss c.keep.new.self c.args.guard held c.requires.valid pinned c.self.invariant c.keep.ensures in
    subst (λ (l : List SeatState). IsSound disk l) (sym c.release.ensures) laws.sound

pub returns-clause-others : goal.returns-clause-others
returns-clause-others g c =
    let disk = g.D.Device.contents c.self.inside.device in
    let ss : List SeatState = c.self.inside.buffers in
    let held = subst (λ v. IsHeld v.seats c.args.guard) (sym c.self.view_is) c.requires.held in
    let pinned = subst (λ v. option_map is_pinned (seat_of c.args.guard.value.block v.seats) ≡ Some true) (sym c.self.view_is) c.requires.pinned in
    let laws = change_some disk ss c.keep.new.self c.args.guard held c.requires.valid pinned c.self.invariant c.keep.ensures in
    subst (λ v. KeepsOthers c.args.guard.value.block v.seats c.release.new.self) c.self.view_is
    (subst (λ (l : List SeatState). KeepsOthers c.args.guard.value.block ss l) (sym c.release.ensures) laws.others)

pub returns-clause-seen : goal.returns-clause-seen
returns-clause-seen g c k =
    let disk = g.D.Device.contents c.self.inside.device in
    let ss : List SeatState = c.self.inside.buffers in
    let held = subst (λ v. IsHeld v.seats c.args.guard) (sym c.self.view_is) c.requires.held in
    let pinned = subst (λ v. option_map is_pinned (seat_of c.args.guard.value.block v.seats) ≡ Some true) (sym c.self.view_is) c.requires.pinned in
    let laws = change_some disk ss c.keep.new.self c.args.guard held c.requires.valid pinned c.self.invariant c.keep.ensures in
    ap (λ (l : List SeatState). seen_in disk l k) c.release.ensures ∙ laws.seen k
    ∙ ap (λ v. if k == c.args.guard.value.block then unwrap_or c.args.guard.value.content [] else seen g.D.Device.contents v k) c.self.view_is

pub returns-clause-pins : goal.returns-clause-pins
returns-clause-pins g c =
    let disk = g.D.Device.contents c.self.inside.device in
    let ss : List SeatState = c.self.inside.buffers in
    let held = subst (λ v. IsHeld v.seats c.args.guard) (sym c.self.view_is) c.requires.held in
    let pinned = subst (λ v. option_map is_pinned (seat_of c.args.guard.value.block v.seats) ≡ Some true) (sym c.self.view_is) c.requires.pinned in
    let laws = change_some disk ss c.keep.new.self c.args.guard held c.requires.valid pinned c.self.invariant c.keep.ensures in
    subst (λ v. Keeps is_pinned v.seats c.release.new.self) c.self.view_is (subst (λ (l : List SeatState). Keeps is_pinned ss l) (sym c.release.ensures) laws.pins)

pub returns-clause-recorded : goal.returns-clause-recorded
returns-clause-recorded g c =
    let disk = g.D.Device.contents c.self.inside.device in
    let ss : List SeatState = c.self.inside.buffers in
    let held = subst (λ v. IsHeld v.seats c.args.guard) (sym c.self.view_is) c.requires.held in
    let pinned = subst (λ v. option_map is_pinned (seat_of c.args.guard.value.block v.seats) ≡ Some true) (sym c.self.view_is) c.requires.pinned in
    let laws = change_some disk ss c.keep.new.self c.args.guard held c.requires.valid pinned c.self.invariant c.keep.ensures in
    subst (λ v. Keeps is_recorded v.seats c.release.new.self) c.self.view_is (subst (λ (l : List SeatState). Keeps is_recorded ss l) (sym c.release.ensures) laws.recorded)

pub returns-clause-block : goal.returns-clause-block
returns-clause-block g c =
    let disk = g.D.Device.contents c.self.inside.device in
    let ss : List SeatState = c.self.inside.buffers in
    let held = subst (λ v. IsHeld v.seats c.args.guard) (sym c.self.view_is) c.requires.held in
    let pinned = subst (λ v. option_map is_pinned (seat_of c.args.guard.value.block v.seats) ≡ Some true) (sym c.self.view_is) c.requires.pinned in
    let laws = change_some disk ss c.keep.new.self c.args.guard held c.requires.valid pinned c.self.invariant c.keep.ensures in
    subst (λ (l : List SeatState). IsRecorded c.args.guard.value.block l) (sym c.release.ensures) laws.block
