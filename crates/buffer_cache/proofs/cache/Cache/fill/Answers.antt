use Rattle.buffer_cache.proofs.Lemmas.{ℕ, List, sym, ◌∙◌, ap, subst, Keeps, is_recorded, is_pinned, SeatState, seen, seen_in, IsHeld, KeepsOthers, fill_either}
use Rattle.buffer_cache.proofs.cache.Cache.fill.Goals as goal

pub invariant_of-self : goal.invariant_of-self
invariant_of-self g c =
    let disk = g.D.Device.contents c.self.inside.device in
    let ss : List SeatState = c.self.inside.buffers in
    let held = subst (λ v. IsHeld v.seats c.args.guard.now) (sym c.self.view_is) c.requires.held in
    let laws = fill_either c.fill.result disk ss c.fill.new.self c.args.guard.now c.fill.new.guard held c.requires.unread c.self.invariant c.fill.ensures.ok c.fill.ensures.seats c.fill.ensures.err in
    rw c.fill.ensures.contents laws.sound

pub returns-clause-held_on : goal.returns-clause-held_on
returns-clause-held_on g c =
    let disk = g.D.Device.contents c.self.inside.device in
    let ss : List SeatState = c.self.inside.buffers in
    let held = subst (λ v. IsHeld v.seats c.args.guard.now) (sym c.self.view_is) c.requires.held in
    let laws = fill_either c.fill.result disk ss c.fill.new.self c.args.guard.now c.fill.new.guard held c.requires.unread c.self.invariant c.fill.ensures.ok c.fill.ensures.seats c.fill.ensures.err in
    laws.held

pub returns-clause-bytes : goal.returns-clause-bytes
returns-clause-bytes g c =
    let disk = g.D.Device.contents c.self.inside.device in
    let ss : List SeatState = c.self.inside.buffers in
    let held = subst (λ v. IsHeld v.seats c.args.guard.now) (sym c.self.view_is) c.requires.held in
    let laws = fill_either c.fill.result disk ss c.fill.new.self c.args.guard.now c.fill.new.guard held c.requires.unread c.self.invariant c.fill.ensures.ok c.fill.ensures.seats c.fill.ensures.err in
    rw c.fill.ensures.contents laws.bytes

pub returns-clause-others : goal.returns-clause-others
returns-clause-others g c =
    let disk = g.D.Device.contents c.self.inside.device in
    let ss : List SeatState = c.self.inside.buffers in
    let held = subst (λ v. IsHeld v.seats c.args.guard.now) (sym c.self.view_is) c.requires.held in
    let laws = fill_either c.fill.result disk ss c.fill.new.self c.args.guard.now c.fill.new.guard held c.requires.unread c.self.invariant c.fill.ensures.ok c.fill.ensures.seats c.fill.ensures.err in
    subst (λ v. KeepsOthers c.args.guard.now.value.block v.seats c.fill.new.self) c.self.view_is laws.others

pub returns-clause-seen : goal.returns-clause-seen
returns-clause-seen g c k =
    let disk = g.D.Device.contents c.self.inside.device in
    let ss : List SeatState = c.self.inside.buffers in
    let held = subst (λ v. IsHeld v.seats c.args.guard.now) (sym c.self.view_is) c.requires.held in
    let laws = fill_either c.fill.result disk ss c.fill.new.self c.args.guard.now c.fill.new.guard held c.requires.unread c.self.invariant c.fill.ensures.ok c.fill.ensures.seats c.fill.ensures.err in
    ap (λ (d : List (List ℕ)). seen_in d c.fill.new.self k) c.fill.ensures.contents ∙ laws.seen k ∙ ap (λ v. seen g.D.Device.contents v k) c.self.view_is

pub returns-clause-pins : goal.returns-clause-pins
returns-clause-pins g c =
    let disk = g.D.Device.contents c.self.inside.device in
    let ss : List SeatState = c.self.inside.buffers in
    let held = subst (λ v. IsHeld v.seats c.args.guard.now) (sym c.self.view_is) c.requires.held in
    let laws = fill_either c.fill.result disk ss c.fill.new.self c.args.guard.now c.fill.new.guard held c.requires.unread c.self.invariant c.fill.ensures.ok c.fill.ensures.seats c.fill.ensures.err in
    subst (λ v. Keeps is_pinned v.seats c.fill.new.self) c.self.view_is laws.pins

pub returns-clause-recorded : goal.returns-clause-recorded
returns-clause-recorded g c =
    let disk = g.D.Device.contents c.self.inside.device in
    let ss : List SeatState = c.self.inside.buffers in
    let held = subst (λ v. IsHeld v.seats c.args.guard.now) (sym c.self.view_is) c.requires.held in
    let laws = fill_either c.fill.result disk ss c.fill.new.self c.args.guard.now c.fill.new.guard held c.requires.unread c.self.invariant c.fill.ensures.ok c.fill.ensures.seats c.fill.ensures.err in
    subst (λ v. Keeps is_recorded v.seats c.fill.new.self) c.self.view_is laws.recorded
