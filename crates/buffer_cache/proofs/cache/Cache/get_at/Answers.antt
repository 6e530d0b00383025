use Rattle.buffer_cache.proofs.Lemmas.{◌≡◌, ℕ, ◌≤◌, List, Some, sym, ◌∙◌, ap, subst, IsSome, ◌↔◌, IfSome, count_of, Keeps, is_recorded, is_pinned, SeatState, is_held_by, slot_of, holder_of, seen, KeepsHeld, IfHeld, Got, Waits, GetLaws, get_laws}
use Rattle.buffer_cache.proofs.cache.Cache.get_at.Goals as goal

pub get_at-requires : goal.get_at-requires
get_at-requires g c = record {
  there = subst (λ v. (b : ℕ) × (slot_of b v.seats ≡ Some c.args.slot)) (sym c.self.view_is) (c.requires.pinned.0, c.requires.pinned.1);
  once = c.self.invariant.once;
}

pub invariant_of-self : goal.invariant_of-self
invariant_of-self g c =
    let b = c.requires.pinned.0 in
    let is = c.requires.pinned.1 in
    let one = subst (λ v. count_of (is_held_by c.args.hart) v.seats ≤ 1) (sym c.self.view_is) c.requires.few in
    let disk = g.D.Device.contents c.self.inside.device in
    let ss : List SeatState = c.self.inside.buffers in
    let at : slot_of b ss ≡ Some c.args.slot = subst (λ v. slot_of b v.seats ≡ Some c.args.slot) (sym c.self.view_is) is in
    let laws : GetLaws disk c.args.hart b ss (c.get_at.new.self, c.get_at.result) = subst (λ (r : List SeatState × Got). GetLaws disk c.args.hart b ss r) (sym (c.get_at.ensures b at)) (get_laws disk c.args.hart b ss c.requires.hart one c.self.invariant) in
    laws.sound

pub returns-clause-waits : goal.returns-clause-waits
returns-clause-waits g c b is =
    let one = subst (λ v. count_of (is_held_by c.args.hart) v.seats ≤ 1) (sym c.self.view_is) c.requires.few in
    let disk = g.D.Device.contents c.self.inside.device in
    let ss : List SeatState = c.self.inside.buffers in
    let at : slot_of b ss ≡ Some c.args.slot = subst (λ v. slot_of b v.seats ≡ Some c.args.slot) (sym c.self.view_is) is in
    let laws : GetLaws disk c.args.hart b ss (c.get_at.new.self, c.get_at.result) = subst (λ (r : List SeatState × Got). GetLaws disk c.args.hart b ss r) (sym (c.get_at.ensures b at)) (get_laws disk c.args.hart b ss c.requires.hart one c.self.invariant) in
    subst (λ v. (c.get_at.result ≡ Waits) ↔ IsSome (holder_of b v.seats)) c.self.view_is laws.waits

pub returns-clause-held : goal.returns-clause-held
returns-clause-held g c b is =
    let one = subst (λ v. count_of (is_held_by c.args.hart) v.seats ≤ 1) (sym c.self.view_is) c.requires.few in
    let disk = g.D.Device.contents c.self.inside.device in
    let ss : List SeatState = c.self.inside.buffers in
    let at : slot_of b ss ≡ Some c.args.slot = subst (λ v. slot_of b v.seats ≡ Some c.args.slot) (sym c.self.view_is) is in
    let laws : GetLaws disk c.args.hart b ss (c.get_at.new.self, c.get_at.result) = subst (λ (r : List SeatState × Got). GetLaws disk c.args.hart b ss r) (sym (c.get_at.ensures b at)) (get_laws disk c.args.hart b ss c.requires.hart one c.self.invariant) in
    laws.held

pub returns-clause-bytes : goal.returns-clause-bytes
returns-clause-bytes g c b is =
    let one = subst (λ v. count_of (is_held_by c.args.hart) v.seats ≤ 1) (sym c.self.view_is) c.requires.few in
    let disk = g.D.Device.contents c.self.inside.device in
    let ss : List SeatState = c.self.inside.buffers in
    let at : slot_of b ss ≡ Some c.args.slot = subst (λ v. slot_of b v.seats ≡ Some c.args.slot) (sym c.self.view_is) is in
    let laws : GetLaws disk c.args.hart b ss (c.get_at.new.self, c.get_at.result) = subst (λ (r : List SeatState × Got). GetLaws disk c.args.hart b ss r) (sym (c.get_at.ensures b at)) (get_laws disk c.args.hart b ss c.requires.hart one c.self.invariant) in
    subst (λ v. IfHeld c.get_at.result (λ guard. IfSome guard.value.content (λ bytes. bytes ≡ seen g.D.Device.contents v b))) c.self.view_is laws.bytes

pub returns-clause-others : goal.returns-clause-others
returns-clause-others g c =
    let b = c.requires.pinned.0 in
    let is = c.requires.pinned.1 in
    let one = subst (λ v. count_of (is_held_by c.args.hart) v.seats ≤ 1) (sym c.self.view_is) c.requires.few in
    let disk = g.D.Device.contents c.self.inside.device in
    let ss : List SeatState = c.self.inside.buffers in
    let at : slot_of b ss ≡ Some c.args.slot = subst (λ v. slot_of b v.seats ≡ Some c.args.slot) (sym c.self.view_is) is in
    let laws : GetLaws disk c.args.hart b ss (c.get_at.new.self, c.get_at.result) = subst (λ (r : List SeatState × Got). GetLaws disk c.args.hart b ss r) (sym (c.get_at.ensures b at)) (get_laws disk c.args.hart b ss c.requires.hart one c.self.invariant) in
    subst (λ v. KeepsHeld v.seats c.get_at.new.self) c.self.view_is laws.others

pub returns-clause-seen : goal.returns-clause-seen
returns-clause-seen g c k =
    let b = c.requires.pinned.0 in
    let is = c.requires.pinned.1 in
    let one = subst (λ v. count_of (is_held_by c.args.hart) v.seats ≤ 1) (sym c.self.view_is) c.requires.few in
    let disk = g.D.Device.contents c.self.inside.device in
    let ss : List SeatState = c.self.inside.buffers in
    let at : slot_of b ss ≡ Some c.args.slot = subst (λ v. slot_of b v.seats ≡ Some c.args.slot) (sym c.self.view_is) is in
    let laws : GetLaws disk c.args.hart b ss (c.get_at.new.self, c.get_at.result) = subst (λ (r : List SeatState × Got). GetLaws disk c.args.hart b ss r) (sym (c.get_at.ensures b at)) (get_laws disk c.args.hart b ss c.requires.hart one c.self.invariant) in
    laws.seen k ∙ ap (λ v. seen g.D.Device.contents v k) c.self.view_is

pub returns-clause-pins : goal.returns-clause-pins
returns-clause-pins g c =
    let b = c.requires.pinned.0 in
    let is = c.requires.pinned.1 in
    let one = subst (λ v. count_of (is_held_by c.args.hart) v.seats ≤ 1) (sym c.self.view_is) c.requires.few in
    let disk = g.D.Device.contents c.self.inside.device in
    let ss : List SeatState = c.self.inside.buffers in
    let at : slot_of b ss ≡ Some c.args.slot = subst (λ v. slot_of b v.seats ≡ Some c.args.slot) (sym c.self.view_is) is in
    let laws : GetLaws disk c.args.hart b ss (c.get_at.new.self, c.get_at.result) = subst (λ (r : List SeatState × Got). GetLaws disk c.args.hart b ss r) (sym (c.get_at.ensures b at)) (get_laws disk c.args.hart b ss c.requires.hart one c.self.invariant) in
    subst (λ v. Keeps is_pinned v.seats c.get_at.new.self) c.self.view_is laws.pins

pub returns-clause-recorded : goal.returns-clause-recorded
returns-clause-recorded g c =
    let b = c.requires.pinned.0 in
    let is = c.requires.pinned.1 in
    let one = subst (λ v. count_of (is_held_by c.args.hart) v.seats ≤ 1) (sym c.self.view_is) c.requires.few in
    let disk = g.D.Device.contents c.self.inside.device in
    let ss : List SeatState = c.self.inside.buffers in
    let at : slot_of b ss ≡ Some c.args.slot = subst (λ v. slot_of b v.seats ≡ Some c.args.slot) (sym c.self.view_is) is in
    let laws : GetLaws disk c.args.hart b ss (c.get_at.new.self, c.get_at.result) = subst (λ (r : List SeatState × Got). GetLaws disk c.args.hart b ss r) (sym (c.get_at.ensures b at)) (get_laws disk c.args.hart b ss c.requires.hart one c.self.invariant) in
    subst (λ v. Keeps is_recorded v.seats c.get_at.new.self) c.self.view_is laws.recorded
