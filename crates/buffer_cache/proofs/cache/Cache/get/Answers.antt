use Rattle.buffer_cache.proofs.Lemmas.{◌<◌, ◌≡◌, ◌≤◌, List, sym, ◌∙◌, ap, subst, IsSome, ◌↔◌, IfSome, count_of, is_any, is_unused, Keeps, is_recorded, is_pinned, SeatState, is_held_by, holder_of, seen, KeepsHeld, IfHeld, Got, Waits, some_free, GetLaws, get_laws}
use Rattle.buffer_cache.proofs.cache.Cache.get.Goals as goal

pub get-requires-clause-free : goal.get-requires-clause-free
get-requires-clause-free g c =
    let sound = c.self.invariant in
    let one = subst (λ v. count_of (is_held_by c.args.hart) v.seats ≤ 1) (sym c.self.view_is) c.requires.few in
    some_free c.self.inside.buffers c.args.hart c.requires.hart sound.count sound.few_pinned sound.few_out sound.harts one

pub invariant_of-self : goal.invariant_of-self
invariant_of-self g c =
    let one = subst (λ v. count_of (is_held_by c.args.hart) v.seats ≤ 1) (sym c.self.view_is) c.requires.few in
    let disk = g.D.Device.contents c.self.inside.device in
    let ss : List SeatState = c.self.inside.buffers in
    let laws : GetLaws disk c.args.hart c.args.b ss (c.get.new.self, c.get.result) = subst (λ (r : List SeatState × Got). GetLaws disk c.args.hart c.args.b ss r) (sym c.get.ensures) (get_laws disk c.args.hart c.args.b ss c.requires.hart one c.self.invariant) in
    laws.sound

pub returns-clause-waits : goal.returns-clause-waits
returns-clause-waits g c =
    let one = subst (λ v. count_of (is_held_by c.args.hart) v.seats ≤ 1) (sym c.self.view_is) c.requires.few in
    let disk = g.D.Device.contents c.self.inside.device in
    let ss : List SeatState = c.self.inside.buffers in
    let laws : GetLaws disk c.args.hart c.args.b ss (c.get.new.self, c.get.result) = subst (λ (r : List SeatState × Got). GetLaws disk c.args.hart c.args.b ss r) (sym c.get.ensures) (get_laws disk c.args.hart c.args.b ss c.requires.hart one c.self.invariant) in
    subst (λ v. (c.get.result ≡ Waits) ↔ IsSome (holder_of c.args.b v.seats)) c.self.view_is laws.waits

pub returns-clause-held : goal.returns-clause-held
returns-clause-held g c =
    let one = subst (λ v. count_of (is_held_by c.args.hart) v.seats ≤ 1) (sym c.self.view_is) c.requires.few in
    let disk = g.D.Device.contents c.self.inside.device in
    let ss : List SeatState = c.self.inside.buffers in
    let laws : GetLaws disk c.args.hart c.args.b ss (c.get.new.self, c.get.result) = subst (λ (r : List SeatState × Got). GetLaws disk c.args.hart c.args.b ss r) (sym c.get.ensures) (get_laws disk c.args.hart c.args.b ss c.requires.hart one c.self.invariant) in
    laws.held

pub returns-clause-bytes : goal.returns-clause-bytes
returns-clause-bytes g c =
    let one = subst (λ v. count_of (is_held_by c.args.hart) v.seats ≤ 1) (sym c.self.view_is) c.requires.few in
    let disk = g.D.Device.contents c.self.inside.device in
    let ss : List SeatState = c.self.inside.buffers in
    let laws : GetLaws disk c.args.hart c.args.b ss (c.get.new.self, c.get.result) = subst (λ (r : List SeatState × Got). GetLaws disk c.args.hart c.args.b ss r) (sym c.get.ensures) (get_laws disk c.args.hart c.args.b ss c.requires.hart one c.self.invariant) in
    subst (λ v. IfHeld c.get.result (λ guard. IfSome guard.value.content (λ bytes. bytes ≡ seen g.D.Device.contents v c.args.b))) c.self.view_is laws.bytes

pub returns-clause-others : goal.returns-clause-others
returns-clause-others g c =
    let one = subst (λ v. count_of (is_held_by c.args.hart) v.seats ≤ 1) (sym c.self.view_is) c.requires.few in
    let disk = g.D.Device.contents c.self.inside.device in
    let ss : List SeatState = c.self.inside.buffers in
    let laws : GetLaws disk c.args.hart c.args.b ss (c.get.new.self, c.get.result) = subst (λ (r : List SeatState × Got). GetLaws disk c.args.hart c.args.b ss r) (sym c.get.ensures) (get_laws disk c.args.hart c.args.b ss c.requires.hart one c.self.invariant) in
    subst (λ v. KeepsHeld v.seats c.get.new.self) c.self.view_is laws.others

pub returns-clause-seen : goal.returns-clause-seen
returns-clause-seen g c k =
    let one = subst (λ v. count_of (is_held_by c.args.hart) v.seats ≤ 1) (sym c.self.view_is) c.requires.few in
    let disk = g.D.Device.contents c.self.inside.device in
    let ss : List SeatState = c.self.inside.buffers in
    let laws : GetLaws disk c.args.hart c.args.b ss (c.get.new.self, c.get.result) = subst (λ (r : List SeatState × Got). GetLaws disk c.args.hart c.args.b ss r) (sym c.get.ensures) (get_laws disk c.args.hart c.args.b ss c.requires.hart one c.self.invariant) in
    laws.seen k ∙ ap (λ v. seen g.D.Device.contents v k) c.self.view_is

pub returns-clause-pins : goal.returns-clause-pins
returns-clause-pins g c =
    let one = subst (λ v. count_of (is_held_by c.args.hart) v.seats ≤ 1) (sym c.self.view_is) c.requires.few in
    let disk = g.D.Device.contents c.self.inside.device in
    let ss : List SeatState = c.self.inside.buffers in
    let laws : GetLaws disk c.args.hart c.args.b ss (c.get.new.self, c.get.result) = subst (λ (r : List SeatState × Got). GetLaws disk c.args.hart c.args.b ss r) (sym c.get.ensures) (get_laws disk c.args.hart c.args.b ss c.requires.hart one c.self.invariant) in
    subst (λ v. Keeps is_pinned v.seats c.get.new.self) c.self.view_is laws.pins

pub returns-clause-recorded : goal.returns-clause-recorded
returns-clause-recorded g c =
    let one = subst (λ v. count_of (is_held_by c.args.hart) v.seats ≤ 1) (sym c.self.view_is) c.requires.few in
    let disk = g.D.Device.contents c.self.inside.device in
    let ss : List SeatState = c.self.inside.buffers in
    let laws : GetLaws disk c.args.hart c.args.b ss (c.get.new.self, c.get.result) = subst (λ (r : List SeatState × Got). GetLaws disk c.args.hart c.args.b ss r) (sym c.get.ensures) (get_laws disk c.args.hart c.args.b ss c.requires.hart one c.self.invariant) in
    subst (λ v. Keeps is_recorded v.seats c.get.new.self) c.self.view_is laws.recorded

pub returns-clause-unused : goal.returns-clause-unused
returns-clause-unused g c =
    let one = subst (λ v. count_of (is_held_by c.args.hart) v.seats ≤ 1) (sym c.self.view_is) c.requires.few in
    let disk = g.D.Device.contents c.self.inside.device in
    let ss : List SeatState = c.self.inside.buffers in
    let laws : GetLaws disk c.args.hart c.args.b ss (c.get.new.self, c.get.result) = subst (λ (r : List SeatState × Got). GetLaws disk c.args.hart c.args.b ss r) (sym c.get.ensures) (get_laws disk c.args.hart c.args.b ss c.requires.hart one c.self.invariant) in
    subst (λ v. 0 < count_of is_unused v.seats → Keeps is_any v.seats c.get.new.self) c.self.view_is laws.unused
