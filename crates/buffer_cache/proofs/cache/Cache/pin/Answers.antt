use Rattle.buffer_cache.proofs.Lemmas.{◌≡◌, ◌<◌, ◌⊎◌, List, sym, ◌∙◌, ap, subst, Some, true, option_map, count_of, Keeps, is_recorded, IsPinned, SeatState, is_pinned, seat_of, seen, seen_in, KeepsHeld, IsHeld, IsSound, held_cached, sound_pin, pin_block, pin_pins, pin_recorded, pin_keeps, pin_seen}
use Rattle.buffer_cache.proofs.cache.Cache.pin.Goals as goal

pub invariant_of-self : goal.invariant_of-self
invariant_of-self g c =
    let disk = g.D.Device.contents c.self.inside.device in
    let premise = subst (λ v. (option_map is_pinned (seat_of c.args.guard.now.value.block v.seats) ≡ Some true) ⊎ (count_of is_pinned v.seats < 30)) (sym c.self.view_is) c.requires.room in
    subst (λ (l : List SeatState). IsSound disk l) (sym c.set_pinned.ensures) (sound_pin disk c.self.inside.buffers c.args.guard.now.value.block premise c.self.invariant)

pub returns-clause-others : goal.returns-clause-others
returns-clause-others g c =
    let keeps = subst (λ (l : List SeatState). KeepsHeld c.self.inside.buffers l) (sym c.set_pinned.ensures) (pin_keeps c.self.inside.buffers c.args.guard.now.value.block true) in
    subst (λ v. KeepsHeld v.seats c.set_pinned.new.self) c.self.view_is keeps

pub returns-clause-seen : goal.returns-clause-seen
returns-clause-seen g c k =
    let disk = g.D.Device.contents c.self.inside.device in
    ap (λ (l : List SeatState). seen_in disk l k) c.set_pinned.ensures ∙ pin_seen disk c.self.inside.buffers c.args.guard.now.value.block true k ∙ ap (λ v. seen g.D.Device.contents v k) c.self.view_is

pub returns-clause-pinned : goal.returns-clause-pinned
returns-clause-pinned g c =
    let held = subst (λ v. IsHeld v.seats c.args.guard.now) (sym c.self.view_is) c.requires.held in
    subst (λ (l : List SeatState). IsPinned c.args.guard.now.value.block l) (sym c.set_pinned.ensures) (pin_block c.self.inside.buffers c.args.guard.now.value.block (held_cached c.self.inside.buffers c.args.guard.now held))

pub returns-clause-pins : goal.returns-clause-pins
returns-clause-pins g c =
    let keeps = subst (λ (l : List SeatState). Keeps is_pinned c.self.inside.buffers l) (sym c.set_pinned.ensures) (pin_pins c.self.inside.buffers c.args.guard.now.value.block) in
    subst (λ v. Keeps is_pinned v.seats c.set_pinned.new.self) c.self.view_is keeps

pub returns-clause-recorded : goal.returns-clause-recorded
returns-clause-recorded g c =
    let keeps = subst (λ (l : List SeatState). Keeps is_recorded c.self.inside.buffers l) (sym c.set_pinned.ensures) (pin_recorded c.self.inside.buffers c.args.guard.now.value.block) in
    subst (λ v. Keeps is_recorded v.seats c.set_pinned.new.self) c.self.view_is keeps
