use Rattle.group_log.proofs.Lemmas.{◌≡◌, ◌∙◌, ap, ℕ, List, false, SeatState, with_seat, with_pin, given_back, recorded_pinned, gets_recorded, waits_same, same_cache, put_back, put_home}
use Rattle.group_log.proofs.copies.copy_home.Goals as goal

pub get_at-requires-clause-pinned : goal.get_at-requires-clause-pinned
get_at-requires-clause-pinned g c = (c.args.recorded.block, c.requires.slot, recorded_pinned c.args.recorded.block c.args.cache.now.seats c.requires.pinned)

pub write_home-requires-clause-valid : goal.write_home-requires-clause-valid
write_home-requires-clause-valid g c =
    (gets_recorded c.args.hart c.args.recorded.block c.args.cache.now.seats c.get_at.new.self.seats c.get_at.result c.in-Held.guard c.requires.pinned (c.get_at.ensures.gives c.args.recorded.block c.requires.slot) c.in-Held.is).valid

pub returns-in-Waits-clause-same : goal.returns-in-Waits-clause-same
returns-in-Waits-clause-same g c =
    λ _. same_cache c.get_at.new.self c.args.cache.now c.get_at.ensures.device (waits_same c.args.hart c.args.recorded.block c.args.cache.now.seats c.get_at.new.self.seats c.get_at.result (c.get_at.ensures.gives c.args.recorded.block c.requires.slot) c.in-Waits.is)

pub returns-in-Waits-clause-seats : goal.returns-in-Waits-clause-seats
returns-in-Waits-clause-seats g c = waits_same c.args.hart c.args.recorded.block c.args.cache.now.seats c.get_at.new.self.seats c.get_at.result (c.get_at.ensures.gives c.args.recorded.block c.requires.slot) c.in-Waits.is

pub returns-in-Ok-clause-seats : goal.returns-in-Ok-clause-seats
returns-in-Ok-clause-seats g c =
    let ss = c.args.cache.now.seats in
    let b = c.args.recorded.block in
    let got = gets_recorded c.args.hart b ss c.get_at.new.self.seats c.get_at.result c.in-Held.guard c.requires.pinned (c.get_at.ensures.gives c.args.recorded.block c.requires.slot) c.in-Held.is in
    let block : c.in-Held.guard.value.block ≡ b = (c.in-Held.ensures.held c.args.recorded.block c.requires.slot).1 in
    c.release.ensures.seats
    ∙ ap (λ (k : ℕ). given_back k c.unpin.new.self.seats) block
    ∙ ap (λ (l : List SeatState). given_back b l) (c.unpin.ensures.seats ∙ ap (λ (k : ℕ). with_seat k (with_pin false) c.write_home.new.self.seats) block ∙ ap (λ (l : List SeatState). with_seat b (with_pin false) l) (c.write_home.ensures.seats ∙ got.seats))
    ∙ put_home c.args.hart b ss

pub returns-in-Err-clause-seats : goal.returns-in-Err-clause-seats
returns-in-Err-clause-seats g c =
    let ss = c.args.cache.now.seats in
    let b = c.args.recorded.block in
    let got = gets_recorded c.args.hart b ss c.get_at.new.self.seats c.get_at.result c.in-Held.guard c.requires.pinned (c.get_at.ensures.gives c.args.recorded.block c.requires.slot) c.in-Held.is in
    let block : c.in-Held.guard.value.block ≡ b = (c.in-Held.ensures.held c.args.recorded.block c.requires.slot).1 in
    c.release-in-Err.ensures.seats
    ∙ ap (λ (k : ℕ). given_back k c.write_home.new.self.seats) block
    ∙ ap (λ (l : List SeatState). given_back b l) (c.write_home.ensures.seats ∙ got.seats)
    ∙ put_back c.args.hart b ss
