use Rattle.group_log.proofs.Lemmas.{◌≡◌, ◌∙◌, ap, sym, refl, ℕ, List, SeatState, seat_of, with_holder, given_back, seat_of_others, recorded_pinned, gets_recorded, waits_same, same_cache, put_back, apart_from, same_seats}
use Rattle.group_log.proofs.copies.copy_to_log.Goals as goal

pub get_at-requires-clause-pinned : goal.get_at-requires-clause-pinned
get_at-requires-clause-pinned g c = (c.args.recorded.block, c.requires.slot, recorded_pinned c.args.recorded.block c.args.cache.now.seats c.requires.pinned)

pub write_copy-made-requires-clause-valid : goal.write_copy-made-requires-clause-valid
write_copy-made-requires-clause-valid g c =
    (gets_recorded c.args.hart c.args.recorded.block c.args.cache.now.seats c.get_at.new.self.seats c.get_at.result c.in-Held.guard c.requires.pinned (c.get_at.ensures.gives c.args.recorded.block c.requires.slot) c.in-Held.is).valid

pub write_copy-made-requires-clause-uncached : goal.write_copy-made-requires-clause-uncached
write_copy-made-requires-clause-uncached g c =
    let ss = c.args.cache.now.seats in
    let got = gets_recorded c.args.hart c.args.recorded.block ss c.get_at.new.self.seats c.get_at.result c.in-Held.guard c.requires.pinned (c.get_at.ensures.gives c.args.recorded.block c.requires.slot) c.in-Held.is in
    ap (λ (l : List SeatState). seat_of c.args.at l) got.seats
    ∙ seat_of_others c.args.recorded.block c.args.at (with_holder c.args.hart) ss (λ s. refl) (λ e. apart_from c.args.recorded.block c.args.at ss c.requires.pinned c.requires.uncached (sym e))
    ∙ c.requires.uncached

pub returns-in-Waits-clause-same : goal.returns-in-Waits-clause-same
returns-in-Waits-clause-same g c =
    λ _. same_cache c.get_at.new.self c.args.cache.now c.get_at.ensures.device (waits_same c.args.hart c.args.recorded.block c.args.cache.now.seats c.get_at.new.self.seats c.get_at.result (c.get_at.ensures.gives c.args.recorded.block c.requires.slot) c.in-Waits.is)

pub returns-in-Waits-clause-seats : goal.returns-in-Waits-clause-seats
returns-in-Waits-clause-seats g c = waits_same c.args.hart c.args.recorded.block c.args.cache.now.seats c.get_at.new.self.seats c.get_at.result (c.get_at.ensures.gives c.args.recorded.block c.requires.slot) c.in-Waits.is

pub returns-in-Held-clause-seats : goal.returns-in-Held-clause-seats
returns-in-Held-clause-seats g c =
    let ss = c.args.cache.now.seats in
    let b = c.args.recorded.block in
    let got = gets_recorded c.args.hart b ss c.get_at.new.self.seats c.get_at.result c.in-Held.guard c.requires.pinned (c.get_at.ensures.gives c.args.recorded.block c.requires.slot) c.in-Held.is in
    let block : c.in-Held.guard.value.block ≡ b = (c.in-Held.ensures.held c.args.recorded.block c.requires.slot).1 in
    let back : c.release.new.self.seats ≡ given_back b ss =
    c.release.ensures.seats
    ∙ ap (λ (k : ℕ). given_back k c.write_copy-made.new.cache.seats) block
    ∙ ap (λ (l : List SeatState). given_back b l) (c.write_copy-made.ensures.seats ∙ got.seats)
    ∙ put_back c.args.hart b ss in
    back ∙ sym (same_seats c.write_copy-made.result c.outcome.result ss (given_back b ss) c.outcome.ensures)
