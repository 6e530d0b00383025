use Rattle.buffer_cache.proofs.Lemmas.{◌≡◌, ℕ, ◌<◌, length, sym, ◌∙◌, ap, subst, set, change_to_end, without_holder, IsKept, numbered, is_same, Row, held_out, held_of, held_number, keeps_given, chained_back}
use Rattle.buffer_cache.proofs.buffers.Buffers.release.Goals as goal

pub unlock-requires : goal.unlock-requires
unlock-requires c =
    held_out c.self.inside.slots c.self.inside.seats.items c.args.guard c.self.invariant.kept.seated
    (held_of c.self.inside.seats.items c.self.inside.order c.args.self.now c.args.guard c.self.invariant.kept.ordered c.self.view_is c.requires.once c.requires.held)

pub give_back-requires-clause-place : goal.give_back-requires-clause-place
give_back-requires-clause-place c =
    subst (λ (n : ℕ). n < length c.self.inside.seats.items) (sym c.number-place.ensures)
    (held_number c.self.inside.seats.items c.self.inside.order c.args.self.now c.args.guard c.self.invariant.kept.ordered c.self.view_is c.requires.once c.requires.held)

pub give_back-requires-clause-ordered : goal.give_back-requires-clause-ordered
give_back-requires-clause-ordered c = c.self.invariant.kept.ordered

pub invariant_of-self : goal.invariant_of-self
invariant_of-self c =
    let in_ = c.self.inside in
    let seats : c.give_back.new.seats.items ≡ set in_.seats.items c.args.guard.number (without_holder (numbered in_.seats.items c.args.guard.number)) =
    c.give_back.ensures.seats ∙ ap (λ (n : ℕ). set in_.seats.items n (without_holder (numbered in_.seats.items n))) c.number-place.ensures in
    let order = c.give_back.ensures.order ∙ ap (λ (n : ℕ). change_to_end (is_same n) (λ k. k) in_.order) c.number-place.ensures in
    let after = keeps_given in_.slots in_.seats.items in_.order c.args.self.now c.give_back.new.seats.items c.give_back.new.order c.args.guard c.self.invariant.kept c.self.view_is c.requires.once c.requires.held c.requires.unchanged seats order in
    record {
      kept = subst (λ (w : Row). IsKept w c.give_back.new.seats.items c.give_back.new.order) (sym c.unlock.ensures.slots) after.all;
      chained = chained_back in_.seats.items c.give_back.new.seats.items in_.chains c.args.guard.number seats c.self.invariant.chained;
    }

pub returns : goal.returns
returns c =
    let in_ = c.self.inside in
    let seats : c.give_back.new.seats.items ≡ set in_.seats.items c.args.guard.number (without_holder (numbered in_.seats.items c.args.guard.number)) =
    c.give_back.ensures.seats ∙ ap (λ (n : ℕ). set in_.seats.items n (without_holder (numbered in_.seats.items n))) c.number-place.ensures in
    let order = c.give_back.ensures.order ∙ ap (λ (n : ℕ). change_to_end (is_same n) (λ k. k) in_.order) c.number-place.ensures in
    (keeps_given in_.slots in_.seats.items in_.order c.args.self.now c.give_back.new.seats.items c.give_back.new.order c.args.guard c.self.invariant.kept c.self.view_is c.requires.once c.requires.held c.requires.unchanged seats order).view
