use Rattle.buffer_cache.proofs.Lemmas.{List, refl, sym, subst, on_ok_weaker, SeatState, has_block, with_content, IsLinked, either_way, held_at, keeps_filled, chained_with}
use Rattle.buffer_cache.proofs.buffers.Buffers.fill.Goals as goal

pub fill_in-requires-clause-place : goal.fill_in-requires-clause-place
fill_in-requires-clause-place g c = held_at c.self.inside.seats.items c.self.inside.order c.args.self.now c.args.guard.now c.self.invariant.kept.ordered c.self.view_is c.requires.once c.requires.held

pub invariant_of-self : goal.invariant_of-self
invariant_of-self g c =
    let in_ = c.self.inside in
    either_way c.fill_in.result c.fill_in.ensures.seats c.fill_in.ensures.err
    (λ to. record {
      kept = (keeps_filled in_.slots in_.seats.items in_.order c.args.self.now c.fill_in.new.seats.items c.args.guard.now _ c.self.invariant.kept c.self.view_is c.requires.once c.requires.held to).all;
      chained = chained_with in_.seats.items c.fill_in.new.seats.items in_.chains (has_block c.args.guard.now.value.block) (with_content _) (λ _. refl) to c.self.invariant.chained;
    })
    (λ same. subst (λ (l : List SeatState). IsLinked in_.slots l in_.order in_.chains) (sym {A = List SeatState} same.1) c.self.invariant)

pub returns-clause-seats : goal.returns-clause-seats
returns-clause-seats g c =
    let in_ = c.self.inside in
    on_ok_weaker c.fill_in.result
    (λ to. (keeps_filled in_.slots in_.seats.items in_.order c.args.self.now c.fill_in.new.seats.items c.args.guard.now _ c.self.invariant.kept c.self.view_is c.requires.once c.requires.held to).view)
    c.fill_in.ensures.seats
