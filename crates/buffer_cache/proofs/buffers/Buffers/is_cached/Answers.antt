use Rattle.buffer_cache.proofs.Lemmas.{◌≤◌, List, Option, ℕ, sym, ◌∙◌, ap, subst, is_some, IsSome, position, count_of, SeatState, has_block, IsChained, placed, once_of, first_of}
use Rattle.buffer_cache.proofs.buffers.Buffers.is_cached.Goals as goal

pub find-requires : goal.find-requires
find-requires c =
    let p = has_block c.args.b in
    record {
      chained = subst (λ (l : List SeatState). IsChained l c.self.inside.chains) (sym c.deref.ensures.value) c.self.invariant.chained;
      once = subst (λ (l : List SeatState). count_of p l ≤ 1) (sym c.deref.ensures.value)
          (once_of c.self.inside.seats.items c.self.inside.order c.args.self.now p c.self.invariant.kept.ordered c.self.view_is c.requires.once);
    }

pub returns : goal.returns
returns c =
    let p = has_block c.args.b in
    let items : List SeatState = c.self.inside.seats.items in
    let there = placed p items c.is_some.result (c.is_some.ensures ∙ ap (λ (o : Option ℕ). is_some o) (c.find.ensures ∙ ap (λ (l : List SeatState). position p l) c.deref.ensures.value)) in
    let seen = first_of items c.self.inside.order c.args.self.now p c.self.invariant.kept.ordered c.self.view_is c.requires.once in
    (λ is. subst (λ (o : Option SeatState). IsSome o) (sym seen) (there.0 is), λ some. there.1 (subst (λ (o : Option SeatState). IsSome o) seen some))
