use Rattle.explain.proofs.Lemmas.{◌<◌, ◌≤◌, ◌∙◌, ◌||◌, ◌+◌, Bool, ap, arith, drop, length, min, sym, starts_climb, starts_end, starts_more, trace_climbs}
use Rattle.explain.proofs.climbs.any_climbs.Goals as goal

pub returns-then-start_climbs : goal.returns-then-start_climbs
returns-then-start_climbs c =
    let here : c.loop-place.place < length c.args.events.now = omega arith in
    let there : c.loop-place.place < length c.args.outcomes.now = omega arith in
    let rest : Bool = starts_climb (drop (c.loop-place.place + 1) c.args.events.now) (drop (c.loop-place.place + 1) c.args.outcomes.now) in
    sym (trace_climbs c.args.events.now c.args.outcomes.now ∙ sym c.loop-place.invariant
    ∙ starts_more c.args.events.now c.args.outcomes.now c.loop-place.place c.index-events-place.result c.index-outcomes-place.result here there c.index-events-place.is c.index-outcomes-place.is
    ∙ ap (λ (b : Bool). b || rest) (sym c.start_climbs.ensures ∙ c.if-start_climbs.true))

pub loop-place-preserved : goal.loop-place-preserved
loop-place-preserved c =
    let here : c.loop-place.place < length c.args.events.now = omega arith in
    let there : c.loop-place.place < length c.args.outcomes.now = omega arith in
    let rest : Bool = starts_climb (drop (c.loop-place.place + 1) c.args.events.now) (drop (c.loop-place.place + 1) c.args.outcomes.now) in
    sym (starts_more c.args.events.now c.args.outcomes.now c.loop-place.place c.index-events-place.result c.index-outcomes-place.result here there c.index-events-place.is c.index-outcomes-place.is
    ∙ ap (λ (b : Bool). b || rest) (sym c.start_climbs.ensures ∙ c.if-start_climbs.false))
    ∙ c.loop-place.invariant

pub returns : goal.returns
returns c =
    let all : min (length c.args.events.now) (length c.args.outcomes.now) ≤ c.loop-place.place = omega arith in
    sym (trace_climbs c.args.events.now c.args.outcomes.now ∙ sym c.loop-place.invariant ∙ starts_end c.args.events.now c.args.outcomes.now c.loop-place.place all)
