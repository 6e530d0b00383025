use Rattle.explain.proofs.Lemmas.{◌<◌, ◌^◌, ◌∙◌, sym, Err, Ok, length, arith, climbs_out, full_out, list_out, short_out, told_of, FullSeen, Climbs, NoMemory}
use Rattle.explain.proofs.history.explain_noted.Goals as goal

pub returns-then-is_full-clause-kept : goal.returns-then-is_full-clause-kept
returns-then-is_full-clause-kept c = full_out c.args.events.now c.args.outcomes.now c.args.keeper (c.is_full.ensures.full c.if-is_full.true)

pub returns-then-is_full-clause-owns : goal.returns-then-is_full-clause-owns
returns-then-is_full-clause-owns c = λ image run same keeps.
    let few : length c.args.events.now < 2 ^ 64 = omega arith in
    told_of image c.args.events.now few run c.args.outcomes.now same c.args.keeper keeps (Err FullSeen)
    (full_out c.args.events.now c.args.outcomes.now c.args.keeper (c.is_full.ensures.full c.if-is_full.true))

pub returns-in_default-clause-kept : goal.returns-in_default-clause-kept
returns-in_default-clause-kept c = short_out c.args.events.now c.args.outcomes.now c.args.keeper c.in_default.ensures

pub returns-in_default-clause-owns : goal.returns-in_default-clause-owns
returns-in_default-clause-owns c = λ image run same keeps.
    let few : length c.args.events.now < 2 ^ 64 = omega arith in
    told_of image c.args.events.now few run c.args.outcomes.now same c.args.keeper keeps (Err NoMemory)
    (short_out c.args.events.now c.args.outcomes.now c.args.keeper c.in_default.ensures)

pub returns-then-any_climbs-clause-kept : goal.returns-then-any_climbs-clause-kept
returns-then-any_climbs-clause-kept c =
    climbs_out c.args.events.now c.args.outcomes.now c.args.keeper _ (c.is_full.ensures.room c.if-is_full.false) c.in-Ok.ensures
    (sym c.any_climbs.ensures ∙ c.if-any_climbs.true)

pub returns-then-any_climbs-clause-owns : goal.returns-then-any_climbs-clause-owns
returns-then-any_climbs-clause-owns c = λ image run same keeps.
    let few : length c.args.events.now < 2 ^ 64 = omega arith in
    told_of image c.args.events.now few run c.args.outcomes.now same c.args.keeper keeps (Err Climbs)
    (climbs_out c.args.events.now c.args.outcomes.now c.args.keeper _ (c.is_full.ensures.room c.if-is_full.false) c.in-Ok.ensures
    (sym c.any_climbs.ensures ∙ c.if-any_climbs.true))

pub returns-clause-kept : goal.returns-clause-kept
returns-clause-kept c =
    list_out c.args.events.now c.args.outcomes.now c.args.keeper c.in-Ok.list.items (c.is_full.ensures.room c.if-is_full.false) c.in-Ok.ensures
    (sym c.any_climbs.ensures ∙ c.if-any_climbs.false)

pub returns-clause-owns : goal.returns-clause-owns
returns-clause-owns c = λ image run same keeps.
    let few : length c.args.events.now < 2 ^ 64 = omega arith in
    told_of image c.args.events.now few run c.args.outcomes.now same c.args.keeper keeps (Ok c.in-Ok.list)
    (list_out c.args.events.now c.args.outcomes.now c.args.keeper c.in-Ok.list.items (c.is_full.ensures.room c.if-is_full.false) c.in-Ok.ensures
    (sym c.any_climbs.ensures ∙ c.if-any_climbs.false))
