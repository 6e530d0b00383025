use Rattle.explain.proofs.Lemmas.{sym, ◌∙◌, climbs_here, climbs_after, climbs_nowhere}
use Rattle.explain.proofs.climbs.climbs.Goals as goal

pub returns-then-is_dotdot : goal.returns-then-is_dotdot
returns-then-is_dotdot c = sym (climbs_here c.args.path.now c.loop-element.rest.now c.in-Some.after.now c.in-Some.element.now c.loop-element.invariant c.in-Some.ensures.0 (sym c.is_dotdot.ensures ∙ c.if-is_dotdot.true))

pub loop-element-preserved : goal.loop-element-preserved
loop-element-preserved c = climbs_after c.args.path.now c.loop-element.rest.now c.in-Some.after.now c.in-Some.element.now c.loop-element.invariant c.in-Some.ensures.0 (sym c.is_dotdot.ensures ∙ c.if-is_dotdot.false)

pub returns : goal.returns
returns c = sym (climbs_nowhere c.args.path.now c.loop-element.rest.now c.loop-element.invariant c.in_default.ensures)
