use Rattle.tree_histories.proofs.Lemmas.{refl, sym, ◌∙◌, only_acts, told_looked, told_next, told_nowhere}
use Rattle.tree_histories.proofs.kept.Kept.looks.Goals as goal

pub returns-in_default-walk-clause-tells : goal.returns-in_default-walk-clause-tells
returns-in_default-walk-clause-tells c =
    told_nowhere c.args.self.now c.args.self.now c.args.hart c.in-Some.standing.now c.args.new c.in-Some.ensures.call (sym c.walk.ensures ∙ c.in_default-walk.is) refl

pub returns-in-Some-next_walk-clause-tells : goal.returns-in-Some-next_walk-clause-tells
returns-in-Some-next_walk-clause-tells c =
    told_next c.args.self.now c.set_walk.new.self c.args.hart c.in-Some.standing.now c.in-Some-walk.walk c.in-Some-next_walk.next c.args.new c.in-Some.ensures.call (sym c.walk.ensures ∙ c.in-Some-walk.is) (sym c.if-not-is_live.ensures) c.in-Some-next_walk.ensures c.set_walk.ensures

pub returns-in_ok-action-in-None-clause-tells : goal.returns-in_ok-action-in-None-clause-tells
returns-in_ok-action-in-None-clause-tells c =
    told_looked c.args.self.now c.acts.new.self c.args.hart c.in-Some.standing.now c.in-Some-walk.walk c.args.new c.node_number.result c.in_ok-action-in-None.action c.acts.result c.in-Some.ensures.call (sym c.walk.ensures ∙ c.in-Some-walk.is) c.node_number.ensures (sym c.if-not-is_live.ensures) c.in_ok-action-in-None.ensures c.in-None.ensures c.lead-lead.result c.lead-lead.ensures c.acts.ensures

pub returns-in_ok-action-in-None-clause-only : goal.returns-in_ok-action-in-None-clause-only
returns-in_ok-action-in-None-clause-only c = only_acts _ _ _ c.args.self.now c.acts.new.self c.acts.result c.acts.ensures
