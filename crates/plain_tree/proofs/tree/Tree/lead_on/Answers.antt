use Rattle.plain_tree.proofs.Lemmas.{not_from_Decides, tree_of, step_placed, made_leads}
use Rattle.plain_tree.proofs.tree.Tree.lead_on.Goals as goal

pub returns-then-not-is_in_place : goal.returns-then-not-is_in_place
returns-then-not-is_in_place c =
    let e = c.args.entry.now in
    λ u x. not_from_Decides c.is_in_place.result c.is_in_place.ensures c.if-not-is_in_place.true (step_placed c.args.version (tree_of c.args.self.now) e.step e.answer u x)

pub returns-in-Ok : goal.returns-in-Ok
returns-in-Ok c =
    let e = c.args.entry.now in
    made_leads c.args.version c.same_answer.result (tree_of c.args.self.now) e.step e.answer c.in-Ok.answer (tree_of c.apply.new.self) (c.is_in_place.ensures.0 c.if-not-is_in_place.false) c.same_answer.ensures c.in-Ok.ensures
