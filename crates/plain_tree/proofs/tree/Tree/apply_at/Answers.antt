use Rattle.plain_tree.proofs.Lemmas.{sym, ◌∙◌, tree_of, with_name, no_place}
use Rattle.plain_tree.proofs.tree.Tree.apply_at.Goals as goal

pub returns-then-not-has_place : goal.returns-then-not-has_place
returns-then-not-has_place c = no_place c.args.version (tree_of c.args.self.now) c.args.step.now c.args.found.now.node (with_name c.args.found.now.parent c.args.found.now.name.now) c.args.id c.out_of_place.result c.if-hart-ge-HARTS.false (sym c.has_place.ensures ∙ c.if-not-has_place.true) c.out_of_place.ensures
