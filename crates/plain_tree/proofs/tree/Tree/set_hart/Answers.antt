use Rattle.plain_tree.proofs.Lemmas.{arith, harts_set}
use Rattle.plain_tree.proofs.tree.Tree.set_hart.Goals as goal

pub returns : goal.returns
returns c = rw (← c.self.view_is, c.from.ensures) (harts_set (record { ninodes = c.self.inside.ninodes; nodes = c.self.inside.nodes.items; files = c.self.inside.files.items; harts = c.self.inside.harts }) c.args.hart c.args.value (omega arith))
