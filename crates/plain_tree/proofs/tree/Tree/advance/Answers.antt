use Rattle.plain_tree.proofs.Lemmas.{arith, refl, file_moved, file_stays, advances}
use Rattle.plain_tree.proofs.tree.Tree.advance.Goals as goal

pub returns-in_default-entry_of : goal.returns-in_default-entry_of
returns-in_default-entry_of c = rw (← c.self.view_is, c.in-Some.is) (file_stays (record { ninodes = c.self.inside.ninodes; nodes = c.self.inside.nodes.items; files = c.self.inside.files.items; harts = c.self.inside.harts }) c.in-Some.id c.args.by (rw c.deref.ensures.value at c.in_default-entry_of.ensures))

pub overflow_add-file : goal.overflow_add-file
overflow_add-file c = omega (arith, advances (record { ninodes = c.self.inside.ninodes; nodes = c.self.inside.nodes.items; files = c.self.inside.files.items; harts = c.self.inside.harts }) c.in-Some.id c.in-Some-entry_of.i c.args.by c.index.result.now (rw (← c.self.view_is, c.in-Some.is) at c.requires) (rw c.deref.ensures.value at c.in-Some-entry_of.ensures) c.index.ensures)

pub returns : goal.returns
returns c = rw (← c.self.view_is, c.in-Some.is) (file_moved (record { ninodes = c.self.inside.ninodes; nodes = c.self.inside.nodes.items; files = c.self.inside.files.items; harts = c.self.inside.harts }) c.in-Some.id c.in-Some-entry_of.i c.args.by _ c.index.result.now (rw c.deref.ensures.value at c.in-Some-entry_of.ensures) c.index.ensures refl)
