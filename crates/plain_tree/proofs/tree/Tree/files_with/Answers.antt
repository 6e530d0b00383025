use Rattle.plain_tree.proofs.Lemmas.{file_added}
use Rattle.plain_tree.proofs.tree.Tree.files_with.Goals as goal

pub returns : goal.returns
returns c = λ k. rw (c.in_ok-push.ensures.items, c.in_ok-files.ensures.items, c.deref.ensures.value, ← c.self.view_is) (file_added c.self.inside.files.items (record { id = c.args.id; file = c.args.file }) (rw (← c.self.view_is) at c.requires) k)
