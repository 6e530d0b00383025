use Rattle.plain_tree.proofs.Lemmas.{ap, sym, ◌∙◌, tree_of, Tree, has_room, given_file}
use Rattle.plain_tree.proofs.tree.Tree.create.Goals as goal

pub give_file-requires-clause-room : goal.give_file-requires-clause-room
give_file-requires-clause-room c = ap (λ (x : Tree). has_room (x.fds c.args.hart)) c.in_ok-add_file_node.ensures ∙ (sym c.has_room.ensures ∙ c.if-has_room.true)

pub returns-in_ok-add_file_node : goal.returns-in_ok-add_file_node
returns-in_ok-add_file_node c = given_file (tree_of c.args.self.now) (tree_of c.add_file_node.new.self) (tree_of c.give_file.new.self) _ c.args.hart c.args.id c.args.number c.args.flags c.in_ok-files.files.items c.in_ok-add_file_node.ensures (sym c.has_room.ensures ∙ c.if-has_room.true) (rw c.just_opened.ensures at c.in_ok-files.ensures) c.give_file.ensures
