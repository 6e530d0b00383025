use Rattle.plain_tree.proofs.Lemmas.{ap, ◌∙◌, ◌≡◌, length, tree_of, answer_with, effect_with, part, file_at, refusal_with, read_count, with_name, dup_room, close_below, child_below, read_advances}
use Rattle.plain_tree.proofs.tree.Tree.act.Goals as goal

pub returns-in-Read : goal.returns-in-Read
unfolding answer_with effect_with
returns-in-Read c =
    let said : c.bytes_read.result ≡ read_count (answer_with c.args.version (tree_of c.args.self.now) c.args.hart c.args.action.now c.args.found.now.node (with_name c.args.found.now.parent c.args.found.now.name.now) c.args.id) = c.bytes_read.ensures ∙ ap read_count c.requires.answer in
    let count : c.bytes_read.result ≡ length (part c.args.version (tree_of c.args.self.now) (file_at (tree_of c.args.self.now) c.args.hart c.in-Read.fd) c.in-Read.count) = rw c.in-Read.is at said in
    rw (c.in-Read.is, ← count) c.read.ensures

pub read-requires : goal.read-requires
unfolding refusal_with
read-requires c = read_advances (tree_of c.args.self.now) c.args.hart c.in-Read.fd c.bytes_read.result c.args.answer.now (rw c.in-Read.is at c.requires.none) (rw c.in-Read.is at c.requires.fits) c.bytes_read.ensures

pub write_part-requires : goal.write_part-requires
unfolding refusal_with
write_part-requires c = rw c.as_slice.ensures (rw c.in-WritePart.is at c.requires.none)

pub bump-requires-clause-none : goal.bump-requires-clause-none
unfolding refusal_with
bump-requires-clause-none c = rw c.in-Bump.is at c.requires.none

pub mkdir-requires-clause-none : goal.mkdir-requires-clause-none
unfolding refusal_with
mkdir-requires-clause-none c = rw c.in-Mkdir.is at c.requires.none

pub dup-requires-clause-room : goal.dup-requires-clause-room
dup-requires-clause-room c = dup_room c.args.version (tree_of c.args.self.now) c.args.hart c.in-Dup.fd c.args.found.now.node (with_name c.args.found.now.parent c.args.found.now.name.now) (rw c.in-Dup.is at c.requires.none) (rw c.in-Dup.is at c.requires.place)

pub close-requires-clause-fd : goal.close-requires-clause-fd
close-requires-clause-fd c = close_below c.args.version (tree_of c.args.self.now) c.args.hart c.in-Close.fd c.args.found.now.node (with_name c.args.found.now.parent c.args.found.now.name.now) (rw c.in-Close.is at c.requires.none)

pub inherit-requires-clause-child : goal.inherit-requires-clause-child
inherit-requires-clause-child c = child_below (tree_of c.args.self.now) c.args.hart c.in-Inherit.child (rw c.in-Inherit.is at c.requires.place)
