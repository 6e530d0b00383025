use Rattle.plain_tree.proofs.Lemmas.{◌≡◌, ◌<◌, length, arith, sym, subst, true, Tree, live_directory, tree_of, removed_far, live_below}
use Rattle.plain_tree.proofs.tree.Tree.unlink.Goals as goal

pub clear-requires : goal.clear-requires
clear-requires c =
    let live : live_directory ((tree_of c.args.self.now).nodes c.in-Some.directory) ≡ true = rw c.in-Some.is at c.requires in
    let below : c.in-Some.directory < length c.reach.new.self.nodes = live_below c.reach.new.self c.in-Some.directory (subst (λ (t : Tree). live_directory (t.nodes c.in-Some.directory) ≡ true) (sym c.in_ok-reach.ensures.tree) live) in
    omega (arith, below, c.from.ensures)

pub returns : goal.returns
returns c = rw c.in-Some.is
    (removed_far (tree_of c.args.self.now) (tree_of c.reach.new.self) (tree_of c.clear.new.self) (tree_of c.lower.new.self) c.in-Some.directory c.from.result c.in-Some-look.number c.from-number_at.result c.args.name.now c.is_directory-lowers.result
    c.in_ok-reach.ensures.tree c.is_directory-lowers.ensures c.clear.ensures.tree c.lower.ensures c.from.ensures c.from-number_at.ensures c.in-Some-look.ensures)
