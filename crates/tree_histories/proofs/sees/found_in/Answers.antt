use Rattle.tree_histories.proofs.Lemmas.{tree_of, found_name}
use Rattle.tree_histories.proofs.sees.found_in.Goals as goal

pub returns-in-Name : goal.returns-in-Name
returns-in-Name c v =
    found_name v (tree_of c.args.tree.now) c.args.number c.args.path.now c.args.second.now c.args.query.now c.in-Name.element c.found.result c.name_in.result.now c.in-Name.is (c.name_in.ensures v) c.found.ensures
