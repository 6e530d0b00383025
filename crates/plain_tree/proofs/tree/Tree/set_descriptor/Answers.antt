use Rattle.plain_tree.proofs.Lemmas.{◌<◌, length, arith, tree_of, descriptor_set}
use Rattle.plain_tree.proofs.tree.Tree.set_descriptor.Goals as goal

pub returns : goal.returns
returns c =
    let lt : c.args.fd < length c.hart-value.result.descriptors = omega arith in
    descriptor_set c.args.self.now (tree_of c.set_hart.new.self) c.args.hart c.args.fd c.args.id c.hart-value.result lt c.hart-value.ensures c.set_hart.ensures
