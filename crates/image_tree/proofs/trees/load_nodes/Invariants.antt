use Rattle.image_tree.proofs.Lemmas.{◌≡◌, ComesByCalls, first_nodes}
use Rattle.image_tree.proofs.trees.load_nodes.Given as goal

abbrev pub invariant-loop-i : goal.invariant-loop-i
invariant-loop-i g l =
    (g.D.Device.contents l.device ≡ g.D.Device.contents l.fn.device) × (g.D.Device.failures l.device ≡ g.D.Device.failures l.fn.device)
    × (l.nodes.items ≡ first_nodes l.layout.version (g.D.Device.contents l.fn.device) l.i)
    × ComesByCalls g.D.Device.Called l.fn.device l.device
