use Rattle.image_tree.proofs.Lemmas.{◌≡◌, ◌<◌, ℕ, length, get_or, false, ComesByCalls, is_node}
use Rattle.image_tree.proofs.entries.node_table.Given as goal

abbrev pub invariant-loop-i : goal.invariant-loop-i
invariant-loop-i g l =
    (g.D.Device.contents l.device ≡ g.D.Device.contents l.fn.device) × (g.D.Device.failures l.device ≡ g.D.Device.failures l.fn.device)
    × (length l.nodes.items ≡ l.i) × ((k : ℕ) → k < l.i → get_or l.nodes.items k false ≡ is_node (g.D.Device.contents l.fn.device) k)
    × ComesByCalls g.D.Device.Called l.fn.device l.device
