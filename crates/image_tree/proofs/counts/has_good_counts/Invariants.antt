use Rattle.image_tree.proofs.Lemmas.{◌≡◌, ℕ, ◌<◌, ◌≤◌, true, ComesByCalls, inode_of, is_node, names_of, further_names_of, children_of, IsGoodCount}
use Rattle.image_tree.proofs.counts.has_good_counts.Given as goal

abbrev pub invariant-loop-i : goal.invariant-loop-i
invariant-loop-i g l =
    (g.D.Device.contents l.device ≡ g.D.Device.contents l.fn.device) × (g.D.Device.failures l.device ≡ g.D.Device.failures l.fn.device)
    × ((k : ℕ) → 1 ≤ k → k < l.i → is_node (g.D.Device.contents l.fn.device) k ≡ true
    → IsGoodCount (inode_of (g.D.Device.contents l.fn.device) k) (names_of l.layout.version (g.D.Device.contents l.fn.device) k) (further_names_of l.layout.version (g.D.Device.contents l.fn.device) k)
    (children_of l.layout.version (g.D.Device.contents l.fn.device) k))
    × ComesByCalls g.D.Device.Called l.fn.device l.device
