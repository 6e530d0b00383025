use Rattle.image_tree.proofs.Lemmas.{◌≡◌, ℕ, ◌<◌, ◌≤◌, true, ComesByCalls, inode_of, is_node, IsGoodSize}
use Rattle.image_tree.proofs.sizes.has_good_sizes.Given as goal

abbrev pub invariant-loop-i : goal.invariant-loop-i
invariant-loop-i g l =
    (g.D.Device.contents l.device ≡ g.D.Device.contents l.fn.device) × (g.D.Device.failures l.device ≡ g.D.Device.failures l.fn.device)
    × ((k : ℕ) → 1 ≤ k → k < l.i
    → is_node (g.D.Device.contents l.fn.device) k ≡ true → IsGoodSize l.layout.version (g.D.Device.contents l.fn.device) (inode_of (g.D.Device.contents l.fn.device) k))
    × ComesByCalls g.D.Device.Called l.fn.device l.device
