use Rattle.image_tree.proofs.Lemmas.{◌≡◌, ℕ, ◌<◌, ◌≤◌, ComesByCalls, IsGoodType, inode_of}
use Rattle.image_tree.proofs.types.has_good_types.Given as goal

abbrev pub invariant-loop-i : goal.invariant-loop-i
invariant-loop-i g l =
    (g.D.Device.contents l.device ≡ g.D.Device.contents l.fn.device) × (g.D.Device.failures l.device ≡ g.D.Device.failures l.fn.device)
    × ((k : ℕ) → 1 ≤ k → k < l.i → IsGoodType (inode_of (g.D.Device.contents l.fn.device) k))
    × ComesByCalls g.D.Device.Called l.fn.device l.device
