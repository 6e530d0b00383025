use Rattle.image_tree.proofs.Lemmas.{◌≡◌, ◌<◌, ◌≤◌, ℕ}
use Rattle.damage_places.specs.Checks.{Passes}
use Rattle.damage_places.proofs.inodes.find_inode.Given as goal

abbrev pub invariant-loop-i : goal.invariant-loop-i
invariant-loop-i g l =
    (g.D.Device.contents l.device ≡ g.D.Device.contents l.fn.device) × (g.D.Device.failures l.device ≡ g.D.Device.failures l.fn.device)
    × ((k : ℕ) → l.first ≤ k → k < l.i → Passes l.layout.version (g.D.Device.contents l.fn.device) l.check k)
