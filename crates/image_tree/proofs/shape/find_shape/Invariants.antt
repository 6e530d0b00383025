use Rattle.image_tree.proofs.Lemmas.{◌≡◌, ◌-◌, ComesByCalls, ShapeUpto}
use Rattle.image_tree.proofs.shape.find_shape.Given as goal

abbrev pub invariant-loop-i : goal.invariant-loop-i
invariant-loop-i g l =
    (g.D.Device.contents l.device ≡ g.D.Device.contents l.fn.device) × (g.D.Device.failures l.device ≡ g.D.Device.failures l.fn.device)
    × ShapeUpto (g.D.Device.contents l.fn.device) (l.i - 1) l.live l.orphans l.blocks
    × ComesByCalls g.D.Device.Called l.fn.device l.device
