use Rattle.image_tree.proofs.Lemmas.{◌≡◌, ◌-◌, ComesByCalls, gathered, named_by, Marks, IsOnce}
use Rattle.image_tree.proofs.once.has_no_repeat.Given as goal

abbrev pub invariant-loop-i : goal.invariant-loop-i
invariant-loop-i g l =
    (g.D.Device.contents l.device ≡ g.D.Device.contents l.fn.device) × (g.D.Device.failures l.device ≡ g.D.Device.failures l.fn.device)
    × Marks l.seen (gathered (named_by (g.D.Device.contents l.fn.device)) (l.i - 1)) × IsOnce (gathered (named_by (g.D.Device.contents l.fn.device)) (l.i - 1))
    × ComesByCalls g.D.Device.Called l.fn.device l.device
