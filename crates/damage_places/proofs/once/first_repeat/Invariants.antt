use Rattle.image_tree.proofs.Lemmas.{◌≡◌, ◌-◌, gathered, named_by, Marks, IsOnce}
use Rattle.damage_places.proofs.once.first_repeat.Given as goal

abbrev pub invariant-loop-i : goal.invariant-loop-i
invariant-loop-i g l =
    (g.D.Device.contents l.device ≡ g.D.Device.contents l.fn.device) × (g.D.Device.failures l.device ≡ g.D.Device.failures l.fn.device)
    × Marks l.seen (gathered (named_by (g.D.Device.contents l.fn.device)) (l.i - 1)) × IsOnce (gathered (named_by (g.D.Device.contents l.fn.device)) (l.i - 1))
