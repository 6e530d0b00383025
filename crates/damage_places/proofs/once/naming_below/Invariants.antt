use Rattle.image_tree.proofs.Lemmas.{◌≡◌, ◌≢◌, ◌-◌, All, gathered, named_by}
use Rattle.damage_places.proofs.once.naming_below.Given as goal

abbrev pub invariant-loop-i : goal.invariant-loop-i
invariant-loop-i g l =
    (g.D.Device.contents l.device ≡ g.D.Device.contents l.fn.device) × (g.D.Device.failures l.device ≡ g.D.Device.failures l.fn.device)
    × All (λ c. c ≢ l.b) (gathered (named_by (g.D.Device.contents l.fn.device)) (l.i - 1))
