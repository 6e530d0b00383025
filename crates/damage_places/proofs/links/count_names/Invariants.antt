use Rattle.image_tree.proofs.Lemmas.{◌≡◌, ◌-◌, named_in, further_in, proper_in, gathered, Tallies}
use Rattle.damage_places.proofs.links.count_names.Given as goal

abbrev pub invariant-loop-i : goal.invariant-loop-i
invariant-loop-i g l =
    (g.D.Device.contents l.device ≡ g.D.Device.contents l.fn.device) × (g.D.Device.failures l.device ≡ g.D.Device.failures l.fn.device)
    × Tallies l.names (gathered (named_in l.layout.version (g.D.Device.contents l.fn.device)) (l.i - 1))
    × Tallies l.further (gathered (further_in l.layout.version (g.D.Device.contents l.fn.device)) (l.i - 1))
    × Tallies l.proper (gathered (proper_in l.layout.version (g.D.Device.contents l.fn.device)) (l.i - 1))
