use Rattle.image_tree.proofs.Lemmas.{◌≡◌, first_slots}
use Rattle.damage_places.proofs.slots.load_slots.Given as goal

abbrev pub invariant-loop-s : goal.invariant-loop-s
invariant-loop-s g l =
    (g.D.Device.contents l.device ≡ g.D.Device.contents l.fn.device) × (g.D.Device.failures l.device ≡ g.D.Device.failures l.fn.device)
    × (l.slots.items ≡ first_slots l.layout.version (g.D.Device.contents l.fn.device) l.inode l.s)
