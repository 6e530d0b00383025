use Rattle.image_tree.proofs.Lemmas.{◌≡◌, ◌<◌, ℕ, length, get_or, up}
use Rattle.damage_places.proofs.links.find_ups.Given as goal

abbrev pub invariant-loop-i : goal.invariant-loop-i
invariant-loop-i g l =
    (g.D.Device.contents l.device ≡ g.D.Device.contents l.fn.device) × (g.D.Device.failures l.device ≡ g.D.Device.failures l.fn.device)
    × (length l.ups.items ≡ l.i) × ((k : ℕ) → k < l.i → get_or l.ups.items k 0 ≡ up l.layout.version (g.D.Device.contents l.fn.device) k)
