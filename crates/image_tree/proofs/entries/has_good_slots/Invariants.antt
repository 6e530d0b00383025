use Rattle.image_tree.proofs.Lemmas.{◌≡◌, ℕ, ◌<◌, ◌≤◌, true, ComesByCalls, is_node, is_live_directory, slots_in, AreGoodSlots}
use Rattle.image_tree.proofs.entries.has_good_slots.Given as goal

abbrev pub invariant-loop-i : goal.invariant-loop-i
invariant-loop-i g l =
    (g.D.Device.contents l.device ≡ g.D.Device.contents l.fn.device) × (g.D.Device.failures l.device ≡ g.D.Device.failures l.fn.device)
    × ((k : ℕ) → 1 ≤ k → k < l.i → is_live_directory (g.D.Device.contents l.fn.device) k ≡ true
    → AreGoodSlots (is_node (g.D.Device.contents l.fn.device)) k (slots_in l.layout.version (g.D.Device.contents l.fn.device) k))
    × ComesByCalls g.D.Device.Called l.fn.device l.device
