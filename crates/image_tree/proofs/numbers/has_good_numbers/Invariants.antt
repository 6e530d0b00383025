use Rattle.image_tree.proofs.Lemmas.{◌≡◌, ◌≢◌, ℕ, ◌<◌, ◌≤◌, All, ComesByCalls, IsData, numbers_by, sizes_of}
use Rattle.image_tree.proofs.numbers.has_good_numbers.Given as goal

abbrev pub invariant-loop-i : goal.invariant-loop-i
invariant-loop-i g l =
    (g.D.Device.contents l.device ≡ g.D.Device.contents l.fn.device) × (g.D.Device.failures l.device ≡ g.D.Device.failures l.fn.device)
    × ((k : ℕ) → 1 ≤ k → k < l.i → All (λ b. b ≢ 0 → IsData (sizes_of (g.D.Device.contents l.fn.device)) b) (numbers_by (g.D.Device.contents l.fn.device) k))
    × ComesByCalls g.D.Device.Called l.fn.device l.device
