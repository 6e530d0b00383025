use Rattle.image_tree.proofs.Lemmas.{◌≡◌, ◌≢◌, ℕ, ◌<◌, ◌≤◌, true, All, ComesByCalls, numbers_by, is_marked}
use Rattle.image_tree.proofs.marks.has_marks.Given as goal

abbrev pub invariant-loop-i : goal.invariant-loop-i
invariant-loop-i g l =
    (g.D.Device.contents l.device ≡ g.D.Device.contents l.fn.device) × (g.D.Device.failures l.device ≡ g.D.Device.failures l.fn.device)
    × ((k : ℕ) → 1 ≤ k → k < l.i
    → All (λ b. b ≢ 0 → is_marked (g.D.Device.contents l.fn.device) b ≡ true) (numbers_by (g.D.Device.contents l.fn.device) k))
    × ComesByCalls g.D.Device.Called l.fn.device l.device
