use Rattle.image_tree.proofs.Lemmas.{◌≡◌, ◌≢◌, ◌<◌, ℕ, get_or}
use Rattle.image_tree.specs.Links.{climb}
use Rattle.damage_places.proofs.tree.reaches_root.Given as goal

abbrev pub invariant-loop-step : goal.invariant-loop-step
invariant-loop-step l =
    (climb (λ n. get_or l.ups n 0) l._step l.i ≡ l.at) × ((k : ℕ) → k < l._step → climb (λ n. get_or l.ups n 0) k l.i ≢ 1)
