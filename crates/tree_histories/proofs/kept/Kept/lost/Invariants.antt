use Rattle.tree_histories.proofs.Lemmas.{◌≡◌, ℕ, ◌<◌, false, length, get_or, is_lost, stage_of}
use Rattle.tree_histories.proofs.kept.Kept.lost.Given as goal

abbrev pub invariant-loop-hart : goal.invariant-loop-hart
invariant-loop-hart l = (length l.lost ≡ 8) × ((h : ℕ) → h < l.hart → get_or l.lost h false ≡ is_lost (stage_of l.self) h)
