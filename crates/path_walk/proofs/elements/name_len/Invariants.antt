use Rattle.plain_tree.proofs.Vocabulary.{◌≡◌, ◌≢◌, ℕ, ◌<◌, [], take, drop, get_or, pieces}
use Rattle.path_walk.proofs.elements.name_len.Given as goal

abbrev pub invariant-loop-i : goal.invariant-loop-i
invariant-loop-i l = (pieces (take l.i l.path) (drop l.i l.path) ≡ pieces [] l.path) × ((k : ℕ) → k < l.i → get_or l.path k 0 ≢ 47)
