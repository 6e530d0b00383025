use Rattle.tree_histories.proofs.Lemmas.{◌≡◌, take, IsAt}
use Rattle.tree_histories.proofs.replay.replays.Given as goal

abbrev pub invariant-loop-entry : goal.invariant-loop-entry
invariant-loop-entry l = record { at : IsAt l.version l.base l.trace l.position; list : l.position.list.items ≡ take l.entry-index l.list }
