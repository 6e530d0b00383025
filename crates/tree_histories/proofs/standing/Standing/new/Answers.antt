use Rattle.tree_histories.proofs.Lemmas.{refl}
use Rattle.tree_histories.proofs.standing.Standing.new.Goals as goal

pub returns : goal.returns
returns c v call =
    rw c.in_ok-list.ensures (refl, refl, refl, c.new-whole.ensures.call, c.new-whole.ensures.program v, c.new-whole.ensures.fits v call)
