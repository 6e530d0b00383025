use Rattle.tree_histories.proofs.Lemmas.{Version, ℕ, List, ap, subst, WholeAsks, WholeFits, Whole, Under}
use Rattle.tree_histories.proofs.standing.Standing.ask.Goals as goal

pub returns-clause-named : goal.returns-clause-named
returns-clause-named c =
    subst (λ (w : Whole). (v : Version) (listed : List ℕ) → WholeFits v listed w → WholeAsks v w c.ask.result) (ap (λ (u : Under). u.whole) c.self.view_is) c.ask.ensures.named
