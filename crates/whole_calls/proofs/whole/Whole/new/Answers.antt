use Rattle.whole_calls.proofs.Lemmas.{ℕ, List, length, sym, subst, ◌<◌, ◌^◌}
use Rattle.whole_calls.proofs.whole.Whole.new.Goals as goal

pub returns-in-Read-clause-fits : goal.returns-in-Read-clause-fits
returns-in-Read-clause-fits c v call =
    let short = rw c.in-Read.is at call in
    (subst (λ (bytes : List ℕ). length bytes < 2 ^ 31) (sym c.into_vec-buf.ensures) short, tt)
