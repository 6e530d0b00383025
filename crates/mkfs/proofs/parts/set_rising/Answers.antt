use Rattle.mkfs.proofs.Lemmas.{◌+◌, ◌∙◌, List, ℕ, ap, set, arith, range-set}
use Rattle.mkfs.proofs.parts.set_rising.Goals as goal

pub loop-k-preserved : goal.loop-k-preserved
loop-k-preserved c =
    ap (λ (xs : List ℕ). set xs c.loop-k.k (c.args.first + c.loop-k.k)) c.loop-k.invariant
    ∙ range-set c.args.first c.loop-k.k c.args.numbers.now (omega arith)
