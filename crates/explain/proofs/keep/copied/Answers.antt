use Rattle.explain.proofs.Lemmas.{rules}
use Rattle.explain.proofs.keep.copied.Goals as goal

pub returns : goal.returns
returns c = search (rules, c.clone.ensures.cases)
