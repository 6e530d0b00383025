use Rattle.locked_world.proofs.Lemmas.{rules}
use Rattle.locked_world.proofs.handing.copied.Goals as goal

pub returns : goal.returns
returns c = search (rules, c.clone.ensures.cases)
