use Rattle.atomic_programs.proofs.Lemmas.{goes_down}
use Rattle.atomic_programs.proofs.toy.Count.next.Goals as goal

pub returns-else-self-eq0 : goal.returns-else-self-eq0
returns-else-self-eq0 c = goes_down c.args.self.left c.args.heard c.if-self-eq0.false
