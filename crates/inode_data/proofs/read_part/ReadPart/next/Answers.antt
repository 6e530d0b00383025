use Rattle.inode_data.proofs.Lemmas.{sym}
use Rattle.inode_data.proofs.read_part.ReadPart.next.Goals as goal

pub returns-in-Is-clause-goes : goal.returns-in-Is-clause-goes
returns-in-Is-clause-goes c before = rw c.in-Giving.is (λ ready after. sym (c.in-Is.ensures.program c.args.memory.now c.args.hand.now))
