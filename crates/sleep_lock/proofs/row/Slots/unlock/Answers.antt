use Rattle.sleep_lock.proofs.Lemmas.{numbered_unlocked, unlocked}
use Rattle.sleep_lock.proofs.row.Slots.unlock.Goals as goal

pub returns-clause-numbered : goal.returns-clause-numbered
unfolding unlocked
returns-clause-numbered g c old = rw (c.number.ensures, c.put.ensures) (numbered_unlocked c.args.self.now c.args.guard old)
