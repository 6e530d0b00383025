use Rattle.inode_parts.proofs.Lemmas.{refl, relock_is_part, relock_ready}
use Rattle.inode_parts.proofs.relock_part.RelockPart.begin.Goals as goal

pub returns-clause-part : goal.returns-clause-part
returns-clause-part c path m n begins = relock_is_part c.args.sizes.now n c.args.hand.now c.free_seat-seat.result c.free_seat-seat.ensures begins path m

pub returns-clause-ready : goal.returns-clause-ready
returns-clause-ready c = relock_ready c.args.sizes.now c.requires.begins.0 c.args.hand.now c.free_seat-seat.result c.free_seat-seat.ensures c.requires.begins.1

pub returns-clause-amid : goal.returns-clause-amid
returns-clause-amid c n begins = (begins.0, c.free_seat-seat.ensures, refl)
