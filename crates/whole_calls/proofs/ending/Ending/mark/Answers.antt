use Rattle.whole_calls.proofs.Lemmas.{free_all, give_up, say, tail, reply_to}
use Rattle.whole_calls.proofs.ending.Ending.mark.Goals as goal

pub returns-in-Frees : goal.returns-in-Frees
returns-in-Frees c s call list heard = rw c.in-Frees.is (c.mark-in-Frees.ensures s (free_all list (say (reply_to call c.in-Frees.field-1))) heard)

pub returns-in-GivesTwo : goal.returns-in-GivesTwo
returns-in-GivesTwo c s call list heard =
    rw c.in-GivesTwo.is (c.mark.ensures s (give_up c.in-GivesTwo.field-1 (tail list (reply_to call c.in-GivesTwo.field-2))) heard)

pub returns-in-Gives : goal.returns-in-Gives
returns-in-Gives c s call list heard = rw c.in-Gives.is (c.mark-in-Gives.ensures s (tail list (reply_to call c.in-Gives.field-1)) heard)
