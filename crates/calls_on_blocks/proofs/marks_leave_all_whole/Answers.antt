use Rattle.calls_on_blocks.proofs.Whole.{marks_part_none, the_cuts_have_replies}
use Rattle.calls_on_blocks.proofs.marks_leave_all_whole.Goals as goal

pub returns-clause-transactions : goal.returns-clause-transactions
returns-clause-transactions c = marks_part_none

pub returns-clause-replies : goal.returns-clause-replies
returns-clause-replies c = the_cuts_have_replies
