-- Computed runs in which two harts meet.
use Rattle.inode_machine.proofs.Stories.{walk_fails, walk_fails_still, stays_in_the_removed, links_while_unlinked, raise_is_seen, offset_is_shared, climbs_across}
use Rattle.inode_machine.proofs.harts_meet.Goals as goal

pub returns-clause-on_the_way : goal.returns-clause-on_the_way
returns-clause-on_the_way c = walk_fails

pub returns-clause-made_anew : goal.returns-clause-made_anew
returns-clause-made_anew c = walk_fails_still

pub returns-clause-removed : goal.returns-clause-removed
returns-clause-removed c = stays_in_the_removed

pub returns-clause-linked : goal.returns-clause-linked
returns-clause-linked c = links_while_unlinked

pub returns-clause-raised : goal.returns-clause-raised
returns-clause-raised c = raise_is_seen

pub returns-clause-shared : goal.returns-clause-shared
returns-clause-shared c = offset_is_shared

pub returns-clause-climbed : goal.returns-clause-climbed
returns-clause-climbed c = climbs_across
