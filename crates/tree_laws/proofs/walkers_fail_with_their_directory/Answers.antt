use Rattle.tree_laws.proofs.Removed.{walker_fails, walker_stays_failed, walker_fails_at_a_file}
use Rattle.tree_laws.proofs.walkers_fail_with_their_directory.Goals as goal

pub returns-clause-removed : goal.returns-clause-removed
returns-clause-removed c = walker_fails

pub returns-clause-made_again : goal.returns-clause-made_again
returns-clause-made_again c = walker_stays_failed

pub returns-clause-at_a_file : goal.returns-clause-at_a_file
returns-clause-at_a_file c = walker_fails_at_a_file
