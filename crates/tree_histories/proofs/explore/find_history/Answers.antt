use Rattle.tree_histories.proofs.Lemmas.{explored, found_explains}
use Rattle.tree_histories.proofs.explore.find_history.Goals as goal

pub follow-requires : goal.follow-requires
follow-requires c = c.in_ok-position.ensures.at c.args.version

pub returns-then-branch : goal.returns-then-branch
returns-then-branch c = found_explains c.args.version c.args.base.now c.args.trace.now c.explore.new.self (explored c.args.version c.args.base.now c.args.trace.now c.follow.new.self c.explore.new.self c.in_ok-explore.field-0 c.if-branch.true c.in_ok-explore.ensures)
