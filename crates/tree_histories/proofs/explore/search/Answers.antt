use Rattle.tree_histories.proofs.Lemmas.{explored, explored_not, found_explains, none_explains}
use Rattle.tree_histories.proofs.explore.search.Goals as goal

pub explore-requires : goal.explore-requires
explore-requires c = c.in_ok-position.ensures.at c.args.version

pub returns-then-branch : goal.returns-then-branch
returns-then-branch c = found_explains c.args.version c.args.base.now c.args.trace.now c.explore.new.self (explored c.args.version c.args.base.now c.args.trace.now c.in_ok-position.position c.explore.new.self c.in_ok-explore.field-0 c.if-branch.true c.in_ok-explore.ensures)

pub returns-else-branch : goal.returns-else-branch
returns-else-branch c = none_explains c.args.version c.args.base.now c.args.trace.now c.in_ok-position.position (c.in_ok-position.ensures.at c.args.version) c.in_ok-position.ensures.none (explored_not c.args.version c.args.base.now c.args.trace.now c.in_ok-position.position c.explore.new.self c.in_ok-explore.field-0 c.if-branch.false c.in_ok-explore.ensures).1
