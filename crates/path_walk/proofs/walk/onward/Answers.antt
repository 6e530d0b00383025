use Rattle.path_walk.proofs.Onward.{inside_is, parent_is}
use Rattle.path_walk.proofs.walk.onward.Goals as goal

pub returns-in-Inside-Some-clause-goes : goal.returns-in-Inside-Some-clause-goes
returns-in-Inside-Some-clause-goes c s after list = rw c.in-Inside-Some.is-0 (inside_is c.args.version s c.args.path.now after c.args.directory c.args.rest c.in-Inside-Some.element list c.in-Inside-Some.ensures.element)

pub returns-in-Some-clause-goes : goal.returns-in-Some-clause-goes
returns-in-Some-clause-goes c s after list = rw c.in-Parent-Some.is-0 (parent_is c.args.version s c.args.path.now after c.args.directory c.args.rest c.in-Parent-Some.element list c.in-Parent-Some.ensures.element _ _ c.in-Some.ensures.element)
