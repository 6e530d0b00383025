use Rattle.whole_calls.proofs.link.Link.step.Goals as goal

pub returns-in-Look-clause-goes : goal.returns-in-Look-clause-goes
returns-in-Look-clause-goes c text = rw c.in-Look.is (c.looked.ensures.program c.args.version text c.args.old.now c.args.new.now c.args.list.now)
