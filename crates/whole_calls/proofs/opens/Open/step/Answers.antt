use Rattle.whole_calls.proofs.opens.Open.step.Goals as goal

pub returns-in-Look-clause-goes : goal.returns-in-Look-clause-goes
returns-in-Look-clause-goes c text = rw c.in-Look.is (c.looked.ensures.program c.args.version text c.args.path.now c.args.flags c.args.list.now)
