use Rattle.directory.proofs.clear.Clear.new.Goals as goal

pub returns-clause-ready : goal.returns-clause-ready
returns-clause-ready c h none txn = ((c.requires.slot, c.requires.block), c.new-fetch.ensures.ready h none, txn)
