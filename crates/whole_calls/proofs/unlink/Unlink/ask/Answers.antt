use Rattle.whole_calls.proofs.unlink.Unlink.ask.Goals as goal

pub returns-in-Walks-clause-named : goal.returns-in-Walks-clause-named
returns-in-Walks-clause-named c v list = rw c.in-Walks.is (λ fits. c.ask.ensures.named v fits.0)

pub returns-in-GiveParent-clause-named : goal.returns-in-GiveParent-clause-named
returns-in-GiveParent-clause-named c v list fits = c.ask-in-GiveParent.ensures.named v c.args.path.now

pub returns-in-Ends-clause-named : goal.returns-in-Ends-clause-named
returns-in-Ends-clause-named c v list fits = c.ask-in-Ends.ensures.named v c.args.path.now
