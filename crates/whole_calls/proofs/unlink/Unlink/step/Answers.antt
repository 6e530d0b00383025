use Rattle.whole_calls.proofs.unlink.Unlink.step.Goals as goal

pub returns-in-Reached-default-Some-clause-fits : goal.returns-in-Reached-default-Some-clause-fits
returns-in-Reached-default-Some-clause-fits c _ =
    let stands = rw (c.in-Reached-default-Some.is, c.in-Reached-default-Some.field-1-is) at c.step.ensures.stands in
    c.reached.ensures.fits c.args.version _ stands
