use Rattle.whole_calls.proofs.Lemmas.{sym, from_is}
use Rattle.whole_calls.proofs.writing.Write.step.Goals as goal

pub returns-in-For-clause-goes : goal.returns-in-For-clause-goes
returns-in-For-clause-goes c text fd =
    rw (c.in-Join.is, sym c.joined.ensures, c.in-For.is, c.pieces-more.ensures) (sym (from_is fd c.in-For.number c.args.bytes.now _ 0))
