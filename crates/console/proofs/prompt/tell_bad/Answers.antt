use Rattle.console.proofs.Lemmas.{bad_told}
use Rattle.console.proofs.prompt.tell_bad.Goals as goal

pub returns : goal.returns
returns g c = bad_told c.args.number _ c.write_bad.result (g.W.Write.contents c.args.out.now) _ c.write_bad.ensures.written c.write_bad.ensures.prints
