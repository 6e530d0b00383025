use Rattle.console.proofs.Lemmas.{arith, sym, set_past}
use Rattle.console.proofs.session.put_doing.Goals as goal

pub returns-else-place-lt8 : goal.returns-else-place-lt8
returns-else-place-lt8 c = sym (set_past c.args.doing.now c.args.hart c.args.next (omega (arith, c.if-place-lt8.false)))
