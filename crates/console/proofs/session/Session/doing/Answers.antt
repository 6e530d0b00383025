use Rattle.console.proofs.Lemmas.{arith, sym, None, get_or_past}
use Rattle.console.proofs.session.Session.doing.Goals as goal

pub returns-else-place-lt8 : goal.returns-else-place-lt8
returns-else-place-lt8 g c = rw (← c.self.view_is) (sym (get_or_past c.self.inside.doing c.args.hart None (omega (arith, c.self.invariant, c.if-place-lt8.false))))
