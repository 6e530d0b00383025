use Rattle.atomic_programs.proofs.Lemmas.{◌∙◌, Passes, swaps, machine_of, code, hart_advances}
use Rattle.atomic_programs.proofs.Harts.{goes_on}
use Rattle.atomic_programs.proofs.cell.step.Goals as goal

pub returns-in-Ran-clause-makes : goal.returns-in-Ran-clause-makes
returns-in-Ran-clause-makes g c =
    rw (c.in-Some.is, c.if-stopped.false)
    (hart_advances swaps code c.args.hart Passes c.args.register.now (machine_of c.in-Some.call) _ c.in-Ran.ensures.moves ∙ goes_on c.in-Ran.call c.in-Ran.kind c.step.new.register)
