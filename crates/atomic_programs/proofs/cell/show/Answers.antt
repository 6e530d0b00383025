use Rattle.atomic_programs.proofs.Lemmas.{refl, sym, rest}
use Rattle.atomic_programs.proofs.cell.show.Goals as goal

-- a new world is at rest
pub returns-in-Ok-clause-shown : goal.returns-in-Ok-clause-shown
returns-in-Ok-clause-shown g c =
    c.in-Ok.ensures.shown (rest (g.D.Device.number c.args.device) (g.D.Device.failures c.args.device)) (c.in_ok-world.ensures.byte, λ e. refl) (λ h. refl) (sym c.in_ok-world.ensures.rests)
