use Rattle.atomic_programs.proofs.Lemmas.{false, refl, sym, arith, subst, IsKept, Cell, rest, swaps, machine_of, MachineFits, code, kept_first}
use Rattle.atomic_programs.proofs.cell.World.new.Goals as goal

pub invariant_of-result : goal.invariant_of-result
invariant_of-result g c =
    subst (λ (t : Cell). IsKept swaps code machine_of MachineFits 8 t false _) (sym c.new.ensures)
    (kept_first swaps code machine_of MachineFits (rest _ _) _ 8 (omega (arith, c.get.ensures, c.if-number-ge-LIMIT.false), λ e. refl) (λ h. refl) (refl, (refl, (refl, (refl, (refl, (refl, (refl, (refl, tt)))))))) refl)
