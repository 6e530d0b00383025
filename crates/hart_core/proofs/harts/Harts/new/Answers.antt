use Rattle.hart_core.proofs.Lemmas.{List, Option, sym, subst, state_of, Running, AreHarts, all_idle}
use Rattle.hart_core.proofs.harts.Harts.new.Goals as goal

pub invariant_of-result : goal.invariant_of-result
invariant_of-result g c =
    let s = state_of g.D.Device.contents g.D.Device.failures c.args.core in
    subst (λ (calls : List (Option Running)). AreHarts s calls) (sym c.requires) (all_idle s)
