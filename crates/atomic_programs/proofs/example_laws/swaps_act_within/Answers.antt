use Rattle.atomic_programs.proofs.Lemmas.{same_runs, swaps_above, SwapIsWhole, swaps_within}
use Rattle.atomic_programs.specs.Swap.{rest}
use Rattle.atomic_programs.proofs.example_laws.swaps_act_within.Goals as goal

pub returns : goal.returns
returns c =
    let same = same_runs swaps_above SwapIsWhole rest in
    record { same = same; explained = λ events honest. swaps_within events (same.honest events honest) }
