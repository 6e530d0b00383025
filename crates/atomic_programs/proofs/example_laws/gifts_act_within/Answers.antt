use Rattle.atomic_programs.proofs.Lemmas.{refl, same_runs, put, GiftIsWhole, gifts_within}
use Rattle.atomic_programs.specs.Wards as wards
use Rattle.atomic_programs.proofs.example_laws.gifts_act_within.Goals as goal

pub returns : goal.returns
unfolding put
returns c =
    record {
      same = λ purse. same_runs wards.gifts_above GiftIsWhole (wards.rest purse);
      explained = λ purse events honest. gifts_within purse events ((same_runs wards.gifts_above GiftIsWhole (wards.rest purse)).honest events honest);
      history = refl;
    }
