-- The numbers and names under which refusals are printed.
use Rattle.std.specs.Prelude.{ℕ, List, codes}
use Rattle.explain.specs.Vocabulary.{damage_number, damage_name}
use Rattle.explain.specs.declared.refused.ExplainRefused.{ExplainRefused}
use Rattle.explain.specs.declared.refused.ExplainRefused.TheVariants.{NoMemory, Damaged, FullSeen, Climbs}

abbrev pub number_of : ExplainRefused → ℕ
number_of NoMemory = 33
number_of (Damaged d) = damage_number d
number_of FullSeen = 71
number_of Climbs = 72

abbrev pub name_of : ExplainRefused → List ℕ
name_of NoMemory = codes "NoMemory"
name_of (Damaged d) = damage_name d
name_of FullSeen = codes "FullSeen"
name_of Climbs = codes "Climbs"
