use Rattle.tree_laws.proofs.Kept.{in_place, found_map, effect_well}
use Rattle.tree_laws.proofs.effects_keep_well_formed.Goals as goal

pub returns : goal.returns
returns c = λ version t h s res par new id k found place. let two = in_place t h s place in effect_well version t h s res par new id k two.0 two.1 (found_map t res par found) found.directory
