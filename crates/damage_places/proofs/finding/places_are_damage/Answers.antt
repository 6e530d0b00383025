use Rattle.damage_places.proofs.DamageLemmas.{places_are_damage}
use Rattle.damage_places.proofs.finding.places_are_damage.Goals as goal

pub returns : goal.returns
returns c = places_are_damage
