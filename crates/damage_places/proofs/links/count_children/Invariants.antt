use Rattle.image_tree.proofs.Lemmas.{◌-◌, [], ◌∷◌, filter, not, eqb, get_or, gathered, Tallies}
use Rattle.damage_places.proofs.links.count_children.Given as goal

abbrev pub invariant-loop-d : goal.invariant-loop-d
invariant-loop-d l = Tallies l.children (gathered (λ d. filter (λ n. not (eqb n d)) (get_or l.ups d 0 ∷ [])) (l.d - 1))
