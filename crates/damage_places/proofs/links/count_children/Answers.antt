use Rattle.image_tree.proofs.Lemmas.{◌≡◌, ℕ, ◌-◌, List, [], ◌∷◌, refl, filter, not, eqb, get_or, length, arith, subst, gathered, Tallies, tallies_more, tallies_none}
use Rattle.damage_places.proofs.links.count_children.Goals as goal

pub loop-d-init : goal.loop-d-init
loop-d-init c = tallies_none (λ d. filter (λ n. not (eqb n d)) (get_or c.args.ups.now d 0 ∷ [])) c.args.children.now c.requires.fresh

pub loop-d-preserved : goal.loop-d-preserved
loop-d-preserved c =
    let f : ℕ → List ℕ = λ d. filter (λ n. not (eqb n d)) (get_or c.args.ups.now d 0 ∷ []) in
    tallies_more f c.tally_parent.new.children c.loop-d.d _ c.loop-d.auto.d refl (c.tally_parent.ensures (gathered f (c.loop-d.d - 1)) c.loop-d.invariant)

pub returns : goal.returns
returns c =
    let f : ℕ → List ℕ = λ d. filter (λ n. not (eqb n d)) (get_or c.args.ups.now d 0 ∷ []) in
    let some = c.requires.some in
    let end : c.loop-d.d - 1 ≡ length c.args.ups.now - 1 = omega arith in
    subst (λ (n : ℕ). Tallies c.loop-d.children (gathered f n)) end c.loop-d.invariant
