use Rattle.image_tree.proofs.Lemmas.{◌∙◌, ◌≤◌, sym, ap, ℕ, arith, get_or, refuted}
use Rattle.std.proofs.Common.{below_more}
use Rattle.damage_places.proofs.Climbs.{climb-last, climb-none, reach_within}
use Rattle.damage_places.proofs.tree.reaches_root.Goals as goal

pub loop-step-init : goal.loop-step-init
loop-step-init c = (climb-none (λ n. get_or c.args.ups.now n 0) c.args.i, λ k l. absurd (omega arith))

pub loop-step-preserved : goal.loop-step-preserved
loop-step-preserved c =
    let f : ℕ → ℕ = λ n. get_or c.args.ups.now n 0 in (
      climb-last f c.loop-step._step c.args.i ∙ ap f c.loop-step.invariant.0 ∙ sym c.up_of-at.ensures,
      below_more _ _ c.loop-step.invariant.1 (λ e. c.if-at-eq-ROOT.false (sym c.loop-step.invariant.0 ∙ e)),
    )

pub returns : goal.returns
returns c =
    let f : ℕ → ℕ = λ n. get_or c.args.ups.now n 0 in
    refuted _ (λ reach.
    let way = reach_within f c.args.i 65536 (λ i. let fits = (c.type_inv.ups i).fits in omega arith) (omega arith) reach in
    let short : way.0 ≤ 65536 = way.1.0 in
    c.loop-step.invariant.1 way.0 (omega arith) way.1.1)
