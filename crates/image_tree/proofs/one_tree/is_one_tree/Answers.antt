use Rattle.image_tree.proofs.Lemmas.{◌∙◌, ℕ, List, ap, arith, get_or, iff_false, refuted, tables_of, unnamed_no_tree, tree_told, up_zero}
use Rattle.image_tree.proofs.one_tree.is_one_tree.Goals as goal

pub returns-then-not-are_named : goal.returns-then-not-are_named
returns-then-not-are_named c =
    λ v disk links good.
    refuted _ (unnamed_no_tree v disk c.as_slice-ups.result.now c.as_slice-further.result.now c.as_slice.result.now
    (tables_of v disk c.args.links.now c.as_slice-ups.result.now c.as_slice-further.result.now c.as_slice.result.now links c.as_slice-ups.ensures.value c.as_slice-further.ensures.value
    c.as_slice.ensures.value) good (iff_false c.are_named.ensures c.if-not-are_named.true))

pub reach_root-requires-clause-none : goal.reach_root-requires-clause-none
reach_root-requires-clause-none c =
    ap (λ (xs : List ℕ). get_or xs 0 0) c.as_slice-ups.ensures.value ∙ c.requires.links.2.ups.says 0 ∙ up_zero c.requires.links.0 c.requires.links.1

pub returns : goal.returns
returns c =
    λ v disk links good.
    tree_told v disk c.as_slice-ups.result.now c.as_slice-further.result.now c.as_slice.result.now c.in_ok-reach.reach
    (tables_of v disk c.args.links.now c.as_slice-ups.result.now c.as_slice-further.result.now c.as_slice.result.now links c.as_slice-ups.ensures.value c.as_slice-further.ensures.value
    c.as_slice.ensures.value) good c.if-ups-lt2.false (omega arith) (omega arith) (c.are_named.ensures.0 c.if-not-are_named.false) c.in_ok-reach.ensures
