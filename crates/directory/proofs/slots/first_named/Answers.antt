use Rattle.directory.proofs.Lemmas.{sym, ◌∙◌, below_more, arith, dirent_at, first_named, is_named, this_below, none_below}
use Rattle.directory.proofs.slots.first_named.Goals as goal

pub returns-then-has_name-clause-first : goal.returns-then-has_name-clause-first
unfolding first_named
returns-then-has_name-clause-first c =
    let is = c.has_name.ensures c.args.name.now c.requires.name (λ i. omega (arith, c.type_inv.name i)) c.words_of-words.ensures in
    sym (this_below (λ p. is_named c.args.name.now (dirent_at c.args.version p c.args.block.now)) c.args.limit c.loop-place.place c.loop-place-test.true
    (sym is ∙ c.if-has_name.true) c.loop-place.invariant)

pub loop-place-preserved : goal.loop-place-preserved
loop-place-preserved c =
    let is = c.has_name.ensures c.args.name.now c.requires.name (λ i. omega (arith, c.type_inv.name i)) c.words_of-words.ensures in
    below_more _ _ c.loop-place.invariant (sym is ∙ c.if-has_name.false)

pub returns-clause-first : goal.returns-clause-first
unfolding first_named
returns-clause-first c =
    sym (none_below (λ p. is_named c.args.name.now (dirent_at c.args.version p c.args.block.now)) c.args.limit (λ k h. c.loop-place.invariant k (omega arith)))
