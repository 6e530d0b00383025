use Rattle.directory.proofs.Lemmas.{sym, ◌∙◌, below_more, arith, dirent_at, first_free, is_free, this_below, none_below}
use Rattle.directory.proofs.slots.first_free.Goals as goal

pub returns-then-is_clear-clause-first : goal.returns-then-is_clear-clause-first
unfolding first_free
returns-then-is_clear-clause-first c =
    sym (this_below (λ p. is_free (dirent_at c.args.version p c.args.block.now)) c.args.limit c.loop-place.place c.loop-place-test.true
    (sym c.is_clear.ensures ∙ c.if-is_clear.true) c.loop-place.invariant)

pub loop-place-preserved : goal.loop-place-preserved
loop-place-preserved c = below_more _ _ c.loop-place.invariant (sym c.is_clear.ensures ∙ c.if-is_clear.false)

pub returns-clause-first : goal.returns-clause-first
unfolding first_free
returns-clause-first c =
    sym (none_below (λ p. is_free (dirent_at c.args.version p c.args.block.now)) c.args.limit (λ k h. c.loop-place.invariant k (omega arith)))
