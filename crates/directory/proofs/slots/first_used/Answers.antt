use Rattle.directory.proofs.Lemmas.{◌≡◌, ◌≢◌, sym, ◌∙◌, arith, ⊎_elim, cases_eq, no_used, used_here}
use Rattle.directory.proofs.slots.first_used.Goals as goal

pub returns-then-is_used-clause-first : goal.returns-then-is_used-clause-first
returns-then-is_used-clause-first c =
    used_here c.args.version c.args.block.now c.args.from c.args.limit c.loop-place.place c.loop-place-test.true c.loop-place.auto.place (sym c.is_used.ensures ∙ c.if-is_used.true) c.loop-place.invariant

pub loop-place-preserved : goal.loop-place-preserved
loop-place-preserved c =
    λ k l h. ⊎_elim
    (λ (e : k ≡ c.loop-place.place). rw e (sym c.is_used.ensures ∙ c.if-is_used.false))
    (λ (ne : k ≢ c.loop-place.place). c.loop-place.invariant k l (omega arith))
    (cases_eq k c.loop-place.place)

pub returns-clause-first : goal.returns-clause-first
returns-clause-first c = no_used c.args.version c.args.block.now c.args.from c.args.limit c.loop-place.place (omega arith) c.loop-place.invariant
