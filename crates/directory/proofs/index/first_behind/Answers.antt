use Rattle.directory.proofs.Lemmas.{◌∙◌, ◌≡◌, ap, arith, ℕ, length, insert, placed_ends, placed_goes, placed_stops}
use Rattle.directory.proofs.index.first_behind.Goals as goal

pub returns-then-place-slot-clause-placed : goal.returns-then-place-slot-clause-placed
returns-then-place-slot-clause-placed c e same =
    placed_stops c.args.slots.now c.loop-at.at e (c.loop-at.invariant e same) c.loop-at-test.true (omega arith)

pub loop-at-preserved : goal.loop-at-preserved
loop-at-preserved c e same = placed_goes c.args.slots.now c.loop-at.at e (c.loop-at.invariant e same) c.loop-at-test.true (omega arith)

pub returns-clause-placed : goal.returns-clause-placed
returns-clause-placed c e same =
    let end : c.loop-at.at ≡ length c.args.slots.now = omega arith in
    placed_ends c.args.slots.now c.loop-at.at e (c.loop-at.invariant e same) c.loop-at-test.false ∙ ap (λ (i : ℕ). insert c.args.slots.now i e) end
