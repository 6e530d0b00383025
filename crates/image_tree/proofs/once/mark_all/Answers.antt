use Rattle.image_tree.proofs.Lemmas.{◌++◌, sym, subst, filter, take, ◌+◌, arith, take_all, append-nil, iff_false, is_block, Marks, IsOnce, held, refuted, kept_more, twice_front}
use Rattle.image_tree.proofs.once.mark_all.Goals as goal

pub loop-i-init : goal.loop-i-init
loop-i-init c =
    λ xs m o. let e = sym (append-nil xs) in (subst (Marks c.args.seen.now) e m, subst IsOnce e o)

pub loop-i-preserved : goal.loop-i-preserved
loop-i-preserved c =
    λ xs m o.
    let now = c.loop-i.invariant xs m o in
    let e = sym (kept_more xs c.args.numbers.now c.loop-i.i (omega arith)) in
    let before = xs ++ filter is_block (take c.loop-i.i c.args.numbers.now) in (
      subst (Marks c.mark.new.seen) e (c.mark.ensures.marks before now.0 now.1 c.if-not-mark.false),
      subst IsOnce e ((c.mark.ensures.once before now.0 now.1).0 c.if-not-mark.false),
    )

pub returns-then-not-mark-clause-once : goal.returns-then-not-mark-clause-once
returns-then-not-mark-clause-once c =
    λ xs m o.
    let now = c.loop-i.invariant xs m o in
    let e = kept_more xs c.args.numbers.now c.loop-i.i (omega arith) in
    let bad = iff_false (c.mark.ensures.once (xs ++ filter is_block (take c.loop-i.i c.args.numbers.now)) now.0 now.1) c.if-not-mark.true in
    refuted _ (twice_front xs c.args.numbers.now (c.loop-i.i + 1) (λ h. bad (subst IsOnce e h)))

pub returns : goal.returns
returns c =
    let whole = take_all c.loop-i.i c.args.numbers.now (omega arith) in
    record { once = λ xs m o. held _ (rw whole at (c.loop-i.invariant xs m o).1); marks = λ xs m o yes. rw whole at (c.loop-i.invariant xs m o).0 }
