use Rattle.image_tree.proofs.Lemmas.{◌≡◌, ◌∙◌, sym, refl, subst, ℕ, List, ◌+◌, ◌-◌, arith, iff_false, none, calls_after, gathered, named_by, sizes_of, Marks, IsOnce, held, refuted, once_nil, marked, twice_gathered, gathered-none, in_order}
use Rattle.image_tree.proofs.once.has_no_repeat.Goals as goal

pub loop-i-init : goal.loop-i-init
loop-i-init g c =
    let e = sym (gathered-none (named_by (g.D.Device.contents c.args.device.now))) in
    (refl, refl, subst (Marks c.args.seen.now) e c.requires.blank, subst IsOnce e once_nil, none)

pub returns-then-not-mark_all-clause-once : goal.returns-then-not-mark_all-clause-once
returns-then-not-mark_all-clause-once g c =
    let disk : List (List ℕ) = g.D.Device.contents c.args.device.now in
    let bad = iff_false (c.mark_all.ensures.once (gathered (named_by disk) (c.loop-i.i - 1)) c.loop-i.invariant.2 c.loop-i.invariant.3) c.if-not-mark_all.true in
    let e = marked disk (g.D.Device.contents c.loop-i.device) c.loop-i.i c.as_slice.result.now c.in_ok-numbers.numbers.items (omega arith) c.as_slice.ensures.value c.in_ok-numbers.ensures.numbers c.loop-i.invariant.0 in
    refuted _ (twice_gathered (named_by disk) (c.loop-i.i + 1 - 1) ((sizes_of disk).ninodes - 1) (rw (← c.requires.layout.sizes) (omega arith))
    (λ h. bad (subst IsOnce (sym e) h)))

pub loop-i-preserved : goal.loop-i-preserved
loop-i-preserved g c =
    let disk : List (List ℕ) = g.D.Device.contents c.args.device.now in
    let before = gathered (named_by disk) (c.loop-i.i - 1) in
    let e = marked disk (g.D.Device.contents c.loop-i.device) c.loop-i.i c.as_slice.result.now c.in_ok-numbers.numbers.items (omega arith) c.as_slice.ensures.value c.in_ok-numbers.ensures.numbers c.loop-i.invariant.0 in (
      c.in_ok-numbers.ensures.device.contents ∙ c.loop-i.invariant.0,
      c.in_ok-numbers.ensures.device.faults ∙ c.loop-i.invariant.1,
      subst (Marks c.mark_all.new.seen) e (c.mark_all.ensures.marks before c.loop-i.invariant.2 c.loop-i.invariant.3 c.if-not-mark_all.false),
      subst IsOnce e ((c.mark_all.ensures.once before c.loop-i.invariant.2 c.loop-i.invariant.3).0 c.if-not-mark_all.false),
      calls_after c.loop-i.invariant.4 c.in_ok-numbers.ensures.calls,
    )

pub returns-clause-once : goal.returns-clause-once
returns-clause-once g c =
    let disk : List (List ℕ) = g.D.Device.contents c.args.device.now in
    let all = c.loop-i.invariant.3 in
    let order = in_order disk c.args.layout.now c.requires.layout in
    let end : c.loop-i.i ≡ (sizes_of disk).ninodes = rw (← c.requires.layout.sizes) (omega arith) in
    held _ (subst (λ (n : ℕ). IsOnce (gathered (named_by disk) (n - 1))) end all)
