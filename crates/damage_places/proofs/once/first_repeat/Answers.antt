use Rattle.image_tree.proofs.Lemmas.{◌∙◌, sym, refl, subst, ℕ, List, ◌-◌, arith, gathered, named_by, Marks, IsOnce, once_nil, marked, gathered-none}
use Rattle.damage_places.proofs.once.first_repeat.Goals as goal

pub loop-i-init : goal.loop-i-init
loop-i-init g c =
    let e = sym (gathered-none (named_by (g.D.Device.contents c.args.device.now))) in
    (refl, refl, subst (Marks c.args.seen.now) e c.requires.blank, subst IsOnce e once_nil)

pub loop-i-preserved : goal.loop-i-preserved
loop-i-preserved g c =
    let disk : List (List ℕ) = g.D.Device.contents c.args.device.now in
    let before = gathered (named_by disk) (c.loop-i.i - 1) in
    let e = marked disk (g.D.Device.contents c.loop-i.device) c.loop-i.i c.as_slice-numbers.result.now c.in_ok-numbers.numbers.items (omega arith) c.as_slice-numbers.ensures.value
    c.in_ok-numbers.ensures.numbers c.loop-i.invariant.0 in (
      c.in_ok-numbers.ensures.device.contents ∙ c.loop-i.invariant.0,
      c.in_ok-numbers.ensures.device.faults ∙ c.loop-i.invariant.1,
      subst (Marks c.mark_all.new.seen) e (c.in_default.ensures.marks before c.loop-i.invariant.2 c.loop-i.invariant.3 refl),
      subst IsOnce e (c.in_default.ensures.once before c.loop-i.invariant.2 c.loop-i.invariant.3),
    )
