use Rattle.plain_tree.proofs.Lemmas.{ap, sym, ◌∙◌, ◌≡◌, true, false, same_name, pass_none, pass_other, clears_found, clears_none}
use Rattle.plain_tree.proofs.slots.slot_named.Goals as goal
use Rattle.plain_tree.proofs.slots.slot_named.Goals.{in-None, in-Some+else-same}

pub returns-then-same : goal.returns-then-same
returns-then-same c =
    let h : same_name c.in-Some.slot.name c.args.name.now ≡ true = ap (λ x. same_name x c.args.name.now) (sym c.as_slice.ensures) ∙ (sym c.same.ensures ∙ c.if-same.true) in
    clears_found c.args.slots.now c.args.name.now c.loop-i.i c.index-slots-i.result c.in-Some.slot c.loop-i-test.true c.index-slots-i.is c.in-Some.is h c.loop-i.invariant

pub loop-i-preserved : goal.loop-i-preserved
loop-i-preserved c = elim c.match-slot.branch [
  | in-None w ↦ pass_none c.args.slots.now c.args.name.now c.loop-i.i c.index-slots-i.result c.loop-i-test.true c.index-slots-i.is w.in-None.is c.loop-i.invariant
  | in-Some+else-same w ↦ (let h : same_name w.in-Some.slot.name c.args.name.now ≡ false = ap (λ x. same_name x c.args.name.now) (sym w.as_slice.ensures) ∙ (sym w.same.ensures ∙ w.if-same.false) in
      pass_other c.args.slots.now c.args.name.now c.loop-i.i c.index-slots-i.result w.in-Some.slot c.loop-i-test.true c.index-slots-i.is w.in-Some.is h c.loop-i.invariant)
]

pub returns : goal.returns
returns c = clears_none c.args.slots.now c.args.name.now c.loop-i.i c.loop-i-test.false c.loop-i.invariant
