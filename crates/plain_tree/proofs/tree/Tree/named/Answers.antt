use Rattle.plain_tree.proofs.Lemmas.{◌≡◌, ◌∙◌, ap, arith, length, named_copy}
use Rattle.plain_tree.proofs.tree.Tree.named.Goals as goal

pub returns : goal.returns
returns c = named_copy c.args.self.now c.in_ok-marks.marks.items c.deref-is_marked-items.result.now c.loop-number.number c.loop-number.nodes.items c.at_rest.result c.at_rest.ensures c.deref-is_marked-items.ensures.value c.in_ok-marks.ensures (omega arith) c.loop-number.invariant

pub at_rest-requires : goal.at_rest-requires
at_rest-requires c =
    let last : c.loop-number.number ≡ length c.deref-is_marked-items.result.now = omega arith in
    c.loop-number.invariant.0 ∙ (last ∙ (ap length c.deref-is_marked-items.ensures.value ∙ c.in_ok-marks.ensures.size))
