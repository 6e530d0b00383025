use Rattle.image_tree.proofs.Lemmas.{◌≡◌, true, false, get_or, arith, take_all, iff_false, slot_number, held, refuted, All-at}
use Rattle.image_tree.proofs.entries.name_nodes.Goals as goal

pub returns-then-not-names_node : goal.returns-then-not-names_node
returns-then-not-names_node c =
    refuted _ (λ all.
    iff_false c.names_node.ensures c.if-not-names_node.true
    (All-at (λ n. get_or c.args.nodes.now n false ≡ true) slot_number c.args.slots.now c.loop-s.s c.index-slots-s.result (omega arith) c.index-slots-s.is all))

pub returns : goal.returns
returns c = let whole = take_all c.loop-s.s c.args.slots.now (omega arith) in held _ (rw whole at c.loop-s.invariant)
