use Rattle.plain_tree.proofs.Lemmas.{ap, sym, List, Option, Some, None, get_or, ◌∙◌, Slot, Node, Directory, tree_of, slots_of, first_free, changed, put_node_back, live_is, live_below, on_result}
use Rattle.plain_tree.proofs.tree.Tree.enter.Goals as goal

pub take_node-count-requires : goal.take_node-count-requires
take_node-count-requires c = live_below c.args.self.now c.args.directory c.requires

pub returns-clause-tree : goal.returns-clause-tree
returns-clause-tree c =
    let x : Node = c.take_node-count.result in
    let s : Slot = record { name = c.args.name; number = c.args.number } in
    on_result c.enter_slot-entered.result
    (λ h. changed (tree_of c.args.self.now) (tree_of c.take_node-count.new.self) (tree_of c.set_node.new.self) c.args.directory
    (λ v. record v { kind = Directory (first_free (slots_of v.kind) s) })
    x (record { count = x.count; kind = Directory c.new.result })
    c.take_node-count.ensures.rest c.set_node.ensures.tree c.take_node-count.ensures.node
    (ap (λ (ss : List (Option Slot)). record { count = x.count; kind = Directory ss }) (c.new.ensures ∙ (h ∙ ap (λ ss. first_free ss s) c.into_slots-slots.ensures))))
    (λ h. put_node_back c.args.self.now c.take_node-count.new.self c.set_node.new.self c.args.directory None (Some (record { count = x.count; kind = Directory c.new.result })) c.take_node-count.ensures.place c.set_node.ensures.place
    (live_is (get_or c.args.self.now.nodes c.args.directory None) c.requires
    ∙ (ap (λ (v : Node). Some (record { count = v.count; kind = Directory (slots_of v.kind) })) (sym c.take_node-count.ensures.node)
    ∙ ap (λ (ss : List (Option Slot)). Some (record { count = x.count; kind = Directory ss })) (sym (c.new.ensures ∙ (h ∙ c.into_slots-slots.ensures))))))
    c.enter_slot-entered.ensures
