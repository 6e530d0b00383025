use Rattle.plain_tree.proofs.Lemmas.{ap, ℕ, List, Option, ◌-◌, if◌then◌else◌, ◌∙◌, Slot, Node, Directory, tree_of, slots_of, cleared, changed}
use Rattle.plain_tree.proofs.tree.Tree.clear.Goals as goal

pub returns-clause-tree : goal.returns-clause-tree
returns-clause-tree c =
    let x : Node = c.take_node-count.result in
    changed (tree_of c.args.self.now) (tree_of c.take_node-count.new.self) (tree_of c.set_node.new.self) c.args.directory
    (λ v. record { kind = Directory (cleared (slots_of v.kind) c.args.name.now); count = if c.args.lowers then v.count - 1 else v.count })
    x (record { count = c.fewer-count.result; kind = Directory c.new.result })
    c.take_node-count.ensures.rest c.set_node.ensures.tree c.take_node-count.ensures.node
    (ap (λ (k : ℕ). record { count = k; kind = Directory c.new.result }) c.fewer-count.ensures
    ∙ ap (λ (ss : List (Option Slot)). record { count = if c.args.lowers then x.count - 1 else x.count; kind = Directory ss })
    (c.new.ensures ∙ (c.clear_slot.ensures ∙ ap (λ ss. cleared ss c.args.name.now) c.into_slots-slots.ensures)))
