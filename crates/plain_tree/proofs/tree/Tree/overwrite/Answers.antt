use Rattle.plain_tree.proofs.Lemmas.{ap, sym, ◌∙◌, ◌≡◌, List, ℕ, Node, NodeKind, File, Tree, tree_of, at_node, node_at, written_kind, changed, stays}
use Rattle.plain_tree.proofs.tree.Tree.overwrite.Goals as goal

pub returns-in_default : goal.returns-in_default
returns-in_default c = stays (tree_of c.args.self.now) c.args.number _ (rw c.in_default.is at c.in_ok-new.ensures)

pub returns : goal.returns
returns c =
    let x : Node = c.take_node-count.result in
    let f : Node → Node = λ v. record v { kind = written_kind v.kind c.args.offset c.args.bytes.now } in
    let same = c.in_ok-reach.ensures.tree in
    let new : written_kind (node_at (tree_of c.args.self.now) c.args.number).kind c.args.offset c.args.bytes.now ≡ File c.in-Some.new.items = rw c.in-Some.is at c.in_ok-new.ensures in
    let node : x ≡ node_at (tree_of c.args.self.now) c.args.number = c.take_node-count.ensures.node ∙ ap (λ (t : Tree). node_at t c.args.number) same in
    changed (tree_of c.reach.new.self) (tree_of c.take_node-count.new.self) (tree_of c.set_node.new.self) c.args.number f x (record { count = x.count; kind = File c.new.result })
    c.take_node-count.ensures.rest c.set_node.ensures.tree c.take_node-count.ensures.node
    (ap (λ (kd : NodeKind). record { count = x.count; kind = kd })
    (ap (λ (bs : List ℕ). File bs) c.new.ensures ∙ (sym new ∙ ap (λ (v : Node). written_kind v.kind c.args.offset c.args.bytes.now) (sym node))))
    ∙ ap (λ (t : Tree). at_node t c.args.number f) same
