use Rattle.std.proofs.Common.{◌≡◌, ◌∙◌, ap, arith, subst, sym, ℕ, ◌+◌, ◌≤◌, List, ◌++◌, length, drop, map}
use Rattle.image_versions.specs.Shared.{largest_size}
use Rattle.mkfs.proofs.Steps.{one_more}
use Rattle.migration.specs.Vocabulary.{flat_map, node_blocks, spell_dinode}
use Rattle.migration.specs.declared.node.NewNode.{NewNode}
use Rattle.migration.specs.Nodes.{node_of}
use Rattle.migration.specs.Image.{inodes_from}
use Rattle.migration.proofs.Steps.{few-nodes, inodes-next, size-at}
use Rattle.migration.proofs.parts.push_inodes.Goals as goal

pub push_inode-requires-clause-size : goal.push_inode-requires-clause-size
push_inode-requires-clause-size c = size-at c.args.nodes.now c.loop-node.node-index c.node-item.result c.requires.contents c.loop-node-test.true c.node-item.is

pub push_inode-requires-clause-first : goal.push_inode-requires-clause-first
push_inode-requires-clause-first c = omega (arith, c.loop-node.invariant.0, few-nodes c.args.nodes.now c.requires.contents)

pub node_blocks-requires : goal.node_blocks-requires
node_blocks-requires c =
    let small = size-at c.args.nodes.now c.loop-node.node-index c.node-item.result c.requires.contents c.loop-node-test.true c.node-item.is in
    omega (arith, subst (λ (bytes : List ℕ). length bytes ≤ largest_size) (sym c.as_slice-content.ensures.value) small)

few : (c : goal.After-node_blocks) → c.node_blocks.result ≤ 269
few c =
    c.node_blocks.ensures.few (subst (λ (bytes : List ℕ). length bytes ≤ largest_size) (sym c.as_slice-content.ensures.value)
    (size-at c.args.nodes.now c.loop-node.node-index c.node-item.result c.requires.contents c.loop-node-test.true c.node-item.is))

pub overflow_cast-at : goal.overflow_cast-at
overflow_cast-at c = omega (arith, few c)

pub overflow_add-at : goal.overflow_add-at
overflow_add-at c = omega (arith, c.loop-node.invariant.0, few c, few-nodes c.args.nodes.now c.requires.contents)

pub loop-node-preserved : goal.loop-node-preserved
loop-node-preserved c =
    let node : NewNode = c.node-item.result in
    let old : List ℕ = c.loop-node.image.items in
    let nodes : List NewNode = drop (c.loop-node.node-index + 1) c.args.nodes.now in
    let blocks : c.loop-node.at + c.node_blocks.result ≡ c.loop-node.at + node_blocks (length node.content.items) =
    ap (λ (n : ℕ). c.loop-node.at + n) (c.node_blocks.ensures.value ∙ ap (λ (bytes : List ℕ). node_blocks (length bytes)) c.as_slice-content.ensures.value) in (
      omega (arith, c.loop-node.invariant.0, few c),
      ap (λ (at : ℕ). c.push_inode.new.image.items ++ flat_map spell_dinode (inodes_from at (map node_of nodes))) blocks
          ∙ one_more old _ _ _ _ _ c.in_ok-push_inode.ensures (inodes-next c.args.nodes.now c.loop-node.node-index c.loop-node.at node c.loop-node-test.true c.node-item.is) c.loop-node.invariant.1,
    )
