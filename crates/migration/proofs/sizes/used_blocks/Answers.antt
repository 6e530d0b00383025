use Rattle.std.proofs.Common.{◌∙◌, ap, arith, subst, sym, ℕ, ◌≤◌, List, length}
use Rattle.image_versions.specs.Shared.{largest_size}
use Rattle.migration.specs.Vocabulary.{node_blocks}
use Rattle.migration.proofs.Steps.{size-at, used-more}
use Rattle.migration.proofs.sizes.used_blocks.Goals as goal

pub node_blocks-blocks-requires : goal.node_blocks-blocks-requires
node_blocks-blocks-requires c =
    let small = size-at c.args.nodes.now c.loop-node.node-index c.node-item.result c.requires.contents c.loop-node-test.true c.node-item.is in
    omega (arith, subst (λ (bytes : List ℕ). length bytes ≤ largest_size) (sym c.as_slice-content.ensures.value) small)

few : (c : goal.After-node_blocks-blocks) → c.node_blocks-blocks.result ≤ 269
few c =
    c.node_blocks-blocks.ensures.few (subst (λ (bytes : List ℕ). length bytes ≤ largest_size) (sym c.as_slice-content.ensures.value)
    (size-at c.args.nodes.now c.loop-node.node-index c.node-item.result c.requires.contents c.loop-node-test.true c.node-item.is))

pub loop-node-preserved : goal.loop-node-preserved
loop-node-preserved c =
    let part = c.node_blocks-blocks.ensures.value ∙ ap (λ (bytes : List ℕ). node_blocks (length bytes)) c.as_slice-content.ensures.value in (
      used-more c.args.nodes.now c.loop-node.node-index c.node-item.result c.loop-node.blocks c.args.first c.node_blocks-blocks.result c.loop-node-test.true c.node-item.is part
          c.loop-node.invariant.0,
      omega (arith, c.loop-node.invariant.1, few c),
    )
