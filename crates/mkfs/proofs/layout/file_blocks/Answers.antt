use Rattle.mkfs.proofs.Lemmas.{ℕ, List, length, ap, ◌∙◌, arith, NewFile, node_blocks, size-at, blocks-next, blocks_more}
use Rattle.mkfs.proofs.layout.file_blocks.Goals as goal

pub node_blocks-blocks-requires : goal.node_blocks-blocks-requires
node_blocks-blocks-requires c =
    omega (arith, size-at c.args.files.now c.loop-file.file-index c.file-item.result _ c.as_slice-content.ensures.value c.requires.each c.loop-file-test.true c.file-item.is)

pub loop-file-preserved : goal.loop-file-preserved
loop-file-preserved c =
    let file : NewFile = c.file-item.result in
    let few = size-at c.args.files.now c.loop-file.file-index file _ c.as_slice-content.ensures.value c.requires.each c.loop-file-test.true c.file-item.is in
    let part = c.node_blocks-blocks.ensures.value ∙ ap (λ (bytes : List ℕ). node_blocks (length bytes)) c.as_slice-content.ensures.value in (
      blocks_more _ _ _ _ _ _ part (blocks-next c.args.files.now c.loop-file.file-index file c.loop-file-test.true c.file-item.is) c.loop-file.invariant.0,
      omega (arith, c.loop-file.invariant.1, c.node_blocks-blocks.ensures.few few),
    )
