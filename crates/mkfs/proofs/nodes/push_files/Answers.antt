use Rattle.mkfs.proofs.Lemmas.{◌≡◌, ◌≤◌, ◌++◌, ◌+◌, ℕ, List, ap, ◌∙◌, arith, length, map, drop, node_blocks, NewFile, file_node, data_from, contents_of, node_bytes, size-at, data-next, one_more}
use Rattle.mkfs.proofs.nodes.push_files.Goals as goal

pub push_content-requires-clause-size : goal.push_content-requires-clause-size
push_content-requires-clause-size c = size-at c.args.files.now c.loop-file.file-index c.file-item.result _ c.as_slice-content.ensures.value c.requires.each c.loop-file-test.true c.file-item.is

pub node_blocks-requires : goal.node_blocks-requires
node_blocks-requires c = omega (arith, size-at c.args.files.now c.loop-file.file-index c.file-item.result _ c.as_slice-content.ensures.value c.requires.each c.loop-file-test.true c.file-item.is)

few : (c : goal.After-node_blocks) → c.node_blocks.result ≤ 269
few c = c.node_blocks.ensures.few (size-at c.args.files.now c.loop-file.file-index c.file-item.result _ c.as_slice-content.ensures.value c.requires.each c.loop-file-test.true c.file-item.is)

pub overflow_cast-at : goal.overflow_cast-at
overflow_cast-at c = omega (arith, few c)

pub overflow_add-at : goal.overflow_add-at
overflow_add-at c = omega (arith, c.loop-file.invariant.0, few c)

blocks : (c : goal.After-node_blocks) → c.loop-file.at + c.node_blocks.result ≡ c.loop-file.at + node_blocks (length c.file-item.result.content.items)
blocks c =
    ap (λ (n : ℕ). c.loop-file.at + n) (c.node_blocks.ensures.value ∙ ap (λ (bytes : List ℕ). node_blocks (length bytes)) c.as_slice-content.ensures.value)

pub loop-file-preserved : goal.loop-file-preserved
loop-file-preserved c =
    let file : NewFile = c.file-item.result in
    let old : List ℕ = c.loop-file.image.items in
    let files : List NewFile = drop (c.loop-file.file-index + 1) c.args.files.now in
    let new = c.in_ok-push_content.ensures ∙ ap (λ (bytes : List ℕ). old ++ node_bytes c.loop-file.at bytes) c.as_slice-content.ensures.value in (
      omega (arith, c.loop-file.invariant.0, few c),
      ap (λ (at : ℕ). c.push_content.new.image.items ++ data_from at (map file_node (contents_of files))) (blocks c)
          ∙ one_more old _ _ _ _ _ new (data-next c.args.files.now c.loop-file.file-index c.loop-file.at file c.loop-file-test.true c.file-item.is) c.loop-file.invariant.1,
    )
