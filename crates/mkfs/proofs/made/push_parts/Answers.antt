use Rattle.fs_layout.specs.Widths.{block_len}
use Rattle.mkfs.proofs.Lemmas.{◌≡◌, ◌++◌, ◌+◌, ◌*◌, ◌-◌, ◌∙◌, ℕ, List, ap, length, replicate, IfOk-equal, node_blocks, file_blocks, data_start, Node, contents_of, nodes_with, inode_table, bitmap, data_from, used_by, image-parts, used-parts}
use Rattle.mkfs.proofs.made.push_parts.Goals as goal

pub returns : goal.returns
returns c =
    let old : List ℕ = c.args.image.now.items in
    let root : List ℕ = c.args.root.now in
    let contents : List (List ℕ) = contents_of c.args.files.now in
    let nodes : List Node = nodes_with root contents in
    let first : ℕ = data_start c.args.ninodes in
    let used : ℕ = c.used_blocks-used.result in
    let at : c.data_start-first.result ≡ first = c.data_start-first.ensures in
    let same : used ≡ used_by first nodes =
    c.used_blocks-used.ensures ∙ ap (λ (n : ℕ). n + node_blocks (length root) + file_blocks contents) at ∙ used-parts first root contents in
    let table : List ℕ = inode_table c.args.ninodes first nodes in
    IfOk-equal c.push_many.result _ _ _ c.push_many.ensures
    (ap (λ (xs : List ℕ). xs ++ replicate (block_len * (c.args.size - used)) 0)
    (c.in_ok-push_data.ensures
    ∙ ap (λ (n : ℕ). c.push_bitmap.new.image.items ++ data_from n nodes) at
    ∙ ap (λ (xs : List ℕ). xs ++ data_from first nodes)
    (c.in_ok-push_bitmap.ensures
    ∙ ap (λ (xs : List ℕ). xs ++ bitmap used) (c.in_ok-push_table.ensures ∙ ap (λ (xs : List ℕ). xs ++ table) c.in_ok-push_front.ensures)))
    ∙ image-parts c.args.version old c.args.size c.args.ninodes used nodes same)
