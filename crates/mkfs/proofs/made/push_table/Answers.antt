use Rattle.fs_layout.specs.Widths.{inode_len, inodes_per_block}
use Rattle.mkfs.proofs.Lemmas.{◌≡◌, ◌++◌, ◌+◌, ◌*◌, ◌-◌, ◌/◌, ◌∙◌, ℕ, List, ap, arith, length, map, replicate, refl, length-map, IfOk-equal, flat_map, spell_dinode, node_blocks, data_start, inode_blocks, NewFile, Node, contents_of, file_node, root_node, inode_for, inodes_from, table-parts}
use Rattle.mkfs.proofs.made.push_table.Goals as goal

pub returns : goal.returns
returns c =
    let old : List ℕ = c.args.image.now.items in
    let root : List ℕ = c.args.root.now in
    let files : List NewFile = c.args.files.now in
    let nodes : List Node = map file_node (contents_of files) in
    let first : ℕ = data_start c.args.ninodes in
    let k : ℕ = inode_len * ((c.args.ninodes / inodes_per_block + 1) * inodes_per_block - (2 + length files)) in
    let many : length nodes ≡ length files = length-map (contents_of files) file_node ∙ length-map files (λ (f : NewFile). f.content.items) in
    let free : (c.args.ninodes / inodes_per_block + 1) * inodes_per_block - (2 + length files) ≡ inodes_per_block * inode_blocks c.args.ninodes - (2 + length nodes) = omega (arith, many) in
    let inode : ℕ → List ℕ = λ at. spell_dinode (inode_for at (root_node root)) in
    let rest : ℕ → List ℕ = λ at. flat_map spell_dinode (inodes_from at nodes) in
    let at = c.data_start-first.ensures in
    let next : c.data_start-first.result + c.node_blocks.result ≡ first + node_blocks (length root) =
    ap (λ (n : ℕ). n + c.node_blocks.result) at ∙ ap (λ (n : ℕ). first + n) c.node_blocks.ensures.value in
    IfOk-equal c.push_many-2.result _ _ _ c.push_many-2.ensures
    (ap (λ (xs : List ℕ). xs ++ replicate k 0)
    (c.in_ok-push_file_inodes.ensures
    ∙ ap (λ (n : ℕ). c.push_inode.new.image.items ++ rest n) next
    ∙ ap (λ (xs : List ℕ). xs ++ rest (first + node_blocks (length root)))
    (c.in_ok-push_inode.ensures root refl
    ∙ ap (λ (n : ℕ). c.push_many.new.image.items ++ inode n) at
    ∙ ap (λ (xs : List ℕ). xs ++ inode first) c.in_ok-push_many.ensures))
    ∙ table-parts old c.args.ninodes first k (root_node root) nodes (ap (λ (n : ℕ). inode_len * n) free))
