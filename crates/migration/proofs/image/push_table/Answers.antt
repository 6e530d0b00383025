use Rattle.std.proofs.Common.{◌≡◌, ◌∙◌, ap, arith, ℕ, ◌+◌, ◌-◌, ◌*◌, ◌/◌, List, ◌++◌, length, map, replicate}
use Rattle.std.proofs.lemmas.List.{length-map}
use Rattle.std.proofs.lemmas.Result.{IfOk-equal}
use Rattle.fs_layout.specs.Widths.{inode_len, inodes_per_block}
use Rattle.migration.specs.Vocabulary.{data_start, flat_map, inode_blocks, spell_dinode}
use Rattle.migration.specs.Nodes.{Node, node_of}
use Rattle.migration.specs.Image.{inodes_from}
use Rattle.migration.proofs.Steps.{table-parts}
use Rattle.migration.proofs.image.push_table.Goals as goal

pub returns : goal.returns
returns c =
    let old : List ℕ = c.args.image.now.items in
    let nodes : List Node = map node_of c.args.nodes.now in
    let k : ℕ = inode_len * ((c.args.ninodes / inodes_per_block + 1) * inodes_per_block - (1 + length c.args.nodes.now)) in
    let many : length nodes ≡ length c.args.nodes.now = length-map c.args.nodes.now node_of in
    let free : (c.args.ninodes / inodes_per_block + 1) * inodes_per_block - (1 + length c.args.nodes.now) ≡ inodes_per_block * inode_blocks c.args.ninodes - (1 + length nodes) = omega arith in
    let rest : ℕ → List ℕ = λ at. flat_map spell_dinode (inodes_from at nodes) in
    IfOk-equal c.push_many-2.result _ _ _ c.push_many-2.ensures
    (ap (λ (xs : List ℕ). xs ++ replicate k 0)
    (c.in_ok-push_inodes.ensures
    ∙ ap (λ (n : ℕ). c.push_many.new.image.items ++ rest n) c.data_start.ensures
    ∙ ap (λ (xs : List ℕ). xs ++ rest (data_start c.args.ninodes)) c.in_ok-push_many.ensures)
    ∙ table-parts old c.args.ninodes (data_start c.args.ninodes) k nodes (ap (λ (n : ℕ). inode_len * n) free))
