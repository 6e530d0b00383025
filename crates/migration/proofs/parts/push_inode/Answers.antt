use Rattle.std.proofs.Common.{◌≡◌, ◌∙◌, ap, arith, ℕ, List, ◌++◌, take}
use Rattle.fs_layout.specs.Widths.{block_len, inode_len}
use Rattle.fs_layout.proofs.Vocabulary.{length-take-le}
use Rattle.fs_layout.proofs.Inodes.{length-spell_dinode}
use Rattle.mkfs.proofs.Padding.{overwrite-zeros, take-padded}
use Rattle.mkfs.proofs.Steps.{ok_items}
use Rattle.migration.specs.Vocabulary.{Dinode, padded, spell_dinode}
use Rattle.migration.specs.Nodes.{node_of}
use Rattle.migration.specs.Image.{inode_for}
use Rattle.migration.proofs.Steps.{length-addrs}
use Rattle.migration.proofs.parts.push_inode.Goals as goal

pub slice_bounds-extend_from_slice-end : goal.slice_bounds-extend_from_slice-end
slice_bounds-extend_from_slice-end c = omega (arith, length-take-le inode_len c.write_dinode.new.block (omega arith))

pub returns : goal.returns
returns c =
    let d : Dinode = inode_for c.args.first (node_of c.args.node.now) in
    let bytes : c.write_dinode.new.block ≡ padded block_len (spell_dinode d) =
    c.write_dinode.ensures.bytes ∙ overwrite-zeros block_len (spell_dinode c.inode_for-inode.result)
    ∙ ap (λ (x : Dinode). padded block_len (spell_dinode x)) c.inode_for-inode.ensures in
    ok_items c.extend_from_slice.result _ _ _ _ c.extend_from_slice.ensures.items
    (ap (λ (xs : List ℕ). c.args.image.now.items ++ xs)
    (ap (take inode_len) bytes ∙ take-padded block_len inode_len (spell_dinode d) (length-spell_dinode d (length-addrs c.args.first (node_of c.args.node.now)))))
