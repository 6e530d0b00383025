use Rattle.fs_layout.specs.Widths.{block_len, inode_len}
use Rattle.mkfs.proofs.Lemmas.{◌++◌, ◌≡◌, List, ℕ, ap, ◌∙◌, take, arith, rules, w16, SFits, length-take-le, to_z-of_z, Dinode, spell_dinode, length-spell_dinode, Node, inode_for, padded, overwrite-zeros, take-padded, length-addrs, ok_items}
use Rattle.mkfs.proofs.parts.push_inode.Goals as goal

pub slice_bounds-extend_from_slice-end : goal.slice_bounds-extend_from_slice-end
slice_bounds-extend_from_slice-end c = omega (arith, length-take-le inode_len c.write_dinode.new.block (omega arith))

pub returns : goal.returns
returns c =
    λ content e.
    let node : Node = record { kind = c.args.kind; content = content } in
    let d : Dinode = inode_for c.args.first node in
    let fits : SFits w16 c.args.kind = search rules in
    let is : c.inode_for-inode.result ≡ d = simp to_z-of_z at (c.inode_for-inode.ensures content e) in
    let bytes : c.write_dinode.new.block ≡ padded block_len (spell_dinode d) =
    c.write_dinode.ensures.bytes ∙ overwrite-zeros block_len (spell_dinode c.inode_for-inode.result) ∙ ap (λ (x : Dinode). padded block_len (spell_dinode x)) is in
    ok_items c.extend_from_slice.result _ _ _ _ c.extend_from_slice.ensures.items
    (ap (λ (xs : List ℕ). c.args.image.now.items ++ xs)
    (ap (take inode_len) bytes ∙ take-padded block_len inode_len (spell_dinode d) (length-spell_dinode d (length-addrs c.args.first node))))
