use Rattle.fs_layout.specs.Widths.{block_len}
use Rattle.mkfs.proofs.Lemmas.{◌++◌, List, ℕ, ap, ◌∙◌, spell_super, overwrite-zeros, ok_items}
use Rattle.mkfs.proofs.parts.push_super.Goals as goal

pub returns : goal.returns
returns c =
    ok_items c.extend_from_slice.result _ _ _ _ c.extend_from_slice.ensures.items
    (ap (λ (xs : List ℕ). c.args.image.now.items ++ xs) (c.write_super.ensures.bytes ∙ overwrite-zeros block_len (spell_super c.args.superblock.now)))
