-- An inode block after an inode was stored in it.
use Rattle.fs_layout.specs.Widths.{inode_len}
use Rattle.inode_table.proofs.Vocabulary.{◌*◌, ap, ◌∙◌, arith, spell_dinode, dinode_of, part-overwrite, record_at-overwrite, dinode_of-spell, length-spell_dinode, place_of, with_dinode, StoresOneInode}

pub stores_one : StoresOneInode
unfolding with_dinode
stores_one n d block is long = (
  ap dinode_of (part-overwrite block (spell_dinode d) (inode_len * place_of n) inode_len (omega arith) (length-spell_dinode d is.thirteen)) ∙ dinode_of-spell d is,
  λ q h ne. ap dinode_of (record_at-overwrite inode_len (place_of n) q block (spell_dinode d) (length-spell_dinode d is.thirteen) (omega arith) ne),
)
