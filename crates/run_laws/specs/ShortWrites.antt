-- The place at which a write ends for want of a block: just before that block of the content, whatever its steps are
-- answered.
use Rattle.std.specs.Prelude.{◌≡◌, ◌⊎◌, ℕ, ◌+◌, ◌*◌, ◌<◌, max, slice_index, List, length, Option}
use Rattle.run_laws.specs.Vocabulary.{Super, Handover, Carry, Short, handlers}
use Rattle.fs_layout.specs.declared.inode.Dinode.{Dinode}
use Rattle.fs_layout.specs.Widths.{block_len}
use Rattle.inode_data.specs.Addresses.{address, table_of}
use Rattle.fs_layout.specs.Indirect.{numbers_in}
use Rattle.inode_data.specs.declared.addresses.Address.{Address}
use Rattle.inode_data.specs.declared.addresses.Address.TheVariants.{Direct, InTable}
use Rattle.inode_machine.specs.World as above
use Rattle.inode_machine.specs.World.Op.{WriteFile}
use Rattle.inodes_on_blocks.specs.Storing.{record_in}
use Rattle.run_laws.specs.Searches.{AnsweredStep, ComesTo, HasRead, SawNoBlock}

-- A block of a content is missing: the inode has no number for it; or it has no indirect block, or one that was read, with no number there.
abbrev pub IsMissing : List AnsweredStep → Dinode → Address → Type 0
IsMissing es d (Direct i) = slice_index d.addrs i ≡ 0
IsMissing es d (InTable i) =
    (table_of d ≡ 0) ⊎ ((table : List ℕ) × HasRead es (table_of d) table × (slice_index (numbers_in table) i ≡ 0))

-- Of bytes from an offset on, `count` were written: those before one block of the content, and only those. The inode
-- lacked that block, and none was free.
pub record EndsBeforeMissing (sizes : Super) (es : List AnsweredStep) (d : Dinode) (offset : ℕ) (bytes : List ℕ) (count : ℕ) : Type 0 where
  pub block : ℕ
  pub reached : offset < block_len * (block + 1)
  pub before : offset + count ≡ max offset (block_len * block)
  pub fewer : count < length bytes
  pub missing : IsMissing es d (address block)
  pub none : SawNoBlock sizes es

-- So does each write that is answered that there was no block for all of its bytes, of the inode that the hart has in hand.
abbrev pub ShortWritesEndBeforeMissing : Type 0
ShortWritesEndBeforeMissing =
    (sizes : Super) (c : Carry) (fd n offset count : ℕ) (bytes : List ℕ) (m : above.Wrote → Option above.Mark) (es : List AnsweredStep)
    (r : Handover above.Wrote Carry)
    → ComesTo (handlers sizes c (WriteFile fd n offset bytes) m) es r → r.answer ≡ Short count
    → EndsBeforeMissing sizes es (record_in c n) offset bytes count
