-- Contents written: programs over what all harts share. Nothing is marked in them.
use Rattle.std.specs.Prelude.{ℕ, zero, suc, ◌+◌, ◌-◌, ◌*◌, ◌/◌, ◌%◌, ◌==◌, max, if◌then◌else◌, List, length, take, drop, slice_index, slice_set, Option, Some, None}
use Rattle.inode_data.specs.Vocabulary.{Dinode, Super, overwrite, u32_bytes, numbers_in, block_len, number_len, Prog, Ret, Do, bind, unmarked, Answer, Put, fetch, take_block, store}
use Rattle.fs_machine.specs.Steps.{Op}
use Rattle.inode_data.specs.Widths.{direct}
use Rattle.inode_data.specs.Addresses.{address, table_of}
use Rattle.inode_data.specs.Programs.{blocks_between}
use Rattle.inode_data.specs.declared.locate.Located.{Located}
use Rattle.inode_data.specs.declared.addresses.Address.{Address}
use Rattle.inode_data.specs.declared.addresses.Address.TheVariants.{Direct, InTable}

-- ---- a block of a content, taken if it is missing

-- a free block, filled with zeros
abbrev pub take_one : {M : Type 0} → Super → Prog Op Answer M (Option ℕ)
take_one sizes = take_block sizes.bmapstart sizes.size

-- an inode's record with this block number at this place
abbrev pub with_address : ℕ → ℕ → Dinode → Dinode
with_address i b d = record d { addrs = slice_set d.addrs i b }

-- an indirect block with this number at this place
abbrev pub with_number : ℕ → ℕ → List ℕ → List ℕ
with_number i b table = overwrite table (number_len * i) (u32_bytes b)

abbrev pub located : {M : Type 0} → Dinode → Option ℕ → Prog Op Answer M Located
located d number = Ret (record { inode = d; number = number })

abbrev pub name_direct : {M : Type 0} → ℕ → Dinode → Option ℕ → Prog Op Answer M Located
name_direct i d None = located d None
name_direct i d (Some b) = located (with_address i b d) (Some b)

-- the indirect block goes back, with the number of the block that was taken for this place
abbrev pub name_in_table : {M : Type 0} → (i : ℕ) → Dinode → (table : ℕ) → List ℕ → Option ℕ → Prog Op Answer M Located
name_in_table i d table bytes None = Do (Put table None) unmarked (λ _. located d None)
name_in_table i d table bytes (Some b) = Do (Put table (Some (with_number i b bytes))) unmarked (λ _. located d (Some b))

-- the number at this place of the indirect block; while its buffer is in hand, a block is taken if there is none
abbrev pub look_up : {M : Type 0} → Super → (i : ℕ) → Dinode → (table : ℕ) → List ℕ → Prog Op Answer M Located
look_up sizes i d table bytes =
    if slice_index (numbers_in bytes) i == 0 then bind (take_one sizes) (name_in_table i d table bytes)
    else Do (Put table None) unmarked (λ _. located d (Some (slice_index (numbers_in bytes) i)))

abbrev pub locate_in_table : {M : Type 0} → Super → ℕ → Dinode → Prog Op Answer M Located
locate_in_table sizes i d = bind (fetch (table_of d)) (look_up sizes i d (table_of d))

-- the same after an indirect block was taken
abbrev pub with_table : {M : Type 0} → Super → ℕ → Dinode → Option ℕ → Prog Op Answer M Located
with_table sizes i d None = located d None
with_table sizes i d (Some table) = bind (fetch table) (look_up sizes i (with_address direct table d) table)

abbrev pub locate_at : {M : Type 0} → Super → Dinode → Address → Prog Op Answer M Located
locate_at sizes d (Direct i) =
    if slice_index d.addrs i == 0 then bind (take_one sizes) (name_direct i d) else located d (Some (slice_index d.addrs i))
locate_at sizes d (InTable i) = if table_of d == 0 then bind (take_one sizes) (with_table sizes i d) else locate_in_table sizes i d

-- Block k of a content. If it is missing it is taken, and an indirect block just before the block that needs it.
abbrev pub locate : {M : Type 0} → Super → Dinode → ℕ → Prog Op Answer M Located
locate sizes d k = locate_at sizes d (address k)

-- ---- writing

-- the record, and up to which offset the bytes were written
pub record WriteResult : Type 0 where
  pub inode : Dinode
  pub upto : ℕ

-- the bytes from an offset on that are those of its block
abbrev pub front_of : ℕ → List ℕ → List ℕ
front_of at bytes = take (block_len - at % block_len) bytes

-- a block with these bytes from an offset of the content on
abbrev pub with_part : ℕ → List ℕ → List ℕ → List ℕ
with_part at bytes block = overwrite block (at % block_len) (front_of at bytes)

-- the block is recorded with its part of the bytes
abbrev pub put_part : {M : Type 0} → Prog Op Answer M WriteResult → ℕ → (at : ℕ) → List ℕ → List ℕ → Prog Op Answer M WriteResult
put_part more b at bytes block = Do (Put b (Some (with_part at bytes block))) unmarked (λ _. more)

-- the part of the next block is written, if there is one; else the writing ends before it
abbrev pub write_in : {M : Type 0} → (Dinode → Prog Op Answer M WriteResult) → (at : ℕ) → List ℕ → Dinode → Option ℕ
    → Prog Op Answer M WriteResult
write_in more at bytes d None = Ret (record { inode = d; upto = at })
write_in more at bytes d (Some b) = bind (fetch b) (put_part (more d) b at bytes)

abbrev pub write_located : {M : Type 0} → (Dinode → Prog Op Answer M WriteResult) → (at : ℕ) → List ℕ → Located
    → Prog Op Answer M WriteResult
write_located more at bytes l = write_in more at bytes l.inode l.number

-- these bytes go into the next blocks from an offset on, in order
unfoldable pub write_blocks : {M : Type 0} → ℕ → Super → (at : ℕ) → List ℕ → Dinode → Prog Op Answer M WriteResult
write_blocks zero sizes at bytes d = Ret (record { inode = d; upto = at })
write_blocks (suc n) sizes at bytes d =
    bind (locate sizes d (at / block_len))
    (write_located (write_blocks n sizes (at + length (front_of at bytes)) (drop (length (front_of at bytes)) bytes)) at bytes)

-- the inode's record after bytes were written up to an offset
abbrev pub grown : WriteResult → Dinode
grown w = record w.inode { size = max w.inode.size w.upto }

abbrev pub store_written : {M : Type 0} → Super → ℕ → WriteResult → Prog Op Answer M WriteResult
store_written sizes n w = bind (store sizes.inodestart n (grown w)) (λ _. Ret (record { inode = grown w; upto = w.upto }))

-- The bytes are written from an offset on. If a block is missing and none is free, only the bytes before it are
-- written. The inode is stored at the end.
abbrev pub write_part : {M : Type 0} → Super → ℕ → Dinode → (offset : ℕ) → List ℕ → Prog Op Answer M WriteResult
write_part sizes n d offset bytes =
    bind (write_blocks (blocks_between offset (offset + length bytes)) sizes offset bytes d) (store_written sizes n)
