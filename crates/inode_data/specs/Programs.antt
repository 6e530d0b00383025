-- Contents read: programs over what all harts share. Nothing is marked in them.
use Rattle.std.specs.Prelude.{ℕ, zero, suc, ◌+◌, ◌-◌, ◌*◌, ◌/◌, ◌%◌, List, length, min, nat_lt, if◌then◌else◌, None, take, drop, slice_index}
use Rattle.inode_data.specs.Vocabulary.{Dinode, overwrite, numbers_in, block_len, Prog, Ret, Do, bind, unmarked, Answer, Put, fetch}
use Rattle.fs_machine.specs.Steps.{Op}
use Rattle.inode_data.specs.declared.addresses.Address.{Address}
use Rattle.inode_data.specs.declared.addresses.Address.TheVariants.{Direct, InTable}
use Rattle.inode_data.specs.Widths.{most_bytes}
use Rattle.inode_data.specs.Addresses.{address, table_of}

-- ---- a block of a content

-- a block whose buffer is in hand, and valid
pub record FetchedBlock : Type 0 where
  pub number : ℕ
  pub bytes : List ℕ

abbrev pub give_fetched : {M : Type 0} → ℕ → List ℕ → Prog Op Answer M FetchedBlock
give_fetched b bytes = Ret (record { number = b; bytes = bytes })

-- a block's buffer is taken, and valid
abbrev pub fetch_number : {M : Type 0} → ℕ → Prog Op Answer M FetchedBlock
fetch_number b = bind (fetch b) (give_fetched b)

-- the indirect block is given back as it was, and the block is taken whose number it has at this place
abbrev pub fetch_named : {M : Type 0} → (table i : ℕ) → List ℕ → Prog Op Answer M FetchedBlock
fetch_named table i bytes = Do (Put table None) unmarked (λ _. fetch_number (slice_index (numbers_in bytes) i))

abbrev pub fetch_at : {M : Type 0} → Dinode → Address → Prog Op Answer M FetchedBlock
fetch_at d (Direct i) = fetch_number (slice_index d.addrs i)
fetch_at d (InTable i) = bind (fetch (table_of d)) (fetch_named (table_of d) i)

-- block k of a content is taken, after a touch of the indirect block if that has its number
abbrev pub fetch_block : {M : Type 0} → Dinode → ℕ → Prog Op Answer M FetchedBlock
fetch_block d k = fetch_at d (address k)

-- ---- reading

-- the offset at which the next block of the content begins
abbrev pub next_block : ℕ → ℕ
next_block from = block_len * (from / block_len + 1)

-- how many blocks have bytes from one offset up to another
abbrev pub blocks_between : (from upto : ℕ) → ℕ
blocks_between from upto = if nat_lt from upto then ((upto - 1) / block_len + 1) - from / block_len else 0

-- what a block has of the bytes from one offset of the content up to another
abbrev pub part_of : (from upto : ℕ) → List ℕ → List ℕ
part_of from upto block = take (upto - from) (drop (from % block_len) block)

-- memory of a call, whose first `count` bytes were read into
pub record FilledMemory : Type 0 where
  pub count : ℕ
  pub bytes : List ℕ

-- with these bytes after those
abbrev pub filled_with : FilledMemory → List ℕ → FilledMemory
filled_with m part = record { count = m.count + length part; bytes = overwrite m.bytes m.count part }

-- the block is given back as it was, and its part was read
abbrev pub read_part : {M : Type 0} → (FilledMemory → Prog Op Answer M FilledMemory) → (from upto : ℕ) → FilledMemory → FetchedBlock
    → Prog Op Answer M FilledMemory
read_part more from upto m f = Do (Put f.number None) unmarked (λ _. more (filled_with m (part_of from upto f.bytes)))

-- the parts of the next blocks, one after the other
unfoldable pub read_blocks : {M : Type 0} → ℕ → Dinode → (from upto : ℕ) → FilledMemory → Prog Op Answer M FilledMemory
read_blocks zero d from upto m = Ret m
read_blocks (suc n) d from upto m = bind (fetch_block d (from / block_len)) (read_part (read_blocks n d (next_block from) upto) from upto m)

-- the end of a read of n bytes: at most the size
abbrev pub end_of : Dinode → (offset n : ℕ) → ℕ
end_of d offset n = min (offset + n) (min d.size most_bytes)

-- n bytes from an offset on, at most to the size, are read into this memory.
abbrev pub read_from : {M : Type 0} → Dinode → (offset n : ℕ) → List ℕ → Prog Op Answer M FilledMemory
read_from d offset n bytes =
    read_blocks (blocks_between offset (end_of d offset n)) d offset (end_of d offset n) (record { count = 0; bytes = bytes })
