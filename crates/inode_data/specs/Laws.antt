-- What a read answers, if each block is answered as it is seen.
use Rattle.std.specs.Prelude.{◌≡◌, ◌⊎◌, ℕ, ◌*◌, ◌≤◌, zero, suc, List, [], ◌++◌, length, take, drop, Some, None, slice_index}
use Rattle.inode_data.specs.Vocabulary.{Dinode, numbers_in, block_len, Get, Read, Oracle, outcome}
use Rattle.inode_data.specs.declared.addresses.Address.{Address}
use Rattle.inode_data.specs.declared.addresses.Address.TheVariants.{Direct, InTable}
use Rattle.inode_data.specs.Addresses.{address, table_of}
use Rattle.inode_data.specs.Programs.{filled_with, read_from, end_of}

-- each block is answered as it is seen, whether its buffer was valid or is read
pub record Shows (answer : Oracle) (seen : ℕ → List ℕ) : Type 0 where
  pub got : (n b : ℕ) → (answer n (Get b) ≡ None) ⊎ (answer n (Get b) ≡ Some (seen b))
  pub read : (n b : ℕ) → answer n (Read b) ≡ seen b
  pub whole : (b : ℕ) → length (seen b) ≡ block_len

-- the number at an address of a content, by the blocks as they are seen
abbrev pub number_at : (ℕ → List ℕ) → Dinode → Address → ℕ
number_at seen d (Direct i) = slice_index d.addrs i
number_at seen d (InTable i) = slice_index (numbers_in (seen (table_of d))) i

-- block k of a content
unfoldable pub content_block : (ℕ → List ℕ) → Dinode → ℕ → List ℕ
content_block seen d k = seen (number_at seen d (address k))

-- the first k blocks of a content, one after the other
unfoldable pub front_blocks : (ℕ → List ℕ) → Dinode → ℕ → List ℕ
front_blocks seen d zero = []
front_blocks seen d (suc k) = front_blocks seen d k ++ content_block seen d k

-- The call's memory is filled with the content's bytes from the offset on, up to the end of the read. Nothing after
-- them changes.
abbrev pub ReadsTheContent : Type 0
ReadsTheContent = (answer : Oracle) (seen : ℕ → List ℕ) (d : Dinode) (offset n k : ℕ) (memory : List ℕ)
    → Shows answer seen → end_of d offset n ≤ block_len * k
    → outcome answer 0 (read_from d offset n memory)
    ≡ filled_with (record { count = 0; bytes = memory }) (drop offset (take (end_of d offset n) (front_blocks seen d k)))
