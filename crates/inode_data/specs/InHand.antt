-- What a part over a content's blocks has in hand.
use Rattle.std.specs.Prelude.{◌≡◌, None, IsSome}
use Rattle.inode_data.specs.Vocabulary.{MatchOption, HandState as Hand, First, Second, block_at, bytes_at, with_buffer}
use Rattle.inode_data.specs.Programs.{FetchedBlock}
use Rattle.inode_data.specs.FetchingBlocks.{block_place, BlockReady}
use Rattle.inode_data.specs.declared.fetch_block.FetchBlock.{FetchBlock}

-- no buffer
abbrev pub NoBuffers : Hand → Type 0
NoBuffers h = (h.first ≡ None) × (h.second ≡ None)

-- all but the buffers
abbrev pub beside_buffers : Unit {0} → Hand → Hand
beside_buffers _ h = with_buffer First None (with_buffer Second None h)

-- a valid buffer in the first place alone
abbrev pub HasBlock : Hand → Type 0
HasBlock h = MatchOption h.first ⊥ (λ g. IsSome g.value.content) × (h.second ≡ None)

-- the block in it
abbrev pub block_in : Hand → FetchedBlock
block_in h = record { number = block_at First h; bytes = bytes_at First h }

-- a block of a content is fetched into it
abbrev pub FetchesFirst : FetchBlock → Hand → Type 0
FetchesFirst m h = BlockReady m h × (block_place m ≡ First) × (h.second ≡ None)
