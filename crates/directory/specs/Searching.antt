-- A directory searched, whose lock is at a seat.
use Rattle.std.specs.Prelude.{◌≡◌, ◌+◌, ◌<◌, Option, None, IsSome, if◌then◌else◌}
use Rattle.directory.specs.Vocabulary.{Dinode, IndexState, Loaded, Version, Ret, Do, bind, unmarked, P, begun_of, Begun, most_blocks, Hand, First, InodePlace, Op, block_at, block_left, block_asked, beside_buffers, index_at, no_index, with_index, record_in, FetchesFirst, IsLoadedAt}
use Rattle.fs_machine.specs.Steps as steps
use Rattle.directory.specs.Programs.{Aim, Entry, Searched, is_directory, look_at, or_next, search, search_from}
use Rattle.directory.specs.Sought.{IsSlot}
use Rattle.directory.specs.declared.found.Found.{Found}
use Rattle.fs_machine.specs.declared.op.Op.TheVariants as ops
use Rattle.directory.specs.declared.search.Blocks.{Blocks}
use Rattle.directory.specs.declared.search.Search.{Search}
use Rattle.directory.specs.declared.search.Search.TheVariants.{Fetching, Giving}

-- the blocks after the one that is looked at
abbrev pub search_rest : Version → Aim → Dinode → Blocks → IndexState → P Searched
search_rest v aim d at x = search_from v at.left aim d (at.block + 1) x

-- the block in hand is indexed as it is looked at
abbrev pub search_left : Version → Aim → InodePlace → Search → Hand → P Searched
search_left v aim k (Fetching at m) h =
    bind (block_left m h) (look_at v aim (record_in k h) at.block (index_at k h) (search_rest v aim (record_in k h) at))
search_left v aim k (Giving at found) h =
    Do (steps.Put (block_at First h) None) unmarked (λ _. or_next found (index_at k h) (search_rest v aim (record_in k h) at))

abbrev pub search_asked : Search → Op
search_asked (Fetching at m) = block_asked m
search_asked (Giving at found) = ops.Give First

abbrev pub IsWithin : Blocks → Type 0
IsWithin at = at.block + at.left < most_blocks

abbrev pub SearchReady : Version → InodePlace → Search → Hand → Type 0
SearchReady v k (Fetching at m) h = IsWithin at × FetchesFirst m h × IsLoadedAt k h
SearchReady v k (Giving at found) h = IsWithin at × IsSome h.first × IsSlot v found × (h.second ≡ None) × IsLoadedAt k h

-- what was found, with the index in hand
abbrev pub found_with : InodePlace → Option Found → Hand → Searched
found_with k found h = record { found = found; index = index_at k h }

-- all in hand but the buffers and the index at a seat
abbrev pub beside_index : InodePlace → Hand → Hand
beside_index k h = with_index k no_index (beside_buffers tt h)

-- one that has begun
abbrev pub begun_left : Version → Aim → InodePlace → Begun Search (Option Found) → Hand → P Searched
begun_left v aim k begun h = begun_of (λ m. search_left v aim k m h) (λ found. found_with k found h) begun

-- a used slot past the first two; in what is no directory there is none
abbrev pub entries : Version → Loaded → P Searched
entries v l = if is_directory l.inode then search v Entry l else Ret (record { found = None; index = l.index })
