-- The programs below of operations that enter names in a directory. On a disk of these sizes; c: what the hart has of
-- the inodes whose locks it has.
use Rattle.std.specs.Prelude.{ℕ, zero, suc, ◌+◌, ◌*◌, ◌-◌, ◌==◌, nat_lt, if◌then◌else◌, List, ◌++◌, length, Bool, true, false, Option, Some, None}
use Rattle.inodes_on_blocks.specs.Vocabulary.{IndexState, Loaded, Searched, first_of, or_next, raised, slot_for, with_entry, Unused, found_in, look_at, most_slots, search, slot_count, Used, Dinode, Super, Version, spell_dirent, dirent_len_of, new_directory_size_of, Name, dot, dotdot, Ret, Do, bind, Handover, fetch, FetchedBlock, blocks_between, fetch_block, most_blocks, WriteResult, grown, write_blocks, inode_block, Enter, Fill}
use Rattle.fs_machine.specs.Steps as steps
use Rattle.inode_machine.specs.World as above
use Rattle.fs_machine.specs.InMemory.{no_index}
use Rattle.inodes_on_blocks.specs.Basics.{Acts, P, Handler, acts, Carry, loaded_in, record_in, with_index}
use Rattle.inodes_on_blocks.specs.Naming.{put_named}

-- The inode's record goes back after its blocks were written, also if it is as it was, and this is its index. There
-- the operation acts, with what came from outside.
abbrev pub put_grown : (op : above.Op) → above.Outside → (above.Answer op → Option above.Mark) → above.Answer op → Super → (n : ℕ) → Carry
    → IndexState → WriteResult → P (Handover (above.Answer op) Carry)
put_grown op outside m answer sizes n c x w =
    bind (fetch (inode_block sizes.inodestart n))
    (put_named op outside m answer (inode_block sizes.inodestart n) n (record { inode = grown w; index = x }) c)

-- ---- a free slot is sought

abbrev pub if_none : {A : Type 0} → Option A → Option Acts → Option Acts
if_none None mark = mark
if_none (Some a) mark = None

-- if the last block of a directory that has all its slots has no free one, the operation acts as that block is given
-- back
abbrev pub look_last : Version → Option Acts → Dinode → ℕ → IndexState → FetchedBlock → P Searched
look_last version mark d k x f =
    Do (steps.Put f.number None) (λ _. if_none (found_in version Unused d k f.bytes) mark)
    (λ _. Ret (record { found = found_in version Unused d k f.bytes; index = raised version d k f.bytes x }))

-- block k, and this number of blocks after it
unfoldable pub search_full : Version → Option Acts → ℕ → Dinode → ℕ → IndexState → P Searched
search_full version mark zero d k x = bind (fetch_block d k) (look_last version mark d k x)
search_full version mark (suc n) d k x = bind (fetch_block d k) (look_at version Unused d k x (search_full version mark n d (k + 1)))

-- The blocks that the index doesn't have. If the index has none free it has two blocks at most, because it has no
-- room for the slots of more.
abbrev pub seek_full : Version → Option Acts → Loaded → P Searched
seek_full version mark l =
    or_next (first_of version Unused l.inode l.index) l.index
    (search_full version mark (most_blocks - 1 - l.index.blocks) l.inode l.index.blocks)

abbrev pub seek_free : Version → Option Acts → Loaded → P Searched
seek_free version mark l =
    if nat_lt (slot_count version l.inode) (most_slots version) then search version Unused l
    else seek_full version mark l

-- ---- a name entered

-- a slot is in one block, so all of it was written or nothing
abbrev pub entered_to : (sizes : Super) (d : ℕ) (e : Name) (n : ℕ) → Carry → (above.EntryResult → Option above.Mark) → IndexState
    → (slot : ℕ) → WriteResult → P (Handover above.EntryResult Carry)
entered_to sizes d e n c m x slot w =
    if w.upto == dirent_len_of sizes.version * (slot + 1)
    then put_grown (Enter d e n) above.Room m above.InPlace sizes d c
    (with_entry sizes.version slot (spell_dirent sizes.version (Used n e)) x) w
    else put_grown (Enter d e n) (above.RoomFor 0) m above.NoBlock sizes d c x w

abbrev pub enter_in : (sizes : Super) (d : ℕ) (e : Name) (n : ℕ) → Carry → (above.EntryResult → Option above.Mark) → IndexState
    → (slot : ℕ) → P (Handover above.EntryResult Carry)
enter_in sizes d e n c m x slot =
    if nat_lt slot (most_slots sizes.version)
    then bind (write_blocks
    (blocks_between (dirent_len_of sizes.version * slot)
    (dirent_len_of sizes.version * slot + length (spell_dirent sizes.version (Used n e))))
    sizes (dirent_len_of sizes.version * slot) (spell_dirent sizes.version (Used n e)) (record_in c d)) (entered_to sizes d e n c m x slot)
    else Ret (record { answer = above.NoSlot; carry = with_index c d x })

-- The first free slot, else a new last one, is written. It acts when the directory's record is put, also if no block
-- was free. If there is no slot, it acts when the last block is given back.
abbrev pub enter : (sizes : Super) (d : ℕ) (e : Name) (n : ℕ) → Handler (Enter d e n)
enter sizes d e n c m =
    bind (seek_free sizes.version (acts (Enter d e n) above.Room m) (loaded_in c d))
    (λ o. enter_in sizes d e n c m o.index (slot_for sizes.version (record_in c d) o.found))

-- ---- a new directory's two names

-- "." for itself, and ".." for its parent
abbrev pub dots : Version → (n d : ℕ) → List ℕ
dots version n d = spell_dirent version (Used n dot) ++ spell_dirent version (Used d dotdot)

-- they are in one block; the index has none of the directory's blocks from there on
abbrev pub filled_to : (sizes : Super) (n d : ℕ) → Carry → (Bool → Option above.Mark) → WriteResult → P (Handover Bool Carry)
filled_to sizes n d c m w =
    if w.upto == new_directory_size_of sizes.version then put_grown (Fill n d) above.Room m true sizes n c no_index w
    else put_grown (Fill n d) (above.RoomFor 0) m false sizes n c no_index w

abbrev pub fill : (sizes : Super) (n d : ℕ) → Handler (Fill n d)
fill sizes n d c m =
    bind (write_blocks (blocks_between 0 (0 + length (dots sizes.version n d))) sizes 0 (dots sizes.version n d) (record_in c n))
    (filled_to sizes n d c m)
