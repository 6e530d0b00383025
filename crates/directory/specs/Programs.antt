-- A directory searched: programs over what all harts share. Nothing is marked in them.
use Rattle.std.specs.Prelude.{ℕ, zero, suc, ◌+◌, ◌-◌, ◌*◌, ◌/◌, ◌%◌, max, ◌==◌, ◌&&◌, if◌then◌else◌, nat_lt, ℤ, pos, negsuc, List, Bool, false, Option, Some, None}
use Rattle.directory.specs.Vocabulary.{Dinode, Dirent, IndexState, Loaded, Version, overwrite, spell_dirent, dirent_len_of, dirents_per_block_of, Prog, Ret, Do, bind, unmarked, Answer, Put, store, FetchedBlock, fetch_block}
use Rattle.fs_machine.specs.Steps.{Op}
pub use Rattle.directory.specs.Aims.{Aim, Named, Unused, Entry, block_count, first_in, found_at, most_slots, slot_count, slots_in}
unfoldable pub use Rattle.directory.specs.Aims.{found_in}
use Rattle.directory.specs.Indexes.{first_of, raised}
use Rattle.directory.specs.declared.found.Found.{Found}

-- ---- a block at a time

-- what was found, and the index as it is then
pub record Searched : Type 0 where
  pub found : Option Found
  pub index : IndexState

abbrev pub or_next : {M : Type 0} → Option Found → IndexState → (IndexState → Prog Op Answer M Searched) → Prog Op Answer M Searched
or_next (Some f) x next = Ret (record { found = Some f; index = x })
or_next None x next = next x

-- Block k is given back as it was, and indexed if it may be. What was sought is there, or the blocks after it are
-- searched.
abbrev pub look_at : {M : Type 0} → Version → Aim → Dinode → ℕ → IndexState → (IndexState → Prog Op Answer M Searched) → FetchedBlock
    → Prog Op Answer M Searched
look_at v aim d k x next f = Do (Put f.number None) unmarked (λ _. or_next (found_in v aim d k f.bytes) (raised v d k f.bytes x) next)

-- this number of blocks from block k on
unfoldable pub search_from : {M : Type 0} → Version → ℕ → Aim → Dinode → ℕ → IndexState → Prog Op Answer M Searched
search_from v zero aim d k x = Ret (record { found = None; index = x })
search_from v (suc n) aim d k x = bind (fetch_block d k) (look_at v aim d k x (search_from v n aim d (k + 1)))

-- the index for the blocks that it has, and then the others
abbrev pub search : {M : Type 0} → Version → Aim → Loaded → Prog Op Answer M Searched
search v aim l =
    or_next (first_of v aim l.inode l.index) l.index (search_from v (block_count v l.inode - l.index.blocks) aim l.inode l.index.blocks)

-- ---- names

abbrev pub is_number : ℕ → ℤ → Bool
is_number n (pos m) = m == n
is_number n (negsuc m) = false

abbrev pub is_positive : ℤ → Bool
is_positive (pos n) = nat_lt 0 n
is_positive (negsuc n) = false

-- a directory, and one that has a link
abbrev pub is_directory : Dinode → Bool
is_directory d = is_number 1 d.kind

abbrev pub is_live_directory : Dinode → Bool
is_live_directory d = is_directory d && is_positive d.nlink

-- What a directory has under a name. If it has no link, or is no directory, nothing is found and no block touched.
abbrev pub lookup : {M : Type 0} → Version → List ℕ → Loaded → Prog Op Answer M Searched
lookup v name l = if is_live_directory l.inode then search v (Named name) l else Ret (record { found = None; index = l.index })

-- ---- a slot written

-- the block with this entry at a place, and the others as they were
unfoldable pub with_dirent : Version → ℕ → Dirent → List ℕ → List ℕ
with_dirent v place entry block = overwrite block (dirent_len_of v * place) (spell_dirent v entry)

-- slot s is one of the directory's
abbrev pub with_slot : Version → ℕ → Dinode → Dinode
with_slot v s d = record d { size = max d.size (dirent_len_of v * (s + 1)) }

abbrev pub give_record : {M : Type 0} → Dinode → Unit {0} → Prog Op Answer M Dinode
give_record d _ = Ret d

-- the inode is stored, also if it is as it was
abbrev pub store_slot : {M : Type 0} → (inodestart n : ℕ) → Dinode → Prog Op Answer M Dinode
store_slot inodestart n d = bind (store inodestart n d) (give_record d)

-- the block goes back with the entry in it
abbrev pub put_dirent : {M : Type 0} → Version → (inodestart n : ℕ) → Dinode → (s : ℕ) → Dirent → FetchedBlock → Prog Op Answer M Dinode
put_dirent v inodestart n d s entry f =
    Do (Put f.number (Some (with_dirent v (s % dirents_per_block_of v) entry f.bytes))) unmarked
    (λ _. store_slot inodestart n (with_slot v s d))

-- An entry goes into slot s of the directory n, whose block is there: a name is entered so, and cleared. The
-- directory's new record is answered.
abbrev pub put_entry : {M : Type 0} → Version → (inodestart n : ℕ) → Dinode → (s : ℕ) → Dirent → Prog Op Answer M Dinode
put_entry v inodestart n d s entry = bind (fetch_block d (s / dirents_per_block_of v)) (put_dirent v inodestart n d s entry)
