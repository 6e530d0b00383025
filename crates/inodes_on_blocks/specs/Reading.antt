-- The programs below of the operations that lock an inode and read it. sizes: of the mounted image.
use Rattle.std.specs.Prelude.{ℕ, ℤ, pos, negsuc, Bool, true, not, Option, Some, None, is_some, if◌then◌else◌}
use Rattle.inodes_on_blocks.specs.Vocabulary.{option_map, Ret, Do, bind, Handover, Dinode, Loaded, Super, Version, Found, Searched, is_directory, lookup, search, Lock, LockedState, Refuses, Locks, is_number, is_free, InodeType, OfDirectory, OfFile, OfDevice, Face, Sight, Query, AtNothing, AtName, AtEntries, Take, StatFile, load_unless, Name, put}
use Rattle.directory.specs.Programs.{Entry}
use Rattle.fs_machine.specs.Steps.{LockFile}
use Rattle.fs_machine.specs.declared.files.Want.TheVariants as want
use Rattle.inode_machine.specs.World as above
use Rattle.inodes_on_blocks.specs.Basics.{P, Handler, acts, Knowledge, NothingMore, Finds, Has, Carry}

-- ---- what a record says

-- its type, by its number; a device's with the major
abbrev pub inode_type_at : (kind major : ℤ) → InodeType
inode_type_at kind major = if is_number 1 kind then OfDirectory else (if is_number 2 kind then OfFile else OfDevice major)

abbrev pub natural : ℤ → ℕ
natural (pos n) = n
natural (negsuc n) = 0

abbrev pub face_in : Dinode → Face
face_in d = record { inode_type = inode_type_at d.kind d.major; count = natural d.nlink; size = d.size }

-- ---- a descriptor's inode, locked to answer its state

-- the record in hand, and the answer by it
abbrev pub stat_loaded : Carry → (n : ℕ) → Loaded → P (Handover (Option (ℕ × Face)) Carry)
stat_loaded c n l = Ret (record { answer = Some (n, face_in l.inode); carry = put c n (Has l NothingMore) })

abbrev pub stat_locked : Super → Carry → LockedState → P (Handover (Option (ℕ × Face)) Carry)
stat_locked sizes c (Refuses why) = Ret (record { answer = None; carry = c })
stat_locked sizes c (Locks f content) = bind (load_unless sizes.inodestart f.number content) (stat_loaded c f.number)

-- It acts when the lock is taken: nobody else changes the inode that was seen then.
abbrev pub stat_file : Super → (fd : ℕ) → Handler (StatFile fd)
stat_file sizes fd c m = Do (LockFile want.Stat fd) (λ a. acts (StatFile fd) above.Room m) (stat_locked sizes c)

-- ---- an inode, locked, loaded and looked at

-- the number in a slot that was found
abbrev pub number_found : Option Found → Option ℕ
number_found o = option_map (λ f. f.number) o

-- a slot that is used past the first two: if the inode is no directory there is none
abbrev pub search_entries : Version → Loaded → P Searched
search_entries version l = if is_directory l.inode then search version Entry l else Ret (record { found = None; index = l.index })

-- the slot under a name
abbrev pub learned : Name → Option Found → Knowledge
learned e None = NothingMore
learned e (Some f) = Finds e f.slot

-- what was seen of it, by its record, which is in hand from there on, with what else was learned
abbrev pub seen_record : Carry → (n : ℕ) → Loaded → Knowledge → (found : Option ℕ) → (empty : Bool) → P (Handover Sight Carry)
seen_record c n l k found empty = Ret
    (record {
      answer = record { face = if is_free l.inode then None else Some (face_in l.inode); found = found; empty = empty };
      carry = put c n (Has l k);
    })

-- what is looked for in it
abbrev pub looked : Version → Query → Carry → (n : ℕ) → Loaded → P (Handover Sight Carry)
looked version AtNothing c n l = seen_record c n l NothingMore None true
looked version (AtName e) c n l =
    bind (lookup version e l) (λ o. seen_record c n (record l { index = o.index }) (learned e o.found) (number_found o.found) true)
looked version AtEntries c n l =
    bind (search_entries version l) (λ o. seen_record c n (record l { index = o.index }) NothingMore None (not (is_some o.found)))

-- It acts when the lock is taken, as the other one does.
abbrev pub take : Super → (n : ℕ) → (looking : Query) → Handler (Take n looking)
take sizes n looking c m =
    Do (Lock n) (λ a. acts (Take n looking) above.Room m)
    (λ content. bind (load_unless sizes.inodestart n content) (looked sizes.version looking c n))
