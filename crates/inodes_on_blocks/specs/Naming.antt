-- The programs below of operations that change a directory's entries. On a disk of these sizes; c: what the hart has
-- of the inodes whose locks it has.
use Rattle.std.specs.Prelude.{ℕ, ◌/◌, ◌%◌, if◌then◌else◌, List, Option, Some}
use Rattle.inodes_on_blocks.specs.Vocabulary.{option_map, unwrap_or, IndexState, Loaded, Named, Searched, search, cleared, with_dirent, with_slot, Super, Version, dirents_per_block_of, Name, put, same_name, Ret, Do, bind, unmarked, Handover, fetch, FetchedBlock, fetch_block, inode_block, with_dinode, Clear}
use Rattle.fs_layout.specs.declared.entry.Dirent.TheVariants.{Free}
use Rattle.fs_machine.specs.Steps as steps
use Rattle.inode_machine.specs.World as above
use Rattle.inodes_on_blocks.specs.Basics.{P, Handler, acts, NothingMore, Finds, Opened, Had, Apart, Has, Emptied, Carry, record_in}
use Rattle.fs_machine.specs.InMemory.{no_index}

-- The inode goes into its block as this record, and the hart has that of it from then on, with this index. There the
-- operation acts, with what came from outside.
abbrev pub put_named : (op : above.Op) → above.Outside → (above.Answer op → Option above.Mark) → above.Answer op → (b n : ℕ) → Loaded
    → Carry → List ℕ → P (Handover (above.Answer op) Carry)
put_named op outside m answer b n l c block =
    Do (steps.Put b (Some (with_dinode n l.inode block))) (λ a. acts op outside m)
    (λ a. Ret (record { answer = answer; carry = put c n (Has l NothingMore) }))

-- ---- a name cleared

-- a slot, and the directory's index
abbrev pub Slotted : Type 0
Slotted = ℕ × IndexState

abbrev pub slot_found : Searched → P Slotted
slot_found o = Ret (unwrap_or (option_map (λ f. f.slot) o.found) 0, o.index)

-- the slot of a name: the one that the hart has found, else it is looked for
abbrev pub slot_of : Version → Had → Name → P Slotted
slot_of version Apart e = Ret (0, no_index)
slot_of version (Has l NothingMore) e = bind (search version (Named e) l) slot_found
slot_of version (Has l (Finds name s)) e = if same_name name e then Ret (s, l.index) else bind (search version (Named e) l) slot_found
slot_of version (Has l (Opened fd offset)) e = bind (search version (Named e) l) slot_found
slot_of version Emptied e = Ret (0, no_index)

-- the slot is put free, and then the directory's record, which is as it was
abbrev pub clear_in : (sizes : Super) (n : ℕ) (e : Name) → Carry → (above.Answer (Clear n e) → Option above.Mark) → Slotted → FetchedBlock
    → P (Handover (above.Answer (Clear n e)) Carry)
clear_in sizes n e c m at f =
    Do (steps.Put f.number (Some (with_dirent sizes.version (at.0 % dirents_per_block_of sizes.version) Free f.bytes))) unmarked (λ _.
    bind (fetch (inode_block sizes.inodestart n))
    (put_named (Clear n e) above.Room m tt (inode_block sizes.inodestart n) n
    (record { inode = with_slot sizes.version at.0 (record_in c n); index = cleared at.0 at.1 }) c))

abbrev pub clear_slot : (sizes : Super) (n : ℕ) (e : Name) → Carry → (above.Answer (Clear n e) → Option above.Mark) → Slotted
    → P (Handover (above.Answer (Clear n e)) Carry)
clear_slot sizes n e c m at = bind (fetch_block (record_in c n) (at.0 / dirents_per_block_of sizes.version)) (clear_in sizes n e c m at)

-- It acts when the record is put.
abbrev pub clear : (sizes : Super) (n : ℕ) (e : Name) → Handler (Clear n e)
clear sizes n e c m = bind (slot_of sizes.version (c n) e) (clear_slot sizes n e c m)
