-- The programs below of operations that change an inode's record. On a disk of these sizes; c: what the hart has of
-- the inodes whose locks it has.
use Rattle.std.specs.Prelude.{ℕ, pos, List, Option, Some}
use Rattle.inodes_on_blocks.specs.Vocabulary.{unwrap_or, IndexState, Loaded, Super, Dinode, unindexed, put, Ret, Do, bind, Handover, fetch, no_record, inode_block, with_dinode, Store}
use Rattle.fs_machine.specs.Steps as steps
use Rattle.inode_machine.specs.World as above
use Rattle.inodes_on_blocks.specs.Lowering.{NothingMore, Had, Apart, Has, Emptied, Carry, record_had}
use Rattle.inodes_on_blocks.specs.Handlers.{P, Handler, acts}

-- what the hart has of an inode: its record, and the index of its names
abbrev pub loaded_in : Carry → ℕ → Loaded
loaded_in c n = unwrap_or (record_had (c n)) (unindexed no_record)

abbrev pub record_in : Carry → ℕ → Dinode
record_in c n = (loaded_in c n).inode

abbrev pub index_in : Carry → ℕ → IndexState
index_in c n = (loaded_in c n).index

-- the inode with another record
abbrev pub recorded_in : Carry → ℕ → Dinode → Loaded
recorded_in c n d = record { inode = d; index = index_in c n }

-- the index is this one now, and what was learned is as before
abbrev pub reindexed : IndexState → Had → Had
reindexed x Apart = Apart
reindexed x (Has l k) = Has (record l { index = x }) k
reindexed x Emptied = Emptied

abbrev pub with_index : Carry → ℕ → IndexState → Carry
with_index c n x = put c n (reindexed x (c n))

-- The inode goes into its block as this record, and the hart has `had` of it from then on; there the operation acts.
abbrev pub put_record : (op : above.Op) → (above.Answer op → Option above.Mark) → above.Answer op → (b n : ℕ) → Dinode → (had : Had) → Carry
    → List ℕ → P (Handover (above.Answer op) Carry)
put_record op m answer b n d had c block =
    Do (steps.Put b (Some (with_dinode n d block))) (λ a. acts op above.Room m) (λ a. Ret (record { answer = answer; carry = put c n had }))

-- an inode's count is put
abbrev pub store : (sizes : Super) (n count : ℕ) → Handler (Store n count)
store sizes n count c m =
    let d : Dinode = record (record_in c n) { nlink = pos count } in
    bind (fetch (inode_block sizes.inodestart n))
    (put_record (Store n count) m tt (inode_block sizes.inodestart n) n d (Has (recorded_in c n d) NothingMore) c)
