-- The programs below of operations that give an inode's content back. On a disk of these sizes; c: what the hart has
-- of the inodes whose locks it has.
use Rattle.std.specs.Prelude.{ℕ, take}
use Rattle.inodes_on_blocks.specs.Vocabulary.{Super, Dinode, bind, fetch, inode_block, store_inode, table_of, free_numbers, free_indirect, without_content, freed, Empty, Free}
use Rattle.inode_data.specs.Widths.{direct}
use Rattle.inodes_on_blocks.specs.Basics.{NothingMore, Has, Emptied, P, Handler, record_in, recorded_in, put_record}

-- all blocks of the inode with this record are given back, and then it goes on
abbrev pub give_content : {A : Type 0} → Super → Dinode → P A → P A
give_content sizes d after = free_numbers sizes.bmapstart (take direct d.addrs) (free_indirect sizes.bmapstart (table_of d) after)

-- The record goes into the inode's block without them; there a file is empty.
abbrev pub empty : (sizes : Super) (n : ℕ) → Handler (Empty n)
empty sizes n c m =
    let d : Dinode = without_content (record_in c n) in
    give_content sizes (record_in c n)
    (bind (fetch (inode_block sizes.inodestart n))
    (put_record (Empty n) m tt (inode_block sizes.inodestart n) n d (Has (recorded_in c n d) NothingMore) c))

-- It goes there so, and then without a type; there the inode is free, and the hart has nothing of it.
abbrev pub free : (sizes : Super) (n : ℕ) → Handler (Free n)
free sizes n c m =
    let d : Dinode = without_content (record_in c n) in
    give_content sizes (record_in c n)
    (bind (store_inode sizes.inodestart n d)
    (λ _. bind (fetch (inode_block sizes.inodestart n)) (put_record (Free n) m tt (inode_block sizes.inodestart n) n (freed d) Emptied c)))
