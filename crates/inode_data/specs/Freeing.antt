-- Contents emptied: programs over what all harts share. Nothing is marked in them.
use Rattle.std.specs.Prelude.{ℕ, ◌==◌, if◌then◌else◌, pos, List, [], ◌∷◌, None, replicate, take}
use Rattle.inode_data.specs.Vocabulary.{Dinode, Super, numbers_in, addresses, Prog, Ret, Do, bind, unmarked, DroppedState, Counts, Keeps, Dies, Answer, Put, Unlock, Down, Held, Freed, fetch, free_block, store, record_of}
use Rattle.fs_machine.specs.Steps.{Op}
use Rattle.inode_data.specs.Widths.{direct}
use Rattle.inode_data.specs.Addresses.{table_of}

-- each of these numbers that isn't 0 is a block's, and that block is given back, the first one first
abbrev pub free_numbers : {M A : Type 0} → (bitmap : ℕ) → List ℕ → Prog Op Answer M A → Prog Op Answer M A
free_numbers bitmap [] after = after
free_numbers bitmap (b ∷ bs) after =
    if b == 0 then free_numbers bitmap bs after else bind (free_block bitmap b) (λ _. free_numbers bitmap bs after)

-- the indirect block goes back as it was, and is given back itself
abbrev pub free_table : {M A : Type 0} → (bitmap table : ℕ) → Prog Op Answer M A → Prog Op Answer M A
free_table bitmap table after = Do (Put table None) unmarked (λ _. bind (free_block bitmap table) (λ _. after))

-- while the indirect block's buffer is in hand, each block that it names is given back
abbrev pub free_in_table : {M A : Type 0} → (bitmap table : ℕ) → Prog Op Answer M A → List ℕ → Prog Op Answer M A
free_in_table bitmap table after bytes = free_numbers bitmap (numbers_in bytes) (free_table bitmap table after)

-- the same, if there is an indirect block
abbrev pub free_indirect : {M A : Type 0} → (bitmap table : ℕ) → Prog Op Answer M A → Prog Op Answer M A
free_indirect bitmap table after = if table == 0 then after else bind (fetch table) (free_in_table bitmap table after)

-- an inode without content
abbrev pub without_content : Dinode → Dinode
without_content d = record d { size = 0; addrs = replicate addresses 0 }

-- and one that may be taken again: its record keeps the device numbers, and its count, which is 0
abbrev pub freed : Dinode → Dinode
freed d = record d { kind = pos 0 }

abbrev pub store_record : {M : Type 0} → Super → ℕ → Dinode → Prog Op Answer M Dinode
store_record sizes n d = bind (store sizes.inodestart n d) (λ _. Ret d)

-- All blocks of inode n are given back, and its record is stored without them. The answer is the record that is on
-- the disk then.
abbrev pub truncate : {M : Type 0} → Super → ℕ → Dinode → Prog Op Answer M Dinode
truncate sizes n d = free_numbers sizes.bmapstart (take direct d.addrs)
    (free_indirect sizes.bmapstart (table_of d) (store_record sizes n (without_content d)))

-- ---- an inode freed

-- The inode whose lock is in hand was emptied and stored so that it may be taken again. Its lock is given back with
-- nothing loaded, and the reference goes.
abbrev pub unlock_freed : {M : Type 0} → ℕ → Prog Op Answer M (Unit {0})
unlock_freed n = Do (Unlock (record { number = n; content = None }) None) unmarked (λ _. Do (Down (Freed n)) unmarked (λ _. Ret tt))

abbrev pub store_freed : {M : Type 0} → (inodestart n : ℕ) → Dinode → Prog Op Answer M (Unit {0})
store_freed inodestart n d = bind (store inodestart n (freed d)) (λ _. unlock_freed n)

abbrev pub free_inode : {M : Type 0} → Super → ℕ → Dinode → Prog Op Answer M (Unit {0})
free_inode sizes n d = bind (truncate sizes n d) (store_freed sizes.inodestart n)

-- what follows the drop of this reference
abbrev pub after_drop : {M : Type 0} → Super → ℕ → DroppedState → Prog Op Answer M (Unit {0})
after_drop sizes n Counts = Ret tt
after_drop sizes n Keeps = Ret tt
after_drop sizes n (Dies m content) = free_inode sizes n (record_of (record { number = n; content = content }))

-- A reference is dropped outside a walk. If it is the last one to a dead inode, the inode's lock is taken in its
-- place, and the inode is freed.
abbrev pub drop_reference : {M : Type 0} → Super → ℕ → Prog Op Answer M (Unit {0})
drop_reference sizes n = Do (Down (Held n)) unmarked (after_drop sizes n)
