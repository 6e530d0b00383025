-- The program below of the operation that takes a new inode. On a disk of these sizes; c: what the hart has of the
-- inodes whose locks it has.
use Rattle.std.specs.Prelude.{ℕ, zero, suc, ◌+◌, ◌<◌, ◌^◌, ℤ, List, Option, Some, None}
use Rattle.inodes_on_blocks.specs.Vocabulary.{Super, Ret, Do, bind, unmarked, Handover, fetch, free_in, inode_blocks, new_record, with_dinode, InodeType, OfDirectory, OfFile, OfDevice, Claim}
use Rattle.fs_machine.specs.Steps as steps
use Rattle.inode_machine.specs.World as above
use Rattle.inodes_on_blocks.specs.Basics.{kind_of, Acts, P, Handler, acts, Carry}

-- The types that are made. A device isn't: a new record keeps the device numbers that the block had.
abbrev pub IsMade : InodeType → Type 0
IsMade OfDirectory = Unit {0}
IsMade OfFile = Unit {0}
IsMade (OfDevice major) = ⊥

-- the disk has inodes, no more than have numbers of 16 bits
pub record HasInodes (sizes : Super) : Type 0 where
  pub some : 0 < sizes.ninodes
  pub few : sizes.ninodes < 2 ^ 16

-- the answer, with what the hart had
abbrev pub answers : above.ClaimResult → Carry → P (Handover above.ClaimResult Carry)
answers a c = Ret (record { answer = a; carry = c })

-- a block without a free inode decides nothing, if more blocks must be looked through
abbrev pub if_last : ℕ → Option Acts → Option Acts
if_last zero mark = mark
if_last (suc n) mark = None

-- It acts as a block is looked through. That is if a free inode is picked, if one has no place, and in the last block
-- if there is none.
abbrev pub claim_mark : (inode_type : InodeType) → (above.ClaimResult → Option above.Mark) → ℕ → steps.ClaimResult → Option Acts
claim_mark inode_type m n (steps.Claims i) = acts (Claim inode_type) (above.Picks i) m
claim_mark inode_type m n steps.NoPlace = acts (Claim inode_type) (above.RoomFor 0) m
claim_mark inode_type m n steps.NoInode = if_last n (acts (Claim inode_type) above.Room m)

-- The inode's record goes into the block with its type. Or the block is given back as it was; or it was given back,
-- and it goes on.
abbrev pub claim_in : P (Handover above.ClaimResult Carry) → ℤ → (b : ℕ) → List ℕ → Carry → steps.ClaimResult
    → P (Handover above.ClaimResult Carry)
claim_in more kind b block c (steps.Claims i) =
    Do (steps.Put b (Some (with_dinode i (new_record kind) block))) unmarked (λ _. answers (above.New i) c)
claim_in more kind b block c steps.NoPlace = Do (steps.Put b None) unmarked (λ _. answers above.NoPlace c)
claim_in more kind b block c steps.NoInode = more

-- block b, with q blocks before it and n after it
abbrev pub claim_at : P (Handover above.ClaimResult Carry) → (sizes : Super) (inode_type : InodeType) → Carry
    → (above.ClaimResult → Option above.Mark) → (n q b : ℕ) → List ℕ → P (Handover above.ClaimResult Carry)
claim_at more sizes inode_type c m n q b block =
    Do (steps.Claim b (free_in sizes.ninodes q block)) (claim_mark inode_type m n) (claim_in more (kind_of inode_type) b block c)

unfoldable pub claim_from : ℕ → (sizes : Super) (inode_type : InodeType) → Carry → (above.ClaimResult → Option above.Mark) → (q : ℕ)
    → P (Handover above.ClaimResult Carry)
claim_from zero sizes inode_type c m q = answers above.NoInode c
claim_from (suc n) sizes inode_type c m q =
    bind (fetch (sizes.inodestart + q))
    (claim_at (claim_from n sizes inode_type c m (q + 1)) sizes inode_type c m n q (sizes.inodestart + q))

-- The table's blocks are looked through, rising: the first free inode without a reference is referred to, and its
-- record put with the type alone.
abbrev pub claim : (sizes : Super) (inode_type : InodeType) → Handler (Claim inode_type)
claim sizes inode_type c m = claim_from (inode_blocks sizes.ninodes) sizes inode_type c m 0
