-- A new inode, as a part.
use Rattle.std.specs.Prelude.{◌≡◌, ◌+◌, ◌<◌, ◌^◌, List, ℕ, IsSome}
use Rattle.inode_parts.specs.Vocabulary.{Super, Ret, bind, inode_blocks, Made, Hand, Op, HasNoBuffer, beside_new, new_left, new_asked, new_seat, NewReady, Carry, Claimed}
use Rattle.inode_table.specs.declared.new_inode.Made.TheVariants as made
use Rattle.path_walk.specs.declared.asks.Claimed.TheVariants as claimed
use Rattle.path_walk.specs.declared.asks.Heard.TheVariants as heard
use Rattle.inode_parts.specs.Basics.{carry_in, HasFreeSeat, free_seat, Part}
use Rattle.inode_parts.specs.declared.changing_inodes.ClaimPart.{ClaimPart}
use Rattle.inode_parts.specs.declared.note.Notes.{Notes}

abbrev pub claimed_by : Made → Claimed
claimed_by (made.Inode n) = claimed.New n
claimed_by made.NoPlace = claimed.NoPlace
claimed_by made.NoInode = claimed.NoInode

-- the locks stay as they are
abbrev pub claim_ends : List ℕ → Carry → Made → Part
claim_ends text c a = Ret (record { answer = (text, heard.Claimed (claimed_by a)); carry = c })

abbrev pub claim_left : List ℕ → Notes → ClaimPart → Hand → Part
claim_left path m p h = bind (new_left p.claim h) (claim_ends path (carry_in path m h))

abbrev pub claim_asked : ClaimPart → Op
claim_asked p = new_asked p.claim

abbrev pub ClaimReady : ClaimPart → Hand → Type 0
ClaimReady p h = NewReady p.claim h

-- it began without a buffer, and with no reference at this seat: beside that, a buffer and numbers all is as it was
abbrev pub ClaimAmid : Hand → ClaimPart → Hand → Type 0
ClaimAmid start p now = HasFreeSeat start × HasNoBuffer start × (new_seat p.claim ≡ free_seat start)
    × (beside_new (new_seat p.claim) now ≡ beside_new (new_seat p.claim) start)

-- the disk has inodes, and their blocks have numbers
abbrev pub HasInodeTable : Super → Type 0
HasInodeTable sizes = (0 < sizes.ninodes) × (sizes.inodestart + inode_blocks sizes.ninodes < 2 ^ 32)

-- what it asks of the hand
abbrev pub ClaimBegins : Super → Hand → Type 0
ClaimBegins sizes h = HasInodeTable sizes × HasFreeSeat h × HasNoBuffer h × IsSome h.txn
