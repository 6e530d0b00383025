-- Operations that change an inode: what each asks of the hand, what stays while it is under way, and how it ends.
use Rattle.std.specs.Prelude.{◌≡◌, ◌<◌, ◌^◌, ℕ, List, Some, None, IsSome}
use Rattle.inode_parts.specs.Vocabulary.{option_map, GuardState, Dinode, Inode, Loaded, Super, Ret, inode_block, Hand, First, Second, InodePlace, index_at, inode_at, with_buffer, with_inode, HasNoBuffer, unloaded, IsLoadedAt, Heard}
use Rattle.inode_parts.specs.Carries.{handed, with_note}
use Rattle.inode_parts.specs.OneSteps.{HasLock, seat_of_lock}
use Rattle.inode_parts.specs.Parts.{Part}
use Rattle.inode_parts.specs.declared.note.Note.TheVariants as note
use Rattle.inode_parts.specs.declared.note.Notes.{Notes}

-- the inode's lock is in hand, with its record; its block has a number; there is a transaction, and no buffer in hand
abbrev pub MayChange : Super → ℕ → Hand → Type 0
MayChange sizes n h =
    HasLock n h × IsLoadedAt (seat_of_lock n h) h × (inode_block sizes.inodestart n < 2 ^ 32) × IsSome h.txn × HasNoBuffer h

-- all in hand but the buffers, and what is loaded of the inode at a seat
abbrev pub beside_inode : InodePlace → Hand → Hand
beside_inode k h = with_buffer First None (with_buffer Second None (unloaded k h))

-- Amid an operation on inode n, whose lock is at this seat. It began without a buffer, and beside that inode all is
-- as it was at the start.
abbrev pub IsAmid : ℕ → Hand → InodePlace → Hand → Type 0
IsAmid n start k now = (k ≡ seat_of_lock n start) × HasNoBuffer start × (beside_inode k now ≡ beside_inode k start)

-- a guard, if this is loaded
abbrev pub loads : Loaded → GuardState Inode → GuardState Inode
loads l g = record g { value = record g.value { content = Some l } }

-- this is loaded of the inode at a seat from here on
abbrev pub with_loaded : InodePlace → Loaded → Hand → Hand
with_loaded k l h = with_inode k (option_map (loads l) (inode_at k h)) h

-- what is loaded of it, with another record
abbrev pub recorded_at : InodePlace → Hand → Dinode → Loaded
recorded_at k h d = record { inode = d; index = index_at k h }

-- this is heard; so much is loaded of the inode at a seat, and nothing more is known of it
abbrev pub changed : List ℕ → Notes → InodePlace → Heard → Hand → Loaded → Part
changed path m k x h l = Ret (handed path (with_note k note.Nothing m) x (with_loaded k l h))

-- the same, if its record alone changes
abbrev pub rewritten : List ℕ → Notes → InodePlace → Heard → Hand → Dinode → Part
rewritten path m k x h d = changed path m k x h (recorded_at k h d)
