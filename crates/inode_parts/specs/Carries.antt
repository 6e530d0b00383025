-- What a hart has in hand between two operations, as the theory of whole inodes knows it.
use Rattle.std.specs.Prelude.{ℕ, List, Option, Some, None, ◌==◌, if◌then◌else◌}
use Rattle.inode_parts.specs.Vocabulary.{GuardState, Loaded, Inode, Hand, NothingMore, Finds, Opened, Had, Apart, Has, Emptied, Carry, name_in, Heard, Handover, InodePlace, One, Two}
use Rattle.inode_parts.specs.Parts.{Message}
use Rattle.inode_parts.specs.declared.note.Note.{Note}
use Rattle.inode_parts.specs.declared.note.Note.TheVariants as note
use Rattle.inode_parts.specs.declared.note.Notes.{Notes}

-- what it has of a locked inode: names are in the call's path
abbrev pub had_of : List ℕ → Note → Option Loaded → Had
had_of path note.Nothing (Some l) = Has l NothingMore
had_of path (note.Finds e s) (Some l) = Has l (Finds (name_in path e) s)
had_of path (note.Opened fd offset) (Some l) = Has l (Opened fd offset)
had_of path note.Freed (Some l) = Has l NothingMore
had_of path note.Freed None = Emptied
had_of path m None = Apart

-- of inode i: what is at this seat, or else what is elsewhere
abbrev pub had_at : List ℕ → Note → Option (GuardState Inode) → ℕ → Had → Had
had_at path m None i other = other
had_at path m (Some g) i other = if i == g.value.number then had_of path m g.value.content else other

abbrev pub carry_in : List ℕ → Notes → Hand → Carry
carry_in path m h i = had_at path m.one h.one i (had_at path m.two h.two i Apart)

-- what was learned of the inode at a seat
abbrev pub note_at : InodePlace → Notes → Note
note_at One m = m.one
note_at Two m = m.two

abbrev pub with_note : InodePlace → Note → Notes → Notes
with_note One n m = record m { one = n }
with_note Two n m = record m { two = n }

-- how a part ends: what is heard, in a call with this text, and what is in hand
abbrev pub handed : List ℕ → Notes → Heard → Hand → Handover Message Carry
handed text m x h = record { answer = (text, x); carry = carry_in text m h }
