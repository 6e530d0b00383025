-- An inode locked, and what is looked for found in it, as a part.
use Rattle.std.specs.Prelude.{◌≡◌, ◌<◌, ◌^◌, ℕ, List, Bool, true, false, not, Option, Some, None, is_some}
use Rattle.inode_parts.specs.Vocabulary.{put, Loaded, Searched, Super, Version, Ret, bind, inode_block, begun_of, Begun, Entry, Named, lookup, Found, Hand, InodePlace, Op, inode_at, number_at, HasNoBuffer, number_in, loaded_in, IsLoadedAt, lock_left, lock_asked, lock_seat, LockReady, entries, search_left, search_asked, SearchReady, Carry, number_found, query_in, sight_in, name_in, Heard, Element}
use Rattle.inode_machine.specs.Inodes as whole
use Rattle.path_walk.specs.declared.asks.Heard.TheVariants as heard
use Rattle.path_walk.specs.declared.asks.Query.{Query}
use Rattle.path_walk.specs.declared.asks.Query.TheVariants as query
use Rattle.inode_parts.specs.Basics.{had_of, handed, note_at, Comes, face_unless_free, HasReference, IsAlone, other, seat_of_reference, Part, beside_in, StandsIn}
use Rattle.inode_parts.specs.Holding.{IsCounted, Learns}
use Rattle.inode_parts.specs.declared.note.Note.{Note}
use Rattle.inode_parts.specs.declared.note.Note.TheVariants as note
use Rattle.inode_parts.specs.declared.note.Notes.{Notes}
use Rattle.inode_parts.specs.declared.take_part.TakePart.{TakePart}
use Rattle.inode_parts.specs.declared.take_part.TakePart.TheVariants as take
use Rattle.inode_data.specs.declared.begun.Begun.TheVariants as beginning

-- what was seen of inode n, and what is had of it
abbrev pub seen : List ℕ → Carry → ℕ → Loaded → Note → Option ℕ → Bool → Part
seen path c n l note found empty = Ret
    (record {
      answer = (path, heard.Saw (record { face = face_unless_free l.inode; found = found; empty = empty }));
      carry = put c n (had_of path note (Some l));
    })

-- the slot under a name
abbrev pub note_of : Element → Option Found → Note
note_of e None = note.Nothing
note_of e (Some f) = note.Finds e f.slot

-- nothing is looked for in it
abbrev pub only_seen : List ℕ → Carry → ℕ → Loaded → Part
only_seen path c n l = seen path c n l note.Nothing None true

abbrev pub named_ends : List ℕ → Carry → ℕ → Loaded → Element → Searched → Part
named_ends path c n l e o = seen path c n (record l { index = o.index }) (note_of e o.found) (number_found o.found) true

abbrev pub listed_ends : List ℕ → Carry → ℕ → Loaded → Searched → Part
listed_ends path c n l o = seen path c n (record l { index = o.index }) note.Nothing None (not (is_some o.found))

abbrev pub looked : Version → List ℕ → Query → Carry → ℕ → Loaded → Part
looked v path query.Nothing c n l = only_seen path c n l
looked v path (query.Name e) c n l = bind (lookup v (name_in path e) l) (named_ends path c n l e)
looked v path query.Entries c n l = bind (entries v l) (listed_ends path c n l)

abbrev pub take_left : List ℕ → Notes → TakePart → Hand → Part
take_left path m (take.Locking v q r) h =
    bind (lock_left r h) (looked v path q (beside_in path m (lock_seat r) h) (number_at (lock_seat r) h))
take_left path m (take.Naming v k e s) h =
    bind (search_left v (Named (name_in path e)) k s h) (named_ends path (beside_in path m k h) (number_at k h) (loaded_in k h) e)
take_left path m (take.Listing v k s) h =
    bind (search_left v Entry k s h) (listed_ends path (beside_in path m k h) (number_at k h) (loaded_in k h))

-- one that has begun to look, or has seen it at once
abbrev pub taken_left : List ℕ → Notes → Begun TakePart Heard → Hand → Part
taken_left path m begun h = begun_of (λ p. take_left path m p h) (λ x. handed path m x h) begun

-- it was seen, or it is still to be looked for
abbrev pub begun_if : Bool → TakePart → Heard → Begun TakePart Heard
begun_if true p x = beginning.Is x
begun_if false p x = beginning.Runs p

abbrev pub take_asked : TakePart → Op
take_asked (take.Locking v q r) = lock_asked r
take_asked (take.Naming v k e s) = search_asked s
take_asked (take.Listing v k s) = search_asked s

-- a name that is looked for is in the path or in the second one
abbrev pub IsTold : Version → List ℕ → List ℕ → Query → Type 0
IsTold v path second query.Nothing = Unit {0}
IsTold v path second (query.Name e) = StandsIn v path second e
IsTold v path second query.Entries = Unit {0}

-- the inode of the reference is locked at this seat alone, and loaded
abbrev pub IsTaken : InodePlace → Hand → Type 0
IsTaken k h = IsLoadedAt k h × (number_in k h ≡ number_at k h) × IsAlone (number_at k h) k h

abbrev pub TakeTold : List ℕ → List ℕ → TakePart → Type 0
TakeTold path second (take.Locking v q r) = IsTold v path second q
TakeTold path second (take.Naming v k e s) = StandsIn v path second e
TakeTold path second (take.Listing v k s) = Unit {0}

abbrev pub TakeReady : TakePart → Hand → Type 0
TakeReady (take.Locking v q r) h = LockReady r h × IsAlone (number_at (lock_seat r) h) (lock_seat r) h × (h.second ≡ None)
TakeReady (take.Naming v k e s) h = SearchReady v k s h × IsTaken k h
TakeReady (take.Listing v k s) h = SearchReady v k s h × IsTaken k h

-- the seat to which the lock goes, and what is looked for
abbrev pub take_seat : TakePart → InodePlace
take_seat (take.Locking v q r) = lock_seat r
take_seat (take.Naming v k e s) = k
take_seat (take.Listing v k s) = k

abbrev pub take_query : TakePart → Query
take_query (take.Locking v q r) = q
take_query (take.Naming v k e s) = query.Name e
take_query (take.Listing v k s) = query.Entries

-- the version of its disk
abbrev pub take_version : TakePart → Version
take_version (take.Locking v q r) = v
take_version (take.Naming v k e s) = v
take_version (take.Listing v k s) = v

-- this is looked for in inode n of a disk of this version; its lock goes to the seat of the reference to it
abbrev pub TakeAmid : Version → List ℕ → ℕ → whole.Query → Hand → TakePart → Hand → Type 0
TakeAmid v path n looking start p now = HasReference n start × (take_seat p ≡ seat_of_reference n start)
    × (query_in path (take_query p) ≡ looking) × Comes (take_seat p) start now × (take_version p ≡ v)

-- what was seen in the inode at this seat, and is noted of it
abbrev pub Sees : Version → List ℕ → whole.Query → InodePlace → Heard → Notes → Notes → Type 0
Sees v path looking k x before after =
    IsCounted (sight_in x) × (note_at (other k) after ≡ note_at (other k) before) × Learns v path looking (sight_in x) (note_at k after)

-- what it asks of the hand
abbrev pub TakeBegins : Super → ℕ → Hand → Type 0
TakeBegins sizes n h = HasReference n h × (inode_at (seat_of_reference n h) h ≡ None) × IsAlone n (seat_of_reference n h) h × HasNoBuffer h
    × (inode_block sizes.inodestart n < 2 ^ 32)
