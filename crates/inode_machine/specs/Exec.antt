-- What each operation makes of the code's part of the world.
use Rattle.std.specs.Prelude.{ℕ, pos, zero, suc, ◌+◌, ◌-◌, Bool, true, false, ◌&&◌, ◌||◌, not, List, [], ◌∷◌, take, drop, length, ◌==◌, nat_lt, if◌then◌else◌, Option, Some, None}
use Rattle.image_versions.specs.declared.version.Version.{Version}
use Rattle.inode_machine.specs.Vocabulary.{Cause, BadDescriptor, BadMode, DirectorySlot, Node, Directory, File, Device, OpenFile, hart_count, descriptor_count, root, Name, put, any_below, all_slots, slots_of, content, node_or, is_used, lowest, has_room, first_free, cleared, emptied, new_directory, written_kind, write_kind, sum_below, one_if, ExecResult, Waits, Ran, Walk}
use Rattle.inode_machine.specs.Inodes.{InodeType, OfDirectory, OfFile, OfDevice, Face, face_of, face_or, seen_in, no_driver_for}
use Rattle.inode_machine.specs.World.{Mine, Entry, Desk, World, Op, Answer, ClaimResult, New, NoInode, NoPlace, EntryResult, InPlace, NoBlock, NoSlot, LockResult, NotLocked, LocksIt, JoinResult, NotJoined, Joined, Wrote, Whole, Refused, Short, LoanResult, Lent, Moved, Outside, Room, RoomFor, Picks}
use Rattle.inode_machine.specs.World.Op.{Take, UnlockInode, UpStart, Up, WalkDown, Down, Free, Forget, Claim, Store, Fill, Enter, Clear, Empty, Slot, Install, StatFile, LockFile, ReadFile, CheckFile, JoinFile, LockOpen, WriteFile, Double, Shut, SetDirectory, Lend, LendDirectory, Release, Join, Leave, Say}
use Rattle.image_versions.specs.Versions as versions

abbrev pub is_nothing : {A : Type 0} → Option A → Bool
is_nothing None = true
is_nothing (Some x) = false

-- Locks.

abbrev pub locked : ℕ → ℕ → World → World
locked h n w = record w { lock = put w.lock n (Some h); keeper = put w.keeper n (Some h) }

abbrev pub lock_if : {A : Type 0} → ℕ → ℕ → A → World → World → Option ℕ → ExecResult A World
lock_if h n a w u None = Ran a u
lock_if h n a w u (Some g) = Waits

-- an inode that is kept alone stays so
abbrev pub unlocked : ℕ → World → Bool → World
unlocked n w true = record w { lock = put w.lock n None }
unlocked n w false = record w { lock = put w.lock n None; keeper = put w.keeper n None }

-- References.

abbrev pub with_refs : (ℕ → Mine) → ℕ → ℕ → ℕ → ℕ → Mine
with_refs harts h n r = put harts h (record { refs = put (harts h).refs n r; walk = (harts h).walk; pending = (harts h).pending })

-- counted up, what was found is the hart's
abbrev pub with_found : (ℕ → Mine) → ℕ → ℕ → ℕ → ℕ → Mine
with_found harts h n r = put harts h (record { refs = put (harts h).refs n r; walk = (harts h).walk; pending = None })

abbrev pub with_walk : (ℕ → Mine) → ℕ → Option Walk → Option ℕ → ℕ → Mine
with_walk harts h k p = put harts h (record { refs = (harts h).refs; walk = k; pending = p })

-- places for inodes in memory
abbrev pub place_count : ℕ
place_count = 50

abbrev pub referenced : World → ℕ
referenced w = sum_below w.all.ninodes (λ i. one_if (nat_lt 0 (w.refs i)))

-- the inode is in memory, or a place is left for it
abbrev pub has_place : World → ℕ → Bool
has_place w n = nat_lt 0 (w.refs n) || nat_lt (referenced w) place_count

abbrev pub counted_up : ℕ → ℕ → World → World
counted_up h n w = record w { refs = put w.refs n (w.refs n + 1); harts = with_found w.harts h n ((w.harts h).refs n + 1) }

abbrev pub up_if : ℕ → ℕ → World → Bool → ExecResult Bool World
up_if h n w true = Ran true (counted_up h n w)
up_if h n w false = Ran false w

abbrev pub start_if : ℕ → ℕ → World → Bool → ExecResult (Option ℕ) World
start_if h n w true = Ran (Some n) (counted_up h n w)
start_if h n w false = Ran None w

abbrev pub start_number : Desk → Bool → ℕ
start_number d true = root
start_number d false = d.directory

abbrev pub is_dead : Option Node → Bool
is_dead None = false
is_dead (Some v) = v.count == 0

-- the last reference, to an inode without links
abbrev pub is_last : World → ℕ → Bool
is_last w n = (w.refs n == 1) && is_dead (w.disk n)

abbrev pub counted_down : ℕ → ℕ → World → World
counted_down h n w = record w {
  refs = put w.refs n (w.refs n - 1);
  harts = with_refs w.harts h n ((w.harts h).refs n - 1);
  keeper = if w.alone n then put w.keeper n None else w.keeper;
  alone = put w.alone n false;
}

-- it stays, for the hart to free
abbrev pub reserved : ℕ → ℕ → World → World
reserved h n w = record w { keeper = put w.keeper n (Some h); alone = put w.alone n true }

abbrev pub walk_down_if : ℕ → ℕ → World → Bool → ExecResult Bool World
walk_down_if h n w true = Ran true (reserved h n w)
walk_down_if h n w false = Ran false (counted_down h n w)

abbrev pub down_if : ℕ → ℕ → World → Bool → ExecResult Bool World
down_if h n w true = Ran true (record (reserved h n w) { lock = put w.lock n (Some h) })
down_if h n w false = Ran false (counted_down h n w)

-- Records and contents.

abbrev pub with_record : World → ℕ → Option Node → World
with_record w n v = record w { disk = put w.disk n v }

abbrev pub changed_record : World → ℕ → (Node → Node) → World
changed_record w n f = with_record w n (Some (f (node_or (w.disk n))))

abbrev pub is_free : World → ℕ → Bool
is_free w n = is_nothing (w.disk n) && (w.refs n == 0)

-- a record with a type alone
abbrev pub blank : InodeType → Node
blank OfDirectory = record { count = 0; kind = Directory [] }
blank OfFile = record { count = 0; kind = File [] }
blank (OfDevice major) = record { count = 0; kind = Device major (pos 0) 0 }

abbrev pub claimed : ℕ → InodeType → World → ℕ → World
claimed h inode_type w n = record w {
  disk = put w.disk n (Some (blank inode_type));
  refs = put w.refs n (w.refs n + 1);
  harts = with_refs w.harts h n ((w.harts h).refs n + 1);
  keeper = put w.keeper n (Some h);
  alone = put w.alone n true;
}

abbrev pub claim_if : ℕ → InodeType → World → Outside → ExecResult ClaimResult World
claim_if h inode_type w (Picks n) = if nat_lt (referenced w) place_count then Ran (New n) (claimed h inode_type w n) else Ran NoPlace w
claim_if h inode_type w Room = Ran NoInode w
claim_if h inode_type w (RoomFor k) = Ran NoPlace w

abbrev pub with_count : ℕ → Node → Node
with_count c v = record v { count = c }

abbrev pub with_dots : ℕ → ℕ → Node → Node
with_dots n d v = record v { kind = (new_directory n d).kind }

abbrev pub fill_if : ℕ → ℕ → World → Outside → ExecResult Bool World
fill_if n d w Room = Ran true (changed_record w n (with_dots n d))
fill_if n d w (RoomFor k) = Ran false w
fill_if n d w (Picks k) = Ran false w

abbrev pub slot_limit : Version → ℕ
slot_limit = versions.most_slots_of

unfoldable pub all_used : List (Option DirectorySlot) → Bool
all_used [] = true
all_used (s ∷ ss) = is_used s && all_used ss

abbrev pub is_full_directory : Version → Option Node → Bool
is_full_directory version v = (length (all_slots v) == slot_limit version) && all_used (all_slots v)

abbrev pub with_entry : Name → ℕ → Node → Node
with_entry e n v = record v { kind = Directory (first_free (slots_of v.kind) (record { name = e; number = n })) }

abbrev pub enter_in : ℕ → Name → ℕ → World → Outside → ExecResult EntryResult World
enter_in d e n w Room = Ran InPlace (changed_record w d (with_entry e n))
enter_in d e n w (RoomFor k) = Ran NoBlock w
enter_in d e n w (Picks k) = Ran NoBlock w

abbrev pub enter_if : ℕ → Name → ℕ → World → Outside → Bool → ExecResult EntryResult World
enter_if d e n w x true = Ran NoSlot w
enter_if d e n w x false = enter_in d e n w x

abbrev pub without_entry : Name → Node → Node
without_entry e v = record v { kind = Directory (cleared (slots_of v.kind) e) }

abbrev pub with_no_bytes : Node → Node
with_no_bytes v = record v { kind = emptied v.kind }

-- The open-file table.

abbrev pub file_count : ℕ
file_count = 100

abbrev pub slot_at : World → ℕ → ℕ → Option ℕ
slot_at w h fd = if nat_lt fd descriptor_count then (w.desks h).fds fd else None

abbrev pub entry_at : (ℕ → Option Entry) → Option ℕ → Option Entry
entry_at files None = None
entry_at files (Some s) = files s

abbrev pub entry_of : World → ℕ → ℕ → Option Entry
entry_of w h fd = entry_at w.files (slot_at w h fd)

abbrev pub doubled : ℕ → World → ℕ → Entry → ℕ → World
doubled h w s e fd = record w {
  files = put w.files s (Some (record { file = e.file; inode_type = e.inode_type; references = e.references + 1 }));
  desks = put w.desks h (record (w.desks h) { fds = put (w.desks h).fds fd (Some s) });
}

abbrev pub double_if : ℕ → World → ℕ → Entry → Bool → ExecResult (Option (Option ℕ)) World
double_if h w s e true = Ran (Some (Some (lowest (w.desks h).fds))) (doubled h w s e (lowest (w.desks h).fds))
double_if h w s e false = Ran (Some None) w

abbrev pub double_at : ℕ → World → Option ℕ → Option Entry → ExecResult (Option (Option ℕ)) World
double_at h w None e = Ran None w
double_at h w (Some s) None = Ran None w
double_at h w (Some s) (Some e) = double_if h w s e (has_room (w.desks h).fds)

-- another descriptor has the open file still
abbrev pub close_less : ℕ → World → ℕ → ℕ → Entry → World
close_less h w fd s e = record w {
  files = put w.files s (Some (record { file = e.file; inode_type = e.inode_type; references = e.references - 1 }));
  desks = put w.desks h (record (w.desks h) { fds = put (w.desks h).fds fd None });
}

-- none has; its reference is the hart's
abbrev pub close_last : ℕ → World → ℕ → ℕ → Entry → World
close_last h w fd s e = record w {
  files = put w.files s None;
  desks = put w.desks h (record (w.desks h) { fds = put (w.desks h).fds fd None });
  slots = put w.slots e.file.number (w.slots e.file.number - 1);
  harts = with_refs w.harts h e.file.number ((w.harts h).refs e.file.number + 1);
}

abbrev pub close_if : ℕ → World → ℕ → ℕ → Entry → Bool → ExecResult (Option (Option ℕ)) World
close_if h w fd s e true = Ran (Some (Some e.file.number)) (close_last h w fd s e)
close_if h w fd s e false = Ran (Some None) (close_less h w fd s e)

abbrev pub close_at : ℕ → World → ℕ → Option ℕ → Option Entry → ExecResult (Option (Option ℕ)) World
close_at h w fd None e = Ran None w
close_at h w fd (Some s) None = Ran None w
close_at h w fd (Some s) (Some e) = close_if h w fd s e (e.references == 1)

abbrev pub is_at : Option ℕ → ℕ → Bool
is_at None n = false
is_at (Some k) n = k == n

abbrev pub is_empty_slot : World → ℕ → Bool
is_empty_slot w s = is_nothing (w.files s) && not (any_below hart_count (λ g. is_at (w.desks g).hand s))

unfoldable pub first_from : ℕ → ℕ → (ℕ → Bool) → Option ℕ
first_from zero i p = None
first_from (suc more) i p = if p i then Some i else first_from more (i + 1) p

abbrev pub slot_if : ℕ → World → Option ℕ → ExecResult Bool World
slot_if h w None = Ran false w
slot_if h w (Some s) = Ran true (record w { desks = put w.desks h (record (w.desks h) { hand = Some s }) })

abbrev pub or_zero : Option ℕ → ℕ
or_zero None = 0
or_zero (Some n) = n

-- the tree's id of what the hart opens
abbrev pub opening_id : World → ℕ → ℕ
opening_id w h = or_zero (w.all.fds h (or_zero (w.desks h).opening))

abbrev pub installed : ℕ → World → OpenFile → InodeType → ℕ → ℕ → World
installed h w f inode_type s fd = record w {
  files = put w.files s (Some (record { file = f; inode_type = inode_type; references = 1 }));
  desks = put w.desks h (record (w.desks h) { fds = put (w.desks h).fds fd (Some s); hand = None; opening = None });
  ids = put w.ids s (opening_id w h);
  slots = put w.slots f.number (w.slots f.number + 1);
  harts = with_refs w.harts h f.number ((w.harts h).refs f.number - 1);
}

-- without room the slot is given back
abbrev pub install_if : ℕ → World → OpenFile → InodeType → Option ℕ → Bool → ExecResult (Option ℕ) World
install_if h w f inode_type None b = Ran None w
install_if h w f inode_type (Some s) false = Ran None (record w { desks = put w.desks h (record (w.desks h) { hand = None }) })
install_if h w f inode_type (Some s) true = Ran (Some (lowest (w.desks h).fds)) (installed h w f inode_type s (lowest (w.desks h).fds))

-- Descriptors' inodes.

abbrev pub stat_at : Version → ℕ → World → Option Entry → ExecResult (Option (ℕ × Face)) World
stat_at version h w None = Ran None w
stat_at version h w (Some e) =
    lock_if h e.file.number (Some (e.file.number, face_or (face_of version (w.disk e.file.number)))) w (locked h e.file.number w)
    (w.lock e.file.number)

-- why a descriptor is neither read nor written: it isn't open, it isn't open for that, it is a device
abbrev pub mode_refusal : Bool → InodeType → Option Cause
mode_refusal true inode_type = no_driver_for inode_type
mode_refusal false inode_type = Some BadMode

abbrev pub read_refused : Option Entry → Option Cause
read_refused None = Some BadDescriptor
read_refused (Some e) = mode_refusal e.file.readable e.inode_type

abbrev pub write_refused : Option Entry → Option Cause
write_refused None = Some BadDescriptor
write_refused (Some e) = mode_refusal e.file.writable e.inode_type

abbrev pub entry_moved : Entry → ℕ → Entry
entry_moved e by = record { file = record (e.file) { offset = e.file.offset + by }; inode_type = e.inode_type; references = e.references }

abbrev pub part_of : Version → Option Node → ℕ → ℕ → List ℕ
part_of version v offset n = take n (drop offset (content version (node_or v).kind))

abbrev pub with_offset : World → Option ℕ → Entry → ℕ → World
with_offset w None e by = w
with_offset w (Some s) e by = record w { files = put w.files s (Some (entry_moved e by)) }

abbrev pub offset_of : Option Entry → ℕ
offset_of None = 0
offset_of (Some e) = e.file.offset

abbrev pub lock_at : ℕ → World → Option Entry → Option Cause → ExecResult LockResult World
lock_at h w e (Some c) = Ran (NotLocked c) w
lock_at h w None None = Ran (NotLocked BadDescriptor) w
lock_at h w (Some e) None =
    lock_if h e.file.number (LocksIt e.file.number e.file.offset) w (locked h e.file.number w) (w.lock e.file.number)

abbrev pub read_at : Version → World → ℕ → ℕ → Option ℕ → Option Entry → ExecResult (List ℕ) World
read_at version w n count s None = Ran [] (unlocked n w (w.alone n))
read_at version w n count s (Some e) =
    Ran (part_of version (w.disk n) e.file.offset count)
    (with_offset (unlocked n w (w.alone n)) s e (length (part_of version (w.disk n) e.file.offset count)))

abbrev pub with_joined : World → ℕ → Bool → World
with_joined w h b = record w { desks = put w.desks h (record (w.desks h) { joined = b }) }

abbrev pub join_at : ℕ → World → Option Entry → Option Cause → ExecResult JoinResult World
join_at h w e (Some c) = Ran (NotJoined c) w
join_at h w None None = Ran (NotJoined BadDescriptor) w
join_at h w (Some e) None = Ran (Joined e.file.number) (with_joined w h true)

abbrev pub with_bytes : ℕ → List ℕ → Node → Node
with_bytes offset b v = record v { kind = written_kind v.kind offset b }

abbrev pub wrote_in : World → Option ℕ → Entry → ℕ → List ℕ → World
wrote_in w s e n b = with_offset (unlocked n (changed_record w n (with_bytes e.file.offset b)) (w.alone n)) s e (length b)

-- as many bytes as there are blocks for
abbrev pub write_in : World → Option ℕ → Entry → ℕ → List ℕ → Outside → ExecResult Wrote World
write_in w s e n b Room = Ran Whole (wrote_in w s e n b)
write_in w s e n b (RoomFor k) = Ran (Short k) (wrote_in w s e n (take k b))
write_in w s e n b (Picks k) = Ran (Short 0) (wrote_in w s e n [])

abbrev pub write_if : World → Option ℕ → Entry → ℕ → List ℕ → Outside → Option Cause → ExecResult Wrote World
write_if w s e n b x (Some c) = Ran (Refused c) (unlocked n w (w.alone n))
write_if w s e n b x None = write_in w s e n b x

abbrev pub write_at : Version → World → Option ℕ → ℕ → List ℕ → Outside → Option Entry → ExecResult Wrote World
write_at version w s n b x None = Ran (Refused BadDescriptor) (unlocked n w (w.alone n))
write_at version w s n b x (Some e) = write_if w s e n b x (write_kind version (node_or (w.disk n)).kind e.file.offset b)

-- Current directories, and what a hart hands on.

abbrev pub with_directory : World → ℕ → ℕ → World
with_directory w h n = record w { desks = put w.desks h (record (w.desks h) { directory = n; left = None }) }

abbrev pub next_used : ℕ → (ℕ → Option ℕ) → Option ℕ
next_used from fds = first_from (descriptor_count - from) from (λ i. not (is_nothing (fds i)))

-- one more descriptor has the slot's open file
abbrev pub more_users : Option Entry → Option Entry
more_users None = None
more_users (Some e) = Some (record { file = e.file; inode_type = e.inode_type; references = e.references + 1 })

abbrev pub slot_or : Option ℕ → ℕ
slot_or None = 0
slot_or (Some s) = s

-- the hart to which it hands them
abbrev pub child_of : Desk → Option ℕ
child_of d = d.lent descriptor_count

-- how much that has: nothing yet, the descriptors (0), or the directory too (1)
abbrev pub given_of : Desk → Option ℕ
given_of d = d.lent (descriptor_count + 1)

-- no descriptor is on its way to the child
abbrev pub serving : ℕ → Option ℕ → ℕ → Option ℕ
serving child given = put (put (λ i. None) descriptor_count (Some child)) (descriptor_count + 1) given

abbrev pub with_lent : World → ℕ → ℕ → World
with_lent w h i = record w {
  files = put w.files (slot_or ((w.desks h).fds i)) (more_users (w.files (slot_or ((w.desks h).fds i))));
  desks = put w.desks h (record (w.desks h) { lent = put (w.desks h).lent i ((w.desks h).fds i) });
}

-- the child has all the descriptors that were handed on
abbrev pub handed : World → ℕ → ℕ → World
handed w h child = record w {
  desks = put (put w.desks h (record (w.desks h) { lent = serving child (Some 0) })) child
      (record (w.desks child) { fds = put (w.desks h).lent descriptor_count None });
}

-- a reference is counted to the caller's directory, which is the child's now; the child's old one is the caller's to drop
abbrev pub moved_in : World → ℕ → ℕ → World
moved_in w h child =
    let raised : World = record w {
      refs = put w.refs (w.desks h).directory (w.refs (w.desks h).directory + 1);
      harts = with_refs w.harts child (w.desks h).directory ((w.harts child).refs (w.desks h).directory + 1);
    } in
    let dropped : World = record raised {
      harts = with_refs raised.harts child (w.desks child).directory
          ((raised.harts child).refs (w.desks child).directory - 1);
    } in
    record dropped {
      harts = with_refs dropped.harts h (w.desks child).directory ((w.harts h).refs (w.desks child).directory + 1);
      desks = put (put w.desks h (record (w.desks h) { lent = serving child (Some 1) })) child
          (record (w.desks child) { directory = (w.desks h).directory; left = None });
    }

abbrev pub lend_last : World → ℕ → ℕ → Option ℕ → World
lend_last w h child None = handed w h child
lend_last w h child (Some j) = w

abbrev pub lend_if : ℕ → World → ℕ → Option ℕ → ExecResult LoanResult World
lend_if h w child None = Ran (Moved (w.desks child).directory) (moved_in w h child)
lend_if h w child (Some i) =
    Ran (Lent i (not (is_nothing (next_used (i + 1) (w.desks h).fds))))
    (lend_last (with_lent w h i) h child (next_used (i + 1) (w.desks h).fds))

abbrev pub released : World → ℕ → ℕ → World
released w h child =
    record w { desks = put (put w.desks h (record (w.desks h) { lent = λ i. None })) child (record (w.desks child) { lender = None }) }

abbrev pub exec : Version → ℕ → Outside → (op : Op) → World → ExecResult (Answer op) World
exec version h x (Take n looking) w = lock_if h n (seen_in version n looking (w.disk n)) w (locked h n w) (w.lock n)
exec version h x (UnlockInode n) w = Ran tt (unlocked n w (w.alone n))
exec version h x (UpStart absolute) w = start_if h (start_number (w.desks h) absolute) w (has_place w (start_number (w.desks h) absolute))
exec version h x (Up n) w = up_if h n w (has_place w n)
exec version h x (WalkDown n) w = walk_down_if h n w (is_last w n)
exec version h x (Down n) w = down_if h n w (is_last w n)
exec version h x (Free n) w = Ran tt (with_record w n None)
exec version h x (Forget n) w = Ran tt (counted_down h n w)
exec version h x (Claim inode_type) w = claim_if h inode_type w x
exec version h x (Store n count) w = Ran tt (changed_record w n (with_count count))
exec version h x (Fill n d) w = fill_if n d w x
exec version h x (Enter d e n) w = enter_if d e n w x (is_full_directory version (w.disk d))
exec version h x (Clear d e) w = Ran tt (changed_record w d (without_entry e))
exec version h x (Empty n) w = Ran tt (changed_record w n with_no_bytes)
exec version h x Slot w = slot_if h w (first_from file_count 0 (is_empty_slot w))
exec version h x (Install f inode_type) w = install_if h w f inode_type (w.desks h).hand (has_room (w.desks h).fds)
exec version h x (StatFile fd) w = stat_at version h w (entry_of w h fd)
exec version h x (LockFile fd) w = lock_at h w (entry_of w h fd) (read_refused (entry_of w h fd))
exec version h x (ReadFile fd n offset count) w = read_at version w n count (slot_at w h fd) (entry_of w h fd)
exec version h x (CheckFile fd) w = Ran (write_refused (entry_of w h fd)) w
exec version h x (JoinFile fd) w = join_at h w (entry_of w h fd) (write_refused (entry_of w h fd))
exec version h x (LockOpen fd n) w = lock_if h n (n, offset_of (entry_of w h fd)) w (locked h n w) (w.lock n)
exec version h x (WriteFile fd n offset bytes) w = write_at version w (slot_at w h fd) n bytes x (entry_of w h fd)
exec version h x (Double fd) w = double_at h w (slot_at w h fd) (entry_of w h fd)
exec version h x (Shut fd) w = close_at h w fd (slot_at w h fd) (entry_of w h fd)
exec version h x (SetDirectory n) w = Ran (w.desks h).directory (with_directory (unlocked n w (w.alone n)) h n)
exec version h x (Lend child from) w = lend_if h w child (next_used from (w.desks h).fds)
exec version h x (LendDirectory child) w = Ran (w.desks child).directory (moved_in w h child)
exec version h x (Release child) w = Ran tt (released w h child)
exec version h x Join w = Ran tt (with_joined w h true)
exec version h x Leave w = Ran tt (record w { desks = put w.desks h (record (w.desks h) { joined = false; noted = None }) })
exec version h x Say w = Ran tt w
