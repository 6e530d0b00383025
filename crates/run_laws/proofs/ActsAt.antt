-- Each operation's program is marked at its first step or at its last one.
use Rattle.inode_data.specs.Widths.{most_blocks}
use Rattle.run_laws.proofs.Vocabulary.{◌≡◌, ◌⊎◌, inl, inr, ◌<◌, ◌+◌, ◌-◌, ◌*◌, ◌/◌, ◌≤◌, ◌==◌, min, nat_lt, if◌then◌else◌, ℕ, zero, suc, Bool, true, false, is_some, Option, Some, None, List, [], ◌∷◌, length, take, slice_index, refl, subst, arith, option_map, nat_tests, Dinode, IndexState, Loaded, no_index, Used, Super, dirent_at, spell_dirent, numbers_in, Cause, Name, same_name, Handover, Ret, Do, bind, unmarked, AfterLeave, first_below, first_clear_below, clear_bit, free_block, take_first, zero_found, FirstIs, first_is, LockedState, Locks, after_leave, commit_unless, commits, fetch, read_unless, inode_blocks, give_back, inode_block, load_unless, put_inode, store, Address, Direct, InTable, address, table_of, free_in_table, free_indirect, free_numbers, free_table, FilledMemory, blocks_between, end_of, fetch_at, fetch_block, fetch_named, fetch_number, filled_with, give_fetched, next_block, part_of, read_blocks, read_from, read_part, direct, WriteResult, front_of, locate, locate_at, locate_in_table, located, look_up, name_direct, name_in_table, put_part, store_written, take_one, with_address, with_table, write_blocks, write_in, write_part, Query, AtNothing, AtName, AtEntries, InodeType, ClaimResult, EntryResult, Wrote, Take, UnlockInode, UpStart, Up, WalkDown, Down, Free, Forget, Claim, Store, Fill, Enter, Clear, Empty, Slot, Install, StatFile, LockFile, ReadFile, CheckFile, JoinFile, LockOpen, WriteFile, Double, Shut, SetDirectory, Lend, LendDirectory, Release, Join, Leave, Say, give_content, dots, enter_in, entered_to, filled_to, if_none, look_last, put_grown, search_full, seek_full, Acts, acts, Apart, Carry, Emptied, Finds, Had, Has, NothingMore, Opened, HasInodes, claim_at, claim_from, clear_in, clear_slot, slot_found, slot_of, looked, number_found, learned, search_entries, seen_record, stat_loaded, stat_locked, file_locked, give_read, handlers, put_record, loaded_in, record_in, with_index, give_written, refused_in, write_unless, Found, Searched, slot_for, Aim, Named, Unused, block_count, found_at, found_in, is_directory, is_live_directory, look_at, lookup, most_slots, or_next, search, search_from, slot_count, slots_in, first_gap, first_of, free_below, index_room, index_raised, slots_known, with_entry, is_free, IsAtEnd, MarksLast, MarksNone, MarksOne, OperationsActFirstOrLast, block_len, dirent_len_of, new_directory_size_of, dirents_per_block_of, Version}
use Rattle.group_log.specs.declared.log.AfterLeave.TheVariants as left
use Rattle.fs_machine.specs.Inodes.{Refuses}
use Rattle.fs_machine.specs.Steps as steps
use Rattle.inode_machine.specs.World as above
use Rattle.inodes_on_blocks.specs.Handlers.{P}
use Rattle.directory.specs.Programs.{Entry}
use Rattle.directory.specs.Slots.{first_free}

-- ---- programs in parts

-- whatever its steps are answered, the program ends so
abbrev EndsAs : {A : Type 0} → (A → Type 0) → P A → Type 0
EndsAs Is (Ret a) = Is a
EndsAs Is (Do op m k) = (a : steps.Answer op) → EndsAs Is (k a)

none_bind : {A B : Type 0} (p : P A) (f : A → P B) → MarksNone p → ((a : A) → MarksNone (f a)) → MarksNone (bind p f)
none_bind (Ret a) f here behind = behind a
none_bind (Do op m k) f here behind = λ a. ((here a).0, none_bind (k a) f (here a).1 behind)

last_bind : {A B : Type 0} (p : P A) (f : A → P B) → MarksNone p → ((a : A) → MarksLast (f a)) → MarksLast (bind p f)
last_bind (Ret a) f here behind = behind a
last_bind (Do op m k) f here behind = λ a. inr ((here a).0, last_bind (k a) f (here a).1 behind)

-- if the end of the first part counts
last_bind_as : {A B : Type 0} (Is : A → Type 0) (p : P A) (f : A → P B) → MarksNone p → EndsAs Is p → ((a : A) → Is a → MarksLast (f a)) → MarksLast (bind p f)
last_bind_as Is (Ret a) f here ends behind = behind a ends
last_bind_as Is (Do op m k) f here ends behind = λ a. inr ((here a).0, last_bind_as Is (k a) f (here a).1 (ends a) behind)

-- three parts, of which the second one may be marked
last_bind_two : {A B C : Type 0} (p : P A) (g : A → P B) (f : B → P C) → MarksNone p → ((a : A) → MarksLast (bind (g a) f)) → MarksLast (bind (bind p g) f)
last_bind_two (Ret a) g f here behind = behind a
last_bind_two (Do op m k) g f here behind = λ a. inr ((here a).0, last_bind_two (k a) g f (here a).1 behind)

one_bind : {A B : Type 0} (p : P A) (f : A → P B) → MarksNone p → ((a : A) → MarksOne (f a)) → MarksOne (bind p f)
one_bind (Ret a) f here behind = behind a
one_bind (Do op m k) f here behind = λ a. inr ((here a).0, one_bind (k a) f (here a).1 behind)

ends_bind : {A B : Type 0} (Is : B → Type 0) (p : P A) (f : A → P B) → ((a : A) → EndsAs Is (f a)) → EndsAs Is (bind p f)
ends_bind Is (Ret a) f behind = behind a
ends_bind Is (Do op m k) f behind = λ a. ends_bind Is (k a) f behind

none_if : {A : Type 0} (b : Bool) (p q : P A) → MarksNone p → MarksNone q → MarksNone (if b then p else q)
none_if true p q here there = here
none_if false p q here there = there

last_if : {A : Type 0} (b : Bool) (p q : P A) → MarksLast p → MarksLast q → MarksLast (if b then p else q)
last_if true p q here there = here
last_if false p q here there = there

-- ---- parts without a mark

read_none : (b : ℕ) (o : Option (List ℕ)) → MarksNone (read_unless {M = Acts} b o)
read_none b (Some bytes) = tt
read_none b None = λ a. (refl, tt)

fetch_none : (b : ℕ) → MarksNone (fetch {M = Acts} b)
fetch_none b = λ a. (refl, read_none b a)

load_none : (inodestart n : ℕ) (o : Option Loaded) → MarksNone (load_unless {M = Acts} inodestart n o)
load_none inodestart n (Some l) = tt
load_none inodestart n None = none_bind (fetch (inode_block inodestart n)) (give_back (inode_block inodestart n) n) (fetch_none (inode_block inodestart n)) (λ block a. (refl, tt))

store_none : (inodestart n : ℕ) (d : Dinode) → MarksNone (store {M = Acts} inodestart n d)
store_none inodestart n d = none_bind (fetch (inode_block inodestart n)) (put_inode (inode_block inodestart n) n d) (fetch_none (inode_block inodestart n)) (λ block a. (refl, tt))

number_none : (b : ℕ) → MarksNone (fetch_number {M = Acts} b)
number_none b = none_bind (fetch b) (give_fetched b) (fetch_none b) (λ bytes. tt)

at_none : (d : Dinode) (a : Address) → MarksNone (fetch_at {M = Acts} d a)
at_none d (Direct i) = number_none _
at_none d (InTable i) = none_bind (fetch (table_of d)) (fetch_named (table_of d) i) (fetch_none (table_of d)) (λ bytes a. (refl, number_none _))

block_none : (d : Dinode) (k : ℕ) → MarksNone (fetch_block {M = Acts} d k)
block_none d k = at_none d (address k)

reads_none : (n : ℕ) (d : Dinode) (from upto : ℕ) (m : FilledMemory) → MarksNone (read_blocks {M = Acts} n d from upto m)
unfolding read_blocks
reads_none zero d from upto m = tt
reads_none (suc n) d from upto m =
    none_bind (fetch_block d (from / block_len)) (read_part (read_blocks n d (next_block from) upto) from upto m) (block_none d (from / block_len)) (λ f a. (refl, reads_none n d (next_block from) upto (filled_with m (part_of from upto f.bytes))))

found_none : (o : Option ℕ) → MarksNone (zero_found {M = Acts} o)
found_none None = tt
found_none (Some b) = none_bind (fetch b) (λ old. Do (steps.Put b _) unmarked (λ _. Ret (Some b))) (fetch_none b) (λ old a. (refl, tt))

take_none : (sizes : Super) → MarksNone (take_one {M = Acts} sizes)
take_none sizes = none_bind (fetch sizes.bmapstart) (take_first sizes.bmapstart sizes.size) (fetch_none sizes.bmapstart) (λ bitmap a. (refl, found_none (first_clear_below sizes.size bitmap)))

give_none : (at b : ℕ) → MarksNone (free_block {M = Acts} at b)
give_none at b = none_bind (fetch at) (clear_bit at b) (fetch_none at) (λ bitmap a. (refl, tt))

direct_none : (i : ℕ) (d : Dinode) (o : Option ℕ) → MarksNone (name_direct {M = Acts} i d o)
direct_none i d None = tt
direct_none i d (Some b) = tt

in_table_none : (i : ℕ) (d : Dinode) (table : ℕ) (bytes : List ℕ) (o : Option ℕ) → MarksNone (name_in_table {M = Acts} i d table bytes o)
in_table_none i d table bytes None = λ a. (refl, tt)
in_table_none i d table bytes (Some b) = λ a. (refl, tt)

look_none : (sizes : Super) (i : ℕ) (d : Dinode) (table : ℕ) (bytes : List ℕ) → MarksNone (look_up {M = Acts} sizes i d table bytes)
look_none sizes i d table bytes =
    none_if (slice_index (numbers_in bytes) i == 0) (bind (take_one sizes) (name_in_table i d table bytes)) (Do (steps.Put table None) unmarked (λ _. located d (Some (slice_index (numbers_in bytes) i))))
    (none_bind (take_one sizes) (name_in_table i d table bytes) (take_none sizes) (in_table_none i d table bytes)) (λ a. (refl, tt))

with_table_none : (sizes : Super) (i : ℕ) (d : Dinode) (o : Option ℕ) → MarksNone (with_table {M = Acts} sizes i d o)
with_table_none sizes i d None = tt
with_table_none sizes i d (Some table) = none_bind (fetch table) (look_up sizes i (with_address direct table d) table) (fetch_none table) (look_none sizes i (with_address direct table d) table)

locate_none : (sizes : Super) (d : Dinode) (a : Address) → MarksNone (locate_at {M = Acts} sizes d a)
locate_none sizes d (Direct i) = none_if (slice_index d.addrs i == 0) (bind (take_one sizes) (name_direct i d)) (located d (Some (slice_index d.addrs i))) (none_bind (take_one sizes) (name_direct i d) (take_none sizes) (direct_none i d)) tt
locate_none sizes d (InTable i) =
    none_if (table_of d == 0) (bind (take_one sizes) (with_table sizes i d)) (locate_in_table sizes i d) (none_bind (take_one sizes) (with_table sizes i d) (take_none sizes) (with_table_none sizes i d))
    (none_bind (fetch (table_of d)) (look_up sizes i d (table_of d)) (fetch_none (table_of d)) (look_none sizes i d (table_of d)))

write_none : (more : Dinode → P WriteResult) → ((d : Dinode) → MarksNone (more d)) → (at : ℕ) (bytes : List ℕ) (d : Dinode) (o : Option ℕ) → MarksNone (write_in more at bytes d o)
write_none more none at bytes d None = tt
write_none more none at bytes d (Some b) = none_bind (fetch b) (put_part (more d) b at bytes) (fetch_none b) (λ old a. (refl, none d))

writes_none : (n : ℕ) (sizes : Super) (at : ℕ) (bytes : List ℕ) (d : Dinode) → MarksNone (write_blocks {M = Acts} n sizes at bytes d)
unfolding write_blocks
writes_none zero sizes at bytes d = tt
writes_none (suc n) sizes at bytes d =
    none_bind (locate sizes d (at / block_len)) _ (locate_none sizes d (address (at / block_len)))
    (λ l. write_none (write_blocks n sizes (at + length (front_of at bytes)) _) (writes_none n sizes (at + length (front_of at bytes)) _) at bytes l.inode l.number)

part_none : (sizes : Super) (n : ℕ) (d : Dinode) (offset : ℕ) (bytes : List ℕ) → MarksNone (write_part {M = Acts} sizes n d offset bytes)
part_none sizes n d offset bytes =
    none_bind (write_blocks (blocks_between offset (offset + length bytes)) sizes offset bytes d) (store_written sizes n) (writes_none (blocks_between offset (offset + length bytes)) sizes offset bytes d)
    (λ w. none_bind (store sizes.inodestart n _) (λ _. Ret _) (store_none sizes.inodestart n _) (λ _. tt))

next_none : (o : Option Found) (x : IndexState) (next : IndexState → P Searched) → ((y : IndexState) → MarksNone (next y)) → MarksNone (or_next o x next)
next_none (Some f) x next none = tt
next_none None x next none = none x

blocks_none : (version : Version) (n : ℕ) (aim : Aim) (d : Dinode) (k : ℕ) (x : IndexState) → MarksNone (search_from {M = Acts} version n aim d k x)
unfolding search_from
blocks_none version zero aim d k x = tt
blocks_none version (suc n) aim d k x =
    none_bind (fetch_block d k) (look_at version aim d k x (search_from version n aim d (k + 1))) (block_none d k)
    (λ f a. (
      refl,
      next_none (found_in version aim d k f.bytes) (index_raised version d k f.bytes x) (search_from version n aim d (k + 1))
          (blocks_none version n aim d (k + 1)),
    ))

search_none : (version : Version) (aim : Aim) (l : Loaded) → MarksNone (search {M = Acts} version aim l)
search_none version aim l =
    next_none (first_of version aim l.inode l.index) l.index (search_from version (block_count version l.inode - l.index.blocks) aim l.inode l.index.blocks)
    (blocks_none version (block_count version l.inode - l.index.blocks) aim l.inode l.index.blocks)

lookup_none : (version : Version) (name : Name) (l : Loaded) → MarksNone (lookup {M = Acts} version name l)
lookup_none version name l =
    none_if (is_live_directory l.inode) (search version (Named name) l) (Ret (record { found = None; index = l.index })) (search_none version (Named name) l) tt

entries_none : (version : Version) (l : Loaded) → MarksNone (search_entries version l)
entries_none version l = none_if (is_directory l.inode) (search version Entry l) (Ret (record { found = None; index = l.index })) (search_none version Entry l) tt

looked_none : (version : Version) (q : Query) (c : Carry) (n : ℕ) (l : Loaded) → MarksNone (looked version q c n l)
looked_none version AtNothing c n l = tt
looked_none version (AtName e) c n l =
    none_bind (lookup version e l) (λ o. seen_record c n (record l { index = o.index }) (learned e o.found) (number_found o.found) true) (lookup_none version e l)
    (λ o. tt)
looked_none version AtEntries c n l = none_bind (search_entries version l) _ (entries_none version l) (λ o. tt)

stat_none : (sizes : Super) (c : Carry) (l : LockedState) → MarksNone (stat_locked sizes c l)
stat_none sizes c (Refuses why) = tt
stat_none sizes c (Locks f content) = none_bind (load_unless sizes.inodestart f.number content) (stat_loaded c f.number) (load_none sizes.inodestart f.number content) (λ d. tt)

file_none : (sizes : Super) (fd : ℕ) (c : Carry) (l : LockedState) → MarksNone (file_locked sizes fd c l)
file_none sizes fd c (Refuses why) = tt
file_none sizes fd c (Locks f content) = none_bind (load_unless sizes.inodestart f.number content) _ (load_none sizes.inodestart f.number content) (λ d. tt)

slot_none : (version : Version) (c : Had) (e : Name) → MarksNone (slot_of version c e)
slot_none version Apart e = tt
slot_none version (Has l NothingMore) e = none_bind (search version (Named e) l) slot_found (search_none version (Named e) l) (λ o. tt)
slot_none version (Has l (Finds name s)) e = none_if (same_name name e) (Ret (s, l.index)) (bind (search version (Named e) l) slot_found) tt (none_bind (search version (Named e) l) slot_found (search_none version (Named e) l) (λ o. tt))
slot_none version (Has l (Opened fd offset)) e = none_bind (search version (Named e) l) slot_found (search_none version (Named e) l) (λ o. tt)
slot_none version Emptied e = tt

unless_none : (more : P (Unit {0})) → MarksNone more → (b : Bool) → MarksNone (commit_unless more b)
unless_none more none true = tt
unless_none more none false = none

commits_none : (n : ℕ) → MarksNone (commits {M = Acts} n)
commits_none zero = tt
commits_none (suc n) = λ a. (refl, unless_none (commits n) (commits_none n) a)

leave_none : (a : AfterLeave) → MarksNone (after_leave {M = Acts} a)
leave_none left.Free = tt
leave_none left.Commits = commits_none 62

-- ---- parts before the last step

numbers_last : {A : Type 0} (bitmap : ℕ) (bs : List ℕ) (after : P A) → MarksLast after → MarksLast (free_numbers bitmap bs after)
numbers_last bitmap [] after last = last
numbers_last bitmap (b ∷ bs) after last =
    last_if (b == 0) (free_numbers bitmap bs after) (bind (free_block bitmap b) (λ _. free_numbers bitmap bs after)) (numbers_last bitmap bs after last)
    (last_bind (free_block bitmap b) (λ _. free_numbers bitmap bs after) (give_none bitmap b) (λ _. numbers_last bitmap bs after last))

table_last : {A : Type 0} (bitmap table : ℕ) (after : P A) → MarksLast after → MarksLast (free_table bitmap table after)
table_last bitmap table after last = λ a. inr (refl, last_bind (free_block bitmap table) (λ _. after) (give_none bitmap table) (λ _. last))

indirect_last : {A : Type 0} (bitmap table : ℕ) (after : P A) → MarksLast after → MarksLast (free_indirect bitmap table after)
indirect_last bitmap table after last =
    last_if (table == 0) after (bind (fetch table) (free_in_table bitmap table after)) last
    (last_bind (fetch table) (free_in_table bitmap table after) (fetch_none table) (λ bytes. numbers_last bitmap (numbers_in bytes) (free_table bitmap table after) (table_last bitmap table after last)))

content_last : {A : Type 0} (sizes : Super) (d : Dinode) (after : P A) → MarksLast after → MarksLast (give_content sizes d after)
content_last sizes d after last = numbers_last sizes.bmapstart (take direct d.addrs) (free_indirect sizes.bmapstart (table_of d) after) (indirect_last sizes.bmapstart (table_of d) after last)

grown_last : (op : above.Op) (outside : above.Outside) (m : above.Answer op → Option above.Mark) (answer : above.Answer op) (sizes : Super) (n : ℕ) (c : Carry) (x : IndexState) (w : WriteResult) → MarksLast (put_grown op outside m answer sizes n c x w)
grown_last op outside m answer sizes n c x w = last_bind (fetch (inode_block sizes.inodestart n)) _ (fetch_none (inode_block sizes.inodestart n)) (λ block a. inl (refl, tt))

record_last : (op : above.Op) (m : above.Answer op → Option above.Mark) (answer : above.Answer op) (b n : ℕ) (d : Dinode) (had : Had) (c : Carry) → MarksLast (bind (fetch b) (put_record op m answer b n d had c))
record_last op m answer b n d had c = last_bind (fetch b) (put_record op m answer b n d had c) (fetch_none b) (λ block a. inl (refl, tt))

-- ---- a free slot

-- of a block's places, those that a directory has are below the most
in_directory : (places most count before p : ℕ) → p < min places (min most count - before) → before + p < most
in_directory places most count before p low = omega (arith, low)

-- a slot that is found is one that a directory may have
found_below : (version : Version) (d : Dinode) (k : ℕ) (block : List ℕ) (f : Found) → found_in version Unused d k block ≡ Some f → f.slot < most_slots version
unfolding found_in first_free
found_below version d k block f is =
    at (first_below (λ p. is_free (dirent_at version p block)) (slots_in version d k)) (first_is (λ p. is_free (dirent_at version p block)) (slots_in version d k)) is
  where
    at : (o : Option ℕ) → FirstIs (λ p. is_free (dirent_at version p block)) (slots_in version d k) o → option_map (found_at version k block) o ≡ Some f
        → f.slot < most_slots version
    at None first e = absurd (let z : ◌≡◌ {A = Option Found} None (Some f) = e in cc)
    at (Some p) first e =
        let below = in_directory (dirents_per_block_of version) (most_slots version) (d.size / dirent_len_of version) (dirents_per_block_of version * k) p first.0 in
        subst (λ (z : Found). z.slot < most_slots version) (let z : found_at version k block p ≡ f = cc in z) below

few_of : (known most count : ℕ) → min known (min most count) ≤ most
few_of known most count = omega arith

-- so is one that the index has
known_below : (version : Version) (d : Dinode) (x : IndexState) (f : Found) → first_of version Unused d x ≡ Some f → f.slot < most_slots version
unfolding first_of
known_below version d x f is = at (min (slots_known version x) (slot_count version d)) (first_gap 0 (take index_room x.slots)) (few_of (slots_known version x) (most_slots version) (d.size / dirent_len_of version)) is
  where
    at : (limit s : ℕ) → limit ≤ most_slots version → free_below limit s ≡ Some f → f.slot < most_slots version
    at limit s few e = by (nat_lt s limit) refl e
      where
        by : (b : Bool) → nat_lt s limit ≡ b → (if b then Some (record { slot = s; number = 0 }) else None) ≡ Some f → f.slot < most_slots version
        by false q z = absurd (let z : ◌≡◌ {A = Option Found} None (Some f) = z in cc)
        by true q z =
            let below : s < most_slots version = grind (arith, nat_tests, q, few) in
            subst (λ (z : Found). z.slot < most_slots version) (let z : record { slot = s; number = 0 } ≡ f = cc in z) below

-- the slot of a new name, if that is below the most
abbrev FitsIn : Version → Dinode → Searched → Type 0
FitsIn version d o = slot_for version d o.found < most_slots version

next_fits : (version : Version) (d : Dinode) (o : Option Found) (x : IndexState) (next : IndexState → P Searched) → ((f : Found) → o ≡ Some f → f.slot < most_slots version) → ((y : IndexState) → EndsAs (FitsIn version d) (next y)) → EndsAs (FitsIn version d) (or_next o x next)
next_fits version d (Some f) x next below ends = below f refl
next_fits version d None x next below ends = ends x

blocks_fit : (version : Version) (n : ℕ) (d : Dinode) (k : ℕ) (x : IndexState) → slot_count version d < most_slots version
    → EndsAs (FitsIn version d) (search_from version n Unused d k x)
unfolding search_from
blocks_fit version zero d k x few = few
blocks_fit version (suc n) d k x few =
    ends_bind (FitsIn version d) (fetch_block d k) (look_at version Unused d k x (search_from version n Unused d (k + 1)))
    (λ f a. next_fits version d (found_in version Unused d k f.bytes) (index_raised version d k f.bytes x) (search_from version n Unused d (k + 1)) (λ z is. found_below version d k f.bytes z is) (λ y. blocks_fit version n d (k + 1) y few))

search_fits : (version : Version) (l : Loaded) → slot_count version l.inode < most_slots version → EndsAs (FitsIn version l.inode) (search version Unused l)
search_fits version l few =
    next_fits version l.inode (first_of version Unused l.inode l.index) l.index (search_from version (block_count version l.inode - l.index.blocks) Unused l.inode l.index.blocks) (λ f is. known_below version l.inode l.index f is)
    (λ y. blocks_fit version (block_count version l.inode - l.index.blocks) l.inode l.index.blocks y few)

module _ (version : Version) {A : Type 0} (act : Acts) (then_ : Searched → P A) (full : (x : IndexState) → IsAtEnd (then_ (record { found = None; index = x }))) (fits : (f : Found) (x : IndexState) → f.slot < most_slots version → MarksLast (then_ (record { found = Some f; index = x }))) where
  last_seen : (o : Option Found) (x : IndexState) → ((f : Found) → o ≡ Some f → f.slot < most_slots version) → (a : Unit {0}) → ((is_some (if_none o (Some act)) ≡ true) × IsAtEnd (then_ (record { found = o; index = x }))) ⊎ ((if_none o (Some act) ≡ None) × MarksLast (then_ (record { found = o; index = x })))
  last_seen None x below a = inl (refl, full x)
  last_seen (Some f) x below a = inr (refl, fits f x (below f refl))

  next_full : (o : Option Found) (x : IndexState) (next : IndexState → P Searched) → ((f : Found) → o ≡ Some f → f.slot < most_slots version) → ((y : IndexState) → MarksLast (bind (next y) then_)) → MarksLast (bind (or_next o x next) then_)
  next_full (Some f) x next below last = fits f x (below f refl)
  next_full None x next below last = last x

  blocks_full : (d : Dinode) (n k : ℕ) (x : IndexState) → MarksLast (bind (search_full version (Some act) n d k x) then_)
  unfolding search_full
  blocks_full d zero k x =
      last_bind_two (fetch_block d k) (look_last version (Some act) d k x) then_ (block_none d k) (λ f. last_seen (found_in version Unused d k f.bytes) (index_raised version d k f.bytes x) (λ z is. found_below version d k f.bytes z is))
  blocks_full d (suc n) k x =
      last_bind_two (fetch_block d k) (look_at version Unused d k x (search_full version (Some act) n d (k + 1))) then_ (block_none d k)
      (λ f a. inr (refl, next_full (found_in version Unused d k f.bytes) (index_raised version d k f.bytes x) (search_full version (Some act) n d (k + 1)) (λ z is. found_below version d k f.bytes z is) (blocks_full d n (k + 1))))

  full_last : (l : Loaded) → MarksLast (bind (seek_full version (Some act) l) then_)
  full_last l =
      next_full (first_of version Unused l.inode l.index) l.index (search_full version (Some act) (most_blocks - 1 - l.index.blocks) l.inode l.index.blocks) (λ f is. known_below version l.inode l.index f is)
      (blocks_full l.inode (most_blocks - 1 - l.index.blocks) l.index.blocks)

-- ---- the operations

module _ (sizes : Super) (c : Carry) where
  module _ (d : ℕ) (e : Name) (n : ℕ) (m : EntryResult → Option above.Mark) where
    entry_last : (x : IndexState) (slot : ℕ) → slot < most_slots sizes.version → MarksLast (enter_in sizes d e n c m x slot)
    entry_last x slot below = at (nat_lt slot (most_slots sizes.version)) (grind (arith, nat_tests, below))
      where
        writes : P (Handover EntryResult Carry)
        writes =
            bind (write_blocks (blocks_between (dirent_len_of sizes.version * slot) (dirent_len_of sizes.version * slot + length (spell_dirent sizes.version (Used n e)))) sizes (dirent_len_of sizes.version * slot) (spell_dirent sizes.version (Used n e)) (record_in c d)) (entered_to sizes d e n c m x slot)

        last : MarksLast writes
        last =
            last_bind (write_blocks (blocks_between (dirent_len_of sizes.version * slot) (dirent_len_of sizes.version * slot + length (spell_dirent sizes.version (Used n e)))) sizes (dirent_len_of sizes.version * slot) (spell_dirent sizes.version (Used n e)) (record_in c d)) (entered_to sizes d e n c m x slot)
            (writes_none (blocks_between (dirent_len_of sizes.version * slot) (dirent_len_of sizes.version * slot + length (spell_dirent sizes.version (Used n e)))) sizes (dirent_len_of sizes.version * slot) (spell_dirent sizes.version (Used n e)) (record_in c d))
            (λ w. last_if (w.upto == dirent_len_of sizes.version * (slot + 1)) (put_grown (Enter d e n) above.Room m above.InPlace sizes d c (with_entry sizes.version slot (spell_dirent sizes.version (Used n e)) x) w)
            (put_grown (Enter d e n) (above.RoomFor 0) m above.NoBlock sizes d c x w)
            (grown_last (Enter d e n) above.Room m above.InPlace sizes d c (with_entry sizes.version slot (spell_dirent sizes.version (Used n e)) x) w) (grown_last (Enter d e n) (above.RoomFor 0) m above.NoBlock sizes d c x w))

        at : (b : Bool) → b ≡ true → MarksLast (if b then writes else Ret (record { answer = above.NoSlot; carry = with_index c d x }))
        at true is = last
        at false is = absurd (let z : false ≡ true = is in cc)

    entry_ends : (x : IndexState) (slot : ℕ) → nat_lt slot (most_slots sizes.version) ≡ false → IsAtEnd (enter_in sizes d e n c m x slot)
    entry_ends x slot past = at (nat_lt slot (most_slots sizes.version)) past _
      where
        at : (b : Bool) → b ≡ false → (p : P (Handover EntryResult Carry)) → IsAtEnd (if b then p else Ret (record { answer = above.NoSlot; carry = with_index c d x }))
        at true is p = absurd (let z : true ≡ false = is in cc)
        at false is p = tt

    enters_last : MarksLast (handlers sizes c (Enter d e n) m)
    enters_last = at (nat_lt (slot_count sizes.version (record_in c d)) (most_slots sizes.version)) refl
      where
        then_ : Searched → P (Handover EntryResult Carry)
        then_ o = enter_in sizes d e n c m o.index (slot_for sizes.version (record_in c d) o.found)

        at : (b : Bool) → nat_lt (slot_count sizes.version (record_in c d)) (most_slots sizes.version) ≡ b
            → MarksLast (bind (if b then search sizes.version Unused (loaded_in c d) else seek_full sizes.version (acts (Enter d e n) above.Room m)
            (loaded_in c d)) then_)
        at true few =
            last_bind_as (FitsIn sizes.version (record_in c d)) (search sizes.version Unused (loaded_in c d)) then_ (search_none sizes.version Unused (loaded_in c d))
            (search_fits sizes.version (loaded_in c d) (grind (arith, nat_tests, few)))
            (λ o fits. entry_last o.index (slot_for sizes.version (record_in c d) o.found) fits)
        at false full =
            full_last sizes.version (record { op = Enter d e n; outside = above.Room; mark = m }) then_ (λ x. entry_ends x (slot_count sizes.version (record_in c d)) full) (λ f x below. entry_last x f.slot below) (loaded_in c d)

  fills_last : (n d : ℕ) (m : Bool → Option above.Mark) → MarksLast (handlers sizes c (Fill n d) m)
  fills_last n d m =
      last_bind (write_blocks (blocks_between 0 (0 + length (dots sizes.version n d))) sizes 0 (dots sizes.version n d) (record_in c n)) (filled_to sizes n d c m) (writes_none (blocks_between 0 (0 + length (dots sizes.version n d))) sizes 0 (dots sizes.version n d) (record_in c n))
      (λ w. last_if (w.upto == new_directory_size_of sizes.version) (put_grown (Fill n d) above.Room m true sizes n c no_index w) (put_grown (Fill n d) (above.RoomFor 0) m false sizes n c no_index w)
      (grown_last (Fill n d) above.Room m true sizes n c no_index w) (grown_last (Fill n d) (above.RoomFor 0) m false sizes n c no_index w))

  clears_last : (n : ℕ) (e : Name) (m : above.Answer (Clear n e) → Option above.Mark) → MarksLast (handlers sizes c (Clear n e) m)
  clears_last n e m =
      last_bind (slot_of sizes.version (c n) e) (clear_slot sizes n e c m) (slot_none sizes.version (c n) e)
      (λ s. last_bind (fetch_block (record_in c n) (s.0 / dirents_per_block_of sizes.version)) (clear_in sizes n e c m s)
      (block_none (record_in c n) (s.0 / dirents_per_block_of sizes.version))
      (λ f a. inr (refl, last_bind (fetch (inode_block sizes.inodestart n)) _ (fetch_none (inode_block sizes.inodestart n)) (λ block b. inl (refl, tt)))))

  writes_last : (fd n offset : ℕ) (bytes : List ℕ) (m : Wrote → Option above.Mark) (o : Option Cause) → MarksLast (write_unless sizes fd n offset bytes m c o)
  writes_last fd n offset bytes m (Some why) = λ a. inl (refl, tt)
  writes_last fd n offset bytes m None =
      last_bind (write_part sizes n (record_in c n) offset bytes) (give_written fd n offset bytes m c) (part_none sizes n (record_in c n) offset bytes) (λ w a. inl (refl, tt))

  reads_last : (fd n offset count : ℕ) (m : List ℕ → Option above.Mark) → MarksLast (handlers sizes c (ReadFile fd n offset count) m)
  reads_last fd n offset count m =
      last_bind (read_from (record_in c n) offset count []) (give_read fd n offset count m c) (reads_none (blocks_between offset (end_of (record_in c n) offset count)) (record_in c n) offset (end_of (record_in c n) offset count) (record { count = 0; bytes = [] }))
      (λ f a. inl (refl, tt))

  frees_last : (n : ℕ) (m : Unit {0} → Option above.Mark) → MarksLast (handlers sizes c (Free n) m)
  frees_last n m = content_last sizes (record_in c n) _ (last_bind (store sizes.inodestart n _) _ (store_none sizes.inodestart n _) (λ _. record_last (Free n) m tt (inode_block sizes.inodestart n) n _ Emptied c))

  empties_last : (n : ℕ) (m : Unit {0} → Option above.Mark) → MarksLast (handlers sizes c (Empty n) m)
  empties_last n m = content_last sizes (record_in c n) _ (record_last (Empty n) m tt (inode_block sizes.inodestart n) n _ _ c)

  module _ (inode_type : InodeType) (m : ClaimResult → Option above.Mark) where
    abbrev Made : Type 0
    Made = Handover ClaimResult Carry

    -- the last block is looked through
    looks_last : (q : ℕ) (block : List ℕ) (more : P Made) → MarksNone more → MarksOne (claim_at more sizes inode_type c m 0 q (sizes.inodestart + q) block)
    looks_last q block more none (steps.Claims i) = inl (refl, λ a. (refl, tt))
    looks_last q block more none steps.NoPlace = inl (refl, λ a. (refl, tt))
    looks_last q block more none steps.NoInode = inl (refl, none)

    -- one is before others
    looks_on : (n q : ℕ) (block : List ℕ) (more : P Made) → MarksOne more → MarksOne (claim_at more sizes inode_type c m (suc n) q (sizes.inodestart + q) block)
    looks_on n q block more one (steps.Claims i) = inl (refl, λ a. (refl, tt))
    looks_on n q block more one steps.NoPlace = inl (refl, λ a. (refl, tt))
    looks_on n q block more one steps.NoInode = inr (refl, one)

    claim_one : (n q : ℕ) → MarksOne (claim_from (suc n) sizes inode_type c m q)
    unfolding claim_from
    claim_one zero q =
        one_bind (fetch (sizes.inodestart + q)) (claim_at (claim_from 0 sizes inode_type c m (q + 1)) sizes inode_type c m 0 q (sizes.inodestart + q)) (fetch_none (sizes.inodestart + q)) (λ block. looks_last q block (claim_from 0 sizes inode_type c m (q + 1)) tt)
    claim_one (suc n) q =
        one_bind (fetch (sizes.inodestart + q)) (claim_at (claim_from (suc n) sizes inode_type c m (q + 1)) sizes inode_type c m (suc n) q (sizes.inodestart + q)) (fetch_none (sizes.inodestart + q))
        (λ block. looks_on n q block (claim_from (suc n) sizes inode_type c m (q + 1)) (claim_one n (q + 1)))

    claims_one : HasInodes sizes → MarksOne (handlers sizes c (Claim inode_type) m)
    claims_one inodes =
        let some = inodes.some in
        let is : suc (inode_blocks sizes.ninodes - 1) ≡ inode_blocks sizes.ninodes = omega (arith, some) in
        subst (λ (k : ℕ). MarksOne (claim_from k sizes inode_type c m 0)) is (claim_one (inode_blocks sizes.ninodes - 1) 0)

-- ---- all of them

pub first_or_last : OperationsActFirstOrLast
first_or_last sizes inodes c (Take n looking) m = λ content. (refl, none_bind (load_unless sizes.inodestart n content) (looked sizes.version looking c n) (load_none sizes.inodestart n content) (looked_none sizes.version looking c n))
first_or_last sizes inodes c (UnlockInode n) m = λ a. inl (refl, tt)
first_or_last sizes inodes c (UpStart absolute) m = λ a. inl (refl, tt)
first_or_last sizes inodes c (Up n) m = λ a. inl (refl, tt)
first_or_last sizes inodes c (WalkDown n) m = λ a. inl (refl, tt)
first_or_last sizes inodes c (Down n) m = λ a. inl (refl, tt)
first_or_last sizes inodes c (Free n) m = frees_last sizes c n m
first_or_last sizes inodes c (Forget n) m = λ a. inl (refl, tt)
first_or_last sizes inodes c (Claim inode_type) m = claims_one sizes c inode_type m inodes
first_or_last sizes inodes c (Store n count) m = record_last (Store n count) m tt (inode_block sizes.inodestart n) n _ _ c
first_or_last sizes inodes c (Fill n d) m = fills_last sizes c n d m
first_or_last sizes inodes c (Enter d e n) m = enters_last sizes c d e n m
first_or_last sizes inodes c (Clear n e) m = clears_last sizes c n e m
first_or_last sizes inodes c (Empty n) m = empties_last sizes c n m
first_or_last sizes inodes c Slot m = λ a. inl (refl, tt)
first_or_last sizes inodes c (Install f inode_type) m = λ a. inl (refl, tt)
first_or_last sizes inodes c (StatFile fd) m = λ a. (refl, stat_none sizes c a)
first_or_last sizes inodes c (LockFile fd) m = λ a. (refl, file_none sizes fd c a)
first_or_last sizes inodes c (ReadFile fd n offset count) m = reads_last sizes c fd n offset count m
first_or_last sizes inodes c (LockOpen fd n) m = λ a. (refl, none_bind (load_unless sizes.inodestart a.0.number a.1) _ (load_none sizes.inodestart a.0.number a.1) (λ d. tt))
first_or_last sizes inodes c (CheckFile fd) m = λ a. inl (refl, tt)
first_or_last sizes inodes c (JoinFile fd) m = λ a. inl (refl, tt)
first_or_last sizes inodes c (WriteFile fd n offset bytes) m = writes_last sizes c fd n offset bytes m (refused_in (record_in c n) offset bytes)
first_or_last sizes inodes c (Double fd) m = λ a. inl (refl, tt)
first_or_last sizes inodes c (Shut fd) m = λ a. inl (refl, tt)
first_or_last sizes inodes c (SetDirectory n) m = λ a. inl (refl, tt)
first_or_last sizes inodes c (Lend child from) m = λ a. inl (refl, tt)
first_or_last sizes inodes c (LendDirectory child) m = λ a. inl (refl, tt)
first_or_last sizes inodes c (Release child) m = λ a. inl (refl, tt)
first_or_last sizes inodes c Join m = λ a. inl (refl, tt)
first_or_last sizes inodes c Leave m = λ a. (refl, none_bind (after_leave a) _ (leave_none a) (λ _. tt))
first_or_last sizes inodes c Say m = λ a. inl (refl, tt)
