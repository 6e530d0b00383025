-- No operation on whole inodes stops the world, and it leaves alone what its mark changes. And each has some answer.
use Rattle.run_laws.proofs.Vocabulary.{◌≢◌, ◌⊎◌, inl, inr, ◌+◌, ◌-◌, length, take, ◌≡◌, ℕ, ◌==◌, Bool, true, false, nat_lt, if◌then◌else◌, List, [], Option, Some, None, refl, sym, ◌∙◌, ap, Cause, OpenFile, has_room, node_or, write_kind, Name, Tree, put, put_is, Walk, ExecResult, Waits, Ran, Stops, changed_record, claim_if, claimed, close_at, close_if, counted_down, counted_up, double_at, double_if, down_if, enter_if, entry_of, exec, file_count, fill_if, first_from, has_place, install_if, is_empty_slot, is_full_directory, is_last, join_at, lend_if, lend_last, lock_at, lock_if, locked, moved_in, next_used, offset_of, place_count, read_at, read_refused, referenced, slot_at, slot_if, start_if, start_number, stat_at, unlocked, up_if, walk_down_if, with_bytes, with_found, with_lent, with_offset, with_refs, write_at, write_if, write_refused, wrote_in, InodeType, face_of, face_or, seen_in, go, with_mark, Answer, ClaimResult, Entry, Mine, InPlace, Joined, LocksIt, Mark, Moved, New, NoPlace, Picks, Room, RoomFor, Whole, Take, UnlockInode, UpStart, Up, WalkDown, Down, Free, Forget, Claim, Store, Fill, Enter, Clear, Empty, Slot, Install, StatFile, LockFile, ReadFile, CheckFile, JoinFile, LockOpen, WriteFile, Double, Shut, SetDirectory, Lend, LendDirectory, Release, Join, Leave, Say, Version}
use Rattle.inode_machine.specs.Exec.{enter_in, write_in}
use Rattle.inode_machine.specs.Exec.{part_of}
use Rattle.inode_machine.specs.World.{NoInode, Op, Outside, World}

pub some_answer : (op : Op) → Answer op
some_answer (Take n looking) = record { face = None; found = None; empty = true }
some_answer (UnlockInode n) = tt
some_answer (UpStart absolute) = None
some_answer (Up n) = true
some_answer (WalkDown n) = true
some_answer (Down n) = true
some_answer (Free n) = tt
some_answer (Forget n) = tt
some_answer (Claim inode_type) = NoInode
some_answer (Store n count) = tt
some_answer (Fill n d) = true
some_answer (Enter d e n) = InPlace
some_answer (Clear n e) = tt
some_answer (Empty n) = tt
some_answer Slot = true
some_answer (Install f inode_type) = None
some_answer (StatFile fd) = None
some_answer (LockFile fd) = LocksIt 0 0
some_answer (ReadFile fd n offset count) = []
some_answer (CheckFile fd) = None
some_answer (JoinFile fd) = Joined 0
some_answer (LockOpen fd n) = (0, 0)
some_answer (WriteFile fd n offset bytes) = Whole
some_answer (Double fd) = None
some_answer (Shut fd) = None
some_answer (SetDirectory n) = 0
some_answer (Lend child from) = Moved 0
some_answer (LendDirectory child) = 0
some_answer (Release child) = tt
some_answer Join = tt
some_answer Leave = tt
some_answer Say = tt

-- no inode is claimed by it
pub none_claimed : (inode_type : InodeType) (n : ℕ) → New n ≢ some_answer (Claim inode_type)
unfolding some_answer
none_claimed inode_type n e = let z : New n ≡ NoInode = e in cc

-- ---- what stays

-- what an operation leaves to its mark
pub record Kept : Type 0 where
  pub clean : Bool
  pub all : Tree
  pub next : ℕ
  pub walk : Option Walk

abbrev pub kept_of : ℕ → World → Kept
kept_of h w = record { clean = w.clean; all = w.all; next = w.next; walk = (w.harts h).walk }

-- an operation of hart h that ran left it, and none stops
abbrev pub Goes : {A : Type 0} → ℕ → World → ExecResult A World → Type 0
Goes h w Waits = Unit {0}
Goes h w (Ran a u) = kept_of h u ≡ kept_of h w
Goes h w (Stops u) = ⊥

refs_walk : (harts : ℕ → Mine) (g n r h : ℕ) → (with_refs harts g n r h).walk ≡ (harts h).walk
refs_walk harts g n r h = at (put_is harts g new h)
  where
    new : Mine
    new = record { refs = put (harts g).refs n r; walk = (harts g).walk; pending = (harts g).pending }

    at : ((h ≡ g) × (put harts g new h ≡ new)) ⊎ ((h ≢ g) × (put harts g new h ≡ harts h)) → (put harts g new h).walk ≡ (harts h).walk
    at (inl p) = ap (λ (m : Mine). m.walk) p.1 ∙ ap (λ (z : ℕ). (harts z).walk) (sym p.0)
    at (inr p) = ap (λ (m : Mine). m.walk) p.1

found_walk : (harts : ℕ → Mine) (g n r h : ℕ) → (with_found harts g n r h).walk ≡ (harts h).walk
found_walk harts g n r h = at (put_is harts g new h)
  where
    new : Mine
    new = record { refs = put (harts g).refs n r; walk = (harts g).walk; pending = None }

    at : ((h ≡ g) × (put harts g new h ≡ new)) ⊎ ((h ≢ g) × (put harts g new h ≡ harts h)) → (put harts g new h).walk ≡ (harts h).walk
    at (inl p) = ap (λ (m : Mine). m.walk) p.1 ∙ ap (λ (z : ℕ). (harts z).walk) (sym p.0)
    at (inr p) = ap (λ (m : Mine). m.walk) p.1

refs_kept : (h : ℕ) (w : World) (harts : ℕ → Mine) (g n r : ℕ) → ◌≡◌ {A = Kept} (record { clean = w.clean; all = w.all; next = w.next; walk = (with_refs harts g n r h).walk }) (record { clean = w.clean; all = w.all; next = w.next; walk = (harts h).walk })
refs_kept h w harts g n r = λ i. record { clean = w.clean; all = w.all; next = w.next; walk = refs_walk harts g n r h i }

up_kept : (h n : ℕ) (w : World) → kept_of h (counted_up h n w) ≡ kept_of h w
up_kept h n w = λ i. record { clean = w.clean; all = w.all; next = w.next; walk = found_walk w.harts h n ((w.harts h).refs n + 1) h i }

down_kept : (h n : ℕ) (w : World) → kept_of h (counted_down h n w) ≡ kept_of h w
down_kept h n w = refs_kept h w w.harts h n ((w.harts h).refs n - 1)

unlocked_kept : (h n : ℕ) (w : World) (b : Bool) → kept_of h (unlocked n w b) ≡ kept_of h w
unlocked_kept h n w true = refl
unlocked_kept h n w false = refl

offset_kept : (h : ℕ) (w : World) (s : Option ℕ) (e : Entry) (by : ℕ) → kept_of h (with_offset w s e by) ≡ kept_of h w
offset_kept h w None e by = refl
offset_kept h w (Some s) e by = refl

wrote_kept : (h : ℕ) (w : World) (s : Option ℕ) (e : Entry) (n : ℕ) (b : List ℕ) → kept_of h (wrote_in w s e n b) ≡ kept_of h w
wrote_kept h w s e n b =
    let u : World = changed_record w n (with_bytes e.file.offset b) in
    offset_kept h (unlocked n u (w.alone n)) s e (length b) ∙ unlocked_kept h n u (w.alone n)

moved_kept : (h child : ℕ) (w : World) → kept_of h (moved_in w h child) ≡ kept_of h w
moved_kept h child w =
    let new : ℕ = (w.desks h).directory in
    let old : ℕ = (w.desks child).directory in
    let raised : ℕ → Mine = with_refs w.harts child new ((w.harts child).refs new + 1) in
    let dropped : ℕ → Mine = with_refs raised child old ((raised child).refs old - 1) in
    refs_kept h w dropped h old ((w.harts h).refs old + 1) ∙ refs_kept h w raised child old ((raised child).refs old - 1) ∙ refs_kept h w w.harts child new ((w.harts child).refs new + 1)

lent_kept : (h child : ℕ) (w : World) (o : Option ℕ) → kept_of h (lend_last w h child o) ≡ kept_of h w
lent_kept h child w None = refl
lent_kept h child w (Some j) = refl

lock_on : {A : Type 0} (h n : ℕ) (a : A) (w u : World) → kept_of h u ≡ kept_of h w → (o : Option ℕ) → Goes h w (lock_if h n a w u o)
lock_on h n a w u same None = same
lock_on h n a w u same (Some g) = tt

start_on : (h n : ℕ) (w : World) (b : Bool) → Goes h w (start_if h n w b)
start_on h n w true = up_kept h n w
start_on h n w false = refl

up_on : (h n : ℕ) (w : World) (b : Bool) → Goes h w (up_if h n w b)
up_on h n w true = up_kept h n w
up_on h n w false = refl

walk_down_on : (h n : ℕ) (w : World) (b : Bool) → Goes h w (walk_down_if h n w b)
walk_down_on h n w true = refl
walk_down_on h n w false = down_kept h n w

down_on : (h n : ℕ) (w : World) (b : Bool) → Goes h w (down_if h n w b)
down_on h n w true = refl
down_on h n w false = down_kept h n w

picks_on : (h n : ℕ) (inode_type : InodeType) (w : World) (b : Bool) → Goes {A = ClaimResult} h w (if b then Ran (New n) (claimed h inode_type w n) else Ran NoPlace w)
picks_on h n inode_type w true = refs_kept h w w.harts h n ((w.harts h).refs n + 1)
picks_on h n inode_type w false = refl

claim_on : (h : ℕ) (inode_type : InodeType) (w : World) (x : Outside) → Goes h w (claim_if h inode_type w x)
claim_on h inode_type w (Picks n) = picks_on h n inode_type w (nat_lt (referenced w) place_count)
claim_on h inode_type w Room = refl
claim_on h inode_type w (RoomFor k) = refl

fill_on : (h n d : ℕ) (w : World) (x : Outside) → Goes h w (fill_if n d w x)
fill_on h n d w Room = refl
fill_on h n d w (RoomFor k) = refl
fill_on h n d w (Picks k) = refl

enter_in_on : (h d : ℕ) (e : Name) (n : ℕ) (w : World) (x : Outside) → Goes h w (enter_in d e n w x)
enter_in_on h d e n w Room = refl
enter_in_on h d e n w (RoomFor k) = refl
enter_in_on h d e n w (Picks k) = refl

enter_on : (h d : ℕ) (e : Name) (n : ℕ) (w : World) (x : Outside) (b : Bool) → Goes h w (enter_if d e n w x b)
enter_on h d e n w x true = refl
enter_on h d e n w x false = enter_in_on h d e n w x

slot_on : (h : ℕ) (w : World) (o : Option ℕ) → Goes h w (slot_if h w o)
slot_on h w None = refl
slot_on h w (Some s) = refl

install_on : (h : ℕ) (w : World) (f : OpenFile) (inode_type : InodeType) (o : Option ℕ) (b : Bool) → Goes h w (install_if h w f inode_type o b)
install_on h w f inode_type None b = refl
install_on h w f inode_type (Some s) false = refl
install_on h w f inode_type (Some s) true = refs_kept h w w.harts h f.number ((w.harts h).refs f.number - 1)

stat_on : (version : Version) (h : ℕ) (w : World) (o : Option Entry) → Goes h w (stat_at version h w o)
stat_on version h w None = refl
stat_on version h w (Some e) =
    lock_on h e.file.number (Some (e.file.number, face_or (face_of version (w.disk e.file.number)))) w (locked h e.file.number w) refl (w.lock e.file.number)

file_on : (h : ℕ) (w : World) (o : Option Entry) (c : Option Cause) → Goes h w (lock_at h w o c)
file_on h w o (Some c) = refl
file_on h w None None = refl
file_on h w (Some e) None = lock_on h e.file.number (LocksIt e.file.number e.file.offset) w (locked h e.file.number w) refl (w.lock e.file.number)

read_on : (version : Version) (h : ℕ) (w : World) (n count : ℕ) (s : Option ℕ) (o : Option Entry) → Goes h w (read_at version w n count s o)
read_on version h w n count s None = unlocked_kept h n w (w.alone n)
read_on version h w n count s (Some e) =
    offset_kept h (unlocked n w (w.alone n)) s e (length (part_of version (w.disk n) e.file.offset count)) ∙ unlocked_kept h n w (w.alone n)

join_on : (h : ℕ) (w : World) (o : Option Entry) (c : Option Cause) → Goes h w (join_at h w o c)
join_on h w o (Some c) = refl
join_on h w None None = refl
join_on h w (Some e) None = refl

write_in_on : (h : ℕ) (w : World) (s : Option ℕ) (e : Entry) (n : ℕ) (b : List ℕ) (x : Outside) → Goes h w (write_in w s e n b x)
write_in_on h w s e n b Room = wrote_kept h w s e n b
write_in_on h w s e n b (RoomFor k) = wrote_kept h w s e n (take k b)
write_in_on h w s e n b (Picks k) = wrote_kept h w s e n []

write_if_on : (h : ℕ) (w : World) (s : Option ℕ) (e : Entry) (n : ℕ) (b : List ℕ) (x : Outside) (c : Option Cause) → Goes h w (write_if w s e n b x c)
write_if_on h w s e n b x (Some c) = unlocked_kept h n w (w.alone n)
write_if_on h w s e n b x None = write_in_on h w s e n b x

write_on : (version : Version) (h : ℕ) (w : World) (s : Option ℕ) (n : ℕ) (b : List ℕ) (x : Outside) (o : Option Entry) → Goes h w (write_at version w s n b x o)
write_on version h w s n b x None = unlocked_kept h n w (w.alone n)
write_on version h w s n b x (Some e) = write_if_on h w s e n b x (write_kind version (node_or (w.disk n)).kind e.file.offset b)

double_if_on : (h : ℕ) (w : World) (s : ℕ) (e : Entry) (b : Bool) → Goes h w (double_if h w s e b)
double_if_on h w s e true = refl
double_if_on h w s e false = refl

double_on : (h : ℕ) (w : World) (s : Option ℕ) (o : Option Entry) → Goes h w (double_at h w s o)
double_on h w None o = refl
double_on h w (Some s) None = refl
double_on h w (Some s) (Some e) = double_if_on h w s e (has_room (w.desks h).fds)

close_if_on : (h : ℕ) (w : World) (fd s : ℕ) (e : Entry) (b : Bool) → Goes h w (close_if h w fd s e b)
close_if_on h w fd s e true = refs_kept h w w.harts h e.file.number ((w.harts h).refs e.file.number + 1)
close_if_on h w fd s e false = refl

close_on : (h : ℕ) (w : World) (fd : ℕ) (s : Option ℕ) (o : Option Entry) → Goes h w (close_at h w fd s o)
close_on h w fd None o = refl
close_on h w fd (Some s) None = refl
close_on h w fd (Some s) (Some e) = close_if_on h w fd s e (e.references == 1)

lend_on : (h : ℕ) (w : World) (child : ℕ) (o : Option ℕ) → Goes h w (lend_if h w child o)
lend_on h w child None = moved_kept h child w
lend_on h w child (Some i) = lent_kept h child (with_lent w h i) (next_used (i + 1) (w.desks h).fds)

pub goes_on : (version : Version) (h : ℕ) (x : Outside) (op : Op) (w : World) → Goes h w (exec version h x op w)
goes_on version h x (Take n looking) w = lock_on h n (seen_in version n looking (w.disk n)) w (locked h n w) refl (w.lock n)
goes_on version h x (UnlockInode n) w = unlocked_kept h n w (w.alone n)
goes_on version h x (UpStart absolute) w = start_on h (start_number (w.desks h) absolute) w (has_place w (start_number (w.desks h) absolute))
goes_on version h x (Up n) w = up_on h n w (has_place w n)
goes_on version h x (WalkDown n) w = walk_down_on h n w (is_last w n)
goes_on version h x (Down n) w = down_on h n w (is_last w n)
goes_on version h x (Free n) w = refl
goes_on version h x (Forget n) w = down_kept h n w
goes_on version h x (Claim inode_type) w = claim_on h inode_type w x
goes_on version h x (Store n count) w = refl
goes_on version h x (Fill n d) w = fill_on h n d w x
goes_on version h x (Enter d e n) w = enter_on h d e n w x (is_full_directory version (w.disk d))
goes_on version h x (Clear d e) w = refl
goes_on version h x (Empty n) w = refl
goes_on version h x Slot w = slot_on h w (first_from file_count 0 (is_empty_slot w))
goes_on version h x (Install f inode_type) w = install_on h w f inode_type (w.desks h).hand (has_room (w.desks h).fds)
goes_on version h x (StatFile fd) w = stat_on version h w (entry_of w h fd)
goes_on version h x (LockFile fd) w = file_on h w (entry_of w h fd) (read_refused (entry_of w h fd))
goes_on version h x (ReadFile fd n offset count) w = read_on version h w n count (slot_at w h fd) (entry_of w h fd)
goes_on version h x (CheckFile fd) w = refl
goes_on version h x (JoinFile fd) w = join_on h w (entry_of w h fd) (write_refused (entry_of w h fd))
goes_on version h x (LockOpen fd n) w = lock_on h n (n, offset_of (entry_of w h fd)) w (locked h n w) refl (w.lock n)
goes_on version h x (WriteFile fd n offset bytes) w = write_on version h w (slot_at w h fd) n bytes x (entry_of w h fd)
goes_on version h x (Double fd) w = double_on h w (slot_at w h fd) (entry_of w h fd)
goes_on version h x (Shut fd) w = close_on h w fd (slot_at w h fd) (entry_of w h fd)
goes_on version h x (SetDirectory n) w = unlocked_kept h n w (w.alone n)
goes_on version h x (Lend child from) w = lend_on h w child (next_used from (w.desks h).fds)
goes_on version h x (LendDirectory child) w = moved_kept h child w
goes_on version h x (Release child) w = refl
goes_on version h x Join w = refl
goes_on version h x Leave w = refl
goes_on version h x Say w = refl

pub never_stops : (version : Version) (h : ℕ) (x : Outside) (op : Op) (m : Answer op → Option Mark) (w u : World) → go version h x op m w ≡ Stops u → ⊥
never_stops version h x op m w u is = at (exec version h x op w) (goes_on version h x op w) is
  where
    at : (d : ExecResult (Answer op) World) → Goes h w d → with_mark version h m d ≡ Stops u → ⊥
    at Waits g e = cc
    at (Ran a v) g e = cc
    at (Stops v) g e = g
