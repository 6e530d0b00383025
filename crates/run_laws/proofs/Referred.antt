-- What has no links is referred to, whatever operation is made.
use Rattle.inode_machine.proofs.Vocabulary.{◌≡◌, ◌≢◌, inl, inr, ℕ, ◌+◌, ◌-◌, ◌<◌, ◌==◌, ◌&&◌, Bool, true, false, List, [], take, length, Option, Some, None, refl, sym, ◌∙◌, ap, subst, arith, nat_lt, if◌then◌else◌, same_or, put, put_same, put_other, has_room, Node, node_or, OpenFile}
use Rattle.inode_machine.proofs.Rules.{opens_slots}
use Rattle.inode_machine.proofs.Frame.{one_refs}
use Rattle.inode_machine.specs.Vocabulary.{Cause, Name, ExecResult as Result, Ran, Stops, Waits, write_kind}
use Rattle.inode_machine.specs.Exec.{blank, counted_up, moved_in, with_bytes, with_count, with_dots, with_entry, with_no_bytes, without_entry, changed_record, claim_if, claimed, close_at, close_if, counted_down, double_at, double_if, down_if, enter_if, entry_of, file_count, fill_if, first_from, has_place, install_if, is_dead, is_empty_slot, is_full_directory, is_last, join_at, lend_if, lend_last, lock_at, lock_if, locked, next_used, offset_of, place_count, read_refused, referenced, slot_at, slot_if, start_if, start_number, unlocked, up_if, walk_down_if, with_lent, with_offset, with_record, write_if, write_in, write_refused}
use Rattle.inode_machine.specs.Inodes.{InodeType, face_or}
use Rattle.inode_machine.specs.Rules.{Inv}
use Rattle.inode_machine.specs.Rules.{May}
use Rattle.inode_machine.specs.Exec.{exec, part_of, read_at, stat_at, write_at}
use Rattle.inode_machine.specs.Inodes.{face_of, seen_in}
use Rattle.inode_machine.specs.Marks.{go, marked, with_mark}
use Rattle.inode_machine.specs.World.{Answer, Entry, LocksIt, Mark, New, NoPlace, Op, Outside, Picks, Room, RoomFor, World}
use Rattle.inode_machine.specs.World.Mark.{Fills, Frees, Makes, Mends, Orphans, Spoils}
use Rattle.inode_machine.specs.World.Op.{CheckFile, Claim, Clear, Double, Down, Empty, Enter, Fill, Forget, Free, Install, Join, JoinFile, Leave, Lend, LendDirectory, LockFile, LockOpen, ReadFile, Release, Say, SetDirectory, Shut, Slot, StatFile, Store, Take, UnlockInode, Up, UpStart, WalkDown, WriteFile}
use Rattle.image_versions.specs.declared.version.Version.{Version}

-- each inode that has a record without links is referred to
abbrev pub DeadAreReferredTo : World → Type 0
DeadAreReferredTo w = (n : ℕ) → is_dead (w.disk n) ≡ true → 0 < w.refs n

-- ---- what is looked at

pub record Counts : Type 0 where
  pub disk : ℕ → Option Node
  pub refs : ℕ → ℕ

abbrev counts_of : World → Counts
counts_of w = record { disk = w.disk; refs = w.refs }

stays : (w u : World) → counts_of u ≡ counts_of w → DeadAreReferredTo w → DeadAreReferredTo u
stays w u same dead = subst (λ (c : Counts). (n : ℕ) → is_dead (c.disk n) ≡ true → 0 < c.refs n) (sym same) dead

-- one reference more
raised : (w u : World) (n : ℕ) → u.disk ≡ w.disk → u.refs ≡ put w.refs n (w.refs n + 1) → DeadAreReferredTo w → DeadAreReferredTo u
raised w u n disk refs dead i is = elim (same_or i n) [
  | inl e ↦ (
      let new : ℕ → ℕ = put w.refs n (w.refs n + 1) in
      let a : u.refs i ≡ w.refs n + 1 = ap (λ (f : ℕ → ℕ). f i) refs ∙ ap new e ∙ put_same w.refs n (w.refs n + 1) in
      omega (arith, a)
      )
  | inr ne ↦ (
      let a : u.refs i ≡ w.refs i = ap (λ (f : ℕ → ℕ). f i) refs ∙ put_other w.refs n (w.refs n + 1) i ne in
      let b = dead i (ap (λ (f : ℕ → Option Node). is_dead (f i)) (sym disk) ∙ is) in
      omega (arith, a, b)
      )
]

-- one less, of several or to what has links
lowered : (h n : ℕ) (w : World) → (is_dead (w.disk n) ≡ true → 1 < w.refs n) → DeadAreReferredTo w → DeadAreReferredTo (counted_down h n w)
lowered h n w several dead i is = elim (same_or i n) [
  | inl e ↦ (
      let a : put w.refs n (w.refs n - 1) i ≡ w.refs n - 1 = ap (put w.refs n (w.refs n - 1)) e ∙ put_same w.refs n (w.refs n - 1) in
      let b = several (ap (λ (k : ℕ). is_dead (w.disk k)) (sym e) ∙ is) in
      omega (arith, a, b)
      )
  | inr ne ↦ (let a = put_other w.refs n (w.refs n - 1) i ne in let b = dead i is in omega (arith, a, b))
]

not_last : (w : World) (n : ℕ) → DeadAreReferredTo w → is_last w n ≡ false → is_dead (w.disk n) ≡ true → 1 < w.refs n
not_last w n dead last is = elim (same_or (w.refs n) 1) [
  | inl one ↦ absurd (
      let yes : is_last w n ≡ true = (λ i. ap (λ (k : ℕ). k == 1) one i && is i) in
      let no : true ≡ false = sym yes ∙ last in
      cc)
  | inr ne ↦ (let a = dead n is in omega (arith, a, ne))
]

-- an inode's record changes, to which there are references
changed : (w u : World) (n : ℕ) → 0 < w.refs n → ((i : ℕ) → i ≢ n → u.disk i ≡ w.disk i) → u.refs ≡ w.refs → DeadAreReferredTo w
    → DeadAreReferredTo u
changed w u n some others refs dead i is = elim (same_or i n) [
  | inl e ↦ (let a : u.refs i ≡ w.refs n = ap (λ (f : ℕ → ℕ). f i) refs ∙ ap w.refs e in omega (arith, a, some))
  | inr ne ↦ (
      let a : u.refs i ≡ w.refs i = ap (λ (f : ℕ → ℕ). f i) refs in
      let b = dead i (ap (λ (o : Option Node). is_dead o) (sym (others i ne)) ∙ is) in
      omega (arith, a, b)
      )
]

-- who has a lock has a reference
locked_refs : (w : World) (h n : ℕ) → Inv w → w.lock n ≡ Some h → 0 < w.refs n
locked_refs w h n inv has =
    let k = inv.kept n h (inv.keeps n h has) in
    let o = one_refs w h n inv k.0 in
    elim k.1 [
      | inl a ↦ (let s = opens_slots w h n inv a in omega (arith, o, s))
      | inr a ↦ omega (arith, o, a)
    ]

with_other : (w : World) (n : ℕ) (f : Node → Node) → 0 < w.refs n → DeadAreReferredTo w → DeadAreReferredTo (changed_record w n f)
with_other w n f some = changed w (changed_record w n f) n some (λ i ne. put_other w.disk n (Some (f (node_or (w.disk n)))) i ne) refl

freed : (w : World) (n : ℕ) → DeadAreReferredTo w → DeadAreReferredTo (with_record w n None)
freed w n dead i is = elim (same_or i n) [
  | inl e ↦ absurd (
      let a : is_dead (put w.disk n None i) ≡ false =
      ap (λ (k : ℕ). is_dead (put w.disk n None k)) e ∙ ap (λ (o : Option Node). is_dead o) (put_same w.disk n None) in
      let no : true ≡ false = sym is ∙ a in
      cc)
  | inr ne ↦ dead i (ap (λ (o : Option Node). is_dead o) (sym (put_other w.disk n None i ne)) ∙ is)
]

-- ---- marks leave all that

marked_same : (version : Version) (h : ℕ) (m : Option Mark) (w : World) → counts_of (marked version h m w) ≡ counts_of w
marked_same version h None w = refl
marked_same version h (Some (Makes v)) w = refl
marked_same version h (Some (Frees n)) w = refl
marked_same version h (Some (Orphans n)) w = refl
marked_same version h (Some Fills) w = refl
marked_same version h (Some Mends) w = refl
marked_same version h (Some (Spoils s)) w = refl

-- ---- operations

abbrev Goes : {A : Type 0} → World → Result A World → Type 0
Goes w Waits = Unit {0}
Goes w (Ran a u) = DeadAreReferredTo w → DeadAreReferredTo u
Goes w (Stops u) = Unit {0}

unlocked_same : (n : ℕ) (w : World) (b : Bool) → counts_of (unlocked n w b) ≡ counts_of w
unlocked_same n w true = refl
unlocked_same n w false = refl

offset_same : (w : World) (s : Option ℕ) (e : Entry) (by : ℕ) → counts_of (with_offset w s e by) ≡ counts_of w
offset_same w None e by = refl
offset_same w (Some s) e by = refl

unlocked_stays : (n : ℕ) (w : World) (b : Bool) → DeadAreReferredTo w → DeadAreReferredTo (unlocked n w b)
unlocked_stays n w b = stays w (unlocked n w b) (unlocked_same n w b)

lock_goes : {A : Type 0} (h n : ℕ) (a : A) (w : World) (o : Option ℕ) → Goes w (lock_if h n a w (locked h n w) o)
lock_goes h n a w None = λ dead. dead
lock_goes h n a w (Some g) = tt

start_goes : (h n : ℕ) (w : World) (b : Bool) → Goes w (start_if h n w b)
start_goes h n w true = raised w (counted_up h n w) n refl refl
start_goes h n w false = λ dead. dead

up_goes : (h n : ℕ) (w : World) (b : Bool) → Goes w (up_if h n w b)
up_goes h n w true = raised w (counted_up h n w) n refl refl
up_goes h n w false = λ dead. dead

walk_down_goes : (h n : ℕ) (w : World) (b : Bool) → is_last w n ≡ b → Goes w (walk_down_if h n w b)
walk_down_goes h n w true is = λ dead. dead
walk_down_goes h n w false is = λ dead. lowered h n w (not_last w n dead is) dead

down_goes : (h n : ℕ) (w : World) (b : Bool) → is_last w n ≡ b → Goes w (down_if h n w b)
down_goes h n w true is = λ dead. dead
down_goes h n w false is = λ dead. lowered h n w (not_last w n dead is) dead

claim_stays : (h : ℕ) (inode_type : InodeType) (w : World) (n : ℕ) → DeadAreReferredTo w → DeadAreReferredTo (claimed h inode_type w n)
claim_stays h inode_type w n dead i is = elim (same_or i n) [
  | inl e ↦ (
      let new : ℕ → ℕ = put w.refs n (w.refs n + 1) in
      let a : new i ≡ w.refs n + 1 = ap new e ∙ put_same w.refs n (w.refs n + 1) in
      omega (arith, a)
      )
  | inr ne ↦ (
      let a = put_other w.refs n (w.refs n + 1) i ne in
      let b = dead i (ap (λ (o : Option Node). is_dead o) (sym (put_other w.disk n (Some (blank inode_type)) i ne)) ∙ is) in
      omega (arith, a, b)
      )
]

claim_goes : (h : ℕ) (inode_type : InodeType) (w : World) (x : Outside) → Goes w (claim_if h inode_type w x)
claim_goes h inode_type w (Picks n) = by (nat_lt (referenced w) place_count)
  where
    by : (b : Bool) → Goes w (if b then Ran (New n) (claimed h inode_type w n) else Ran NoPlace w)
    by true = claim_stays h inode_type w n
    by false = λ dead. dead
claim_goes h inode_type w Room = λ dead. dead
claim_goes h inode_type w (RoomFor k) = λ dead. dead

fill_goes : (n d : ℕ) (w : World) (x : Outside) → 0 < w.refs n → Goes w (fill_if n d w x)
fill_goes n d w Room some = with_other w n (with_dots n d) some
fill_goes n d w (RoomFor k) some = λ dead. dead
fill_goes n d w (Picks k) some = λ dead. dead

enter_goes : (d : ℕ) (e : Name) (n : ℕ) (w : World) (x : Outside) (b : Bool) → 0 < w.refs d → Goes w (enter_if d e n w x b)
enter_goes d e n w x true some = λ dead. dead
enter_goes d e n w Room false some = with_other w d (with_entry e n) some
enter_goes d e n w (RoomFor k) false some = λ dead. dead
enter_goes d e n w (Picks k) false some = λ dead. dead

slot_goes : (h : ℕ) (w : World) (o : Option ℕ) → Goes w (slot_if h w o)
slot_goes h w None = λ dead. dead
slot_goes h w (Some s) = λ dead. dead

install_goes : (h : ℕ) (w : World) (f : OpenFile) (inode_type : InodeType) (o : Option ℕ) (b : Bool)
    → Goes w (install_if h w f inode_type o b)
install_goes h w f inode_type None b = λ dead. dead
install_goes h w f inode_type (Some s) false = λ dead. dead
install_goes h w f inode_type (Some s) true = λ dead. dead

stat_goes : (version : Version) (h : ℕ) (w : World) (o : Option Entry) → Goes w (stat_at version h w o)
stat_goes version h w None = λ dead. dead
stat_goes version h w (Some e) = lock_goes h e.file.number (Some (e.file.number, face_or (face_of version (w.disk e.file.number)))) w (w.lock e.file.number)

file_goes : (h : ℕ) (w : World) (o : Option Entry) (c : Option Cause) → Goes w (lock_at h w o c)
file_goes h w o (Some c) = λ dead. dead
file_goes h w None None = λ dead. dead
file_goes h w (Some e) None = lock_goes h e.file.number (LocksIt e.file.number e.file.offset) w (w.lock e.file.number)

read_goes : (version : Version) (w : World) (n count : ℕ) (s : Option ℕ) (o : Option Entry) → Goes w (read_at version w n count s o)
read_goes version w n count s None = unlocked_stays n w (w.alone n)
read_goes version w n count s (Some e) =
    let v : World = unlocked n w (w.alone n) in
    let by : ℕ = length (part_of version (w.disk n) e.file.offset count) in
    stays w (with_offset v s e by) (offset_same v s e by ∙ unlocked_same n w (w.alone n))

join_goes : (h : ℕ) (w : World) (o : Option Entry) (c : Option Cause) → Goes w (join_at h w o c)
join_goes h w o (Some c) = λ dead. dead
join_goes h w None None = λ dead. dead
join_goes h w (Some e) None = λ dead. dead

wrote : (w : World) (s : Option ℕ) (e : Entry) (n : ℕ) (f : Node → Node) (by : ℕ) → 0 < w.refs n → DeadAreReferredTo w
    → DeadAreReferredTo (with_offset (unlocked n (changed_record w n f) (w.alone n)) s e by)
wrote w s e n f by some dead =
    let u : World = changed_record w n f in
    let v : World = unlocked n u (w.alone n) in
    stays u (with_offset v s e by) (offset_same v s e by ∙ unlocked_same n u (w.alone n)) (with_other w n f some dead)

write_in_goes : (w : World) (s : Option ℕ) (e : Entry) (n : ℕ) (bytes : List ℕ) (x : Outside) → 0 < w.refs n
    → Goes w (write_in w s e n bytes x)
write_in_goes w s e n bytes Room some = wrote w s e n (with_bytes e.file.offset bytes) (length bytes) some
write_in_goes w s e n bytes (RoomFor k) some = wrote w s e n (with_bytes e.file.offset (take k bytes)) (length (take k bytes)) some
write_in_goes w s e n bytes (Picks k) some = wrote w s e n (with_bytes e.file.offset []) 0 some

write_if_goes : (w : World) (s : Option ℕ) (e : Entry) (n : ℕ) (bytes : List ℕ) (x : Outside) (c : Option Cause) → 0 < w.refs n
    → Goes w (write_if w s e n bytes x c)
write_if_goes w s e n bytes x (Some c) some = unlocked_stays n w (w.alone n)
write_if_goes w s e n bytes x None some = write_in_goes w s e n bytes x some

write_goes : (version : Version) (w : World) (s : Option ℕ) (n : ℕ) (bytes : List ℕ) (x : Outside) (o : Option Entry) → 0 < w.refs n
    → Goes w (write_at version w s n bytes x o)
write_goes version w s n bytes x None some = unlocked_stays n w (w.alone n)
write_goes version w s n bytes x (Some e) some = write_if_goes w s e n bytes x (write_kind version (node_or (w.disk n)).kind e.file.offset bytes) some

double_if_goes : (h : ℕ) (w : World) (s : ℕ) (e : Entry) (b : Bool) → Goes w (double_if h w s e b)
double_if_goes h w s e true = λ dead. dead
double_if_goes h w s e false = λ dead. dead

double_goes : (h : ℕ) (w : World) (s : Option ℕ) (o : Option Entry) → Goes w (double_at h w s o)
double_goes h w None o = λ dead. dead
double_goes h w (Some s) None = λ dead. dead
double_goes h w (Some s) (Some e) = double_if_goes h w s e (has_room (w.desks h).fds)

close_if_goes : (h fd : ℕ) (w : World) (s : ℕ) (e : Entry) (b : Bool) → Goes w (close_if h w fd s e b)
close_if_goes h fd w s e true = λ dead. dead
close_if_goes h fd w s e false = λ dead. dead

close_goes : (h fd : ℕ) (w : World) (s : Option ℕ) (o : Option Entry) → Goes w (close_at h w fd s o)
close_goes h fd w None o = λ dead. dead
close_goes h fd w (Some s) None = λ dead. dead
close_goes h fd w (Some s) (Some e) = close_if_goes h fd w s e (e.references == 1)

lent_stays : (w : World) (h child i : ℕ) (o : Option ℕ) → DeadAreReferredTo w → DeadAreReferredTo (lend_last (with_lent w h i) h child o)
lent_stays w h child i None dead = dead
lent_stays w h child i (Some j) dead = dead

lend_goes : (h child : ℕ) (w : World) (o : Option ℕ) → Goes w (lend_if h w child o)
lend_goes h child w None = raised w (moved_in w h child) (w.desks h).directory refl refl
lend_goes h child w (Some i) = lent_stays w h child i (next_used (i + 1) (w.desks h).fds)

exec_goes : (version : Version) (h : ℕ) (x : Outside) (op : Op) (w : World) → Inv w → May version h op w → Goes w (exec version h x op w)
exec_goes version h x (Take n looking) w inv may = lock_goes h n (seen_in version n looking (w.disk n)) w (w.lock n)
exec_goes version h x (UnlockInode n) w inv may = unlocked_stays n w (w.alone n)
exec_goes version h x (UpStart absolute) w inv may =
    start_goes h (start_number (w.desks h) absolute) w (has_place w (start_number (w.desks h) absolute))
exec_goes version h x (Up n) w inv may = up_goes h n w (has_place w n)
exec_goes version h x (WalkDown n) w inv may = walk_down_goes h n w (is_last w n) refl
exec_goes version h x (Down n) w inv may = down_goes h n w (is_last w n) refl
exec_goes version h x (Free n) w inv may = freed w n
exec_goes version h x (Forget n) w inv may = lowered h n w (λ is. absurd (
    let a : is_dead (w.disk n) ≡ false = ap (λ (o : Option Node). is_dead o) may.1.2.1 in
    let no : true ≡ false = sym is ∙ a in
    cc))
exec_goes version h x (Claim inode_type) w inv may = claim_goes h inode_type w x
exec_goes version h x (Store n count) w inv may = with_other w n (with_count count) (locked_refs w h n inv may.1.0.0)
exec_goes version h x (Fill n d) w inv may = fill_goes n d w x (locked_refs w h n inv may.1.0.0)
exec_goes version h x (Enter d e n) w inv may = enter_goes d e n w x (is_full_directory version (w.disk d)) (locked_refs w h d inv may.1.0.0)
exec_goes version h x (Clear d e) w inv may = with_other w d (without_entry e) (locked_refs w h d inv may.1.0.0)
exec_goes version h x (Empty n) w inv may = with_other w n with_no_bytes (locked_refs w h n inv may.1.0.0)
exec_goes version h x Slot w inv may = slot_goes h w (first_from file_count 0 (is_empty_slot w))
exec_goes version h x (Install f inode_type) w inv may = install_goes h w f inode_type (w.desks h).hand (has_room (w.desks h).fds)
exec_goes version h x (StatFile fd) w inv may = stat_goes version h w (entry_of w h fd)
exec_goes version h x (LockFile fd) w inv may = file_goes h w (entry_of w h fd) (read_refused (entry_of w h fd))
exec_goes version h x (ReadFile fd n offset count) w inv may = read_goes version w n count (slot_at w h fd) (entry_of w h fd)
exec_goes version h x (CheckFile fd) w inv may = λ dead. dead
exec_goes version h x (JoinFile fd) w inv may = join_goes h w (entry_of w h fd) (write_refused (entry_of w h fd))
exec_goes version h x (LockOpen fd n) w inv may = lock_goes h n (n, offset_of (entry_of w h fd)) w (w.lock n)
exec_goes version h x (WriteFile fd n offset bytes) w inv may =
    write_goes version w (slot_at w h fd) n bytes x (entry_of w h fd) (locked_refs w h n inv may.1.0.0)
exec_goes version h x (Double fd) w inv may = double_goes h w (slot_at w h fd) (entry_of w h fd)
exec_goes version h x (Shut fd) w inv may = close_goes h fd w (slot_at w h fd) (entry_of w h fd)
exec_goes version h x (SetDirectory n) w inv may = unlocked_stays n w (w.alone n)
exec_goes version h x (Lend child from) w inv may = lend_goes h child w (next_used from (w.desks h).fds)
exec_goes version h x (LendDirectory child) w inv may = raised w (moved_in w h child) (w.desks h).directory refl refl
exec_goes version h x (Release child) w inv may = λ dead. dead
exec_goes version h x Join w inv may = λ dead. dead
exec_goes version h x Leave w inv may = λ dead. dead
exec_goes version h x Say w inv may = λ dead. dead

-- ---- with their marks

made_goes : (version : Version) {A : Type 0} (h : ℕ) (m : A → Option Mark) (w : World) (d : Result A World) → Goes w d → Goes w (with_mark version h m d)
made_goes version h m w Waits goes = tt
made_goes version h m w (Ran a u) goes = λ dead. stays u (marked version h (m a) u) (marked_same version h (m a) u) (goes dead)
made_goes version h m w (Stops u) goes = tt

-- so it is after any operation
pub dead_stay : (version : Version) (h : ℕ) (x : Outside) (op : Op) (m : Answer op → Option Mark) (w u : World) (a : Answer op) → Inv w → May version h op w
    → go version h x op m w ≡ Ran a u → DeadAreReferredTo w → DeadAreReferredTo u
dead_stay version h x op m w u a inv may ran dead =
    subst (λ (d : Result (Answer op) World). Goes w d) ran (made_goes version h m w (exec version h x op w) (exec_goes version h x op w inv may)) dead
