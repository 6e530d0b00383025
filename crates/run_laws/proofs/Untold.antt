-- An operation that reports no change leaves inodes that have a name, open files and what harts have of them.
use Rattle.run_laws.proofs.Vocabulary.{◌≡◌, ◌≢◌, ◌⊎◌, inl, inr, ℕ, ◌==◌, Bool, true, false, nat_lt, if◌then◌else◌, List, [], ◌∷◌, take, Option, Some, None, refl, sym, ◌∙◌, ap, subst, append-nil, Cause, Node, OpenFile, has_room, lowest, node_or, write_kind, Name, Tree, all_slots, first_slot, is_live, live_directory, look, put, IsWellFormed, look_live, eq_is, put_is, put_other, put_same, ran_to, ExecResult, Waits, Ran, Stops, claim_if, claimed, close_at, close_if, double_at, double_if, down_if, entry_of, enter_if, exec, file_count, fill_if, first_from, has_place, install_if, is_empty_slot, is_full_directory, is_last, join_at, lend_if, lock_at, lock_if, locked, next_used, offset_of, place_count, read_at, read_refused, referenced, released, slot_at, slot_if, start_if, start_number, stat_at, unlocked, up_if, walk_down_if, write_at, write_if, write_refused, InodeType, face_of, face_or, seen_in, type_of, go, made_by, marked, mended, new_id, spoiled, with_left, with_made, with_mark, with_noted, with_opened, Answer, ClaimResult, Desk, Entry, LocksIt, Mark, New, NoPlace, Picks, Room, RoomFor, Inv, Fills, Frees, Makes, Mends, Orphans, Spoils, CheckFile, Claim, Clear, Double, Down, Empty, Enter, Fill, Forget, Free, UnlockInode, Install, Join, JoinFile, Leave, Lend, LendDirectory, LockFile, LockOpen, ReadFile, Release, Say, SetDirectory, Shut, Slot, StatFile, Store, Take, Up, UpStart, WalkDown, WriteFile, OwnMove as Own, Change, ChangesAreTold, Claimed, Cleared, Entered, Filled, Freed, GaveBack, HasNoName, TookPlace, by_count, by_free, changed_by, Version}
use Rattle.inode_machine.specs.Exec.{with_record, write_in}
use Rattle.inode_machine.specs.Marks.{Made}
use Rattle.inode_machine.specs.World.{Op}
use Rattle.inode_machine.specs.World.{Outside, World}
use Rattle.run_laws.specs.Changes.{Emptied}
use Rattle.run_laws.specs.Changes.{Moved, Wrote}

-- ---- what is looked at

pub record Tables : Type 0 where
  pub fds : ℕ → Option ℕ
  pub hand : Option ℕ
  pub directory : ℕ

abbrev pub tables_of : Desk → Tables
tables_of d = record { fds = d.fds; hand = d.hand; directory = d.directory }

pub record Kept : Type 0 where
  pub disk : ℕ → Option Node
  pub files : ℕ → Option Entry
  pub tables : ℕ → Tables

abbrev pub kept_of : World → Kept
kept_of w = record { disk = w.disk; files = w.files; tables = λ g. tables_of (w.desks g) }

-- an operation leaves all, but an inode that it frees
record LeavesBut (w : World) (op : Op) (u : World) : Type 0 where
  inodes : (n : ℕ) → (u.disk n ≡ w.disk n) ⊎ (op ≡ Free n)
  files : (k : ℕ) → u.files k ≡ w.files k
  descriptors : (g fd : ℕ) → (u.desks g).fds fd ≡ (w.desks g).fds fd
  places : (g : ℕ) → (u.desks g).hand ≡ (w.desks g).hand
  directories : (g : ℕ) → (u.desks g).directory ≡ (w.desks g).directory

all_left : (w : World) (op : Op) (u : World) → kept_of u ≡ kept_of w → LeavesBut w op u
all_left w op u same = record {
  inodes = λ n. inl (ap (λ (k : Kept). k.disk n) same);
  files = λ k. ap (λ (z : Kept). z.files k) same;
  descriptors = λ g fd. ap (λ (k : Kept). (k.tables g).fds fd) same;
  places = λ g. ap (λ (k : Kept). (k.tables g).hand) same;
  directories = λ g. ap (λ (k : Kept). (k.tables g).directory) same;
}

-- before and after it the same again
left_between : (t w : World) (op : Op) (u v : World) → kept_of w ≡ kept_of t → LeavesBut w op u → kept_of v ≡ kept_of u → LeavesBut t op v
left_between t w op u v front left back = record {
  inodes = λ n. at n (left.inodes n);
  files = λ k. ap (λ (z : Kept). z.files k) back ∙ left.files k ∙ ap (λ (z : Kept). z.files k) front;
  descriptors = λ g fd. ap (λ (k : Kept). (k.tables g).fds fd) back ∙ left.descriptors g fd ∙ ap (λ (k : Kept). (k.tables g).fds fd) front;
  places = λ g. ap (λ (k : Kept). (k.tables g).hand) back ∙ left.places g ∙ ap (λ (k : Kept). (k.tables g).hand) front;
  directories = λ g. ap (λ (k : Kept). (k.tables g).directory) back ∙ left.directories g ∙ ap (λ (k : Kept). (k.tables g).directory) front;
}
  where
    at : (n : ℕ) → (u.disk n ≡ w.disk n) ⊎ (op ≡ Free n) → (v.disk n ≡ t.disk n) ⊎ (op ≡ Free n)
    at n (inl same) = inl (ap (λ (k : Kept). k.disk n) back ∙ same ∙ ap (λ (k : Kept). k.disk n) front)
    at n (inr frees) = inr frees

-- ---- one hart's desk

desk_put : (desks : ℕ → Desk) (h : ℕ) (d : Desk) → tables_of d ≡ tables_of (desks h) → (g : ℕ)
    → tables_of (put desks h d g) ≡ tables_of (desks g)
desk_put desks h d same g = at (put_is desks h d g)
  where
    at : ((g ≡ h) × (put desks h d g ≡ d)) ⊎ ((g ≢ h) × (put desks h d g ≡ desks g)) → tables_of (put desks h d g) ≡ tables_of (desks g)
    at (inl p) = ap (λ (z : Desk). tables_of z) p.1 ∙ same ∙ ap (λ (z : ℕ). tables_of (desks z)) (sym p.0)
    at (inr p) = ap (λ (z : Desk). tables_of z) p.1

desks_kept : (w : World) (desks : ℕ → Desk) → ((g : ℕ) → tables_of (desks g) ≡ tables_of (w.desks g))
    → ◌≡◌ {A = Kept} (record { disk = w.disk; files = w.files; tables = λ g. tables_of (desks g) }) (kept_of w)
desks_kept w desks same = λ i. record { disk = w.disk; files = w.files; tables = λ g. same g i }

-- ---- marks

opened_same : (desks : ℕ → Desk) (h fd : ℕ) (o : Option ℕ) (g : ℕ) → tables_of (with_opened desks h fd o g) ≡ tables_of (desks g)
opened_same desks h fd None g = refl
opened_same desks h fd (Some id) g = desk_put desks h (record (desks h) { opening = Some fd }) refl g

noted_same : (b : Tree) (desks : ℕ → Desk) (h : ℕ) (o : Option ℕ) (g : ℕ) → tables_of (with_noted b desks h o g) ≡ tables_of (desks g)
noted_same b desks h None g = refl
noted_same b desks h (Some n) g =
    desk_put desks h (record (desks h) { noted = Some (record { number = n; inode_type = type_of (b.nodes n) }) }) refl g

left_same : (desks : ℕ → Desk) (h : ℕ) (o : Option ℕ) (g : ℕ) → tables_of (with_left desks h o g) ≡ tables_of (desks g)
left_same desks h None g = refl
left_same desks h (Some d) g = desk_put desks h (record (desks h) { left = Some d }) refl g

made_kept : (h : ℕ) (x : Made) (w : World) → kept_of (with_made h x w) ≡ kept_of w
made_kept h x w =
    let opened : ℕ → Desk = with_opened w.desks h (lowest (w.all.fds h)) x.opened in
    let noted : ℕ → Desk = with_noted w.all opened h x.found in
    desks_kept w (with_left noted h x.left)
    (λ g. left_same noted h x.left g ∙ noted_same w.all opened h x.found g ∙ opened_same w.desks h (lowest (w.all.fds h)) x.opened g)

spoiled_kept : (h : ℕ) (w : World) → kept_of (spoiled h w) ≡ kept_of w
spoiled_kept h w =
    let d : Desk = record (w.desks h) { full = true } in
    desks_kept w (put w.desks h d) (desk_put w.desks h d refl)

mended_kept : (h : ℕ) (w : World) → kept_of (mended h w) ≡ kept_of w
mended_kept h w =
    let d : Desk = record (w.desks h) { opening = None; left = None; full = true } in
    desks_kept w (put w.desks h d) (desk_put w.desks h d refl)

-- a mark leaves all that
pub marked_kept : (version : Version) (h : ℕ) (m : Option Mark) (w : World) → kept_of (marked version h m w) ≡ kept_of w
marked_kept version h None w = refl
marked_kept version h (Some (Makes v)) w = made_kept h (made_by version w.all h (new_id w) (w.harts h).walk v) w
marked_kept version h (Some (Frees n)) w = refl
marked_kept version h (Some (Orphans n)) w = refl
marked_kept version h (Some Fills) w = spoiled_kept h w
marked_kept version h (Some Mends) w = mended_kept h w
marked_kept version h (Some (Spoils s)) w =
    let x : Made = made_by version w.all h (new_id w) (w.harts h).walk (Own s 0) in
    spoiled_kept h (with_made h x w) ∙ made_kept h x w

-- ---- operations

-- if the answer reports no change
abbrev Goes : {A : Type 0} → (A → List Change) → Op → World → ExecResult A World → Type 0
Goes told op w Waits = Unit {0}
Goes told op w (Ran a u) = told a ≡ [] → LeavesBut w op u
Goes told op w (Stops u) = Unit {0}

some_told : (c : Change) (cs : List Change) → c ∷ cs ≡ [] → ⊥
some_told c cs e = cc

-- some change is reported
lies : (w : World) (op : Op) (u : World) (c : Change) (cs : List Change) → c ∷ cs ≡ [] → LeavesBut w op u
lies w op u c cs e = absurd (some_told c cs e)

unlocked_left : (op : Op) (n : ℕ) (w : World) (b : Bool) → LeavesBut w op (unlocked n w b)
unlocked_left op n w true = all_left w op (unlocked n w true) refl
unlocked_left op n w false = all_left w op (unlocked n w false) refl

lock_goes : {A : Type 0} (told : A → List Change) (op : Op) (h n : ℕ) (a : A) (w : World) (o : Option ℕ)
    → Goes told op w (lock_if h n a w (locked h n w) o)
lock_goes told op h n a w None = λ _. all_left w op (locked h n w) refl
lock_goes told op h n a w (Some g) = tt

start_goes : (told : Option ℕ → List Change) (op : Op) (h n : ℕ) (w : World) (b : Bool) → Goes told op w (start_if h n w b)
start_goes told op h n w true = λ _. all_left w op _ refl
start_goes told op h n w false = λ _. all_left w op w refl

up_goes : (told : Bool → List Change) (op : Op) (h n : ℕ) (w : World) (b : Bool) → Goes told op w (up_if h n w b)
up_goes told op h n w true = λ _. all_left w op _ refl
up_goes told op h n w false = λ _. all_left w op w refl

walk_down_goes : (told : Bool → List Change) (op : Op) (h n : ℕ) (w : World) (b : Bool) → Goes told op w (walk_down_if h n w b)
walk_down_goes told op h n w true = λ _. all_left w op _ refl
walk_down_goes told op h n w false = λ _. all_left w op _ refl

down_goes : (told : Bool → List Change) (op : Op) (h n : ℕ) (w : World) (b : Bool) → Goes told op w (down_if h n w b)
down_goes told op h n w true = λ _. all_left w op _ refl
down_goes told op h n w false = λ _. all_left w op _ refl

-- only that inode is another
free_left : (w : World) (n : ℕ) → LeavesBut w (Free n) (with_record w n None)
free_left w n = record {
  inodes = λ i. at i (put_is w.disk n None i);
  files = λ k. refl;
  descriptors = λ g fd. refl;
  places = λ g. refl;
  directories = λ g. refl;
}
  where
    at : (i : ℕ) → ((i ≡ n) × (put w.disk n None i ≡ None)) ⊎ ((i ≢ n) × (put w.disk n None i ≡ w.disk i))
        → (put w.disk n None i ≡ w.disk i) ⊎ (Free n ≡ Free i)
    at i (inl p) = inr (ap (λ (z : ℕ). Free z) (sym p.0))
    at i (inr p) = inl p.1

desk_left : (w : World) (op : Op) (h : ℕ) (d : Desk) → tables_of d ≡ tables_of (w.desks h)
    → LeavesBut w op (record w { desks = put w.desks h d })
desk_left w op h d same = all_left w op (record w { desks = put w.desks h d }) (desks_kept w (put w.desks h d) (desk_put w.desks h d same))

release_left : (w : World) (op : Op) (h child : ℕ) → LeavesBut w op (released w h child)
release_left w op h child = all_left w op (released w h child) (desks_kept w (put one child second) both)
  where
    first : Desk
    first = record (w.desks h) { lent = λ i. None }

    second : Desk
    second = record (w.desks child) { lender = None }

    one : ℕ → Desk
    one = put w.desks h first

    both : (g : ℕ) → tables_of (put one child second g) ≡ tables_of (w.desks g)
    both g = desk_put one child second (sym (desk_put w.desks h first refl child)) g ∙ desk_put w.desks h first refl g

module _ (version : Version) (m : Option Mark) where
  abbrev told : (op : Op) → Answer op → List Change
  told op a = changed_by None op a m

  claim_goes : (h : ℕ) (inode_type : InodeType) (w : World) (x : Outside) → Goes (told (Claim inode_type)) (Claim inode_type) w (claim_if h inode_type w x)
  claim_goes h inode_type w (Picks n) = by (nat_lt (referenced w) place_count)
    where
      by : (b : Bool)
          → Goes {A = ClaimResult} (told (Claim inode_type)) (Claim inode_type) w (if b then Ran (New n) (claimed h inode_type w n) else Ran NoPlace w)
      by true = lies w (Claim inode_type) (claimed h inode_type w n) (Claimed n) []
      by false = λ _. all_left w (Claim inode_type) w refl
  claim_goes h inode_type w Room = λ _. all_left w (Claim inode_type) w refl
  claim_goes h inode_type w (RoomFor k) = λ _. all_left w (Claim inode_type) w refl

  fill_goes : (n d : ℕ) (w : World) (x : Outside) → Goes (told (Fill n d)) (Fill n d) w (fill_if n d w x)
  fill_goes n d w Room = lies w (Fill n d) _ (Filled n) []
  fill_goes n d w (RoomFor k) = λ _. all_left w (Fill n d) w refl
  fill_goes n d w (Picks k) = λ _. all_left w (Fill n d) w refl

  enter_goes : (d : ℕ) (e : Name) (n : ℕ) (w : World) (x : Outside) (b : Bool)
      → Goes (told (Enter d e n)) (Enter d e n) w (enter_if d e n w x b)
  enter_goes d e n w x true = λ _. all_left w (Enter d e n) w refl
  enter_goes d e n w Room false = lies w (Enter d e n) _ (Entered d e n) []
  enter_goes d e n w (RoomFor k) false = λ _. all_left w (Enter d e n) w refl
  enter_goes d e n w (Picks k) false = λ _. all_left w (Enter d e n) w refl

  slot_goes : (h : ℕ) (w : World) (o : Option ℕ) → Goes (told Slot) Slot w (slot_if h w o)
  slot_goes h w None = λ _. all_left w Slot w refl
  slot_goes h w (Some s) = lies w Slot _ TookPlace []

  install_goes : (h : ℕ) (w : World) (f : OpenFile) (inode_type : InodeType) (o : Option ℕ) (b : Bool)
      → Goes (told (Install f inode_type)) (Install f inode_type) w (install_if h w f inode_type o b)
  install_goes h w f inode_type None b = λ _. all_left w (Install f inode_type) w refl
  install_goes h w f inode_type (Some s) false = lies w (Install f inode_type) _ GaveBack []
  install_goes h w f inode_type (Some s) true = lies w (Install f inode_type) _ (Moved (Install f inode_type)) []

  stat_goes : (h fd : ℕ) (w : World) (o : Option Entry) → Goes (told (StatFile fd)) (StatFile fd) w (stat_at version h w o)
  stat_goes h fd w None = λ _. all_left w (StatFile fd) w refl
  stat_goes h fd w (Some e) =
      lock_goes (told (StatFile fd)) (StatFile fd) h e.file.number (Some (e.file.number, face_or (face_of version (w.disk e.file.number)))) w
      (w.lock e.file.number)

  file_goes : (h fd : ℕ) (w : World) (o : Option Entry) (c : Option Cause) → Goes (told (LockFile fd)) (LockFile fd) w (lock_at h w o c)
  file_goes h fd w o (Some c) = λ _. all_left w (LockFile fd) w refl
  file_goes h fd w None None = λ _. all_left w (LockFile fd) w refl
  file_goes h fd w (Some e) None =
      lock_goes (told (LockFile fd)) (LockFile fd) h e.file.number (LocksIt e.file.number e.file.offset) w (w.lock e.file.number)

  read_goes : (w : World) (fd n offset count : ℕ) (s : Option ℕ) (o : Option Entry)
      → Goes (told (ReadFile fd n offset count)) (ReadFile fd n offset count) w (read_at version w n count s o)
  read_goes w fd n offset count s None = lies w (ReadFile fd n offset count) _ (Moved (ReadFile fd n offset count)) []
  read_goes w fd n offset count s (Some e) = lies w (ReadFile fd n offset count) _ (Moved (ReadFile fd n offset count)) []

  join_goes : (h fd : ℕ) (w : World) (o : Option Entry) (c : Option Cause) → Goes (told (JoinFile fd)) (JoinFile fd) w (join_at h w o c)
  join_goes h fd w o (Some c) = λ _. all_left w (JoinFile fd) w refl
  join_goes h fd w None None = λ _. all_left w (JoinFile fd) w refl
  join_goes h fd w (Some e) None = λ _. desk_left w (JoinFile fd) h (record (w.desks h) { joined = true }) refl

  module _ (fd n offset : ℕ) (bytes : List ℕ) where
    abbrev write : Op
    write = WriteFile fd n offset bytes

    write_in_goes : (w : World) (s : Option ℕ) (e : Entry) (x : Outside) → Goes (told write) write w (write_in w s e n bytes x)
    write_in_goes w s e Room = lies w write _ (Wrote fd bytes) []
    write_in_goes w s e (RoomFor k) = lies w write _ (Wrote fd (take k bytes)) []
    write_in_goes w s e (Picks k) = lies w write _ (Wrote fd (take 0 bytes)) []

    write_if_goes : (w : World) (s : Option ℕ) (e : Entry) (x : Outside) (c : Option Cause)
        → Goes (told write) write w (write_if w s e n bytes x c)
    write_if_goes w s e x (Some c) = λ _. unlocked_left write n w (w.alone n)
    write_if_goes w s e x None = write_in_goes w s e x

    write_goes : (w : World) (s : Option ℕ) (x : Outside) (o : Option Entry) → Goes (told write) write w (write_at version w s n bytes x o)
    write_goes w s x None = λ _. unlocked_left write n w (w.alone n)
    write_goes w s x (Some e) = write_if_goes w s e x (write_kind version (node_or (w.disk n)).kind e.file.offset bytes)

  double_if_goes : (h fd : ℕ) (w : World) (s : ℕ) (e : Entry) (b : Bool) → Goes (told (Double fd)) (Double fd) w (double_if h w s e b)
  double_if_goes h fd w s e true = lies w (Double fd) _ (Moved (Double fd)) []
  double_if_goes h fd w s e false = λ _. all_left w (Double fd) w refl

  double_goes : (h fd : ℕ) (w : World) (s : Option ℕ) (o : Option Entry) → Goes (told (Double fd)) (Double fd) w (double_at h w s o)
  double_goes h fd w None o = λ _. all_left w (Double fd) w refl
  double_goes h fd w (Some s) None = λ _. all_left w (Double fd) w refl
  double_goes h fd w (Some s) (Some e) = double_if_goes h fd w s e (has_room (w.desks h).fds)

  close_if_goes : (h fd : ℕ) (w : World) (s : ℕ) (e : Entry) (b : Bool) → Goes (told (Shut fd)) (Shut fd) w (close_if h w fd s e b)
  close_if_goes h fd w s e true = lies w (Shut fd) _ (Moved (Shut fd)) []
  close_if_goes h fd w s e false = lies w (Shut fd) _ (Moved (Shut fd)) []

  close_goes : (h fd : ℕ) (w : World) (s : Option ℕ) (o : Option Entry) → Goes (told (Shut fd)) (Shut fd) w (close_at h w fd s o)
  close_goes h fd w None o = λ _. all_left w (Shut fd) w refl
  close_goes h fd w (Some s) None = λ _. all_left w (Shut fd) w refl
  close_goes h fd w (Some s) (Some e) = close_if_goes h fd w s e (e.references == 1)

  lend_goes : (h child from : ℕ) (w : World) (o : Option ℕ) → Goes (told (Lend child from)) (Lend child from) w (lend_if h w child o)
  lend_goes h child from w None = lies w (Lend child from) _ (Moved (Lend child from)) []
  lend_goes h child from w (Some i) = lies w (Lend child from) _ (Moved (Lend child from)) []

  exec_goes : (h : ℕ) (x : Outside) (op : Op) (w : World) → Goes (told op) op w (exec version h x op w)
  exec_goes h x (Take n looking) w = lock_goes (told (Take n looking)) (Take n looking) h n (seen_in version n looking (w.disk n)) w (w.lock n)
  exec_goes h x (UnlockInode n) w = λ _. unlocked_left (UnlockInode n) n w (w.alone n)
  exec_goes h x (UpStart absolute) w =
      start_goes (told (UpStart absolute)) (UpStart absolute) h (start_number (w.desks h) absolute) w
      (has_place w (start_number (w.desks h) absolute))
  exec_goes h x (Up n) w = up_goes (told (Up n)) (Up n) h n w (has_place w n)
  exec_goes h x (WalkDown n) w = walk_down_goes (told (WalkDown n)) (WalkDown n) h n w (is_last w n)
  exec_goes h x (Down n) w = down_goes (told (Down n)) (Down n) h n w (is_last w n)
  exec_goes h x (Free n) w = λ _. free_left w n
  exec_goes h x (Forget n) w = λ _. all_left w (Forget n) _ refl
  exec_goes h x (Claim inode_type) w = claim_goes h inode_type w x
  exec_goes h x (Store n count) w = lies w (Store n count) _ (by_count None n count m) []
  exec_goes h x (Fill n d) w = fill_goes n d w x
  exec_goes h x (Enter d e n) w = enter_goes d e n w x (is_full_directory version (w.disk d))
  exec_goes h x (Clear d e) w = lies w (Clear d e) _ (Cleared d e) []
  exec_goes h x (Empty n) w = lies w (Empty n) _ (Emptied n) []
  exec_goes h x Slot w = slot_goes h w (first_from file_count 0 (is_empty_slot w))
  exec_goes h x (Install f inode_type) w = install_goes h w f inode_type (w.desks h).hand (has_room (w.desks h).fds)
  exec_goes h x (StatFile fd) w = stat_goes h fd w (entry_of w h fd)
  exec_goes h x (LockFile fd) w = file_goes h fd w (entry_of w h fd) (read_refused (entry_of w h fd))
  exec_goes h x (ReadFile fd n offset count) w = read_goes w fd n offset count (slot_at w h fd) (entry_of w h fd)
  exec_goes h x (CheckFile fd) w = λ _. all_left w (CheckFile fd) w refl
  exec_goes h x (JoinFile fd) w = join_goes h fd w (entry_of w h fd) (write_refused (entry_of w h fd))
  exec_goes h x (LockOpen fd n) w = lock_goes (told (LockOpen fd n)) (LockOpen fd n) h n (n, offset_of (entry_of w h fd)) w (w.lock n)
  exec_goes h x (WriteFile fd n offset bytes) w = write_goes fd n offset bytes w (slot_at w h fd) x (entry_of w h fd)
  exec_goes h x (Double fd) w = double_goes h fd w (slot_at w h fd) (entry_of w h fd)
  exec_goes h x (Shut fd) w = close_goes h fd w (slot_at w h fd) (entry_of w h fd)
  exec_goes h x (SetDirectory n) w = lies w (SetDirectory n) _ (Moved (SetDirectory n)) []
  exec_goes h x (Lend child from) w = lend_goes h child from w (next_used from (w.desks h).fds)
  exec_goes h x (LendDirectory child) w = lies w (LendDirectory child) _ (Moved (LendDirectory child)) []
  exec_goes h x (Release child) w = λ _. release_left w (Release child) h child
  exec_goes h x Join w = λ _. desk_left w Join h (record (w.desks h) { joined = true }) refl
  exec_goes h x Leave w = λ _. desk_left w Leave h (record (w.desks h) { joined = false; noted = None }) refl
  exec_goes h x Say w = λ _. all_left w Say w refl

-- ---- steps

abbrev pub answer_or : {A : Type 0} → A → ExecResult A World → A
answer_or a Waits = a
answer_or a (Ran b w) = b
answer_or a (Stops w) = a

no_wait : (version : Version) {A : Type 0} (h : ℕ) (m : Option Mark) (a : A) (u : World) → with_mark version h (λ (z : A). m) Waits ≡ Ran a u → ⊥
no_wait version h m a u e = cc

no_stop : (version : Version) {A : Type 0} (h : ℕ) (m : Option Mark) (a : A) (u v : World) → with_mark version h (λ (z : A). m) (Stops v) ≡ Ran a u → ⊥
no_stop version h m a u v e = cc

ran_left : (version : Version) {A : Type 0} (told : A → List Change) (op : Op) (h : ℕ) (m : Option Mark) (w u : World) (a : A) (d : ExecResult A World)
    → Goes told op w d → with_mark version h (λ (z : A). m) d ≡ Ran a u → told a ≡ [] → LeavesBut w op u
ran_left version told op h m w u a Waits g e none = absurd (no_wait version h m a u e)
ran_left version told op h m w u a (Stops v) g e none = absurd (no_stop version h m a u v e)
ran_left version {A} told op h m w u a (Ran b v) g e none =
    let there : told b ≡ [] = ap (λ (d : ExecResult A World). told (answer_or a d)) e ∙ none in
    left_between w w op v u refl (g there) (ap (λ (d : ExecResult A World). kept_of (ran_to w d)) (sym e) ∙ marked_kept version h m v)

-- ---- what is freed

look_same : (ns ns' : ℕ → Option Node) (d : ℕ) (e : Name) → ns d ≡ ns' d → look ns d e ≡ look ns' d e
unfolding look
look_same ns ns' d e same = ap (λ (v : Option Node). if live_directory v then first_slot (all_slots v) e else None) same

never_so : false ≡ true → ⊥
never_so e = cc

-- a tree that is in order without the inode has no name for it
nameless : (w : World) (all : Tree) (n : ℕ) → IsWellFormed all → all.nodes ≡ put w.all.nodes n None → HasNoName w n
nameless w all n well gone d e other found =
    let there : all.nodes d ≡ w.all.nodes d = ap (λ (f : ℕ → Option Node). f d) gone ∙ put_other w.all.nodes n None d other in
    let live : is_live (all.nodes n) ≡ true =
    look_live all d n e well (look_same all.nodes w.all.nodes d e there ∙ found) in
    let none : all.nodes n ≡ None = ap (λ (f : ℕ → Option Node). f n) gone ∙ put_same w.all.nodes n None in
    never_so (ap (λ (v : Option Node). is_live v) (sym none) ∙ live)

free_nameless : (version : Version) (h : ℕ) (x : Outside) (n : ℕ) (m : Option Mark) (w u : World) → Inv u → (a : Unit {0})
    → go version h x (Free n) (λ _. m) w ≡ Ran a u → by_free n m ≡ [] → HasNoName w n
free_nameless version h x n None w u inv a ran none = absurd (some_told (Freed n) [] none)
free_nameless version h x n (Some (Makes v)) w u inv a ran none = absurd (some_told (Freed n) [] none)
free_nameless version h x n (Some (Orphans k)) w u inv a ran none = absurd (some_told (Freed n) [] none)
free_nameless version h x n (Some Fills) w u inv a ran none = absurd (some_told (Freed n) [] none)
free_nameless version h x n (Some Mends) w u inv a ran none = absurd (some_told (Freed n) [] none)
free_nameless version h x n (Some (Spoils s)) w u inv a ran none = absurd (some_told (Freed n) [] none)
free_nameless version h x n (Some (Frees k)) w u inv a ran none = by (k == n) refl none
  where
    goes : u.all.nodes ≡ put w.all.nodes k None
    goes = ap (λ (d : ExecResult (Unit {0}) World). (ran_to w d).all.nodes) (sym ran)

    by : (b : Bool) → (k == n) ≡ b → (if b then [] else Freed n ∷ []) ≡ [] → HasNoName w n
    by true same none = nameless w u.all n inv.well (goes ∙ ap (λ (z : ℕ). put w.all.nodes z None) (eq_is k n same))
    by false other none = absurd (some_told (Freed n) [] none)

freed_nameless : (version : Version) (h : ℕ) (x : Outside) (op : Op) (a : Answer op) (m : Option Mark) (w u : World) → Inv u → go version h x op (λ _. m) w ≡ Ran a u
    → changed_by None op a m ≡ [] → (n : ℕ) → op ≡ Free n → HasNoName w n
freed_nameless version h x op a m w u inv ran none n is =
    subst (λ (z : Op). (b : Answer z) → go version h x z (λ _. m) w ≡ Ran b u → changed_by None z b m ≡ [] → HasNoName w n) (sym is)
    (λ b. free_nameless version h x n m w u inv b) a ran none

pub untold : ChangesAreTold
untold version t u h e s untold_by = record {
  inodes = λ n. at n (left.inodes n);
  files = left.files;
  descriptors = left.descriptors;
  places = left.places;
  directories = left.directories;
}
  where
    none : changed_by None e.op e.answer e.mark ≡ []
    none = sym (append-nil (changed_by None e.op e.answer e.mark)) ∙ untold_by

    left : LeavesBut t e.op u
    left =
        left_between t s.before e.op s.after u (ap (λ (z : World). kept_of z) s.from)
        (ran_left version (λ a. changed_by None e.op a e.mark) e.op h e.mark s.before s.after e.answer (exec version h s.outside e.op s.before)
        (exec_goes version e.mark h s.outside e.op s.before) s.goes none)
        (ap (λ (z : World). kept_of z) (sym s.to))

    at : (n : ℕ) → (u.disk n ≡ t.disk n) ⊎ (e.op ≡ Free n) → (u.disk n ≡ t.disk n) ⊎ HasNoName t n
    at n (inl same) = inl same
    at n (inr is) = inr (subst (λ (z : World). HasNoName z n) s.from
        (freed_nameless version h s.outside e.op e.answer e.mark s.before s.after s.keeps s.goes none n is))
