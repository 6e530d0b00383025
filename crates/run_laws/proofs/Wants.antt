-- What an operation on whole inodes wants and doesn't find, the world doesn't have in which it is made.
use Rattle.run_laws.proofs.Vocabulary.{◌≡◌, ◌≢◌, inl, inr, ◌<◌, ◌≤◌, ◌+◌, ℕ, zero, suc, ◌==◌, Bool, true, false, ◌&&◌, ◌||◌, not, nat_lt, if◌then◌else◌, List, [], ◌∷◌, length, Option, Some, None, IsSome, refl, sym, ◌∙◌, ap, subst, arith, All, nat_tests, All-cons, All-nil, Cause, Full, DirectorySlot, OpenFile, has_room, lowest, lowest_from, node_or, write_kind, Name, all_slots, any_below, descriptor_count, hart_count, and_true, eq_is, or_none, same_or, PlacedStep, Chain, ExecResult, Ran, Stops, Waits, Super, Blocks, Descriptors, Directory, DiskInodes, MemInodes, OpenFiles, sizes_of, WorldOf, all_used, claim_if, claimed, double_at, double_if, enter_if, entry_of, exec, file_count, fill_if, first_from, has_place, install_if, is_at, is_empty_slot, is_full_directory, is_nothing, place_count, referenced, slot_at, slot_if, slot_limit, start_if, start_number, up_if, write_at, write_if, InodeType, with_mark, Honest, HonestClaim, May, Answer, Entry, Mark, New, NoPlace, Picks, Room, RoomFor, Take, UnlockInode, UpStart, Up, WalkDown, Down, Free, Forget, Claim, Store, Fill, Enter, Clear, Empty, Slot, Install, StatFile, LockFile, ReadFile, CheckFile, JoinFile, LockOpen, WriteFile, Double, Shut, SetDirectory, Lend, LendDirectory, Release, Join, Leave, Say, first_some, AllDescriptorsAreTaken, AllOpenFilesAreTaken, AllPlacesAreTaken, HasNone, IsFullDirectory, IsTaken, LeadsThroughWants, NoRoomOnlyWhereThereIsNone, WantsWhatIsnt, wanted, IsStep, Operation, lowered_inode_calls, unreserved, Version}
use Rattle.inode_machine.specs.Exec.{enter_in}
use Rattle.inode_machine.specs.Exec.{write_in}
use Rattle.inode_machine.specs.World.{Op, Outside, World}
use Rattle.run_laws.proofs.Worlds.{worlds_refine}

-- ---- when there is none

not_less : (n k : ℕ) → nat_lt n k ≡ false → k ≤ n
not_less n k e = grind (arith, nat_tests)

places_taken : (w : World) (n : ℕ) → has_place w n ≡ false → AllPlacesAreTaken w
places_taken w n e = not_less (referenced w) place_count (or_none (nat_lt 0 (w.refs n)) (nat_lt (referenced w) place_count) e).1

is_some_hart : (n : ℕ) (p : ℕ → Bool) → any_below n p ≡ true → (g : ℕ) × (g < n) × (p g ≡ true)
unfolding any_below
is_some_hart zero p e = absurd (let q : false ≡ true = e in cc)
is_some_hart (suc n) p e = at (p n) refl (λ later. is_some_hart n p later) e
  where
    more : (g : ℕ) × (g < n) × (p g ≡ true) → (g : ℕ) × (g < suc n) × (p g ≡ true)
    more r = let lt = r.1 in (r.0, omega (arith, lt), r.2)

    at : (b : Bool) → p n ≡ b → (any_below n p ≡ true → (g : ℕ) × (g < n) × (p g ≡ true)) → (p n || any_below n p) ≡ true
        → (g : ℕ) × (g < suc n) × (p g ≡ true)
    at true here later all = (n, omega arith, here)
    at false here later all = more (later (sym (ap (λ (b : Bool). b || any_below n p) here) ∙ all))

held_at : (o : Option ℕ) (k : ℕ) → is_at o k ≡ true → o ≡ Some k
held_at None k e = absurd (let q : false ≡ true = e in cc)
held_at (Some j) k e = ap (λ (z : ℕ). Some z) (eq_is j k e)

place_taken : (w : World) (k : ℕ) → is_empty_slot w k ≡ false → IsTaken w k
place_taken w k e = at (w.files k) refl (any_below hart_count (λ g. is_at (w.desks g).hand k)) refl e
  where
    at : (o : Option Entry) → w.files k ≡ o → (b : Bool) → any_below hart_count (λ g. is_at (w.desks g).hand k) ≡ b
        → (is_nothing o && not b) ≡ false → IsTaken w k
    at (Some x) is b held none = inl (let q : w.files k ≡ Some x = is in rw q refl)
    at None is true held none =
        let r = is_some_hart hart_count (λ g. is_at (w.desks g).hand k) held in
        inr (r.0, r.1, held_at (w.desks r.0).hand k r.2)
    at None is false held none = absurd (let q : true ≡ false = none in cc)

files_taken : (w : World) → first_from file_count 0 (is_empty_slot w) ≡ None → AllOpenFilesAreTaken w
files_taken w none k lt = at (is_empty_slot w k) refl
  where
    at : (b : Bool) → is_empty_slot w k ≡ b → IsTaken w k
    at false e = place_taken w k e
    at true e = absurd (
        let r = first_some file_count 0 (is_empty_slot w) k (omega arith) (omega (arith, lt)) e in
        let q = sym none ∙ r.1 in cc)

lowest_past : (n i : ℕ) (f : ℕ → Option ℕ) → i + n ≤ lowest_from n i f → (j : ℕ) → i ≤ j → j < i + n → IsSome (f j)
unfolding lowest_from
lowest_past zero i f past j above below = absurd (omega (arith, above, below))
lowest_past (suc n) i f past j above below = at (f i) refl past (λ further. lowest_past n (i + 1) f further j)
  where
    at : (o : Option ℕ) → f i ≡ o → i + suc n ≤ elim o [ None ↦ i | Some id ↦ lowest_from n (i + 1) f ]
        → ((i + 1) + n ≤ lowest_from n (i + 1) f → i + 1 ≤ j → j < (i + 1) + n → IsSome (f j)) → IsSome (f j)
    at None is q later = absurd (omega (arith, q))
    at (Some x) is q later = elim (same_or j i) [
      | inl same ↦ let e : f j ≡ Some x = ap f same ∙ is in rw e refl
      | inr other ↦ later (omega (arith, q)) (omega (arith, above, other)) (omega (arith, below))
    ]

all_taken : (w : World) (h : ℕ) → has_room (w.desks h).fds ≡ false → AllDescriptorsAreTaken w h
all_taken w h e fd lt =
    let past = not_less (lowest (w.desks h).fds) descriptor_count e in
    lowest_past descriptor_count 0 (w.desks h).fds (omega (arith, past)) fd (omega arith) (omega (arith, lt))

each_used : (slots : List (Option DirectorySlot)) → all_used slots ≡ true → All IsSome slots
unfolding all_used
each_used [] e = All-nil IsSome
each_used (None ∷ ss) e = absurd (let q : false ≡ true = e in cc)
each_used (Some s ∷ ss) e = All-cons IsSome (Some s) ss refl (each_used ss e)

directory_full : (version : Version) (w : World) (d : ℕ) → is_full_directory version (w.disk d) ≡ true → IsFullDirectory version (w.disk d)
directory_full version w d e =
    let two = and_true (length (all_slots (w.disk d)) == slot_limit version) (all_used (all_slots (w.disk d))) e in
    (eq_is (length (all_slots (w.disk d))) (slot_limit version) two.0, each_used (all_slots (w.disk d)) two.1)

-- ---- one operation

-- so it is with the answer of an operation that ran
abbrev pub Tells : {A : Type 0} → (A → Type 0) → ExecResult A World → Type 0
Tells P Waits = Unit {0}
Tells P (Ran a u) = P a
Tells P (Stops u) = Unit {0}

quiet : {A : Type 0} (P : Full → Type 0) (d : ExecResult A World)
    → Tells {A = A} (λ a. (room : Full) → ◌≡◌ {A = Option Full} None (Some room) → P room) d
quiet P Waits = tt
quiet P (Ran a u) = λ room e. absurd cc
quiet P (Stops u) = tt

module _ (version : Version) (h : ℕ) (w : World) where
  abbrev Says : (op : Op) → ExecResult (Answer op) World → Type 0
  Says op d = Tells {A = Answer op} (λ a. (room : Full) → wanted op a ≡ Some room → HasNone version w h op room) d

  one_room : (op : Op) (room : Full) → HasNone version w h op room → (other : Full) → Some room ≡ Some other → HasNone version w h op other
  one_room op room there other e = subst (HasNone version w h op) (let q : room ≡ other = cc in q) there

  start_says : (absolute : Bool) (n : ℕ) (b : Bool) → has_place w n ≡ b → Says (UpStart absolute) (start_if h n w b)
  start_says absolute n true e = λ room q. absurd cc
  start_says absolute n false e = one_room (UpStart absolute) MemInodes (places_taken w n e)

  up_says : (n : ℕ) (b : Bool) → has_place w n ≡ b → Says (Up n) (up_if h n w b)
  up_says n true e = λ room q. absurd cc
  up_says n false e = one_room (Up n) MemInodes (places_taken w n e)

  picks_says : (inode_type : InodeType) (n : ℕ) (b : Bool) → nat_lt (referenced w) place_count ≡ b
      → Says (Claim inode_type) (if b then Ran (New n) (claimed h inode_type w n) else Ran NoPlace w)
  picks_says inode_type n true e = λ room q. absurd cc
  picks_says inode_type n false e = one_room (Claim inode_type) MemInodes (not_less (referenced w) place_count e)

  claim_says : (inode_type : InodeType) (x : Outside) → HonestClaim w x → Says (Claim inode_type) (claim_if h inode_type w x)
  claim_says inode_type (Picks n) honest = picks_says inode_type n (nat_lt (referenced w) place_count) refl
  claim_says inode_type Room honest = one_room (Claim inode_type) DiskInodes tt
  claim_says inode_type (RoomFor k) honest = one_room (Claim inode_type) MemInodes (not_less (referenced w) place_count honest)

  fill_says : (n d : ℕ) (x : Outside) → Says (Fill n d) (fill_if n d w x)
  fill_says n d Room = λ room q. absurd cc
  fill_says n d (RoomFor k) = one_room (Fill n d) Blocks tt
  fill_says n d (Picks k) = one_room (Fill n d) Blocks tt

  enter_in_says : (d : ℕ) (e : Name) (n : ℕ) (x : Outside) → Says (Enter d e n) (enter_in d e n w x)
  enter_in_says d e n Room = λ room q. absurd cc
  enter_in_says d e n (RoomFor k) = one_room (Enter d e n) Blocks tt
  enter_in_says d e n (Picks k) = one_room (Enter d e n) Blocks tt

  enter_says : (d : ℕ) (e : Name) (n : ℕ) (x : Outside) (b : Bool) → is_full_directory version (w.disk d) ≡ b
      → Says (Enter d e n) (enter_if d e n w x b)
  enter_says d e n x true full = one_room (Enter d e n) Directory (directory_full version w d full)
  enter_says d e n x false full = enter_in_says d e n x

  slot_says : (o : Option ℕ) → first_from file_count 0 (is_empty_slot w) ≡ o → Says Slot (slot_if h w o)
  slot_says None e = one_room Slot OpenFiles (files_taken w e)
  slot_says (Some k) e = λ room q. absurd cc

  install_says : (f : OpenFile) (inode_type : InodeType) (o : Option ℕ) → o ≢ None → (b : Bool) → has_room (w.desks h).fds ≡ b
      → Says (Install f inode_type) (install_if h w f inode_type o b)
  install_says f inode_type None some b e = absurd (some refl)
  install_says f inode_type (Some k) some false e = one_room (Install f inode_type) Descriptors (all_taken w h e)
  install_says f inode_type (Some k) some true e = λ room q. absurd cc

  double_if_says : (fd k : ℕ) (e : Entry) (b : Bool) → has_room (w.desks h).fds ≡ b → Says (Double fd) (double_if h w k e b)
  double_if_says fd k e true is = λ room q. absurd cc
  double_if_says fd k e false is = one_room (Double fd) Descriptors (all_taken w h is)

  double_says : (fd : ℕ) (k : Option ℕ) (e : Option Entry) → Says (Double fd) (double_at h w k e)
  double_says fd None e = λ room q. absurd cc
  double_says fd (Some k) None = λ room q. absurd cc
  double_says fd (Some k) (Some e) = double_if_says fd k e (has_room (w.desks h).fds) refl

  module _ (fd n offset : ℕ) (bytes : List ℕ) where
    write_in_says : (k : Option ℕ) (e : Entry) (x : Outside) → Says (WriteFile fd n offset bytes) (write_in w k e n bytes x)
    write_in_says k e Room = λ room q. absurd cc
    write_in_says k e (RoomFor j) = one_room (WriteFile fd n offset bytes) Blocks tt
    write_in_says k e (Picks j) = one_room (WriteFile fd n offset bytes) Blocks tt

    write_if_says : (k : Option ℕ) (e : Entry) (x : Outside) (c : Option Cause)
        → Says (WriteFile fd n offset bytes) (write_if w k e n bytes x c)
    write_if_says k e x (Some c) = λ room q. absurd cc
    write_if_says k e x None = write_in_says k e x

    write_says : (k : Option ℕ) (x : Outside) (e : Option Entry) → Says (WriteFile fd n offset bytes) (write_at version w k n bytes x e)
    write_says k x None = λ room q. absurd cc
    write_says k x (Some e) = write_if_says k e x (write_kind version (node_or (w.disk n)).kind e.file.offset bytes)

  quiet_one : (op : Op) (d : ExecResult (Answer op) World)
      → Tells (λ a. (room : Full) → ◌≡◌ {A = Option Full} None (Some room) → HasNone version w h op room) d
  quiet_one op d = quiet (HasNone version w h op) d

  says : (x : Outside) (op : Op) → May version h op w → Honest h op w x → Says op (exec version h x op w)
  says x (UpStart absolute) may honest =
      start_says absolute (start_number (w.desks h) absolute) (has_place w (start_number (w.desks h) absolute)) refl
  says x (Up n) may honest = up_says n (has_place w n) refl
  says x (Claim inode_type) may honest = claim_says inode_type x honest
  says x (Fill n d) may honest = fill_says n d x
  says x (Enter d e n) may honest = enter_says d e n x (is_full_directory version (w.disk d)) refl
  says x Slot may honest = slot_says (first_from file_count 0 (is_empty_slot w)) refl
  says x (Install f inode_type) may honest = install_says f inode_type (w.desks h).hand may.1.0 (has_room (w.desks h).fds) refl
  says x (WriteFile fd n offset bytes) may honest = write_says fd n offset bytes (slot_at w h fd) x (entry_of w h fd)
  says x (Double fd) may honest = double_says fd (slot_at w h fd) (entry_of w h fd)
  says x (Take n looking) may honest = quiet_one (Take n looking) (exec version h x (Take n looking) w)
  says x (UnlockInode n) may honest = quiet_one (UnlockInode n) (exec version h x (UnlockInode n) w)
  says x (WalkDown n) may honest = quiet_one (WalkDown n) (exec version h x (WalkDown n) w)
  says x (Down n) may honest = quiet_one (Down n) (exec version h x (Down n) w)
  says x (Free n) may honest = quiet_one (Free n) (exec version h x (Free n) w)
  says x (Forget n) may honest = quiet_one (Forget n) (exec version h x (Forget n) w)
  says x (Store n count) may honest = quiet_one (Store n count) (exec version h x (Store n count) w)
  says x (Clear d e) may honest = quiet_one (Clear d e) (exec version h x (Clear d e) w)
  says x (Empty n) may honest = quiet_one (Empty n) (exec version h x (Empty n) w)
  says x (StatFile fd) may honest = quiet_one (StatFile fd) (exec version h x (StatFile fd) w)
  says x (LockFile fd) may honest = quiet_one (LockFile fd) (exec version h x (LockFile fd) w)
  says x (ReadFile fd n offset count) may honest = quiet_one (ReadFile fd n offset count) (exec version h x (ReadFile fd n offset count) w)
  says x (CheckFile fd) may honest = quiet_one (CheckFile fd) (exec version h x (CheckFile fd) w)
  says x (JoinFile fd) may honest = quiet_one (JoinFile fd) (exec version h x (JoinFile fd) w)
  says x (LockOpen fd n) may honest = quiet_one (LockOpen fd n) (exec version h x (LockOpen fd n) w)
  says x (Shut fd) may honest = quiet_one (Shut fd) (exec version h x (Shut fd) w)
  says x (SetDirectory n) may honest = quiet_one (SetDirectory n) (exec version h x (SetDirectory n) w)
  says x (Lend child from) may honest = quiet_one (Lend child from) (exec version h x (Lend child from) w)
  says x (LendDirectory child) may honest = quiet_one (LendDirectory child) (exec version h x (LendDirectory child) w)
  says x (Release child) may honest = quiet_one (Release child) (exec version h x (Release child) w)
  says x Join may honest = quiet_one Join (exec version h x Join w)
  says x Leave may honest = quiet_one Leave (exec version h x Leave w)
  says x Say may honest = quiet_one Say (exec version h x Say w)

ran_says : (version : Version) (h : ℕ) (w after : World) (op : Op) (a : Answer op) (k : Option Mark) (d : ExecResult (Answer op) World) → Says version h w op d
    → with_mark version h (λ _. k) d ≡ Ran a after → (room : Full) → wanted op a ≡ Some room → HasNone version w h op room
ran_says version h w after op a k Waits says e = absurd cc
ran_says version h w after op a k (Stops u) says e = absurd cc
ran_says version h w after op a k (Ran b u) says e =
    subst (λ (z : Answer op). (room : Full) → wanted op z ≡ Some room → HasNone version w h op room) (let q : b ≡ a = cc in q) says

-- ---- in a run

-- what starts reserve is no room
same_none : (version : Version) (h : ℕ) (w : World) (op : Op) (room : Full) → HasNone version w h op room → HasNone version (unreserved w) h op room
same_none version h w op MemInodes none = none
same_none version h w op OpenFiles none = none
same_none version h w op Descriptors none = none
same_none version h w op Blocks none = none
same_none version h w op DiskInodes none = none
same_none version h w op Directory none = none

pub step_wants : (version : Version) (t u : World) (h : ℕ) (e : Operation) → IsStep version t h e u → WantsWhatIsnt version t h e
step_wants version t u h e s room q =
    let all = says version h s.before s.outside e.op s.may s.honest in
    let there = ran_says version h s.before s.after e.op e.answer e.mark (exec version h s.outside e.op s.before) all s.goes room q in
    subst (λ (z : World). HasNone version z h e.op room) s.from (same_none version h s.before e.op room there)

module _ (sizes : Super) where
  chain_wants : (es : List (PlacedStep (lowered_inode_calls sizes))) (t u : World)
      → Chain (lowered_inode_calls sizes) t es u → LeadsThroughWants sizes t es u
  chain_wants [] t u c = c
  chain_wants (e ∷ es) t u c = (c.0, c.1, step_wants sizes.version t c.0 e.hart e.step c.1, chain_wants es c.0 u c.2)

pub none_there : {D : Type 0} (contents : D → List (List ℕ)) (failures : D → ℕ) (w : WorldOf D)
    → NoRoomOnlyWhereThereIsNone contents failures w
none_there contents failures w device events came new history mounted is =
    chain_wants (sizes_of (contents w.harts.core.log.cache.device)) _ _ _
    (worlds_refine contents failures w device events came new history mounted is).0.runs.leads
