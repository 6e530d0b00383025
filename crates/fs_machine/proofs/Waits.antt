-- An operation waits only when it may.
use Rattle.fs_machine.proofs.Vocabulary.{◌≡◌, ◌≢◌, ◌+◌, ◌<◌, ◌≤◌, ◌==◌, ℕ, zero, suc, Bool, true, false, List, [], ◌∷◌, Option, Some, None, length, refl, sym, subst, ap, ◌∙◌, arith, MatchOption, IsSome, cond, count_by, slice_get, nat_tests, is_count_by, SlotState, GuardState, guard_of, lock_of, get_of, SeatState, holder_of, Got, get_laws, joined, pick, limit_of, turn_is_out, join_waits, ExecResult, Waits, Ran, Stops, exec_result_in, Loaded, Entry, Inode, FilePlace, Free, Taken, NewFile, OpenFile, Refused, Want, IsSoundInodes, InsideFits, TablesState, is_unused, place_of, place_named, references_of, references_in, file_named, file_in, open_at, is_file_of, lock_holder, refusal_of, lock_inode, lock_at, lock_file, lock_unless, with_file, settle_inode, up_inode, up_by, up_new, up_directory, drop_inode, drop_at, drop_dying, dying, drop_walked, walked_at, walked_dying, drop_freed, freed_at as uncounted_freed, first_free, take_place, take_at, open_file, open_in, open_by, double_descriptor, double_at, double_to, shut_descriptor, shut_at, freed_if, give_next, give_by, give_at, given_directory, is_free, hand_of, descriptors_of, first_empty, next_full, LogPart, Outside, Passes, Fails, join_if, got_by as block_got, read_block, commit_if, write_log, State, Join, JoinToWrite, Leave, Get, Read, Put, Commit, Lock, LockFile, LockOpen, Unlock, SetDirectory, Up, Claim, Down, CheckFile, TakePlace, TakeDescriptor, Double, Close, GiveDescriptor, Reply, Whom, Number, Directory, Drop, Held, Walked, Freed, exec, in_log, in_tables, joins, join_unless, with_open, lock_open, claims, claim_first, up_whom, drop_which, May, MayLockFile, MayLockOpen, MayWait, IsElsewhere, JoinWaits, IsCounted, WaitsWhereItMay}
use Rattle.std.specs.Prelude.{position}
use Rattle.buffer_cache.specs.declared.got.Got.TheVariants as got
use Rattle.fs_machine.specs.declared.files.FilePlace.TheVariants.{Open}
use Rattle.fs_machine.specs.declared.files.Want.TheVariants as want
use Rattle.fs_machine.specs.Inodes.{got_by}
use Rattle.fs_machine.proofs.Places.{found}
use Rattle.fs_machine.proofs.Locking.{slot_at, lock_is}
use Rattle.fs_machine.proofs.Counting.{holder_there}

elsewhere : (h : ℕ) (o : Option ℕ) → IsSome o → o ≢ Some h → IsElsewhere h o
elsewhere h None some ne = absurd (cc some)
elsewhere h (Some g) some ne = (g, λ e. ne (ap (λ n. Some n) e), refl)

-- a part's operation waits if the whole's does
within_waits : {A S T : Type 0} (into : S → T) (d : ExecResult A S) → exec_result_in into d ≡ Waits → d ≡ Waits
within_waits into Waits e = refl
within_waits into (Ran a s) e = absurd (cc e)
within_waits into (Stops s) e = absurd (cc e)

abbrev Never : {A : Type 0} → ExecResult A TablesState → Type 0
Never d = d ≡ Waits → ⊥

-- ---- what never waits

up_never : (n : ℕ) (t : TablesState) → Never (up_inode n t)
unfolding up_inode
up_never n t = at (place_of n t.entries)
  where
    new : (o : Option ℕ) → Never (up_new n t o)
    new None e = cc e
    new (Some k) e = cc e

    at : (o : Option ℕ) → Never (up_by n t o)
    at None e = new (position is_unused t.entries) e
    at (Some k) e = cc e

up_whom_never : (h : ℕ) (whom : Whom) (t : TablesState) → Never (up_whom h whom t)
unfolding up_directory
up_whom_never h (Number n) t = up_never n t
up_whom_never h Directory t = up_never _ t

drop_never : (h : ℕ) (which : Drop) (t : TablesState) → Never (drop_which h which t)
unfolding drop_inode drop_walked drop_freed
drop_never h (Held n) t = at (place_of n t.entries)
  where
    dies : (k : ℕ) (o : Option Loaded) → Never (drop_dying h n k t o)
    dies k None e = cc e
    dies k (Some d) e = cc e

    at : (o : Option ℕ) → Never (drop_at h n t o)
    at None e = cc e
    at (Some k) e = dies k (dying (slice_get t.entries k) (slice_get t.locks k)) e
drop_never h (Walked n) t = at (place_of n t.entries)
  where
    dies : (k : ℕ) (o : Option Loaded) → Never (walked_dying k t o)
    dies k None e = cc e
    dies k (Some d) e = cc e

    at : (o : Option ℕ) → Never (walked_at t o)
    at None e = cc e
    at (Some k) e = dies k (dying (slice_get t.entries k) (slice_get t.locks k)) e
drop_never h (Freed n) t = at (place_of n t.entries)
  where
    at : (o : Option ℕ) → Never (uncounted_freed t o)
    at None e = cc e
    at (Some k) e = cc e

place_never : (h : ℕ) (t : TablesState) → Never (take_place h t)
unfolding take_place
place_never h t = at (position is_free t.files)
  where
    at : (o : Option ℕ) → Never (take_at h t o)
    at None e = cc e
    at (Some k) e = cc e

open_never : (h n : ℕ) (f : NewFile) (t : TablesState) → Never (open_file h n f t)
unfolding open_file
open_never h n f t = at (hand_of (slice_get t.desks h))
  where
    by : (k : ℕ) (o : Option ℕ) → Never (open_by h n f k t o)
    by k None e = cc e
    by k (Some fd) e = cc e

    at : (o : Option ℕ) → Never (open_in h n f t o)
    at None e = cc e
    at (Some k) e = by k (first_empty (descriptors_of (slice_get t.desks h))) e

double_never : (h fd : ℕ) (t : TablesState) → Never (double_descriptor h fd t)
unfolding double_descriptor
double_never h fd t = at (place_named h fd t)
  where
    to : (k : ℕ) (o : Option ℕ) → Never (double_to h k t o)
    to k None e = cc e
    to k (Some fd) e = cc e

    at : (o : Option ℕ) → Never (double_at h t o)
    at None e = cc e
    at (Some k) e = to k (first_empty (descriptors_of (slice_get t.desks h))) e

freed_never : (k : ℕ) (t : TablesState) (f : Option OpenFile) (named : Bool) → Never (freed_if k t f named)
freed_never k t None true e = cc e
freed_never k t (Some f) true e = cc e
freed_never k t None false e = cc e
freed_never k t (Some f) false e = cc e

shut_never : (h fd : ℕ) (t : TablesState) → Never (shut_descriptor h fd t)
unfolding shut_descriptor
shut_never h fd t = at (place_named h fd t)
  where
    at : (o : Option ℕ) → Never (shut_at h fd t o)
    at None e = cc e
    at (Some k) e = freed_never k _ _ _ e

give_never : (h child from : ℕ) (t : TablesState) → Never (give_next h child from t)
unfolding give_next
give_never h child from t = at (next_full from (descriptors_of (slice_get t.desks h)))
  where
    descriptor : (fd : ℕ) (o : Option ℕ) → Never (give_at h child fd t o)
    descriptor fd None e = cc e
    descriptor fd (Some k) e = cc e

    directory : (o : Option ℕ) → Never (given_directory h child t o)
    directory None e = cc e
    directory (Some k) e = cc e

    at : (o : Option ℕ) → Never (give_by h child t o)
    at None e = directory (place_of _ t.entries) e
    at (Some fd) e = descriptor fd (place_named h fd t) e

settle_never : (h : ℕ) (v : Inode) (t : TablesState) → Never (settle_inode h v t)
unfolding settle_inode
settle_never h v t e = cc e

-- ---- locks

module _ (h n : ℕ) (t : TablesState) (sound : IsSoundInodes t.entries t.locks) where
  no_guard : (s : SlotState Inode) → guard_of s h ≡ None → s.inside ≡ None
  no_guard s = at s.number s.holder s.inside
    where
      at : (m : ℕ) (holder : Option ℕ) (inside : Option Inode) → guard_of (record { number = m; inside = inside; holder = holder }) h ≡ None → inside ≡ None
      at m holder None e = refl
      at m holder (Some v) e = absurd (cc e)

  out : (e : Entry) (s : SlotState Inode) → s.inside ≡ None → InsideFits e s.holder s.inside → IsSome s.holder
  out e s none fits = (subst (λ (o : Option Inode). InsideFits e s.holder o) none fits).0

  got_waits : (k : ℕ) (new : List (SlotState Inode)) (r : Option (GuardState Inode)) → got_by t (new, r) ≡ Waits → r ≡ None
  got_waits k new None e = refl
  got_waits k new (Some g) e = absurd (cc e)

  -- an inode's lock that is waited for is out
  pub lock_is_out : 0 < references_of n t → lock_inode h n t ≡ Waits → IsSome (lock_holder n t)
  unfolding lock_inode
  lock_is_out some e = at (place_of n t.entries) refl some e
    where
      at : (o : Option ℕ) → place_of n t.entries ≡ o → 0 < references_in t.entries o → lock_at h t o ≡ Waits → IsSome (lock_holder n t)
      at None is lt w = absurd (omega (arith, lt))
      at (Some k) is lt w =
          let f = found n t.entries k is in
          let there = slot_at t.entries t.locks k f.entry sound f.there in
          let s = there.0 in
          let r : (lock_of t.locks k h).1 ≡ None = got_waits k (lock_of t.locks k h).0 (lock_of t.locks k h).1 w in
          let none : guard_of s h ≡ None = sym (lock_is t.locks (lock_of t.locks k h).0 k h s (lock_of t.locks k h).1 there.1 refl).1 ∙ r in
          subst (λ (o : Option ℕ). IsSome o) (sym (holder_there n k t s is there.1)) (out f.entry s (no_guard s none) there.2.1)

-- ---- the lock of what a descriptor names

counted : {X : Type 0} → (X → Bool) → List X → ℕ
counted p [] = 0
counted p (x ∷ xs) = cond (p x) (1 + counted p xs) (counted p xs)

counted_some : {X : Type 0} (p : X → Bool) (xs : List X) (k : ℕ) (x : X) → slice_get xs k ≡ Some x → p x ≡ true → 1 ≤ counted p xs
unfolding counted
counted_some p [] k x e yes_ = absurd (cc e)
counted_some {X} p (y ∷ ys) zero x e yes_ =
    let same : y ≡ x = cc e in
    let one : cond (p y) (1 + counted p ys) (counted p ys) ≡ 1 + counted p ys = ap (λ (t : Bool). cond t (1 + counted p ys) (counted p ys)) (ap p same ∙ yes_) in
    omega (arith, one)
counted_some p (y ∷ ys) (suc k) x e yes_ =
    let more = counted_some p ys k x e yes_ in
    pick (p y) (λ t. 1 ≤ cond t (1 + counted p ys) (counted p ys)) (λ _. omega arith) (λ _. more)

count_some : {X : Type 0} (p : X → Bool) (xs : List X) (k : ℕ) (x : X) → slice_get xs k ≡ Some x → p x ≡ true → 1 ≤ count_by p xs
unfolding counted
count_some p xs k x e yes_ = subst (λ (n : ℕ). 1 ≤ n) (is_count_by (counted p) p refl (λ y ys. refl) xs) (counted_some p xs k x e yes_)

same_number : (n : ℕ) → (n == n) ≡ true
same_number n = grind (arith, nat_tests)

opened_there : (o : Option FilePlace) (f : OpenFile) → open_at o ≡ Some f → o ≡ Some (Open f)
opened_there None f e = absurd (cc e)
opened_there (Some Free) f e = absurd (cc e)
opened_there (Some Taken) f e = absurd (cc e)
opened_there (Some (Open g)) f e = ap (λ (o : Option OpenFile). opened_or o) e
  where
    opened_or : Option OpenFile → Option FilePlace
    opened_or None = None
    opened_or (Some g) = Some (Open g)

file_counted : (h fd : ℕ) (t : TablesState) (f : OpenFile) → IsCounted t → file_named h fd t ≡ Some f → 0 < references_of f.number t
file_counted h fd t f all_counted is = at (place_named h fd t) is
  where
    at : (o : Option ℕ) → file_in t.files o ≡ Some f → 0 < references_of f.number t
    at None e = absurd (cc e)
    at (Some k) e =
        let one = count_some (is_file_of f.number) t.files k (Open f) (opened_there (slice_get t.files k) f e) (same_number f.number) in
        let all = all_counted f.number in
        omega (arith, one, all)

open_waits : (f : OpenFile) (d : ExecResult (Option Loaded) TablesState) → with_open f d ≡ Waits → d ≡ Waits
open_waits f Waits e = refl
open_waits f (Ran a t) e = absurd (cc e)
open_waits f (Stops t) e = absurd (cc e)

opens_wait : (h fd : ℕ) (t : TablesState) → IsSoundInodes t.entries t.locks → IsCounted t → MayLockOpen h (file_named h fd t) t → lock_open h t (file_named h fd t) ≡ Waits
    → MatchOption (file_named h fd t) ⊥ (λ f. IsElsewhere h (lock_holder f.number t))
opens_wait h fd t sound counted may e = at (file_named h fd t) refl may e
  where
    at : (o : Option OpenFile) → file_named h fd t ≡ o → MayLockOpen h o t → lock_open h t o ≡ Waits → MatchOption o ⊥ (λ f. IsElsewhere h (lock_holder f.number t))
    at None is ne z = ne
    at (Some f) is ne z = elsewhere h (lock_holder f.number t) (lock_is_out h f.number t sound (file_counted h fd t f counted is) (open_waits f (lock_inode h f.number t) z)) ne.1

with_waits : (f : OpenFile) (d : ExecResult (Option Loaded) TablesState) → with_file f d ≡ Waits → d ≡ Waits
with_waits f Waits e = refl
with_waits f (Ran a t) e = absurd (cc e)
with_waits f (Stops t) e = absurd (cc e)

file_waits : (h fd : ℕ) (w : Want) (t : TablesState) → IsSoundInodes t.entries t.locks → IsCounted t → MayLockFile h (file_named h fd t) t → lock_file h w fd t ≡ Waits
    → MatchOption (file_named h fd t) ⊥ (λ f. IsElsewhere h (lock_holder f.number t))
unfolding lock_file
file_waits h fd w t sound counted may e = at (file_named h fd t) refl may e
  where
    by : (f : OpenFile) → file_named h fd t ≡ Some f → lock_holder f.number t ≢ Some h → (why : Option Refused) → lock_unless h t (Some f) why ≡ Waits → IsElsewhere h (lock_holder f.number t)
    by f is ne (Some why) z = absurd (cc z)
    by f is ne None z = elsewhere h (lock_holder f.number t) (lock_is_out h f.number t sound (file_counted h fd t f counted is) (with_waits f (lock_inode h f.number t) z)) ne

    at : (o : Option OpenFile) → file_named h fd t ≡ o → MayLockFile h o t → lock_unless h t o (refusal_of w o) ≡ Waits → MatchOption o ⊥ (λ f. IsElsewhere h (lock_holder f.number t))
    at None is ne z = absurd (cc z)
    at (Some f) is ne z = by f is ne.1 (refusal_of w (Some f)) z

-- ---- the log

join_waits_for : (h : ℕ) (l : LogPart) (b : Bool) → join_if h l b ≡ Waits → b ≡ true
join_waits_for h l true e = refl
join_waits_for h l false e = absurd (cc e)

joins_waits : (f : OpenFile) (d : ExecResult (Unit {0}) State) → joins f d ≡ Waits → d ≡ Waits
joins_waits f Waits e = refl
joins_waits f (Ran a s) e = absurd (cc e)
joins_waits f (Stops s) e = absurd (cc e)

unless_waits : (h : ℕ) (s : State) (f : Option OpenFile) → join_unless h s f (refusal_of want.Write f) ≡ Waits → JoinWaits s.log
unless_waits h s None e = absurd (cc e)
unless_waits h s (Some f) e = by (refusal_of want.Write (Some f)) e
  where
    by : (why : Option Refused) → join_unless h s (Some f) why ≡ Waits → JoinWaits s.log
    by (Some why) z = absurd (cc z)
    by None z =
        let b = join_waits s.log.phase (length s.log.group) (joined s.log.members) (limit_of s.log.sizes) in
        join_waits_for h s.log b (within_waits (λ l. record s { log = l }) (join_if h s.log b) (joins_waits f (in_log s (join_if h s.log b)) z))

got_waits_of : (l : LogPart) (r : List SeatState × Got) → block_got l r ≡ Waits → r.1 ≡ got.Waits
got_waits_of l (zs, got.Held guard) e = absurd (cc e)
got_waits_of l (zs, got.Waits) e = refl

read_never : (b : ℕ) (x : Outside) (l : LogPart) → read_block b x l ≡ Waits → ⊥
read_never b Passes l e = cc e
read_never b (Fails after) l e = cc e

write_never : (x : Outside) (l : LogPart) → write_log x l ≡ Waits → ⊥
write_never Passes l e = cc e
write_never (Fails after) l e = cc e

commit_waits_for : (x : Outside) (l : LogPart) (b : Bool) → commit_if x l b ≡ Waits → b ≡ true
commit_waits_for x l true e = refl
commit_waits_for x l false e = absurd (write_never x l e)

claims_never : (d : ExecResult (Option ℕ) State) → claims d ≡ Waits → d ≡ Waits
claims_never Waits e = refl
claims_never (Ran None s) e = absurd (cc e)
claims_never (Ran (Some n) s) e = absurd (cc e)
claims_never (Stops s) e = absurd (cc e)

claim_never : (h b : ℕ) (s : State) (first : Option ℕ) → claim_first h b s first ≡ Waits → ⊥
claim_never h b s None e = cc e
claim_never h b s (Some n) e = up_never n s.tables (within_waits (λ t. record s { tables = t }) (up_inode n s.tables) (claims_never (in_tables s (up_inode n s.tables)) e))

module _ (s : State) where
  of_tables : {A : Type 0} (d : ExecResult A TablesState) → in_tables s d ≡ Waits → d ≡ Waits
  of_tables d e = within_waits (λ t. record s { tables = t }) d e

  of_log : {A : Type 0} (d : ExecResult A LogPart) → in_log s d ≡ Waits → d ≡ Waits
  of_log d e = within_waits (λ l. record s { log = l }) d e

pub waits_where_it_may : WaitsWhereItMay
unfolding exec May MayWait
waits_where_it_may h x Join s whole sound counted may e = join_waits_for h s.log (join_waits s.log.phase (length s.log.group) (joined s.log.members) (limit_of s.log.sizes)) (of_log s _ e)
waits_where_it_may h x (JoinToWrite fd) s whole sound counted may e = unless_waits h s (file_named h fd s.tables) e
waits_where_it_may h x Leave s whole sound counted may e = cc e
waits_where_it_may h x (Get b) s whole sound counted may e =
    let laws = get_laws s.log.contents h b s.log.seats may.0 may.1 whole.cache in
    elsewhere h (holder_of b s.log.seats) (laws.waits.0 (got_waits_of s.log (get_of h b s.log.seats) (of_log s _ e))) may.3
waits_where_it_may h x (Read b) s whole sound counted may e = read_never b x s.log (of_log s _ e)
waits_where_it_may h x (Put b change) s whole sound counted may e = cc e
waits_where_it_may h x Commit s whole sound counted may e = commit_waits_for x s.log (turn_is_out s.log.seats s.log.group s.log.phase) (of_log s _ e)
waits_where_it_may h x (Lock n) s whole sound counted may e = elsewhere h (lock_holder n s.tables) (lock_is_out h n s.tables sound.inodes may.0 (of_tables s (lock_inode h n s.tables) e)) may.1
waits_where_it_may h x (LockFile w fd) s whole sound counted may e = file_waits h fd w s.tables sound.inodes counted may.1 (of_tables s (lock_file h w fd s.tables) e)
waits_where_it_may h x (LockOpen fd) s whole sound counted may e = opens_wait h fd s.tables sound.inodes counted may.1 (of_tables s (lock_open h s.tables (file_named h fd s.tables)) e)
waits_where_it_may h x (Unlock v moved) s whole sound counted may e = cc e
waits_where_it_may h x (SetDirectory v) s whole sound counted may e = settle_never h v s.tables (of_tables s (settle_inode h v s.tables) e)
waits_where_it_may h x (Up whom) s whole sound counted may e = up_whom_never h whom s.tables (of_tables s (up_whom h whom s.tables) e)
waits_where_it_may h x (Claim b candidates) s whole sound counted may e = claim_never h b s (first_free s.tables.entries candidates) e
waits_where_it_may h x (Down drop) s whole sound counted may e = drop_never h drop s.tables (of_tables s (drop_which h drop s.tables) e)
waits_where_it_may h x (CheckFile w fd) s whole sound counted may e = cc e
waits_where_it_may h x TakePlace s whole sound counted may e = place_never h s.tables (of_tables s (take_place h s.tables) e)
waits_where_it_may h x (TakeDescriptor n file) s whole sound counted may e = open_never h n file s.tables (of_tables s (open_file h n file s.tables) e)
waits_where_it_may h x (Double fd) s whole sound counted may e = double_never h fd s.tables (of_tables s (double_descriptor h fd s.tables) e)
waits_where_it_may h x (Close fd) s whole sound counted may e = shut_never h fd s.tables (of_tables s (shut_descriptor h fd s.tables) e)
waits_where_it_may h x (GiveDescriptor child from) s whole sound counted may e = give_never h child from s.tables (of_tables s (give_next h child from s.tables) e)
waits_where_it_may h x Reply s whole sound counted may e = cc e
