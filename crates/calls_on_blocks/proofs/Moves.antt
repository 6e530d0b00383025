-- What each operation makes of the log, as far as a stop is concerned.
use Rattle.calls_on_blocks.proofs.Vocabulary.{◌≡◌, ◌≢◌, ◌⊎◌, inl, inr, ℕ, ◌+◌, ◌==◌, Bool, true, false, List, [], ◌∷◌, Option, Some, None, length, length-set, refl, sym, ap, ◌∙◌, if◌then◌else◌, slice_set, block_at, recovered, IsOutsideLog, SeatState, seen_in, with_seat, with_content, get_of, Got, Progress, Wrote, Ended, Failed, AfterLeave, Free, Commits, Marks, Phase, Open, Staging, Installing, Halted, joined, is_under_way, is_settled, is_running, IsMove, IsCommitMove, begins_at, is_point, write_to, write_of, next_phase, group_in, phase_at_leave, LogState, limit_of, after_leave, after_write, turn_is_out, seats_after, seats_at_fault, join_waits, left_at, done_recovered, failed_recovered, never, leave_facts, open_move, leave_move, commit_move, open_of, ExecResult, Waits, Ran, Stops, Refused, TablesState, file_named, refusal_of, lock_inode, lock_file, settle_inode, up_inode, first_free, take_place, open_file, double_descriptor, shut_descriptor, give_next, LogPart, Outside, Passes, Fails, join_if, got_by, read_block, put_block, commit_if, written, is_open, LeavesIt, LeavesOne, Op, JoinToWrite, Get, Read, Put, Commit, Lock, LockFile, LockOpen, Unlock, Up, Claim, Down, CheckFile, TakePlace, TakeDescriptor, Double, Close, AnswerIt as Reply, exec, in_log, in_tables, joins, join_unless, lock_open, claims, claim_first, up_whom, drop_which, May, Honest, MayPut, IsWholeLog, After, put_shows, shows_its_puts, marks_by, marks_told, at_point, progress_of}
use Rattle.buffer_cache.specs.declared.got.Got.TheVariants as got
use Rattle.fs_machine.specs.declared.files.OpenFile.{OpenFile}
use Rattle.fs_machine.specs.declared.files.Want.TheVariants as want
use Rattle.fs_machine.specs.LogPart.{failed}
use Rattle.fs_machine.specs.Steps.{State, Join, Leave, SetDirectory, GiveDescriptor}
use Rattle.fs_machine.specs.Shown.{seen_of, seen_after}

-- ---- the log's words, of its part

abbrev pub itself : List (List ℕ) → List (List ℕ)
itself disk = disk

abbrev pub log_in : LogPart → LogState (List (List ℕ))
log_in l = record { cache = record { device = l.contents; seats = l.seats }; sizes = l.sizes; group = l.group; members = l.members; phase = l.phase }

-- ---- marks, by the phase of the commit

-- the phase is as it was
pub told_same : (n len : ℕ) (p : Phase) (m : Marks) → marks_told n p (is_point len p) p m ≡ m
told_same n len Open m = refl
told_same n len (Staging i) m = refl
told_same n len (Installing i) m = refl
told_same n len Halted m = refl

told_left : (n j : ℕ) (group : List ℕ) (p : Phase) (point : Bool) (m : Marks) → p ≡ Open → marks_told (n + 1) p point (phase_at_leave j group) m ≡ after_leave n (left_at j group) m
told_left n j [] p point m opens = refl
told_left n j (b ∷ group) p point m opens = by (j == 0)
  where
    by : (none : Bool) → marks_told (n + 1) p point (if none then Staging 0 else Open) m ≡ after_leave n (if none then Commits else Free) m
    by true = ap (λ (q : Phase). marks_told (n + 1) q point (Staging 0) m) opens
    by false = refl

told_wrote : (n len : ℕ) (p : Phase) (m : Marks) → (p ≢ Open) × (p ≢ Halted) → marks_told n p (is_point len p) (next_phase len p) m ≡ after_write (is_point len p) (progress_of (is_open (next_phase len p))) m
told_wrote n len Open m begun = absurd (begun.0 refl)
told_wrote n len (Staging i) m begun = by (i == len)
  where
    by : (last : Bool) → marks_told n (Staging i) last (if last then Installing 0 else Staging (i + 1)) m ≡ after_write last (progress_of (is_open (if last then Installing 0 else Staging (i + 1)))) m
    by true = refl
    by false = refl
told_wrote n len (Installing i) m begun = by (i == len)
  where
    by : (last : Bool) → marks_told n (Installing i) false (if last then Open else Installing (i + 1)) m ≡ after_write false (progress_of (is_open (if last then Open else Installing (i + 1)))) m
    by true = refl
    by false = refl
told_wrote n len Halted m begun = absurd (begun.1 refl)

-- ---- operations

-- the state after an operation, also if it waited
abbrev pub came_to : {A : Type 0} → State → ExecResult A State → State
came_to s Waits = s
came_to s (Ran a t) = t
came_to s (Stops t) = t

abbrev pub Moved : (begins stands : Bool) → LogPart → LogPart → Type 0
Moved begins stands l k = IsMove itself begins stands (log_in l) (log_in k)

-- nothing is seen or recovered otherwise
unseen : (l k : LogPart) → k.sizes ≡ l.sizes → k.contents ≡ l.contents → k.phase ≡ l.phase → ((b : ℕ) → IsOutsideLog l.sizes b → seen_of k b ≡ seen_of l b) → Moved false false l k
unseen l k sizes disk phase see = record {
  sizes = sizes;
  becomes = λ b out. ap (λ (d : List (List ℕ)). recovered d b) disk;
  still = λ now. see;
  in_commit = λ e. never e;
  begun_before = λ now e. ap is_under_way (sym phase) ∙ now;
  settles = λ now. (refl, inr (ap is_settled (sym phase) ∙ now));
  alone = λ e. never e;
  runs = λ now. ap is_running (sym phase) ∙ now;
}

pub same_move : (l : LogPart) → Moved false false l l
same_move l = unseen l l refl refl refl (λ b out. refl)

-- whether an operation ran
abbrev pub is_ran : {A S : Type 0} → ExecResult A S → Bool
is_ran Waits = false
is_ran (Ran a t) = true
is_ran (Stops t) = false

module _ (n h : ℕ) (s : State) (m : Marks) (whole : IsWholeLog s.log) where
  abbrev l : LogPart
  l = s.log

  -- the marks are what the log's phases say
  abbrev pub IsTold : {A : Type 0} → ExecResult A State → Marks → Type 0
  IsTold d m' = marks_told (n + 1) l.phase (at_point l) (came_to s d).log.phase m ≡ m'

  -- What an event does to the log and to the marks, at an operation with outcome d. It is neither a leave nor a write
  -- of a commit; or a leave, which ran; or a write of a commit. The disk has its old count of blocks.
  abbrev pub Goes : {A : Type 0} → ExecResult A State → Marks → Type 0
  Goes d m' =
      (length (came_to s d).log.contents ≡ length l.contents)
      × IsTold d m'
      × ((Moved false false l (came_to s d).log × (m' ≡ m))
      ⊎ (((r : AfterLeave) × Moved (begins_at r) false l (came_to s d).log × (is_running l.phase ≡ true) × (m' ≡ after_leave n r m) × (is_ran d ≡ true))
      ⊎ ((r : Progress) × IsCommitMove itself r (log_in l) (log_in (came_to s d).log) × (is_running l.phase ≡ true) × (m' ≡ after_write (at_point l) r m))))

  still : marks_told (n + 1) l.phase (at_point l) l.phase m ≡ m
  still = told_same (n + 1) (length l.group) l.phase m

  tables_go : {A : Type 0} (d : ExecResult A TablesState) → Goes (in_tables s d) m
  tables_go Waits = (refl, still, inl (same_move l, refl))
  tables_go (Ran a t) = (refl, still, inl (same_move l, refl))
  tables_go (Stops t) = (refl, still, inl (same_move l, refl))

  joined_move : Moved false false l (record l { members = slice_set l.members h (Some 0) })
  joined_move = unseen l (record l { members = slice_set l.members h (Some 0) }) refl refl refl (λ b out. refl)

  join_goes : (b : Bool) → Goes (in_log s (join_if h l b)) m
  join_goes true = (refl, still, inl (same_move l, refl))
  join_goes false = (refl, still, inl (joined_move, refl))

  joins_go : (f : OpenFile) (b : Bool) → Goes (joins f (in_log s (join_if h l b))) m
  joins_go f true = (refl, still, inl (same_move l, refl))
  joins_go f false = (refl, still, inl (joined_move, refl))

  unless_goes : (f : Option OpenFile) (why : Option Refused) → Goes (join_unless h s f why) m
  unless_goes None (Some why) = (refl, still, inl (same_move l, refl))
  unless_goes (Some f) (Some why) = (refl, still, inl (same_move l, refl))
  unless_goes None None = (refl, still, inl (same_move l, refl))
  unless_goes (Some f) None = joins_go f (join_waits l.phase (length l.group) (joined l.members) (limit_of l.sizes))

  abbrev left_log : LogPart
  left_log = record l { members = slice_set l.members h None; phase = phase_at_leave (joined (slice_set l.members h None)) l.group }

  abbrev left_as : AfterLeave
  left_as = left_at (joined (slice_set l.members h None)) l.group

  leave_goes : l.phase ≡ Open → Goes (Ran left_as (record s { log = left_log })) (after_leave n left_as m)
  leave_goes opens =
      let facts = leave_facts (joined (slice_set l.members h None)) l.group left_as left_log.phase refl refl in
      (refl, told_left n (joined (slice_set l.members h None)) l.group l.phase (at_point l) m opens, inr (inl (left_as, leave_move itself (log_in l) (log_in left_log) refl (begins_at left_as) refl (λ b. refl) opens facts, ap is_running opens, refl, refl)))

  got_goes : (r : List SeatState × Got) → After (λ (t : State). (k : ℕ) → IsOutsideLog l.sizes k → seen_of t.log k ≡ seen_of l k) (in_log s (got_by l r)) → Goes (in_log s (got_by l r)) m
  got_goes (zs, got.Held guard) see = (refl, still, inl (unseen l (record l { seats = zs }) refl refl refl see, refl))
  got_goes (zs, got.Waits) see = (refl, still, inl (same_move l, refl))

  abbrev read_log : ℕ → LogPart
  read_log b = record l { seats = with_seat b (with_content (block_at l.contents b)) l.seats }

  read_goes : (b : ℕ) (x : Outside) → LeavesIt l.contents x → After (λ (t : State). (k : ℕ) → IsOutsideLog l.sizes k → seen_of t.log k ≡ seen_of l k) (in_log s (read_block b x l)) → Goes (in_log s (read_block b x l)) m
  read_goes b Passes honest see = (refl, still, inl (unseen l (read_log b) refl refl refl see, refl))
  read_goes b (Fails after) honest see = (ap length honest, still, inl (unseen l (failed l after) refl honest refl see, refl))

  put_move : (b : ℕ) (change : Option (List ℕ)) → MayPut h b change l → Moved false false l (put_block h b change l)
  put_move b None may = unseen l (put_block h b None l) refl refl refl (λ k out. put_shows h s whole b None may k)
  put_move b (Some bytes) may =
      let opens : l.phase ≡ Open = open_of l.phase l.members h whole.log.quiet may.2.2 may.2.1 in
      open_move itself (log_in l) (log_in (put_block h b (Some bytes) l)) refl refl opens opens

  claims_go : (d : ExecResult (Option ℕ) TablesState) → Goes (claims (in_tables s d)) m
  claims_go Waits = (refl, still, inl (same_move l, refl))
  claims_go (Ran None t) = (refl, still, inl (same_move l, refl))
  claims_go (Ran (Some n) t) = (refl, still, inl (same_move l, refl))
  claims_go (Stops t) = (refl, still, inl (same_move l, refl))

  claim_goes : (b : ℕ) → MayPut h b None l → (o : Option ℕ) → Goes (claim_first h b s o) m
  claim_goes b may None = (refl, still, inl (put_move b None may, refl))
  claim_goes b may (Some n) = claims_go (up_inode n s.tables)

  -- a write of a commit
  module _ (begun : (l.phase ≢ Open) × (l.phase ≢ Halted)) where
    wrote : (k : LogPart) (ended : Bool) → k.sizes ≡ l.sizes → k.contents ≡ written l → k.phase ≡ next_phase (length l.group) l.phase → ((b : ℕ) → IsOutsideLog l.sizes b → seen_of k b ≡ seen_of l b)
        → IsCommitMove itself (progress_of ended) (log_in l) (log_in k)
    wrote k ended sizes disk phase see = at ended
      where
        becomes : (b : ℕ) → IsOutsideLog l.sizes b → recovered k.contents b ≡ (if is_point (length l.group) l.phase then seen_of l b else recovered l.contents b)
        becomes = done_recovered l.contents k.contents l.seats k.seats l.sizes l.group l.group l.members l.phase whole.log begun refl disk see

        at : (e : Bool) → IsCommitMove itself (progress_of e) (log_in l) (log_in k)
        at true = commit_move itself (log_in l) (log_in k) Ended sizes begun tt phase becomes tt tt see
        at false = commit_move itself (log_in l) (log_in k) Wrote sizes begun tt phase becomes tt tt see

    running : is_running l.phase ≡ true
    running = by l.phase begun
      where
        by : (p : Phase) → (p ≢ Open) × (p ≢ Halted) → is_running p ≡ true
        by Open o = refl
        by (Staging i) o = refl
        by (Installing i) o = refl
        by Halted o = absurd (o.1 refl)

    abbrev ended : Bool
    ended = is_open (next_phase (length l.group) l.phase)

    abbrev after_log : LogPart
    after_log = record l {
      contents = written l;
      seats = seats_after l.group l.phase l.seats;
      group = group_in (next_phase (length l.group) l.phase) l.group;
      phase = next_phase (length l.group) l.phase;
    }

    abbrev halted : List (List ℕ) → LogPart
    halted after = record (failed l after) { seats = seats_at_fault l.group l.phase l.seats; phase = Halted }

    commit_goes : (x : Outside) → LeavesOne l.contents (written l) x → (b : Bool)
        → After (λ (t : State). (k : ℕ) → IsOutsideLog l.sizes k → seen_of t.log k ≡ seen_of l k) (in_log s (commit_if x l b)) → Goes (in_log s (commit_if x l b)) (marks_by n l Commit (in_log s (commit_if x l b)) m)
    commit_goes x honest true see = (refl, still, inl (same_move l, refl))
    commit_goes Passes honest false see = (length-set l.contents (write_to l.sizes l.group l.phase) (write_of (seen_in l.contents l.seats) l.group l.phase), told_wrote (n + 1) (length l.group) l.phase m begun, inr (inr (progress_of ended, wrote after_log ended refl refl refl see, running, refl)))
    commit_goes (Fails after) honest false see = (
      elim honest [ inl is ↦ ap length is | inr is ↦ ap length is ∙ length-set l.contents (write_to l.sizes l.group l.phase) (write_of (seen_in l.contents l.seats) l.group l.phase) ],
      refl,
      inr (inr (
        Failed,
        commit_move itself (log_in l) (log_in (halted after)) Failed refl begun tt tt tt refl
            (failed_recovered l.contents after l.seats (halted after).seats l.sizes l.group l.group l.members l.phase whole.log begun refl honest see) see,
        running,
        refl,
      )),
    )

put_long : (h b : ℕ) (change : Option (List ℕ)) (l : LogPart) → length (put_block h b change l).contents ≡ length l.contents
put_long h b None l = refl
put_long h b (Some bytes) l = refl

put_told : (n h b : ℕ) (change : Option (List ℕ)) (l : LogPart) (m : Marks) → marks_told n l.phase (at_point l) (put_block h b change l).phase m ≡ m
put_told n h b None l m = told_same n (length l.group) l.phase m
put_told n h b (Some bytes) l m = told_same n (length l.group) l.phase m

op_by : (n h : ℕ) (s : State) (m : Marks) (whole : IsWholeLog s.log) (x : Outside) (op : Op) → May h op s → Honest h op s x
    → After (λ (t : State). (k : ℕ) → IsOutsideLog s.log.sizes k → seen_of t.log k ≡ seen_after op (seen_of s.log) k) (exec h x op s) → Goes n h s m whole (exec h x op s) (marks_by n s.log op (exec h x op s) m)
unfolding exec May Honest
op_by n h s m whole x Join may honest see = join_goes n h s m whole (join_waits s.log.phase (length s.log.group) (joined s.log.members) (limit_of s.log.sizes))
op_by n h s m whole x (JoinToWrite fd) may honest see = unless_goes n h s m whole (file_named h fd s.tables) (refusal_of want.Write (file_named h fd s.tables))
op_by n h s m whole x Leave may honest see = leave_goes n h s m whole (open_of s.log.phase s.log.members h whole.log.quiet may.1 may.0)
op_by n h s m whole x (Get b) may honest see = got_goes n h s m whole (get_of h b s.log.seats) see
op_by n h s m whole x (Read b) may honest see = read_goes n h s m whole b x honest see
op_by n h s m whole x (Put b change) may honest see = (put_long h b change s.log, put_told (n + 1) h b change s.log m, inl (put_move n h s m whole b change may, refl))
op_by n h s m whole x Commit may honest see = commit_goes n h s m whole (may.2, may.3) x honest (turn_is_out s.log.seats s.log.group s.log.phase) see
op_by n h s m whole x (Lock k) may honest see = tables_go n h s m whole (lock_inode h k s.tables)
op_by n h s m whole x (LockFile w fd) may honest see = tables_go n h s m whole (lock_file h w fd s.tables)
op_by n h s m whole x (LockOpen fd) may honest see = tables_go n h s m whole (lock_open h s.tables (file_named h fd s.tables))
op_by n h s m whole x (Unlock v moved) may honest see = (refl, still n h s m whole, inl (same_move s.log, refl))
op_by n h s m whole x (SetDirectory v) may honest see = tables_go n h s m whole (settle_inode h v s.tables)
op_by n h s m whole x (Up whom) may honest see = tables_go n h s m whole (up_whom h whom s.tables)
op_by n h s m whole x (Claim b candidates) may honest see = claim_goes n h s m whole b may (first_free s.tables.entries candidates)
op_by n h s m whole x (Down drop) may honest see = tables_go n h s m whole (drop_which h drop s.tables)
op_by n h s m whole x (CheckFile w fd) may honest see = (refl, still n h s m whole, inl (same_move s.log, refl))
op_by n h s m whole x TakePlace may honest see = tables_go n h s m whole (take_place h s.tables)
op_by n h s m whole x (TakeDescriptor k file) may honest see = tables_go n h s m whole (open_file h k file s.tables)
op_by n h s m whole x (Double fd) may honest see = tables_go n h s m whole (double_descriptor h fd s.tables)
op_by n h s m whole x (Close fd) may honest see = tables_go n h s m whole (shut_descriptor h fd s.tables)
op_by n h s m whole x (GiveDescriptor child from) may honest see = tables_go n h s m whole (give_next h child from s.tables)
op_by n h s m whole x Reply may honest see = (refl, still n h s m whole, inl (same_move s.log, refl))

pub op_goes : (n h : ℕ) (s : State) (m : Marks) (whole : IsWholeLog s.log) (x : Outside) (op : Op) → May h op s → Honest h op s x → Goes n h s m whole (exec h x op s) (marks_by n s.log op (exec h x op s) m)
op_goes n h s m whole x op may honest = op_by n h s m whole x op may honest (shows_its_puts h x op s whole may honest)
