-- No operation of a hart changes what is another's of the log.
use Rattle.fs_machine.proofs.Vocabulary.{◌≡◌, ◌≢◌, inl, inr, ℕ, zero, suc, Bool, true, false, List, [], ◌∷◌, Option, Some, None, length, refl, sym, subst, ap, ◌∙◌, if◌then◌else◌, slice_get, slice_set, slice_get-set_other, get_of, SeatState, holder_of, with_seat, with_content, Got, has, joined, next_phase, group_in, phase_at_leave, limit_of, turn_is_out, seats_after, seats_at_fault, Halted, join_waits, pick, ExecResult, Waits, Ran, Stops, OpenFile, Refused, TablesState, file_named, refusal_of, lock_inode, lock_file, settle_inode, up_inode, first_free, take_place, open_file, double_descriptor, shut_descriptor, give_next, LogPart, Outside, Passes, Fails, with_seats, join_if, got_by, read_block, put_block, commit_if, write_log, written, failed, LeavesOne, LeavesIt, State, Join, JoinToWrite, Leave, Get, Read, Put, Commit, Lock, LockFile, LockOpen, Unlock, SetDirectory, Up, Claim, Down, CheckFile, TakePlace, TakeDescriptor, Double, Close, GiveDescriptor, Reply, exec, in_log, in_tables, joins, join_unless, lock_open, claims, claim_first, up_whom, drop_which, May, Honest, IsWholeLog, After, own_of, LeavesOwn}
use Rattle.std.proofs.lemmas.List.{length-set}
use Rattle.block_device.specs.Blocks.{block_at}
use Rattle.buffer_cache.specs.declared.got.Got.TheVariants as got
use Rattle.group_log.specs.Group.{one_more}
use Rattle.fs_machine.specs.declared.files.Want.TheVariants as want
use Rattle.fs_machine.proofs.Owning.{SameFor, same_for, same_get, same_content, same_put, same_back, same_fault, same_after, not_mine_held}

owns : (g : ℕ) (s t : LogPart) → slice_get t.members g ≡ slice_get s.members g → SameFor g s.seats t.seats → t.sizes ≡ s.sizes → length t.contents ≡ length s.contents → own_of g t ≡ own_of g s
owns g s t member seats sizes blocks = λ i. record { member = member i; buffers = λ b. seats.each b i; count = seats.count i; sizes = sizes i; blocks = blocks i }

one_more_other : (ms : List (Option ℕ)) (h g : ℕ) → g ≢ h → slice_get (one_more ms h) g ≡ slice_get ms g
one_more_other [] h g ne = refl
one_more_other (None ∷ ms) zero g ne = refl
one_more_other (Some k ∷ ms) zero zero ne = absurd (ne refl)
one_more_other (Some k ∷ ms) zero (suc g) ne = refl
one_more_other (None ∷ ms) (suc h) zero ne = refl
one_more_other (Some k ∷ ms) (suc h) zero ne = refl
one_more_other (None ∷ ms) (suc h) (suc g) ne = one_more_other ms h g (λ e. ne (ap suc e))
one_more_other (Some k ∷ ms) (suc h) (suc g) ne = one_more_other ms h g (λ e. ne (ap suc e))

module _ (h g : ℕ) (s : State) (ne : g ≢ h) (whole : IsWholeLog s.log) where
  abbrev l : LogPart
  l = s.log

  abbrev Same : {A : Type 0} → ExecResult A State → Type 0
  Same d = After (λ (t : State). own_of g t.log ≡ own_of g l) d

  -- a step on the tables alone
  tables_own : {A : Type 0} (d : ExecResult A TablesState) → Same (in_tables s d)
  tables_own Waits = tt
  tables_own (Ran a t) = refl
  tables_own (Stops t) = refl

  join_own : own_of g (record l { members = slice_set l.members h (Some 0) }) ≡ own_of g l
  join_own = owns g l (record l { members = slice_set l.members h (Some 0) }) (slice_get-set_other l.members h g (Some 0) ne) (same_for g l.seats) refl refl

  join_owns : (b : Bool) → Same (in_log s (join_if h l b))
  join_owns true = tt
  join_owns false = join_own

  joins_owns : (f : OpenFile) (b : Bool) → Same (joins f (in_log s (join_if h l b)))
  joins_owns f true = tt
  joins_owns f false = join_own

  unless_owns : (f : Option OpenFile) (why : Option Refused) → Same (join_unless h s f why)
  unless_owns None (Some why) = refl
  unless_owns (Some f) (Some why) = refl
  unless_owns None None = tt
  unless_owns (Some f) None = joins_owns f (join_waits l.phase (length l.group) (joined l.members) (limit_of l.sizes))

  get_owns : (b : ℕ) (r : List SeatState × Got) → r ≡ get_of h b l.seats → Same (in_log s (got_by l r))
  get_owns b (zs, got.Held guard) e =
      owns g l (with_seats l zs) refl (subst (λ (r : List SeatState × Got). SameFor g l.seats r.0) (sym e) (same_get h g b l.seats ne whole.cache.once)) refl refl
  get_owns b (zs, got.Waits) e = tt

  read_owns : (b : ℕ) (x : Outside) → holder_of b l.seats ≡ Some h → LeavesIt l.contents x → Same (in_log s (read_block b x l))
  read_owns b Passes out honest = owns g l (with_seats l (with_seat b (with_content (block_at l.contents b)) l.seats)) refl (same_content g b (block_at l.contents b) l.seats (not_mine_held h g b l.seats ne out)) refl refl
  read_owns b (Fails after) out honest = owns g l (failed l after) refl (same_for g l.seats) refl (ap (λ (d : List (List ℕ)). length d) honest)

  put_owns : (b : ℕ) (change : Option (List ℕ)) → holder_of b l.seats ≡ Some h → own_of g (put_block h b change l) ≡ own_of g l
  put_owns b None out = owns g l (put_block h b None l) refl (same_back g b l.seats (whole.cache.once b) (not_mine_held h g b l.seats ne out)) refl refl
  put_owns b (Some bytes) out =
      owns g l (put_block h b (Some bytes) l)
      (pick (has l.group b) (λ t. slice_get (if t then l.members else one_more l.members h) g ≡ slice_get l.members g) (λ _. refl) (λ _. one_more_other l.members h g ne))
      (same_put g b bytes l.seats (whole.cache.once b) (not_mine_held h g b l.seats ne out)) refl refl

  claims_own : (d : ExecResult (Option ℕ) TablesState) → Same (claims (in_tables s d))
  claims_own Waits = tt
  claims_own (Ran None t) = refl
  claims_own (Ran (Some n) t) = refl
  claims_own (Stops t) = refl

  claim_owns : (b : ℕ) → holder_of b l.seats ≡ Some h → (first : Option ℕ) → Same (claim_first h b s first)
  claim_owns b out None = put_owns b None out
  claim_owns b out (Some n) = claims_own (up_inode n s.tables)

  write_owns : (x : Outside) → LeavesOne l.contents (written l) x → turn_is_out l.seats l.group l.phase ≡ false → Same (in_log s (write_log x l))
  write_owns Passes honest turn =
      owns g l
      (record l {
        contents = written l;
        seats = seats_after l.group l.phase l.seats;
        group = group_in (next_phase (length l.group) l.phase) l.group;
        phase = next_phase (length l.group) l.phase;
      })
      refl (same_after g l.group l.seats whole.cache.once l.phase turn) refl (length-set l.contents _ _)
  write_owns (Fails after) honest turn =
      owns g l (record (failed l after) { seats = seats_at_fault l.group l.phase l.seats; phase = Halted }) refl (same_fault g l.group l.seats whole.cache.once l.phase turn) refl
      (elim honest [
        | inl is ↦ ap (λ (d : List (List ℕ)). length d) is
        | inr is ↦ ap (λ (d : List (List ℕ)). length d) is ∙ length-set l.contents _ _
      ])

  commit_owns : (x : Outside) → LeavesOne l.contents (written l) x → (out : Bool) → turn_is_out l.seats l.group l.phase ≡ out → Same (in_log s (commit_if x l out))
  commit_owns x honest true e = tt
  commit_owns x honest false e = write_owns x honest e

pub leaves_own : LeavesOwn
unfolding exec May Honest
leaves_own h g x Join s ne whole may honest = join_owns h g s ne whole (join_waits s.log.phase (length s.log.group) (joined s.log.members) (limit_of s.log.sizes))
leaves_own h g x (JoinToWrite fd) s ne whole may honest = unless_owns h g s ne whole (file_named h fd s.tables) (refusal_of want.Write (file_named h fd s.tables))
leaves_own h g x Leave s ne whole may honest =
    owns g s.log (record s.log { members = slice_set s.log.members h None; phase = phase_at_leave (joined (slice_set s.log.members h None)) s.log.group })
    (slice_get-set_other s.log.members h g None ne) (same_for g s.log.seats) refl refl
leaves_own h g x (Get b) s ne whole may honest = get_owns h g s ne whole b (get_of h b s.log.seats) refl
leaves_own h g x (Read b) s ne whole may honest = read_owns h g s ne whole b x may.0 honest
leaves_own h g x (Put b change) s ne whole may honest = put_owns h g s ne whole b change may.0
leaves_own h g x Commit s ne whole may honest = commit_owns h g s ne whole x honest (turn_is_out s.log.seats s.log.group s.log.phase) refl
leaves_own h g x (Lock n) s ne whole may honest = tables_own h g s ne whole (lock_inode h n s.tables)
leaves_own h g x (LockFile w fd) s ne whole may honest = tables_own h g s ne whole (lock_file h w fd s.tables)
leaves_own h g x (LockOpen fd) s ne whole may honest = tables_own h g s ne whole (lock_open h s.tables (file_named h fd s.tables))
leaves_own h g x (Unlock v moved) s ne whole may honest = refl
leaves_own h g x (SetDirectory v) s ne whole may honest = tables_own h g s ne whole (settle_inode h v s.tables)
leaves_own h g x (Up whom) s ne whole may honest = tables_own h g s ne whole (up_whom h whom s.tables)
leaves_own h g x (Claim b candidates) s ne whole may honest = claim_owns h g s ne whole b may.0 (first_free s.tables.entries candidates)
leaves_own h g x (Down drop) s ne whole may honest = tables_own h g s ne whole (drop_which h drop s.tables)
leaves_own h g x (CheckFile w fd) s ne whole may honest = refl
leaves_own h g x TakePlace s ne whole may honest = tables_own h g s ne whole (take_place h s.tables)
leaves_own h g x (TakeDescriptor n file) s ne whole may honest = tables_own h g s ne whole (open_file h n file s.tables)
leaves_own h g x (Double fd) s ne whole may honest = tables_own h g s ne whole (double_descriptor h fd s.tables)
leaves_own h g x (Close fd) s ne whole may honest = tables_own h g s ne whole (shut_descriptor h fd s.tables)
leaves_own h g x (GiveDescriptor child from) s ne whole may honest = tables_own h g s ne whole (give_next h child from s.tables)
leaves_own h g x Reply s ne whole may honest = refl
