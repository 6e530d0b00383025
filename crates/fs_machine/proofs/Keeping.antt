-- Each operation keeps the log whole.
use Rattle.fs_machine.proofs.Vocabulary.{◌≡◌, ℕ, Bool, true, false, List, Option, Some, None, length, refl, sym, subst, IsOutsideLog, get_of, SeatState, holder_of, kept, Got, joined, limit_of, turn_is_out, join_waits, IsWhole, LeadsToWhole, Open, Halted, calls_keep_whole, ExecResult, Waits, Ran, Stops, OpenFile, Refused, TablesState, file_named, refusal_of, lock_inode, lock_file, settle_inode, up_inode, first_free, take_place, open_file, double_descriptor, shut_descriptor, give_next, Outside, Passes, Fails, join_if, got_by, read_block, put_block, commit_if, written, LeavesIt, LeavesOne, State, Join, JoinToWrite, Leave, Get, Read, Put, Commit, Lock, LockFile, LockOpen, Unlock, SetDirectory, Up, Claim, Down, CheckFile, TakePlace, TakeDescriptor, Double, Close, GiveDescriptor, Reply, exec, in_log, in_tables, joins, join_unless, lock_open, claims, claim_first, up_whom, drop_which, May, Honest, MayPut, MayJoin, IsWholeLog, After, KeepsWhole}
use Rattle.buffer_cache.specs.declared.got.Got.TheVariants as got
use Rattle.fs_machine.specs.declared.files.Want.TheVariants as want

abbrev Kept : {A : Type 0} → ExecResult A State → Type 0
Kept d = After (λ (t : State). IsWholeLog t.log) d

-- a step on the tables alone
tables_keep : {A : Type 0} (s : State) → IsWholeLog s.log → (d : ExecResult A TablesState) → Kept (in_tables s d)
tables_keep s whole Waits = tt
tables_keep s whole (Ran a t) = whole
tables_keep s whole (Stops t) = whole

module _ (h : ℕ) (s : State) (whole : IsWholeLog s.log) where
  leads : LeadsToWhole s.log.contents s.log.seats s.log.sizes s.log.group s.log.members s.log.phase
  leads = calls_keep_whole s.log.contents s.log.seats s.log.sizes s.log.group s.log.members s.log.phase whole

  join_keeps : MayJoin h s.log → (b : Bool) → join_waits s.log.phase (length s.log.group) (joined s.log.members) (limit_of s.log.sizes) ≡ b → Kept (in_log s (join_if h s.log b))
  join_keeps may true e = tt
  join_keeps may false e = leads.join h may.1 e

  joins_keeps : MayJoin h s.log → (f : OpenFile) (b : Bool) → join_waits s.log.phase (length s.log.group) (joined s.log.members) (limit_of s.log.sizes) ≡ b → Kept (joins f (in_log s (join_if h s.log b)))
  joins_keeps may f true e = tt
  joins_keeps may f false e = leads.join h may.1 e

  unless_keeps : MayJoin h s.log → (f : Option OpenFile) (why : Option Refused) → Kept (join_unless h s f why)
  unless_keeps may None (Some why) = whole
  unless_keeps may (Some f) (Some why) = whole
  unless_keeps may None None = tt
  unless_keeps may (Some f) None = joins_keeps may f (join_waits s.log.phase (length s.log.group) (joined s.log.members) (limit_of s.log.sizes)) refl

  get_keeps : (r : List SeatState × Got) → IsWhole s.log.contents r.0 s.log.sizes s.log.group s.log.members s.log.phase → Kept (in_log s (got_by s.log r))
  get_keeps (seats, got.Held guard) after = after
  get_keeps (seats, got.Waits) after = tt

  put_keeps : (b : ℕ) (change : Option (List ℕ)) → MayPut h b change s.log → IsWholeLog (put_block h b change s.log)
  put_keeps b None may = leads.release b may.1
  put_keeps b (Some bytes) may = leads.put h h b bytes may.0 may.2.0 may.2.1 may.2.2 may.2.3 may.2.4

  claims_keeps : (d : ExecResult (Option ℕ) TablesState) → Kept (claims (in_tables s d))
  claims_keeps Waits = tt
  claims_keeps (Ran None t) = whole
  claims_keeps (Ran (Some n) t) = whole
  claims_keeps (Stops t) = whole

  claim_keeps : (b : ℕ) → MayPut h b None s.log → (first : Option ℕ) → Kept (claim_first h b s first)
  claim_keeps b may None = put_keeps b None may
  claim_keeps b may (Some n) = claims_keeps (up_inode n s.tables)

  commit_keeps : (x : Outside) → LeavesOne s.log.contents (written s.log) x → (s.log.phase ≡ Open → ⊥) → (s.log.phase ≡ Halted → ⊥) → (out : Bool) → Kept (in_log s (commit_if x s.log out))
  commit_keeps x honest begun running true = tt
  commit_keeps Passes honest begun running false = leads.commit begun running
  commit_keeps (Fails after) honest begun running false = leads.fault begun running after honest

  read_keeps : (b : ℕ) (x : Outside) → LeavesIt s.log.contents x → holder_of b s.log.seats ≡ Some h → kept b s.log.seats ≡ None → IsOutsideLog s.log.sizes b → Kept (in_log s (read_block b x s.log))
  read_keeps b Passes honest out unread outside = leads.fill h b out unread outside
  read_keeps b (Fails after) honest out unread outside = subst (λ (d : List (List ℕ)). IsWhole d s.log.seats s.log.sizes s.log.group s.log.members s.log.phase) (sym honest) whole

pub keeps_whole : KeepsWhole
unfolding exec May Honest
keeps_whole h x Join s whole may honest = join_keeps h s whole may (join_waits s.log.phase (length s.log.group) (joined s.log.members) (limit_of s.log.sizes)) refl
keeps_whole h x (JoinToWrite fd) s whole may honest = unless_keeps h s whole may (file_named h fd s.tables) (refusal_of want.Write (file_named h fd s.tables))
keeps_whole h x Leave s whole may honest = (leads h s whole).leave h may.0 may.1
keeps_whole h x (Get b) s whole may honest = get_keeps h s whole (get_of h b s.log.seats) ((leads h s whole).get h b may.0 may.1 may.2)
keeps_whole h x (Read b) s whole may honest = read_keeps h s whole b x honest may.0 may.2 may.1
keeps_whole h x (Put b change) s whole may honest = put_keeps h s whole b change may
keeps_whole h x Commit s whole may honest = commit_keeps h s whole x honest may.2 may.3 (turn_is_out s.log.seats s.log.group s.log.phase)
keeps_whole h x (Lock n) s whole may honest = tables_keep s whole (lock_inode h n s.tables)
keeps_whole h x (LockFile w fd) s whole may honest = tables_keep s whole (lock_file h w fd s.tables)
keeps_whole h x (LockOpen fd) s whole may honest = tables_keep s whole (lock_open h s.tables (file_named h fd s.tables))
keeps_whole h x (Unlock v moved) s whole may honest = whole
keeps_whole h x (SetDirectory v) s whole may honest = tables_keep s whole (settle_inode h v s.tables)
keeps_whole h x (Up whom) s whole may honest = tables_keep s whole (up_whom h whom s.tables)
keeps_whole h x (Claim b candidates) s whole may honest = claim_keeps h s whole b may (first_free s.tables.entries candidates)
keeps_whole h x (Down drop) s whole may honest = tables_keep s whole (drop_which h drop s.tables)
keeps_whole h x (CheckFile w fd) s whole may honest = whole
keeps_whole h x TakePlace s whole may honest = tables_keep s whole (take_place h s.tables)
keeps_whole h x (TakeDescriptor n file) s whole may honest = tables_keep s whole (open_file h n file s.tables)
keeps_whole h x (Double fd) s whole may honest = tables_keep s whole (double_descriptor h fd s.tables)
keeps_whole h x (Close fd) s whole may honest = tables_keep s whole (shut_descriptor h fd s.tables)
keeps_whole h x (GiveDescriptor child from) s whole may honest = tables_keep s whole (give_next h child from s.tables)
keeps_whole h x Reply s whole may honest = whole
