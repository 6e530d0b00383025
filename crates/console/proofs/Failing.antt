-- The device has failed once more when an operation stops.
use Rattle.console.proofs.Vocabulary.{◌≡◌, ℕ, ◌+◌, min, Bool, true, false, List, Option, Some, None, refl, most_faults, get_of, SeatState, Got, joined_count as joined, limit_of, turn_is_out, join_waits, SlotState, GuardState, lock_of, ExecResult, Waits, Ran, Stops, Loaded, Inode, NewFile, OpenFile, RefusedState as Refused, Want, TablesState, file_named, place_named, place_of, Outside, Passes, Fails, got_by, join_if, read_block, commit_if, write_log, State, Op, Join, JoinToWrite, Leave, Get, Read, Put, Commit, Lock, LockFile, LockOpen, Unlock, SetDirectory, Up, Claim, Down, CheckFile, TakePlace, TakeDescriptor, Double, Close, GiveDescriptor, Reply, Number, Directory, Held, Walked, Freed, exec, in_log, in_tables, joins, join_unless, lock_open, with_open, claims, claim_first}
use Rattle.buffer_cache.specs.declared.got.Got.TheVariants as got
use Rattle.fs_machine.specs.declared.files.Want.TheVariants as want
use Rattle.fs_machine.specs.Inodes as inodes
use Rattle.fs_machine.specs.Files as files

-- ---- no step on the tables stops

abbrev GoesOn : {A S : Type 0} → ExecResult A S → Type 0
GoesOn Waits = Unit {0}
GoesOn (Ran a s) = Unit {0}
GoesOn (Stops s) = ⊥

got_goes : (t : TablesState) (r : List (SlotState Inode) × Option (GuardState Inode)) → GoesOn (inodes.got_by t r)
got_goes t (locks, None) = tt
got_goes t (locks, Some guard) = tt

lock_at_goes : (h : ℕ) (t : TablesState) (o : Option ℕ) → GoesOn (inodes.lock_at h t o)
lock_at_goes h t None = tt
lock_at_goes h t (Some k) = got_goes t (lock_of t.locks k h)

lock_goes : (h n : ℕ) (t : TablesState) → GoesOn (inodes.lock_inode h n t)
unfolding inodes.lock_inode
lock_goes h n t = lock_at_goes h t (place_of n t.entries)

with_file_goes : (f : OpenFile) (d : ExecResult (Option Loaded) TablesState) → GoesOn d → GoesOn (inodes.with_file f d)
with_file_goes f Waits goes = tt
with_file_goes f (Ran content t) goes = tt
with_file_goes f (Stops t) goes = goes

unless_goes : (h : ℕ) (t : TablesState) (f : Option OpenFile) (why : Option Refused) → GoesOn (inodes.lock_unless h t f why)
unless_goes h t None (Some why) = tt
unless_goes h t (Some f) (Some why) = tt
unless_goes h t None None = tt
unless_goes h t (Some f) None = with_file_goes f (inodes.lock_inode h f.number t) (lock_goes h f.number t)

file_goes : (h : ℕ) (w : Want) (fd : ℕ) (t : TablesState) → GoesOn (inodes.lock_file h w fd t)
unfolding inodes.lock_file
file_goes h w fd t = unless_goes h t (file_named h fd t) (inodes.refusal_of w (file_named h fd t))

with_open_goes : (f : OpenFile) (d : ExecResult (Option Loaded) TablesState) → GoesOn d → GoesOn (with_open f d)
with_open_goes f Waits goes = tt
with_open_goes f (Ran content t) goes = tt
with_open_goes f (Stops t) goes = goes

open_goes : (h : ℕ) (t : TablesState) (f : Option OpenFile) → GoesOn (lock_open h t f)
open_goes h t None = tt
open_goes h t (Some f) = with_open_goes f (inodes.lock_inode h f.number t) (lock_goes h f.number t)

up_new_goes : (n : ℕ) (t : TablesState) (o : Option ℕ) → GoesOn (inodes.up_new n t o)
up_new_goes n t None = tt
up_new_goes n t (Some k) = tt

up_by_goes : (n : ℕ) (t : TablesState) (o : Option ℕ) → GoesOn (inodes.up_by n t o)
up_by_goes n t None = up_new_goes n t _
up_by_goes n t (Some k) = tt

up_goes : (n : ℕ) (t : TablesState) → GoesOn (inodes.up_inode n t)
unfolding inodes.up_inode
up_goes n t = up_by_goes n t (place_of n t.entries)

up_directory_goes : (h : ℕ) (t : TablesState) → GoesOn (inodes.up_directory h t)
unfolding inodes.up_directory
up_directory_goes h t = up_goes _ t

dying_goes : (h n k : ℕ) (t : TablesState) (o : Option Loaded) → GoesOn (inodes.drop_dying h n k t o)
dying_goes h n k t None = tt
dying_goes h n k t (Some d) = tt

drop_at_goes : (h n : ℕ) (t : TablesState) (o : Option ℕ) → GoesOn (inodes.drop_at h n t o)
drop_at_goes h n t None = tt
drop_at_goes h n t (Some k) = dying_goes h n k t _

drop_goes : (h n : ℕ) (t : TablesState) → GoesOn (inodes.drop_inode h n t)
unfolding inodes.drop_inode
drop_goes h n t = drop_at_goes h n t (place_of n t.entries)

walked_dying_goes : (k : ℕ) (t : TablesState) (o : Option Loaded) → GoesOn (inodes.walked_dying k t o)
walked_dying_goes k t None = tt
walked_dying_goes k t (Some d) = tt

walked_at_goes : (t : TablesState) (o : Option ℕ) → GoesOn (inodes.walked_at t o)
walked_at_goes t None = tt
walked_at_goes t (Some k) = walked_dying_goes k t _

walked_goes : (n : ℕ) (t : TablesState) → GoesOn (inodes.drop_walked n t)
unfolding inodes.drop_walked
walked_goes n t = walked_at_goes t (place_of n t.entries)

freed_at_goes : (t : TablesState) (o : Option ℕ) → GoesOn (inodes.freed_at t o)
freed_at_goes t None = tt
freed_at_goes t (Some k) = tt

freed_goes : (n : ℕ) (t : TablesState) → GoesOn (inodes.drop_freed n t)
unfolding inodes.drop_freed
freed_goes n t = freed_at_goes t (place_of n t.entries)

settle_goes : (h : ℕ) (v : Inode) (t : TablesState) → GoesOn (inodes.settle_inode h v t)
unfolding inodes.settle_inode
settle_goes h v t = tt

take_at_goes : (h : ℕ) (t : TablesState) (o : Option ℕ) → GoesOn (files.take_at h t o)
take_at_goes h t None = tt
take_at_goes h t (Some k) = tt

take_goes : (h : ℕ) (t : TablesState) → GoesOn (files.take_place h t)
unfolding files.take_place
take_goes h t = take_at_goes h t _

open_by_goes : (h n : ℕ) (f : NewFile) (k : ℕ) (t : TablesState) (o : Option ℕ) → GoesOn (files.open_by h n f k t o)
open_by_goes h n f k t None = tt
open_by_goes h n f k t (Some fd) = tt

open_in_goes : (h n : ℕ) (f : NewFile) (t : TablesState) (o : Option ℕ) → GoesOn (files.open_in h n f t o)
open_in_goes h n f t None = tt
open_in_goes h n f t (Some k) = open_by_goes h n f k t _

open_file_goes : (h n : ℕ) (f : NewFile) (t : TablesState) → GoesOn (files.open_file h n f t)
unfolding files.open_file
open_file_goes h n f t = open_in_goes h n f t _

double_to_goes : (h k : ℕ) (t : TablesState) (o : Option ℕ) → GoesOn (files.double_to h k t o)
double_to_goes h k t None = tt
double_to_goes h k t (Some fd) = tt

double_at_goes : (h : ℕ) (t : TablesState) (o : Option ℕ) → GoesOn (files.double_at h t o)
double_at_goes h t None = tt
double_at_goes h t (Some k) = double_to_goes h k t _

double_goes : (h fd : ℕ) (t : TablesState) → GoesOn (files.double_descriptor h fd t)
unfolding files.double_descriptor
double_goes h fd t = double_at_goes h t (place_named h fd t)

freed_if_goes : (k : ℕ) (t : TablesState) (f : Option OpenFile) (b : Bool) → GoesOn (files.freed_if k t f b)
freed_if_goes k t None true = tt
freed_if_goes k t (Some f) true = tt
freed_if_goes k t None false = tt
freed_if_goes k t (Some f) false = tt

shut_at_goes : (h fd : ℕ) (t : TablesState) (o : Option ℕ) → GoesOn (files.shut_at h fd t o)
shut_at_goes h fd t None = tt
shut_at_goes h fd t (Some k) = freed_if_goes k _ _ _

shut_goes : (h fd : ℕ) (t : TablesState) → GoesOn (files.shut_descriptor h fd t)
unfolding files.shut_descriptor
shut_goes h fd t = shut_at_goes h fd t (place_named h fd t)

given_goes : (h child : ℕ) (t : TablesState) (o : Option ℕ) → GoesOn (files.given_directory h child t o)
given_goes h child t None = tt
given_goes h child t (Some k) = tt

give_at_goes : (h child fd : ℕ) (t : TablesState) (o : Option ℕ) → GoesOn (files.give_at h child fd t o)
give_at_goes h child fd t None = tt
give_at_goes h child fd t (Some k) = tt

give_by_goes : (h child : ℕ) (t : TablesState) (o : Option ℕ) → GoesOn (files.give_by h child t o)
give_by_goes h child t None = given_goes h child t _
give_by_goes h child t (Some fd) = give_at_goes h child fd t (place_named h fd t)

give_goes : (h child from : ℕ) (t : TablesState) → GoesOn (files.give_next h child from t)
unfolding files.give_next
give_goes h child from t = give_by_goes h child t _

-- ---- what stops is a read or a write of the device

-- the count of failures has risen from n
abbrev pub Raises : {A : Type 0} → ℕ → ExecResult A State → Type 0
Raises n Waits = Unit {0}
Raises n (Ran a s) = Unit {0}
Raises n (Stops s) = s.log.failures ≡ min (n + 1) most_faults

module _ (h : ℕ) (x : Outside) (s : State) where
  abbrev n : ℕ
  n = s.log.failures

  tables_raise : {A : Type 0} (d : ExecResult A TablesState) → GoesOn d → Raises n (in_tables s d)
  tables_raise Waits goes = tt
  tables_raise (Ran a t) goes = tt
  tables_raise (Stops t) goes = absurd goes

  join_raises : (b : Bool) → Raises n (in_log s (join_if h s.log b))
  join_raises true = tt
  join_raises false = tt

  joins_raise : (f : OpenFile) (b : Bool) → Raises n (joins f (in_log s (join_if h s.log b)))
  joins_raise f true = tt
  joins_raise f false = tt

  to_write_raises : (f : Option OpenFile) (why : Option Refused) → Raises n (join_unless h s f why)
  to_write_raises None (Some why) = tt
  to_write_raises (Some f) (Some why) = tt
  to_write_raises None None = tt
  to_write_raises (Some f) None = joins_raise f (join_waits s.log.phase _ (joined s.log.members) (limit_of s.log.sizes))

  get_raises : (r : List SeatState × Got) → Raises n (in_log s (got_by s.log r))
  get_raises (seats, got.Held guard) = tt
  get_raises (seats, got.Waits) = tt

  read_raises : (b : ℕ) (y : Outside) → Raises n (in_log s (read_block b y s.log))
  read_raises b Passes = tt
  read_raises b (Fails after) = refl

  write_raises : (y : Outside) → Raises n (in_log s (write_log y s.log))
  write_raises Passes = tt
  write_raises (Fails after) = refl

  commit_raises : (b : Bool) → Raises n (in_log s (commit_if x s.log b))
  commit_raises true = tt
  commit_raises false = write_raises x

  claims_raise : (d : ExecResult (Option ℕ) TablesState) → GoesOn d → Raises n (claims (in_tables s d))
  claims_raise Waits goes = tt
  claims_raise (Ran None t) goes = tt
  claims_raise (Ran (Some k) t) goes = tt
  claims_raise (Stops t) goes = absurd goes

  claim_raises : (b : ℕ) (o : Option ℕ) → Raises n (claim_first h b s o)
  claim_raises b None = tt
  claim_raises b (Some k) = claims_raise (inodes.up_inode k s.tables) (up_goes k s.tables)

  pub exec_raises : (op : Op) → Raises n (exec h x op s)
  unfolding exec
  exec_raises Join = join_raises (join_waits s.log.phase _ (joined s.log.members) (limit_of s.log.sizes))
  exec_raises (JoinToWrite fd) = to_write_raises (file_named h fd s.tables) (inodes.refusal_of want.Write (file_named h fd s.tables))
  exec_raises Leave = tt
  exec_raises (Get b) = get_raises (get_of h b s.log.seats)
  exec_raises (Read b) = read_raises b x
  exec_raises (Put b change) = tt
  exec_raises Commit = commit_raises (turn_is_out s.log.seats s.log.group s.log.phase)
  exec_raises (Lock k) = tables_raise (inodes.lock_inode h k s.tables) (lock_goes h k s.tables)
  exec_raises (LockFile w fd) = tables_raise (inodes.lock_file h w fd s.tables) (file_goes h w fd s.tables)
  exec_raises (LockOpen fd) = tables_raise (lock_open h s.tables (file_named h fd s.tables)) (open_goes h s.tables (file_named h fd s.tables))
  exec_raises (Unlock v moved) = tt
  exec_raises (SetDirectory v) = tables_raise (inodes.settle_inode h v s.tables) (settle_goes h v s.tables)
  exec_raises (Up (Number k)) = tables_raise (inodes.up_inode k s.tables) (up_goes k s.tables)
  exec_raises (Up Directory) = tables_raise (inodes.up_directory h s.tables) (up_directory_goes h s.tables)
  exec_raises (Claim b candidates) = claim_raises b _
  exec_raises (Down (Held k)) = tables_raise (inodes.drop_inode h k s.tables) (drop_goes h k s.tables)
  exec_raises (Down (Walked k)) = tables_raise (inodes.drop_walked k s.tables) (walked_goes k s.tables)
  exec_raises (Down (Freed k)) = tables_raise (inodes.drop_freed k s.tables) (freed_goes k s.tables)
  exec_raises (CheckFile w fd) = tt
  exec_raises TakePlace = tables_raise (files.take_place h s.tables) (take_goes h s.tables)
  exec_raises (TakeDescriptor k file) = tables_raise (files.open_file h k file s.tables) (open_file_goes h k file s.tables)
  exec_raises (Double fd) = tables_raise (files.double_descriptor h fd s.tables) (double_goes h fd s.tables)
  exec_raises (Close fd) = tables_raise (files.shut_descriptor h fd s.tables) (shut_goes h fd s.tables)
  exec_raises (GiveDescriptor child from) = tables_raise (files.give_next h child from s.tables) (give_goes h child from s.tables)
  exec_raises Reply = tt
