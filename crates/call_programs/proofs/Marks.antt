-- An operation's mark says that there was no room exactly when its answer says so.
use Rattle.call_programs.proofs.Vocabulary.{◌≡◌, ℕ, Bool, true, false, not, if◌then◌else◌, List, Option, Some, None, refl, Face, Sight, is_directory_type, is_live_face, is_nothing, installs, truncates, entered_file, mends_unless_new, begins_unless_full, looks_if, looks_or_quits, looks_where, mends_if_full, own_step, quits_unless, ClaimResult, EntryResult, InPlace, JoinResult, Joined, Lent, LoanResult, LockResult, LocksIt, New, NoBlock, NoPlace, NoSlot, NotJoined, NotLocked, Refused, Short, Whole, Mark, Move, Look, GiveUpWalk, dups, refused_read, refused_to, writes, lends, bump_refused, bumps_if, enters, is_refused, is_no_descriptor, is_no_entry, is_no_inode, is_short, Action, empty_it, makes, NoInode, spoils}
use Rattle.inode_machine.proofs.Vocabulary.{Moved, Wrote}
use Rattle.plain_tree.specs.Steps.{has}
use Rattle.plain_tree.specs.declared.step.Action.TheVariants as actions

pub mends_tell : (there : Bool) → spoils (mends_if_full there) ≡ not there
mends_tell true = refl
mends_tell false = refl

pub starts_tell : (s : Action) (start : Option ℕ) → spoils (begins_unless_full s start) ≡ is_nothing start
starts_tell s None = refl
starts_tell s (Some d) = refl

-- one of two moves
either_move : (v u : Move) (b : Bool) → spoils (if b then makes v else makes u) ≡ false
either_move v u true = refl
either_move v u false = refl

pub looks_tell : (s : Action) (a : Sight) → spoils (looks_or_quits s a) ≡ false
looks_tell s a = either_move (Look 0) (GiveUpWalk s) (is_live_face a.face)

pub quits_tell : (s : Action) (b : Bool) → spoils (quits_unless s b) ≡ false
quits_tell s true = refl
quits_tell s false = refl

pub if_tells : (b : Bool) → spoils (looks_if b) ≡ false
if_tells true = refl
if_tells false = refl

pub where_tells : (s : Action) (refuses : Sight → Bool) (a : Sight) → spoils (looks_where s refuses a) ≡ false
where_tells s refuses a = by (is_live_face a.face) (refuses a)
  where
    by : (live b : Bool) → spoils (if live then looks_if b else makes (GiveUpWalk s)) ≡ false
    by true b = if_tells b
    by false b = refl

pub bump_tells : (f : Face) → spoils (bumps_if f) ≡ false
bump_tells f = by (is_directory_type f.inode_type) (is_refused (bump_refused f))
  where
    by : (b c : Bool) → spoils (if b then None else (if c then own_step actions.Bump else None)) ≡ false
    by true c = refl
    by false true = refl
    by false false = refl

pub link_tells : (made : EntryResult) → spoils (enters made) ≡ is_no_entry made
link_tells InPlace = refl
link_tells NoBlock = refl
link_tells NoSlot = refl

pub entry_tells : (n : ℕ) (made : EntryResult) → spoils (entered_file n made) ≡ is_no_entry made
entry_tells n InPlace = refl
entry_tells n NoBlock = refl
entry_tells n NoSlot = refl

pub new_tells : (made : ClaimResult) → spoils (mends_unless_new made) ≡ is_no_inode made
new_tells (New n) = refl
new_tells NoInode = refl
new_tells NoPlace = refl

pub install_tells : (mark : ℕ → Option Mark) → ((fd : ℕ) → spoils (mark fd) ≡ false) → (fd : Option ℕ) → spoils (installs mark fd) ≡ is_nothing fd
install_tells mark none None = refl
install_tells mark none (Some fd) = none fd

pub truncate_tells : (flags fd : ℕ) → spoils (truncates flags fd) ≡ false
truncate_tells flags fd = by (has flags empty_it)
  where
    by : (b : Bool) → spoils (if b then own_step (actions.Truncate fd) else None) ≡ false
    by true = refl
    by false = refl

pub piece_tells : (fd : ℕ) (b : List ℕ) (wrote : Wrote) → spoils (writes fd b wrote) ≡ is_short wrote
piece_tells fd b Whole = refl
piece_tells fd b (Refused why) = refl
piece_tells fd b (Short k) = refl

pub join_tells : (fd : ℕ) (b : List ℕ) (made : JoinResult) → spoils (refused_to fd b made) ≡ false
join_tells fd b (NotJoined why) = refl
join_tells fd b (Joined n) = refl

pub read_tells : (fd n : ℕ) (made : LockResult) → spoils (refused_read fd n made) ≡ false
read_tells fd n (NotLocked why) = refl
read_tells fd n (LocksIt i offset) = refl

pub dup_tells : (fd : ℕ) (made : Option (Option ℕ)) → spoils (dups fd made) ≡ is_no_descriptor made
dup_tells fd None = refl
dup_tells fd (Some None) = refl
dup_tells fd (Some (Some f)) = refl

pub lend_tells : (child : ℕ) (made : LoanResult) → spoils (lends child made) ≡ false
lend_tells child (Lent i true) = refl
lend_tells child (Lent i false) = refl
lend_tells child (Moved old) = refl
