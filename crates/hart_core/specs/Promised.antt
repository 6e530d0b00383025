-- What always holds of a world, in plain words.
use Rattle.std.specs.Prelude.{◌≡◌, ◌≢◌, ◌⊎◌, ℕ, ◌<◌, ◌==◌, Bool, true, false, if◌then◌else◌, List, length, slice_index, Option, Some, None, get_or}
use Rattle.hart_core.specs.Vocabulary.{MatchOption, option_map, asks, Running, running_of, Op, Phase, Open, Staging, Installing, Halted, TablesState, OpenFile, file_named, Super, StepOf as Step, DidWait, holder_of, hart_count, count_of, is_held_by, buffer_holder, LogPart, Outside, IsElsewhere, JoinWaits, seen_of, State, IsRecoveredSo, IsWellFormed, tree_in, disk_of, is_joined}
use Rattle.fs_machine.specs.Steps.{Join, JoinToWrite, Get, Commit, Lock, LockFile, LockOpen}
use Rattle.hart_core.specs.Harts.{HartsOf, shared_of}
use Rattle.hart_core.specs.Worlds.{Answers, Makes}

-- no buffer and no inode's lock is in the hart's hand
pub record HasNothing (h : ℕ) (s : State) : Type 0 where
  pub buffers : count_of (is_held_by h) s.log.seats ≡ 0
  pub locks : (n : ℕ) → holder_of n s.tables ≢ Some h

-- no hart is in a transaction
abbrev pub NoneJoined : LogPart → Type 0
NoneJoined l = (h : ℕ) → h < hart_count → is_joined l.members h ≡ false

-- The blocks as they are seen are a well-formed image; and so, of the same tree, is each disk of this length on which recovery would leave
-- them.
pub record ShowsImage (l : LogPart) : Type 0 where
  pub well : IsWellFormed (disk_of l)
  pub recovered : (disk : List (List ℕ)) → length disk ≡ length l.contents → IsRecoveredSo l.sizes (seen_of l) disk
      → IsWellFormed disk × (tree_in disk ≡ tree_in (disk_of l))

-- ---- why a hart must wait

-- the inode whose lock an operation asks for
abbrev pub lock_asked : ℕ → Op → TablesState → Option ℕ
lock_asked h (Lock n) t = Some n
lock_asked h (LockFile want fd) t = option_map (λ (f : OpenFile). f.number) (file_named h fd t)
lock_asked h (LockOpen fd) t = option_map (λ (f : OpenFile). f.number) (file_named h fd t)
lock_asked h op t = None

-- the block of the group whose buffer a commit copies next; a header is no copy
abbrev pub copied_next : List ℕ → Phase → Option ℕ
copied_next group Open = None
copied_next group (Staging i) = if i == length group then None else Some (slice_index group i)
copied_next group (Installing i) = if i == length group then None else Some (slice_index group i)
copied_next group Halted = None

-- the block whose buffer an operation asks for
abbrev pub buffer_asked : Op → LogPart → Option ℕ
buffer_asked (Get b) l = Some b
buffer_asked Commit l = copied_next l.group l.phase
buffer_asked op l = None

-- it joins a transaction
abbrev pub is_join : Op → Bool
is_join Join = true
is_join (JoinToWrite fd) = true
is_join op = false

-- the lock that the operation asks for is in another hart's hand
abbrev pub LockIsElsewhere : ℕ → Op → State → Type 0
LockIsElsewhere h op s = (n : ℕ) × (lock_asked h op s.tables ≡ Some n) × IsElsewhere h (holder_of n s.tables)

-- the buffer that it asks for is in another hart's hand
abbrev pub BufferIsElsewhere : ℕ → Op → State → Type 0
BufferIsElsewhere h op s = (b : ℕ) × (buffer_asked op s.log ≡ Some b) × IsElsewhere h (buffer_holder b s.log.seats)

-- it joins, and a commit is under way, or the log has no room for one more transaction
abbrev pub LogIsBusy : Op → LogPart → Type 0
LogIsBusy op l = (is_join op ≡ true) × JoinWaits l

abbrev pub MustWait : ℕ → State → Op → Type 0
MustWait h s op = LockIsElsewhere h op s ⊎ BufferIsElsewhere h op s ⊎ LogIsBusy op s.log

-- the hart has a call, whose next operation must wait
abbrev pub NextMustWait : ℕ → State → Option Running → Type 0
NextMustWait h s call = MatchOption call ⊥ (λ m. MatchOption (asks (running_of m)) ⊥ (MustWait h s))

module _ {D : Type 0} (contents : D → List (List ℕ)) (failures : D → ℕ) where
  -- a step of any hart waits only when the operation that its call makes next must wait
  abbrev pub WaitsByTheRule : Super → HartsOf D → Type 0
  WaitsByTheRule sizes w =
      (h : ℕ) (x : Outside) (v : HartsOf D) → Answers contents failures sizes (Step h x) w
      → Makes contents failures sizes (Step h x) w DidWait v → NextMustWait h (shared_of contents failures w) (get_or w.calls h None)

  -- a hart without a call has nothing in hand, and is in no transaction, also once a failure of the device has stopped the harts
  abbrev pub IdleHartsHaveNothing : HartsOf D → Type 0
  IdleHartsHaveNothing w =
      (h : ℕ) → get_or w.calls h None ≡ None
      → HasNothing h (shared_of contents failures w)
      × (h < hart_count → is_joined (shared_of contents failures w).log.members h ≡ false)

  abbrev pub QuietBlocksAreAnImage : HartsOf D → Type 0
  QuietBlocksAreAnImage w =
      w.stopped ≡ false → NoneJoined (shared_of contents failures w).log → ShowsImage (shared_of contents failures w).log
