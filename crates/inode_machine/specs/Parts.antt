-- Programs that calls are made of: a reference is dropped, a call ends, a path is walked.
use Rattle.std.specs.Prelude.{ℕ, Bool, true, false, List, [], ◌∷◌, ◌++◌, Option, Some, None, if◌then◌else◌}
use Rattle.plain_tree.specs.declared.answer.Answer.TheVariants as answers
use Rattle.inode_machine.specs.Vocabulary.{Cause, NoEntry, Full, MemInodes, Reply, Call, Action, Name, is_absolute, Prog, Ret, Do, unmarked, Move, Begin, Look, GiveUpWalk, Own}
use Rattle.inode_machine.specs.Inodes.{Sight, AtNothing, AtName, is_live_face, is_directory_face}
use Rattle.inode_machine.specs.World.{Op, Answer, Mark}
use Rattle.inode_machine.specs.World.Op.{Take, UnlockInode, UpStart, Up, WalkDown, Down, Free, Forget, Join, Leave, Say}
use Rattle.inode_machine.specs.World.Mark.{Makes, Frees, Mends}

abbrev pub P : Type 0 → Type 0
P A = Prog Op Answer Mark A

abbrev pub makes : Move → Option Mark
makes v = Some (Makes v)

-- a step of the call's own, that follows no path
abbrev pub own_step : Action → Option Mark
own_step s = makes (Own s 0)

-- what there is is taken back if there was no room
abbrev pub mends_if_full : Bool → Option Mark
mends_if_full true = None
mends_if_full false = Some Mends

-- Replies.

abbrev pub failed : Call → Cause → Reply
failed c k = record { answer = answers.Failed k; call = c }

abbrev pub full : Call → Full → Reply
full c f = record { answer = answers.Full f; call = c }

abbrev pub done : Call → Reply
done c = record { answer = answers.Done; call = c }

abbrev pub say : Reply → P Reply
say r = Do Say unmarked (λ _. Ret r)

-- A reference is dropped. The last one to an inode without links frees it: its lock is taken in place of the count.
abbrev pub drop : {A : Type 0} → ℕ → P A → P A
drop n k = Do (Down n) unmarked
    (λ last. if last
    then Do (Free n) (λ _. Some (Frees n)) (λ _. Do (UnlockInode n) unmarked (λ _. Do (Forget n) unmarked (λ _. k)))
    else k)

abbrev pub give_up : {A : Type 0} → ℕ → P A → P A
give_up n k = Do (UnlockInode n) unmarked (λ _. drop n k)

-- The call's transaction is left; then each inode of its list is freed in one of its own; then comes the reply.

abbrev pub free_listed : {A : Type 0} → ℕ → P A → P A
free_listed n k = Do Join unmarked
    (λ _. Do (Take n AtNothing) unmarked
    (λ _. Do (Free n) (λ _. Some (Frees n))
    (λ _. Do (UnlockInode n) unmarked (λ _. Do (Forget n) unmarked (λ _. Do Leave unmarked (λ _. k))))))

abbrev pub free_all : {A : Type 0} → List ℕ → P A → P A
free_all [] k = k
free_all (n ∷ ns) k = free_listed n (free_all ns k)

abbrev pub tail : List ℕ → Reply → P Reply
tail ns r = Do Leave unmarked (λ _. free_all ns (say r))

-- A walk. It never frees: what it drops last goes on the list.

-- why a walk ends before its end
pub data WalkStop : Type 0 where
  NotThere : WalkStop
  NoMemory : WalkStop

abbrev pub stopped : Call → WalkStop → Reply
stopped c NotThere = failed c NoEntry
stopped c NoMemory = full c MemInodes

abbrev pub with_last : List ℕ → ℕ → Bool → List ℕ
with_last ns d true = ns ++ d ∷ []
with_last ns d false = ns

abbrev pub leave_directory : {A : Type 0} → ℕ → List ℕ → (List ℕ → P A) → P A
leave_directory d ns k = Do (UnlockInode d) unmarked (λ _. Do (WalkDown d) unmarked (λ last. k (with_last ns d last)))

-- the lookup is a move of the walk; if the directory has no links, or is none, the walk is lost
abbrev pub looks_or_quits : Action → Sight → Option Mark
looks_or_quits s a = if is_live_face a.face then makes (Look 0) else makes (GiveUpWalk s)

abbrev pub walk_step : {A : Type 0} → ℕ → List ℕ → (ℕ → List ℕ → P A) → (WalkStop → List ℕ → P A) → Option ℕ → P A
walk_step d ns go lost None = leave_directory d ns (lost NotThere)
walk_step d ns go lost (Some j) = Do (Up j) mends_if_full (λ there. leave_directory d ns (if there then go j else lost NoMemory))

-- from directory d through all these elements
abbrev pub walk : {A : Type 0} → Action → ℕ → List Name → List ℕ → (ℕ → List ℕ → P A) → (WalkStop → List ℕ → P A) → P A
walk s d [] ns found lost = found d ns
walk s d (e ∷ es) ns found lost =
    Do (Take d (AtName e)) (looks_or_quits s) (λ a. walk_step d ns (λ j ms. walk s j es ms found lost) lost a.found)

abbrev pub quits_unless : Action → Bool → Option Mark
quits_unless s true = None
quits_unless s false = makes (GiveUpWalk s)

-- the last element's directory is seen to be one
abbrev pub see_parent : {A : Type 0} → Action → ℕ → List ℕ → (List ℕ → P A) → (WalkStop → List ℕ → P A) → P A
see_parent s d ns found lost =
    Do (Take d AtNothing) (λ a. quits_unless s (is_directory_face a.face)) (λ a.
    if is_directory_face a.face then Do (UnlockInode d) unmarked (λ _. found ns) else leave_directory d ns (lost NotThere))

-- from directory d through all elements but the last
abbrev pub walk_parent : {A : Type 0} → Action → ℕ → Name → List Name → List ℕ → (ℕ → Name → List ℕ → P A) → (WalkStop → List ℕ → P A) → P A
walk_parent s d e [] ns found lost = see_parent s d ns (found d e) lost
walk_parent s d e (e' ∷ es) ns found lost =
    Do (Take d (AtName e)) (looks_or_quits s) (λ a. walk_step d ns (λ j ms. walk_parent s j e' es ms found lost) lost a.found)

abbrev pub begins_unless_full : Action → Option ℕ → Option Mark
begins_unless_full s None = Some Mends
begins_unless_full s (Some d) = makes (Begin s 0)

abbrev pub start_on : {A : Type 0} → (ℕ → P A) → (WalkStop → List ℕ → P A) → List ℕ → Option ℕ → P A
start_on go lost ns None = lost NoMemory ns
start_on go lost ns (Some d) = go d

-- a path's start is referred to
abbrev pub start : {A : Type 0} → Action → List ℕ → List ℕ → (ℕ → P A) → (WalkStop → List ℕ → P A) → P A
start s path ns go lost = Do (UpStart (is_absolute path)) (begins_unless_full s) (start_on go lost ns)

-- What a directory has under the last name: the step is made where it is refused there, and the walk is lost in a directory without links.

abbrev pub looks_if : Bool → Option Mark
looks_if true = makes (Look 0)
looks_if false = None

abbrev pub looks_where : Action → (Sight → Bool) → Sight → Option Mark
looks_where s refuses a = if is_live_face a.face then looks_if (refuses a) else makes (GiveUpWalk s)

abbrev pub is_some : {A : Type 0} → Option A → Bool
is_some None = false
is_some (Some x) = true

abbrev pub is_there : Sight → Bool
is_there a = is_some a.found
