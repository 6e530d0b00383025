-- A history that is kept beside a log, and how much of it a stop leaves.
use Rattle.std.specs.Prelude.{◌≡◌, ◌⊎◌, ℕ, ◌+◌, ◌≤◌, ◌<◌, nat_lt, Bool, true, false, if◌then◌else◌, List, [], ◌∷◌, ◌++◌, length, filter, Option, Some, None}
use Rattle.group_log.specs.Vocabulary.{AllByRecursion, Super}
use Rattle.group_log.specs.declared.marks.Marks.{Marks}
use Rattle.group_log.specs.declared.log.AfterLeave.{AfterLeave}
use Rattle.group_log.specs.declared.log.AfterLeave.TheVariants.{Free, Commits}
use Rattle.group_log.specs.declared.commit.Progress.{Progress}
use Rattle.group_log.specs.declared.commit.Progress.TheVariants.{Waits, Wrote, Ended, Failed}
use Rattle.group_log.specs.declared.phase.Phase.TheVariants.{Open}
use Rattle.group_log.specs.Group.{joined}
use Rattle.group_log.specs.Phases.{is_point}
use Rattle.group_log.specs.Soundness.{LogState}
use Rattle.group_log.specs.CrashLaw.{Blocks, AgreeOutside}
use Rattle.group_log.specs.Moves.{recovered_of, seen_of, is_under_way, is_settled, is_running, IsMove, begins_at, IsCommitMove}

-- before the first event
abbrev pub no_marks : Marks
no_marks = record { begun = 0; cut = 0; doubt = None }

-- after event n, which is a leave
abbrev pub after_leave : ℕ → AfterLeave → Marks → Marks
after_leave n Free m = m
after_leave n Commits m = record m { begun = n + 1 }

-- after a step of a commit, which writes the head with the group or doesn't
abbrev pub after_write : Bool → Progress → Marks → Marks
after_write point Waits m = m
after_write point Wrote m = record m { cut = if point then m.begun else m.cut }
after_write point Ended m = record m { cut = if point then m.begun else m.cut }
after_write point Failed m = record m { doubt = if point then Some m.begun else m.doubt }

-- the entries of the first n events
abbrev pub before : {E : Type 0} → (E → ℕ) → ℕ → List E → List E
before number n list = filter (λ e. nat_lt (number e) n) list

-- the numbers never fall
unfoldable pub RisesBy : {E : Type 0} → (E → ℕ) → ℕ → List E → Type 0
RisesBy number lo [] = Unit {0}
RisesBy number lo (e ∷ es) = (lo ≤ number e) × RisesBy number (number e) es

-- a stop leaves the first k events
abbrev pub IsMarked : Marks → ℕ → Type 0
IsMarked m k = (k ≡ m.cut) ⊎ (m.doubt ≡ Some k)

-- After n events, with these entries. The blocks are what the entries make of a disk: that is what Image says.
pub record IsKept {D E : Type 0} (contents : D → List (List ℕ)) (number : E → ℕ) (sizes : Super) (Image : List E → Blocks → Type 0) (n : ℕ)
    (list : List E) (l : LogState D) (m : Marks) : Type 0 where
  pub same : l.sizes ≡ sizes
  pub numbers : AllByRecursion (λ e. number e < n) list
  pub order : m.cut ≤ m.begun
  pub past : m.begun ≤ n
  -- recovery makes what the entries up to a mark make
  pub stored : (k : ℕ) × IsMarked m k × Image (before number k list) (recovered_of contents l)
  -- while a commit runs, those up to the leave that began it are seen
  pub pending : is_under_way l.phase ≡ true → Image (before number m.begun list) (seen_of contents l)
  pub settled : is_settled l.phase ≡ true → m.cut ≡ m.begun
  pub certain : is_running l.phase ≡ true → m.doubt ≡ None

-- ---- transactions

-- a transaction's first and last event
pub record Span : Type 0 where
  pub from : ℕ
  pub to : ℕ

-- it has ended in the first k events, or begins after them
abbrev pub IsApart : ℕ → Span → Type 0
IsApart k s = (s.to < k) ⊎ (k ≤ s.from)

-- For each hart there is the event in which its transaction began, if it is in one. And there are the transactions
-- that have ended. No mark is within one.
pub record AreWhole (n : ℕ) (m : Marks) (since : ℕ → Option ℕ) (ended : List Span) : Type 0 where
  pub running : (hart from : ℕ) → since hart ≡ Some from → m.begun ≤ from
  pub past : AllByRecursion (λ s. s.to < n) ended
  pub at_begun : AllByRecursion (IsApart m.begun) ended
  pub at_cut : AllByRecursion (IsApart m.cut) ended
  pub at_doubt : (k : ℕ) → m.doubt ≡ Some k → k ≡ m.begun

-- ---- runs

-- What event n does to the log and to the marks. It calls neither leave nor a commit's step; or it is a leave; or it
-- is a step of a commit.
abbrev pub Does : {D : Type 0} → (D → List (List ℕ)) → ℕ → LogState D → LogState D → Marks → Marks → Type 0
Does contents n l l' m m' =
    (IsMove contents false false l l' × (m' ≡ m))
    ⊎ (((r : AfterLeave) × IsMove contents (begins_at r) false l l' × (is_running l.phase ≡ true) × (is_running l'.phase ≡ true)
    × (m' ≡ after_leave n r m))
    ⊎ ((r : Progress) × IsCommitMove contents r l l' × (is_running l.phase ≡ true)
    × (m' ≡ after_write (is_point (length l.group) l.phase) r m)))

-- The states of a machine over a log, after 0 events and on, up to n: the entries so far, the log, the marks.
pub record IsStory {D E : Type 0} (contents : D → List (List ℕ)) (number : E → ℕ) (sizes : Super) (Image : List E → Blocks → Type 0) (n : ℕ)
    (lists : ℕ → List E) (logs : ℕ → LogState D) (marks : ℕ → Marks) : Type 0 where
  pub same : (logs 0).sizes ≡ sizes
  pub idle : (logs 0).phase ≡ Open
  pub empty : lists 0 ≡ []
  pub unmarked : marks 0 ≡ no_marks
  pub fresh : Image [] (recovered_of contents (logs 0))
  pub does : (i : ℕ) → i < n → Does contents i (logs i) (logs (i + 1)) (marks i) (marks (i + 1))
  pub grows : (i : ℕ) → i < n → (news : List E) × (lists (i + 1) ≡ lists i ++ news) × AllByRecursion (λ e. number e ≡ i) news
  -- what the machine must show of itself: when nobody is in a transaction, the seen blocks are what the entries so
  -- far make
  pub quiet : (i : ℕ) → i ≤ n → joined (logs i).members ≡ 0 → is_running (logs i).phase ≡ true → Image (lists i) (seen_of contents (logs i))

-- What event n does to the transactions: it ends none, and one may begin; or it ends one, and none begins.
abbrev pub Turns : ℕ → (ℕ → Option ℕ) → (ℕ → Option ℕ) → List Span → List Span → Type 0
Turns n since since' ended ended' =
    ((ended' ≡ ended) × ((h from : ℕ) → since' h ≡ Some from → (from ≡ n) ⊎ (since h ≡ Some from)))
    ⊎ ((hart : ℕ) × (from : ℕ) × (since hart ≡ Some from) × (ended' ≡ record { from = from; to = n } ∷ ended)
    × ((h k : ℕ) → since' h ≡ Some k → since h ≡ Some k))

-- The transactions of a machine over a log, after each of its events: those that run, by hart, and those that have ended.
pub record IsSpanned {D : Type 0} (n : ℕ) (logs : ℕ → LogState D) (since : ℕ → ℕ → Option ℕ) (ended : ℕ → List Span) : Type 0 where
  pub first : (h : ℕ) → since 0 h ≡ None
  pub none : ended 0 ≡ []
  pub turns : (i : ℕ) → i < n → Turns i (since i) (since (i + 1)) (ended i) (ended (i + 1))
  -- if one runs, a hart is in a transaction of the log
  pub joins : (i : ℕ) → i ≤ n → (h from : ℕ) → since i h ≡ Some from → 0 < joined (logs i).members

-- ---- what marks say

-- The states of a machine over a log, after 0 events and on, up to n, and the marks that it keeps.
pub record IsMarkedRun {D : Type 0} (contents : D → List (List ℕ)) (n : ℕ) (logs : ℕ → LogState D) (marks : ℕ → Marks) : Type 0 where
  pub fresh : AgreeOutside (logs 0).sizes (seen_of contents (logs 0)) (recovered_of contents (logs 0))
  pub idle : (logs 0).phase ≡ Open
  pub unmarked : marks 0 ≡ no_marks
  pub does : (i : ℕ) → i < n → Does contents i (logs i) (logs (i + 1)) (marks i) (marks (i + 1))

-- After any event recovery makes what was seen after the first k events, and a mark says k. As long as the log isn't
-- halted, that mark is the cut.
pub record IsMarkedStop {D : Type 0} (contents : D → List (List ℕ)) (logs : ℕ → LogState D) (i : ℕ) (m : Marks) : Type 0 where
  pub k : ℕ
  pub marked : IsMarked m k
  pub past : k ≤ i
  pub seen : AgreeOutside (logs 0).sizes (seen_of contents (logs k)) (recovered_of contents (logs i))
  pub certain : is_running (logs i).phase ≡ true → k ≡ m.cut

abbrev pub MarksTellStops : {D : Type 0} → (D → List (List ℕ)) → Type 0
MarksTellStops {D} contents = (n : ℕ) (logs : ℕ → LogState D) (marks : ℕ → Marks) → IsMarkedRun contents n logs marks
    → (i : ℕ) → i ≤ n → IsMarkedStop contents logs i (marks i)

-- Event i is a leave that began a commit. If the log has reached a settled phase after it, the cut has that leave,
-- then and later. So it is when its hart replies.
abbrev pub CutsHaveReplies : {D : Type 0} → (D → List (List ℕ)) → Type 0
CutsHaveReplies {D} contents = (n : ℕ) (logs : ℕ → LogState D) (marks : ℕ → Marks) → IsMarkedRun contents n logs marks
    → (i later more : ℕ) → (marks (i + 1)).begun ≡ i + 1 → i + 1 + later + more ≤ n → is_settled (logs (i + 1 + later)).phase ≡ true
    → i < (marks (i + 1 + later + more)).cut

-- a mark is within no transaction that has ended, and those that run began after it
abbrev pub NoneIsMarkedInPart : {D : Type 0} → (D → List (List ℕ)) → Type 0
NoneIsMarkedInPart {D} contents = (n : ℕ) (logs : ℕ → LogState D) (marks : ℕ → Marks) (since : ℕ → ℕ → Option ℕ) (ended : ℕ → List Span)
    → IsMarkedRun contents n logs marks → IsSpanned n logs since ended → (i : ℕ) → i ≤ n → (k : ℕ) → IsMarked (marks i) k
    → AllByRecursion (IsApart k) (ended i) × ((h from : ℕ) → since i h ≡ Some from → k ≤ from)
