-- What the search keeps, and what it has ruled out.
use Rattle.std.specs.Prelude.{◌≡◌, ◌≢◌, ℕ, ◌+◌, ◌-◌, ◌≤◌, ◌<◌, Bool, true, false, List, [], ◌∷◌, ◌++◌, length, if◌then◌else◌, Option, Some, None, slice_get, slice_index_or}
use Rattle.tree_histories.specs.Vocabulary.{Version, Reply, Call, Open, Write, Link, StepAnswer, Placed, Trace, TracedCall, TreeData, Tree, tree_of, is_nothing, Act, Follows, had_room, next_of, piece_count, reply_of, Leads, is_full, AllBelong, Chain, IsWritten, Rises, acts_of}
use Rattle.tree_histories.specs.declared.ends.Due.{Due}
use Rattle.tree_histories.specs.declared.explore.Tried.{Tried}
use Rattle.tree_histories.specs.declared.explore.Tried.TheVariants as tried
use Rattle.tree_histories.specs.declared.position.Placing.{Placing}
use Rattle.tree_histories.specs.declared.position.Placing.TheVariants as placing
use Rattle.tree_histories.specs.declared.position.Position.{Position}
use Rattle.tree_histories.specs.declared.stand.Stand.{Stand}
use Rattle.tree_histories.specs.Ordered.{IsDue}
use Rattle.tree_histories.specs.Stands.{is_told, reply_at, stand_of, start}

-- the number of the last entry's event
unfoldable pub last_event : List Placed → ℕ
last_event [] = 0
last_event (e ∷ []) = e.event
last_event (e ∷ f ∷ es) = last_event (f ∷ es)

-- the event before which a call's steps have to act, while some are still to come
abbrev pub end_at : Option (ℕ × Reply) → Option ℕ
end_at None = None
end_at (Some r) = Some r.0

abbrev pub end_of : TracedCall → Bool → Option ℕ
end_of c through = if through then None else end_at c.finished

-- the reply of a finished call is known
abbrev pub knows : Call → List Act → Bool
knows (Write fd bytes) acts = is_nothing (next_of (Write fd bytes) acts)
knows (Link old new) acts = is_nothing (next_of (Link old new) acts)
knows c [] = false
knows c (a ∷ acts) = true

-- what a finished call's steps so far have to be
pub record Agrees (c : Call) (acts : List Act) (r : Reply) : Type 0 where
  pub reply : knows c acts ≡ true → r ≡ reply_of c acts
  pub room : had_room acts ≡ true

abbrev pub AgreesWith : Option (ℕ × Reply) → Call → List Act → Type 0
AgreesWith None c acts = Unit {0}
AgreesWith (Some r) c acts = Agrees c acts r.1

pub record IsOfCall (c : TracedCall) (acts : List Act) (s : Stand) (e : Option ℕ) : Type 0 where
  pub stand : s ≡ stand_of acts
  pub end : e ≡ end_of c (is_nothing (next_of c.call acts))
  pub follows : Follows c.call [] acts
  pub agrees : AgreesWith c.finished c.call acts

abbrev pub AreOfCalls : List TracedCall → List Placed → List Stand → List (Option ℕ) → Type 0
AreOfCalls calls list stands ends = (id : ℕ) (c : TracedCall) → slice_get calls id ≡ Some c
    → IsOfCall c (acts_of id list) (slice_index_or stands id start) (slice_index_or ends id None)

-- every call that has to go on may do so after the list
abbrev pub Precedes : List Placed → List (Option ℕ) → Type 0
Precedes list ends = (id e : ℕ) → slice_index_or ends id None ≡ Some e → last_event list ≤ e

-- The list so far leads from the base to the tree, and agrees with the trace.
pub record IsAt (version : Version) (base : TreeData) (t : Trace) (p : Position) : Type 0 where
  pub chain : Chain version (tree_of base) p.list.items (tree_of p.tree)
  pub rises : Rises 0 p.list.items
  pub belongs : AllBelong t p.list.items
  pub calls : AreOfCalls t.calls p.list.items p.stands.items p.ends
  pub stands : length p.stands.items ≡ length t.calls
  pub ends : length p.ends ≡ length t.calls
  pub precedes : Precedes p.list.items p.ends

-- Nothing has to come after the list.
abbrev pub IsThrough : Position → Type 0
IsThrough p = (id : ℕ) → slice_index_or p.ends id None ≡ None

-- A rest that makes the list explain the trace, if the tree is t after the list; its numbers may begin at lo.
pub record CanEnd (version : Version) (trace : Trace) (t : Tree) (list : List Placed) (lo : ℕ) (rest : List Placed) : Type 0 where
  pub rises : Rises lo rest
  pub leads : Leads version t rest
  pub written : (id : ℕ) (c : TracedCall) → slice_get trace.calls id ≡ Some c
      → IsWritten c.call (acts_of id list ++ acts_of id rest) c.finished
  pub belongs : AllBelong trace rest

-- there is none
abbrev pub IsHopeless : Version → Trace → Position → Type 0
IsHopeless version t p = (lo : ℕ) (rest : List Placed) → last_event p.list.items ≤ lo
    → CanEnd version t (tree_of p.tree) p.list.items lo rest → ⊥

-- None begins with a step of this call.
abbrev pub IsDead : Version → Trace → Position → ℕ → Type 0
IsDead version t p id = (lo : ℕ) (x : Placed) (rest : List Placed) → last_event p.list.items ≤ lo → x.call ≡ id
    → CanEnd version t (tree_of p.tree) p.list.items lo (x ∷ rest) → ⊥

-- None begins with a step of this call that takes this number for the node it makes; for 0: none with any step of it.
abbrev pub IsDeadWith : Version → Trace → Position → ℕ → ℕ → Type 0
IsDeadWith version t p id new = (lo : ℕ) (x : Placed) (rest : List Placed) → last_event p.list.items ≤ lo → x.call ≡ id
    → (new ≢ 0 → x.step.new ≡ new) → CanEnd version t (tree_of p.tree) p.list.items lo (x ∷ rest) → ⊥

-- Each that begins with a step of this call takes a number for a node that it makes.
abbrev pub NeedsNumber : Version → Trace → Position → ℕ → Type 0
NeedsNumber version t p id = (lo : ℕ) (x : Placed) (rest : List Placed) → last_event p.list.items ≤ lo → x.call ≡ id
    → CanEnd version t (tree_of p.tree) p.list.items lo (x ∷ rest) → (1 ≤ x.step.new) × (x.step.new < (tree_of p.tree).ninodes)

-- the same list and the same tree
pub record IsSame (p q : Position) : Type 0 where
  pub list : q.list.items ≡ p.list.items
  pub tree : tree_of q.tree ≡ tree_of p.tree

-- how many steps a call has at most
abbrev pub most : Call → ℕ
most (Open path flags) = 2
most (Write fd bytes) = piece_count bytes
most (Link old new) = 4
most c = 1

-- how many steps may still come
unfoldable pub left : ℕ → List TracedCall → List Placed → ℕ
left id [] list = 0
left id (c ∷ cs) list = (most c.call - length (acts_of id list)) + left (id + 1) cs list

abbrev pub steps_left : Trace → Position → ℕ
steps_left t p = left 0 t.calls p.list.items

-- one entry more, of this call
pub record IsMore (p : Position) (id : ℕ) (q : Position) : Type 0 where
  pub entry : Placed
  pub call : entry.call ≡ id
  pub list : q.list.items ≡ p.list.items ++ entry ∷ []

-- What came of a try to place the next step of a call.

-- no call that has to go on has to return before this event
abbrev pub IsLimit : List (Option ℕ) → ℕ → Type 0
IsLimit ends limit = (id e : ℕ) → slice_index_or ends id None ≡ Some e → limit ≤ e

-- No later event was wished for, and at the limit some call has to return: then it is placed as early as any may be.
pub record IsEarliest (p : Position) (wish limit : ℕ) : Type 0 where
  pub unwished : wish ≡ 0
  pub due : Due
  pub is : IsDue p.ends due
  pub at : due.limit ≡ limit

pub record IsMade (version : Version) (base : TreeData) (t : Trace) (p : Position) (id new wish limit : ℕ) (q : Position) : Type 0 where
  pub at : IsAt version base t q
  pub more : IsMore p id q
  pub fewer : steps_left t q < steps_left t p
  pub ruled_out : IsEarliest p wish limit → IsHopeless version t q → IsDeadWith version t p id new

pub record IsKept (version : Version) (base : TreeData) (t : Trace) (p q : Position) : Type 0 where
  pub at : IsAt version base t q
  pub same : IsSame p q

abbrev pub IsPlaced : Version → TreeData → Trace → Position → ℕ → ℕ → ℕ → ℕ → Placing → Position → Type 0
IsPlaced version base t p id new wish limit placing.Made q = IsMade version base t p id new wish limit q
IsPlaced version base t p id new wish limit placing.Refused q =
    IsKept version base t p q × (IsEarliest p wish limit → IsDeadWith version t p id new)
IsPlaced version base t p id new wish limit placing.BadChoice q =
    IsKept version base t p q × NeedsNumber version t p id × (new ≢ 0 → IsDeadWith version t p id new)

-- the last entry is taken back
pub record IsUndone (version : Version) (base : TreeData) (t : Trace) (p q : Position) : Type 0 where
  pub at : IsAt version base t q
  pub list : (front : List Placed) (e : Placed) → p.list.items ≡ front ++ e ∷ [] → q.list.items ≡ front

-- What came of a search from there on.

pub record HasFound (version : Version) (base : TreeData) (t : Trace) (q : Position) : Type 0 where
  pub at : IsAt version base t q
  pub through : IsThrough q

abbrev pub IsTried : Version → TreeData → Trace → Position → ℕ → ℕ → Tried → Position → Type 0
IsTried version base t p id new tried.Found q = HasFound version base t q
IsTried version base t p id new tried.Dead q = IsKept version base t p q × IsDeadWith version t p id new
IsTried version base t p id new tried.BadChoice q =
    IsKept version base t p q × NeedsNumber version t p id × (new ≢ 0 → IsDeadWith version t p id new)

-- found, or nothing begins with a step of this call
abbrev pub CallIsExplored : Version → TreeData → Trace → Position → ℕ → Bool → Position → Type 0
CallIsExplored version base t p id true q = HasFound version base t q
CallIsExplored version base t p id false q = IsKept version base t p q × IsDead version t p id

-- found, or there is nothing
abbrev pub IsExplored : Version → TreeData → Trace → Position → Bool → Position → Type 0
IsExplored version base t p true q = HasFound version base t q
IsExplored version base t p false q = IsKept version base t p q × IsHopeless version t p

-- the step's answer is one that the finished call may have
abbrev pub Fits : Option (ℕ × Reply) → Call → Stand → Stand → StepAnswer → Type 0
Fits None c s s' a = Unit {0}
Fits (Some r) c s s' a = (is_full a ≡ false) × (is_told c s s' ≡ true → r.1 ≡ reply_at c s'.cause a)

-- a step of the call may be numbered so
abbrev pub IsTimely : Option (ℕ × Reply) → ℕ → ℕ → ℕ → Type 0
IsTimely None event limit events = (event ≤ limit) × (event < events)
IsTimely (Some r) event limit events = event ≤ limit

-- a step was placed, or none
abbrev pub IsSteppedOn : Version → TreeData → Trace → Position → Bool → Position → Type 0
IsSteppedOn version base t p true q = IsAt version base t q × (steps_left t q < steps_left t p)
IsSteppedOn version base t p false q = IsKept version base t p q
