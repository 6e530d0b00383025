-- The trace of a run, when one list of tree steps explains it, and the part of a tree that has names.
use Rattle.std.specs.Prelude.{◌≡◌, ℕ, ◌+◌, ◌≤◌, ◌<◌, ◌&&◌, List, [], ◌∷◌, ◌++◌, map, ◌==◌, if◌then◌else◌, Option, Some, None, slice_get}
use Rattle.image_versions.specs.declared.version.Version.{Version}
use Rattle.plain_tree.specs.declared.answer.Reply.{Reply}
use Rattle.plain_tree.specs.declared.call.Call.{Call}
use Rattle.plain_tree.specs.declared.trace.Trace.{Trace}
use Rattle.plain_tree.specs.declared.trace.TracedCall.{TracedCall}
use Rattle.plain_tree.specs.declared.trace.Placed.{Placed}
use Rattle.plain_tree.specs.Basics.{TreeData, Name, Tree, tree_of, follow, Step, is_nothing, root}
use Rattle.plain_tree.specs.Calls.{Act, IsBeginning, IsWhole}

-- what a run shows of an event
pub data Shown : Type 0 where
  Started : (hart : ℕ) → (call : Call) → Shown
  Replied : (hart : ℕ) → (reply : Reply) → Shown
  Other : Shown  -- a refused start, a wait, a step that ran, a stop

abbrev pub no_calls : Trace
no_calls = record { calls = []; events = 0 }

-- the hart's call that isn't finished ends
abbrev pub ends_at : ℕ → Reply → ℕ → TracedCall → TracedCall
ends_at h r now c = if (c.hart == h) && is_nothing c.finished then record c { finished = Some (now, r) } else c

abbrev pub noted : Trace → Shown → Trace
noted t (Started h c) =
    record { calls = t.calls ++ record { hart = h; start = t.events; call = c; finished = None } ∷ []; events = t.events + 1 }
noted t (Replied h r) = record { calls = map (ends_at h r t.events) t.calls; events = t.events + 1 }
noted t Other = record { calls = t.calls; events = t.events + 1 }

unfoldable pub trace_from : Trace → List Shown → Trace
trace_from t [] = t
trace_from t (s ∷ ss) = trace_from (noted t s) ss

abbrev pub trace_of : List Shown → Trace
trace_of shown = trace_from no_calls shown

-- Explains, clause by clause.

-- the event numbers never fall
unfoldable pub Rises : ℕ → List Placed → Type 0
Rises lo [] = Unit {0}
Rises lo (e ∷ es) = (lo ≤ e.event) × Rises e.event es

-- each step leads on from the tree that the one before left
unfoldable pub Chain : Version → Tree → List Placed → Tree → Type 0
Chain v t [] t' = t ≡ t'
Chain v t (e ∷ es) t' = (mid : Tree) × Step v t e.step e.answer mid × Chain v mid es t'

abbrev pub act_of : Placed → Act
act_of e = record { step = e.step.action; answer = e.answer }

-- what the list has of the call at this place of the trace
unfoldable pub acts_of : ℕ → List Placed → List Act
acts_of id [] = []
acts_of id (e ∷ es) = if e.call == id then act_of e ∷ acts_of id es else acts_of id es

-- a finished call's steps are its whole written sequence and make its reply; the steps of any other call are a
-- beginning of it
abbrev pub IsWritten : Call → List Act → Option (ℕ × Reply) → Type 0
IsWritten c acts (Some r) = IsWhole c acts r.1
IsWritten c acts None = IsBeginning c acts

-- not after the return; if there is none, not after the last event
abbrev pub IsInTime : ℕ → ℕ → Option (ℕ × Reply) → Type 0
IsInTime events n (Some r) = n ≤ r.0
IsInTime events n None = n < events

pub record Belongs (t : Trace) (e : Placed) : Type 0 where
  pub traced : TracedCall
  pub is : slice_get t.calls e.call ≡ Some traced
  pub hart : e.step.hart ≡ traced.hart
  pub after_start : traced.start ≤ e.event
  pub before_return : IsInTime t.events e.event traced.finished

unfoldable pub AllBelong : Trace → List Placed → Type 0
AllBelong t [] = Unit {0}
AllBelong t (e ∷ es) = Belongs t e × AllBelong t es

-- From the tree base the list explains the trace.
pub record Explains (v : Version) (base : TreeData) (t : Trace) (list : List Placed) : Type 0 where
  pub rises : Rises 0 list
  pub end : Tree
  pub chain : Chain v (tree_of base) list end
  pub written : (id : ℕ) (c : TracedCall) → slice_get t.calls id ≡ Some c → IsWritten c.call (acts_of id list) c.finished
  pub belongs : AllBelong t list

-- a node that a path from the root leads to
abbrev pub IsReached : Tree → ℕ → Type 0
IsReached t n = (es : List Name) × (follow t.nodes root es ≡ Some n)

-- named is the part of t that is reachable from the root, with nothing open and all harts in the root
pub record IsNamedPart (t named : Tree) : Type 0 where
  pub ninodes : named.ninodes ≡ t.ninodes
  pub reached : (n : ℕ) → IsReached t n → named.nodes n ≡ t.nodes n
  pub others : (n : ℕ) → (IsReached t n → ⊥) → named.nodes n ≡ None
  pub files : (id : ℕ) → named.files id ≡ None
  pub fds : (h i : ℕ) → named.fds h i ≡ None
  pub holds : (h : ℕ) → named.holds h ≡ None
  pub cwd : (h : ℕ) → named.cwd h ≡ root
