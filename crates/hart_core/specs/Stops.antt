-- A stop after a run of a mounted world: how much of it the disk holds.
use Rattle.std.specs.Prelude.{◌≡◌, ◌⊎◌, ℕ, zero, suc, ◌+◌, ◌<◌, List, [], ◌∷◌, ◌++◌, Option, Some, None, slice_get, take}
use Rattle.hart_core.specs.Vocabulary.{Super, Version, Reply, Call, Placed, Trace, TracedCall, Chain, Explains, IsNamedPart, acts_of, Tree, tree_of, TreeData, tree_in, Marks, joined, no_marks, before, EventOf, Plain, plain_makes, plain_run, LogPart, Outside, block_calls, block_code, marks_told, at_point, marks_at}
use Rattle.hart_core.specs.declared.events.Event.{Event}
use Rattle.hart_core.specs.declared.events.Event.TheVariants as event
use Rattle.hart_core.specs.declared.events.Came.{Came}
use Rattle.hart_core.specs.declared.events.Came.TheVariants as came
use Rattle.hart_core.specs.declared.outcome.Outcome.TheVariants as outcome
use Rattle.hart_core.specs.Harts.{HartsOf}
use Rattle.hart_core.specs.Runs.{IsHistory, IsMounted, FoundRoom, NoneClimbs, OneHart, trace_in}
use Rattle.hart_core.specs.Worlds.{WorldOf, calls_of}

-- the number of the last of n events
abbrev pub last_of : ℕ → Option ℕ
last_of zero = None
last_of (suc n) = Some n

abbrev pub doubt_of : Option ℕ → Option ℕ
doubt_of None = None
doubt_of (Some n) = last_of n

-- how many events there are up to this one
abbrev pub up_to : Option ℕ → ℕ
up_to None = 0
up_to (Some n) = n + 1

-- k is the count up to the cut, or up to the doubt if there is one
abbrev pub IsMarkedBy : Option ℕ → Option ℕ → ℕ → Type 0
IsMarkedBy cut doubt k = (k ≡ up_to cut) ⊎ ((n : ℕ) × (doubt ≡ Some n) × (k ≡ n + 1))

-- One list of tree steps of this version explains the trace, from this tree. The entries of its events up to the cut, or
-- up to the doubt, are a beginning of it. The disk's tree is what has names in the tree to which they lead.
pub record HoldsABeginning (version : Version) (base : TreeData) (t : Trace) (disk : List (List ℕ)) (cut doubt : Option ℕ) : Type 0 where
  pub list : List Placed
  pub explains : Explains version base t list
  pub k : ℕ
  pub marked : IsMarkedBy cut doubt k
  pub rest : List Placed
  pub begins : before k list ++ rest ≡ list
  pub tree : Tree
  pub leads : Chain version (tree_of base) (before k list) tree
  pub named : IsNamedPart tree (tree_of (tree_in disk))
  -- a call that replied in these events has all its entries there
  pub returned : (id : ℕ) (c : TracedCall) (now : ℕ) (reply : Reply) → slice_get t.calls id ≡ Some c → c.finished ≡ Some (now, reply)
      → now < k → acts_of id (before k list) ≡ acts_of id list

module _ (sizes : Super) where
  abbrev pub log_of : Plain (block_calls sizes) (block_code sizes) → LogPart
  log_of p = p.shared.state.log

  abbrev pub next_of : EventOf Call Outside → Plain (block_calls sizes) (block_code sizes) → Plain (block_calls sizes) (block_code sizes)
  next_of e p = (plain_makes (block_calls sizes) (block_code sizes) e p).after

  -- the marks after these events, with n before them, by the place to which each took the commit
  abbrev pub marks_in : ℕ → List (EventOf Call Outside) → Plain (block_calls sizes) (block_code sizes) → Marks → Marks
  marks_in n [] p m = m
  marks_in n (e ∷ es) p m =
      marks_in (n + 1) es (next_of e p) (marks_told (n + 1) (log_of p).phase (at_point (log_of p)) (log_of (next_of e p)).phase m)

module _ {D : Type 0} (contents : D → List (List ℕ)) (failures : D → ℕ) where
  -- a history of a run, and the marks that result from it
  abbrev pub HasMarks : Super → HartsOf D → List Event → List Came → HartsOf D → Marks → Type 0
  HasMarks sizes old events outcomes new m =
      (history : List (EventOf Call Outside)) × IsHistory contents failures sizes old events outcomes new history
      × (marks_in sizes 0 history (calls_of contents failures sizes old) no_marks ≡ m)

  -- a history of a run, whose marks give this cut and this doubt
  abbrev pub HasCut : Super → HartsOf D → List Event → List Came → HartsOf D → Option ℕ → Option ℕ → Type 0
  HasCut sizes old events outcomes new cut doubt =
      (m : Marks) × HasMarks sizes old events outcomes new m × (cut ≡ last_of m.cut) × (doubt ≡ doubt_of m.doubt)

  -- the marks of a mounted world's events
  abbrev pub marks_of : WorldOf D → List (EventOf Call Outside) → Marks
  marks_of w history = marks_at (contents w.harts.core.log.cache.device) (failures w.harts.core.log.cache.device) history

  -- the harts after the first k events of a history
  abbrev pub after_first : (w : WorldOf D) → ℕ → List (EventOf Call Outside) → Plain (block_calls w.sizes) (block_code w.sizes)
  after_first w k history =
      plain_run (block_calls w.sizes) (block_code w.sizes) (take k history) (calls_of contents failures w.sizes w.harts)

  -- There is a history of the run as follows, if the world was mounted. The cut and the doubt are what its events
  -- mark. Nobody is in a transaction after the events up to them. The cut has each step that began a commit, once its
  -- hart has replied. The disk holds a beginning of the one list that explains the run, if no step found no room, and
  -- no path climbs or one hart has made all calls.
  pub record RunLeavesABeginning (w : WorldOf D) (events : List Event) (outcomes : List Came) (new : HartsOf D)
      (cut doubt : Option ℕ) : Type 0 where
    pub history : List (EventOf Call Outside)
    pub is : IsHistory contents failures w.sizes w.harts events outcomes new history
    pub cut_is : (device : D) → IsMounted contents failures device w → cut ≡ last_of (marks_of w history).cut
    pub doubt_is : (device : D) → IsMounted contents failures device w → doubt ≡ doubt_of (marks_of w history).doubt
    pub apart : (device : D) → IsMounted contents failures device w → (k : ℕ) → IsMarkedBy cut doubt k
        → joined (after_first w k history).shared.state.log.members ≡ 0
    pub stored : (device : D) → IsMounted contents failures device w → (i j h : ℕ) (reply : Reply)
        → slice_get events i ≡ Some (event.Step h) → (marks_of w (take (i + 1) history)).begun ≡ i + 1
        → i < j → slice_get events j ≡ Some (event.Step h) → slice_get outcomes j ≡ Some (came.Stepped (outcome.Done reply)) → i < up_to cut
    pub holds : (device : D) → IsMounted contents failures device w → FoundRoom contents failures w history
        → NoneClimbs (trace_in events outcomes) ⊎ OneHart (trace_in events outcomes)
        → HoldsABeginning w.sizes.version (tree_in (contents device)) (trace_in events outcomes) (contents new.core.log.cache.device) cut doubt
