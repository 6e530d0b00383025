-- A run has one list of tree steps, and it only grows: each beginning of the run agrees with it.
use Rattle.std.specs.Prelude.{◌≡◌, ◌⊎◌, ℕ, ◌≤◌, List, ◌++◌, length, take}
use Rattle.run_laws.specs.Vocabulary.{tree_in, Call, Placed, Explains, IsNamedPart, Tree, tree_of, TreeData, IsMarked, before, EventOf, Outside, history_of, block_moves, first, Came, Event, HartsOf, FoundRoom, IsHistory, IsMounted, NoneClimbs, OneHart, trace_in, after_first, marks_of, WorldOf}
use Rattle.plain_tree.specs.Explains.{Chain}

-- the list has these entries first
abbrev pub IsBeginningOf : List Placed → List Placed → Type 0
IsBeginningOf entries list = (rest : List Placed) × (entries ++ rest ≡ list)

module _ {D : Type 0} (contents : D → List (List ℕ)) (failures : D → ℕ) where
  -- The list of tree steps of this history of a run of this world: it is kept beside the events, each of which appends what it did.
  abbrev pub list_of : WorldOf D → List (EventOf Call Outside) → List Placed
  list_of w history =
      let device = w.harts.core.log.cache.device in
      history_of w.sizes.version (block_moves w.sizes) (first (contents device) (failures device)) history

  -- the disk as it is after the first k events
  abbrev pub disk_after : WorldOf D → ℕ → List (EventOf Call Outside) → List (List ℕ)
  disk_after w k history = (after_first contents failures w k history).shared.state.log.contents

  -- The first k events of a run agree with the list of the whole run.
  pub record AgreesWithTheList (base : TreeData) (w : WorldOf D) (events : List Event) (came : List Came)
      (history : List (EventOf Call Outside)) (k : ℕ) : Type 0 where
    -- The list so far is a beginning of it: the entries of those events.
    pub so_far : list_of w (take k history) ≡ before k (list_of w history)
    pub begins : IsBeginningOf (list_of w (take k history)) (list_of w history)
    -- It explains the calls that were started so far, and their replies.
    pub explains : Explains w.sizes.version base (trace_in (take k events) (take k came)) (list_of w (take k history))
    -- If the world stops at this point, this count of events is stored: those up to the cut, or up to the doubt.
    pub stored : ℕ
    pub marked : IsMarked (marks_of contents failures w (take k history)) stored
    pub past : stored ≤ k
    -- The disk's tree is what has names in the tree to which their entries lead.
    pub tree : Tree
    pub leads : Chain w.sizes.version (tree_of base) (before stored (list_of w history)) tree
    pub named : IsNamedPart tree (tree_of (tree_in (disk_after w k history)))

  -- If this world is as a mount left it, in each history of a run all beginnings agree with one list, from the
  -- image's tree. That holds as long as no step found no room, and no path climbs or one hart has made all calls.
  abbrev pub RunsHaveOneList : WorldOf D → Type 0
  RunsHaveOneList w =
      (device : D) (events : List Event) (came : List Came) (new : HartsOf D) (history : List (EventOf Call Outside))
      → IsMounted contents failures device w → IsHistory contents failures w.sizes w.harts events came new history
      → FoundRoom contents failures w history → NoneClimbs (trace_in events came) ⊎ OneHart (trace_in events came)
      → (k : ℕ) → k ≤ length events → AgreesWithTheList (tree_in (contents device)) w events came history k
