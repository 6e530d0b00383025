-- What is kept of a run is its own list of tree steps, and whether each step of it found room.
use Rattle.std.specs.Prelude.{◌≡◌, ◌↔◌, ◌<◌, ◌^◌, ℕ, false, List, length}
use Rattle.atomic_programs.specs.Calls.{Event as EventOf}
use Rattle.hart_core.specs.Harts.{HartsOf}
use Rattle.hart_core.specs.Runs.{FoundRoom, IsHistory, IsMounted}
use Rattle.hart_core.specs.Telling.{some_lacks_place}
use Rattle.hart_core.specs.Worlds.{WorldOf}
use Rattle.hart_core.specs.declared.events.Came.{Came}
use Rattle.hart_core.specs.declared.events.Event.{Event}
use Rattle.image_tree.specs.Images.{tree_in}
use Rattle.plain_tree.specs.declared.call.Call.{Call}
use Rattle.run_laws.specs.OneList.{list_of}
use Rattle.run_laws.specs.Vocabulary.{Outside}
use Rattle.tree_histories.specs.Keeping.{KeptTree, ended, nothing_kept}
use Rattle.kept_histories.specs.Keeps.{KeepsRun}

module _ {D : Type 0} (contents : D → List (List ℕ)) (failures : D → ℕ) where
  -- A keeper noted each event of a run of this world, which is as a mount left it, from the image's tree on, and that
  -- the run has ended. Each step of a history of the run found room exactly if the keeper knows of none that didn't.
  -- If each found room, it has kept just that history's list of tree steps. There are fewer events than a number can
  -- count.
  abbrev pub KeptListsAreTheRuns : WorldOf D → Type 0
  KeptListsAreTheRuns w =
      (device : D) (events : List Event) (came : List Came) (new : HartsOf D) (k : KeptTree) (history : List (EventOf Call Outside))
      → IsMounted contents failures device w
      → KeepsRun contents failures w.sizes w.harts (nothing_kept w.sizes.version (tree_in (contents device))) events came new k
      → IsHistory contents failures w.sizes w.harts events came new history
      → length events < 2 ^ 64
      → (FoundRoom contents failures w history ↔ ((ended (some_lacks_place new) k).full ≡ false))
      × (FoundRoom contents failures w history → k.list ≡ list_of contents failures w history)
