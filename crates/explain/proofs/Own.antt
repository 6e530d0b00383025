-- What explains a whole run is the list of each of its histories.
use Rattle.std.specs.Prelude.{◌≡◌, ◌⊎◌, ℕ, List, length, take}
use Rattle.std.proofs.Common.{arith}
use Rattle.hart_core.proofs.Histories.{long_history, one_each}
use Rattle.hart_core.specs.Runs.{NoneClimbs, OneHart}
use Rattle.explain.proofs.Vocabulary.{subst, Came, Event, Explains, WorldOf, trace_in, tree_in}
use Rattle.explain.specs.Vocabulary.{Call, Super, version_in, EventOf, FoundRoom, HartsOf, IsHistory, IsMounted, Outside}
use Rattle.run_laws.proofs.OneList.{runs_have_one_list}
use Rattle.run_laws.specs.OneList.{AgreesWithTheList, list_of}
use Rattle.calls_on_blocks.proofs.Vocabulary.{take_all}

module _ {D : Type 0} (contents : D → List (List ℕ)) (failures : D → ℕ) (w : WorldOf D) where
  pub list_explains : (device : D) (events : List Event) (came : List Came) (new : HartsOf D) (history : List (EventOf Call Outside)) → IsMounted contents failures device w
      → IsHistory contents failures w.sizes w.harts events came new history → FoundRoom contents failures w history → NoneClimbs (trace_in events came) ⊎ OneHart (trace_in events came)
      → Explains (version_in (contents device)) (tree_in (contents device)) (trace_in events came) (list_of contents failures w history)
  list_explains device events came new history mounted is room calm =
      let n : ℕ = length events in
      let each : length came ≡ length events = one_each contents failures w.sizes w.harts new events came (history, is) in
      let long : length history ≡ length came = long_history contents failures w.sizes w.harts new events came history is in
      let agrees : AgreesWithTheList contents failures (tree_in (contents device)) w events came history n =
      runs_have_one_list contents failures w device events came new history mounted is room calm n (omega arith) in
      subst (λ (s : Super). Explains s.version (tree_in (contents device)) (trace_in events came) (list_of contents failures w history)) mounted.sizes
      (subst (λ (h : List (EventOf Call Outside)). Explains w.sizes.version (tree_in (contents device)) (trace_in events came) (list_of contents failures w h)) (take_all n history (omega (arith, each, long)))
      (subst (λ (cs : List Came). Explains w.sizes.version (tree_in (contents device)) (trace_in events cs) (list_of contents failures w (take n history))) (take_all n came (omega (arith, each)))
      (subst (λ (es : List Event). Explains w.sizes.version (tree_in (contents device)) (trace_in es (take n came)) (list_of contents failures w (take n history))) (take_all n events (omega arith)) agrees.explains)))
