-- What is kept of a run of a mounted world is the run's own list, whichever history of it one takes, if each step
-- found room. And the keeper knows of a step that found none exactly if there is one.
use Rattle.std.specs.Prelude.{◌≡◌, ◌⊎◌, ◌↔◌, ◌<◌, ◌^◌, ◌||◌, ℕ, Bool, true, false, List, [], Option, Some, None, length}
use Rattle.std.proofs.lemmas.Bool.{or_parts}
use Rattle.calls_on_blocks.proofs.Vocabulary.{refl, sym, ◌∙◌, ap, subst, inl, inr, arith, AllHonest, RunsFrom, IsMoving}
use Rattle.calls_on_blocks.proofs.History.{moving, runs_from}
use Rattle.atomic_programs.specs.Calls.{Event, fresh}
use Rattle.calls_on_blocks.specs.History.{RunsOn, block_moves, first}
use Rattle.calls_on_blocks.specs.Vocabulary.{IsMountable}
use Rattle.calls_on_blocks.specs.Theory.{block_calls}
use Rattle.fs_layout.specs.declared.superblock.Super.{Super}
use Rattle.hart_core.proofs.Resting.{mountable, rests_erased}
use Rattle.hart_core.proofs.Storing.{honest_run}
use Rattle.hart_core.specs.Harts.{AreHarts, HartsOf, shared_of}
use Rattle.hart_core.specs.Mounting.{Rests}
use Rattle.hart_core.specs.Runs.{FoundRoom, IsHistory, IsMounted}
use Rattle.hart_core.specs.Telling.{some_lacks_place}
use Rattle.hart_core.specs.Worlds.{WorldOf}
use Rattle.hart_core.specs.declared.events.Came.{Came}
use Rattle.hart_core.specs.declared.events.Event.{Event as HartEvent}
use Rattle.image_tree.specs.Images.{tree_in}
use Rattle.inode_machine.specs.Kept.{nothing_yet}
use Rattle.path_walk.specs.declared.asks.Heard.{Heard}
use Rattle.plain_tree.specs.Tree.{tree_of}
use Rattle.plain_tree.specs.TreeData.{TreeData}
use Rattle.plain_tree.specs.declared.call.Call.{Call}
use Rattle.run_laws.proofs.PlacesAt.{steps_place_in_time}
use Rattle.run_laws.proofs.UnderWayRuns.{made_as_they_act}
use Rattle.run_laws.specs.OneList.{list_of}
use Rattle.run_laws.specs.UnderWay.{GoesOnAsItActs}
use Rattle.run_laws.specs.Vocabulary.{Outside, sizes_of}
use Rattle.tree_histories.specs.Keeping.{KeptTree, ended, nothing_kept}
use Rattle.kept_histories.specs.Keeps.{KeepsRun}
use Rattle.kept_histories.specs.Laws.{KeptListsAreTheRuns}
use Rattle.kept_histories.proofs.Claiming.{none_gives}
use Rattle.kept_histories.proofs.Counted.{counted_first}
use Rattle.kept_histories.proofs.Found.{AllFound}
use Rattle.kept_histories.proofs.HartsAtEnd.{harts_at_end, idle_harts}
use Rattle.kept_histories.proofs.KeptHistory.{history_in, is_history}
use Rattle.kept_histories.proofs.KeptLists.{agrees_first, kept_agrees}
use Rattle.kept_histories.proofs.OneRun.{one_run}
use Rattle.kept_histories.proofs.ShortRuns.{EndsShort, EndsWithRoom, lacks_none, run_ends}
use Rattle.kept_histories.proofs.Basics.{not_both}

module _ {D : Type 0} (contents : D → List (List ℕ)) (failures : D → ℕ) (device : D) (w : HartsOf D) (rests : Rests contents failures device w) where
  abbrev disk : List (List ℕ)
  disk = contents w.core.log.cache.device

  abbrev count : ℕ
  count = failures w.core.log.cache.device

  abbrev sizes : Super
  sizes = sizes_of disk

  abbrev base : TreeData
  base = tree_in (contents device)

  module _ (last : Option Heard) (events : List HartEvent) (cs : List Came) (new : HartsOf D) (k : KeptTree)
      (r : KeepsRun contents failures (sizes_of (contents w.core.log.cache.device)) w
      (nothing_kept (sizes_of (contents w.core.log.cache.device)).version (tree_in (contents device))) events cs new k) where
    abbrev world : WorldOf D
    world = record { harts = w; sizes = sizes; last = last }

    -- the history that the keeper noted
    abbrev told : List (Event Call Outside)
    told = history_in contents failures sizes events cs w new (nothing_kept sizes.version base) k r

    is : IsHistory contents failures sizes w events cs new told
    is = is_history contents failures sizes events cs w new (nothing_kept sizes.version base) k r

    may : IsMountable disk
    may = mountable contents failures device w rests

    honest : AllHonest (block_calls sizes) told (fresh (block_calls sizes) (first disk count))
    honest = honest_run contents failures device w rests events cs new told is

    goes : GoesOnAsItActs sizes (first disk count) told
    goes = made_as_they_act disk count told may honest

    -- no event is a run in which each step found room
    nothing_ran : RunsOn disk count []
    nothing_ran = record { mountable = may; honest = tt; clean = refl }

    opens : (block_moves sizes).tree (first disk count) ≡ record { tree = tree_of base; walk = λ h. None }
    opens =
        let begins : RunsFrom sizes.version (block_moves sizes) (tree_in disk) (first disk count) [] = runs_from disk count [] nothing_ran in
        let m : IsMoving sizes.version (block_moves sizes) = moving sizes in
        let tree = begins.tree ∙ ap tree_of rests.disk.tree in
        λ i. record { tree = tree i; walk = λ h. m.rests h (first disk count) (begins.idle h) i }

    -- its list is kept
    told_list : FoundRoom contents failures world told → length events < 2 ^ 64 → k.list ≡ list_of contents failures world told
    told_list clean few =
        let runs : RunsOn disk count told = record { mountable = may; honest = honest; clean = clean } in
        let end = kept_agrees contents failures disk count base w events cs new k r runs goes steps_place_in_time
        (rests_erased contents failures device w rests) rests.idle opens few in
        end.1.agrees.book.list ∙ end.1.counted.plain

    -- how it ends
    ends : length events < 2 ^ 64 → EndsWithRoom disk count told honest goes nothing_ran contents failures new k ⊎ EndsShort disk count told honest goes nothing_ran contents failures new k
    ends few =
        run_ends disk count told honest goes nothing_ran contents failures steps_place_in_time [] events cs nothing_yet w new
        (nothing_kept sizes.version base) k r refl refl
        (λ h u under. none_under h u under) (none_gives (goes.under 0) goes.none_yet)
        (record { agrees = agrees_first contents failures sizes (first disk count) base w (goes.under 0) goes.none_yet (rests_erased contents failures device w rests) rests.idle opens; counted = counted_first })
        (omega (arith, few))
      where
        none_under : AllFound (goes.under 0)
        none_under h u is = absurd (let q : None ≡ Some u = sym (goes.none_yet h) ∙ is in cc)

    -- what the harts have in hand goes with the state
    harts : AreHarts (shared_of contents failures new) new.calls
    harts = harts_at_end contents failures sizes events cs w new (nothing_kept sizes.version base) k r (idle_harts contents failures w rests.idle)

    -- each step found room exactly if the keeper knows of none that didn't
    told_room : length events < 2 ^ 64 → FoundRoom contents failures world told ↔ ((ended (some_lacks_place new) k).full ≡ false)
    told_room few = elim (ends few) [
      | inl e ↦ (
        λ clean. ap (λ (b : Bool). b || some_lacks_place new) e.agrees.agrees.room ∙ lacks_none disk count told honest goes nothing_ran contents failures new k e harts,
        λ none. e.clean,
      )
      | inr e ↦ (λ clean. not_both _ clean e.short, λ none. known_not e.known none)
    ]
      where
        known_not : {X : Type 0} → (k.full ≡ true) ⊎ (some_lacks_place new ≡ true) → (k.full || some_lacks_place new) ≡ false → X
        known_not (inl full) none = not_both _ full (or_parts k.full (some_lacks_place new) none).0
        known_not (inr lacks) none = not_both _ lacks (or_parts k.full (some_lacks_place new) none).1

    -- .. and so of each history
    any_history : (history : List (Event Call Outside)) → IsMounted contents failures device world → IsHistory contents failures sizes w events cs new history → length events < 2 ^ 64
        → (FoundRoom contents failures world history ↔ ((ended (some_lacks_place new) k).full ≡ false))
        × (FoundRoom contents failures world history → k.list ≡ list_of contents failures world history)
    any_history history mounted also few =
        let one = one_run contents failures world device events cs new new history told mounted also is in
        let other = one_run contents failures world device events cs new new told history mounted is also in
        let room = told_room few in
        ((λ found. room.0 (one.1 found), λ none. other.1 (room.1 none)), λ found. told_list (one.1 found) few ∙ sym one.0)

module _ {D : Type 0} (contents : D → List (List ℕ)) (failures : D → ℕ) (w : WorldOf D) where
  -- the law, of a world with these sizes
  abbrev Law : (device : D) (events : List HartEvent) (cs : List Came) (new : HartsOf D) (k : KeptTree) (history : List (Event Call Outside)) → WorldOf D → Type 0
  Law device events cs new k history z =
      KeepsRun contents failures z.sizes z.harts (nothing_kept z.sizes.version (tree_in (contents device))) events cs new k
      → IsHistory contents failures z.sizes z.harts events cs new history → length events < 2 ^ 64
      → (FoundRoom contents failures z history ↔ ((ended (some_lacks_place new) k).full ≡ false))
      × (FoundRoom contents failures z history → k.list ≡ list_of contents failures z history)

  pub kept_lists_are : KeptListsAreTheRuns contents failures w
  kept_lists_are device events cs new k history mounted =
      let same : w.sizes ≡ sizes_of (contents w.harts.core.log.cache.device) = mounted.sizes ∙ sym mounted.rests.disk.sizes in
      subst (Law device events cs new k history) (λ i. record { harts = w.harts; sizes = sym same i; last = w.last })
      (λ r also few. any_history contents failures device w.harts mounted.rests w.last events cs new k r history (record { rests = mounted.rests; sizes = mounted.rests.disk.sizes }) also few)
