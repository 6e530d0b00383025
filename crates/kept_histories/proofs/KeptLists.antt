-- What is kept of a run of a mounted disk, in which no step found no room, agrees with the theory.
use Rattle.std.specs.Prelude.{◌≡◌, ◌<◌, ◌^◌, ℕ, zero, suc, true, List, [], ◌∷◌, ◌++◌, Option, Some, None, length, get_or, replicate}
use Rattle.calls_on_blocks.proofs.Vocabulary.{refl, sym, ◌∙◌, ap, subst, append_assoc, arith, RunsFrom}
use Rattle.calls_on_blocks.proofs.History.{runs_from}
use Rattle.atomic_programs.proofs.Reached.{run-append}
use Rattle.atomic_programs.specs.Calls.{Event, Run, State, Theory, fresh, makes, next}
use Rattle.atomic_programs.specs.Plain.{erase}
use Rattle.calls_on_blocks.specs.History.{RunsOn, block_moves, first}
use Rattle.calls_on_blocks.specs.Theory.{block_calls, block_code}
use Rattle.run_laws.specs.Vocabulary.{sizes_of}
use Rattle.fs_layout.specs.declared.superblock.Super.{Super}
use Rattle.fs_machine.specs.LogPart.{Passes}
use Rattle.hart_core.specs.Harts.{AreIdle, HartsOf}
use Rattle.hart_core.specs.Worlds.{calls_of}
use Rattle.hart_core.specs.declared.events.Came.{Came}
use Rattle.hart_core.specs.declared.events.Event.{Event as HartEvent}
use Rattle.image_tree.specs.Images.{tree_in}
use Rattle.inode_machine.specs.Kept.{nothing_yet}
use Rattle.inode_machine.specs.Kept.{kept}
use Rattle.plain_tree.specs.Tree.{tree_of}
use Rattle.plain_tree.specs.TreeData.{TreeData}
use Rattle.plain_tree.specs.declared.call.Call.{Call}
use Rattle.run_laws.specs.UnderWay.{Fits, GoesOnAsItActs, StepsPlaceInTime, UnderWay}
use Rattle.run_laws.specs.Vocabulary.{Outside}
use Rattle.syscalls.specs.Machines.{Running}
use Rattle.tree_histories.proofs.Booked.{book_none}
use Rattle.tree_histories.specs.Keeping.{KeptTree, Under, hart_in, nothing_kept, stage_of, walk_under}
use Rattle.tree_laws.specs.Vocabulary.{hart_count}
use Rattle.kept_histories.specs.Keeps.{KeepsRun}
use Rattle.kept_histories.proofs.Agreeing.{Agrees}
use Rattle.kept_histories.proofs.AgreeingRuns.{AgreesAt, run_agrees}
use Rattle.kept_histories.proofs.Counted.{counted_first}
use Rattle.kept_histories.proofs.EachEvent.{AllKnown, Known}
use Rattle.kept_histories.proofs.Found.{AllFound, event_found}
use Rattle.kept_histories.proofs.KeptHistory.{history_in}
use Rattle.kept_histories.proofs.Prefixes.{clean_at, idle_at, moves_at, so_far}
use Rattle.kept_histories.proofs.ShownFirst.{sees_rightly}
use Rattle.kept_histories.proofs.Together.{HartAt}
use Rattle.kept_histories.proofs.Basics.{longer}
use Rattle.fs_layout.specs.Recovered.{version_in}

-- ---- each event

module _ (disk : List (List ℕ)) (count : ℕ) (events : List (Event Call Outside)) (runs : RunsOn disk count events)
    (goes : GoesOnAsItActs (sizes_of disk) (first disk count) events) where
  abbrev sizes : Super
  sizes = sizes_of disk

  abbrev L : Theory
  L = block_calls sizes

  abbrev at : List (Event Call Outside) → State L
  at es = so_far disk count es

  begins : RunsFrom (version_in disk) (block_moves (sizes_of disk)) (tree_in disk) (first disk count) events
  begins = runs_from disk count events runs

  free : (r : Option (Run L)) (u : Option UnderWay) → Fits sizes r u → u ≡ None → r ≡ None
  free None u fits e = refl
  free (Some r) None fits e = absurd fits
  free (Some r) (Some u) fits e = absurd cc

  pub known : (es : List (Event Call Outside)) (f : Event Call Outside) (fs : List (Event Call Outside)) → es ++ f ∷ fs ≡ events → AllFound (goes.under (length es))
      → Known sizes f (at es) (goes.under (length es)) (goes.under (suc (length es)))
  known es f fs is found =
      let more : List (Event Call Outside) = es ++ f ∷ [] in
      let whole : more ++ fs ≡ events = append_assoc es (f ∷ []) fs ∙ is in
      let then_ : at more ≡ next L f (at es) = run-append L es (f ∷ []) (fresh L (first disk count)) in
      record {
        does = goes.leads_on es f fs is;
        moves = moves_at disk count events runs es f fs is;
        rests = λ g none.
            ap (λ (z : State L). ((block_moves sizes).tree z.world).walk g) (sym then_)
            ∙ idle_at disk count events runs more fs whole g
            (free ((at more).running g) (goes.under (length more) g) (goes.fits more fs whole g) (ap (λ (n : ℕ). goes.under n g) (longer es f) ∙ none));
        clean = subst (λ (z : State L). z.world.seen.clean ≡ true) then_ (clean_at disk count events runs more fs whole);
        found = found;
        sees = λ h made r off t same.
            sees_rightly sizes (first disk count) events goes begins.holds begins.idle runs.honest es (f ∷ fs) is off t same h Passes made (goes.under (suc (length es))) r;
      }

  all_known : (es fs : List (Event Call Outside)) → es ++ fs ≡ events → AllFound (goes.under (length es)) → AllKnown sizes goes.under (length es) fs (at es)
  all_known es [] is found = tt
  all_known es (f ∷ fs) is found =
      let more : List (Event Call Outside) = es ++ f ∷ [] in
      let k : Known sizes f (at es) (goes.under (length es)) (goes.under (suc (length es))) = known es f fs is found in
      let then_ : AllFound (goes.under (suc (length es))) =
      event_found sizes (at es) (makes L f (at es)) (goes.under (length es)) (goes.under (suc (length es))) f k.does k.clean found in (
        k,
        subst (λ (z : State L). AllKnown sizes goes.under (suc (length es)) fs z) (run-append L es (f ∷ []) (fresh L (first disk count)))
            (subst (λ (n : ℕ). AllKnown sizes goes.under n fs (at more)) (longer es f)
            (all_known more fs (append_assoc es (f ∷ []) fs ∙ is) (subst (λ (n : ℕ). AllFound (goes.under n)) (sym (longer es f)) then_))),
      )

  pub known_all : AllKnown (sizes_of disk) goes.under 0 events (fresh (block_calls (sizes_of disk)) (first disk count))
  known_all = all_known [] events refl (λ h u is a acted. absurd (let q : None ≡ Some u = sym (goes.none_yet h) ∙ is in cc))

-- ---- the beginning

pub none_in : {A : Type 0} (n h : ℕ) → ◌≡◌ {A = Option A} (get_or (replicate n None) h None) None
none_in zero h = refl
none_in (suc n) zero = refl
none_in (suc n) (suc h) = none_in n h

module _ {D : Type 0} (contents : D → List (List ℕ)) (failures : D → ℕ) (sizes : Super) (start : (block_calls sizes).M.World) (base : TreeData) (w : HartsOf D)
    (under : ℕ → Option UnderWay) (none : (h : ℕ) → under h ≡ None) (code : erase (block_calls sizes) (block_code sizes) (fresh (block_calls sizes) start) ≡ calls_of contents failures sizes w)
    (idle : AreIdle w.calls) (opens : (block_moves sizes).tree start ≡ record { tree = tree_of base; walk = λ h. None }) where
  pub agrees_first : Agrees contents failures sizes (fresh (block_calls sizes) start) nothing_yet w (nothing_kept sizes.version base) under
  agrees_first = record {
    code = code;
    harts = λ h.
        subst (λ (z : Option UnderWay). HartAt sizes z (get_or w.calls h None) (hart_in (nothing_kept sizes.version base) h)) (sym (none h))
        (subst (λ (z : Option Running). HartAt sizes None z (hart_in (nothing_kept sizes.version base) h)) (sym (ap (λ (z : List (Option Running)). get_or z h None) idle ∙ none_in hart_count h))
        (subst (λ (z : Option Under). HartAt sizes None None z) (sym (none_in hart_count h)) tt));
    stage = (λ i. record { tree = tree_of base; walk = λ h. stage_none i h }) ∙ sym opens;
    book = book_none sizes.version base;
    room = refl;
    version = refl;
  }
    where
      stage_none : (stage_of (nothing_kept sizes.version base)).walk ≡ (λ h. None)
      stage_none = λ i h. ap (walk_under sizes.version) (none_in {A = Under} hart_count h) i

-- ---- the run

module _ {D : Type 0} (contents : D → List (List ℕ)) (failures : D → ℕ) (disk : List (List ℕ)) (count : ℕ) (base : TreeData) (w : HartsOf D)
    (es : List HartEvent) (cs : List Came) (new : HartsOf D) (k : KeptTree)
    (r : KeepsRun contents failures (sizes_of disk) w (nothing_kept (version_in disk) base) es cs new k) where
  abbrev pub history : List (Event Call Outside)
  history = history_in contents failures (sizes_of disk) es cs w new (nothing_kept (version_in disk) base) k r

  -- What is kept agrees with the theory at its end.
  pub kept_agrees : (runs : RunsOn disk count history) (goes : GoesOnAsItActs (sizes_of disk) (first disk count) history) → StepsPlaceInTime
      → erase (block_calls (sizes_of disk)) (block_code (sizes_of disk)) (fresh (block_calls (sizes_of disk)) (first disk count)) ≡ calls_of contents failures (sizes_of disk) w → AreIdle w.calls
      → (block_moves (sizes_of disk)).tree (first disk count) ≡ record { tree = tree_of base; walk = λ h. None } → length es < 2 ^ 64
      → (m : ℕ) × AgreesAt contents failures (sizes_of disk) goes.under m (so_far disk count history) (kept (version_in disk) (block_moves (sizes_of disk)) history (fresh (block_calls (sizes_of disk)) (first disk count)) nothing_yet) new k
  kept_agrees runs goes in_time code idle opens few =
      run_agrees contents failures (sizes_of disk) goes.under in_time es cs 0 (fresh (block_calls (sizes_of disk)) (first disk count)) nothing_yet w new (nothing_kept (version_in disk) base) k r
      (record { agrees = agrees_first contents failures (sizes_of disk) (first disk count) base w (goes.under 0) goes.none_yet code idle opens; counted = counted_first })
      (known_all disk count history runs goes) (omega (arith, few))
