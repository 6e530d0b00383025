-- What was kept of a run is this run's own list, and says why it isn't handed out.
use Rattle.explain.proofs.Vocabulary.{◌≡◌, ℕ, false, List, [], ◌∷◌, Result, Ok, Err, subst, ◌∙◌, inl, MatchResult, Vec, All, Global, or_parts, All-cons, All-nil, blocks_of, Placed, TracedCall, WorldOf, call_climbs, Explains, TreeData, tree_in, Came, Event, trace_in, any_climbs, ExplainRefused, IsRefusedMount, IsRefusedSo, RunOn, never}
use Rattle.explain.specs.declared.refused.ExplainRefused.TheVariants as refused
use Rattle.std.specs.Prelude.{◌↔◌, ◌<◌, ◌^◌, length, true, Option, Some, None}
use Rattle.std.proofs.Common.{refl, sym, ap}
use Rattle.run_laws.proofs.OneList.{runs_have_one_list}
use Rattle.run_laws.specs.OneList.{list_of}
use Rattle.explain.proofs.Own.{list_explains}
use Rattle.explain.proofs.Rooms.{none_full}
use Rattle.explain.specs.Vocabulary.{Call, EventOf, FoundRoom, HartsOf, HasHistory, IsHistory, IsMounted, KeptTree, Outside, Super, Version, any_full, ended, nothing_kept, some_lacks_place, version_in}
use Rattle.kept_histories.proofs.KeptRuns.{kept_lists_are}
use Rattle.kept_histories.specs.Keeps.{KeepsRun}
use Rattle.explain.specs.Explained.{EachFoundRoom, HasKept, IsHandedOut, IsOneOf, IsRefusedOf, IsToldOf, KeepsToTheEnd, NeverFoundRoom, OwnsRun, OwnsThis, RoomIn}
use Rattle.explain.specs.Keeps.{HandsOut, IsRefusedBy}

pub refused_so : (image : List ℕ) (events : List Event) (e : ExplainRefused) → IsRefusedMount image e → IsRefusedSo image events e
refused_so image events refused.NoMemory mount = tt
refused_so image events (refused.Damaged d) mount = mount
refused_so image events refused.FullSeen mount = absurd mount
refused_so image events refused.Climbs mount = absurd mount

pub none_climbs : (cs : List TracedCall) → any_climbs cs ≡ false → All (λ (c : TracedCall). call_climbs c.call ≡ false) cs
none_climbs [] none = All-nil (λ (c : TracedCall). call_climbs c.call ≡ false)
none_climbs (c ∷ cs) none =
    let parts = or_parts (call_climbs c.call) (any_climbs cs) none in
    All-cons (λ (d : TracedCall). call_climbs d.call ≡ false) c cs parts.0 (none_climbs cs parts.1)

-- ---- what was kept of a run of a mounted world, over any device

module _ {D : Type 0} (contents : D → List (List ℕ)) (failures : D → ℕ) (w : WorldOf D) (device : D) (mounted : IsMounted contents failures device w) (events : List Event) (came : List Came) (new : HartsOf D)
    (few : length events < 2 ^ 64) (kept : KeptTree) (keeps : KeepsRun contents failures w.sizes w.harts (nothing_kept w.sizes.version (tree_in (contents device))) events came new kept) where
  abbrev last : KeptTree
  last = ended (some_lacks_place new) kept

  pub law_of : (history : List (EventOf Call Outside)) → IsHistory contents failures w.sizes w.harts events came new history
      → (FoundRoom contents failures w history ↔ (last.full ≡ false)) × (FoundRoom contents failures w history → last.list ≡ list_of contents failures w history)
  law_of history is = kept_lists_are contents failures w device events came new kept history mounted keeps is few

  module _ (made : HasHistory contents failures w.sizes w.harts events came new) (room : last.full ≡ false) where
    found : FoundRoom contents failures w made.0
    found = (law_of made.0 made.1).0.1 room

    -- no reply says otherwise
    pub kept_none_full : any_full (trace_in events came).calls ≡ false
    kept_none_full = none_full contents failures w device events came new made.0 mounted made.1 found

    -- what was kept explains what the run shows
    pub kept_explains : any_climbs (trace_in events came).calls ≡ false → Explains (version_in (contents device)) (tree_in (contents device)) (trace_in events came) last.list
    kept_explains flat =
        subst (λ (l : List Placed). Explains (version_in (contents device)) (tree_in (contents device)) (trace_in events came) l) (sym ((law_of made.0 made.1).1 found))
        (list_explains contents failures w device events came new made.0 mounted made.1 found (inl (none_climbs (trace_in events came).calls flat)))

-- ---- on an image

module _ (image : List ℕ) (events : List Event) (few : length events < 2 ^ 64) (run : RunOn image events) where
  abbrev version : Version
  version = version_in (blocks_of image)

  abbrev base : TreeData
  base = tree_in (blocks_of image)

  module _ (k : KeptTree) (keeps : KeepsToTheEnd image events run k) where
    -- it began at the world's version
    began : KeepsRun blocks_of never run.world.sizes run.world.harts (nothing_kept run.world.sizes.version base) events run.outcomes run.new keeps.kept
    began =
        subst (λ (v : Version). KeepsRun blocks_of never run.world.sizes run.world.harts (nothing_kept v base) events run.outcomes run.new keeps.kept)
        (sym (ap (λ (s : Super). s.version) run.starts.mounted.sizes)) keeps.keeps

    -- what is known of room, and the list, of each history
    law : (history : List (EventOf Call Outside)) → IsOneOf image events run history
        → (RoomIn image events run history ↔ (k.full ≡ false)) × (RoomIn image events run history → k.list ≡ list_of blocks_of never run.world history)
    law history is =
        subst (λ (z : KeptTree). (RoomIn image events run history ↔ (z.full ≡ false)) × (RoomIn image events run history → z.list ≡ list_of blocks_of never run.world history)) (sym keeps.is)
        (law_of blocks_of never run.world image run.starts.mounted events run.outcomes run.new few keeps.kept began history is)

    each_found : k.full ≡ false → EachFoundRoom image events run
    each_found room history is = (law history is).0.1 room

    none_found : k.full ≡ true → NeverFoundRoom image events run
    none_found saw history is room = absurd (let none : k.full ≡ false = (law history is).0.0 room in cc (none, saw))

    -- it is this run's own list
    owned : (list : List Placed) → HandsOut (Some k) events run.outcomes list → OwnsThis image events run list
    owned list hands =
        let room : EachFoundRoom image events run = each_found hands.0 in
        let climbs = none_climbs (trace_in events run.outcomes).calls hands.1 in
        record {
          owns = record {
            run = run;
            room = room;
            flat = hands.1;
            explains =
                subst (λ (l : List Placed). Explains version base (trace_in events run.outcomes) l)
                (sym (hands.2 ∙ (law run.history.0 run.history.1).1 (room run.history.0 run.history.1)))
                (list_explains blocks_of never run.world image events run.outcomes run.new run.history.0 run.starts.mounted run.history.1 (room run.history.0 run.history.1) (inl climbs));
            own = λ history one. hands.2 ∙ (law history one).1 (room history one);
            stops = λ history one n le. runs_have_one_list blocks_of never run.world image events run.outcomes run.new history run.starts.mounted one (room history one) (inl climbs) n le;
          };
          this = refl;
        }

    -- no reply says that there is no room
    told : EachFoundRoom image events run → any_full (trace_in events run.outcomes).calls ≡ false
    told room = none_full blocks_of never run.world image events run.outcomes run.new run.history.0 run.starts.mounted run.history.1 (room run.history.0 run.history.1)

  pub refused_of : (o : Option KeptTree) → HasKept image events run o → (why : ExplainRefused) → IsRefusedBy o events run.outcomes why → IsRefusedOf image events run why
  refused_of None keeps refused.NoMemory by = tt
  refused_of None keeps (refused.Damaged d) by = absurd by
  refused_of None keeps refused.FullSeen by = absurd by
  refused_of None keeps refused.Climbs by = absurd by
  refused_of (Some k) keeps refused.NoMemory by = tt
  refused_of (Some k) keeps (refused.Damaged d) by = absurd by
  refused_of (Some k) keeps refused.FullSeen by = none_found k (keeps k refl) by
  refused_of (Some k) keeps refused.Climbs by =
      let room : EachFoundRoom image events run = each_found k (keeps k refl) by.0 in (room, told k (keeps k refl) room, by.1)

  pub owns_this : (o : Option KeptTree) → HasKept image events run o → (list : List Placed) → HandsOut o events run.outcomes list → OwnsThis image events run list
  owns_this None keeps list hands = absurd hands
  owns_this (Some k) keeps list hands = owned k (keeps k refl) list hands

  -- .. of outcomes that are the run's
  pub told_of : (outcomes : List Came) → run.outcomes ≡ outcomes → (o : Option KeptTree) → HasKept image events run o → (result : Result (Vec Placed Global) ExplainRefused) → IsHandedOut o events outcomes result
      → IsToldOf image events run result
  told_of outcomes same o keeps (Ok list) hands = owns_this o keeps list.items (subst (λ (cs : List Came). HandsOut o events cs list.items) (sym same) hands)
  told_of outcomes same o keeps (Err why) by = refused_of o keeps why (subst (λ (cs : List Came). IsRefusedBy o events cs why) (sym same) by)

module _ (image : List ℕ) (events : List Event) (run : RunOn image events) where
  pub so_refused : (why : ExplainRefused) → IsRefusedOf image events run why → IsRefusedSo image events why
  so_refused refused.NoMemory of = tt
  so_refused (refused.Damaged d) of = absurd of
  so_refused refused.FullSeen of = record { run = run; full = of }
  so_refused refused.Climbs of = record { run = run; room = of.0; told = of.1; climbs = of.2 }

  pub so_told : (result : Result (Vec Placed Global) ExplainRefused) → IsToldOf image events run result
      → MatchResult result (λ v. OwnsRun image events v.items) (λ e. IsRefusedSo image events e)
  so_told (Ok list) of = of.owns
  so_told (Err why) of = so_refused why of
