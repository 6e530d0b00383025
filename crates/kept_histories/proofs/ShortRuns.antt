-- A run in which some step found no room: at its end the keeper knows, or a call lacks a place and hasn't heard so
-- yet. And no call does in a run in which each step found room.
use Rattle.std.specs.Prelude.{◌≡◌, ◌⊎◌, ◌<◌, ◌+◌, ◌^◌, ℕ, suc, Bool, true, false, List, [], ◌∷◌, ◌++◌, Option, Some, None, length}
use Rattle.calls_on_blocks.proofs.Vocabulary.{refl, sym, ◌∙◌, ap, subst, inl, inr, append_assoc, append-nil, arith, AllHonest, RunsFrom}
use Rattle.calls_on_blocks.proofs.History.{runs_from}
use Rattle.atomic_programs.proofs.Reached.{run-append}
use Rattle.atomic_programs.specs.Calls.{Event, State, Theory, fresh, makes, next, with_answer}
use Rattle.calls_on_blocks.specs.History.{RunsOn, block_moves, first}
use Rattle.calls_on_blocks.specs.Theory.{block_calls}
use Rattle.fs_layout.specs.declared.superblock.Super.{Super}
use Rattle.hart_core.specs.Events.{event_of, said_of}
use Rattle.hart_core.specs.Harts.{AreHarts, HartFits, HartsOf, shared_of}
use Rattle.hart_core.specs.Telling.{some_lacks_place}
use Rattle.hart_core.specs.declared.events.Came.{Came}
use Rattle.hart_core.specs.declared.events.Event.{Event as HartEvent}
use Rattle.image_tree.specs.Images.{tree_in}
use Rattle.inode_machine.specs.Kept.{kept_on}
use Rattle.inode_machine.specs.MoveCalls.{MoveMachine}
use Rattle.inode_parts.specs.Calls.{LoweredReady}
use Rattle.inode_parts.specs.Telling.{lacks_place}
use Rattle.plain_tree.specs.declared.call.Call.{Call}
use Rattle.run_laws.specs.UnderWay.{Fits, GoesOnAsItActs, StepsPlaceInTime, UnderWay}
use Rattle.run_laws.specs.Vocabulary.{Outside, sizes_of}
use Rattle.syscalls.specs.Machines.{Running, RunningFits}
use Rattle.tree_histories.specs.Keeping.{KeptTree, Under, hart_in}
use Rattle.tree_laws.specs.History.{History}
use Rattle.kept_histories.specs.Keeps.{KeepsRun}
use Rattle.kept_histories.proofs.AgreeingRuns.{AgreesAt, few_calls}
use Rattle.kept_histories.proofs.Claiming.{NoneGivesBack, all_spoil, event_gives_none, leads_there, says_so, shows_there}
use Rattle.kept_histories.proofs.Counted.{counted_on}
use Rattle.kept_histories.proofs.EachEvent.{Known}
use Rattle.kept_histories.proofs.EventShort.{KnownShort, event_short}
use Rattle.kept_histories.proofs.Events.{event_agrees}
use Rattle.kept_histories.proofs.Found.{AllFound, event_found}
use Rattle.kept_histories.proofs.KeptHistory.{history_in}
use Rattle.kept_histories.proofs.KeptLists.{known}
use Rattle.kept_histories.proofs.Lacking.{lacks_gives}
use Rattle.kept_histories.proofs.Lasting.{run_lasts, who_lacks}
use Rattle.kept_histories.proofs.Prefixes.{clean_at, honest_parts, so_far}
use Rattle.kept_histories.proofs.ShownFirst.{sees_rightly}
use Rattle.kept_histories.proofs.Together.{HartAt}
use Rattle.kept_histories.proofs.Basics.{longer, not_both}
use Rattle.fs_layout.specs.Recovered.{version_in}

module _ (disk : List (List ℕ)) (count : ℕ) (whole : List (Event Call Outside)) (honest : AllHonest (block_calls (sizes_of disk)) whole (fresh (block_calls (sizes_of disk)) (first disk count)))
    (goes : GoesOnAsItActs (sizes_of disk) (first disk count) whole) (began : RunsOn disk count []) where
  abbrev sizes : Super
  sizes = sizes_of disk

  abbrev L : Theory
  L = block_calls (sizes_of disk)

  abbrev N : MoveMachine
  N = block_moves (sizes_of disk)

  abbrev at : List (Event Call Outside) → State (block_calls (sizes_of disk))
  at es = so_far disk count es

  -- these events are a run in which each step found room
  runs_to : (es rest : List (Event Call Outside)) → es ++ rest ≡ whole → (at es).world.seen.clean ≡ true → RunsOn disk count es
  runs_to es rest is clean = record {
    mountable = began.mountable;
    honest = (honest_parts L es rest (fresh L (first disk count)) (subst (λ (z : List (Event Call Outside)). AllHonest L z (fresh L (first disk count))) (sym is) honest)).0;
    clean = clean;
  }

  -- how the run's operations go on is how those of its beginning do
  abbrev goes_to : (es rest : List (Event Call Outside)) → es ++ rest ≡ whole → GoesOnAsItActs (sizes_of disk) (first disk count) es
  goes_to es rest is = record {
    under = goes.under;
    none_yet = goes.none_yet;
    fits = λ xs ys over h. goes.fits xs (ys ++ rest) (sym (append_assoc xs ys rest) ∙ ap (λ (z : List (Event Call Outside)). z ++ rest) over ∙ is) h;
    leads_on = λ xs e ys over. goes.leads_on xs e (ys ++ rest) (sym (append_assoc xs (e ∷ ys) rest) ∙ ap (λ (z : List (Event Call Outside)). z ++ rest) over ∙ is);
  }

  then_at : (es : List (Event Call Outside)) (f : Event Call Outside) → at (es ++ f ∷ []) ≡ next L f (at es)
  then_at es f = run-append L es (f ∷ []) (fresh L (first disk count))

  module _ (past : List (Event Call Outside)) (f : Event Call Outside) (rest : List (Event Call Outside)) (is : past ++ f ∷ rest ≡ whole) (runs : RunsOn disk count past) where
    -- what is known of an event that is the first to find no room
    known_short : KnownShort (sizes_of disk) f (at past) (goes.under (length past)) (goes.under (suc (length past)))
    known_short =
        let begins : RunsFrom (version_in disk) N (tree_in disk) (first disk count) past = runs_from disk count past runs in
        record {
          does = goes.leads_on past f rest is;
          fits = goes.fits past (f ∷ rest) is;
          tells = λ h u under. says_so (version_in disk) u (all_spoil sizes (first disk count) whole goes past (f ∷ rest) is h u under);
          sees = λ h made r off t same.
              sees_rightly sizes (first disk count) whole goes begins.holds begins.idle honest past (f ∷ rest) is off t same h _ made (goes.under (suc (length past))) r;
          shows = shows_there sizes (first disk count) whole goes begins.holds begins.idle honest past (f ∷ rest) is;
        }

    -- once a step has found no room that stays so
    stays_short : (next L f (at past)).world.seen.clean ≡ false → (at whole).world.seen.clean ≡ false
    stays_short bad = by (at whole).world.seen.clean refl
      where
        more : List (Event Call Outside)
        more = past ++ f ∷ []

        on : more ++ rest ≡ whole
        on = append_assoc past (f ∷ []) rest ∙ is

        back : (at whole).world.seen.clean ≡ true → (at more).world.seen.clean ≡ true
        back clean = clean_at disk count whole (record { mountable = began.mountable; honest = honest; clean = clean }) more rest on

        by : (b : Bool) → (at whole).world.seen.clean ≡ b → b ≡ false
        by false e = refl
        by true e = not_both (next L f (at past)).world.seen.clean (ap (λ (z : State L). z.world.seen.clean) (sym (then_at past f)) ∙ back e) bad

  module _ {D : Type 0} (contents : D → List (List ℕ)) (failures : D → ℕ) where
    -- at its end: each step found room, and all agrees; no operation under way has to give back the block of a claim
    -- without place
    pub record EndsWithRoom (new : HartsOf D) (k : KeptTree) : Type 0 where
      pub clean : (so_far disk count whole).world.seen.clean ≡ true
      pub book : History
      pub agrees : AgreesAt contents failures (sizes_of disk) goes.under (length whole) (so_far disk count whole) book new k
      pub none : NoneGivesBack (goes.under (length whole))

    -- .. or some step found none, and that is known, or a call hasn't heard so yet
    pub record EndsShort (new : HartsOf D) (k : KeptTree) : Type 0 where
      pub short : (so_far disk count whole).world.seen.clean ≡ false
      pub known : (k.full ≡ true) ⊎ (some_lacks_place new ≡ true)

    module _ (in_time : StepsPlaceInTime) where
      -- so it is, by the events from here on
      pub run_ends : (past : List (Event Call Outside)) (es : List HartEvent) (cs : List Came) (b : History) (old new : HartsOf D) (k k' : KeptTree)
          (r : KeepsRun contents failures (sizes_of disk) old k es cs new k') → past ++ history_in contents failures (sizes_of disk) es cs old new k k' r ≡ whole
          → (so_far disk count past).world.seen.clean ≡ true → AllFound (goes.under (length past)) → NoneGivesBack (goes.under (length past))
          → AgreesAt contents failures (sizes_of disk) goes.under (length past) (so_far disk count past) b old k → length past + length es < 2 ^ 64
          → EndsWithRoom new k' ⊎ EndsShort new k'
      run_ends past [] [] b old new k k' r is clean found none agrees few =
          let over : past ≡ whole = sym (append-nil past) ∙ is in
          inl (record {
            clean = subst (λ (z : List (Event Call Outside)). (at z).world.seen.clean ≡ true) over clean;
            book = b;
            agrees = subst (λ (z : List (Event Call Outside)). AgreesAt contents failures sizes goes.under (length z) (at z) b new k') over
                (subst (λ (w : HartsOf D). AgreesAt contents failures sizes goes.under (length past) (at past) b w k') (sym r.0)
                (subst (λ (z : KeptTree). AgreesAt contents failures sizes goes.under (length past) (at past) b old z) (sym r.1) agrees));
            none = subst (λ (z : List (Event Call Outside)). NoneGivesBack (goes.under (length z))) over none;
          })
      run_ends past [] (c ∷ cs) b old new k k' r is clean found none agrees few = absurd r
      run_ends past (e ∷ es) [] b old new k k' r is clean found none agrees few = absurd r
      run_ends past (e ∷ es) (c ∷ cs) b old new k k' r is clean found none agrees few =
          ends ((next L f (at past)).world.seen.clean) refl
          (λ ok. run_ends more es cs (kept_on (version_in disk) N f (at past) b) r.0 new r.1 k' r.3 on (clean_then ok)
          (at_more (λ n. AllFound (goes.under n)) (event_found sizes (at past) (makes L f (at past)) (goes.under (length past)) (goes.under (suc (length past))) f (known_of ok).does ok found))
          (at_more (λ n. NoneGivesBack (goes.under n)) (none_then ok))
          (at_more (λ n. AgreesAt contents failures sizes goes.under n (at more) (kept_on (version_in disk) N f (at past) b) r.0 r.1)
          (subst (λ (z : State L). AgreesAt contents failures sizes goes.under (suc (length past)) z (kept_on (version_in disk) N f (at past) b) r.0 r.1) (sym (then_at past f)) (there ok)))
          (let more_long = longer past f in omega (arith, few, more_long)))
        where
          f : Event Call Outside
          f = with_answer (event_of e) (said_of c (shared_of contents failures r.0))

          rest : List (Event Call Outside)
          rest = history_in contents failures sizes es cs r.0 new r.1 k' r.3

          more : List (Event Call Outside)
          more = past ++ f ∷ []

          on : more ++ rest ≡ whole
          on = append_assoc past (f ∷ []) rest ∙ is

          here : RunsOn disk count past
          here = runs_to past (f ∷ rest) is clean

          clean_then : (next L f (at past)).world.seen.clean ≡ true → (at more).world.seen.clean ≡ true
          clean_then ok = ap (λ (z : State L). z.world.seen.clean) (then_at past f) ∙ ok

          known_of : (next L f (at past)).world.seen.clean ≡ true → Known sizes f (at past) (goes.under (length past)) (goes.under (suc (length past)))
          known_of ok = known disk count more (runs_to more rest on (clean_then ok)) (goes_to more rest on) past f [] refl found

          there : (next L f (at past)).world.seen.clean ≡ true
              → AgreesAt contents failures sizes goes.under (suc (length past)) (next L f (at past)) (kept_on (version_in disk) N f (at past) b) r.0 r.1
          there ok =
              record {
                agrees = event_agrees contents failures sizes in_time (at past) (goes.under (length past)) (goes.under (suc (length past))) b old r.0 k r.1 agrees.agrees
                    (few_calls contents failures sizes goes.under (length past) (at past) b old k agrees (omega (arith, few))) e c r.2 (known_of ok);
                counted = counted_on sizes (length past) (omega (arith, few)) b agrees.counted f (at past);
              }

          none_then : (next L f (at past)).world.seen.clean ≡ true → NoneGivesBack (goes.under (suc (length past)))
          none_then ok =
              event_gives_none sizes (at past) (makes L f (at past)) (goes.under (length past)) (goes.under (suc (length past))) (goes.fits past (f ∷ rest) is) ok
              (all_spoil sizes (first disk count) whole goes past (f ∷ rest) is) f (goes.leads_on past f rest is) none

          -- at a place one later
          at_more : (P : ℕ → Type 0) → P (suc (length past)) → P (length more)
          at_more P p = subst P (sym (longer past f)) p

          -- it goes on if each step found room so far
          ends : (z : Bool) → (next L f (at past)).world.seen.clean ≡ z → ((next L f (at past)).world.seen.clean ≡ true → EndsWithRoom new k' ⊎ EndsShort new k')
              → EndsWithRoom new k' ⊎ EndsShort new k'
          ends true ok goes_on = goes_on ok
          ends false bad goes_on =
              inr (record {
                short = stays_short past f rest is here bad;
                known = run_lasts contents failures sizes es cs r.0 new r.1 k' r.3
                    (event_short contents failures sizes (at past) (goes.under (length past)) (goes.under (suc (length past))) b old r.0 k r.1 agrees.agrees clean e c r.2
                    (known_short past f rest is here) bad);
              })

    -- ---- no call lacks a place if each step found room

    lacks_none_at : (new : HartsOf D) (k : KeptTree) (ends : EndsWithRoom new k) (h : ℕ) (u : Option UnderWay) (m : Running) (v : Option Under) → goes.under (length whole) h ≡ u
        → HartAt sizes u (Some m) v → LoweredReady m.control m.hand → lacks_place m.control ≡ true → ⊥
    lacks_none_at new k ends h None m None is here ready lacks = here
    lacks_none_at new k ends h None m (Some v) is here ready lacks = here
    lacks_none_at new k ends h (Some u) m None is here ready lacks = here
    lacks_none_at new k ends h (Some u) m (Some v) is here ready lacks =
        ends.none h u is (lacks_gives sizes u m.control m.hand (leads_there sizes ((at whole).running h) u (subst (Fits sizes ((at whole).running h)) is (goes.fits whole [] (append-nil whole) h))) here.sized here.stands ready lacks)

    pub lacks_none : (new : HartsOf D) (k : KeptTree) → EndsWithRoom new k → AreHarts (shared_of contents failures new) new.calls → some_lacks_place new ≡ false
    lacks_none new k ends harts = by (some_lacks_place new) refl
      where
        by : (b : Bool) → some_lacks_place new ≡ b → b ≡ false
        by false e = refl
        by true e =
            let who = who_lacks new e in
            let fits : RunningFits who.0 (shared_of contents failures new) who.1 = subst (λ (z : Option Running). HartFits (shared_of contents failures new) who.0 z) who.2 (harts.fits who.0) in
            absurd (lacks_none_at new k ends who.0 (goes.under (length whole) who.0) who.1 (hart_in k who.0) refl
            (subst (λ (z : Option Running). HartAt sizes (goes.under (length whole) who.0) z (hart_in k who.0)) who.2 (ends.agrees.agrees.harts who.0)) fits.ready who.3)
