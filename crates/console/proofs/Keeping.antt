-- If a text shows the history of a run in one way, it shows it in another, of a run that was made and kept: and so on
-- an image.
use Rattle.std.specs.Prelude.{◌⊎◌, ◌^◌}
use Rattle.console.proofs.Vocabulary.{◌≡◌, ◌<◌, ℕ, Bool, true, false, List, length, Option, Some, None, Result, Ok, Err, refl, sym, ap, ◌∙◌, subst, inl, inr, blocks_of, tree_in, version_in, Version, TreeData, KeptTree, nothing_kept, RunOn, StartsOn, never, owns_this, refused_of, so_refused, kept_none_full, kept_explains, Super, Placed, Explains, any_full, any_climbs, trace_in, ended, HandsOutKept, ExplainsRun, IsAsMounted, history_at, Mode, ConsoleFault, IfTold, IsPrintedAndNoted, HistoryBeside, TellsHistory, WhereSet, HasNoList, IsFound, IsOwn, IsUnfound, history_from, history_of, CourseOf, KeptRun, NotesOf, all_noted, no_notes, none_kept, run_in, PromptsReader, EndsSo, PrintsAll, RunsReader, RunsScript, EventOfCall, SessionOf, with_beside, known_at, some_lacks_place, was_told}
use Rattle.console.specs.declared.fault.ConsoleFault.TheVariants as faults
use Rattle.explain.specs.Explained.{HasKept}
use Rattle.console.proofs.Chaining.{Chain, lines_chain, prompts_all_chain}
use Rattle.console.proofs.Noting.{IsKept, IsRun, events_kept, kept_first, kept_run}

-- One history of a run that began with this file system is another one, if histories are wanted.
module _ {D : Type 0} (contents : D → List (List ℕ)) (failures : D → ℕ) (mode : Mode) (one other : HistoryBeside) (s : SessionOf D)
    (again : mode.explain ≡ true → (first kept : Option KeptTree) (run : KeptRun) (t : SessionOf D) → IsRun contents failures s.world.sizes s.world.harts first run t.world.harts kept → (text : List ℕ) → one first (known_at t kept) run text → other first (known_at t kept) run text) where
  module _ (first kept : Option KeptTree) where
    -- there is such a run, of which this was kept
    abbrev IsRunTo : SessionOf D → KeptRun → Type 0
    IsRunTo t run = IsRun contents failures s.world.sizes s.world.harts first run t.world.harts kept

    told_again : (is : mode.explain ≡ true) (t : SessionOf D) (run : KeptRun) (result : Result (Unit {0}) ConsoleFault) (out out' : Option (List ℕ)) → IsRunTo t run → TellsHistory (one first (known_at t kept)) run result out out' → TellsHistory (other first (known_at t kept)) run result out out'
    told_again is t run result out out' made (inl told) = inl (record {
      text = told.text;
      is_history = again is first kept run t made told.text told.is_history;
      ends = told.ends;
      printed = told.printed;
    })
    told_again is t run result out out' made (inr untold) = inr untold

    wanted_again : (b : Bool) (t : SessionOf D) (run : KeptRun) (result : Result (Unit {0}) ConsoleFault) (out out' : Option (List ℕ)) (Else : Type 0) → mode.explain ≡ b → (mode.explain ≡ true → IsRunTo t run) → WhereSet b (TellsHistory (one first (known_at t kept)) run result out out') Else
        → WhereSet b (TellsHistory (other first (known_at t kept)) run result out out') Else
    wanted_again true t run result out out' Else is made told = told_again is t run result out out' (made is) told
    wanted_again false t run result out out' Else is made told = told

    printed_again : (t : SessionOf D) (notes : NotesOf) (out : Option (List ℕ)) (result : Result (Unit {0}) ConsoleFault) (out' : Option (List ℕ)) → (mode.explain ≡ true → IsRunTo t (run_in notes.kept)) → PrintsAll mode (one first (known_at t kept)) notes out result out'
        → PrintsAll mode (other first (known_at t kept)) notes out result out'
    printed_again t notes out result out' made (inl printed) =
        inl (printed.0, printed.1, wanted_again mode.explain t (run_in notes.kept) result printed.0 out' ((result ≡ Ok tt) × (out' ≡ printed.0)) refl made printed.2)
    printed_again t notes out result out' made (inr unwritten) = inr unwritten

    -- what the notes of these events keep
    made_so : (xs : List EventOfCall) (t : SessionOf D) (notes : NotesOf) → notes ≡ all_noted (no_notes mode) xs → Chain contents failures (with_beside first s) xs (with_beside kept t) → mode.explain ≡ true → IsRunTo t (run_in notes.kept)
    made_so xs t notes noted chain is =
        let begins : IsKept contents failures s.world.sizes s.world.harts first (no_notes mode).kept first s.world.harts = subst (λ (b : Bool). IsKept contents failures s.world.sizes s.world.harts first (none_kept b) first s.world.harts) (sym is) (kept_first contents failures s.world.sizes s.world.harts first) in
        let all = events_kept contents failures s.world.sizes s.world.harts first xs (no_notes mode) (with_beside first s) (with_beside kept t) refl begins chain in
        subst (λ (n : NotesOf). IsRunTo t (run_in n.kept)) (sym noted) (kept_run contents failures s.world.sizes s.world.harts first _ kept t.world.harts all)

    ends_again : (xs : List EventOfCall) (text : List ℕ) (t : SessionOf D) (notes : NotesOf) (ends result : Result (Unit {0}) ConsoleFault) (out between out' : Option (List ℕ)) → Chain contents failures (with_beside first s) xs (with_beside kept t)
        → IfTold ends (IsPrintedAndNoted out (no_notes mode) xs text between notes) → EndsSo mode (one first (known_at t kept)) notes ends between result out' → EndsSo mode (other first (known_at t kept)) notes ends between result out'
    ends_again xs text t notes (Ok u) result out between out' chain told printed = printed_again t notes between result out' (made_so xs t notes told.noted chain) printed
    ends_again xs text t notes (Err (faults.Stopped stop)) result out between out' chain told printed =
        (printed.0, printed_again t notes between printed.0 out' (made_so xs t notes told.noted chain) printed.1, printed.2)
    ends_again xs text t notes (Err faults.Memory) result out between out' chain told is = is
    ends_again xs text t notes (Err (faults.Write e)) result out between out' chain told is = is
    ends_again xs text t notes (Err (faults.Image f)) result out between out' chain told is = is
    ends_again xs text t notes (Err (faults.Read e)) result out between out' chain told is = is
    ends_again xs text t notes (Err (faults.Line n why)) result out between out' chain told is = is

  script_again : (course : Result CourseOf ℕ) (result : Result (Unit {0}) ConsoleFault) (t : SessionOf D) (out out' : Option (List ℕ)) → RunsScript contents failures mode one s course result t out out' → RunsScript contents failures mode other s course result t out out'
  script_again (Err n) result t out out' runs = runs
  script_again (Ok course) result t out out' (inr none) = inr none
  script_again (Ok course) result t out out' (inl runs) = inl (record {
    left = runs.left;
    ends = runs.ends;
    between = runs.between;
    notes = runs.notes;
    first = runs.first;
    kept = runs.kept;
    runs = runs.runs;
    end = ends_again runs.first runs.kept runs.runs.events runs.runs.text t runs.notes runs.ends result out runs.between out' (lines_chain contents failures course.lines _ runs.runs.events runs.runs.text runs.ends _ runs.runs.does) runs.runs.told runs.end;
  })

  pub reader_again : (script : Option (List ℕ)) (result : Result (Unit {0}) ConsoleFault) (t : SessionOf D) (out out' : Option (List ℕ)) → RunsReader contents failures mode one s script result t out out' → RunsReader contents failures mode other s script result t out out'
  reader_again script result t out out' (inl unread) = inl unread
  reader_again script result t out out' (inr read) = inr (read.0, read.1, script_again _ result t out out' read.2)

  pub prompts_again : (help : List ℕ) (typed : Option (List ℕ)) (result : Result (Unit {0}) ConsoleFault) (t : SessionOf D) (out out' : Option (List ℕ)) → PromptsReader contents failures help mode one s typed result t out out' → PromptsReader contents failures help mode other s typed result t out out'
  prompts_again help typed result t out out' (inr none) = inr none
  prompts_again help typed result t out out' (inl prompts) =
      let runs = prompts.answers.runs in
      inl (record {
        left = prompts.left;
        ends = prompts.ends;
        between = prompts.between;
        notes = prompts.notes;
        first = prompts.first;
        kept = prompts.kept;
        answers = prompts.answers;
        end = ends_again prompts.first prompts.kept runs.events runs.text t prompts.notes prompts.ends result out prompts.between out' (prompts_all_chain contents failures help 1 prompts.answers.lines _ runs.events runs.text prompts.ends _ runs.does) runs.told prompts.end;
      })

-- ---- what was kept explains the run

-- a run that began with this file system, and was kept from the tree on
module _ {D : Type 0} (contents : D → List (List ℕ)) (failures : D → ℕ) (base : TreeData) (s : SessionOf D) (first kept : Option KeptTree) (run : KeptRun) (t : SessionOf D)
    (made : IsRun contents failures s.world.sizes s.world.harts first run t.world.harts kept) (from : first ≡ Some (nothing_kept s.world.sizes.version base)) (few : length run.events < 2 ^ 64) where
  module _ (mounted : IsAsMounted contents failures s base) where
    -- it was kept on the version that the device's image has
    version_is : version_in (contents mounted.device) ≡ s.world.sizes.version
    version_is = sym (ap (λ (z : Super). z.version) mounted.mounted.sizes)

    of_kept : (k : KeptTree) → known_at t kept ≡ Some k → k.full ≡ false
        → (any_full (trace_in run.events run.outcomes).calls ≡ false)
        × (any_climbs (trace_in run.events run.outcomes).calls ≡ false → Explains s.world.sizes.version base (trace_in run.events run.outcomes) k.list)
    of_kept k same full =
        let told = was_told kept k (some_lacks_place t.world.harts) same in
        let keeps = made.1 (nothing_kept s.world.sizes.version (tree_in (contents mounted.device))) told.kept (from ∙ ap (λ (b : TreeData). Some (nothing_kept s.world.sizes.version b)) mounted.base_is) told.was in
        let room : (ended (some_lacks_place t.world.harts) told.kept).full ≡ false = sym (ap (λ (z : KeptTree). z.full) told.is) ∙ full in (
          kept_none_full contents failures s.world mounted.device mounted.mounted run.events run.outcomes t.world.harts few told.kept keeps made.0 room,
          λ flat.
              subst (λ (p : Version × TreeData × KeptTree). Explains p.0 p.1 (trace_in run.events run.outcomes) p.2.list) (λ i. (version_is i, sym mounted.base_is i, sym told.is i))
              (kept_explains contents failures s.world mounted.device mounted.mounted run.events run.outcomes t.world.harts few told.kept keeps made.0 room flat),
        )

    explains_run : ExplainsRun s.world.sizes.version base (known_at t kept) run
    explains_run = record { room = λ k is full. (of_kept k is full).0; explains = λ list hands. by (known_at t kept) refl list hands }
      where
        by : (o : Option KeptTree) → known_at t kept ≡ o → (list : List Placed) → HandsOutKept o run.events run.outcomes list
            → Explains s.world.sizes.version base (trace_in run.events run.outcomes) list
        by None is list hands = absurd hands
        by (Some k) is list hands =
            subst (λ (l : List Placed). Explains s.world.sizes.version base (trace_in run.events run.outcomes) l) (sym hands.2) ((of_kept k is hands.0).1 hands.1)

pub at_is : {D : Type 0} (contents : D → List (List ℕ)) (failures : D → ℕ) (base : TreeData) (s : SessionOf D) (first kept : Option KeptTree) (run : KeptRun) (t : SessionOf D)
    → IsRun contents failures s.world.sizes s.world.harts first run t.world.harts kept → (text : List ℕ)
    → history_from s.world.sizes.version base first (known_at t kept) run text → history_at contents failures s base first (known_at t kept) run text
at_is contents failures base s first kept run t made text told = (told, λ mounted. explains_run contents failures base s first kept run t made told.0 told.1.0 mounted)

-- ---- on an image

module _ (image : List ℕ) (base : TreeData) (s : SessionOf (List ℕ)) (starts : StartsOn image s.world) (is : base ≡ tree_in (blocks_of image)) (first kept : Option KeptTree) (run : KeptRun) (t : SessionOf (List ℕ))
    (made : IsRun blocks_of never s.world.sizes s.world.harts first run t.world.harts kept) (begins : first ≡ Some (nothing_kept s.world.sizes.version base)) (few : length run.events < 2 ^ 64) where
  abbrev made_on : RunOn image run.events
  made_on = record { world = s.world; outcomes = run.outcomes; new = t.world.harts; starts = starts; history = made.0 }

  -- what is known beside it at its end was kept of this run
  known_on : HasKept image run.events made_on (known_at t kept)
  known_on k same =
      let told = was_told kept k (some_lacks_place t.world.harts) same in
      record {
        kept = told.kept;
        keeps = made.1 (nothing_kept (version_in (blocks_of image)) (tree_in (blocks_of image))) told.kept (begins ∙ (λ i. Some (nothing_kept (starts.mounted.sizes i).version (is i)))) told.was;
        is = told.is;
      }

  told_on : (text : List ℕ) → IsFound (known_at t kept) run text ⊎ IsUnfound (known_at t kept) run text → IsOwn image run text ⊎ HasNoList image run text
  told_on text (inl found) =
      let own = owns_this image run.events few made_on (known_at t kept) known_on found.list found.hands in
      inl (record { list = found.list; owns = own.owns; outcomes = ap (λ (r : RunOn image run.events). r.outcomes) own.this; text_is = found.text_is })
  told_on text (inr none) =
      let of = refused_of image run.events few made_on (known_at t kept) known_on none.why none.refused in
      inr (record {
        why = none.why;
        has_line = none.has_line;
        refused_so = so_refused image run.events made_on none.why of;
        made = made_on;
        outcomes = refl;
        refused = of;
        text_is = none.text_is;
      })

pub history_is : (image : List ℕ) (base : TreeData) (s : SessionOf (List ℕ)) → StartsOn image s.world → base ≡ tree_in (blocks_of image) → (first kept : Option KeptTree) (run : KeptRun) (t : SessionOf (List ℕ)) → IsRun blocks_of never s.world.sizes s.world.harts first run t.world.harts kept
    → (text : List ℕ) → history_at blocks_of never s base first (known_at t kept) run text → history_of image first (known_at t kept) run text
history_is image base s starts is first kept run t made text told = told_on image base s starts is first kept run t made told.0.0 told.0.1.0 text told.0.1.1
