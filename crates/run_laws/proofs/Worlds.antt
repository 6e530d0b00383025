-- Runs of a mounted world are runs of the machine of whole inodes.
use Rattle.run_laws.proofs.Vocabulary.{inl, inr, Option, Some, None, ◌≡◌, ℕ, List, [], ◌∷◌, refl, sym, ◌∙◌, ap, subst, Super, sizes_of, Call, Theory, EventOf, State, fresh, outcomes, run, history, all_by_kind, plain_outcomes, erase-outcomes, Outside, first, block_calls, block_code, is_code, Event, HartsOf, Rests, AllAnswer, IsHistory, all_shown, outcomes_of, trace_in, WorldOf, mountable, rests_erased, BeginsRun, RefinesWholeInodes, operations_of, IsRun, RunsTo, WorldsRefineWholeInodes, All, All-cons, All-nil, Reply, TracedCall, Shown, trace_of, In, all_honest, IsRunOfCall, lowered_inode_calls, version_in}
use Rattle.hart_core.specs.declared.events.Came.{Came}
use Rattle.run_laws.proofs.Refined.{runs_refine}
use Rattle.run_laws.proofs.Shown.{shown_same}
use Rattle.run_laws.proofs.Traced.{Matched, Matches, all_shown_by, traced_matches}

all_of : {A : Type 0} (Is : A → Type 0) (xs : List A) → ((x : A) → In x xs → Is x) → All Is xs
all_of Is [] f = All-nil Is
all_of Is (x ∷ xs) f = All-cons Is x xs (f x (inl refl)) (all_of Is xs (λ y i. f y (inr i)))

module _ {D : Type 0} (contents : D → List (List ℕ)) (failures : D → ℕ) (device : D) (w : HartsOf D) (rests : Rests contents failures device w) where
  abbrev disk : List (List ℕ)
  disk = contents w.core.log.cache.device

  abbrev count : ℕ
  count = failures w.core.log.cache.device

  module _ (events : List Event) (came : List Came) (new : HartsOf D) (history : List (EventOf Call Outside)) (is : IsHistory contents failures (sizes_of disk) w events came new history) where
    history_refines : RefinesWholeInodes disk count history
    history_refines =
        runs_refine disk count history (mountable contents failures device w rests)
        (all_honest (sizes_of disk) history (fresh (block_calls (sizes_of disk)) (first disk count)) (subst (AllAnswer (sizes_of disk) history) (sym (rests_erased contents failures device w rests)) is.answers))

    history_came : all_by_kind (block_calls (sizes_of disk)) (block_code (sizes_of disk)) (outcomes (block_calls (sizes_of disk)) history (fresh (block_calls (sizes_of disk)) (first disk count))) ≡ outcomes_of came
    history_came =
        sym (erase-outcomes (block_calls (sizes_of disk)) (block_code (sizes_of disk)) (is_code (sizes_of disk)) history (fresh (block_calls (sizes_of disk)) (first disk count)))
        ∙ ap (plain_outcomes (block_calls (sizes_of disk)) (block_code (sizes_of disk)) history) (rests_erased contents failures device w rests)
        ∙ is.comes_to

    abbrev N : Theory
    N = lowered_inode_calls (sizes_of disk)

    abbrev s : State (lowered_inode_calls (sizes_of disk))
    s = run (lowered_inode_calls (sizes_of disk)) history (fresh (lowered_inode_calls (sizes_of disk)) (first disk count))

    -- what is shown of calls
    shown_is : all_shown_by (sizes_of disk) history (outcomes N history (fresh N (first disk count))) ≡ all_shown events came
    shown_is = ap (all_shown_by (sizes_of disk) history) history_refines.outcomes_are ∙ shown_same (sizes_of disk) history (outcomes (block_calls (sizes_of disk)) history (fresh (block_calls (sizes_of disk)) (first disk count))) events came is.asks history_came

    matches : Matches (sizes_of disk) s (trace_in events came)
    matches = subst (λ (ss : List Shown). Matches (sizes_of disk) s (trace_of ss)) shown_is (traced_matches (sizes_of disk) (first disk count) history)

    runs_to : (c : TracedCall) (o : Option (ℕ × Reply)) → Matched (sizes_of disk) s c o → RunsTo (version_in disk) c.call (operations_of (sizes_of disk) s c.start) o
    runs_to c (Some r) m =
        subst (IsRunOfCall (version_in disk) c.call (operations_of (sizes_of disk) s c.start)) m.4
        (subst (λ (z : ℕ). IsRunOfCall (version_in disk) c.call (operations_of (sizes_of disk) s z) m.0.reply) m.3
        (subst (λ (z : Call). IsRunOfCall (version_in disk) z (operations_of (sizes_of disk) s m.0.start) m.0.reply) m.2 (history_refines.runs.whole m.0 m.1)))
    runs_to c None m =
        subst (λ (z : ℕ). BeginsRun (version_in disk) c.call (operations_of (sizes_of disk) s z)) m.3
        (subst (λ (z : Call). BeginsRun (version_in disk) z (operations_of (sizes_of disk) s m.0.start)) m.2 (history_refines.runs.begun c.hart m.0 m.1))

    calls_run : All (IsRun disk count history) (trace_in events came).calls
    calls_run = all_of (IsRun disk count history) (trace_in events came).calls (λ c i. runs_to c c.finished (matches.calls c i))

pub worlds_refine : {D : Type 0} (contents : D → List (List ℕ)) (failures : D → ℕ) (w : WorldOf D) → WorldsRefineWholeInodes contents failures w
worlds_refine contents failures w device events came new history mounted is =
    let same : w.sizes ≡ sizes_of (contents w.harts.core.log.cache.device) = mounted.sizes ∙ sym mounted.rests.disk.sizes in
    let here = subst (λ (s : Super). IsHistory contents failures s w.harts events came new history) same is in
    (history_refines contents failures device w.harts mounted.rests events came new history here, calls_run contents failures device w.harts mounted.rests events came new history here)
