-- All beginnings of a run of a mounted world agree with one list.
use Rattle.run_laws.proofs.Vocabulary.{All, ◌≡◌, ◌⊎◌, inl, inr, ℕ, zero, suc, ◌≤◌, false, List, [], ◌∷◌, length, take, Option, refl, sym, ◌∙◌, ap, subst, arith, Super, sizes_of, tree_in, Call, Placed, Trace, TracedCall, call_climbs, Explains, IsNamedPart, Shown, trace_of, tree_of, TreeData, before, IsHart, NeverClimbs, apart_alone, apart_calm, Theory, EventOf, State, fresh, run, Code, Plain, plain_run, erase-run, Outside, MoveMachine, shows, RunsOn, block_moves, first, block_calls, block_code, is_code, disk_after as disk_left, Event, HartsOf, Rests, IsHistory, NoneClimbs, OneHart, all_shown, shown, trace_in, WorldOf, AllStarted, long_history, one_each, shown_is, started, mountable, rests_erased, honest_run, AgreesWithTheList, RunsHaveOneList}
use Rattle.hart_core.specs.declared.events.Came.{Came}
use Rattle.path_walk.specs.declared.asks.Heard.{Heard}
use Rattle.run_laws.specs.OneList.{disk_after}
use Rattle.run_laws.proofs.Growing.{IsSoFar, list_on, shows_first, so_it_is}
use Rattle.plain_tree.specs.Explains.{Chain}

shown_first : (k : ℕ) (es : List Event) (cs : List Came) → take k (all_shown es cs) ≡ all_shown (take k es) (take k cs)
shown_first zero es cs = refl
shown_first (suc k) [] cs = refl
shown_first (suc k) (e ∷ es) [] = refl
shown_first (suc k) (e ∷ es) (c ∷ cs) = ap (λ (z : List Shown). shown e c ∷ z) (shown_first k es cs)

module _ {D : Type 0} (contents : D → List (List ℕ)) (failures : D → ℕ) (device : D) (w : HartsOf D)
    (rests : Rests contents failures device w) where
  abbrev disk : List (List ℕ)
  disk = contents w.core.log.cache.device

  abbrev count : ℕ
  count = failures w.core.log.cache.device

  abbrev sizes : Super
  sizes = sizes_of disk

  abbrev N : MoveMachine
  N = block_moves sizes

  abbrev L : Theory
  L = block_calls sizes

  abbrev C : Code L
  C = block_code sizes

  abbrev start : State L
  start = fresh L (first disk count)

  module _ (last : Option Heard) (events : List Event) (cs : List Came) (new : HartsOf D) (history : List (EventOf Call Outside))
      (is : IsHistory contents failures sizes w events cs new history) (clean : L.M.Clean (run L history start).world) where
    abbrev world : WorldOf D
    world = record { harts = w; sizes = sizes; last = last }

    abbrev Agrees : ℕ → Type 0
    Agrees k = AgreesWithTheList contents failures (tree_in (contents device)) world events cs history k

    -- the list and the trace so far
    abbrev list : ℕ → List Placed
    list k = list_on disk count (take k history)

    abbrev trace : ℕ → Trace
    trace k = trace_in (take k events) (take k cs)

    runs : RunsOn disk count history
    runs = record {
      mountable = mountable contents failures device w rests;
      honest = honest_run contents failures device w rests events cs new history is;
      clean = clean;
    }

    all_shown_are : shows sizes.version N history start ≡ all_shown events cs
    all_shown_are = shown_is contents failures device w rests events cs new history is clean

    all_started : (Q : ℕ → Call → Type 0) → All (λ (c : TracedCall). Q c.hart c.call) (trace_in events cs).calls
        → AllStarted Q (shows sizes.version N history start)
    all_started Q a = started contents failures device w rests events cs new history is clean Q a

    trace_first : (k : ℕ) → trace_of (shows sizes.version N (take k history) start) ≡ trace k
    trace_first k = ap trace_of (shows_first sizes.version N k history start ∙ ap (take k) all_shown_are ∙ shown_first k events cs)

    disk_same : (k : ℕ) → disk_left disk count (take k history) ≡ disk_after contents failures world k history
    disk_same k =
        ap (λ (p : Plain L C). p.shared.state.log.contents)
        (sym (erase-run L C (is_code sizes) (take k history) start)
        ∙ ap (plain_run L C (take k history)) (rests_erased contents failures device w rests))

    agrees : (k : ℕ) → IsSoFar disk count history k → Agrees k
    agrees k x = record {
      so_far = sym x.so_far;
      begins = (x.rest, x.begins);
      explains =
          subst (λ (base : TreeData). Explains sizes.version base (trace k) (list k)) rests.disk.tree
          (subst (λ (t : Trace). Explains sizes.version (tree_in disk) t (list k)) (trace_first k) x.explains);
      stored = x.stored;
      marked = x.marked;
      past = x.past;
      tree = x.tree;
      leads =
          subst (λ (base : TreeData). Chain sizes.version (tree_of base) (before x.stored (list_on disk count history)) x.tree) rests.disk.tree
          x.leads;
      named = subst (λ (d : List (List ℕ)). IsNamedPart x.tree (tree_of (tree_in d))) (disk_same k) x.named;
    }

    all_agree : NoneClimbs (trace_in events cs) ⊎ OneHart (trace_in events cs) → (k : ℕ) → k ≤ length history → Agrees k
    all_agree (inl a) k le =
        let all = all_started (λ h call. call_climbs call ≡ false) a in
        agrees k (so_it_is disk count history runs NeverClimbs apart_calm all k le)
    all_agree (inr a) k le =
        let all = all_started (λ h call. h ≡ a.0) a.1 in
        agrees k (so_it_is disk count history runs (IsHart a.0) (apart_alone a.0) all k le)

module _ {D : Type 0} (contents : D → List (List ℕ)) (failures : D → ℕ) (w : WorldOf D) where
  abbrev now : D
  now = w.harts.core.log.cache.device

  abbrev Roomy : List (EventOf Call Outside) → Super → Type 0
  Roomy history s =
      (block_calls s).M.Clean (run (block_calls s) history (fresh (block_calls s) (first (contents now) (failures now)))).world

  pub runs_have_one_list : RunsHaveOneList contents failures w
  runs_have_one_list device events cs new history mounted is clean calm k le =
      let same : w.sizes ≡ sizes_of (contents now) = mounted.sizes ∙ sym mounted.rests.disk.sizes in
      let here = subst (λ (s : Super). IsHistory contents failures s w.harts events cs new history) same is in
      let long = long_history contents failures (sizes_of (contents now)) w.harts new events cs history here in
      let each = one_each contents failures (sizes_of (contents now)) w.harts new events cs (history, here) in
      subst (λ (z : WorldOf D). AgreesWithTheList contents failures (tree_in (contents device)) z events cs history k)
      (λ i. record { harts = w.harts; sizes = sym same i; last = w.last })
      (all_agree contents failures device w.harts mounted.rests w.last events cs new history here (subst (Roomy history) same clean) calm k
      (omega (arith, le, long, each)))
