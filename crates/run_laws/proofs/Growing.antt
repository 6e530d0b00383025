-- The kept list of a run on a mounted disk, at each of the run's beginnings.
use Rattle.run_laws.proofs.Vocabulary.{◌≡◌, ℕ, zero, suc, ◌≤◌, List, [], ◌∷◌, ◌++◌, length, take, refl, sym, ◌∙◌, ap, subst, arith, length-take-le, take-append-drop, take-take, sizes_of, tree_in, Call, Placed, Explains, IsNamedPart, Rises, Shown, trace_of, Tree, tree_of, IsMarked, RisesBy, beginning, before, Theory, EventOf as Event, Sound, State, AllHonest, fresh, makes, next, run, run-append, sound_run, Outside, MoveMachine, IsMoving, RunsFrom, shown_by, shows, theory_of, IsTheHistory, history_of, clean_before, history_grows, RunsOn, block_moves, first, block_calls, moving, runs_from, disk_after, marks_at, state_after, event_of, first_sound, AllStarted, Version, version_in}
use Rattle.std.proofs.Common.{drop}
use Rattle.tree_laws.proofs.History.{Apart}
use Rattle.run_laws.proofs.Left.{HasTreeOf, Leaves, honest_first, left}
use Rattle.run_laws.proofs.Listed.{kept_explains}
use Rattle.plain_tree.specs.Explains.{Chain}

rises_so : (lo : ℕ) (list : List Placed) → Rises lo list → RisesBy event_of lo list
unfolding Rises RisesBy
rises_so lo [] up = tt
rises_so lo (e ∷ es) up = (up.0, rises_so e.event es up.1)

started_first : (Ok : ℕ → Call → Type 0) (k : ℕ) (ss : List Shown) → AllStarted Ok ss → AllStarted Ok (take k ss)
started_first Ok zero ss all = tt
started_first Ok (suc k) [] all = tt
started_first Ok (suc k) (s ∷ ss) all = (all.0, started_first Ok k ss all.1)

honest_rest : (L : Theory) (k : ℕ) (es : List (Event L.Call L.M.Outside)) (s : State L) → AllHonest L es s
    → AllHonest L (drop k es) (run L (take k es) s)
honest_rest L zero es s honest = honest
honest_rest L (suc k) [] s honest = tt
honest_rest L (suc k) (e ∷ es) s honest = honest_rest L k es (next L e s) honest.1

module _ (version : Version) (N : MoveMachine) where
  pub shows_first : (k : ℕ) (es : List (Event Call N.Outside)) (s : State (theory_of version N))
      → shows version N (take k es) s ≡ take k (shows version N es s)
  shows_first zero es s = refl
  shows_first (suc k) [] s = refl
  shows_first (suc k) (e ∷ es) s =
      ap (λ (z : List Shown). shown_by e (makes (theory_of version N) e s).came ∷ z) (shows_first k es (next (theory_of version N) e s))

module _ (disk : List (List ℕ)) (failures : ℕ) where
  abbrev N : MoveMachine
  N = block_moves (sizes_of disk)

  abbrev L : Theory
  L = block_calls (sizes_of disk)

  abbrev start : State L
  start = fresh L (first disk failures)

  abbrev is_moving : IsMoving (version_in disk) N
  is_moving = moving (sizes_of disk)

  -- the list that is kept beside events on this disk
  abbrev pub list_on : List (Event Call Outside) → List Placed
  list_on events = history_of (version_in disk) (block_moves (sizes_of disk)) (first disk failures) events

  -- After the first k events: the list so far is a beginning of the whole list, and explains what was shown. The
  -- disk's tree is what has names in the tree to which the entries up to a mark lead.
  pub record IsSoFar (events : List (Event Call Outside)) (k : ℕ) : Type 0 where
    pub so_far : before k (list_on events) ≡ list_on (take k events)
    pub rest : List Placed
    pub begins : list_on (take k events) ++ rest ≡ list_on events
    pub explains : Explains (version_in disk) (tree_in disk) (trace_of (shows (version_in disk) N (take k events) start)) (list_on (take k events))
    pub stored : ℕ
    pub marked : IsMarked (marks_at disk failures (take k events)) stored
    pub past : stored ≤ k
    pub tree : Tree
    pub leads : Chain (version_in disk) (tree_of (tree_in disk)) (before stored (list_on events)) tree
    pub named : IsNamedPart tree (tree_of (tree_in (disk_after disk failures (take k events))))

  module _ (events : List (Event Call Outside)) (r : RunsOn disk failures events) where
    -- after the first k events
    abbrev state : ℕ → State L
    state k = run L (take k events) start

    abbrev tree_at : ℕ → Tree
    tree_at k = (N.tree (state k).world).tree

    abbrev disk_at : ℕ → List (List ℕ)
    disk_at k = disk_after disk failures (take k events)

    abbrev list : ℕ → List Placed
    list k = list_on (take k events)

    abbrev whole : List Placed
    whole = list_on events

    in_parts : (k : ℕ) → run L events start ≡ run L (drop k events) (state k)
    in_parts k =
        ap (λ (es : List (Event Call Outside)). run L es start) (sym (take-append-drop k events))
        ∙ run-append L (take k events) (drop k events) start

    honest_to : (k : ℕ) → AllHonest L (take k events) start
    honest_to k = honest_first L k events start r.honest

    honest_past : (k : ℕ) → AllHonest L (drop k events) (state k)
    honest_past k = honest_rest L k events start r.honest

    clean_past : (k : ℕ) → L.M.Clean (run L (drop k events) (state k)).world
    clean_past k = subst (λ (s : State L). L.M.Clean s.world) (in_parts k) r.clean

    runs_to : (k : ℕ) → RunsFrom (version_in disk) N (tree_in disk) (first disk failures) (take k events)
    runs_to k =
        let sound : Sound L (state k) = sound_run L (take k events) start (first_sound disk failures r.mountable) (honest_to k) in
        let clean = clean_before (version_in disk) N is_moving (drop k events) (state k) sound (honest_past k) (clean_past k) in
        runs_from disk failures (take k events) (record { mountable = r.mountable; honest = honest_to k; clean = clean })

    -- the list only grows
    grows : (k : ℕ) → k ≤ length events → before k whole ≡ list k
    grows k le =
        ap (λ (n : ℕ). before n whole) (sym (length-take-le k events le))
        ∙ ap (λ (es : List (Event Call Outside)). before (length (take k events)) (list_on es)) (sym (take-append-drop k events))
        ∙ history_grows (version_in disk) N is_moving (tree_in disk) (first disk failures) (take k events) (drop k events) (runs_to k) (honest_past k)
        (clean_past k)

    module _ (Ok : ℕ → Call → Type 0) (apart : Apart Ok) (all : AllStarted Ok (shows (version_in disk) N events start)) where
      started_to : (k : ℕ) → AllStarted Ok (shows (version_in disk) N (take k events) start)
      started_to k = subst (AllStarted Ok) (sym (shows_first (version_in disk) N k events start)) (started_first Ok k (shows (version_in disk) N events start) all)

      is_the_list : (k : ℕ) → IsTheHistory (version_in disk) N (tree_in disk) (first disk failures) (take k events)
      is_the_list k = kept_explains (version_in disk) N is_moving Ok (tree_in disk) (first disk failures) (take k events) (runs_to k) apart (started_to k)

      whole_list : IsTheHistory (version_in disk) N (tree_in disk) (first disk failures) events
      whole_list = kept_explains (version_in disk) N is_moving Ok (tree_in disk) (first disk failures) events (runs_from disk failures events r) apart all

      begins : (k : ℕ) → k ≤ length events → (rest : List Placed) × (list k ++ rest ≡ whole)
      begins k le =
          subst (λ (l : List Placed). (rest : List Placed) × (l ++ rest ≡ whole)) (grows k le)
          (beginning event_of k 0 whole (rises_so 0 whole whole_list.explains.rises))

      stop_leaves : (k : ℕ) → Leaves disk failures (take k events)
      stop_leaves k = left disk failures (take k events) (record { mountable = r.mountable; honest = honest_to k })

      pub so_it_is : (k : ℕ) → k ≤ length events → IsSoFar events k
      so_it_is k le =
          let l = stop_leaves k in
          let b = begins k le in
          let long = length-take-le k events le in
          let past : l.count ≤ k = (let p = l.past in omega (arith, p, long)) in
          let early : l.count ≤ length events = omega (arith, past, le) in
          let leads : Chain (version_in disk) (tree_of (tree_in disk)) (list l.count) (tree_at l.count) = (is_the_list l.count).leads in
          record {
            so_far = grows k le;
            rest = b.0;
            begins = b.1;
            explains = (is_the_list k).explains;
            stored = l.count;
            marked = l.marked;
            past = past;
            tree = tree_at l.count;
            leads = subst (λ (z : List Placed). Chain (version_in disk) (tree_of (tree_in disk)) z (tree_at l.count)) (sym (grows l.count early)) leads;
            named =
                subst (λ (es : List (Event Call Outside)). HasTreeOf disk (state_after disk failures es) (disk_at k))
                (take-take l.count k events past) l.named;
          }
