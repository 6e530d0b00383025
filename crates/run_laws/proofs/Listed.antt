-- The list that is kept beside a run explains it, if each call that was started is one that its hart may make.
use Rattle.run_laws.proofs.Vocabulary.{◌≡◌, ℕ, List, [], ◌∷◌, ◌++◌, map, refl, sym, ◌∙◌, ap, subst, append_assoc, Call, Placed, Shown, Explains, trace_of, Tree, tree_of, TreeData, History, Stage, Told, Turn, Goings, opened, shown_of, Steps, Nothing, runs_more, runs_none, AllMayStart, opened_ok, run_explained, run_ok, Theory, EventOf as Event, Sound, State, AllHonest, fresh, makes, next, run, append_nil, sound_keeps, sound_fresh, sound_run, MoveMachine, IsMoving, RunsFrom, shows, theory_of, IsTheHistory, history_of, kept, kept_by, kept_on, nothing_yet, told_of, Beside, clean_before, event_turns, AllStarted, Version}
use Rattle.tree_laws.specs.Runs.Event.{Starts}
use Rattle.tree_laws.proofs.History.{Apart}
use Rattle.inode_machine.specs.Kept.{placed}
use Rattle.plain_tree.specs.Explains.{Chain}

-- no other calls were started
may_start : (Ok : ℕ → Call → Type 0) (turns : List Turn) → AllStarted Ok (map shown_of turns) → AllMayStart Ok turns
unfolding AllMayStart
may_start Ok [] all = tt
may_start Ok (Starts h call ∷ turns) all = (all.0, may_start Ok turns all.1)
may_start Ok (Steps h v reply ∷ turns) all = (tt, may_start Ok turns all.1)
may_start Ok (Nothing ∷ turns) all = (tt, may_start Ok turns all.1)

module _ (version : Version) (N : MoveMachine) (moving : IsMoving version N) where
  abbrev L : Theory
  L = theory_of version N

  abbrev Events : Type 0
  Events = List (Event Call N.Outside)

  -- the run as one of moves, with what is kept beside it
  record Turned (base : Tree) (events : Events) (s : State L) (b : History) (before : List Turn) : Type 0 where
    pub more : List Turn
    pub end : Told
    pub runs : Goings version (opened base) (before ++ more) end
    pub beside : Beside version N moving (run L events s) end
    pub written : end.history ≡ kept version N events s b
    pub shown : map shown_of more ≡ shows version N events s

  run_turns : (base : Tree) (events : Events) (s : State L) (t : Told) (before : List Turn) → Sound L s → Beside version N moving s t
      → Goings version (opened base) before t → AllHonest L events s → N.Clean (run L events s).world → Turned base events s t.history before
  run_turns base [] s t before sound b runs honest clean = record {
    more = [];
    end = t;
    runs = subst (λ (z : List Turn). Goings version (opened base) z t) (sym (append_nil before)) runs;
    beside = b;
    written = refl;
    shown = refl;
  }
  run_turns base (e ∷ es) s t before sound b runs honest clean =
      let u = next L e s in
      let after : Sound L u = sound_run L (e ∷ []) s sound (honest.0, tt) in
      let so_far = clean_before version N moving es u after honest.1 clean in
      let x = event_turns version N moving (N.tree sound.first) e s t (sound_keeps L moving.lawful s sound) b honest.0 so_far in
      let longer = runs_more version (opened base) t x.then_ before x.event runs x.happens in
      let y = run_turns base es u x.then_ (before ++ x.event ∷ []) after x.beside longer honest.1 clean in
      let d = told_of N (placed version N e s) in
      let from_here : kept_by N e (makes L e s).came t.stage (N.tree u.world) d t.history ≡ kept_on version N e s t.history =
      (λ i. kept_by N e (makes L e s).came (b.stage i) (N.tree u.world) d t.history) in
      record {
        more = x.event ∷ y.more;
        end = y.end;
        runs = subst (λ (z : List Turn). Goings version (opened base) z y.end) (append_assoc before (x.event ∷ []) y.more) y.runs;
        beside = y.beside;
        written = y.written ∙ ap (kept version N es u) (x.written ∙ from_here);
        shown = λ i. x.shown i ∷ y.shown i;
      }

  module _ (Ok : ℕ → Call → Type 0) (base : TreeData) (w : N.World) (events : List (Event Call N.Outside)) (r : RunsFrom version N base w events)
      (apart : Apart Ok) (all : AllStarted Ok (shows version N events (fresh (theory_of version N) w))) where
    start : Beside version N moving (fresh L w) (opened (tree_of base))
    start = record {
      stage = λ i. record { tree = sym r.tree i; walk = λ h. sym (moving.rests h w (r.idle h)) i };
      free = λ h q. refl;
      busy = λ h y q. absurd cc;
      harts = λ h y q. absurd cc;
    }

    x : Turned (tree_of base) events (fresh L w) nothing_yet []
    x =
        run_turns (tree_of base) events (fresh L w) (opened (tree_of base)) [] (sound_fresh L w r.holds r.idle) start
        (runs_none version (opened (tree_of base))) r.honest r.clean

    same : x.end.history.list ≡ history_of version N w events
    same = ap (λ (z : History). z.list) x.written

    may : AllMayStart Ok x.more
    may = may_start Ok x.more (subst (AllStarted Ok) (sym x.shown) all)

    explains : Explains version base (trace_of (shows version N events (fresh L w))) x.end.history.list
    explains =
        subst (λ (z : List Shown). Explains version base (trace_of z) x.end.history.list) x.shown
        (run_explained version Ok base x.end x.more apart may r.well x.runs)

    leads : Chain version (tree_of base) x.end.history.list (N.tree (run L events (fresh L w)).world).tree
    leads =
        subst (λ (z : Tree). Chain version (tree_of base) x.end.history.list z) (ap (λ (z : Stage). z.tree) x.beside.stage)
        (run_ok version Ok (tree_of base) (opened (tree_of base)) x.end x.more apart may (opened_ok version Ok (tree_of base) r.well) x.runs).book.chain

    pub kept_explains : IsTheHistory version N base w events
    kept_explains = record {
      explains = subst (λ (z : List Placed). Explains version base (trace_of (shows version N events (fresh L w))) z) same explains;
      leads = subst (λ (z : List Placed). Chain version (tree_of base) z (N.tree (run L events (fresh L w)).world).tree) same leads;
    }
