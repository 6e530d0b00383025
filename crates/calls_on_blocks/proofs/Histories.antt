-- The history of a run beside its log: a stop leaves the tree after a beginning of it.
use Rattle.inode_machine.specs.Kept as histories
use Rattle.calls_on_blocks.proofs.Vocabulary.{◌≡◌, ℕ, suc, ◌+◌, List, [], ◌∷◌, ◌++◌, map, refl, sym, ◌∙◌, ap, subst, arith, AllByRecursion, Version, Call, Placed, Trace, Shown, Chain, Explains, Rises, trace_of, TreeData, Tree, tree_of, Stage, Told, Turn, Happens, Goings, opened, shown_of, runs_more, runs_none, runs_one, AllBelow, AllFrom, run_grew, run_below, AllMayStart, MayStart, Apart, happens_trace, opened_ok, run_explained, run_ok, Theory, Event, State, IsHonest, fresh, makes, next, Sound, sound_keeps, MoveMachine, IsMoving, shown_by, theory_of, Beside, Turns, event_turns}
use Rattle.tree_laws.specs.WellFormed.{IsWellFormed}
use Rattle.calls_on_blocks.proofs.Following.{event_of}
use Rattle.tree_laws.proofs.Cut.{noted_events}

-- ---- entries of an event

one_numbered : (n : ℕ) (old more : List Placed) → AllFrom n more → AllBelow (suc n) (old ++ more) → AllByRecursion (λ p. event_of p ≡ n) more
unfolding AllFrom AllBelow
one_numbered n [] [] from below = tt
one_numbered n [] (e ∷ es) from below = (let a = from.0 in let b = below.0 in omega (arith, a, b), one_numbered n [] es from.1 below.1)
one_numbered n (x ∷ old) more from below = one_numbered n old more from below.1

happens_now : (v : Version) (w w' : Told) (e : Turn) → Happens v w e w' → w'.history.trace.events ≡ w.history.trace.events + 1
happens_now v w w' e o = ap (λ (z : Trace). z.events) (happens_trace v w w' e o) ∙ noted_events w.history.trace (shown_of e)

map_append : {A B : Type 0} (f : A → B) (xs ys : List A) → map f (xs ++ ys) ≡ map f xs ++ map f ys
map_append f [] ys = refl
map_append f (x ∷ xs) ys = ap (λ l. f x ∷ l) (map_append f xs ys)

module _ (v : Version) (N : MoveMachine) (moving : IsMoving v N) (Ok : ℕ → Call → Type 0) (apart : Apart Ok) (base : TreeData) (well : IsWellFormed (tree_of base)) where
  abbrev pub L : Theory
  L = theory_of v N

  -- The moves so far beside a state, and what was shown.
  pub record Book (s : State L) (shown : List Shown) (list : List Placed) : Type 0 where
    pub told : Told
    pub turns : List Turn
    pub runs : Goings v (opened (tree_of base)) turns told
    pub beside : Beside v N moving s told
    pub list_is : told.history.list ≡ list
    pub events : told.history.trace.events ≡ s.now
    pub below : AllBelow told.history.trace.events told.history.list
    pub may : AllMayStart Ok turns
    pub shown_is : map shown_of turns ≡ shown

  -- its list leads to the tree as it is, and explains what was shown
  pub leads : (s : State L) (shown : List Shown) (list : List Placed) → Book s shown list → Chain v (tree_of base) list (N.tree s.world).tree
  leads s shown list b =
      subst (λ (l : List Placed). Chain v (tree_of base) l (N.tree s.world).tree) b.list_is
      (subst (λ (z : Tree). Chain v (tree_of base) b.told.history.list z) (ap (λ (z : Stage). z.tree) b.beside.stage)
      (run_ok v Ok (tree_of base) (opened (tree_of base)) b.told b.turns apart b.may (opened_ok v Ok (tree_of base) well) b.runs).book.chain)

  pub rises : (s : State L) (shown : List Shown) (list : List Placed) → Book s shown list → Rises 0 list
  rises s shown list b =
      subst (λ (l : List Placed). Rises 0 l) b.list_is
      (run_ok v Ok (tree_of base) (opened (tree_of base)) b.told b.turns apart b.may (opened_ok v Ok (tree_of base) well) b.runs).book.rises

  pub explains : (s : State L) (shown : List Shown) (list : List Placed) → Book s shown list → Explains v base (trace_of shown) list
  explains s shown list b =
      subst (λ (z : List Shown). Explains v base (trace_of z) list) b.shown_is
      (subst (λ (l : List Placed). Explains v base (trace_of (map shown_of b.turns)) l) b.list_is (run_explained v Ok base b.told b.turns apart b.may well b.runs))

  -- before the first event
  nothing_below : AllBelow 0 []
  unfolding AllBelow
  nothing_below = tt

  none_may : AllMayStart Ok []
  unfolding AllMayStart
  none_may = tt

  pub first_book : (w : N.World) → (N.tree w).tree ≡ tree_of base → ((h : ℕ) → N.Idle h w) → Book (fresh L w) [] []
  first_book w tree idle = record {
    told = opened (tree_of base);
    turns = [];
    runs = runs_none v (opened (tree_of base));
    beside = record {
      stage = λ z. record { tree = sym tree z; walk = λ h. sym (moving.rests h w (idle h)) z };
      free = λ h q. refl;
      busy = λ h x q. absurd cc;
      harts = λ h x q. absurd cc;
    };
    list_is = refl;
    events = refl;
    below = nothing_below;
    may = none_may;
    shown_is = refl;
  }

  -- one event more
  may_more : (turns : List Turn) (e : Turn) → AllMayStart Ok turns → MayStart Ok e → AllMayStart Ok (turns ++ e ∷ [])
  unfolding AllMayStart
  may_more [] e all one = (one, tt)
  may_more (t ∷ turns) e all one = (all.0, may_more turns e all.1 one)

  -- the book after an event, with the entries that the event appended
  pub record More (e : Event Call N.Outside) (s : State L) (shown : List Shown) (list : List Placed) : Type 0 where
    pub news : List Placed
    pub now : AllByRecursion (λ p. event_of p ≡ s.now) news
    pub book : Book (next L e s) (shown ++ shown_by e (makes L e s).came ∷ []) (list ++ news)

  pub book_more : (OkAt : Event Call N.Outside → Type 0) → ((e : Event Call N.Outside) (s t : State L) (told : Told) (x : Turns v N moving e (makes L e s).came t told (histories.placed v N e s)) → OkAt e → MayStart Ok x.event)
      → (e : Event Call N.Outside) (s : State L) (shown : List Shown) (list : List Placed) → Sound L s → IsHonest L e s → N.Clean (next L e s).world → (next L e s).now ≡ s.now + 1 → OkAt e → Book s shown list → More e s shown list
  book_more OkAt starts e s shown list sound honest clean counts ok b =
      let x = event_turns v N moving (N.tree sound.first) e s b.told (sound_keeps L moving.lawful s sound) b.beside honest clean in
      let one = runs_one v b.told x.then_ x.event x.happens in
      let g = run_grew v b.told x.then_ (x.event ∷ []) one in
      let at : x.then_.history.trace.events ≡ s.now + 1 = happens_now v b.told x.then_ x.event x.happens ∙ ap (λ (k : ℕ). k + 1) b.events in
      let low : AllBelow x.then_.history.trace.events x.then_.history.list = run_below v b.told x.then_ (x.event ∷ []) one b.below in
      let below : AllBelow (suc s.now) (b.told.history.list ++ g.more) = subst (λ (l : List Placed). AllBelow (suc s.now) l) g.is (subst (λ (k : ℕ). AllBelow k x.then_.history.list) (at ∙ add_one s.now) low) in
      record {
        news = g.more;
        now = one_numbered s.now b.told.history.list g.more (subst (λ (k : ℕ). AllFrom k g.more) b.events g.later) below;
        book = record {
          told = x.then_;
          turns = b.turns ++ x.event ∷ [];
          runs = runs_more v (opened (tree_of base)) b.told x.then_ b.turns x.event b.runs x.happens;
          beside = x.beside;
          list_is = g.is ∙ ap (λ (l : List Placed). l ++ g.more) b.list_is;
          events = at ∙ sym counts;
          below = low;
          may = may_more b.turns x.event b.may (starts e s (next L e s) b.told x ok);
          shown_is = map_append shown_of b.turns (x.event ∷ []) ∙ (λ i. b.shown_is i ++ x.shown i ∷ []);
        };
      }
    where
      add_one : (k : ℕ) → k + 1 ≡ suc k
      add_one k = omega arith
