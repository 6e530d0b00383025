-- What is reported when a call's mark is met: what the move reports.
use Rattle.tree_histories.proofs.Vocabulary.{TreeData, ◌≡◌, ℕ, ◌<◌, ◌^◌, ◌||◌, Bool, List, [], ◌∷◌, Option, Some, None, Result, Ok, Err, IfOk, if◌then◌else◌, refl, sym, ◌∙◌, ap, subst, option_map, Action, path_of, refused, Name, Tree, elements, is_absolute, look, put, settle, start_of, tree_of, root, NoMemory, Move, Stage, Begin, Look, GiveUpWalk, Own, fail, Made, begun, looked, look_made, made_by, Makes, mark_in, Mark, action_in, call_in, Deed, Walk, KeptTree, Under, hart_in, stage_of, walk_under, with_walk, ActedOn, IsActed, MayBegin, MayLook, MayLookOn, MayMake, Tells, TellsMove, TellsOf, OnlyMoves, TreeStep, true, walking, length, length-set, is_nothing, IsNextWalk, IsWalk, is_on_new, step_in, walk_of, walk_on, IsActedAlone, Lead, LeadsBy, live_directory, name_from, parent, resolve, false, with_name}
use Rattle.tree_laws.specs.Moves as moves
use Rattle.path_walk.specs.declared.asks.Mark.TheVariants as mark
use Rattle.tree_histories.proofs.Acting.{EndsAs, ends_own, ends_so, refused_same}
use Rattle.tree_histories.proofs.Harts.{same_calls, stage_walk, walk_same}
use Rattle.tree_histories.proofs.Steps.{action_is}

refused_action : (t : Tree) (h : ℕ) (u : Under) → refused t h (action_in u.whole) ≡ t
refused_action t h u = ap (λ (s : Action). refused t h s) (sym (action_is u.whole)) ∙ refused_same t h (call_in u.whole) (is_on_new u.whole)

module _ (k : KeptTree) (h : ℕ) (u : Under) (is : hart_in k h ≡ Some u) where
  abbrev m : Stage
  m = stage_of k

  -- a step acted
  tells_end : (v : Move) (d : Option Deed) (k' : KeptTree) → k' ≡ record (with_walk k h None) { tree = k'.tree; full = is_nothing d || k.full }
      → EndsAs (tree_of k.tree) (λ id. made_by k.version (tree_of k.tree) h id ((stage_of k).walk h) v) d (tree_of k'.tree) → Tells k h v d k'
  tells_end v d k' kept e = record {
    id = e.id;
    least = e.least;
    stage = ap stage_of kept ∙ (stage_walk k h None u k'.tree is
        ∙ (ap (λ (t : Tree). let n : Stage = record { tree = t; walk = put (stage_of k).walk h None } in n) e.tree
        ∙ ap (λ (w : Option moves.Walk). let n : Stage = record { tree = settle (made_by k.version (tree_of k.tree) h e.id ((stage_of k).walk h) v).all; walk = put (stage_of k).walk h w } in n) (sym e.walk)));
    told = e.told;
    full = ap (λ (x : KeptTree). x.full) kept ∙ ap (λ (b : Bool). b || k.full) e.acted;
  }

  -- a walk goes on, or is over, and the tree stays
  tells_walk : (v : Move) (w : Option Walk) (x : Made) → settle (tree_of k.tree) ≡ tree_of k.tree → made_by k.version (tree_of k.tree) h 0 ((stage_of k).walk h) v ≡ x
      → x.all ≡ tree_of k.tree → x.walk ≡ option_map (walk_of k.version (call_in u.whole)) w → x.opened ≡ None → (d : Option Deed) → d ≡ x.told
      → (k' : KeptTree) → k' ≡ with_walk k h w → Tells k h v d k'
  tells_walk v w x settled made all walk none d told k' kept = record {
    id = 0;
    least = λ e. absurd (let opens : x.opened ≡ Some 0 = ap (λ (y : Made). y.opened) (sym made) ∙ e in cc (opens, none));
    stage = ap stage_of kept ∙ (stage_walk k h w u k.tree is
        ∙ (ap (λ (t : Tree). let n : Stage = record { tree = t; walk = put (stage_of k).walk h (option_map (walk_of k.version (call_in u.whole)) w) } in n) (sym settled ∙ ap settle (sym all))
        ∙ (ap (λ (y : Option moves.Walk). let n : Stage = record { tree = settle x.all; walk = put (stage_of k).walk h y } in n) (sym walk)
        ∙ ap (λ (y : Made). let n : Stage = record { tree = settle y.all; walk = put (stage_of k).walk h y.walk } in n) (sym made))));
    told = told ∙ ap (λ (y : Made). y.told) (sym made);
    full = ap (λ (y : KeptTree). y.full) kept;
  }

  -- ---- a walk begins

  begins_end : (s : Action) (es : List Name) → es ≡ [] → MayBegin k.version (tree_of k.tree) h s es 0 → settle (tree_of k.tree) ≡ tree_of k.tree → refused (tree_of k.tree) h s ≡ tree_of k.tree
      → (d : Option Deed) (t' : Tree) → ActedOn k.version (record { hart = h; new = 0; action = s }) (Some (start_of (tree_of k.tree) h (path_of s))) None (tree_of k.tree) d t' → EndsAs (tree_of k.tree) (λ id. begun k.version (tree_of k.tree) h s es 0 id) d t'
  begins_end s [] cut may settled same d t' x =
      let e = ends_so k.version (tree_of k.tree) h s 0 t' settled (Some (start_of (tree_of k.tree) h (path_of s))) None d same may x in
      record { id = e.id; least = e.least; tree = e.tree; told = e.told; walk = e.walk; acted = e.acted }
  begins_end s (e ∷ es) cut may settled same d t' x = absurd cc

  pub tells_begun : (d : Option Deed) (k' : KeptTree) (start : ℕ) → IsWalk k.version (call_in u.whole) None (action_in u.whole) start (elements k.version (path_of (action_in u.whole)))
      → IsActed (record { hart = h; new = 0; action = action_in u.whole }) (Some (start_of (tree_of k.tree) h (path_of (action_in u.whole)))) None k d k'
      → TellsMove k h (Begin (action_in u.whole) 0) d k'
  tells_begun d k' start none x =
      let cut : elements k.version (path_of (action_in u.whole)) ≡ [] = no_elements (elements k.version (path_of (action_in u.whole))) none in
      λ may. tells_end (Begin (action_in u.whole) 0) d k' x.kept
      (begins_end (action_in u.whole) (elements k.version (path_of (action_in u.whole))) cut may.move may.settled
      (refused_action (tree_of k.tree) h u) d (tree_of k'.tree) x.acted)
    where
      no_elements : (es : List Name) → IsWalk k.version (call_in u.whole) None (action_in u.whole) start es → es ≡ []
      no_elements [] q = refl
      no_elements (e ∷ es) q = absurd cc

  begins_on : (s : Action) (w : Walk) (start : ℕ) (es : List Name) → start ≡ start_of (tree_of k.tree) h (path_of s) → IsWalk k.version (call_in u.whole) (Some w) s start es
      → ((begun k.version (tree_of k.tree) h s es 0 0).all ≡ tree_of k.tree)
      × ((begun k.version (tree_of k.tree) h s es 0 0).walk ≡ Some (walk_of k.version (call_in u.whole) w))
      × ((begun k.version (tree_of k.tree) h s es 0 0).opened ≡ None)
      × (None ≡ (begun k.version (tree_of k.tree) h s es 0 0).told)
  begins_on s w start [] at q = absurd cc
  begins_on s w start (e ∷ es) at q = (refl, sym (q ∙ ap (λ (n : ℕ). Some (walk_on s n (e ∷ es))) at), refl, refl)

  pub tells_start : (w : Walk) (start : ℕ) → start ≡ start_of (tree_of k.tree) h (path_of (action_in u.whole))
      → IsWalk k.version (call_in u.whole) (Some w) (action_in u.whole) start (elements k.version (path_of (action_in u.whole)))
      → (k' : KeptTree) → k' ≡ with_walk k h (Some w) → TellsMove k h (Begin (action_in u.whole) 0) None k'
  tells_start w start at q k' kept =
      let b = begins_on (action_in u.whole) w start (elements k.version (path_of (action_in u.whole))) at q in
      λ may. tells_walk (Begin (action_in u.whole) 0) (Some w) (begun k.version (tree_of k.tree) h (action_in u.whole) (elements k.version (path_of (action_in u.whole))) 0 0) may.settled refl b.0 b.1 b.2 None b.3 k' kept

  -- ---- an element is looked up

  module _ (w : Walk) (there : u.walk ≡ Some w) (new : ℕ) where
    abbrev W : moves.Walk
    W = walk_of k.version (call_in u.whole) w

    walk_there : Some W ≡ (stage_of k).walk h
    walk_there = sym (ap (walk_under k.version) is ∙ ap (option_map (walk_of k.version (call_in u.whole))) there)

    looks_end : (es : List Name) (found : Option ℕ) → IsNextWalk k.version (call_in u.whole) None (record W { rest = es }) found → MayLook k.version (tree_of k.tree) h W es found new
        → settle (tree_of k.tree) ≡ tree_of k.tree
        → (d : Option Deed) (t' : Tree) (lead : Lead) → LeadsBy lead w es found
        → ActedOn k.version (record { hart = h; new = new; action = W.step }) lead.node (with_name lead.parent (name_from k.version lead.from (path_of W.step))) (tree_of k.tree) d t'
        → EndsAs (tree_of k.tree) (λ id. looked k.version (tree_of k.tree) h W es found new id) d t'
    looks_end [] found next may settled d t' lead leads x =
        ends_so k.version (tree_of k.tree) h W.step new t' settled found (Some (W.at, W.next)) d (refused_same (tree_of k.tree) h (call_in u.whole) w.is_new) may
        (subst (λ (r : Option ℕ). ActedOn k.version (record { hart = h; new = new; action = W.step }) r (Some (W.at, W.next)) (tree_of k.tree) d t') leads.0
        (subst (λ (q : Option (ℕ × Name)). ActedOn k.version (record { hart = h; new = new; action = W.step }) lead.node q (tree_of k.tree) d t')
        (λ i. with_name (leads.1 i) (name_from k.version (leads.2 i) (path_of W.step))) x))
    looks_end (e ∷ es) None next may settled d t' lead leads x =
        ends_so k.version (tree_of k.tree) h W.step new t' settled None None d (refused_same (tree_of k.tree) h (call_in u.whole) w.is_new) may
        (subst (λ (r : Option ℕ). ActedOn k.version (record { hart = h; new = new; action = W.step }) r None (tree_of k.tree) d t') leads.0
        (subst (λ (q : Option (ℕ × Name)). ActedOn k.version (record { hart = h; new = new; action = W.step }) lead.node q (tree_of k.tree) d t')
        (λ i. with_name (leads.1 i) (name_from k.version lead.from (path_of W.step))) x))
    looks_end (e ∷ es) (Some n) next may settled d t' lead leads x = absurd (let q : None ≡ Some (walk_on W.step n (e ∷ es)) = next in cc)

    -- the move is made by what is found there
    made_there : (id : ℕ) → made_by k.version (tree_of k.tree) h id ((stage_of k).walk h) (Look new) ≡ looked k.version (tree_of k.tree) h W W.rest (look (tree_of k.tree).nodes W.at W.next) new id
    made_there id = ap (λ (o : Option moves.Walk). look_made k.version (tree_of k.tree) h o new id) (sym walk_there)

    -- given: the number that code takes for what is made
    pub tells_looked : (given : ℕ) → (new < 2 ^ 16 → given ≡ new) → (d : Option Deed) (k' : KeptTree)
        → IsNextWalk k.version (call_in u.whole) None W (look (tree_of k.tree).nodes W.at W.next)
        → (lead : Lead) → LeadsBy lead w W.rest (look (tree_of k.tree).nodes W.at W.next)
        → IsActed (record { hart = h; new = given; action = W.step }) lead.node (with_name lead.parent (name_from k.version lead.from (path_of W.step))) k d k'
        → TellsMove k h (Look new) d k'
    tells_looked given fits d k' next lead leads x = λ may. tells_here may (subst (λ (n : ℕ). IsActed (record { hart = h; new = n; action = W.step }) lead.node (with_name lead.parent (name_from k.version lead.from (path_of W.step))) k d k') (fits may.move.1) x)
      where
        may_look : (stage_of k).walk h ≡ Some W → MayLookOn k.version (tree_of k.tree) h ((stage_of k).walk h) new → MayLookOn k.version (tree_of k.tree) h (Some W) new
        may_look q z = subst (λ (o : Option moves.Walk). MayLookOn k.version (tree_of k.tree) h o new) q z

        tells_here : MayMake k.version (stage_of k) h (Look new) → IsActed (record { hart = h; new = new; action = W.step }) lead.node (with_name lead.parent (name_from k.version lead.from (path_of W.step))) k d k'
            → Tells k h (Look new) d k'
        tells_here may y =
            tells_end (Look new) d k' y.kept
            (subst (λ (o : Option moves.Walk). EndsAs (tree_of k.tree) (λ id. look_made k.version (tree_of k.tree) h o new id) d (tree_of k'.tree)) walk_there
            (looks_end W.rest (look (tree_of k.tree).nodes W.at W.next) next (may_look (sym walk_there) may.move.0).1 may.settled d (tree_of k'.tree) lead leads y.acted))

    looks_on : (w2 : Walk) (es : List Name) (found : Option ℕ) → IsNextWalk k.version (call_in u.whole) (Some w2) (record W { rest = es }) found
        → ((looked k.version (tree_of k.tree) h W es found new 0).all ≡ tree_of k.tree)
        × ((looked k.version (tree_of k.tree) h W es found new 0).walk ≡ Some (walk_of k.version (call_in u.whole) w2))
        × ((looked k.version (tree_of k.tree) h W es found new 0).opened ≡ None)
        × (None ≡ (looked k.version (tree_of k.tree) h W es found new 0).told)
    looks_on w2 [] None next = absurd cc
    looks_on w2 [] (Some n) next = absurd cc
    looks_on w2 (e ∷ es) None next = absurd cc
    looks_on w2 (e ∷ es) (Some n) next = (refl, sym next, refl, refl)

    pub tells_next : (w2 : Walk) → IsNextWalk k.version (call_in u.whole) (Some w2) W (look (tree_of k.tree).nodes W.at W.next)
        → (k' : KeptTree) → k' ≡ with_walk k h (Some w2) → TellsMove k h (Look new) None k'
    tells_next w2 next k' kept =
        let b = looks_on w2 W.rest (look (tree_of k.tree).nodes W.at W.next) next in
        λ may. tells_walk (Look new) (Some w2) (looked k.version (tree_of k.tree) h W W.rest (look (tree_of k.tree).nodes W.at W.next) new 0) may.settled
        (made_there 0) b.0 b.1 b.2 None b.3 k' kept

    -- if it may look, its directory is live
    pub looks_live : MayMake k.version (stage_of k) h (Look new) → live_directory ((tree_of k.tree).nodes w.directory) ≡ true
    looks_live may = live (sym walk_there) may.move.0
      where
        live : (stage_of k).walk h ≡ Some W → MayLookOn k.version (tree_of k.tree) h ((stage_of k).walk h) new → live_directory ((tree_of k.tree).nodes w.directory) ≡ true
        live q z = (subst (λ (o : Option moves.Walk). MayLookOn k.version (tree_of k.tree) h o new) q z).0

    -- and if that isn't, it is known that there was no room
    pub tells_lost : live_directory ((tree_of k.tree).nodes w.directory) ≡ false → (k' : KeptTree) → k' ≡ record k { full = true } → TellsMove k h (Look new) None k'
    tells_lost dead k' kept = λ may. absurd (let live : live_directory ((tree_of k.tree).nodes w.directory) ≡ true = looks_live may in cc (live, dead))

  -- without a walk nothing is looked up
  module _ (none : u.walk ≡ None) (new : ℕ) where
    nowhere : None ≡ (stage_of k).walk h
    nowhere = sym (ap (walk_under k.version) is ∙ ap (option_map (walk_of k.version (call_in u.whole))) none)

    made_nowhere : (id : ℕ) → look_made k.version (tree_of k.tree) h ((stage_of k).walk h) new id ≡ look_made k.version (tree_of k.tree) h None new id
    made_nowhere id = ap (λ (o : Option moves.Walk). look_made k.version (tree_of k.tree) h o new id) (sym nowhere)

    tells_none : settle (tree_of k.tree) ≡ tree_of k.tree → (k' : KeptTree) → k' ≡ k → Tells k h (Look new) None k'
    tells_none settled k' kept = record {
      id = 0;
      least = λ e. absurd (let opens : None ≡ Some 0 = ap (λ (y : Made). y.opened) (sym (made_nowhere 0)) ∙ e in cc);
      stage = ap stage_of kept
          ∙ (ap (λ (f : ℕ → Option moves.Walk). let n : Stage = record { tree = tree_of k.tree; walk = f } in n) (sym (walk_same k h None nowhere))
          ∙ (ap (λ (t : Tree). let n : Stage = record { tree = t; walk = put (stage_of k).walk h None } in n) (sym settled)
          ∙ ap (λ (y : Made). let n : Stage = record { tree = settle y.all; walk = put (stage_of k).walk h y.walk } in n) (sym (made_nowhere 0))));
      told = ap (λ (y : Made). y.told) (sym (made_nowhere 0));
      full = ap (λ (y : KeptTree). y.full) kept;
    }

    pub tells_nowhere : (k' : KeptTree) → k' ≡ k → TellsMove k h (Look new) None k'
    tells_nowhere k' kept = λ may. tells_none may.settled k' kept

  -- ---- a walk is given up; a step acts

  pub tells_quit : (s : Action) (d : Option Deed) → d ≡ Some (fail s) → (k' : KeptTree) → k' ≡ with_walk k h None → TellsMove k h (GiveUpWalk s) d k'
  tells_quit s d told k' kept = λ may. tells_walk (GiveUpWalk s) None (made_by k.version (tree_of k.tree) h 0 ((stage_of k).walk h) (GiveUpWalk s)) may.settled refl refl refl refl d told k' kept

  pub tells_own : (s : Action) (d : Option Deed) (k' : KeptTree) → IsActedAlone k (record { hart = h; new = 0; action = s }) d k' → TellsMove k h (Own s 0) d k'
  tells_own s d k' x =
      let R : Option ℕ = resolve k.version (tree_of k.tree) h (path_of s) in
      let Q : Option (ℕ × Name) = parent k.version (tree_of k.tree) h (path_of s) in
      λ may. tells_end (Own s 0) d k' x.kept (ends_own k.version (tree_of k.tree) h s 0 (tree_of k'.tree) may.settled R Q d may.move x.acted)

-- ---- as the code meets it

ok_map : {T E : Type 0} (r : Result T E) (P Q : T → Type 0) → ((x : T) → P x → Q x) → IfOk r P → IfOk r Q
ok_map (Ok x) P Q f h = f x h
ok_map (Err e) P Q f h = tt

or_known : (a b : Bool) → b ≡ true → (a || b) ≡ true
or_known true b known = refl
or_known false b known = known

-- a step that acted leaves the rest as it was
only_acted : (s : TreeStep) (R : Option ℕ) (Q : Option (ℕ × Name)) (k : KeptTree) (d : Option Deed) (k' : KeptTree) → IsActed s R Q k d k' → OnlyMoves k k'
only_acted s R Q k d k' x = record {
  version = ap (λ (y : KeptTree). y.version) x.kept;
  count = ap (λ (y : KeptTree). length y.harts) x.kept ∙ length-set k.harts s.hart (option_map (walking None) (hart_in k s.hart));
  list = ap (λ (y : KeptTree). y.list) x.kept;
  events = ap (λ (y : KeptTree). y.events) x.kept;
  calls = ap (λ (y : KeptTree). y.calls) x.kept;
  grows = λ known. ap (λ (y : KeptTree). y.full) x.kept ∙ or_known (is_nothing d) k.full known;
  harts = λ g. ap (λ (y : KeptTree). option_map (walking None) (hart_in y g)) x.kept ∙ same_calls k s.hart None g;
}

pub only_acts : (s : TreeStep) (R : Option ℕ) (Q : Option (ℕ × Name)) (k k' : KeptTree) (r : Result (Option Deed) NoMemory) → IfOk r (λ d. IsActed s R Q k d k') → IfOk r (λ _. OnlyMoves k k')
only_acts s R Q k k' r acted = ok_map r (λ d. IsActed s R Q k d k') (λ _. OnlyMoves k k') (λ d x. only_acted s R Q k d k' x) acted

-- one that was tried leaves it, too; k0: before it, with the walk over
pub only_told : (k k0 k1 k' : KeptTree) (h : ℕ) (t : TreeData) (r : Result (Option Deed) NoMemory) → k0 ≡ k1 → k1 ≡ with_walk k h None
    → IfOk r (λ d. k' ≡ record k0 { tree = t; full = is_nothing d || k0.full }) → IfOk r (λ _. OnlyMoves k k')
only_told k k0 k1 k' h t (Err e) same walk kept = tt
only_told k k0 k1 k' h t (Ok d) same walk kept =
    let all : k0 ≡ with_walk k h None = same ∙ walk in record {
      version = ap (λ (y : KeptTree). y.version) kept ∙ ap (λ (y : KeptTree). y.version) all;
      count = ap (λ (y : KeptTree). length y.harts) kept ∙ (ap (λ (y : KeptTree). length y.harts) all ∙ length-set k.harts h (option_map (walking None) (hart_in k h)));
      list = ap (λ (y : KeptTree). y.list) kept ∙ ap (λ (y : KeptTree). y.list) all;
      events = ap (λ (y : KeptTree). y.events) kept ∙ ap (λ (y : KeptTree). y.events) all;
      calls = ap (λ (y : KeptTree). y.calls) kept ∙ ap (λ (y : KeptTree). y.calls) all;
      grows = λ known. ap (λ (y : KeptTree). y.full) kept ∙ or_known (is_nothing d) k0.full (ap (λ (y : KeptTree). y.full) all ∙ known);
      harts = λ g. ap (λ (y : KeptTree). option_map (walking None) (hart_in y g)) kept
          ∙ (ap (λ (y : KeptTree). option_map (walking None) (hart_in y g)) all ∙ same_calls k h None g);
    }

-- the hart's call is this one, and its mark is for this move
told_by : (k : KeptTree) (h : ℕ) (s : Under) (m : Mark) (v : Move) (d : Option Deed) (k' : KeptTree) → hart_in k h ≡ Some s → mark_in (action_in s.whole) m ≡ Makes v
    → TellsMove k h v d k' → TellsOf k h m d k'
told_by k h s m v d k' there is told u v' is' mk =
    let us : s ≡ u = (let q : Some s ≡ Some u = sym there ∙ is' in cc) in
    let vv : v ≡ v' = (let q : Makes v ≡ Makes v' = sym is ∙ (ap (λ (x : Under). mark_in (action_in x.whole) m) us ∙ mk) in cc) in
    subst (λ (x : Move). TellsMove k h x d k') vv told

pub told_start : (k k' : KeptTree) (h : ℕ) (s : Under) (w : Walk) (dir : ℕ) → hart_in k h ≡ Some s → dir ≡ (tree_of k.tree).cwd h
    → IsWalk k.version (call_in s.whole) (Some w) (action_in s.whole) (if is_absolute (path_of (action_in s.whole)) then root else dir) (elements k.version (path_of (action_in s.whole)))
    → k' ≡ with_walk k h (Some w) → TellsOf k h mark.Begin None k'
told_start k k' h s w dir there at walk kept =
    told_by k h s mark.Begin (Begin (action_in s.whole) 0) None k' there refl
    (tells_start k h s there w (if is_absolute (path_of (action_in s.whole)) then root else dir) (ap (λ (x : ℕ). if is_absolute (path_of (action_in s.whole)) then root else x) at) walk k' kept)

pub told_begun : (k k' : KeptTree) (h : ℕ) (s : Under) (a : Action) (start dir : ℕ) (r : Result (Option Deed) NoMemory) → hart_in k h ≡ Some s → a ≡ action_in s.whole
    → IsWalk k.version (call_in s.whole) None (action_in s.whole) start (elements k.version (path_of (action_in s.whole))) → dir ≡ (tree_of k.tree).cwd h
    → (number : ℕ) → number ≡ (if is_absolute (path_of (action_in s.whole)) then root else dir)
    → IfOk r (λ d. IsActed (record { hart = h; new = 0; action = a }) (Some number) None k d k') → IfOk r (λ d. TellsOf k h mark.Begin d k')
told_begun k k' h s a start dir r there is none at number starts acted =
    ok_map r (λ d. IsActed (record { hart = h; new = 0; action = a }) (Some number) None k d k') (λ d. TellsOf k h mark.Begin d k')
    (λ d x. told_by k h s mark.Begin (Begin (action_in s.whole) 0) d k' there refl
    (tells_begun k h s there d k' start none
    (subst (λ (n : ℕ). IsActed (record { hart = h; new = 0; action = action_in s.whole }) (Some n) None k d k')
    (starts ∙ ap (λ (x : ℕ). if is_absolute (path_of (action_in s.whole)) then root else x) at)
    (subst (λ (y : Action). IsActed (record { hart = h; new = 0; action = y }) (Some number) None k d k') is x)))) acted

pub told_next : (k k' : KeptTree) (h : ℕ) (s : Under) (w w2 : Walk) (new : ℕ) → hart_in k h ≡ Some s → s.walk ≡ Some w
    → live_directory ((tree_of k.tree).nodes w.directory) ≡ true
    → IsNextWalk k.version (call_in s.whole) (Some w2) (walk_of k.version (call_in s.whole) w) (look (tree_of k.tree).nodes w.directory (walk_of k.version (call_in s.whole) w).next)
    → k' ≡ with_walk k h (Some w2) → TellsOf k h (mark.Look new) None k'
told_next k k' h s w w2 new there has live next kept =
    told_by k h s (mark.Look new) (Look new) None k' there refl (tells_next k h s there w has new w2 next k' kept)

-- the number that code takes for what is made
pub told_looked : (k k' : KeptTree) (h : ℕ) (s : Under) (w : Walk) (new given : ℕ) (a : Action) (r : Result (Option Deed) NoMemory) → hart_in k h ≡ Some s → s.walk ≡ Some w
    → (new < 2 ^ 16 → given ≡ new) → live_directory ((tree_of k.tree).nodes w.directory) ≡ true → a ≡ (walk_of k.version (call_in s.whole) w).step
    → IsNextWalk k.version (call_in s.whole) None (walk_of k.version (call_in s.whole) w) (look (tree_of k.tree).nodes w.directory (walk_of k.version (call_in s.whole) w).next)
    → (lead : Lead) → LeadsBy lead w (walk_of k.version (call_in s.whole) w).rest (look (tree_of k.tree).nodes w.directory (walk_of k.version (call_in s.whole) w).next)
    → IfOk r (λ d. IsActed (record { hart = h; new = given; action = a }) lead.node (with_name lead.parent (name_from k.version lead.from (path_of a))) k d k')
    → IfOk r (λ d. TellsOf k h (mark.Look new) d k')
told_looked k k' h s w new given a r there has fits live is next lead leads acted =
    ok_map r (λ d. IsActed (record { hart = h; new = given; action = a }) lead.node (with_name lead.parent (name_from k.version lead.from (path_of a))) k d k') (λ d. TellsOf k h (mark.Look new) d k')
    (λ d x. told_by k h s (mark.Look new) (Look new) d k' there refl
    (tells_looked k h s there w has new given fits d k' next lead leads
    (subst (λ (y : Action). IsActed (record { hart = h; new = given; action = y }) lead.node (with_name lead.parent (name_from k.version lead.from (path_of y))) k d k') is x))) acted

-- a lost walk looks nothing up
pub told_lost : (k k' : KeptTree) (h : ℕ) (s : Under) (w : Walk) (new : ℕ) → hart_in k h ≡ Some s → s.walk ≡ Some w → live_directory ((tree_of k.tree).nodes w.directory) ≡ false
    → k' ≡ record k { full = true } → TellsOf k h (mark.Look new) None k'
told_lost k k' h s w new there has dead kept =
    told_by k h s (mark.Look new) (Look new) None k' there refl (tells_lost k h s there w has new dead k' kept)

pub told_nowhere : (k k' : KeptTree) (h : ℕ) (s : Under) (new : ℕ) → hart_in k h ≡ Some s → s.walk ≡ None → k' ≡ k → TellsOf k h (mark.Look new) None k'
told_nowhere k k' h s new there none kept =
    told_by k h s (mark.Look new) (Look new) None k' there refl (tells_nowhere k h s there none new k' kept)

pub told_quit : (k k' : KeptTree) (h : ℕ) (s : Under) (a : Action) (d : Deed) → hart_in k h ≡ Some s → a ≡ action_in s.whole → d ≡ fail a → k' ≡ with_walk k h None
    → TellsOf k h mark.GiveUpWalk (Some d) k'
told_quit k k' h s a d there is fails kept =
    told_by k h s mark.GiveUpWalk (GiveUpWalk (action_in s.whole)) (Some d) k' there refl
    (tells_quit k h s there (action_in s.whole) (Some d) (ap (λ (x : Deed). Some x) (fails ∙ ap fail is)) k' kept)

pub told_alone : (k k' : KeptTree) (h : ℕ) (m : Mark) (r : Result (Option Deed) NoMemory) → ((s : Action) → mark_in s m ≡ Makes (Own (step_in s m) 0))
    → IfOk r (λ d. (u : Under) → hart_in k h ≡ Some u → IsActedAlone k (record { hart = h; new = 0; action = step_in (action_in u.whole) m }) d k') → IfOk r (λ d. TellsOf k h m d k')
told_alone k k' h m r own acted =
    ok_map r (λ d. (u : Under) → hart_in k h ≡ Some u → IsActedAlone k (record { hart = h; new = 0; action = step_in (action_in u.whole) m }) d k') (λ d. TellsOf k h m d k')
    (λ d f u v there mk. told_by k h u m (Own (step_in (action_in u.whole) m) 0) d k' there (own (action_in u.whole))
    (tells_own k h u there (step_in (action_in u.whole) m) d k' (f u there)) u v there mk) acted
