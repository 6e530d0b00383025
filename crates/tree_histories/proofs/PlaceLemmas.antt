-- A step that is placed, and one that is taken back.
use Rattle.tree_histories.proofs.Vocabulary.{Version, ◌≡◌, ◌≢◌, ℕ, ◌+◌, ◌<◌, ◌≤◌, Bool, true, false, nat_lt, max, List, [], ◌∷◌, ◌++◌, take, drop, length, get_or, set, refl, sym, ◌∙◌, ap, subst, inl, inr, arith, Option, Some, None, slice_get, get_or-append, get_or-append_seam, nat_tests, get_or-set_other, get_or-set_same, get_or_past, length_push, take-append-drop, take_more, get_or_from_slice_get, slice_get_past, slice_get_read, slice_get_within, cases_Bool, cases_eq, Reply, Action, StepAnswer, Placed, Trace, TracedCall, TreeData, Tree, tree_of, IsInPlace, Step, is_nothing, IsApplied, Act, next_of, Leads, AllBelong, Belongs, Chain, IsInTime, Rises, act_of, acts_of, step_placed, applied_step, chain_one, step_one, Position, Stand, after, next_from, stand_from, stand_of, start, AreOfCalls, CanEnd, Fits, IsAt, IsDeadWith, IsEarliest, IsHopeless, IsKept, IsLimit, IsMade, IsOfCall, IsTimely, Precedes, end_at, end_of, last_event, left, most, steps_left}
use Rattle.std.proofs.lemmas.List.{length-set}
use Rattle.tree_histories.proofs.StandLemmas.{next_is, stand_count, stand_push, push_own, push_other, acts_none}
use Rattle.tree_histories.proofs.CallLemmas.{call_front, call_push, call_start}
use Rattle.tree_histories.proofs.EndLemmas.{can_swap}
use Rattle.tree_histories.proofs.ListLemmas.{belong_front, belong_push, below_most, chain_first, chain_none, chain_push, chain_split, last_front, last_push, left_less, rises_front, rises_push}
use Rattle.tree_histories.proofs.PositionLemmas.{Applied, Coming, applied, calls_back, calls_push, coming}

pub same_kept : (version : Version) (base : TreeData) (t : Trace) (p : Position) → IsAt version base t p → IsKept version base t p p
same_kept version base t p at = record { at = at; same = record { list = refl; tree = refl } }

-- A call of which a step comes next has its end still.
pub end_still : (version : Version) (base : TreeData) (t : Trace) (p : Position) (id : ℕ) (c : TracedCall) (a : Action) → IsAt version base t p → slice_get t.calls id ≡ Some c → next_from c.call (get_or p.stands.items id start) ≡ Some a → get_or p.ends id None ≡ end_of c false
end_still version base t p id c a at is next =
    let of : IsOfCall c (acts_of id p.list.items) (get_or p.stands.items id start) (get_or p.ends id None) = at.calls id c is in
    let n : next_of c.call (acts_of id p.list.items) ≡ Some a = next_is c.call (acts_of id p.list.items) ∙ (ap (λ (s : Stand). next_from c.call s) (sym of.stand) ∙ next) in
    of.end ∙ ap (λ o. end_of c (is_nothing o)) n

-- ---- one entry more

abbrev entry : TracedCall → ℕ → ℕ → ℕ → Action → StepAnswer → Placed
entry c event id new a b = record { event = event; call = id; step = record { hart = c.hart; new = new; action = a }; answer = b }

not_through : (c : TracedCall) (r : ℕ × Reply) (a : Action) (n : Option Action) → n ≡ Some a → c.finished ≡ Some r → end_of c (is_nothing n) ≡ Some r.0
not_through c r a n is fin = ap (λ (x : Option Action). end_of c (is_nothing x)) is ∙ ap end_at fin

-- an event that is timely is in the call's time
in_time : (version : Version) (base : TreeData) (t : Trace) (p : Position) (id event : ℕ) (c : TracedCall) (a : Action) (limit : ℕ) → IsAt version base t p → slice_get t.calls id ≡ Some c → IsLimit p.ends limit → next_from c.call (get_or p.stands.items id start) ≡ Some a → IsTimely c.finished event limit t.events → IsInTime t.events event c.finished
in_time version base t p id event c a limit at is below next timely = go c.finished refl timely where
  go : (f : Option (ℕ × Reply)) → c.finished ≡ f → IsTimely f event limit t.events → IsInTime t.events event f
  go None e w = w.1
  go (Some r) e w =
      let of : IsOfCall c (acts_of id p.list.items) (get_or p.stands.items id start) (get_or p.ends id None) = at.calls id c is in
      let n : next_of c.call (acts_of id p.list.items) ≡ Some a = next_is c.call (acts_of id p.list.items) ∙ (ap (λ (s : Stand). next_from c.call s) (sym of.stand) ∙ next) in
      let end : get_or p.ends id None ≡ Some r.0 = of.end ∙ not_through c r a (next_of c.call (acts_of id p.list.items)) n e in
      let le : limit ≤ r.0 = below id r.0 end in
      let lt : event ≤ limit = w in
      omega arith

limit_of : (f : Option (ℕ × Reply)) (event limit events : ℕ) → IsTimely f event limit events → event ≤ limit
limit_of None event limit events w = w.0
limit_of (Some r) event limit events w = w

-- the call's end after the step, if it has one, is its end
end_some : (c : TracedCall) (through : Bool) (e : ℕ) → end_of c through ≡ Some e → (r : ℕ × Reply) × (c.finished ≡ Some r) × (r.0 ≡ e)
end_some c true e h = absurd cc
end_some c false e h = go c.finished refl h where
  go : (f : Option (ℕ × Reply)) → c.finished ≡ f → end_at f ≡ Some e → (r : ℕ × Reply) × (c.finished ≡ Some r) × (r.0 ≡ e)
  go None fin h = absurd cc
  go (Some r) fin h = (r, fin, (let z : Some r.0 ≡ Some e = h in cc))

in_time_at : (events event : ℕ) (f : Option (ℕ × Reply)) (r : ℕ × Reply) → f ≡ Some r → IsInTime events event f → event ≤ r.0
in_time_at events event f r e h = subst (λ g. IsInTime events event g) e h

precedes_push : (p : Position) (id event : ℕ) (c : TracedCall) (x : Placed) (limit : ℕ) (e : Option ℕ) (through : Bool) (events : ℕ) → IsLimit p.ends limit → id < length p.ends → x.event ≡ event → event ≤ limit → e ≡ end_of c through → IsInTime events event c.finished
    → Precedes (p.list.items ++ x ∷ []) (set p.ends id e)
precedes_push p id event c x limit e through events below lt at le end time k n h = elim (cases_eq k id) [
  | inl y ↦ (
      let own : e ≡ Some n = sym (get_or-set_same p.ends id e None lt) ∙ (ap (λ j. get_or (set p.ends id e) j None) (sym y) ∙ h) in
      let r = end_some c through n (sym end ∙ own) in
      let until : event ≤ r.0.0 = in_time_at events event c.finished r.0 r.1 time in
      omega (arith, last_push p.list.items x, r.2)
      )
  | inr ne ↦ (
      let other : get_or p.ends k None ≡ Some n = sym (get_or-set_other p.ends id k e None ne) ∙ h in
      omega (arith, last_push p.list.items x, below k n other)
      )
]

pub record Placing (version : Version) (base : TreeData) (t : Trace) (p : Position) (id new wish event : ℕ) (c : TracedCall) (limit : ℕ) (a : Action) (b : StepAnswer) (u : Tree) (s : Stand) (e : Option ℕ) (q : Position) : Type 0 where
  pub at : IsAt version base t p
  pub is : slice_get t.calls id ≡ Some c
  pub below : IsLimit p.ends limit
  pub low : last_event p.list.items ≤ event
  pub started : c.start ≤ event
  pub least : wish ≡ 0 → (n : ℕ) → last_event p.list.items ≤ n → c.start ≤ n → event ≤ n
  pub timely : IsTimely c.finished event limit t.events
  pub next : next_from c.call (get_or p.stands.items id start) ≡ Some a
  pub place : IsInPlace (tree_of p.tree) c.hart a
  pub made : IsApplied version (tree_of p.tree) (record { hart = c.hart; new = new; action = a }) b u
  pub stand : s ≡ after (get_or p.stands.items id start) b
  pub fits : Fits c.finished c.call (get_or p.stands.items id start) s b
  pub end : e ≡ end_of c (is_nothing (next_from c.call s))
  pub tree : tree_of q.tree ≡ u
  pub list : q.list.items ≡ p.list.items ++ entry c event id new a b ∷ []
  pub stands : q.stands.items ≡ set p.stands.items id s
  pub ends : q.ends ≡ set p.ends id e

placed_at : (version : Version) (base : TreeData) (t : Trace) (p : Position) (id new wish event : ℕ) (c : TracedCall) (limit : ℕ) (a : Action) (b : StepAnswer) (u : Tree) (s : Stand) (e : Option ℕ) (q : Position) → Placing version base t p id new wish event c limit a b u s e q → IsAt version base t q
placed_at version base t p id new wish event c limit a b u s e q w =
    let y : Placed = entry c event id new a b in
    let lt : id < length t.calls = slice_get_within t.calls id c w.is in
    let lts : id < length p.stands.items = omega (arith, w.at.stands) in
    let lte : id < length p.ends = omega (arith, w.at.ends) in
    let step : Step version (tree_of p.tree) y.step y.answer u = applied_step version (tree_of p.tree) y.step w.made.id b u w.place w.made.least w.made.made in
    let time : IsInTime t.events event c.finished = in_time version base t p id event c a limit w.at w.is w.below w.next w.timely in
    let belong : Belongs t y = record { traced = c; is = w.is; hart = refl; after_start = w.started; before_return = time } in
    let of : IsOfCall c (acts_of id p.list.items ++ act_of y ∷ []) s e = call_push c (acts_of id p.list.items) (act_of y) (get_or p.stands.items id start) s (get_or p.ends id None) e (w.at.calls id c w.is) w.next w.stand w.end w.fits in
    let calls : AreOfCalls t.calls (p.list.items ++ y ∷ []) (set p.stands.items id s) (set p.ends id e) = calls_push t.calls p.list.items p.stands.items p.ends id y c s e w.at.calls w.is refl lts lte of in
    let before : Precedes (p.list.items ++ y ∷ []) (set p.ends id e) = precedes_push p id event c y limit e (is_nothing (next_from c.call s)) t.events w.below lte refl (limit_of c.finished event limit t.events w.timely) w.end time in record {
      chain = subst (λ (z : Tree). Chain version (tree_of base) q.list.items z) (sym w.tree) (subst (λ l. Chain version (tree_of base) l u) (sym w.list) (chain_push version (tree_of base) (tree_of p.tree) u p.list.items y w.at.chain step));
      rises = subst (λ l. Rises 0 l) (sym w.list) (rises_push p.list.items y w.at.rises w.low);
      belongs = subst (λ l. AllBelong t l) (sym w.list) (belong_push t p.list.items y w.at.belongs belong);
      calls = subst (λ l. AreOfCalls t.calls l q.stands.items q.ends) (sym w.list) (subst (λ z. AreOfCalls t.calls (p.list.items ++ y ∷ []) z q.ends) (sym w.stands) (subst (λ z. AreOfCalls t.calls (p.list.items ++ y ∷ []) (set p.stands.items id s) z) (sym w.ends) calls));
      stands = ap length w.stands ∙ (length-set p.stands.items id s ∙ w.at.stands);
      ends = ap length w.ends ∙ (length-set p.ends id e ∙ w.at.ends);
      precedes = subst (λ l. Precedes l q.ends) (sym w.list) (subst (λ z. Precedes (p.list.items ++ y ∷ []) z) (sym w.ends) before);
    }

act_is : (s t : Action) (a b : StepAnswer) → s ≡ t → a ≡ b → let x : Act = record { step = s; answer = a } in x ≡ record { step = t; answer = b }
act_is s t a b e f = cc

placed_rules_out : (version : Version) (base : TreeData) (t : Trace) (p : Position) (id new wish event : ℕ) (c : TracedCall) (limit : ℕ) (a : Action) (b : StepAnswer) (u : Tree) (s : Stand) (e : Option ℕ) (q : Position) → Placing version base t p id new wish event c limit a b u s e q → IsEarliest p wish limit → IsHopeless version t q → IsDeadWith version t p id new
placed_rules_out version base t p id new wish event c limit a b u s e q w earliest hopeless lo x rest low own same can =
    let y : Placed = entry c event id new a b in
    let come : Coming version t p id c x rest = coming version base t p id lo c x rest w.at w.is low own can in
    let app : Applied version t p id c x rest a b u = applied version t p id new c x rest a b u w.next w.place w.made same come in
    let swapped : CanEnd version t u (p.list.items ++ y ∷ []) x.event rest = can_swap version t app.tree u p.list.items x y x.event rest own (act_is x.step.action a x.answer b app.action app.answer) app.is app.later in
    let there : CanEnd version t (tree_of q.tree) q.list.items x.event rest = subst (λ (z : Tree). CanEnd version t z q.list.items x.event rest) (sym w.tree) (subst (λ l. CanEnd version t u l x.event rest) (sym w.list) swapped) in
    let last : last_event q.list.items ≡ event = ap last_event w.list ∙ last_push p.list.items y in
    hopeless x.event rest (omega (arith, w.least earliest.unwished x.event come.low come.started)) there

placed_fewer : (version : Version) (base : TreeData) (t : Trace) (p : Position) (id new wish event : ℕ) (c : TracedCall) (limit : ℕ) (a : Action) (b : StepAnswer) (u : Tree) (s : Stand) (e : Option ℕ) (q : Position) → Placing version base t p id new wish event c limit a b u s e q → steps_left t q < steps_left t p
placed_fewer version base t p id new wish event c limit a b u s e q w =
    let y : Placed = entry c event id new a b in
    let of : IsOfCall c (acts_of id p.list.items) (get_or p.stands.items id start) (get_or p.ends id None) = w.at.calls id c w.is in
    let n : (get_or p.stands.items id start).count ≡ length (acts_of id p.list.items) = ap (λ (z : Stand). z.count) of.stand ∙ (stand_count start (acts_of id p.list.items) ∙ omega arith) in
    let m : (get_or p.stands.items id start).count < most c.call = below_most c.call (get_or p.stands.items id start) a w.next in
    let less : left 0 t.calls (p.list.items ++ y ∷ []) < left 0 t.calls p.list.items = left_less id 0 t.calls p.list.items y c (omega arith) w.is (omega arith) in
    subst (λ l. left 0 t.calls l < left 0 t.calls p.list.items) (sym w.list) less

pub placed : (version : Version) (base : TreeData) (t : Trace) (p : Position) (id new wish event : ℕ) (c : TracedCall) (limit : ℕ) (a : Action) (b : StepAnswer) (u : Tree) (s : Stand) (e : Option ℕ) (q : Position) → Placing version base t p id new wish event c limit a b u s e q → IsMade version base t p id new wish limit q
placed version base t p id new wish event c limit a b u s e q w = record {
  at = placed_at version base t p id new wish event c limit a b u s e q w;
  more = record { entry = entry c event id new a b; call = refl; list = w.list };
  fewer = placed_fewer version base t p id new wish event c limit a b u s e q w;
  ruled_out = placed_rules_out version base t p id new wish event c limit a b u s e q w;
}

-- ---- the tree again

pub retree : (version : Version) (base : TreeData) (t : Trace) (p q : Position) → IsAt version base t p → q.list.items ≡ p.list.items → q.stands.items ≡ p.stands.items → q.ends ≡ p.ends → Chain version (tree_of base) p.list.items (tree_of q.tree) → IsKept version base t p q
retree version base t p q at list stands ends chain = record {
  at = record {
    chain = subst (λ l. Chain version (tree_of base) l (tree_of q.tree)) (sym list) chain;
    rises = subst (λ l. Rises 0 l) (sym list) at.rises;
    belongs = subst (λ l. AllBelong t l) (sym list) at.belongs;
    calls = subst (λ l. AreOfCalls t.calls l q.stands.items q.ends) (sym list) (subst (λ z. AreOfCalls t.calls p.list.items z q.ends) (sym stands) (subst (λ z. AreOfCalls t.calls p.list.items p.stands.items z) (sym ends) at.calls));
    stands = ap length stands ∙ at.stands;
    ends = ap length ends ∙ at.ends;
    precedes = subst (λ l. Precedes l q.ends) (sym list) (subst (λ z. Precedes p.list.items z) (sym ends) at.precedes);
  };
  same = record { list = list; tree = chain_one version (tree_of base) p.list.items (tree_of q.tree) (tree_of p.tree) chain at.chain };
}

-- ---- one entry less

pub record Undoing (version : Version) (base : TreeData) (t : Trace) (p : Position) (front : List Placed) (x : Placed) (c : TracedCall) (s : Stand) (e : Option ℕ) (q : Position) : Type 0 where
  pub at : IsAt version base t p
  pub was : p.list.items ≡ front ++ x ∷ []
  pub is : slice_get t.calls x.call ≡ Some c
  pub stand : s ≡ stand_of (acts_of x.call front)
  pub end : e ≡ end_of c (is_nothing (next_from c.call s))
  pub list : q.list.items ≡ front
  pub stands : q.stands.items ≡ set p.stands.items x.call s
  pub ends : q.ends ≡ set p.ends x.call e
  pub chain : Chain version (tree_of base) front (tree_of q.tree)

precedes_back : (front : List Placed) (x : Placed) (ends : List (Option ℕ)) (c : TracedCall) (e : Option ℕ) (through : Bool) (events : ℕ) → Rises 0 (front ++ x ∷ []) → Precedes (front ++ x ∷ []) ends → x.call < length ends → e ≡ end_of c through → IsInTime events x.event c.finished → Precedes front (set ends x.call e)
precedes_back front x ends c e through events rises was lt end time k n h =
    let below : last_event front ≤ x.event = last_front front x rises in
    elim (cases_eq k x.call) [
      | inl y ↦ (
          let own : e ≡ Some n = sym (get_or-set_same ends x.call e None lt) ∙ (ap (λ j. get_or (set ends x.call e) j None) (sym y) ∙ h) in
          let r = end_some c through n (sym end ∙ own) in
          let until : x.event ≤ r.0.0 = in_time_at events x.event c.finished r.0 r.1 time in
          omega (arith, r.2)
          )
      | inr ne ↦ (
          let other : get_or ends k None ≡ Some n = sym (get_or-set_other ends x.call k e None ne) ∙ h in
          omega (arith, last_push front x, was k n other)
          )
    ]

one_some : {A : Type 0} (o : Option A) (x y : A) → o ≡ Some x → o ≡ Some y → x ≡ y
one_some o x y e f = cc

undone_at : (version : Version) (base : TreeData) (t : Trace) (p : Position) (front : List Placed) (x : Placed) (c : TracedCall) (s : Stand) (e : Option ℕ) (q : Position) → Undoing version base t p front x c s e q → IsAt version base t q
undone_at version base t p front x c s e q w =
    let lt : x.call < length t.calls = slice_get_within t.calls x.call c w.is in
    let lts : x.call < length p.stands.items = omega (arith, w.at.stands) in
    let lte : x.call < length p.ends = omega (arith, w.at.ends) in
    let rises : Rises 0 (front ++ x ∷ []) = subst (λ l. Rises 0 l) w.was w.at.rises in
    let belongs : AllBelong t front × Belongs t x = belong_front t front x (subst (λ l. AllBelong t l) w.was w.at.belongs) in
    let calls : AreOfCalls t.calls (front ++ x ∷ []) p.stands.items p.ends = subst (λ l. AreOfCalls t.calls l p.stands.items p.ends) w.was w.at.calls in
    let old : IsOfCall c (acts_of x.call front ++ act_of x ∷ []) (get_or p.stands.items x.call start) (get_or p.ends x.call None) = subst (λ acts. IsOfCall c acts (get_or p.stands.items x.call start) (get_or p.ends x.call None)) (push_own x.call front x refl) (calls x.call c w.is) in
    let of : IsOfCall c (acts_of x.call front) s e = call_front c (acts_of x.call front) (act_of x) (get_or p.stands.items x.call start) s (get_or p.ends x.call None) e old w.stand w.end in
    let back : AreOfCalls t.calls front (set p.stands.items x.call s) (set p.ends x.call e) = calls_back t.calls front p.stands.items p.ends x.call x c s e calls w.is refl lts lte of in
    let same : belongs.1.traced ≡ c = one_some (slice_get t.calls x.call) belongs.1.traced c belongs.1.is w.is in
    let time : IsInTime t.events x.event c.finished = subst (λ (d : TracedCall). IsInTime t.events x.event d.finished) same belongs.1.before_return in
    let before : Precedes front (set p.ends x.call e) = precedes_back front x p.ends c e (is_nothing (next_from c.call s)) t.events rises (subst (λ l. Precedes l p.ends) w.was w.at.precedes) lte w.end time in record {
      chain = subst (λ l. Chain version (tree_of base) l (tree_of q.tree)) (sym w.list) w.chain;
      rises = subst (λ l. Rises 0 l) (sym w.list) (rises_front front x rises);
      belongs = subst (λ l. AllBelong t l) (sym w.list) belongs.0;
      calls = subst (λ l. AreOfCalls t.calls l q.stands.items q.ends) (sym w.list) (subst (λ z. AreOfCalls t.calls front z q.ends) (sym w.stands) (subst (λ z. AreOfCalls t.calls front (set p.stands.items x.call s) z) (sym w.ends) back));
      stands = ap length w.stands ∙ (length-set p.stands.items x.call s ∙ w.at.stands);
      ends = ap length w.ends ∙ (length-set p.ends x.call e ∙ w.at.ends);
      precedes = subst (λ l. Precedes l q.ends) (sym w.list) (subst (λ z. Precedes front z) (sym w.ends) before);
    }

pub undone : (version : Version) (base : TreeData) (t : Trace) (p : Position) (front : List Placed) (x : Placed) (c : TracedCall) (s : Stand) (e : Option ℕ) (q : Position) → Undoing version base t p front x c s e q → IsAt version base t q
undone version base t p front x c s e q w = undone_at version base t p front x c s e q w

-- ---- the list so far, entry after entry

pub leads_front : (version : Version) (t u : Tree) (front : List Placed) (x : Placed) (list : List Placed) → list ≡ front ++ x ∷ [] → Chain version t list u → Leads version t front
leads_front version t u front x list is chain = (let y : (mid : Tree) × Chain version t front mid × Chain version mid (x ∷ []) u = chain_split version t u front (x ∷ []) (subst (λ l. Chain version t l u) is chain) in (y.0, y.1))

-- the entry at i leads on
pub leads_next : (version : Version) (t u v : Tree) (list : List Placed) (i : ℕ) (e : Placed) (b : StepAnswer) → i < length list → e ≡ get_or list i e → Leads version t list → Chain version t (take i list) u → IsApplied version u e.step b v → Chain version t (take (i + 1) list) v
leads_next version t u v list i e b lt is leads chain made =
    let cut : take (i + 1) list ≡ take i list ++ e ∷ [] = take_more list i e lt ∙ ap (λ x. take i list ++ x ∷ []) (sym is) in
    let whole : list ≡ take (i + 1) list ++ drop (i + 1) list = sym (take-append-drop (i + 1) list) in
    let one : (mid : Tree) × Chain version t (take (i + 1) list) mid × Chain version mid (drop (i + 1) list) leads.0 = chain_split version t leads.0 (take (i + 1) list) (drop (i + 1) list) (subst (λ l. Chain version t l leads.0) whole leads.1) in
    let two : (mid : Tree) × Chain version t (take i list) mid × Chain version mid (e ∷ []) one.0 = chain_split version t one.0 (take i list) (e ∷ []) (subst (λ l. Chain version t l one.0) cut one.1) in
    let three : (mid : Tree) × Step version two.0 e.step e.answer mid × Chain version mid [] one.0 = chain_first version two.0 one.0 e [] two.2 in
    let at : two.0 ≡ u = chain_one version t (take i list) two.0 u two.1 chain in
    let step : Step version u e.step e.answer three.0 = subst (λ (w : Tree). Step version w e.step e.answer three.0) at three.1 in
    let made_step : Step version u e.step b v = applied_step version u e.step made.id b v (step_placed version u e.step e.answer three.0 step) made.least made.made in
    let same = step_one version u e.step e.answer b three.0 v step made_step in
    subst (λ l. Chain version t l v) (sym cut) (chain_push version t u v (take i list) e chain (subst (λ (x : StepAnswer). Step version u e.step x v) (sym same.0) made_step))

-- how far the call has come with the entry at i
pub stand_own : (id : ℕ) (list : List Placed) (i : ℕ) (e : Placed) → i < length list → e ≡ get_or list i e → e.call ≡ id → after (stand_of (acts_of id (take i list))) e.answer ≡ stand_of (acts_of id (take (i + 1) list))
stand_own id list i e lt is own =
    let cut : take (i + 1) list ≡ take i list ++ e ∷ [] = take_more list i e lt ∙ ap (λ x. take i list ++ x ∷ []) (sym is) in
    sym (ap (λ l. stand_of (acts_of id l)) cut ∙ (ap stand_of (push_own id (take i list) e own) ∙ stand_push start (acts_of id (take i list)) (act_of e)))

pub stand_other : (id : ℕ) (list : List Placed) (i : ℕ) (e : Placed) → i < length list → e ≡ get_or list i e → e.call ≢ id → stand_of (acts_of id (take i list)) ≡ stand_of (acts_of id (take (i + 1) list))
stand_other id list i e lt is ne =
    let cut : take (i + 1) list ≡ take i list ++ e ∷ [] = take_more list i e lt ∙ ap (λ x. take i list ++ x ∷ []) (sym is) in
    sym (ap (λ l. stand_of (acts_of id l)) cut ∙ ap stand_of (push_other id (take i list) e ne))

-- ---- the beginning

pub stand_none : (id : ℕ) → start ≡ stand_of (acts_of id [])
unfolding stand_from
stand_none id = rw (acts_none id) refl

pub start_push : (xs : List Stand) (s : Stand) → s ≡ start → ((k : ℕ) → get_or xs k start ≡ start) → (k : ℕ) → get_or (xs ++ s ∷ []) k start ≡ start
start_push xs s e all k = elim (cases_Bool (nat_lt k (length xs))) [
  | inl y ↦ (let lt : k < length xs = grind (arith, nat_tests) in get_or-append xs (s ∷ []) start k lt ∙ all k)
  | inr y ↦ elim (cases_eq k (length xs)) [
    | inl z ↦ rw z (get_or-append_seam xs s [] start ∙ e)
    | inr z ↦ get_or_past (xs ++ s ∷ []) k start (let ge : length xs ≤ k = grind (arith, nat_tests) in omega (arith, length_push xs s))
  ]
]

abbrev pub EndsAt : List TracedCall → List (Option ℕ) → ℕ → Type 0
EndsAt calls ends n = (k : ℕ) (c : TracedCall) → k < n → slice_get calls k ≡ Some c → get_or ends k None ≡ end_of c (is_nothing (next_from c.call start))

pub ends_push : (calls : List TracedCall) (ends : List (Option ℕ)) (e : Option ℕ) (d : TracedCall) → slice_get calls (length ends) ≡ Some d → e ≡ end_of d (is_nothing (next_from d.call start)) → EndsAt calls ends (length ends) → EndsAt calls (ends ++ e ∷ []) (length ends + 1)
ends_push calls ends e d at end all k c lt is = elim (cases_eq k (length ends)) [
  | inl y ↦ (
      let same : d ≡ c = one_some (slice_get calls (length ends)) d c at (ap (λ j. slice_get calls j) (sym y) ∙ is) in
      rw y (get_or-append_seam ends e [] None ∙ (end ∙ ap (λ (x : TracedCall). end_of x (is_nothing (next_from x.call start))) same))
      )
  | inr ne ↦ (let less : k < length ends = omega arith in get_or-append ends (e ∷ []) None k less ∙ all k c less is)
]

none_rises : Rises 0 []
unfolding Rises
none_rises = tt

none_belong : (t : Trace) → AllBelong t []
unfolding AllBelong
none_belong t = tt

none_last : last_event [] ≡ 0
unfolding last_event
none_last = refl

pub begin_at : (version : Version) (base : TreeData) (t : Trace) (p : Position) → p.tree ≡ base → p.list.items ≡ [] → length p.stands.items ≡ length t.calls → length p.ends ≡ length t.calls → ((k : ℕ) → get_or p.stands.items k start ≡ start) → EndsAt t.calls p.ends (length t.calls) → IsAt version base t p
begin_at version base t p tree list stands ends all_start all_end = record {
  chain = subst (λ l. Chain version (tree_of base) l (tree_of p.tree)) (sym list) (subst (λ (d : TreeData). Chain version (tree_of base) [] (tree_of d)) (sym tree) (chain_none version (tree_of base)));
  rises = subst (λ l. Rises 0 l) (sym list) none_rises;
  belongs = subst (λ l. AllBelong t l) (sym list) (none_belong t);
  calls = λ id c is. (
      let lt : id < length t.calls = slice_get_within t.calls id c is in
      let of : IsOfCall c [] start (get_or p.ends id None) = call_start c (get_or p.ends id None) (all_end id c lt is) in
      subst (λ l. IsOfCall c (acts_of id l) (get_or p.stands.items id start) (get_or p.ends id None)) (sym list) (subst (λ acts. IsOfCall c acts (get_or p.stands.items id start) (get_or p.ends id None)) (sym (acts_none id)) (subst (λ (s : Stand). IsOfCall c [] s (get_or p.ends id None)) (sym (all_start id)) of))
      );
  stands = stands;
  ends = ends;
  precedes = λ id e h. (let z : last_event p.list.items ≡ 0 = ap last_event list ∙ none_last in omega arith);
}

-- ---- what is read

pub got : {A : Type 0} (xs ys : List A) (i : ℕ) (x : A) → ys ≡ xs → i < length ys → x ≡ get_or ys i x → slice_get xs i ≡ Some x
got xs ys i x e lt is = subst (λ zs. slice_get zs i ≡ Some x) e (slice_get_read ys (length ys) i x refl lt is)

pub gone : {A : Type 0} (xs ys : List A) (i : ℕ) → ys ≡ xs → length ys ≤ i → slice_get xs i ≡ None
gone xs ys i e le = subst (λ zs. slice_get zs i ≡ None) e (slice_get_past ys i le)

pub read_at : {A : Type 0} (xs : List A) (i : ℕ) (x d : A) → i < length xs → x ≡ get_or xs i x → x ≡ get_or xs i d
read_at xs i x d lt is = sym (get_or_from_slice_get xs i x d (slice_get_read xs (length xs) i x refl lt is))

pub snoc_front : (xs ys : List Placed) (x y : Placed) → xs ++ x ∷ [] ≡ ys ++ y ∷ [] → xs ≡ ys
snoc_front [] [] x y h = refl
snoc_front [] (b ∷ ys) x y h = absurd (let n : length (x ∷ []) ≡ length (b ∷ (ys ++ y ∷ [])) = ap length h in omega (arith, length_push ys y))
snoc_front (a ∷ xs) [] x y h = absurd (let n : length (a ∷ (xs ++ x ∷ [])) ≡ length (y ∷ []) = ap length h in omega (arith, length_push xs x))
snoc_front (a ∷ xs) (b ∷ ys) x y h =
    let tails : xs ++ x ∷ [] ≡ ys ++ y ∷ [] = cc in
    let heads : a ≡ b = cc in
    let e : xs ≡ ys = snoc_front xs ys x y tails in
    cc

pub between : (low start event : ℕ) → event ≡ max low start → (n : ℕ) → low ≤ n → start ≤ n → event ≤ n
between low start event e n a b = omega arith
