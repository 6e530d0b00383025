-- A list that begins to explain a trace: with one entry more, with one less, and what it rules out.
use Rattle.tree_histories.proofs.Vocabulary.{Version, ◌≡◌, ◌≢◌, ℕ, ◌<◌, ◌≤◌, List, [], ◌∷◌, ◌++◌, length, get_or, set, sym, ◌∙◌, ap, subst, inl, inr, arith, Option, Some, None, slice_get, get_or-set_other, get_or-set_same, get_or_past, slice_get_cases, cases_eq, Reply, Action, StepAnswer, Placed, Trace, TracedCall, TreeData, Tree, tree_of, IsInPlace, IsNewNode, Step, IsApplied, IsBadChoice, Act, next_of, IsInTime, IsWritten, act_of, acts_of, step_placed, Due, Position, Stand, after, next_from, start, IsDue, AreOfCalls, CanEnd, Fits, IsAt, IsDeadWith, IsOfCall, IsTimely, NeedsNumber, last_event, most}
use Rattle.tree_histories.proofs.StandLemmas.{next_is, push_other, push_own}
use Rattle.tree_histories.proofs.CallLemmas.{some_not, written_fits, written_next}
use Rattle.tree_histories.proofs.StepLemmas.{applied_is, numbered}
use Rattle.tree_histories.proofs.EndLemmas.{First, begins_by, first, first_written}
use Rattle.tree_histories.proofs.ListLemmas.{rises_cons}

one_some : {A : Type 0} (o : Option A) (x y : A) → o ≡ Some x → o ≡ Some y → x ≡ y
one_some o x y e f = cc

-- ---- by call

calls_at : (calls : List TracedCall) (list : List Placed) (stands : List Stand) (ends : List (Option ℕ)) (id : ℕ) (x : Placed) (c : TracedCall) (s : Stand) (e : Option ℕ) (k : ℕ) (d : TracedCall)
    → AreOfCalls calls list stands ends → slice_get calls id ≡ Some c → x.call ≡ id → id < length stands → id < length ends → IsOfCall c (acts_of id list ++ act_of x ∷ []) s e → slice_get calls k ≡ Some d
    → IsOfCall d (acts_of k (list ++ x ∷ [])) (get_or (set stands id s) k start) (get_or (set ends id e) k None)
calls_at calls list stands ends id x c s e k d all is own lts lte new at = elim (cases_eq k id) [
  | inl y ↦ (
      let same : c ≡ d = one_some (slice_get calls id) c d is (ap (λ j. slice_get calls j) (sym y) ∙ at) in
      rw (y, get_or-set_same stands id s start lts, get_or-set_same ends id e None lte, push_own id list x own, ← same) new
      )
  | inr ne ↦ (
      let other : x.call ≢ k = λ (z : x.call ≡ k). ne (sym z ∙ own) in
      rw (get_or-set_other stands id k s start ne, get_or-set_other ends id k e None ne, push_other k list x other) (all k d at)
      )
]

pub calls_push : (calls : List TracedCall) (list : List Placed) (stands : List Stand) (ends : List (Option ℕ)) (id : ℕ) (x : Placed) (c : TracedCall) (s : Stand) (e : Option ℕ)
    → AreOfCalls calls list stands ends → slice_get calls id ≡ Some c → x.call ≡ id → id < length stands → id < length ends → IsOfCall c (acts_of id list ++ act_of x ∷ []) s e
    → AreOfCalls calls (list ++ x ∷ []) (set stands id s) (set ends id e)
calls_push calls list stands ends id x c s e all is own lts lte new k d at = calls_at calls list stands ends id x c s e k d all is own lts lte new at

back_at : (calls : List TracedCall) (list : List Placed) (stands : List Stand) (ends : List (Option ℕ)) (id : ℕ) (x : Placed) (c : TracedCall) (s : Stand) (e : Option ℕ) (k : ℕ) (d : TracedCall)
    → AreOfCalls calls (list ++ x ∷ []) stands ends → slice_get calls id ≡ Some c → x.call ≡ id → id < length stands → id < length ends → IsOfCall c (acts_of id list) s e → slice_get calls k ≡ Some d
    → IsOfCall d (acts_of k list) (get_or (set stands id s) k start) (get_or (set ends id e) k None)
back_at calls list stands ends id x c s e k d all is own lts lte new at = elim (cases_eq k id) [
  | inl y ↦ (
      let same : c ≡ d = one_some (slice_get calls id) c d is (ap (λ j. slice_get calls j) (sym y) ∙ at) in
      rw (y, get_or-set_same stands id s start lts, get_or-set_same ends id e None lte, ← same) new
      )
  | inr ne ↦ (
      let other : x.call ≢ k = λ (z : x.call ≡ k). ne (sym z ∙ own) in
      rw (get_or-set_other stands id k s start ne, get_or-set_other ends id k e None ne) (subst (λ acts. IsOfCall d acts (get_or stands k start) (get_or ends k None)) (push_other k list x other) (all k d at))
      )
]

pub calls_back : (calls : List TracedCall) (list : List Placed) (stands : List Stand) (ends : List (Option ℕ)) (id : ℕ) (x : Placed) (c : TracedCall) (s : Stand) (e : Option ℕ)
    → AreOfCalls calls (list ++ x ∷ []) stands ends → slice_get calls id ≡ Some c → x.call ≡ id → id < length stands → id < length ends → IsOfCall c (acts_of id list) s e
    → AreOfCalls calls list (set stands id s) (set ends id e)
calls_back calls list stands ends id x c s e all is own lts lte new k d at = back_at calls list stands ends id x c s e k d all is own lts lte new at

-- the call at an end
pub record Ended (t : Trace) (ends : List (Option ℕ)) (id e : ℕ) : Type 0 where
  pub call : TracedCall
  pub is : slice_get t.calls id ≡ Some call

pub ended : (version : Version) (base : TreeData) (t : Trace) (p : Position) (id e : ℕ) → IsAt version base t p → get_or p.ends id None ≡ Some e → Ended t p.ends id e
ended version base t p id e at h = elim (slice_get_cases t.calls id).1 [
  | inl x ↦ record { call = x.0; is = x.2 }
  | inr x ↦ absurd (let le : length p.ends ≤ id = omega (arith, at.ends, x.0) in let z : None ≡ Some e = sym (get_or_past p.ends id None le) ∙ h in cc)
]

-- ---- what may come next

-- the entry x of the call id, with a rest, may come after the list
pub record Coming (version : Version) (t : Trace) (p : Position) (id : ℕ) (c : TracedCall) (x : Placed) (rest : List Placed) : Type 0 where
  pub low : last_event p.list.items ≤ x.event
  pub started : c.start ≤ x.event
  pub hart : x.step.hart ≡ c.hart
  pub until : IsInTime t.events x.event c.finished
  pub next : next_from c.call (get_or p.stands.items id start) ≡ Some x.step.action
  pub written : IsWritten c.call (acts_of id p.list.items ++ act_of x ∷ acts_of id rest) c.finished
  pub mid : Tree
  pub step : Step version (tree_of p.tree) (record { hart = c.hart; new = x.step.new; action = x.step.action }) x.answer mid
  pub later : CanEnd version t mid (p.list.items ++ x ∷ []) x.event rest
  pub again : CanEnd version t (tree_of p.tree) p.list.items x.event (x ∷ rest)

coming_call : (version : Version) (t : Trace) (p : Position) (id lo : ℕ) (c : TracedCall) (x : Placed) (rest : List Placed) (b : First version t (tree_of p.tree) p.list.items lo x rest) → x.call ≡ id → slice_get t.calls id ≡ Some c → b.belongs.traced ≡ c
coming_call version t p id lo c x rest b own is = one_some (slice_get t.calls id) b.belongs.traced c (ap (λ j. slice_get t.calls j) (sym own) ∙ b.belongs.is) is

pub coming : (version : Version) (base : TreeData) (t : Trace) (p : Position) (id lo : ℕ) (c : TracedCall) (x : Placed) (rest : List Placed) → IsAt version base t p → slice_get t.calls id ≡ Some c → last_event p.list.items ≤ lo → x.call ≡ id → CanEnd version t (tree_of p.tree) p.list.items lo (x ∷ rest) → Coming version t p id c x rest
coming version base t p id lo c x rest at is low own can =
    let b : First version t (tree_of p.tree) p.list.items lo x rest = first version t (tree_of p.tree) p.list.items lo x rest can in
    let same : b.belongs.traced ≡ c = coming_call version t p id lo c x rest b own is in
    let hart : x.step.hart ≡ c.hart = b.belongs.hart ∙ ap (λ (d : TracedCall). d.hart) same in
    let here : slice_get t.calls x.call ≡ Some c = ap (λ j. slice_get t.calls j) own ∙ is in
    let w : IsWritten c.call (acts_of id p.list.items ++ act_of x ∷ acts_of id rest) c.finished = subst (λ j. IsWritten c.call (acts_of j p.list.items ++ act_of x ∷ acts_of j rest) c.finished) own (first_written version t (tree_of p.tree) p.list.items lo x rest c here can) in
    let of : IsOfCall c (acts_of id p.list.items) (get_or p.stands.items id start) (get_or p.ends id None) = at.calls id c is in
    let n : next_of c.call (acts_of id p.list.items) ≡ Some x.step.action = written_next c.finished c.call (acts_of id p.list.items) (act_of x) (acts_of id rest) w in
    let le : c.start ≤ x.event = subst (λ (d : TracedCall). d.start ≤ x.event) same b.belongs.after_start in
    let first_low : lo ≤ x.event = b.low in record {
      low = omega arith;
      started = le;
      hart = hart;
      until = subst (λ (d : TracedCall). IsInTime t.events x.event d.finished) same b.belongs.before_return;
      next = ap (λ (s : Stand). next_from c.call s) of.stand ∙ (sym (next_is c.call (acts_of id p.list.items)) ∙ n);
      written = w;
      mid = b.mid;
      step = subst (λ (h : ℕ). Step version (tree_of p.tree) (record { hart = h; new = x.step.new; action = x.step.action }) x.answer b.mid) hart b.step;
      later = b.later;
      again = record { rises = rises_cons x.event x rest (omega arith) (b.later.rises); leads = can.leads; written = can.written; belongs = can.belongs };
    }

-- It may be numbered by any event between the last one and its own.
pub timely : (version : Version) (base : TreeData) (t : Trace) (p : Position) (id event : ℕ) (d : Due) (c : TracedCall) (x : Placed) (rest : List Placed) → IsAt version base t p → IsDue p.ends d → event ≤ x.event → Coming version t p id c x rest → IsTimely c.finished event d.limit t.events
timely version base t p id event d c x rest at due le come =
    let end : Ended t p.ends d.id d.limit = ended version base t p d.id d.limit at due.end in
    let of : IsOfCall end.call (acts_of d.id p.list.items) (get_or p.stands.items d.id start) (Some d.limit) = subst (λ e. IsOfCall end.call (acts_of d.id p.list.items) (get_or p.stands.items d.id start) e) due.end (at.calls d.id end.call end.is) in
    let by : x.event ≤ d.limit = begins_by version t (tree_of p.tree) p.list.items x.event (x ∷ rest) d.id end.call (get_or p.stands.items d.id start) d.limit end.is of come.again in
    go c.finished come.until by where
      go : (f : Option (ℕ × Reply)) → IsInTime t.events x.event f → x.event ≤ d.limit → IsTimely f event d.limit t.events
      go None u by = (let v : x.event < t.events = u in (omega arith, omega arith))
      go (Some r) u by = omega arith

-- ---- what is ruled out

-- with an event between
pub not_timely : (version : Version) (base : TreeData) (t : Trace) (p : Position) (id new event : ℕ) (d : Due) (c : TracedCall) → IsAt version base t p → IsDue p.ends d → slice_get t.calls id ≡ Some c
    → ((n : ℕ) → last_event p.list.items ≤ n → c.start ≤ n → event ≤ n) → (IsTimely c.finished event d.limit t.events → ⊥) → IsDeadWith version t p id new
not_timely version base t p id new event d c at due is most not lo x rest low own same can =
    let come : Coming version t p id c x rest = coming version base t p id lo c x rest at is low own can in
    not (timely version base t p id event d c x rest at due (most x.event come.low come.started) come)

pub no_call : (version : Version) (t : Trace) (p : Position) (id new : ℕ) → slice_get t.calls id ≡ None → IsDeadWith version t p id new
no_call version t p id new none lo x rest low own same can =
    let b : First version t (tree_of p.tree) p.list.items lo x rest = first version t (tree_of p.tree) p.list.items lo x rest can in
    some_not (slice_get t.calls id) b.belongs.traced none (ap (λ j. slice_get t.calls j) (sym own) ∙ b.belongs.is)

pub no_next : (version : Version) (base : TreeData) (t : Trace) (p : Position) (id new : ℕ) (c : TracedCall) → IsAt version base t p → slice_get t.calls id ≡ Some c → next_from c.call (get_or p.stands.items id start) ≡ None → IsDeadWith version t p id new
no_next version base t p id new c at is none lo x rest low own same can =
    let come : Coming version t p id c x rest = coming version base t p id lo c x rest at is low own can in
    some_not (next_from c.call (get_or p.stands.items id start)) x.step.action none come.next

-- the step that comes next, with its number
pub coming_step : (version : Version) (t : Trace) (p : Position) (id : ℕ) (c : TracedCall) (x : Placed) (rest : List Placed) (a : Action) → next_from c.call (get_or p.stands.items id start) ≡ Some a → (come : Coming version t p id c x rest) → Step version (tree_of p.tree) (record { hart = c.hart; new = x.step.new; action = a }) x.answer come.mid
coming_step version t p id c x rest a next come = subst (λ (b : Action). Step version (tree_of p.tree) (record { hart = c.hart; new = x.step.new; action = b }) x.answer come.mid) (one_some (next_from c.call (get_or p.stands.items id start)) x.step.action a come.next next) come.step

pub no_place : (version : Version) (base : TreeData) (t : Trace) (p : Position) (id new : ℕ) (c : TracedCall) (a : Action) → IsAt version base t p → slice_get t.calls id ≡ Some c → next_from c.call (get_or p.stands.items id start) ≡ Some a → (IsInPlace (tree_of p.tree) c.hart a → ⊥) → IsDeadWith version t p id new
no_place version base t p id new c a at is next not lo x rest low own same can =
    let come : Coming version t p id c x rest = coming version base t p id lo c x rest at is low own can in
    not (step_placed version (tree_of p.tree) (record { hart = c.hart; new = x.step.new; action = a }) x.answer come.mid (coming_step version t p id c x rest a next come))

pub bad_numbers : (version : Version) (base : TreeData) (t : Trace) (p : Position) (id new : ℕ) (c : TracedCall) (a : Action) → IsAt version base t p → slice_get t.calls id ≡ Some c → next_from c.call (get_or p.stands.items id start) ≡ Some a → IsBadChoice version (tree_of p.tree) (record { hart = c.hart; new = new; action = a }) → NeedsNumber version t p id
bad_numbers version base t p id new c a at is next bad lo x rest low own can =
    let come : Coming version t p id c x rest = coming version base t p id lo c x rest at is low own can in
    let n = numbered version (tree_of p.tree) c.hart x.step.new a x.answer come.mid bad.not_refused bad.makes (coming_step version t p id c x rest a next come) in
    (n.from, n.below)

pub bad_dead : (version : Version) (base : TreeData) (t : Trace) (p : Position) (id new : ℕ) (c : TracedCall) (a : Action) → IsAt version base t p → slice_get t.calls id ≡ Some c → next_from c.call (get_or p.stands.items id start) ≡ Some a → IsBadChoice version (tree_of p.tree) (record { hart = c.hart; new = new; action = a }) → new ≢ 0 → IsDeadWith version t p id new
bad_dead version base t p id new c a at is next bad some lo x rest low own same can =
    let come : Coming version t p id c x rest = coming version base t p id lo c x rest at is low own can in
    let n = numbered version (tree_of p.tree) c.hart x.step.new a x.answer come.mid bad.not_refused bad.makes (coming_step version t p id c x rest a next come) in
    bad.bad (subst (λ (k : ℕ). IsNewNode (tree_of p.tree) k) (same some) n)

-- what the step was applied to is what may come
pub record Applied (version : Version) (t : Trace) (p : Position) (id : ℕ) (c : TracedCall) (x : Placed) (rest : List Placed) (a : Action) (b : StepAnswer) (u : Tree) : Type 0 where
  pub action : x.step.action ≡ a
  pub answer : x.answer ≡ b
  pub tree : Tree
  pub is : tree ≡ u
  pub later : CanEnd version t tree (p.list.items ++ x ∷ []) x.event rest

pub applied : (version : Version) (t : Trace) (p : Position) (id new : ℕ) (c : TracedCall) (x : Placed) (rest : List Placed) (a : Action) (b : StepAnswer) (u : Tree) → next_from c.call (get_or p.stands.items id start) ≡ Some a → IsInPlace (tree_of p.tree) c.hart a
    → IsApplied version (tree_of p.tree) (record { hart = c.hart; new = new; action = a }) b u → (new ≢ 0 → x.step.new ≡ new) → Coming version t p id c x rest → Applied version t p id c x rest a b u
applied version t p id new c x rest a b u next place made same come =
    let is = applied_is version (tree_of p.tree) c.hart new a b u x.step.new x.answer come.mid place same made (coming_step version t p id c x rest a next come) in record {
      action = one_some (next_from c.call (get_or p.stands.items id start)) x.step.action a come.next next;
      answer = is.0;
      tree = come.mid;
      is = is.1;
      later = come.later;
    }

act_is : (s t : Action) (a b : StepAnswer) → s ≡ t → a ≡ b → let x : Act = record { step = s; answer = a } in x ≡ record { step = t; answer = b }
act_is s t a b e f = cc

-- a step whose answer doesn't fit
pub no_fit : (version : Version) (base : TreeData) (t : Trace) (p : Position) (id new : ℕ) (c : TracedCall) (a : Action) (b : StepAnswer) (u : Tree) (later : Stand) → IsAt version base t p → slice_get t.calls id ≡ Some c → next_from c.call (get_or p.stands.items id start) ≡ Some a → IsInPlace (tree_of p.tree) c.hart a
    → IsApplied version (tree_of p.tree) (record { hart = c.hart; new = new; action = a }) b u → later ≡ after (get_or p.stands.items id start) b → (Fits c.finished c.call (get_or p.stands.items id start) later b → ⊥) → IsDeadWith version t p id new
no_fit version base t p id new c a b u later at is next place made then_is not lo x rest low own same can =
    let come : Coming version t p id c x rest = coming version base t p id lo c x rest at is low own can in
    let ap_is : Applied version t p id c x rest a b u = applied version t p id new c x rest a b u next place made same come in
    let acts : act_of x ≡ record { step = a; answer = b } = act_is x.step.action a x.answer b ap_is.action ap_is.answer in
    let w : IsWritten c.call (acts_of id p.list.items ++ record { step = a; answer = b } ∷ acts_of id rest) c.finished = subst (λ (z : Act). IsWritten c.call (acts_of id p.list.items ++ z ∷ acts_of id rest) c.finished) acts come.written in
    not (written_fits c.finished c.call (acts_of id p.list.items) (record { step = a; answer = b }) (acts_of id rest) (get_or p.stands.items id start) later (at.calls id c is).stand then_is w)
