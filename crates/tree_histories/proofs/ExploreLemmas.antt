-- What a search finds, and what it rules out.
use Rattle.tree_histories.proofs.Vocabulary.{Version, ◌≡◌, ◌≢◌, ℕ, ◌<◌, ◌≤◌, Bool, true, false, List, [], ◌∷◌, ◌++◌, length, get_or, refl, sym, ◌∙◌, ap, subst, inl, inr, arith, Some, None, slice_get, take, take_all, get_or_past, slice_get_cases, Placed, Trace, TreeData, Tree, tree_of, Chain, Explains, IsWritten, acts_of, chain_one, Tried, Due, Placing, Position, start, IsDue, CallIsExplored, CanEnd, HasFound, IsExplored, IsPlaced, IsTried, IsAt, IsDead, IsDeadWith, IsEarliest, IsHopeless, IsKept, IsMade, IsOfCall, IsSteppedOn, IsUndone, NeedsNumber, last_event, left, steps_left}
use Rattle.tree_histories.specs.declared.explore.Tried.TheVariants as tried
use Rattle.tree_histories.specs.declared.position.Placing.TheVariants as placing
use Rattle.tree_histories.proofs.StandLemmas.{acts_none}
use Rattle.tree_histories.proofs.CallLemmas.{some_not, written_end}
use Rattle.tree_histories.proofs.EndLemmas.{First, first, not_nothing}
use Rattle.tree_histories.proofs.PositionLemmas.{Ended, ended}

-- ---- the same position

pub kept_then : (version : Version) (base : TreeData) (t : Trace) (p q r : Position) → IsKept version base t p q → IsKept version base t q r → IsKept version base t p r
kept_then version base t p q r a b = record { at = b.at; same = record { list = b.same.list ∙ a.same.list; tree = b.same.tree ∙ a.same.tree } }

pub dead_back : (version : Version) (base : TreeData) (t : Trace) (p q : Position) (id : ℕ) → IsKept version base t p q → IsDead version t q id → IsDead version t p id
dead_back version base t p q id k dead lo x rest low own can =
    dead lo x rest (omega (arith, ap last_event k.same.list)) own (subst (λ (z : Tree). CanEnd version t z q.list.items lo (x ∷ rest)) (sym k.same.tree) (subst (λ l. CanEnd version t (tree_of p.tree) l lo (x ∷ rest)) (sym k.same.list) can))

pub dead_with_back : (version : Version) (base : TreeData) (t : Trace) (p q : Position) (id new : ℕ) → IsKept version base t p q → IsDeadWith version t q id new → IsDeadWith version t p id new
dead_with_back version base t p q id new k dead lo x rest low own same can =
    dead lo x rest (omega (arith, ap last_event k.same.list)) own same (subst (λ (z : Tree). CanEnd version t z q.list.items lo (x ∷ rest)) (sym k.same.tree) (subst (λ l. CanEnd version t (tree_of p.tree) l lo (x ∷ rest)) (sym k.same.list) can))

pub numbers_on : (version : Version) (base : TreeData) (t : Trace) (p q : Position) (id : ℕ) → IsKept version base t p q → NeedsNumber version t p id → NeedsNumber version t q id
numbers_on version base t p q id k need lo x rest low own can =
    let n = need lo x rest (omega (arith, ap last_event k.same.list)) own (subst (λ (z : Tree). CanEnd version t z p.list.items lo (x ∷ rest)) k.same.tree (subst (λ l. CanEnd version t (tree_of q.tree) l lo (x ∷ rest)) k.same.list can)) in
    (n.0, omega (arith, n.1, ap (λ (z : Tree). z.ninodes) k.same.tree))

pub left_on : (version : Version) (base : TreeData) (t : Trace) (p q : Position) → IsKept version base t p q → steps_left t q ≡ steps_left t p
left_on version base t p q k = ap (λ l. left 0 t.calls l) k.same.list

-- the ends of a position follow from its list
ends_same : (version : Version) (base : TreeData) (t : Trace) (p q : Position) (id : ℕ) → IsAt version base t p → IsKept version base t p q → get_or q.ends id None ≡ get_or p.ends id None
ends_same version base t p q id at k = elim (slice_get_cases t.calls id).1 [
  | inl x ↦ (
      let a : IsOfCall x.0 (acts_of id p.list.items) (get_or p.stands.items id start) (get_or p.ends id None) = at.calls id x.0 x.2 in
      let b : IsOfCall x.0 (acts_of id p.list.items) (get_or q.stands.items id start) (get_or q.ends id None) = subst (λ l. IsOfCall x.0 (acts_of id l) (get_or q.stands.items id start) (get_or q.ends id None)) k.same.list (k.at.calls id x.0 x.2) in
      b.end ∙ sym a.end
      )
  | inr x ↦ (
      let le : length p.ends ≤ id = omega (arith, at.ends, x.0) in
      let le' : length q.ends ≤ id = omega (arith, k.at.ends, x.0) in
      get_or_past q.ends id None le' ∙ sym (get_or_past p.ends id None le)
      )
]

pub due_on : (version : Version) (base : TreeData) (t : Trace) (p q : Position) (d : Due) → IsAt version base t p → IsKept version base t p q → IsDue p.ends d → IsDue q.ends d
due_on version base t p q d at k due = record {
  end = ends_same version base t p q d.id at k ∙ due.end;
  least = λ id e h. due.least id e (sym (ends_same version base t p q id at k) ∙ h);
}

-- ---- one step

pub earliest : (p : Position) (d : Due) → IsDue p.ends d → IsEarliest p 0 d.limit
earliest p d due = record { unwished = refl; due = d; is = due; at = refl }

-- a step that was taken back, since nothing came of it
pub taken_back : (version : Version) (base : TreeData) (t : Trace) (p q r s : Position) (id new limit : ℕ) → IsAt version base t p → IsMade version base t p id new 0 limit q → IsEarliest p 0 limit → IsKept version base t q r → IsHopeless version t q → IsUndone version base t r s → IsKept version base t p s × IsDeadWith version t p id new
taken_back version base t p q r s id new limit at made earliest kept hopeless undone =
    let list : s.list.items ≡ p.list.items = undone.list p.list.items made.more.entry (kept.same.list ∙ made.more.list) in
    let chain : Chain version (tree_of base) p.list.items (tree_of s.tree) = subst (λ l. Chain version (tree_of base) l (tree_of s.tree)) list undone.at.chain in (
      record { at = undone.at; same = record { list = list; tree = chain_one version (tree_of base) p.list.items (tree_of s.tree) (tree_of p.tree) chain at.chain } },
      made.ruled_out earliest hopeless,
    )

-- what is dead with zero is dead with every number
pub dead_zero : (version : Version) (t : Trace) (p : Position) (id : ℕ) → IsDeadWith version t p id 0 → IsDead version t p id
dead_zero version t p id dead lo x rest low own can = dead lo x rest low own (λ ne. absurd (ne refl)) can

-- every number was tried
pub dead_numbers : (version : Version) (t : Trace) (p : Position) (id : ℕ) → NeedsNumber version t p id → ((n : ℕ) → 1 ≤ n → n < (tree_of p.tree).ninodes → IsDeadWith version t p id n) → IsDead version t p id
dead_numbers version t p id need all lo x rest low own can =
    let n = need lo x rest low own can in
    all x.step.new n.0 n.1 lo x rest low own (λ ne. refl) can

-- every call was tried
pub all_dead : (version : Version) (base : TreeData) (t : Trace) (p : Position) (d : Due) → IsAt version base t p → IsDue p.ends d → ((id : ℕ) → id < length t.calls → IsDead version t p id) → IsHopeless version t p
all_dead version base t p d at due dead lo [] low can =
    let e : Ended t p.ends d.id d.limit = ended version base t p d.id d.limit at due.end in
    let of : IsOfCall e.call (acts_of d.id p.list.items) (get_or p.stands.items d.id start) (Some d.limit) = subst (λ z. IsOfCall e.call (acts_of d.id p.list.items) (get_or p.stands.items d.id start) z) due.end (at.calls d.id e.call e.is) in
    not_nothing version t (tree_of p.tree) p.list.items lo d.id e.call (get_or p.stands.items d.id start) d.limit e.is of can
all_dead version base t p d at due dead lo (x ∷ rest) low can =
    let b : First version t (tree_of p.tree) p.list.items lo x rest = first version t (tree_of p.tree) p.list.items lo x rest can in
    elim (slice_get_cases t.calls x.call).1 [
      | inl y ↦ dead x.call y.1 lo x rest low refl can
      | inr y ↦ some_not (slice_get t.calls x.call) b.belongs.traced y.1 b.belongs.is
    ]

-- ---- the end

pub found_explains : (version : Version) (base : TreeData) (t : Trace) (p : Position) → HasFound version base t p → Explains version base t p.list.items
found_explains version base t p found = record {
  rises = found.at.rises;
  end = tree_of p.tree;
  chain = found.at.chain;
  written = λ id c is. (
      let of : IsOfCall c (acts_of id p.list.items) (get_or p.stands.items id start) (get_or p.ends id None) = found.at.calls id c is in
      written_end c (acts_of id p.list.items) (get_or p.stands.items id start) (subst (λ z. IsOfCall c (acts_of id p.list.items) (get_or p.stands.items id start) z) (found.through id) of)
      );
  belongs = found.at.belongs;
}

-- the steps of a whole list were placed
pub list_explains : (version : Version) (base : TreeData) (t : Trace) (p : Position) (list : List Placed) (n : ℕ) → HasFound version base t p → p.list.items ≡ take n list → length list ≤ n
    → Explains version base t list
list_explains version base t p list n found same le = subst (λ (es : List Placed). Explains version base t es) (same ∙ take_all n list le) (found_explains version base t p found)

none_last : last_event [] ≡ 0
unfolding last_event
none_last = refl

none_acts : (id : ℕ) (list : List Placed) → acts_of id list ≡ acts_of id [] ++ acts_of id list
none_acts id list = rw (acts_none id) refl

none_chain : (version : Version) (t u : Tree) → Chain version t [] u → t ≡ u
unfolding Chain
none_chain version t u h = h

-- Nothing was placed, and nothing can come: no list explains the trace.
pub none_explains : (version : Version) (base : TreeData) (t : Trace) (p : Position) → IsAt version base t p → p.list.items ≡ [] → IsHopeless version t p → (list : List Placed) → Explains version base t list → ⊥
none_explains version base t p at none hopeless list ex =
    let tree : tree_of base ≡ tree_of p.tree = none_chain version (tree_of base) (tree_of p.tree) (subst (λ l. Chain version (tree_of base) l (tree_of p.tree)) none at.chain) in
    let can : CanEnd version t (tree_of base) [] 0 list = record {
      rises = ex.rises;
      leads = (ex.end, ex.chain);
      written = λ id c is. subst (λ acts. IsWritten c.call acts c.finished) (none_acts id list) (ex.written id c is);
      belongs = ex.belongs;
    } in
    hopeless 0 list (omega (arith, ap last_event none, none_last)) (subst (λ (z : Tree). CanEnd version t z p.list.items 0 list) tree (subst (λ l. CanEnd version t (tree_of base) l 0 list) (sym none) can))

-- ---- what came of it, by its answer

pub call_not : (version : Version) (base : TreeData) (t : Trace) (p q : Position) (id : ℕ) (b : Bool) → b ≡ false → CallIsExplored version base t p id b q → IsKept version base t p q × IsDead version t p id
call_not version base t p q id b e h = subst (λ x. CallIsExplored version base t p id x q) e h

pub explored_not : (version : Version) (base : TreeData) (t : Trace) (p q : Position) (b : Bool) → b ≡ false → IsExplored version base t p b q → IsKept version base t p q × IsHopeless version t p
explored_not version base t p q b e h = subst (λ x. IsExplored version base t p x q) e h

pub explored : (version : Version) (base : TreeData) (t : Trace) (p q : Position) (b : Bool) → b ≡ true → IsExplored version base t p b q → HasFound version base t q
explored version base t p q b e h = subst (λ x. IsExplored version base t p x q) e h

pub tried_bad : (version : Version) (base : TreeData) (t : Trace) (p q : Position) (id new : ℕ) (r : Tried) → r ≡ tried.BadChoice → IsTried version base t p id new r q → IsKept version base t p q × NeedsNumber version t p id × (new ≢ 0 → IsDeadWith version t p id new)
tried_bad version base t p q id new r e h = subst (λ (x : Tried). IsTried version base t p id new x q) e h

pub tried_not : (version : Version) (base : TreeData) (t : Trace) (p q : Position) (id new : ℕ) (r : Tried) → (r ≡ tried.Found → ⊥) → new ≢ 0 → IsTried version base t p id new r q → IsKept version base t p q × IsDeadWith version t p id new
tried_not version base t p q id new tried.Found not some h = absurd (not refl)
tried_not version base t p q id new tried.Dead not some h = h
tried_not version base t p q id new tried.BadChoice not some h = (h.0, h.2 some)

pub placed_made : (version : Version) (base : TreeData) (t : Trace) (p q : Position) (id new limit : ℕ) (r : Placing) → r ≡ placing.Made → IsPlaced version base t p id new 0 limit r q → IsMade version base t p id new 0 limit q
placed_made version base t p q id new limit r e h = subst (λ (x : Placing). IsPlaced version base t p id new 0 limit x q) e h

pub placed_not : (version : Version) (base : TreeData) (t : Trace) (p q : Position) (id new limit : ℕ) (r : Placing) → r ≡ placing.Refused → IsPlaced version base t p id new 0 limit r q → IsEarliest p 0 limit → IsKept version base t p q × IsDeadWith version t p id new
placed_not version base t p q id new limit r e h earliest = (let k : IsKept version base t p q × (IsEarliest p 0 limit → IsDeadWith version t p id new) = subst (λ (x : Placing). IsPlaced version base t p id new 0 limit x q) e h in (k.0, k.1 earliest))

-- whatever came of it
pub placed_at_all : (version : Version) (base : TreeData) (t : Trace) (p q : Position) (id new wish limit : ℕ) (r : Placing) → IsPlaced version base t p id new wish limit r q → IsAt version base t q
placed_at_all version base t p q id new wish limit placing.Made h = h.at
placed_at_all version base t p q id new wish limit placing.Refused h = h.0.at
placed_at_all version base t p q id new wish limit placing.BadChoice h = h.0.at

pub placed_bad : (version : Version) (base : TreeData) (t : Trace) (p q : Position) (id new wish limit : ℕ) (r : Placing) → r ≡ placing.BadChoice → IsPlaced version base t p id new wish limit r q → IsKept version base t p q
placed_bad version base t p q id new wish limit r e h = (let k : IsKept version base t p q × NeedsNumber version t p id × (new ≢ 0 → IsDeadWith version t p id new) = subst (λ (x : Placing). IsPlaced version base t p id new wish limit x q) e h in k.0)

pub stepped_not : (version : Version) (base : TreeData) (t : Trace) (p q : Position) (b : Bool) → b ≡ false → IsSteppedOn version base t p b q → IsKept version base t p q
stepped_not version base t p q b e h = subst (λ x. IsSteppedOn version base t p x q) e h
