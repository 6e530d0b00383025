-- A step with its answer, compared with what is applied.
use Rattle.plain_tree.proofs.Vocabulary.{◌≡◌, Version, ℕ, ◌<◌, ◌≤◌, Bool, true, false, ◌&&◌, nat_lt, List, [], ◌∷◌, ◌⊎◌, inl, inr, refl, sym, ◌∙◌, ap, subst, arith, Option, Some, None, if◌then◌else◌, cases_Bool, nat_tests, Cause, Node, OpenFile, Action, Open, Fstat, TreeStep, StepAnswer, Opened, Bytes, Status, NewFd, Done, Failed, NoRoom, Placed, Name, Tree, resolve, parent, settle, look, and_then, Step, StepWith, MayChoose, IsInPlace, IsLeastUnused, IsNewNode, answer_with, effect_with, refusal, refused, path_of, place_of, opens_one, opens_file, stat_answer, file_at, has_room, lowest, opened, creates, with_file, opened_new, opened_in, opened_at, Outcome, applied, in_place, IsApplied, IsAppliedAt, IsBadChoice, Chain, hart_count}

-- one id is the least unused
pub least_one : (t : Tree) (i j : ℕ) → IsLeastUnused t i → IsLeastUnused t j → i ≡ j
least_one t i j x y = elim (cases_Bool (nat_lt i j)) [
  | inl lt ↦ absurd (y.least i (grind (arith, nat_tests)) x.unused)
  | inr ge ↦ elim (cases_Bool (nat_lt j i)) [
    | inl lt ↦ absurd (x.least j (grind (arith, nat_tests)) y.unused)
    | inr le ↦ grind (arith, nat_tests)
  ]
]

and_left : (a b : Bool) → (a && b) ≡ true → a ≡ true
and_left true b h = refl
and_left false b h = h

and_right : (a b : Bool) → (a && b) ≡ true → b ≡ true
and_right true b h = h
and_right false b h = absurd cc

pub applied_in : (v : Version) (t : Tree) (s : TreeStep) (id : ℕ) → IsInPlace t s.hart s.action → applied v t s id ≡ in_place v t s (refusal v t s.hart s.action) id
applied_in v t s id p = rw (and_left (nat_lt s.hart hart_count) (place_of t s.hart s.action) p, and_right (nat_lt s.hart hart_count) (place_of t s.hart s.action) p) refl

-- if all descriptors are taken, an open's id doesn't matter
full_file : (t : Tree) (h id n flags : ℕ) → has_room (t.fds h) ≡ false → with_file t h id n flags ≡ t
full_file t h id n flags r = rw r refl

full_at : (t : Tree) (h id id' flags : ℕ) (res : Option ℕ) (n : ℕ) → has_room (t.fds h) ≡ false → opened_at t h id flags res n ≡ opened_at t h id' flags res n
full_at t h id id' flags None n r = refl
full_at t h id id' flags (Some k) n r = full_file t h id k flags r ∙ sym (full_file t h id' k flags r)

full_in : (t : Tree) (h id id' flags d : ℕ) (e : Name) (there : Option ℕ) (n : ℕ) → has_room (t.fds h) ≡ false → opened_in t h id flags d e there n ≡ opened_in t h id' flags d e there n
full_in t h id id' flags d e None n r = rw r refl
full_in t h id id' flags d e (Some k) n r = full_file t h id k flags r ∙ sym (full_file t h id' k flags r)

full_new : (t : Tree) (h id id' flags : ℕ) (par : Option (ℕ × Name)) (n : ℕ) → has_room (t.fds h) ≡ false → opened_new t h id flags par n ≡ opened_new t h id' flags par n
full_new t h id id' flags None n r = refl
full_new t h id id' flags (Some q) n r = full_in t h id id' flags q.0 q.1 (look t.nodes q.0 q.1) n r

full_effect : (v : Version) (t : Tree) (h : ℕ) (path : List ℕ) (flags : ℕ) (res : Option ℕ) (par : Option (ℕ × Name)) (new id id' : ℕ) → has_room (t.fds h) ≡ false → effect_with v t h (Open path flags) res par new id ≡ effect_with v t h (Open path flags) res par new id'
unfolding effect_with
full_effect v t h path flags res par new id id' r = elim (cases_Bool (creates flags)) [
  | inl y ↦ rw y (full_new t h id id' flags par new r)
  | inr y ↦ rw y (full_at t h id id' flags res new r)
]

full_opened : (t : Tree) (h id id' : ℕ) (n : Option ℕ) → has_room (t.fds h) ≡ false → opened t h id n ≡ opened t h id' n
full_opened t h id id' n r = rw r refl

pub room_opened : (t : Tree) (h id : ℕ) (n : Option ℕ) → has_room (t.fds h) ≡ true → opened t h id n ≡ Opened (lowest (t.fds h)) id (opens_file t n)
room_opened t h id n r = rw r refl

pub record SameAt (v : Version) (t : Tree) (h : ℕ) (s : Action) (res : Option ℕ) (par : Option (ℕ × Name)) (new id id' : ℕ) : Type 0 where
  pub answer : answer_with v t h s res par id ≡ answer_with v t h s res par id'
  pub effect : effect_with v t h s res par new id ≡ effect_with v t h s res par new id'

by_id : (v : Version) (t : Tree) (h : ℕ) (s : Action) (res : Option ℕ) (par : Option (ℕ × Name)) (new id id' : ℕ) → id ≡ id' → SameAt v t h s res par new id id'
by_id v t h s res par new id id' e = record { answer = ap (λ i. answer_with v t h s res par i) e; effect = ap (λ i. effect_with v t h s res par new i) e }

open_same : (v : Version) (t : Tree) (h : ℕ) (path : List ℕ) (flags : ℕ) (res : Option ℕ) (par : Option (ℕ × Name)) (new id id' : ℕ) → (has_room (t.fds h) ≡ true → id ≡ id') → SameAt v t h (Open path flags) res par new id id'
unfolding answer_with
open_same v t h path flags res par new id id' same =
    let n : Option ℕ = if creates flags then and_then par (λ q. look t.nodes q.0 q.1) else res in
    elim (cases_Bool (has_room (t.fds h))) [
      | inl y ↦ by_id v t h (Open path flags) res par new id id' (same y)
      | inr y ↦ record { answer = full_opened t h id id' n y; effect = full_effect v t h path flags res par new id id' y }
    ]

-- the answer and the effect depend on the id only if a file is opened
pub same_at : (v : Version) (t : Tree) (h : ℕ) (s : Action) (res : Option ℕ) (par : Option (ℕ × Name)) (new id id' : ℕ) → (opens_one t h s ≡ true → id ≡ id') → SameAt v t h s res par new id id'
unfolding answer_with effect_with
same_at v t h (Open path flags) res par new id id' same = open_same v t h path flags res par new id id' same
same_at v t h s res par new id id' same = record { answer = refl; effect = refl }

-- The step in full, with the id that it took.
pub record Taken (v : Version) (t : Tree) (s : TreeStep) (a : StepAnswer) (id : ℕ) (t' : Tree) : Type 0 where
  pub is : applied v t s id ≡ record { answer = a; tree = t' }
  pub chosen : IsBadChoice v t s → ⊥
  pub place : IsInPlace t s.hart s.action
  pub file : refusal v t s.hart s.action ≡ None → opens_one t s.hart s.action ≡ true → IsLeastUnused t id

outcome : (a b : StepAnswer) (t u : Tree) → a ≡ b → t ≡ u → let x : Outcome = record { answer = a; tree = t } in x ≡ record { answer = b; tree = u }
outcome a b t u e f = cc

taken_refused : (v : Version) (t : Tree) (s : TreeStep) (k : Cause) (id : ℕ) (t' : Tree) → refusal v t s.hart s.action ≡ Some k → t' ≡ refused t s.hart s.action → IsInPlace t s.hart s.action → Taken v t s (Failed k) id t'
taken_refused v t s k id t' r e p = record {
  is = applied_in v t s id p ∙ (ap (λ x. in_place v t s x id) r ∙ outcome (Failed k) (Failed k) (refused t s.hart s.action) t' refl (sym e));
  chosen = λ b. absurd (let x : Some k ≡ None = sym r ∙ b.not_refused in cc);
  place = p;
  file = λ n. absurd (let x : Some k ≡ None = sym r ∙ n in cc);
}

taken_done : (v : Version) (t : Tree) (s : TreeStep) (a : StepAnswer) (id : ℕ) (t' : Tree) → refusal v t s.hart s.action ≡ None → a ≡ answer_with v t s.hart s.action (resolve v t s.hart (path_of s.action)) (parent v t s.hart (path_of s.action)) id → MayChoose t s.hart s.action (parent v t s.hart (path_of s.action)) s.new id → t' ≡ settle (effect_with v t s.hart s.action (resolve v t s.hart (path_of s.action)) (parent v t s.hart (path_of s.action)) s.new id) → IsInPlace t s.hart s.action → Taken v t s a id t'
taken_done v t s a id t' r e m f p = record {
  is = applied_in v t s id p ∙ (ap (λ x. in_place v t s x id) r ∙ outcome (answer_with v t s.hart s.action (resolve v t s.hart (path_of s.action)) (parent v t s.hart (path_of s.action)) id) a (settle (effect_with v t s.hart s.action (resolve v t s.hart (path_of s.action)) (parent v t s.hart (path_of s.action)) s.new id)) t' (sym e) (sym f));
  chosen = λ b. b.bad (m.node b.makes);
  place = p;
  file = λ n o. m.file o;
}

pub step_taken : (v : Version) (t : Tree) (s : TreeStep) (a : StepAnswer) (t' : Tree) (x : Step v t s a t') → Taken v t s a x.0 t'
step_taken v t s (Failed k) t' x = taken_refused v t s k x.0 t' x.1.0 x.1.1 x.1.2
step_taken v t s (Opened fd id f) t' x = taken_done v t s (Opened fd id f) x.0 t' x.1.0 x.1.1 x.1.2 x.1.3 x.1.4
step_taken v t s (Bytes b) t' x = taken_done v t s (Bytes b) x.0 t' x.1.0 x.1.1 x.1.2 x.1.3 x.1.4
step_taken v t s (Status b) t' x = taken_done v t s (Status b) x.0 t' x.1.0 x.1.1 x.1.2 x.1.3 x.1.4
step_taken v t s (NewFd fd) t' x = taken_done v t s (NewFd fd) x.0 t' x.1.0 x.1.1 x.1.2 x.1.3 x.1.4
step_taken v t s Done t' x = taken_done v t s Done x.0 t' x.1.0 x.1.1 x.1.2 x.1.3 x.1.4
step_taken v t s (NoRoom f) t' x = taken_done v t s (NoRoom f) x.0 t' x.1.0 x.1.1 x.1.2 x.1.3 x.1.4

answer_part : (v : Version) (t : Tree) (s : TreeStep) (id : ℕ) (a : StepAnswer) (t' : Tree) → applied v t s id ≡ record { answer = a; tree = t' } → (applied v t s id).answer ≡ a
answer_part v t s id a t' e = ap (λ (o : Outcome). o.answer) e

cases_refusal : (r : Option Cause) → (r ≡ None) ⊎ ((k : Cause) × (r ≡ Some k))
cases_refusal None = inl refl
cases_refusal (Some k) = inr (k, refl)

-- the two ids are one if the step opens a file
abbrev SameId : Version → Tree → TreeStep → ℕ → ℕ → Type 0
SameId v t s id id' = refusal v t s.hart s.action ≡ None → opens_one t s.hart s.action ≡ true → id ≡ id'

in_place_same : (v : Version) (t : Tree) (s : TreeStep) (r : Option Cause) (id id' : ℕ) → refusal v t s.hart s.action ≡ r → SameId v t s id id' → in_place v t s r id ≡ in_place v t s r id'
in_place_same v t s (Some k) id id' is same = refl
in_place_same v t s None id id' is same =
    let res : Option ℕ = resolve v t s.hart (path_of s.action) in
    let par : Option (ℕ × Name) = parent v t s.hart (path_of s.action) in
    let x : SameAt v t s.hart s.action res par s.new id id' = same_at v t s.hart s.action res par s.new id id' (same is) in
    outcome (answer_with v t s.hart s.action res par id) (answer_with v t s.hart s.action res par id') (settle (effect_with v t s.hart s.action res par s.new id)) (settle (effect_with v t s.hart s.action res par s.new id')) x.answer (ap settle x.effect)

applied_same : (v : Version) (t : Tree) (s : TreeStep) (id id' : ℕ) → IsInPlace t s.hart s.action → SameId v t s id id' → applied v t s id ≡ applied v t s id'
applied_same v t s id id' p same = applied_in v t s id p ∙ (in_place_same v t s (refusal v t s.hart s.action) id id' refl same ∙ sym (applied_in v t s id' p))

pub step_one : (v : Version) (t : Tree) (s : TreeStep) (a b : StepAnswer) (one two : Tree) → Step v t s a one → Step v t s b two → (a ≡ b) × (one ≡ two)
step_one v t s a b one two x y =
    let p : Taken v t s a x.0 one = step_taken v t s a one x in
    let q : Taken v t s b y.0 two = step_taken v t s b two y in
    let e = sym p.is ∙ (applied_same v t s x.0 y.0 p.place (λ n o. least_one t x.0 y.0 (p.file n o) (q.file n o)) ∙ q.is) in
    (ap (λ (o : Outcome). o.answer) e, ap (λ (o : Outcome). o.tree) e)

pub chain_one : (v : Version) (t : Tree) (list : List Placed) (one two : Tree) → Chain v t list one → Chain v t list two → one ≡ two
unfolding Chain
chain_one v t [] one two x y = sym x ∙ y
chain_one v t (e ∷ es) one two x y =
    let same = step_one v t e.step e.answer e.answer y.0 x.0 y.1 x.1 in
    chain_one v x.0 es one two x.2 (subst (λ (m : Tree). Chain v m es two) same.1 y.2)

-- The way back.

new_or_not : (t : Tree) (n : ℕ) → IsNewNode t n ⊎ (IsNewNode t n → ⊥)
new_or_not t n = elim (cases_Bool (nat_lt 0 n && nat_lt n t.ninodes)) [
  | inl y ↦ free (t.nodes n) refl (and_left (nat_lt 0 n) (nat_lt n t.ninodes) y) (and_right (nat_lt 0 n) (nat_lt n t.ninodes) y)
  | inr y ↦ inr (λ x. out x.from x.below y)
] where
  free : (r : Option Node) → t.nodes n ≡ r → nat_lt 0 n ≡ true → nat_lt n t.ninodes ≡ true → IsNewNode t n ⊎ (IsNewNode t n → ⊥)
  free None e a b = inl (record { from = grind (arith, nat_tests); below = grind (arith, nat_tests); unused = e })
  free (Some v) e a b = inr (λ x. absurd (let y : Some v ≡ None = sym e ∙ x.unused in cc))

  out : 1 ≤ n → n < t.ninodes → (nat_lt 0 n && nat_lt n t.ninodes) ≡ false → ⊥
  out a b y = grind (arith, nat_tests)

no_failed : (v : Version) (t : Tree) (h : ℕ) (s : Action) (res : Option ℕ) (par : Option (ℕ × Name)) (id : ℕ) (k : Cause) → answer_with v t h s res par id ≡ Failed k → ⊥
unfolding answer_with
no_failed v t h (Open path flags) res par id k e = not_opened t h id (if creates flags then and_then par (λ q. look t.nodes q.0 q.1) else res) k e where
  not_opened : (t : Tree) (h id : ℕ) (n : Option ℕ) (k : Cause) → opened t h id n ≡ Failed k → ⊥
  not_opened t h id n k e = elim (cases_Bool (has_room (t.fds h))) [
    | inl y ↦ (let x : Opened (lowest (t.fds h)) id (opens_file t n) ≡ Failed k = sym (room_opened t h id n y) ∙ e in cc)
    | inr y ↦ (let x = rw y at e in cc)
  ]
no_failed v t h (Fstat fd) res par id k e = not_stat t (file_at t h fd) k e where
  not_stat : (t : Tree) (f : Option OpenFile) (k : Cause) → stat_answer v t f ≡ Failed k → ⊥
  not_stat t None k e = cc
  not_stat t (Some f) k e = cc
no_failed v t h s res par id k e = cc

-- a step that was done, whatever it answered
done_step : (v : Version) (t : Tree) (s : TreeStep) (id : ℕ) (a : StepAnswer) (t' : Tree) → refusal v t s.hart s.action ≡ None → a ≡ answer_with v t s.hart s.action (resolve v t s.hart (path_of s.action)) (parent v t s.hart (path_of s.action)) id → MayChoose t s.hart s.action (parent v t s.hart (path_of s.action)) s.new id → t' ≡ settle (effect_with v t s.hart s.action (resolve v t s.hart (path_of s.action)) (parent v t s.hart (path_of s.action)) s.new id) → IsInPlace t s.hart s.action → Step v t s a t'
done_step v t s id (Failed k) t' r e m f p = absurd (no_failed v t s.hart s.action (resolve v t s.hart (path_of s.action)) (parent v t s.hart (path_of s.action)) id k (sym e))
done_step v t s id (Opened fd j g) t' r e m f p = (id, (r, e, m, f, p))
done_step v t s id (Bytes b) t' r e m f p = (id, (r, e, m, f, p))
done_step v t s id (Status b) t' r e m f p = (id, (r, e, m, f, p))
done_step v t s id (NewFd fd) t' r e m f p = (id, (r, e, m, f, p))
done_step v t s id Done t' r e m f p = (id, (r, e, m, f, p))
done_step v t s id (NoRoom g) t' r e m f p = (id, (r, e, m, f, p))

failed_step : (v : Version) (t : Tree) (s : TreeStep) (id : ℕ) (k : Cause) (a : StepAnswer) (t' : Tree) → refusal v t s.hart s.action ≡ Some k → Failed k ≡ a → refused t s.hart s.action ≡ t' → IsInPlace t s.hart s.action → Step v t s a t'
failed_step v t s id k a t' r e f p = subst (λ (b : StepAnswer). Step v t s b t') e (let w : StepWith v t s.hart s.action (resolve v t s.hart (path_of s.action)) (parent v t s.hart (path_of s.action)) (Failed k) s.new id t' = (r, sym f, p) in (id, w))

may_choose : (v : Version) (t : Tree) (s : TreeStep) (id : ℕ) → refusal v t s.hart s.action ≡ None → (IsBadChoice v t s → ⊥) → (opens_one t s.hart s.action ≡ true → IsLeastUnused t id) → IsInPlace t s.hart s.action → MayChoose t s.hart s.action (parent v t s.hart (path_of s.action)) s.new id
may_choose v t s id r good least p = record {
  node = λ makes. elim (new_or_not t s.new) [
    | inl y ↦ y
    | inr bad ↦ absurd (good (record { hart = in_hart (and_left (nat_lt s.hart hart_count) (place_of t s.hart s.action) p); not_refused = r; makes = makes; bad = bad }))
  ];
  file = least;
} where
  in_hart : nat_lt s.hart hart_count ≡ true → s.hart < hart_count
  in_hart y = grind (arith, nat_tests)

-- what is applied in its place, with the least unused id for a file that it opens, is a step
pub applied_step : (v : Version) (t : Tree) (s : TreeStep) (id : ℕ) (a : StepAnswer) (t' : Tree) → IsInPlace t s.hart s.action → (opens_one t s.hart s.action ≡ true → IsLeastUnused t id) → IsAppliedAt v t s id a t' → Step v t s a t'
applied_step v t s id a t' p least x = elim (cases_refusal (refusal v t s.hart s.action)) [
  | inl r ↦ (let e = sym (ap (λ z. in_place v t s z id) r) ∙ (sym (applied_in v t s id p) ∙ x.is) in
      done_step v t s id a t' r (sym (ap (λ (o : Outcome). o.answer) e)) (may_choose v t s id r x.chosen least p) (sym (ap (λ (o : Outcome). o.tree) e)) p)
  | inr y ↦ (let e = sym (ap (λ z. in_place v t s z id) y.1) ∙ (sym (applied_in v t s id p) ∙ x.is) in
      failed_step v t s id y.0 a t' y.1 (ap (λ (o : Outcome). o.answer) e) (ap (λ (o : Outcome). o.tree) e) p)
]

-- out of its place a step changes nothing
out_of_its_place : (v : Version) (t : Tree) (s : TreeStep) (id : ℕ) → (nat_lt s.hart hart_count && place_of t s.hart s.action) ≡ false → (applied v t s id).tree ≡ t
out_of_its_place v t s id out = elim (cases_Bool (nat_lt s.hart hart_count)) [
  | inl y ↦ (let p : place_of t s.hart s.action ≡ false = rw y at out in rw (y, p) refl)
  | inr y ↦ rw y refl
]

-- what is applied is a step, or was out of its place and changed nothing
pub step_or_nothing : (v : Version) (t : Tree) (s : TreeStep) (a : StepAnswer) (t' : Tree) → IsApplied v t s a t' → Step v t s a t' ⊎ ((IsInPlace t s.hart s.action → ⊥) × (t' ≡ t))
step_or_nothing v t s a t' x = elim (cases_Bool (nat_lt s.hart hart_count && place_of t s.hart s.action)) [
  | inl y ↦ inl (applied_step v t s x.id a t' y x.least x.made)
  | inr y ↦ inr ((λ p. absurd (let e : true ≡ false = sym p ∙ y in cc)), sym (ap (λ (o : Outcome). o.tree) x.made.is) ∙ out_of_its_place v t s x.id y)
]
