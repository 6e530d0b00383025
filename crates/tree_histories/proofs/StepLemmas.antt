-- Steps that differ in the number of a new node alone.
use Rattle.tree_histories.proofs.Vocabulary.{Version, ◌≡◌, ◌≢◌, ℕ, ◌<◌, ◌≤◌, ◌==◌, true, false, ◌&&◌, nat_lt, List, inl, inr, refl, sym, ◌∙◌, ap, subst, arith, Option, Some, None, cases_Bool, nat_tests, Cause, Action, OpenStep as Open, Truncate, ReadStep as Read, WritePart, Find, Bump, Enter, Unbump, UnlinkStep as Unlink, MkdirStep as Mkdir, ChdirStep as Chdir, DupStep as Dup, CloseStep as Close, FstatStep as Fstat, InheritStep as Inherit, StepAnswer, Opened, Bytes, Status, NewFd, Done, Failed, NoRoom, Name, Tree, resolve, parent, settle, look, Step, MayChoose, IsInPlace, IsNewNode, answer_with, effect_with, refusal, path_of, creates, makes_node, is_absent, is_nothing, opened_new, opened_in, opened_at, IsApplied, hart_count, applied_step, step_one}

place_hart : (t : Tree) (h : ℕ) (s : Action) → IsInPlace t h s → h < 8
place_hart t h s p = elim (cases_Bool (nat_lt h hart_count)) [
  | inl y ↦ grind (arith, nat_tests)
  | inr y ↦ absurd (let x = rw y at p in cc)
]

in_same : (t : Tree) (h id flags d : ℕ) (e : Name) (there : Option ℕ) (m n : ℕ) → is_nothing there ≡ false → opened_in t h id flags d e there m ≡ opened_in t h id flags d e there n
in_same t h id flags d e None m n f = absurd cc
in_same t h id flags d e (Some k) m n f = refl

new_same : (t : Tree) (h id flags : ℕ) (par : Option (ℕ × Name)) (m n : ℕ) → is_absent t par ≡ false → opened_new t h id flags par m ≡ opened_new t h id flags par n
new_same t h id flags None m n f = refl
new_same t h id flags (Some q) m n f = in_same t h id flags q.0 q.1 (look t.nodes q.0 q.1) m n f

at_same : (t : Tree) (h id flags : ℕ) (res : Option ℕ) (m n : ℕ) → opened_at t h id flags res m ≡ opened_at t h id flags res n
at_same t h id flags None m n = refl
at_same t h id flags (Some k) m n = refl

open_same : (version : Version) (t : Tree) (h : ℕ) (path : List ℕ) (flags : ℕ) (res : Option ℕ) (par : Option (ℕ × Name)) (m n id : ℕ) → (creates flags && is_absent t par) ≡ false → effect_with version t h (Open path flags) res par m id ≡ effect_with version t h (Open path flags) res par n id
unfolding effect_with
open_same version t h path flags res par m n id f = elim (cases_Bool (creates flags)) [
  | inl y ↦ (let g = rw y at f in rw y (new_same t h id flags par m n g))
  | inr y ↦ rw y (at_same t h id flags res m n)
]

-- a step that makes no node takes any number
effect_same : (version : Version) (t : Tree) (h : ℕ) (s : Action) (res : Option ℕ) (par : Option (ℕ × Name)) (m n id : ℕ) → makes_node t s par ≡ false → effect_with version t h s res par m id ≡ effect_with version t h s res par n id
unfolding effect_with
effect_same version t h (Open path flags) res par m n id f = open_same version t h path flags res par m n id f
effect_same version t h (Mkdir path) res par m n id f = absurd cc
effect_same version t h (Truncate fd) res par m n id f = refl
effect_same version t h (Read fd k) res par m n id f = refl
effect_same version t h (WritePart fd b) res par m n id f = refl
effect_same version t h (Find old) res par m n id f = refl
effect_same version t h Bump res par m n id f = refl
effect_same version t h (Enter name) res par m n id f = refl
effect_same version t h Unbump res par m n id f = refl
effect_same version t h (Unlink path) res par m n id f = refl
effect_same version t h (Chdir path) res par m n id f = refl
effect_same version t h (Dup fd) res par m n id f = refl
effect_same version t h (Close fd) res par m n id f = refl
effect_same version t h (Fstat fd) res par m n id f = refl
effect_same version t h (Inherit child) res par m n id f = refl

-- a step that must make a node, if it isn't refused
abbrev NeedsOne : Version → Tree → ℕ → Action → Type 0
NeedsOne version t h s = (refusal version t h s ≡ None) × (makes_node t s (parent version t h (path_of s)) ≡ true)

choose_same : (version : Version) (t : Tree) (h : ℕ) (s : Action) (m n id : ℕ) → makes_node t s (parent version t h (path_of s)) ≡ false → MayChoose t h s (parent version t h (path_of s)) m id → MayChoose t h s (parent version t h (path_of s)) n id
choose_same version t h s m n id f c = record { node = λ y. absurd (let z : true ≡ false = sym y ∙ f in cc); file = c.file }

made_same : (version : Version) (t : Tree) (h : ℕ) (s : Action) (a : StepAnswer) (m n id : ℕ) (t' : Tree) → (NeedsOne version t h s → ⊥)
    → let res = resolve version t h (path_of s) in let par = parent version t h (path_of s) in
    (refusal version t h s ≡ None) × (a ≡ answer_with version t h s res par id) × MayChoose t h s par m id × (t' ≡ settle (effect_with version t h s res par m id)) × IsInPlace t h s
    → (refusal version t h s ≡ None) × (a ≡ answer_with version t h s res par id) × MayChoose t h s par n id × (t' ≡ settle (effect_with version t h s res par n id)) × IsInPlace t h s
made_same version t h s a m n id t' not x = elim (cases_Bool (makes_node t s (parent version t h (path_of s)))) [
  | inl y ↦ absurd (not (x.0, y))
  | inr y ↦ (x.0, x.1, choose_same version t h s m n id y x.2, x.3 ∙ ap settle (effect_same version t h s (resolve version t h (path_of s)) (parent version t h (path_of s)) m n id y), x.4)
]

-- a step that needs no number leads on with any
pub step_same : (version : Version) (t : Tree) (h : ℕ) (s : Action) (a : StepAnswer) (m n : ℕ) (t' : Tree) → (NeedsOne version t h s → ⊥) → Step version t (record { hart = h; new = m; action = s }) a t' → Step version t (record { hart = h; new = n; action = s }) a t'
step_same version t h s (Failed k) m n t' not x = x
step_same version t h s (Opened fd id f) m n t' not x = (x.0, made_same version t h s (Opened fd id f) m n x.0 t' not x.1)
step_same version t h s (Bytes b) m n t' not x = (x.0, made_same version t h s (Bytes b) m n x.0 t' not x.1)
step_same version t h s (Status b) m n t' not x = (x.0, made_same version t h s (Status b) m n x.0 t' not x.1)
step_same version t h s (NewFd fd) m n t' not x = (x.0, made_same version t h s (NewFd fd) m n x.0 t' not x.1)
step_same version t h s Done m n t' not x = (x.0, made_same version t h s Done m n x.0 t' not x.1)
step_same version t h s (NoRoom f) m n t' not x = (x.0, made_same version t h s (NoRoom f) m n x.0 t' not x.1)

zero_bad : (t : Tree) → IsNewNode t 0 → ⊥
zero_bad t x = let h : 1 ≤ 0 = x.from in omega arith

-- What was applied with a number, zero for none, is what a step of that action leads to.
pub applied_is : (version : Version) (t : Tree) (h new : ℕ) (s : Action) (b : StepAnswer) (u : Tree) (n : ℕ) (a : StepAnswer) (mid : Tree) → IsInPlace t h s → (new ≢ 0 → n ≡ new) → IsApplied version t (record { hart = h; new = new; action = s }) b u
    → Step version t (record { hart = h; new = n; action = s }) a mid → (a ≡ b) × (mid ≡ u)
applied_is version t h new s b u n a mid p same made x = elim (cases_Bool (new == 0)) [
  | inl y ↦ (
      let z : new ≡ 0 = grind (arith, nat_tests) in
      let not : NeedsOne version t h s → ⊥ = λ (w : NeedsOne version t h s). made.made.chosen (record { hart = place_hart t h s p; not_refused = w.0; makes = w.1; bad = λ v. zero_bad t (subst (λ (k : ℕ). IsNewNode t k) z v) }) in
      step_one version t (record { hart = h; new = new; action = s }) a b mid u (step_same version t h s a n new mid not x) (applied_step version t (record { hart = h; new = new; action = s }) made.id b u p made.least made.made)
      )
  | inr y ↦ (
      let z : new ≢ 0 = λ (e : new ≡ 0). (let w : (new == 0) ≡ true = grind (arith, nat_tests) in cc) in
      step_one version t (record { hart = h; new = new; action = s }) a b mid u (subst (λ (k : ℕ). Step version t (record { hart = h; new = k; action = s }) a mid) (same z) x) (applied_step version t (record { hart = h; new = new; action = s }) made.id b u p made.least made.made)
      )
]

refused_not : (version : Version) (t : Tree) (h : ℕ) (s : Action) (k : Cause) → refusal version t h s ≡ None → refusal version t h s ≡ Some k → ⊥
refused_not version t h s k x y = let z : None ≡ Some k = sym x ∙ y in cc

-- A step of an action that needs a number has a new one.
pub numbered : (version : Version) (t : Tree) (h n : ℕ) (s : Action) (a : StepAnswer) (mid : Tree) → refusal version t h s ≡ None → makes_node t s (parent version t h (path_of s)) ≡ true → Step version t (record { hart = h; new = n; action = s }) a mid → IsNewNode t n
numbered version t h n s (Failed k) mid r y x = absurd (refused_not version t h s k r x.1.0)
numbered version t h n s (Opened fd id f) mid r y x = x.1.2.node y
numbered version t h n s (Bytes b) mid r y x = x.1.2.node y
numbered version t h n s (Status b) mid r y x = x.1.2.node y
numbered version t h n s (NewFd fd) mid r y x = x.1.2.node y
numbered version t h n s Done mid r y x = x.1.2.node y
numbered version t h n s (NoRoom f) mid r y x = x.1.2.node y
