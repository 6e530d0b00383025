-- A step that leads on with its answer, and a list of them.
use Rattle.plain_tree.proofs.Vocabulary.{◌≡◌, Version, ℕ, suc, ◌+◌, ◌<◌, ◌≤◌, Bool, true, false, ◌↔◌, IsTrue, List, [], ◌∷◌, refl, sym, ◌∙◌, ap, subst, drop, length, get_or, add-one, drop-cons, drop_all, TreeStep, StepAnswer, Placed, Tree, Step, IsInPlace, IsApplied, Chain, Leads, LeadsOn}
use Rattle.plain_tree.proofs.StepLaws.{step_taken, applied_step, step_one}

-- the step was made and answered b: r says whether that is the answer a
pub made_leads : (v : Version) (r : Bool) (t : Tree) (s : TreeStep) (a b : StepAnswer) (t' : Tree) → IsInPlace t s.hart s.action → (IsTrue r ↔ (b ≡ a)) → IsApplied v t s b t' → LeadsOn v r t s a t'
made_leads v true t s a b t' p same x = subst (λ (c : StepAnswer). Step v t s c t') (same.0 refl) (applied_step v t s x.id b t' p x.least x.made)
made_leads v false t s a b t' p same x = λ u y.
    let one = step_one v t s b a t' u (applied_step v t s x.id b t' p x.least x.made) y in
    let f : false ≡ true = same.1 one.0 in
    cc

pub step_placed : (v : Version) (t : Tree) (s : TreeStep) (a : StepAnswer) (t' : Tree) → Step v t s a t' → IsInPlace t s.hart s.action
step_placed v t s a t' x = (step_taken v t s a t' x).place

-- rest leads from t exactly if list leads from u
pub record LeadsSame (v : Version) (t : Tree) (rest : List Placed) (u : Tree) (list : List Placed) : Type 0 where
  pub to : Leads v t rest → Leads v u list
  pub from : Leads v u list → Leads v t rest

pub leads_start : (v : Version) (t : Tree) (list : List Placed) → LeadsSame v t list t list
leads_start v t list = record { to = λ x. x; from = λ x. x }

no_more : (v : Version) (t u : Tree) → t ≡ u → Chain v t [] u
unfolding Chain
no_more v t u e = e

one_more : (v : Version) (t mid u : Tree) (e : Placed) (es : List Placed) → Step v t e.step e.answer mid → Chain v mid es u → Chain v t (e ∷ es) u
unfolding Chain
one_more v t mid u e es x y = (mid, x, y)

-- a list that leads from t: its first step, and the tree from which the rest leads
record Begins (v : Version) (t : Tree) (e : Placed) (es : List Placed) : Type 0 where
  mid : Tree
  step : Step v t e.step e.answer mid
  rest : Leads v mid es

begins : (v : Version) (t : Tree) (e : Placed) (es : List Placed) → Leads v t (e ∷ es) → Begins v t e es
unfolding Chain
begins v t e es x = record { mid = x.1.0; step = x.1.1; rest = (x.0, x.1.2) }

same_after : (v : Version) (t mid u : Tree) (e : Placed) (es list : List Placed) → Step v t e.step e.answer mid → LeadsSame v t (e ∷ es) u list → LeadsSame v mid es u list
same_after v t mid u e es list x s = record {
  to = λ y. s.to (y.0, one_more v t mid y.0 e es x y.1);
  from = λ y. (let z : Begins v t e es = begins v t e es (s.from y) in subst (λ (m : Tree). Leads v m es) (step_one v t e.step e.answer e.answer z.mid mid z.step x).1 z.rest);
}

front : (list : List Placed) (i : ℕ) (e : Placed) → i < length list → e ≡ get_or list i e → drop i list ≡ e ∷ drop (i + 1) list
front list i e lt is =
    let first : drop i list ≡ get_or list i e ∷ drop (suc i) list = drop-cons list i e lt in
    rw (add-one i) (first ∙ ap (λ (x : Placed). x ∷ drop (suc i) list) (sym is))

pub leads_more : (v : Version) (r : Bool) (t mid u : Tree) (list : List Placed) (i : ℕ) (e : Placed) → i < length list → e ≡ get_or list i e → r ≡ true → LeadsOn v r t e.step e.answer mid → LeadsSame v t (drop i list) u list → LeadsSame v mid (drop (i + 1) list) u list
leads_more v r t mid u list i e lt is led on s =
    same_after v t mid u e (drop (i + 1) list) list (subst (λ (b : Bool). LeadsOn v b t e.step e.answer mid) led on) (subst (λ (xs : List Placed). LeadsSame v t xs u list) (front list i e lt is) s)

pub leads_not : (v : Version) (r : Bool) (t mid u : Tree) (list : List Placed) (i : ℕ) (e : Placed) → i < length list → e ≡ get_or list i e → r ≡ false → LeadsOn v r t e.step e.answer mid → LeadsSame v t (drop i list) u list → Leads v u list → ⊥
leads_not v r t mid u list i e lt is off on s x =
    let z : Begins v t e (drop (i + 1) list) = begins v t e (drop (i + 1) list) (subst (λ (xs : List Placed). Leads v t xs) (front list i e lt is) (s.from x)) in
    let none : (w : Tree) → Step v t e.step e.answer w → ⊥ = subst (λ (b : Bool). LeadsOn v b t e.step e.answer mid) off on in
    none z.mid z.step

pub leads_end : (v : Version) (t u : Tree) (list : List Placed) (i : ℕ) → length list ≤ i → LeadsSame v t (drop i list) u list → Leads v u list
leads_end v t u list i le s = s.to (t, rw (drop_all i list le) (no_more v t t refl))
