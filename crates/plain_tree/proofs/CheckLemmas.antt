-- The check of a list, entry after entry.
use Rattle.plain_tree.proofs.Vocabulary.{◌≡◌, ℕ, suc, ◌+◌, ◌<◌, ◌≤◌, Bool, true, false, List, [], ◌∷◌, length, drop, get_or, refl, sym, ◌∙◌, ap, subst, arith, add-one, drop-cons, IsTrue, ◌↔◌, drop_all, Trace, Placed, AllBelong, Belongs, Rises}

pub refuted : (P : Type 0) → (P → ⊥) → IsTrue false ↔ P
refuted P not_so = (λ f. absurd cc, λ p. absurd (not_so p))

pub held : (P : Type 0) → P → IsTrue true ↔ P
held P p = (λ _. p, λ _. refl)

pub through : (P Q R : Type 0) → P ↔ Q → Q ↔ R → P ↔ R
through P Q R f g = (λ p. g.0 (f.0 p), λ r. f.1 (g.1 r))

pub drop_at : (es : List Placed) (i : ℕ) (e : Placed) → i < length es → e ≡ get_or es i e → drop i es ≡ e ∷ drop (i + 1) es
drop_at es i e lt is = drop-cons es i e lt ∙ (ap (λ x. x ∷ drop (suc i) es) (sym is) ∙ ap (λ n. e ∷ drop n es) (sym (add-one i)))

-- Numbers that rise.

pub rises_more : (low : ℕ) (e : Placed) (es : List Placed) → Rises low (e ∷ es) → (low ≤ e.event) × Rises e.event es
unfolding Rises
rises_more low e es h = h

rises_cons : (low : ℕ) (e : Placed) (es : List Placed) → low ≤ e.event → Rises e.event es → Rises low (e ∷ es)
unfolding Rises
rises_cons low e es le h = (le, h)

rises_none : (low : ℕ) → Rises low []
unfolding Rises
rises_none low = tt

pub falls : (es : List Placed) (i low : ℕ) (e : Placed) → i < length es → e ≡ get_or es i e → e.event < low → Rises low (drop i es) ↔ Rises 0 es → IsTrue false ↔ Rises 0 es
falls es i low e lt is below inv = refuted (Rises 0 es) (λ r. let h : (low ≤ e.event) × Rises e.event (drop (i + 1) es) = rises_more low e (drop (i + 1) es) (subst (λ (x : List Placed). Rises low x) (drop_at es i e lt is) (inv.1 r)) in omega (arith, below, h.0))

pub rises_on : (es : List Placed) (i low : ℕ) (e : Placed) → i < length es → e ≡ get_or es i e → low ≤ e.event → Rises low (drop i es) ↔ Rises 0 es → Rises e.event (drop (i + 1) es) ↔ Rises 0 es
rises_on es i low e lt is le inv =
    let at : drop i es ≡ e ∷ drop (i + 1) es = drop_at es i e lt is in (
      λ r. inv.0 (subst (λ (x : List Placed). Rises low x) (sym at) (rises_cons low e (drop (i + 1) es) le r)),
      λ r. (rises_more low e (drop (i + 1) es) (subst (λ (x : List Placed). Rises low x) at (inv.1 r))).1,
    )

pub rises_end : (es : List Placed) (i low : ℕ) → length es ≤ i → Rises low (drop i es) ↔ Rises 0 es → IsTrue true ↔ Rises 0 es
rises_end es i low le inv = held (Rises 0 es) (inv.0 (subst (λ (x : List Placed). Rises low x) (sym (drop_all i es le)) (rises_none low)))

-- Entries that belong.

pub belong_more : (t : Trace) (e : Placed) (es : List Placed) → AllBelong t (e ∷ es) → Belongs t e × AllBelong t es
unfolding AllBelong
belong_more t e es h = h

belong_cons : (t : Trace) (e : Placed) (es : List Placed) → Belongs t e → AllBelong t es → AllBelong t (e ∷ es)
unfolding AllBelong
belong_cons t e es b h = (b, h)

belong_none : (t : Trace) → AllBelong t []
unfolding AllBelong
belong_none t = tt

pub stray : (t : Trace) (es : List Placed) (i : ℕ) (e : Placed) (b : Bool) → i < length es → e ≡ get_or es i e → b ≡ false → IsTrue b ↔ Belongs t e → AllBelong t (drop i es) ↔ AllBelong t es → IsTrue false ↔ AllBelong t es
stray t es i e b lt is n d inv = refuted (AllBelong t es) (λ r. let h : Belongs t e × AllBelong t (drop (i + 1) es) = belong_more t e (drop (i + 1) es) (subst (λ (x : List Placed). AllBelong t x) (drop_at es i e lt is) (inv.1 r)) in let y : IsTrue b = d.1 h.0 in cc)

pub belong_on : (t : Trace) (es : List Placed) (i : ℕ) (e : Placed) (b : Bool) → i < length es → e ≡ get_or es i e → b ≡ true → IsTrue b ↔ Belongs t e → AllBelong t (drop i es) ↔ AllBelong t es → AllBelong t (drop (i + 1) es) ↔ AllBelong t es
belong_on t es i e b lt is y d inv =
    let at : drop i es ≡ e ∷ drop (i + 1) es = drop_at es i e lt is in (
      λ r. inv.0 (subst (λ (x : List Placed). AllBelong t x) (sym at) (belong_cons t e (drop (i + 1) es) (d.0 y) r)),
      λ r. (belong_more t e (drop (i + 1) es) (subst (λ (x : List Placed). AllBelong t x) at (inv.1 r))).1,
    )

pub belong_end : (t : Trace) (es : List Placed) (i : ℕ) → length es ≤ i → AllBelong t (drop i es) ↔ AllBelong t es → IsTrue true ↔ AllBelong t es
belong_end t es i le inv = held (AllBelong t es) (inv.0 (subst (λ (x : List Placed). AllBelong t x) (sym (drop_all i es le)) (belong_none t)))
