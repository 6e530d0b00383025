-- The list of a run, with the newest first, and turned round.
use Rattle.atomic_programs.proofs.Vocabulary.{◌≡◌, ℕ, suc, ◌<◌, ◌≤◌, Option, Bool, true, false, List, [], ◌∷◌, refl, ◌∙◌, ap, subst, sym, arith, ◌⊎◌, inl, inr, eq-eqb, ne_eqb, nat_eq, if◌then◌else◌, ◌≢◌, own, onto, Goes, Theory, Run, PlacedStep, start_of, placed, In, steps_of, Chain, IsRising}

-- the sequential object came from base to t through these entries, the newest first
abbrev pub Chained : (L : Theory) → L.M.Tree → List (PlacedStep L) → L.M.Tree → Type 0
Chained L base [] t = t ≡ base
Chained L base (e ∷ es) t = (mid : L.M.Tree) × Chained L base es mid × L.M.Takes mid e.hart e.step t

-- with the newest first, the numbers never rise, and are below n
abbrev pub Falling : (L : Theory) → List (PlacedStep L) → ℕ → Type 0
Falling L [] n = Unit {0}
Falling L (e ∷ es) n = (e.number < n) × Falling L es (suc e.number)

pub chain_turned : (L : Theory) (base mid t : L.M.Tree) (es ys : List (PlacedStep L)) → Chained L base es mid → Chain L mid ys t → Chain L base (onto es ys) t
chain_turned L base mid t [] ys c d = subst (λ (u : L.M.Tree). Chain L u ys t) c d
chain_turned L base mid t (e ∷ es) ys c d = chain_turned L base c.0 t es (e ∷ ys) c.1 (mid, c.2, d)

pub rising_from : (L : Theory) (m n : ℕ) (ys : List (PlacedStep L)) → m ≤ n → IsRising L n ys → IsRising L m ys
rising_from L m n [] le r = tt
rising_from L m n (y ∷ ys) le r = (omega (arith, r.0), r.1)

pub rising_turned : (L : Theory) (n : ℕ) (es ys : List (PlacedStep L)) → Falling L es (suc n) → IsRising L n ys → IsRising L 0 (onto es ys)
rising_turned L n [] ys f r = rising_from L 0 n ys (omega arith) r
rising_turned L n (e ∷ es) ys f r = rising_turned L e.number es (e ∷ ys) f.1 (omega arith, rising_from L e.number n ys (omega (arith, f.0)) r)

pub steps_turned : (L : Theory) (c : ℕ) (es ys : List (PlacedStep L)) → steps_of L c (onto es ys) ≡ onto (steps_of L c es) (steps_of L c ys)
steps_turned L c [] ys = refl
steps_turned L c (e ∷ es) ys = steps_turned L c es (e ∷ ys) ∙ at (nat_eq e.call c)
  where
    at : (b : Bool) → onto (steps_of L c es) (if b then e.step ∷ steps_of L c ys else steps_of L c ys) ≡ onto (if b then e.step ∷ steps_of L c es else steps_of L c es) (steps_of L c ys)
    at true = refl
    at false = refl

pub in_turned : {A : Type 0} (x : A) (es ys : List A) → In x (onto es ys) → In x es ⊎ In x ys
in_turned x [] ys i = inr i
in_turned {A} x (e ∷ es) ys i = at (in_turned x es (e ∷ ys) i)
  where
    at : In x es ⊎ In x (e ∷ ys) → In x (e ∷ es) ⊎ In x ys
    at (inl j) = inl (inr j)
    at (inr (inl q)) = inl (inl q)
    at (inr (inr j)) = inr j

pub in_history : {A : Type 0} (x : A) (es : List A) → In x (onto es []) → In x es
in_history {A} x es i = at (in_turned x es [] i)
  where
    at : In x es ⊎ In x [] → In x es
    at (inl j) = j
    at (inr j) = absurd j

-- Entries that are placed.
pub In-own : {A : Type 0} (ps : List (ℕ × A)) (p : ℕ × A) → In p ps → own p.0 ps ≡ [] → ⊥
In-own [] p i e = i
In-own {A} (q ∷ ps) p (inl i) e = at (subst (λ (x : ℕ × A). own p.0 (x ∷ ps) ≡ []) (sym i) e)
  where
    at : own p.0 (p ∷ ps) ≡ [] → ⊥
    at e = let f : p.1 ∷ own p.0 ps ≡ [] = (rw (eq-eqb p.0 p.0 refl) at e) in cc
In-own {A} (q ∷ ps) p (inr i) e = at (In-own ps p i) (nat_eq q.0 p.0) refl e
  where
    at : (own p.0 ps ≡ [] → ⊥) → (b : Bool) → nat_eq q.0 p.0 ≡ b → (if b then q.1 ∷ own p.0 ps else own p.0 ps) ≡ [] → ⊥
    at ih true t e = cc
    at ih false t e = ih e

-- the steps of one call grow by its hart's steps
pub steps_of-placed : (L : Theory) (n c j : ℕ) (running : ℕ → Option (Run L)) (ps : List (ℕ × L.M.Step)) (list : List (PlacedStep L))
    → ((p : ℕ × L.M.Step) → In p ps → nat_eq (start_of L (running p.0)) c ≡ nat_eq p.0 j) → steps_of L c (placed L n running ps list) ≡ onto (own j ps) (steps_of L c list)
steps_of-placed L n c j running [] list same = refl
steps_of-placed L n c j running (p ∷ ps) list same =
    steps_of-placed L n c j running ps _ (λ q i. same q (inr i)) ∙ at (nat_eq p.0 j) (nat_eq (start_of L (running p.0)) c) (same p (inl refl))
  where
    at : (b d : Bool) → d ≡ b → onto (own j ps) (if d then p.1 ∷ steps_of L c list else steps_of L c list) ≡ onto (if b then p.1 ∷ own j ps else own j ps) (steps_of L c list)
    at true d e = rw e refl
    at false d e = rw e refl

pub steps_of-other : (L : Theory) (n c : ℕ) (running : ℕ → Option (Run L)) (ps : List (ℕ × L.M.Step)) (list : List (PlacedStep L))
    → ((p : ℕ × L.M.Step) → In p ps → start_of L (running p.0) ≢ c) → steps_of L c (placed L n running ps list) ≡ steps_of L c list
steps_of-other L n c running [] list ne = refl
steps_of-other L n c running (p ∷ ps) list ne =
    steps_of-other L n c running ps _ (λ q i. ne q (inr i)) ∙ rw (ne_eqb (start_of L (running p.0)) c (ne p (inl refl))) refl

pub steps_of-none : (L : Theory) (c : ℕ) (list : List (PlacedStep L)) → ((e : PlacedStep L) → In e list → e.call < c) → steps_of L c list ≡ []
steps_of-none L c [] below = refl
steps_of-none L c (e ∷ es) below =
    let b : e.call < c = below e (inl refl) in
    rw (ne_eqb e.call c (λ q. omega arith)) (steps_of-none L c es (λ x i. below x (inr i)))

-- a placed step was there, or is one of the new ones
pub record New (L : Theory) (n : ℕ) (running : ℕ → Option (Run L)) (ps : List (ℕ × L.M.Step)) (e : PlacedStep L) : Type 0 where
  pub now : e.number ≡ n
  pub of : ℕ × L.M.Step
  pub one : In of ps
  pub hart : e.hart ≡ of.0
  pub call : e.call ≡ start_of L (running of.0)

pub In-placed : (L : Theory) (n : ℕ) (running : ℕ → Option (Run L)) (ps : List (ℕ × L.M.Step)) (list : List (PlacedStep L)) (e : PlacedStep L) → In e (placed L n running ps list) → In e list ⊎ New L n running ps e
In-placed L n running [] list e i = inl i
In-placed L n running (p ∷ ps) list e i = at (In-placed L n running ps _ e i)
  where
    at : In e (record { number = n; hart = p.0; call = start_of L (running p.0); step = p.1 } ∷ list) ⊎ New L n running ps e → In e list ⊎ New L n running (p ∷ ps) e
    at (inl (inl q)) = inr (record { now = ap (λ (x : PlacedStep L). x.number) q; of = p; one = inl refl; hart = ap (λ (x : PlacedStep L). x.hart) q; call = ap (λ (x : PlacedStep L). x.call) q })
    at (inl (inr q)) = inl q
    at (inr q) = inr (record { now = q.now; of = q.of; one = inr q.one; hart = q.hart; call = q.call })

pub Falling-more : (L : Theory) (es : List (PlacedStep L)) (n : ℕ) → Falling L es n → Falling L es (suc n)
Falling-more L [] n r = tt
Falling-more L (e ∷ es) n r = (omega (arith, r.0), r.1)

pub Falling-placed : (L : Theory) (n : ℕ) (running : ℕ → Option (Run L)) (ps : List (ℕ × L.M.Step)) (es : List (PlacedStep L)) → Falling L es (suc n) → Falling L (placed L n running ps es) (suc n)
Falling-placed L n running [] es r = r
Falling-placed L n running (p ∷ ps) es r = Falling-placed L n running ps _ (omega arith, r)

pub Chained-placed : (L : Theory) (base : L.M.Tree) (n : ℕ) (running : ℕ → Option (Run L)) (ps : List (ℕ × L.M.Step)) (es : List (PlacedStep L)) (t u : L.M.Tree)
    → Chained L base es t → Goes L.M t ps u → Chained L base (placed L n running ps es) u
Chained-placed L base n running [] es t u ch g = subst (Chained L base es) (sym g) ch
Chained-placed L base n running (p ∷ ps) es t u ch g = Chained-placed L base n running ps _ g.0 u (t, ch, g.1) g.2

pub below_of : (L : Theory) (es : List (PlacedStep L)) (n : ℕ) → Falling L es n → (e : PlacedStep L) → In e es → e.number < n
below_of L [] n r e i = absurd i
below_of L (x ∷ es) n r e (inl q) =
    let a : e.number ≡ x.number = ap (λ (p : PlacedStep L). p.number) q in let b : x.number < n = r.0 in omega arith
below_of L (x ∷ es) n r e (inr i) =
    let a : e.number < suc x.number = below_of L es (suc x.number) r.1 e i in let b : x.number < n = r.0 in omega arith
