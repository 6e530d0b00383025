-- Functions changed at one place, and what is held.
use Rattle.atomic_programs.proofs.Vocabulary.{◌≡◌, ◌≢◌, ◌⊎◌, inl, inr, ℕ, Bool, true, false, Option, Some, None, refl, sym, ◌∙◌, ap, subst, if◌then◌else◌, nat_eq, eqb-true, eqb-false, eq-eqb, ne_eqb, put, if_held}

pub put_same : {A : Type 0} (f : ℕ → A) (k : ℕ) (x : A) → put f k x k ≡ x
unfolding put
put_same f k x = rw (eq-eqb k k refl)

pub put_other : {A : Type 0} (f : ℕ → A) (k : ℕ) (x : A) (n : ℕ) → n ≢ k → put f k x n ≡ f n
unfolding put
put_other f k x n ne = rw (ne_eqb n k ne)

pub same_or : (n k : ℕ) → (n ≡ k) ⊎ (n ≢ k)
same_or n k = at (nat_eq n k) refl
  where
    at : (t : Bool) → nat_eq n k ≡ t → (n ≡ k) ⊎ (n ≢ k)
    at true e = inl (eqb-true n k e)
    at false e = inr (eqb-false n k e)

-- by cases on the place
pub put_elim : {A : Type 0} (f : ℕ → A) (k : ℕ) (x : A) (n : ℕ) (P : A → Type 0) → (n ≡ k → P x) → (n ≢ k → P (f n)) → P (put f k x n)
put_elim f k x n P yes_ no_ = elim (same_or n k) [
  | inl e ↦ subst (λ z. P (put f k x z)) (sym e) (subst P (sym (put_same f k x)) (yes_ e))
  | inr ne ↦ subst P (sym (put_other f k x n ne)) (no_ ne)
]

pub put_put : {A : Type 0} (f : ℕ → A) (k : ℕ) (x y : A) → put (put f k x) k y ≡ put f k y
put_put {A} f k x y = λ i n. each n i
  where
    each : (n : ℕ) → put (put f k x) k y n ≡ put f k y n
    each n = put_elim f k y n (λ z. put (put f k x) k y n ≡ z) (λ e. ap (put (put f k x) k y) e ∙ put_same (put f k x) k y) (λ ne. put_other (put f k x) k y n ne ∙ put_other f k x n ne)

pub put_again : {A : Type 0} (f : ℕ → A) (k : ℕ) (x : A) → f k ≡ x → put f k x ≡ f
put_again {A} f k x is = λ i n. each n i
  where
    each : (n : ℕ) → put f k x n ≡ f n
    each n = put_elim f k x n (λ z. z ≡ f n) (λ e. sym is ∙ ap f (sym e)) (λ ne. refl)

-- a function is another one changed at k
pub is_put : {A : Type 0} (f g : ℕ → A) (k : ℕ) (x : A) → g k ≡ x → ((n : ℕ) → n ≢ k → g n ≡ f n) → g ≡ put f k x
is_put {A} f g k x here there = λ i n. each n i
  where
    each : (n : ℕ) → g n ≡ put f k x n
    each n = put_elim f k x n (λ z. g n ≡ z) (λ e. ap g e ∙ here) (λ ne. there n ne)

-- no other hart has it
pub Ours : ℕ → Option ℕ → Type 0
Ours h o = (g : ℕ) → g ≢ h → o ≢ Some g

pub ours_none : (h : ℕ) → Ours h None
unfolding Ours
ours_none h g ne e = cc

pub ours_some : (h : ℕ) → Ours h (Some h)
unfolding Ours
ours_some h g ne e = ne (let s : Some g ≡ Some h = sym e in cc)

pub not_held : {A : Type 0} (h g : ℕ) (o : Option ℕ) (x : A) → Ours h o → g ≢ h → if_held o g x ≡ None
unfolding Ours
not_held h g None x ours ne = refl
not_held {A} h g (Some k) x ours ne = rw (ne_eqb k g (λ e. ours g ne (ap (λ (z : ℕ). Some z) e)))

pub held_is : {A : Type 0} (h : ℕ) (o : Option ℕ) (x y : A) → if_held o h x ≡ Some y → (o ≡ Some h) × (x ≡ y)
held_is h None x y e = absurd cc
held_is {A} h (Some k) x y e = at (nat_eq k h) refl e
  where
    at : (t : Bool) → nat_eq k h ≡ t → (if t then Some x else None) ≡ Some y → (◌≡◌ {A = Option ℕ} (Some k) (Some h)) × (x ≡ y)
    at true t e = (ap (λ (z : ℕ). Some z) (eqb-true k h t), cc)
    at false t e = absurd cc

pub held_here : {A : Type 0} (h : ℕ) (x : A) → if_held (Some h) h x ≡ Some x
held_here h x = rw (eq-eqb h h refl)

-- what the hart doesn't have is not its own
pub none_is : {A : Type 0} (h : ℕ) (o : Option ℕ) (x : A) → if_held o h x ≡ None → o ≢ Some h
none_is h o x e is = let e2 : if_held (Some h) h x ≡ None = subst (λ z. if_held z h x ≡ None) is e in let e3 = held_here h x in absurd cc
