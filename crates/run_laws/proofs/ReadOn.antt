-- Notes of an operation's own program, read on by one step.
use Rattle.run_laws.proofs.Vocabulary.{◌≡◌, ◌⊎◌, inl, inr, true, Option, is_some, List, [], ◌∷◌, sym, ap, subst, Do, Machine, OpWithAnswer, PartOf as P, Handover, EndsWith, Notes, StepNote}
use Rattle.run_laws.specs.Faithful.{ActsWithin}

module _ (L : Machine) (one : (op : L.Op) (a b : L.Answer op) → ◌≡◌ {A = OpWithAnswer L} (op, a) (op, b) → a ≡ b) {A C : Type 0} (IsOf : A → L.Step → Type 0) (Open : Type 0) (Then : Handover A C → Notes L → Type 0)
    (op : L.Op) (m : L.Answer op → Option L.Mark) (k : L.Answer op → P L (Handover A C)) (b : L.Answer op) (ys : List L.Step) (rest : Notes L) where
  abbrev pub noted : StepNote (OpWithAnswer L) L.Step
  noted = record { ran = (op, b); made = ys }

  same : (c : L.Answer op) (zs : List L.Step) → noted ≡ record { ran = (op, c); made = zs } → c ≡ b
  same c zs e = sym (one op b c (ap (λ (z : StepNote (OpWithAnswer L) L.Step). z.ran) e))

  made_is : (c : L.Answer op) (zs : List L.Step) → noted ≡ record { ran = (op, c); made = zs } → ys ≡ zs
  made_is c zs e = ap (λ (z : StepNote (OpWithAnswer L) L.Step). z.made) e

  -- it doesn't act in the step, or does
  abbrev pub ReadFurther : Type 0
  ReadFurther =
      ((ys ≡ []) × ActsWithin L IsOf Open Then (k b) rest)
      ⊎ ((a : A) × (s : L.Step) × (ys ≡ s ∷ []) × IsOf a s × (is_some (m b) ≡ true) × EndsWith L IsOf Open Then a (k b) rest)

  pub within_on : ActsWithin L IsOf Open Then (Do op m k) (record { ran = (op, b); made = ys } ∷ rest) → ReadFurther
  within_on t = at t.0 t.1
    where
      at : (c : L.Answer op)
          → ((noted ≡ record { ran = (op, c); made = [] }) × ActsWithin L IsOf Open Then (k c) rest)
          ⊎ ((a : A) × (s : L.Step) × (noted ≡ record { ran = (op, c); made = s ∷ [] }) × IsOf a s × (is_some (m c) ≡ true) × EndsWith L IsOf Open Then a (k c) rest)
          → ReadFurther
      at c (inl s) = inl (made_is c [] s.0, subst (λ (x : L.Answer op). ActsWithin L IsOf Open Then (k x) rest) (same c [] s.0) s.1)
      at c (inr s) =
          inr (
            s.0,
            s.1,
            made_is c (s.1 ∷ []) s.2,
            s.3,
            subst (λ (x : L.Answer op). is_some (m x) ≡ true) (same c (s.1 ∷ []) s.2) s.4,
            subst (λ (x : L.Answer op). EndsWith L IsOf Open Then s.0 (k x) rest) (same c (s.1 ∷ []) s.2) s.5,
          )

  pub ends_on : (a : A) → EndsWith L IsOf Open Then a (Do op m k) (record { ran = (op, b); made = ys } ∷ rest) → (ys ≡ []) × EndsWith L IsOf Open Then a (k b) rest
  ends_on a t = (made_is t.0 [] t.1, subst (λ (x : L.Answer op). EndsWith L IsOf Open Then a (k x) rest) (same t.0 [] t.1) t.2)
