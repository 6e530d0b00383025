-- Each operation of a program above acts once within its own program below, with the answer that this program ends with.
use Rattle.run_laws.proofs.Vocabulary.{◌≡◌, ◌≢◌, ◌⊎◌, inl, inr, ◌<◌, ◌+◌, ◌-◌, ℕ, suc, true, Option, Some, None, is_some, List, [], ◌∷◌, ◌++◌, refl, sym, ◌∙◌, ap, subst, arith, ne_eqb, Ret, Do, bind, ExecResult, Waits, Ran, Stops, Machine, OpWithAnswer, PartOf as P, own, onto, oldest_first, placed_with, Grown, Good, Wp, Laws, LowerLayer, Both, joined, LowerLaws, Handover, Handlers, lowered, Lasts, Below, Uses, Budget, Affords, AtomicWithin, Alone, own_one, Wp-weaker, Wp-more, Wp-bind, Wp-others, EndsWith, IsFaithful, IsUnderWay, Notes, StepNote, stepwise}
use Rattle.run_laws.specs.Faithful.{ActsWithin}

-- ---- a machine with its notes

pub stepwise_laws : (L : Machine) → Laws L → Laws (stepwise L)
stepwise_laws L laws =
    record {
      same = λ h w. (refl, laws.same h w);
      trans = λ h u v w xs ys a b. (rw (a.0, b.0) refl, laws.trans h u v w [] [] a.1 b.1);
      idle_none = λ h v w xs o i. o.0;
      idle_stays = λ h v w xs o i. laws.idle_stays h v w [] o.1 i;
      clean_before = λ h v w xs o y. laws.clean_before h v w [] o.1 y;
    }

abbrev note : {E S : Type 0} → E → List S → StepNote E S
note e xs = record { ran = e; made = xs }

own_none : {A : Type 0} (g h : ℕ) (e : A) → g ≢ h → own g ((h, e) ∷ []) ≡ []
own_none g h e ne = rw (ne_eqb h g (λ q. ne (sym q))) refl

-- a list of at least two isn't a list of one
two_left : {A : Type 0} (zs es : List A) (x y z : A) → onto zs (x ∷ y ∷ es) ≡ z ∷ [] → ⊥
two_left [] es x y z e = cc
two_left (w ∷ zs) es x y z e = two_left zs (y ∷ es) w x z e

head_is : {A : Type 0} (x y : A) (xs ys : List A) → x ∷ xs ≡ y ∷ ys → x ≡ y
head_is x y xs ys e = cc

tail_is : {A : Type 0} (x y : A) (xs ys : List A) → x ∷ xs ≡ y ∷ ys → xs ≡ ys
tail_is x y xs ys e = cc

-- ---- beginnings

module _ (L : Machine) {A C : Type 0} (IsOf : A → L.Step → Type 0) (Open : Type 0) (Then Shorter : Handover A C → Notes L → Type 0) (rest : Notes L) (then_ : (x : Handover A C) (es : Notes L) → Then x (es ++ rest) → Shorter x es) where
  ends_shorter : (a : A) (p : P L (Handover A C)) (es : Notes L) → EndsWith L IsOf Open Then a p (es ++ rest) → EndsWith L IsOf (Unit {0}) Shorter a p es
  ends_shorter a (Ret x) es t = (t.0, then_ x es t.1)
  ends_shorter a (Do op m k) [] t = tt
  ends_shorter a (Do op m k) (e ∷ es) t = (t.0, t.1, ends_shorter a (k t.0) es t.2)

  within_shorter : (p : P L (Handover A C)) (es : Notes L) → ActsWithin L IsOf Open Then p (es ++ rest) → ActsWithin L IsOf (Unit {0}) Shorter p es
  within_shorter (Ret x) es t = absurd t
  within_shorter (Do op m k) [] t = tt
  within_shorter (Do op m k) (e ∷ es) t = (t.0, at (λ s. within_shorter (k t.0) es s) t.1)
    where
      at : (ActsWithin L IsOf Open Then (k t.0) (es ++ rest) → ActsWithin L IsOf (Unit {0}) Shorter (k t.0) es)
          → ((e ≡ note (op, t.0) []) × ActsWithin L IsOf Open Then (k t.0) (es ++ rest)) ⊎ ((a : A) × (s : L.Step) × (e ≡ note (op, t.0) (s ∷ [])) × IsOf a s × (is_some (m t.0) ≡ true) × EndsWith L IsOf Open Then a (k t.0) (es ++ rest))
          → ((e ≡ note (op, t.0) []) × ActsWithin L IsOf (Unit {0}) Shorter (k t.0) es) ⊎ ((a : A) × (s : L.Step) × (e ≡ note (op, t.0) (s ∷ [])) × IsOf a s × (is_some (m t.0) ≡ true) × EndsWith L IsOf (Unit {0}) Shorter a (k t.0) es)
      at ih (inl s) = inl (s.0, ih s.1)
      at ih (inr s) = inr (s.0, s.1, s.2, s.3, s.4, ends_shorter s.0 (k t.0) es s.5)

-- notes that end before the first step are open
acts_open : (L : Machine) {A C : Type 0} (IsOf : A → L.Step → Type 0) (Open : Type 0) (Then : Handover A C → Notes L → Type 0) (p : P L (Handover A C)) → ActsWithin L IsOf Open Then p [] → Open
acts_open L IsOf Open Then (Ret x) t = absurd t
acts_open L IsOf Open Then (Do op m k) t = t

module _ (U : Machine) (R : LowerLayer U.World) (handler : Handlers U R) (IsOf : (op : U.Op) → (U.Answer op → Option U.Mark) → U.Answer op → U.Step → Type 0) where
  -- a program that is under way may be at its start
  pub none_noted : {A : Type 0} (c : R.Carry) (p : P U A) → IsFaithful U R handler IsOf None c p []
  none_noted c (Ret a) = tt
  none_noted c (Do op m k) = tt

  -- what begins such notes is notes of a program that is under way
  pub faithful_shorter : {A : Type 0} (r : Option A) (c : R.Carry) (p : P U A) (es rest : Notes (joined U R)) → IsFaithful U R handler IsOf r c p (es ++ rest) → IsFaithful U R handler IsOf None c p es
  faithful_shorter r c (Ret a) [] rest t = tt
  faithful_shorter r c (Ret a) (e ∷ es) rest t = absurd t
  faithful_shorter r c (Do op m k) [] rest t = tt
  faithful_shorter r c (Do op m k) (e ∷ es) rest t =
      within_shorter (joined U R) {C = R.Carry} (IsOf op m) (IsUnderWay r) (λ x more. IsFaithful U R handler IsOf r x.carry (k x.answer) more) (λ x more. IsFaithful U R handler IsOf None x.carry (k x.answer) more) rest
      (λ x fs s. faithful_shorter r x.carry (k x.answer) fs rest s) (handler c op m) (e ∷ es) t

-- ---- the program of one operation

-- Its steps are noted, and among them the one in which it acts. E: which ending is claimed; yet: none is.
module _ (L : Machine) (alone : Alone L) (clean : (w : L.World) → L.Clean w) (quiet : (h : ℕ) (op : L.Op) (b : L.Answer op) (w : L.World) → L.places h op b None w ≡ []) (h : ℕ) {A C E : Type 0} (IsOf : A → L.Step → Type 0) (Open : E → Type 0) (Then : E → Handover A C → Notes L → Type 0) (Whole : E → Notes L → Type 0)
    (yet : E) (opens : Open yet) (seam : (x : Handover A C) → Then yet x []) where
  -- nothing is placed yet
  abbrev ToAct : P L (Handover A C) → Notes L → Type 0
  ToAct q fs = (r : E) (rest : Notes L) → ActsWithin L IsOf (Open r) (Then r) q rest → Whole r (onto fs rest)

  -- s is placed
  abbrev HasActed : P L (Handover A C) → L.Step → Notes L → Type 0
  HasActed q s fs = (r : E) (a : A) (rest : Notes L) → IsOf a s → EndsWith L IsOf (Open r) (Then r) a q rest → Whole r (onto fs rest)

  abbrev Stage : P L (Handover A C) → List L.Step → Notes L → Type 0
  Stage q gs fs = ((gs ≡ []) × ToAct q fs) ⊎ ((s : L.Step) × (gs ≡ s ∷ []) × ((a : A) × IsOf a s) × HasActed q s fs)

  abbrev Seam : Handover A C → Notes L → Type 0
  Seam x fs = (r : E) (rest : Notes L) → Then r x rest → Whole r (onto fs rest)

  abbrev SoFar : Notes L → Type 0
  SoFar fs = Whole yet (oldest_first fs)

  abbrev pub OneStep : List L.Step → Type 0
  OneStep gs = (a : A) × (s : L.Step) × (gs ≡ s ∷ []) × IsOf a s

  module _ (G : Handover A C → List L.Step → L.World → Type 0) (ends : (x : Handover A C) (gs : List L.Step) (w : L.World) → G x gs w → (s : L.Step) × (gs ≡ s ∷ []) × IsOf x.answer s) where
    -- the program has ended, and its step is placed
    abbrev Q : Handover A C → Notes L → L.World → Type 0
    Q x fs u = Seam x fs × ((ys : List L.Step) × G x ys u)

    -- the step that is placed is of the answer that the program ended with
    same_answer : (x : Handover A C) (gs : List L.Step) (w : L.World) (s : L.Step) → gs ≡ s ∷ [] → G x gs w → IsOf x.answer s
    same_answer x gs w s is g = let d = ends x gs w g in subst (IsOf x.answer) (head_is d.0 s [] [] (sym d.1 ∙ is)) d.2

    not_none : (x : Handover A C) (gs : List L.Step) (w : L.World) → gs ≡ [] → G x gs w → ⊥
    not_none x gs w is g = let d = ends x gs w g in let e : [] ≡ d.0 ∷ [] = sym is ∙ d.1 in cc

    so_far : (q : P L (Handover A C)) (n : ℕ) (gs : List L.Step) (w : L.World) (fs : Notes L) → Stage q gs fs → Wp L h OneStep G q n gs w → SoFar fs
    so_far (Ret x) n gs w fs (inl s) g = absurd (not_none x gs w s.0 g)
    so_far (Ret x) n gs w fs (inr s) g = s.3 yet x.answer [] (same_answer x gs w s.0 s.1 g) (refl, seam x)
    so_far (Do op m k) n gs w fs (inl s) g = s.1 yet [] opens
    so_far (Do op m k) n gs w fs (inr s) g = s.3 yet s.2.0 [] s.2.1 opens

    -- one operation more, at which zs were placed
    stage_on : (op : L.Op) (m : L.Answer op → Option L.Mark) (k : L.Answer op → P L (Handover A C)) (b : L.Answer op) (zs gs : List L.Step) (fs : Notes L) → ((z : L.Step) (ys : List L.Step) → zs ≡ z ∷ ys → is_some (m b) ≡ true)
        → Stage (Do op m k) gs fs → Grown OneStep zs gs → Stage (k b) (onto zs gs) (note (op, b) zs ∷ fs)
    stage_on op m k b [] gs fs marked (inl s) grown = inl (s.0, λ r rest t. s.1 r (note (op, b) [] ∷ rest) (b, inl (refl, t)))
    stage_on op m k b [] gs fs marked (inr s) grown = inr (s.0, s.1, s.2, λ r a rest is t. s.3 r a (note (op, b) [] ∷ rest) is (b, refl, t))
    stage_on op m k b (z ∷ zs) gs fs marked s (inl grown) = absurd cc
    stage_on op m k b (z ∷ []) gs fs marked (inl s) (inr one) =
        inr (
          z,
          ap (λ (ys : List L.Step). z ∷ ys) s.0,
          (one.0, subst (IsOf one.0) (sym (head_is z one.1 gs [] one.2)) one.3),
          λ r a rest is t. s.1 r (note (op, b) (z ∷ []) ∷ rest) (b, inr (a, z, refl, is, marked z [] refl, t)),
        )
    stage_on op m k b (z ∷ []) gs fs marked (inr s) (inr one) = absurd (let q : s.0 ∷ [] ≡ [] = sym s.1 ∙ tail_is z one.1 gs [] one.2 in cc)
    stage_on op m k b (z ∷ y ∷ zs) gs fs marked s (inr one) = absurd (two_left zs gs y z one.1 one.2)

    -- what places a step is marked
    marks : (op : L.Op) (b : L.Answer op) (v : L.World) (o : Option L.Mark) (z : L.Step) (ys : List L.Step) → own h (L.places h op b o v) ≡ z ∷ ys → is_some o ≡ true
    marks op b v (Some t) z ys e = refl
    marks op b v None z ys e = absurd (let q : [] ≡ z ∷ ys = sym (ap (λ (ps : List (ℕ × L.Step)). own h ps) (quiet h op b v)) ∙ e in cc)

    inside : (q : P L (Handover A C)) (n : ℕ) (gs : List L.Step) (w : L.World) (fs : Notes L) → Stage q gs fs → Wp L h OneStep G q n gs w → Wp (stepwise L) h SoFar Q q n fs w
    inside (Ret x) n gs w fs (inl s) g = absurd (not_none x gs w s.0 g)
    inside (Ret x) n gs w fs (inr s) g = (λ r rest t. s.3 r x.answer rest (same_answer x gs w s.0 s.1 g) (refl, t), (gs, g))
    inside (Do op m k) n gs w fs s g =
        λ v xs o i. let q = g v [] o.1 i in (
          λ y. inl o.0,
          q.1,
          λ x t. subst (λ (zs : Notes L). Good (stepwise L) (L.Answer op) h (placed_with (stepwise L) h op m v) (L.more op) n SoFar (onto zs fs) v (L.MayWait h op v) (L.go h x op m v) (λ l b u. Wp (stepwise L) h SoFar Q (k b) l (onto (own h (placed_with (stepwise L) h op m v b)) (onto zs fs)) u)) (sym o.0)
              (made v (λ b l ys es u st gg. inside (k b) l ys u es st gg) (L.go h x op m v) (q.2 x t)),
          q.3,
        )
      where
        step : (b : L.Answer op) (v : L.World) → StepNote (OpWithAnswer L) L.Step
        step b v = note (op, b) (own h (placed_with L h op m v b))

        own_here : (b : L.Answer op) (v : L.World) → own h (placed_with (stepwise L) h op m v b) ≡ step b v ∷ []
        own_here b v = own_one h (step b v)

        made : (v : L.World)
            → ((b : L.Answer op) (l : ℕ) (ys : List L.Step) (es : Notes L) (u : L.World) → Stage (k b) ys es → Wp L h OneStep G (k b) l ys u → Wp (stepwise L) h SoFar Q (k b) l es u)
            → (d : ExecResult (L.Answer op) L.World)
            → Good L (L.Answer op) h (placed_with L h op m v) (L.more op) n OneStep gs v (L.MayWait h op v) d (λ l b u. Wp L h OneStep G (k b) l (onto (own h (placed_with L h op m v b)) gs) u)
            → Good (stepwise L) (L.Answer op) h (placed_with (stepwise L) h op m v) (L.more op) n SoFar fs v (L.MayWait h op v) d (λ l b u. Wp (stepwise L) h SoFar Q (k b) l (onto (own h (placed_with (stepwise L) h op m v b)) fs) u)
        made v ih Waits f = f
        made v ih (Ran b u) f =
            let zs : List L.Step = own h (placed_with L h op m v b) in
            let st = stage_on op m k b zs gs fs (λ z ys e. marks op b v (m b) z ys e) s (f.begun (clean u)) in
            record {
              inv = f.inv;
              kept = λ other ne. (own_none other h (step b v) ne, subst (λ (ys : List L.Step). L.Others other v ys u) (alone other v u (own other (placed_with L h op m v b)) (f.kept other ne)) (f.kept other ne));
              goes = λ y. (L.tree u, tt, refl);
              clean = f.clean;
              begun = λ y. inr (subst (λ (ys : Notes L). SoFar (onto ys fs)) (sym (own_here b v)) (so_far (k b) f.left (onto zs gs) u (step b v ∷ fs) st f.next));
              left = f.left;
              falls = f.falls;
              next = subst (λ (ys : Notes L). Wp (stepwise L) h SoFar Q (k b) f.left (onto ys fs) u) (sym (own_here b v)) (ih b f.left (onto zs gs) (step b v ∷ fs) u st f.next);
            }
        made v ih (Stops u) f = record { halted = f.halted; kept = λ other ne. (refl, f.kept other ne); tree = f.tree; clean = f.clean }

-- ---- a program above

-- Each operation places itself alone.
abbrev pub PlacesItself : (U : Machine) → ((op : U.Op) → (U.Answer op → Option U.Mark) → U.Answer op → U.Step → Type 0) → Type 0
PlacesItself U IsOf =
    (h : ℕ) (op : U.Op) (m : U.Answer op → Option U.Mark) (a : U.Answer op) (w : U.World) → (s : U.Step) × (U.places h op a (m a) w ≡ (h, s) ∷ []) × IsOf op m a s

-- At each seam between two of its operations the notes so far are those of all before.
module _ (U : Machine) (R : LowerLayer U.World) (handler : Handlers U R) (IsOf : (op : U.Op) → (U.Answer op → Option U.Mark) → U.Answer op → U.Step → Type 0) (alone : Alone U) (clean : (w : U.World) → U.Clean w) (itself : PlacesItself U IsOf)
    (above : Laws U) (below : LowerLaws U R) (h : ℕ) (b : Budget U) (Has : R.World → b.Spent → Type 0) {A : Type 0} (whole : P U A) (B : List U.Step → Type 0) (Q : A → List U.Step → U.World → Type 0) (lasts : Lasts U h B Q)
    (idle : (a : A) (es : List U.Step) (w : U.World) → Q a es w → U.Idle h w) where
  abbrev J : Machine
  J = joined U R

  abbrev Faithful : Option A → Notes J → Type 0
  Faithful r fs = IsFaithful U R handler IsOf r R.none whole fs

  abbrev pub NotedSoFar : Notes J → Type 0
  NotedSoFar fs = Faithful None (oldest_first fs)

  abbrev pub NotedWhole : A → Notes J → Both R.World U.World → Type 0
  NotedWhole a fs w = Faithful (Some a) (oldest_first fs) × J.Idle h w

  pub handles : (p : P U A) → Uses U (AtomicWithin U R handler b Has h) p → (spent : b.Spent) → Affords U b spent p → (c : R.Carry) (n : ℕ) (es : List U.Step) (fs : Notes J) (w : Both R.World U.World) → Has w.real spent
      → ((r : Option A) (rest : Notes J) → IsFaithful U R handler IsOf r c p rest → Faithful r (onto fs rest))
      → Wp U h B Q p n es w.seen → R.Base h w.real w.seen c → U.Inv w.seen → Wp (stepwise J) h NotedSoFar NotedWhole (lowered U R handler c p) n fs w
  handles (Ret a) used spent affords c n es fs w has way g base inv = (way (Some a) [] refl, (below.idle h w.real w.seen c inv (idle a es w.seen g) base, idle a es w.seen g))
  handles (Do op m k) used spent affords c n es fs w has way g base inv =
      Wp-more (stepwise J) h (bind (handler c op m) rest) NotedSoFar NotedWhole (suc (U.more op) + (n - suc (U.more op))) n fs w (omega (arith, enough))
      (Wp-bind (stepwise J) h (handler c op m) rest NotedSoFar NotedWhole (suc (U.more op)) (n - suc (U.more op)) fs w
      (Wp-weaker (stepwise J) h (handler c op m) NotedSoFar NotedSoFar (λ x ys u. Through x ys × ((zs : List U.Step) × After x zs u)) (λ x. Wp (stepwise J) h NotedSoFar NotedWhole (rest x) (n - suc (U.more op))) (suc (U.more op)) fs w (λ ys e. e)
      (λ x ys u e. let d = e.1.1 in handles (k x.answer) (used.1 x.answer) (b.after op spent) (affords.1 x.answer) x.carry (n - suc (U.more op)) d.0.0.1.0 ys u d.1 e.0 d.0.0.1.1 d.0.1 d.0.0.2)
      (inside J (λ j v u xs o. alone j v.seen u.seen xs o.1) (λ v. clean v.seen) (λ j lop a v. refl) h {C = R.Carry} {E = Option A} (IsOf op m) (λ r. IsUnderWay r) (λ r x ys. IsFaithful U R handler IsOf r x.carry (k x.answer) ys) (λ r ys. Faithful r ys) None tt (λ x. none_noted U R handler IsOf x.carry (k x.answer)) After (λ x zs u e. e.0.0.0)
      (handler c op m) (suc (U.more op)) [] w fs (inl (refl, λ r ys t. way r ys (starts r ys t)))
      (used.0 c spent One Then [] w
      (λ a gs xs v u o i e. (λ y. inl (alone h v u xs o), (still a gs xs (alone h v u xs o) e.0, (onto xs e.1.0, Wp-others U above h (k a) B Q (n - suc (U.more op)) e.1.0 xs v u (λ x d. (lasts x e.1.0 xs v u o i d).1) o e.1.1), i)))
      (λ v xs o i. (
        λ y. inl (alone h w.seen v xs o),
        (g v xs o i).1,
        λ x t. one v (onto xs es) (onto xs []) (ap (λ (zs : List U.Step). onto zs []) (alone h w.seen v xs o)) (U.go h x op m v) ((g v xs o i).2 x t),
        omega arith,
      ))
      base affords.0 has))))
    where
      -- this step alone, with that answer
      IsOne : U.Answer op → List U.Step → Type 0
      IsOne a gs = (s : U.Step) × (gs ≡ s ∷ []) × IsOf op m a s

      One : List U.Step → Type 0
      One gs = (a : U.Answer op) × (s : U.Step) × (gs ≡ s ∷ []) × IsOf op m a s

      Then : U.Answer op → List U.Step → U.World → Type 0
      Then a gs u = IsOne a gs × ((ys : List U.Step) × Wp U h B Q (k a) (n - suc (U.more op)) ys u) × U.Inv u

      After : Handover (U.Answer op) R.Carry → List U.Step → Both R.World U.World → Type 0
      After x zs u = Below U R h Then x zs u × Has u.real (b.after op spent)

      Through : Handover (U.Answer op) R.Carry → Notes J → Type 0
      Through x ys = (r : Option A) (more : Notes J) → IsFaithful U R handler IsOf r x.carry (k x.answer) more → Faithful r (onto ys more)

      rest : Handover (U.Answer op) R.Carry → P J A
      rest x = lowered U R handler x.carry (k x.answer)

      starts : (r : Option A) (ys : Notes J) → ActsWithin J {C = R.Carry} (IsOf op m) (IsUnderWay r) (λ x more. IsFaithful U R handler IsOf r x.carry (k x.answer) more) (handler c op m) ys → IsFaithful U R handler IsOf r c (Do op m k) ys
      starts r [] t = acts_open J {C = R.Carry} (IsOf op m) (IsUnderWay r) (λ x more. IsFaithful U R handler IsOf r x.carry (k x.answer) more) (handler c op m) t
      starts r (y ∷ ys) t = t

      enough : U.more op < n
      enough = (g w.seen [] (above.same h w.seen) inv).3

      still : (a : U.Answer op) (gs xs : List U.Step) → xs ≡ [] → IsOne a gs → IsOne a (onto xs gs)
      still a gs xs none e = (e.0, subst (λ (zs : List U.Step). onto zs gs ≡ e.0 ∷ []) (sym none) e.1, e.2)

      is_one : (v : U.World) (a : U.Answer op) (gs : List U.Step) → gs ≡ [] → IsOne a (onto (own h (U.places h op a (m a) v)) gs)
      is_one v a gs e =
          let x = itself h op m a v in (
            x.0,
            ap (λ (ps : List (ℕ × U.Step)). onto (own h ps) gs) x.1 ∙ ap (λ (zs : List U.Step). onto zs gs) (own_one {A = U.Step} h x.0) ∙ ap (λ (zs : List U.Step). x.0 ∷ zs) e,
            x.2,
          )

      one : (v : U.World) (ys gs : List U.Step) → gs ≡ [] → (d : ExecResult (U.Answer op) U.World)
          → Good U (U.Answer op) h (placed_with U h op m v) (U.more op) n B ys v (U.MayWait h op v) d (λ l a u. Wp U h B Q (k a) l (onto (own h (U.places h op a (m a) v)) ys) u)
          → Good U (U.Answer op) h (placed_with U h op m v) (U.more op) (suc (U.more op)) One gs v (U.MayWait h op v) d (λ l a u. Then a (onto (own h (U.places h op a (m a) v)) gs) u)
      one v ys gs e Waits q = q
      one v ys gs e (Ran a u) q =
          let x = is_one v a gs e in
          record {
            inv = q.inv;
            kept = q.kept;
            goes = q.goes;
            clean = q.clean;
            begun = λ y. inr (a, x.0, x.1, x.2);
            left = 0;
            falls = omega arith;
            next = (x, (onto (own h (U.places h op a (m a) v)) ys, Wp-more U h (k a) B Q q.left (n - suc (U.more op)) (onto (own h (U.places h op a (m a) v)) ys) u (let c : q.left + U.more op < n = q.falls in omega arith) q.next), q.inv);
          }
      one v ys gs e (Stops u) q = q
