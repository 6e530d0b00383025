-- The rules of the logic.
use Rattle.atomic_programs.proofs.Vocabulary.{◌≡◌, ◌≤◌, ◌<◌, ◌+◌, ℕ, List, [], ◌∷◌, ◌++◌, refl, sym, subst, arith, inl, inr, Option, Ret, Do, bind, ExecResult, Waits, Ran, Stops, Machine, P, own, onto, placed_with, Grown, Good, Wp, Safe, Laws}
use Rattle.atomic_programs.proofs.Prog.{bind-assoc}

pub onto-append : {A : Type 0} (xs ys es : List A) → onto (xs ++ ys) es ≡ onto ys (onto xs es)
onto-append [] ys es = refl
onto-append (x ∷ xs) ys es = onto-append xs ys (x ∷ es)

pub no_rest : {A : Type 0} (xs ys : List A) → xs ++ ys ≡ [] → ys ≡ []
no_rest [] ys e = e
no_rest (x ∷ xs) ys e = cc

-- of what came in two parts, the second
pub Grown-rest : {A : Type 0} (B : List A → Type 0) (xs ys es : List A) → Grown B (xs ++ ys) es → Grown B ys (onto xs es)
Grown-rest B xs ys es (inl e) = inl (no_rest xs ys e)
Grown-rest B xs ys es (inr b) = inr (subst B (onto-append xs ys es) b)

pub Grown-weaker : {A : Type 0} (B C : List A → Type 0) (xs es : List A) → ((fs : List A) → B fs → C fs) → Grown B xs es → Grown C xs es
Grown-weaker B C xs es f (inl e) = inl e
Grown-weaker B C xs es f (inr b) = inr (f (onto xs es) b)

-- what was B before, and grew so, is B
pub Grown-all : {A : Type 0} (B : List A → Type 0) (xs es : List A) → B es → Grown B xs es → B (onto xs es)
Grown-all {A} B xs es b (inl e) = subst (λ (z : List A). B (onto z es)) (sym e) b
Grown-all B xs es b (inr c) = c

pub Good-weaker : (L : Machine) {A : Type 0} (h : ℕ) (ps : A → List (ℕ × L.Step)) (c n : ℕ) (B C : List L.Step → Type 0) (es : List L.Step) (v : L.World) (wait : Type 0) (r : ExecResult A L.World) (M N : ℕ → A → L.World → Type 0)
    → ((fs : List L.Step) → B fs → C fs) → ((l : ℕ) (a : A) (w : L.World) → M l a w → N l a w) → Good L A h ps c n B es v wait r M → Good L A h ps c n C es v wait r N
Good-weaker L h ps c n B C es v wait Waits M N b f g = g
Good-weaker L h ps c n B C es v wait (Ran a w) M N b f g =
    record { inv = g.inv; kept = g.kept; goes = g.goes; clean = g.clean; begun = λ y. Grown-weaker B C (own h (ps a)) es b (g.begun y); left = g.left; falls = g.falls; next = f g.left a w g.next }
Good-weaker L h ps c n B C es v wait (Stops w) M N b f g = g

-- consequence
pub Wp-weaker : (L : Machine) {A : Type 0} (h : ℕ) (p : P L A) (B C : List L.Step → Type 0) (Q R : A → List L.Step → L.World → Type 0) (n : ℕ) (es : List L.Step) (w : L.World)
    → ((fs : List L.Step) → B fs → C fs) → ((a : A) (fs : List L.Step) (v : L.World) → Q a fs v → R a fs v) → Wp L h B Q p n es w → Wp L h C R p n es w
Wp-weaker L h (Ret a) B C Q R n es w b f g = f a es w g
Wp-weaker L h (Do op m k) B C Q R n es w b f g =
    λ v xs o i. (
      λ y. Grown-weaker B C xs es b ((g v xs o i).0 y),
      (g v xs o i).1,
      λ x t. Good-weaker L h (placed_with L h op m v) (L.more op) n B C (onto xs es) v (L.MayWait h op v) (L.go h x op m v) _ _ b (λ l a u. Wp-weaker L h (k a) B C Q R l _ u b f) ((g v xs o i).2 x t),
      (g v xs o i).3,
    )

-- it lasts while the others step
pub Wp-others : (L : Machine) (laws : Laws L) {A : Type 0} (h : ℕ) (p : P L A) (B : List L.Step → Type 0) (Q : A → List L.Step → L.World → Type 0) (n : ℕ) (es xs : List L.Step) (v w : L.World)
    → ((a : A) → Q a es v → Q a (onto xs es) w) → L.Others h v xs w → Wp L h B Q p n es v → Wp L h B Q p n (onto xs es) w
Wp-others L laws h (Ret a) B Q n es xs v w stays o g = stays a g
Wp-others L laws h (Do op m k) B Q n es xs v w stays o g =
    λ u ys o2 i.
    let both = g u (xs ++ ys) (laws.trans h v w u xs ys o o2) i in (
      λ y. Grown-rest B xs ys es (both.0 y),
      both.1,
      λ q t.
          subst (λ (zs : List L.Step). Good L (L.Answer op) h (placed_with L h op m u) (L.more op) n B zs u (L.MayWait h op u) (L.go h q op m u) (λ l a x. Wp L h B Q (k a) l (onto (own h (L.places h op a (m a) u)) zs) x))
          (onto-append xs ys es) (both.2 q t),
      both.3,
    )

-- more steps may be left
pub Wp-more : (L : Machine) {A : Type 0} (h : ℕ) (p : P L A) (B : List L.Step → Type 0) (Q : A → List L.Step → L.World → Type 0) (n m : ℕ) (es : List L.Step) (w : L.World)
    → n ≤ m → Wp L h B Q p n es w → Wp L h B Q p m es w
Wp-more L h (Ret a) B Q n m es w le g = g
Wp-more L h (Do op mk k) B Q n m es w le g = λ v xs o i. ((g v xs o i).0, (g v xs o i).1, λ x t. go v (onto xs es) (L.go h x op mk v) ((g v xs o i).2 x t), (let b : L.more op < n = (g v xs o i).3 in omega arith))
  where
    go : (v : L.World) (fs : List L.Step) (r : ExecResult (L.Answer op) L.World)
        → Good L (L.Answer op) h (placed_with L h op mk v) (L.more op) n B fs v (L.MayWait h op v) r (λ l a u. Wp L h B Q (k a) l (onto (own h (L.places h op a (mk a) v)) fs) u)
        → Good L (L.Answer op) h (placed_with L h op mk v) (L.more op) m B fs v (L.MayWait h op v) r (λ l a u. Wp L h B Q (k a) l (onto (own h (L.places h op a (mk a) v)) fs) u)
    go v fs Waits g = g
    go v fs (Ran a u) g = record { inv = g.inv; kept = g.kept; goes = g.goes; clean = g.clean; begun = g.begun; left = g.left; falls = (let b : g.left + L.more op < n = g.falls in omega arith); next = g.next }
    go v fs (Stops u) g = g

-- one program after the other: the steps add up
pub Wp-bind : (L : Machine) {A C : Type 0} (h : ℕ) (p : P L A) (f : A → P L C) (B : List L.Step → Type 0) (Q : C → List L.Step → L.World → Type 0) (n m : ℕ) (es : List L.Step) (w : L.World)
    → Wp L h B (λ a. Wp L h B Q (f a) m) p n es w → Wp L h B Q (bind p f) (n + m) es w
Wp-bind L h (Ret a) f B Q n m es w g = Wp-more L h (f a) B Q m (n + m) es w (omega arith) g
Wp-bind L h (Do op mk k) f B Q n m es w g =
    λ v xs o i. ((g v xs o i).0, (g v xs o i).1, λ x t. go v (onto xs es) (λ a l u. Wp-bind L h (k a) f B Q l m (onto (own h (L.places h op a (mk a) v)) (onto xs es)) u) (L.go h x op mk v) ((g v xs o i).2 x t), (let b : L.more op < n = (g v xs o i).3 in omega arith))
  where
    go : (v : L.World) (fs : List L.Step)
        → ((a : L.Answer op) (l : ℕ) (u : L.World) → Wp L h B (λ a. Wp L h B Q (f a) m) (k a) l (onto (own h (L.places h op a (mk a) v)) fs) u → Wp L h B Q (bind (k a) f) (l + m) (onto (own h (L.places h op a (mk a) v)) fs) u)
        → (r : ExecResult (L.Answer op) L.World)
        → Good L (L.Answer op) h (placed_with L h op mk v) (L.more op) n B fs v (L.MayWait h op v) r (λ l a u. Wp L h B (λ a. Wp L h B Q (f a) m) (k a) l (onto (own h (L.places h op a (mk a) v)) fs) u)
        → Good L (L.Answer op) h (placed_with L h op mk v) (L.more op) (n + m) B fs v (L.MayWait h op v) r (λ l a u. Wp L h B Q (bind (k a) f) l (onto (own h (L.places h op a (mk a) v)) fs) u)
    go v fs ih Waits g = g
    go v fs ih (Ran a u) g =
        record {
          inv = g.inv;
          kept = g.kept;
          goes = g.goes;
          clean = g.clean;
          begun = g.begun;
          left = g.left + m;
          falls = (let b : g.left + L.more op < n = g.falls in omega arith);
          next = ih a g.left u g.next;
        }
    go v fs ih (Stops u) g = g

-- The same rules of closed programs.
pub s-weaker : {L : Machine} {A : Type 0} {h : ℕ} {p : P L A} {B : List L.Step → Type 0} {Q R : A → List L.Step → L.World → Type 0} {n : ℕ} {es : List L.Step} {w : L.World}
    → ((a : A) (fs : List L.Step) (v : L.World) → Q a fs v → R a fs v) → Safe L h B Q p n es w → Safe L h B R p n es w
s-weaker {L} {A} {h} {p} {B} {Q} {R} {n} {es} {w} f s = record { wp = Wp-weaker L h p B B Q R n es w (λ fs b. b) f s.wp }

pub s-more : {L : Machine} {A : Type 0} {h : ℕ} {p : P L A} {B : List L.Step → Type 0} {Q : A → List L.Step → L.World → Type 0} {n m : ℕ} {es : List L.Step} {w : L.World}
    → n ≤ m → Safe L h B Q p n es w → Safe L h B Q p m es w
s-more {L} {A} {h} {p} {B} {Q} {n} {m} {es} {w} le s = record { wp = Wp-more L h p B Q n m es w le s.wp }

pub s-bind : {L : Machine} {A C : Type 0} {h : ℕ} (p : P L A) (f : A → P L C) {B : List L.Step → Type 0} {Q : C → List L.Step → L.World → Type 0} {n : ℕ} (m : ℕ) {es : List L.Step} {w : L.World}
    → Safe L h B (λ a fs u. Safe L h B Q (f a) m fs u) p n es w → Safe L h B Q (bind p f) (n + m) es w
s-bind {L} {A} {C} {h} p f {B} {Q} {n} m {es} {w} s =
    record { wp = Wp-bind L h p f B Q n m es w (Wp-weaker L h p B B (λ a fs u. Safe L h B Q (f a) m fs u) (λ a. Wp L h B Q (f a) m) n es w (λ fs b. b) (λ a fs u g. g.wp) s.wp) }

-- a program in a program in a program
pub s-assoc : {L : Machine} {A C D : Type 0} {h : ℕ} (p : P L A) (f : A → P L C) (g : C → P L D) {B : List L.Step → Type 0} {Q : D → List L.Step → L.World → Type 0} {n : ℕ} {es : List L.Step} {w : L.World}
    → Safe L h B Q (bind p (λ a. bind (f a) g)) n es w → Safe L h B Q (bind (bind p f) g) n es w
s-assoc {L} {A} {C} {D} {h} p f g {B} {Q} {n} {es} {w} s = subst (λ (x : P L D). Safe L h B Q x n es w) (sym (bind-assoc p f g)) s

-- An operation of a hart for which nobody places steps. It is enough to show that the operation may be made, and the
-- operation alone, in a world that the others may have changed, at any answer from outside.
pub s-op : {L : Machine} {A : Type 0} {h : ℕ} {op : L.Op} {m : L.Answer op → Option L.Mark} {k : L.Answer op → P L A} {B : List L.Step → Type 0} {Q : A → List L.Step → L.World → Type 0} {n : ℕ} {es : List L.Step} {w : L.World}
    → L.more op < n
    → ((v : L.World) (xs : List L.Step) → L.Others h w xs v → xs ≡ [])
    → ((v : L.World) → L.Others h w [] v → L.Inv v → L.May h op v)
    → ((v : L.World) (x : L.Outside) → L.Others h w [] v → L.Inv v → L.Honest h op v x
    → Good L (L.Answer op) h (placed_with L h op m v) (L.more op) n B es v (L.MayWait h op v) (L.go h x op m v) (λ l a u. Wp L h B Q (k a) l (onto (own h (L.places h op a (m a) v)) es) u))
    → Safe L h B Q (Do op m k) n es w
s-op {L} {A} {h} {op} {m} {k} {B} {Q} {n} {es} {w} few none may alone =
    record {
      wp = λ v xs o i.
          let empty : xs ≡ [] = none v xs o in (
            λ y. inl empty,
            may v (subst (λ (zs : List L.Step). L.Others h w zs v) empty o) i,
            λ x t.
                subst (λ (zs : List L.Step). Good L (L.Answer op) h (placed_with L h op m v) (L.more op) n B (onto zs es) v (L.MayWait h op v) (L.go h x op m v) (λ l a u. Wp L h B Q (k a) l (onto (own h (L.places h op a (m a) v)) (onto zs es)) u))
                (sym empty) (alone v x (subst (λ (zs : List L.Step). L.Others h w zs v) empty o) i t),
            few,
          );
    }
