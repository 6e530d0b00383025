-- In every run of lowered calls each operation acts within the run of its own program below.
use Rattle.atomic_programs.proofs.Vocabulary.{◌≡◌, ◌≢◌, ◌<◌, ◌+◌, ◌-◌, ℕ, suc, Option, Bool, true, false, List, [], ◌∷◌, ◌++◌, refl, sym, ◌∙◌, ap, subst, arith, ◌⊎◌, inl, inr, nat_eq, if◌then◌else◌, eq-eqb, ne_eqb, Ret, Do, bind, ExecResult, Waits, Ran, Stops, asks, Machine, P, OpWithAnswer, own, onto, oldest_first, Goes, placed_with, Grown, Good, Wp, Laws, Theory, Begins, Begun, Ends, Lawful, Event, AllHonest, run, fresh, is_some, IsExplained, LowerLayer, Both, joined, LowerLaws, Handover, Handlers, lowered, Lasts, Below, Atomic, Starts, began_to, lowered_calls, StartsBoth, CanBegin, AllAtomic, Core, IsCore, operations, operations_of, Note, Runs, Places, Notes, noted_steps, noted, After, Within, IsWhole, noted_calls}
use Rattle.atomic_programs.proofs.Basics.{Wp-weaker, Wp-more, Wp-bind, Wp-others, ends_last, explains, onto_rest, own_one, operations_laws, operations_lawful, operations_below, begun_both, lowered_lawful}

-- no hart's steps are placed by another one
abbrev pub Alone : Machine → Type 0
Alone L = (h : ℕ) (v w : L.World) (xs : List L.Step) → L.Others h v xs w → xs ≡ []

noted_laws : (L : Machine) → Laws L → Laws (noted L)
noted_laws L laws =
    record {
      same = λ h w. (refl, laws.same h w);
      trans = λ h u v w xs ys a b. (rw (a.0, b.0) refl, laws.trans h u v w [] [] a.1 b.1);
      idle_none = λ h v w xs o i. o.0;
      idle_stays = λ h v w xs o i. laws.idle_stays h v w [] o.1 i;
      clean_before = λ h v w xs o y. laws.clean_before h v w [] o.1 y;
    }

goes_noted : (L : Machine) (t : L.Tree) (ps : List (ℕ × L.Step)) (u : L.Tree) → Goes L t ps u → Goes (noted L) t (noted_steps ps) u
goes_noted L t [] u g = g
goes_noted L t (p ∷ ps) u g = (g.0, g.1, goes_noted L g.0 ps u g.2)

abbrev all_placed : {E S : Type 0} → List S → List (Note E S)
all_placed [] = []
all_placed (x ∷ xs) = Places x ∷ all_placed xs

own_noted : {E S : Type 0} (j : ℕ) (ps : List (ℕ × S)) → ◌≡◌ {A = List (Note E S)} (own j (noted_steps ps)) (all_placed (own j ps))
own_noted j [] = refl
own_noted {E} {S} j (p ∷ ps) = at (nat_eq p.0 j) (own_noted j ps)
  where
    at : (b : Bool) → ◌≡◌ {A = List (Note E S)} (own j (noted_steps ps)) (all_placed (own j ps))
        → ◌≡◌ {A = List (Note E S)} (if b then Places p.1 ∷ own j (noted_steps ps) else own j (noted_steps ps)) (all_placed (if b then p.1 ∷ own j ps else own j ps))
    at true e = ap (λ (zs : List (Note E S)). Places p.1 ∷ zs) e
    at false e = e

-- a list of at least two isn't a list of one
two_left : {A : Type 0} (zs es : List A) (x y z : A) → onto zs (x ∷ y ∷ es) ≡ z ∷ [] → ⊥
two_left [] es x y z e = cc
two_left (w ∷ zs) es x y z e = two_left zs (y ∷ es) w x z e

head_is : {A : Type 0} (x y : A) (xs ys : List A) → x ∷ xs ≡ y ∷ ys → x ≡ y
head_is x y xs ys e = cc

tail_is : {A : Type 0} (x y : A) (xs ys : List A) → x ∷ xs ≡ y ∷ ys → xs ≡ ys
tail_is x y xs ys e = cc

-- some operations that a program makes
some_after : (L : Machine) → ((op : L.Op) → L.Answer op) → {A : Type 0} (q : P L A) (Then : A → Notes L → Type 0) → ((a : A) → (rest : Notes L) × Then a rest) → (es : Notes L) × After L q es Then
some_after L some (Ret a) Then tail = tail a
some_after L some (Do op m k) Then tail = let x = some_after L some (k (some op)) Then tail in (Runs (op, some op) ∷ x.0, (some op, refl, x.1))

-- One program in which one step of the form `entry` is placed: its operations are noted, and that step within them. Tail is of
-- what comes after the step's answer and the program's end, Whole of all; the program's end tells that answer.
module _ (L : Machine) (alone : Alone L) (clean : (w : L.World) → L.Clean w) (some : (op : L.Op) → L.Answer op) (h : ℕ) {A X : Type 0} (told : A → X) (answer : X) (entry : X → L.Step) {Reply : Type 0} (Tail : X → A → Notes L → Reply → Type 0)
    (Whole : Notes L → Reply → Type 0) (reply : X → Reply) (tail : (b : X) (a : A) → (rest : Notes L) × Tail b a rest (reply b)) where
  -- nothing is placed yet
  abbrev ToAct : P L A → Notes L → Type 0
  ToAct q fs = (rest : Notes L) (r : Reply) → Within L entry q rest (λ b a es. Tail b a es r) → Whole (onto fs rest) r

  -- e is placed
  abbrev HasActed : P L A → L.Step → Notes L → Type 0
  HasActed q e fs = (b : X) (rest : Notes L) (r : Reply) → e ≡ entry b → After L q rest (λ a es. Tail b a es r) → Whole (onto fs rest) r

  abbrev Stage : P L A → List L.Step → Notes L → Type 0
  Stage q gs fs = ((gs ≡ []) × ToAct q fs) ⊎ ((e : L.Step) × (gs ≡ e ∷ []) × ((b : X) × (e ≡ entry b)) × HasActed q e fs)

  abbrev Seam : A → Notes L → Type 0
  Seam a fs = (rest : Notes L) (r : Reply) → Tail (told a) a rest r → Whole (onto fs rest) r

  abbrev pub BegunWhole : Notes L → Type 0
  BegunWhole fs = (rest : Notes L) × (r : Reply) × Whole (oldest_first fs ++ rest) r

  abbrev pub OneEntry : List L.Step → Type 0
  OneEntry gs = (b : X) × (gs ≡ entry b ∷ [])

  turned : (fs rest : Notes L) (r : Reply) → Whole (onto fs rest) r → Whole (oldest_first fs ++ rest) r
  turned fs rest r w = subst (λ (zs : Notes L). Whole zs r) (onto_rest fs [] rest) w

  begun_acted : (q : P L A) (e : L.Step) (fs : Notes L) (b : X) → e ≡ entry b → HasActed q e fs → BegunWhole fs
  begun_acted q e fs b is way =
      let x = some_after L some q (λ a es. Tail b a es (reply b)) (tail b) in
      (x.0, reply b, turned fs x.0 (reply b) (way b x.0 (reply b) is x.1))

  begun_to_act : (op : L.Op) (m : L.Answer op → Option L.Mark) (k : L.Answer op → P L A) (fs : Notes L) → ToAct (Do op m k) fs → BegunWhole fs
  begun_to_act op m k fs way =
      let x = some_after L some (k (some op)) (λ a es. Tail answer a es (reply answer)) (tail answer) in
      let rest : Notes L = Runs (op, some op) ∷ Places (entry answer) ∷ x.0 in
      (rest, reply answer, turned fs rest (reply answer) (way rest (reply answer) (some op, refl, inr (answer, refl, x.1))))

  module _ (C : A → List L.Step → L.World → Type 0) (ends : (a : A) (gs : List L.Step) (w : L.World) → C a gs w → gs ≡ entry (told a) ∷ []) where
    -- the program has ended, and its step is placed
    abbrev Q : A → Notes L → L.World → Type 0
    Q b es u = Seam b es × ((ys : List L.Step) × C b ys u)

    begun_stage : (q : P L A) (n : ℕ) (gs : List L.Step) (w : L.World) (fs : Notes L) → Stage q gs fs → Wp L h OneEntry C q n gs w → BegunWhole fs
    begun_stage q n gs w fs (inr s) g = begun_acted q s.0 fs s.2.0 s.2.1 s.3
    begun_stage (Ret b) n gs w fs (inl s) g = absurd (let e : [] ≡ entry (told b) ∷ [] = sym s.0 ∙ ends b gs w g in cc)
    begun_stage (Do op m k) n gs w fs (inl s) g = begun_to_act op m k fs s.1

    -- one operation more, at which zs were placed
    stage_on : (op : L.Op) (m : L.Answer op → Option L.Mark) (k : L.Answer op → P L A) (a : L.Answer op) (zs gs : List L.Step) (fs : Notes L)
        → Stage (Do op m k) gs fs → Grown OneEntry zs gs → Stage (k a) (onto zs gs) (onto (all_placed zs) (Runs (op, a) ∷ fs))
    stage_on op m k a [] gs fs (inl s) b = inl (s.0, λ rest r t. s.1 (Runs (op, a) ∷ rest) r (a, refl, inl t))
    stage_on op m k a [] gs fs (inr s) b = inr (s.0, s.1, s.2, λ c rest r is t. s.3 c (Runs (op, a) ∷ rest) r is (a, refl, t))
    stage_on op m k a (e ∷ zs) gs fs s (inl b) = absurd cc
    stage_on op m k a (e ∷ []) gs fs (inl s) (inr b) =
        inr (e, ap (λ (ys : List L.Step). e ∷ ys) s.0, (b.0, head_is e (entry b.0) gs [] b.1), λ c rest r is t. s.1 (Runs (op, a) ∷ Places e ∷ rest) r (a, refl, inr (c, ap (λ (x : L.Step). places x) is, t)))
      where
        places : L.Step → Note (OpWithAnswer L) L.Step
        places x = Places x
    stage_on op m k a (e ∷ []) gs fs (inr s) (inr b) = absurd (let q : s.0 ∷ [] ≡ [] = sym s.1 ∙ tail_is e (entry b.0) gs [] b.1 in cc)
    stage_on op m k a (e ∷ f ∷ zs) gs fs s (inr b) = absurd (two_left zs gs f e (entry b.0) b.1)

    inside : (q : P L A) (n : ℕ) (gs : List L.Step) (w : L.World) (fs : Notes L) → Stage q gs fs → Wp L h OneEntry C q n gs w
        → Wp (noted L) h BegunWhole Q q n fs w
    inside (Ret b) n gs w fs (inl s) g = absurd (let e : [] ≡ entry (told b) ∷ [] = sym s.0 ∙ ends b gs w g in cc)
    inside (Ret b) n gs w fs (inr s) g = (λ rest r t. s.3 (told b) rest r (head_is s.0 (entry (told b)) [] [] (sym s.1 ∙ ends b gs w g)) t, (gs, g))
    inside (Do op m k) n gs w fs s g =
        λ v xs o i. let q = g v [] o.1 i in (
          λ y. inl o.0,
          q.1,
          λ x t. subst (λ (zs : Notes L). Good (noted L) (L.Answer op) h (placed_with (noted L) h op m v) (L.more op) n BegunWhole (onto zs fs) v (L.MayWait h op v) (L.go h x op m v) (λ l a u. Wp (noted L) h BegunWhole Q (k a) l (onto (own h (placed_with (noted L) h op m v a)) (onto zs fs)) u)) (sym o.0)
              (made v (λ a l ys es u st gg. inside (k a) l ys u es st gg) (L.go h x op m v) (q.2 x t)),
          q.3,
        )
      where
        own_here : (a : L.Answer op) (v : L.World) → own h (placed_with (noted L) h op m v a) ≡ Runs (op, a) ∷ all_placed (own h (placed_with L h op m v a))
        own_here a v = rw (eq-eqb h h refl) (ap (λ (zs : Notes L). Runs (op, a) ∷ zs) (own_noted h (placed_with L h op m v a)))

        own_there : (a : L.Answer op) (v : L.World) (other : ℕ) → other ≢ h → own other (placed_with L h op m v a) ≡ [] → own other (placed_with (noted L) h op m v a) ≡ []
        own_there a v other ne e = rw (ne_eqb h other (λ q. ne (sym q))) (own_noted other (placed_with L h op m v a) ∙ ap (λ (zs : List L.Step). placed_all zs) e)
          where
            placed_all : List L.Step → Notes L
            placed_all zs = all_placed zs

        made : (v : L.World)
            → ((a : L.Answer op) (l : ℕ) (ys : List L.Step) (es : Notes L) (u : L.World) → Stage (k a) ys es → Wp L h OneEntry C (k a) l ys u → Wp (noted L) h BegunWhole Q (k a) l es u)
            → (d : ExecResult (L.Answer op) L.World)
            → Good L (L.Answer op) h (placed_with L h op m v) (L.more op) n OneEntry gs v (L.MayWait h op v) d (λ l a u. Wp L h OneEntry C (k a) l (onto (own h (placed_with L h op m v a)) gs) u)
            → Good (noted L) (L.Answer op) h (placed_with (noted L) h op m v) (L.more op) n BegunWhole fs v (L.MayWait h op v) d (λ l a u. Wp (noted L) h BegunWhole Q (k a) l (onto (own h (placed_with (noted L) h op m v a)) fs) u)
        made v ih Waits f = f
        made v ih (Ran a u) f =
            let zs : List L.Step = own h (placed_with L h op m v a) in
            let st = stage_on op m k a zs gs fs s (f.begun (clean u)) in
            record {
              inv = f.inv;
              kept = λ other ne. (own_there a v other ne (alone other v u (own other (placed_with L h op m v a)) (f.kept other ne)), subst (λ (ys : List L.Step). L.Others other v ys u) (alone other v u (own other (placed_with L h op m v a)) (f.kept other ne)) (f.kept other ne));
              goes = λ y. (L.tree v, refl, goes_noted L (L.tree v) (placed_with L h op m v a) (L.tree u) (f.goes y));
              clean = f.clean;
              begun = λ y. inr (subst (λ (ys : Notes L). BegunWhole (onto ys fs)) (sym (own_here a v)) (begun_stage (k a) f.left (onto zs gs) u (onto (all_placed zs) (Runs (op, a) ∷ fs)) st f.next));
              left = f.left;
              falls = f.falls;
              next = subst (λ (ys : Notes L). Wp (noted L) h BegunWhole Q (k a) f.left (onto ys fs) u) (sym (own_here a v)) (ih a f.left (onto zs gs) (onto (all_placed zs) (Runs (op, a) ∷ fs)) u st f.next);
            }
        made v ih (Stops u) f = record { halted = f.halted; kept = λ other ne. (refl, f.kept other ne); tree = f.tree; clean = f.clean }

-- The lowered program: at each seam between two operations above the notes so far are whole runs of handlers.
module _ (U : Machine) (K : Core U) (R : LowerLayer U.World) (handler : Handlers U R) (some : (op : U.Op) → U.Answer op) (some_below : (op : R.Op) → R.Answer op) (steps : (c : R.Carry) (op : U.Op) (m : U.Answer op → Option U.Mark) → is_some (asks (handler c op m)) ≡ true) where
  abbrev J : Machine
  J = joined (operations U K) R

  some_within : {A B : Type 0} (entry : B → OpWithAnswer U) (q : P J A) (b : B) (Then : B → A → Notes J → Type 0) → is_some (asks q) ≡ true → ((a : A) → (rest : Notes J) × Then b a rest) → (es : Notes J) × Within J entry q es Then
  some_within entry (Ret a) b Then e tail = absurd cc
  some_within entry (Do op m k) b Then e tail =
      let x = some_after J some_below (k (some_below op)) (Then b) tail in
      (Runs (op, some_below op) ∷ Places (entry b) ∷ x.0, (some_below op, refl, inr (b, refl, x.1)))

  -- what a program results in by some answers, whatever is in hand
  abbrev some_reply : {A : Type 0} → P U A → A
  some_reply (Ret a) = a
  some_reply (Do op m k) = some_reply (k (some op))

  some_whole : {A : Type 0} (c : R.Carry) (p : P U A) → (rest : Notes J) × IsWhole U K R handler c p rest (some_reply p)
  some_whole c (Ret a) = ([], refl)
  some_whole c (Do op m k) =
      some_within (λ b. (op, b)) (handler c op m) (some op) (λ b x es. IsWhole U K R handler x.carry (k b) es (some_reply (k (some op)))) (steps c op m) (λ x. some_whole x.carry (k (some op)))

  module _ (above : Laws U) (below : LowerLaws U R) (h : ℕ) (atomic : (op : U.Op) (m : U.Answer op → Option U.Mark) → Atomic (operations U K) R handler h op m) {A : Type 0} (whole : P U A)
      (B : List (OpWithAnswer U) → Type 0) (Q : A → List (OpWithAnswer U) → U.World → Type 0) (lasts : Lasts (operations U K) h B Q) (idle : (a : A) (es : List (OpWithAnswer U)) (w : U.World) → Q a es w → U.Idle h w) where
    abbrev pub Noted_so_far : Notes J → Type 0
    Noted_so_far fs = (rest : Notes J) × (r : A) × IsWhole U K R handler R.none whole (oldest_first fs ++ rest) r

    abbrev pub Noted_whole : A → Notes J → Both R.World U.World → Type 0
    Noted_whole r fs w = IsWhole U K R handler R.none whole (oldest_first fs) r × J.Idle h w

    pub handles : (p : P U A) (c : R.Carry) (n : ℕ) (es : List (OpWithAnswer U)) (fs : Notes J) (w : Both R.World U.World) → ((rest : Notes J) (r : A) → IsWhole U K R handler c p rest r → IsWhole U K R handler R.none whole (onto fs rest) r)
        → Wp (operations U K) h B Q p n es w.seen → R.Base h w.real w.seen c → U.Inv w.seen → Wp (noted J) h Noted_so_far Noted_whole (lowered (operations U K) R handler c p) n fs w
    handles (Ret a) c n es fs w way g b inv = (way [] a refl, (below.idle h w.real w.seen c inv (idle a es w.seen g) b, idle a es w.seen g))
    handles (Do op m k) c n es fs w way g b inv =
        Wp-more (noted J) h (bind (handler c op m) rest) Noted_so_far Noted_whole (suc (U.more op) + (n - suc (U.more op))) n fs w (omega (arith, enough))
        (Wp-bind (noted J) h (handler c op m) rest Noted_so_far Noted_whole (suc (U.more op)) (n - suc (U.more op)) fs w
        (Wp-weaker (noted J) h (handler c op m) Noted_so_far Noted_so_far (λ x ys u. Sm x ys × ((zs : List (OpWithAnswer U)) × Below (operations U K) R h C x zs u)) (λ x. Wp (noted J) h Noted_so_far Noted_whole (rest x) (n - suc (U.more op))) (suc (U.more op)) fs w (λ ys e. e)
        (λ x ys u e. let d = e.1.1 in handles (k x.answer) x.carry (n - suc (U.more op)) d.0.1.0 ys u e.0 d.0.1.1 d.1 d.0.2)
        (inside J (λ j v u xs o. o.1.0) (λ v. tt) some_below h (λ x. x.answer) (some op) (λ a. (op, a)) (λ a x ys r. IsWhole U K R handler x.carry (k a) ys r) (λ ys r. IsWhole U K R handler R.none whole ys r) (λ a. some_reply (k a)) (λ a x. some_whole x.carry (k a)) (Below (operations U K) R h C) (λ x zs u e. e.0.0) (handler c op m) (suc (U.more op)) [] w fs (inl (refl, way))
        (atomic op m c One C [] w
        (λ a gs xs v u o i e. (
          λ y. inl o.0,
          (
            subst (λ (zs : List (OpWithAnswer U)). onto zs gs ≡ (op, a) ∷ []) (sym o.0) e.0,
            (onto xs e.1.0, Wp-others (operations U K) (operations_laws U K above) h (k a) B Q (n - suc (U.more op)) e.1.0 xs v u (λ x d. (lasts x e.1.0 xs v u o i d).1) o e.1.1),
            i,
          ),
        ))
        (λ v xs o i. (λ y. inl o.0, (g v xs o i).1, λ x t. one v (onto xs es) (onto xs []) (ap (λ (zs : List (OpWithAnswer U)). onto zs []) o.0) (U.go h x op m v) ((g v xs o i).2 x t), omega arith)) b))))
      where
        One : List (OpWithAnswer U) → Type 0
        One gs = (a : U.Answer op) × (gs ≡ (op, a) ∷ [])

        C : U.Answer op → List (OpWithAnswer U) → U.World → Type 0
        C a gs u = (gs ≡ (op, a) ∷ []) × ((ys : List (OpWithAnswer U)) × Wp (operations U K) h B Q (k a) (n - suc (U.more op)) ys u) × U.Inv u

        rest : Handover (U.Answer op) R.Carry → P J A
        rest x = lowered (operations U K) R handler x.carry (k x.answer)

        Sm : Handover (U.Answer op) R.Carry → Notes J → Type 0
        Sm x ys = (rest : Notes J) (r : A) → IsWhole U K R handler x.carry (k x.answer) rest r → IsWhole U K R handler R.none whole (onto ys rest) r

        enough : U.more op < n
        enough = (g w.seen [] (refl, ([], above.same h w.seen)) inv).3

        own_is : (a : U.Answer op) (gs : List (OpWithAnswer U)) → gs ≡ [] → ◌≡◌ {A = List (OpWithAnswer U)} (onto (own h ((h, (op, a)) ∷ [])) gs) ((op, a) ∷ [])
        own_is a gs e = ap (λ (zs : List (OpWithAnswer U)). onto zs gs) (own_one {A = OpWithAnswer U} h (op, a)) ∙ ap (λ (zs : List (OpWithAnswer U)). begins zs) e
          where
            begins : List (OpWithAnswer U) → List (OpWithAnswer U)
            begins zs = (op, a) ∷ zs

        one : (v : U.World) (ys gs : List (OpWithAnswer U)) → gs ≡ [] → (d : ExecResult (U.Answer op) U.World)
            → Good (operations U K) (U.Answer op) h (placed_with (operations U K) h op m v) (U.more op) n B ys v (U.MayWait h op v) d (λ l a u. Wp (operations U K) h B Q (k a) l (onto (own h ((h, (op, a)) ∷ [])) ys) u)
            → Good (operations U K) (U.Answer op) h (placed_with (operations U K) h op m v) (U.more op) (suc (U.more op)) One gs v (U.MayWait h op v) d (λ l a u. C a (onto (own h ((h, (op, a)) ∷ [])) gs) u)
        one v ys gs e Waits q = q
        one v ys gs e (Ran a u) q =
            record {
              inv = q.inv;
              kept = q.kept;
              goes = q.goes;
              clean = q.clean;
              begun = λ y. inr (a, own_is a gs e);
              left = 0;
              falls = omega arith;
              next = (own_is a gs e, (onto (own h ((h, (op, a)) ∷ [])) ys, Wp-more (operations U K) h (k a) B Q q.left (n - suc (U.more op)) (onto (own h ((h, (op, a)) ∷ [])) ys) u (let c : q.left + U.more op < n = q.falls in omega arith) q.next), q.inv);
            }
        one v ys gs e (Stops u) q = q

module _ (T : Theory) (K : Core T.M) (R : LowerLayer T.M.World) (handler : Handlers T.M R) (begin : Starts T R) (lawful : Lawful T) (below : LowerLaws T.M R) (core : IsCore T K) (starts : StartsBoth T R begin)
    (atomic : AllAtomic (operations_of T K) R handler begin) (some_below : (op : R.Op) → R.Answer op) (steps : (c : R.Carry) (op : T.M.Op) (m : T.M.Answer op → Option T.M.Mark) → is_some (asks (handler c op m)) ≡ true) where
  abbrev N : Theory
  N = noted_calls T K R handler begin

  abbrev L : Theory
  L = lowered_calls (operations_of T K) R handler begin

  starts_above : StartsBoth (operations_of T K) R begin
  starts_above h call busy r s g holds inv idle free e =
      let b = starts h call busy r s g holds inv idle free e in
      record { above = b.above; begins = b.begins; shows = b.shows; halted = b.halted; kept = b.kept; rests = b.rests }

  lawful_above : Lawful (operations_of T K)
  lawful_above = operations_lawful T K lawful core

  lawful_below : Lawful L
  lawful_below = lowered_lawful (operations_of T K) R handler begin lawful_above (operations_below T.M K R below) starts_above atomic

  pub noted_lawful : Lawful N
  noted_lawful =
      record {
        laws = noted_laws L.M lawful_below.laws;
        calls = λ h call busy w u holds idle free e.
            let r = lawful_below.calls h call busy w u holds idle free e in
            let x = some_whole T.M K R handler core.some some_below steps R.none (T.program call) in
            record {
              inv = r.inv;
              halted = r.halted;
              kept = λ other ne c. (refl, r.kept other ne c);
              rests = r.rests;
              tree = r.tree;
              clean = r.clean;
              none = λ y. (x.0, some_reply T.M K R handler core.some some_below steps (T.program call), x.1);
              runs = λ i. runs h call busy w u holds idle free e i;
            };
      }
    where
      inv_of : (w : Both R.World T.M.World) → (R.Shows w.real w.seen × T.M.Inv w.seen) ⊎ (R.Halted w.real w.seen × T.M.Inv w.seen) → T.M.Inv w.seen
      inv_of w (inl p) = p.1
      inv_of w (inr p) = p.1

      shows_of : (w : Both R.World T.M.World) → (R.Shows w.real w.seen × T.M.Inv w.seen) ⊎ (R.Halted w.real w.seen × T.M.Inv w.seen) → R.Shows w.real w.seen ⊎ R.Halted w.real w.seen
      shows_of w (inl p) = inl p.0
      shows_of w (inr p) = inr p.0

      runs : (h : ℕ) (call : T.Call) (busy : ℕ → Bool) (w u : Both R.World T.M.World) → N.M.Inv w ⊎ N.M.Halted w → ((other : ℕ) → busy other ≡ false → N.M.Idle other w) → busy h ≡ false → N.start h call busy w ≡ Begins u → N.M.Inv u
          → Wp N.M h (Begun N call) (Ends N h call) (N.program call) (T.limit call) [] u
      runs h call busy w u holds idle free e i =
          let d = begun_both (began_to w.seen (T.start h call busy w.seen)) (begin h call busy w.real) u e in
          let can : CanBegin (operations_of T K) R begin h = (call, busy, w.real, u.real, d.0) in
          let b = starts h call busy w.real u.real w.seen (shows_of w holds) (inv_of w holds) idle free d.0 in
          let is : u.seen ≡ b.above = d.1 ∙ ap (began_to w.seen) b.begins in
          let r = lawful_above.calls h call busy w.seen b.above (inl (inv_of w holds)) (λ j n. (idle j n).1) free b.begins in
          Wp-weaker N.M h (N.program call) (Noted_so_far T.M K R handler core.some some_below steps lawful.laws below h (atomic h can) (T.program call) (Begun (operations_of T K) call) (Ends (operations_of T K) h call) lasts ends_idle) (Begun N call)
          (Noted_whole T.M K R handler core.some some_below steps lawful.laws below h (atomic h can) (T.program call) (Begun (operations_of T K) call) (Ends (operations_of T K) h call) lasts ends_idle) (Ends N h call) (T.limit call) [] u (λ ys c. c) (λ a ys v c. (λ y. c.0, c.1))
          (handles T.M K R handler core.some some_below steps lawful.laws below h (atomic h can) (T.program call) (Begun (operations_of T K) call) (Ends (operations_of T K) h call) lasts ends_idle (T.program call) R.none (T.limit call) [] [] u (λ rest a t. t)
          (subst (λ (g : T.M.World). Wp (operations T.M K) h (Begun (operations_of T K) call) (Ends (operations_of T K) h call) (T.program call) (T.limit call) [] g) (sym is) (r.runs (subst T.M.Inv is i.1))) (subst (λ (g : T.M.World). R.Base h u.real g R.none) (sym is) (b.rests h free)) i.1)
        where
          lasts : Lasts (operations T.M K) h (Begun (operations_of T K) call) (Ends (operations_of T K) h call)
          lasts a fs xs v y o j c = (λ z. inl (lawful_above.laws.idle_none h v y xs o c.1), ends_last (operations_of T K) lawful_above h call a fs xs v y o c)

          ends_idle : (a : T.Reply) (es : List (OpWithAnswer T.M)) (v : T.M.World) → Ends (operations_of T K) h call a es v → T.M.Idle h v
          ends_idle a es v c = c.1

  -- each run of lowered calls, event by event
  pub refined_within : (w : Both R.World T.M.World) (events : List (Event T.Call R.Outside)) → R.Shows w.real w.seen → T.M.Inv w.seen → ((h : ℕ) → R.Base h w.real w.seen R.none) → ((h : ℕ) → T.M.Idle h w.seen) → AllHonest N events (fresh N w)
      → IsExplained N (K.of w.seen) (run N events (fresh N w))
  refined_within w events shows inv base idle honest = explains N noted_lawful w events (shows, inv) (λ h. (base h, idle h)) honest
