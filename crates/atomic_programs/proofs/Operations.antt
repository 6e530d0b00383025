-- Every program that is right over a machine shows the run of its own operations.
use Rattle.atomic_programs.proofs.Vocabulary.{◌≡◌, ◌≢◌, ℕ, Option, List, [], ◌∷◌, ◌++◌, refl, sym, ◌∙◌, ap, subst, inl, inr, arith, eq-eqb, ne_eqb, Ret, Do, ExecResult, Waits, Ran, Stops, exec_result_in, Machine, P, OpWithAnswer, PlacesOne, own, onto, oldest_first, placed_with, Good, Wp, Laws, Theory, Begun, Ends, Lawful, Core, IsCore, operations, IsRun, operations_of, bare, bare_calls}
use Rattle.atomic_programs.proofs.Sound.{Wp-weaker}

pub operations_laws : (L : Machine) (K : Core L) → Laws L → Laws (operations L K)
operations_laws L K laws =
    record {
      same = λ h w. (refl, ([], laws.same h w));
      trans = λ h u v w xs ys a b. (rw (a.0, b.0) refl, (a.1.0 ++ b.1.0, laws.trans h u v w a.1.0 b.1.0 a.1.1 b.1.1));
      idle_none = λ h v w xs o i. o.0;
      idle_stays = λ h v w xs o i. laws.idle_stays h v w o.1.0 o.1.1 i;
      clean_before = λ h v w xs o y. tt;
    }

-- some run of a program
some_run : (L : Machine) → ((op : L.Op) → L.Answer op) → {A : Type 0} (p : P L A) → (es : List (OpWithAnswer L)) × (r : A) × IsRun L p es r
some_run L some (Ret a) = ([], a, refl)
some_run L some (Do op m k) = let x = some_run L some (k (some op)) in ((op, some op) ∷ x.0, x.1, (some op, refl, x.2))

pub onto_rest : {A : Type 0} (xs es rest : List A) → onto xs (es ++ rest) ≡ onto xs es ++ rest
onto_rest [] es rest = refl
onto_rest (x ∷ xs) es rest = onto_rest xs (x ∷ es) rest

pub own_one : {A : Type 0} (h : ℕ) (e : A) → own h ((h, e) ∷ []) ≡ e ∷ []
own_one h e = rw (eq-eqb h h refl) refl

own_none : {A : Type 0} (g h : ℕ) (e : A) → g ≢ h → own g ((h, e) ∷ []) ≡ []
own_none g h e ne = rw (ne_eqb h g (λ q. ne (sym q))) refl

pub operations_places_one : (L : Machine) (K : Core L) → PlacesOne (operations L K)
operations_places_one L K h op a m w inv = rw (own_one {A = OpWithAnswer L} h (op, a)) (omega arith)

module _ (L : Machine) (K : Core L) {A : Type 0} (whole : P L A) where
  -- after these operations, the newest first, p is the rest of the whole
  abbrev pub OnWay : P L A → List (OpWithAnswer L) → Type 0
  OnWay p fs = (rest : List (OpWithAnswer L)) (r : A) → IsRun L p rest r → IsRun L whole (onto fs rest) r

  abbrev pub RunBegun : List (OpWithAnswer L) → Type 0
  RunBegun fs = (rest : List (OpWithAnswer L)) × (r : A) × IsRun L whole (oldest_first fs ++ rest) r

  abbrev pub RunEnds : ℕ → A → List (OpWithAnswer L) → L.World → Type 0
  RunEnds h r fs w = IsRun L whole (oldest_first fs) r × L.Idle h w

  module _ (some : (op : L.Op) → L.Answer op) (may : (h : ℕ) (op : L.Op) (w : L.World) → L.May h op w → K.May h op (K.of w)) (honest : (h : ℕ) (op : L.Op) (w : L.World) (x : L.Outside) → L.Honest h op w x → K.Honest h op (K.of w) x)
      (goes : (h : ℕ) (x : L.Outside) (op : L.Op) (m : L.Answer op → Option L.Mark) (w : L.World) → exec_result_in K.of (L.go h x op m w) ≡ K.go h x op (K.of w)) (stops : (h : ℕ) (x : L.Outside) (op : L.Op) (t u : K.World) → K.go h x op t ≡ Stops u → u ≡ t) where
    begun_run : (p : P L A) (fs : List (OpWithAnswer L)) → OnWay p fs → RunBegun fs
    begun_run p fs way = let x = some_run L some p in (x.0, x.1, subst (λ (zs : List (OpWithAnswer L)). IsRun L whole zs x.1) (onto_rest fs [] x.0) (way x.0 x.1 x.2))

    -- whatever else is shown of a program over L, it makes its own operations one after the other
    pub follows : (h : ℕ) (B : List L.Step → Type 0) (Q : A → List L.Step → L.World → Type 0) → ((a : A) (es : List L.Step) (w : L.World) → Q a es w → L.Idle h w)
        → (p : P L A) (n : ℕ) (es : List L.Step) (w : L.World) (fs : List (OpWithAnswer L)) → OnWay p fs → Wp L h B Q p n es w → Wp (operations L K) h RunBegun (RunEnds h) p n fs w
    follows h B Q idle (Ret a) n es w fs way g = (way [] a refl, idle a es w g)
    follows h B Q idle (Do op m k) n es w fs way g =
        λ v xs o i. let q = g v o.1.0 o.1.1 i in (
          λ y. inl o.0,
          q.1,
          λ x t. subst (λ (zs : List (OpWithAnswer L)). Good (operations L K) (L.Answer op) h (placed_with (operations L K) h op m v) (L.more op) n RunBegun (onto zs fs) v (L.MayWait h op v) (L.go h x op m v) (λ l a u. Wp (operations L K) h RunBegun (RunEnds h) (k a) l (onto (own h ((h, (op, a)) ∷ [])) (onto zs fs)) u)) (sym o.0)
              (made v x (onto o.1.0 es) q.1 t (λ a l gs u then_. follows h B Q idle (k a) l gs u ((op, a) ∷ fs) (λ rest r is. way ((op, a) ∷ rest) r (a, refl, is)) then_) (L.go h x op m v) refl (q.2 x t)),
          q.3,
        )
      where
        made : (v : L.World) (x : L.Outside) (gs : List L.Step) → L.May h op v → L.Honest h op v x
            → ((a : L.Answer op) (l : ℕ) (es : List L.Step) (u : L.World) → Wp L h B Q (k a) l es u → Wp (operations L K) h RunBegun (RunEnds h) (k a) l ((op, a) ∷ fs) u)
            → (d : ExecResult (L.Answer op) L.World) → L.go h x op m v ≡ d
            → Good L (L.Answer op) h (placed_with L h op m v) (L.more op) n B gs v (L.MayWait h op v) d (λ l a u. Wp L h B Q (k a) l (onto (own h (L.places h op a (m a) v)) gs) u)
            → Good (operations L K) (L.Answer op) h (placed_with (operations L K) h op m v) (L.more op) n RunBegun fs v (L.MayWait h op v) d (λ l a u. Wp (operations L K) h RunBegun (RunEnds h) (k a) l (onto (own h ((h, (op, a)) ∷ [])) fs) u)
        made v x gs allowed said next Waits is f = f
        made v x gs allowed said next (Ran a u) is f =
            record {
              inv = f.inv;
              kept = λ other ne. (own_none other h (op, a) ne, (own other (L.places h op a (m a) v), f.kept other ne));
              goes = λ y. (K.of u, (x, may h op v allowed, honest h op v x said, sym (goes h x op m v) ∙ ap (exec_result_in K.of) is), refl);
              clean = λ y. tt;
              begun = λ y. inr (subst (λ (zs : List (OpWithAnswer L)). RunBegun (onto zs fs)) (sym (own_one h (op, a))) (begun_run (k a) ((op, a) ∷ fs) (λ rest r run. way ((op, a) ∷ rest) r (a, refl, run))));
              left = f.left;
              falls = f.falls;
              next = subst (λ (zs : List (OpWithAnswer L)). Wp (operations L K) h RunBegun (RunEnds h) (k a) f.left (onto zs fs) u) (sym (own_one h (op, a))) (next a f.left (onto (own h (L.places h op a (m a) v)) gs) u f.next);
            }
        made v x gs allowed said next (Stops u) is f =
            record { halted = f.halted; kept = λ other ne. (refl, ([], f.kept other ne)); tree = λ y. stops h x op (K.of v) (K.of u) (sym (goes h x op m v) ∙ ap (exec_result_in K.of) is); clean = λ y. tt }

-- what is shown with a history is shown without one
no_history : (L : Machine) {A : Type 0} (h : ℕ) (p : P L A) (B C : List L.Step → Type 0) (Q R : A → List L.Step → L.World → Type 0) (n : ℕ) (es : List L.Step) (w : L.World)
    → ((a : A) (fs : List L.Step) (u : L.World) → Q a fs u → R a fs u) → Wp L h B Q p n es w → Wp (bare L) h C R p n es w
no_history L h (Ret a) B C Q R n es w ends g = ends a es w g
no_history L h (Do op m k) B C Q R n es w ends g =
    λ v xs o i. let q = g v xs o i in ((λ y. absurd y), q.1, (λ x t. go v (onto xs es) (λ a l fs u r. no_history L h (k a) B C Q R l fs u ends r) (L.go h x op m v) (q.2 x t)), q.3)
  where
    go : (v : L.World) (gs : List L.Step)
        → ((a : L.Answer op) (l : ℕ) (fs : List L.Step) (u : L.World) → Wp L h B Q (k a) l fs u → Wp (bare L) h C R (k a) l fs u)
        → (d : ExecResult (L.Answer op) L.World)
        → Good L (L.Answer op) h (placed_with L h op m v) (L.more op) n B gs v (L.MayWait h op v) d (λ l a u. Wp L h B Q (k a) l (onto (own h (L.places h op a (m a) v)) gs) u)
        → Good (bare L) (L.Answer op) h (placed_with L h op m v) (L.more op) n C gs v (L.MayWait h op v) d (λ l a u. Wp (bare L) h C R (k a) l (onto (own h (L.places h op a (m a) v)) gs) u)
    go v gs ih Waits f = f
    go v gs ih (Ran a u) f =
        record { inv = f.inv; kept = f.kept; goes = λ y. absurd y; clean = λ y. absurd y; begun = λ y. absurd y; left = f.left; falls = f.falls; next = ih a f.left (onto (own h (L.places h op a (m a) v)) gs) u f.next }
    go v gs ih (Stops u) f = record { halted = f.halted; kept = f.kept; tree = λ y. absurd y; clean = λ y. absurd y }

pub bare_lawful : (T : Theory) → Lawful T → Lawful (bare_calls T)
bare_lawful T lawful =
    record {
      laws = record { same = lawful.laws.same; trans = lawful.laws.trans; idle_none = lawful.laws.idle_none; idle_stays = lawful.laws.idle_stays; clean_before = λ h v w xs o y. y };
      calls = λ h call busy w u holds idle free e.
          let r = lawful.calls h call busy w u holds idle free e in
          record {
            inv = r.inv;
            halted = r.halted;
            kept = r.kept;
            rests = r.rests;
            tree = r.tree;
            clean = λ y. y;
            none = λ y. absurd y;
            runs = λ i. no_history T.M h (T.program call) (Begun T call) (Begun (bare_calls T) call) (Ends T h call) (Ends (bare_calls T) h call) (T.limit call) [] u (λ a fs v q. (λ y. absurd y, q.1)) (r.runs i);
          };
    }

pub operations_lawful : (T : Theory) (K : Core T.M) → Lawful T → IsCore T K → Lawful (operations_of T K)
operations_lawful T K lawful core =
    record {
      laws = operations_laws T.M K lawful.laws;
      calls = λ h call busy w u holds idle free e.
          let r = lawful.calls h call busy w u holds idle free e in
          let x = some_run T.M core.some (T.program call) in
          record {
            inv = r.inv;
            halted = r.halted;
            kept = λ other ne b. (refl, ([], r.kept other ne b));
            rests = r.rests;
            tree = core.starts h call busy w u e;
            clean = λ y. y;
            none = λ y. (x.0, x.1, x.2);
            runs = λ i.
                Wp-weaker (operations T.M K) h (T.program call) (RunBegun T.M K (T.program call)) (Begun (operations_of T K) call) (RunEnds T.M K (T.program call) h) (Ends (operations_of T K) h call) (T.limit call) [] u
                (λ fs b. b) (λ a fs v e. (λ y. e.0, e.1))
                (follows T.M K (T.program call) core.some core.may core.honest core.goes core.stops h (Begun T call) (Ends T h call) (λ a es v e. e.1) (T.program call) (T.limit call) [] u [] (λ rest r is. is) (r.runs i));
          };
    }
