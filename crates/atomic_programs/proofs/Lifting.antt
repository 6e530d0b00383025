-- Programs over a layer in which a hart has more between two operations above.
use Rattle.atomic_programs.proofs.Vocabulary.{ℕ, suc, List, [], ◌∷◌, Option, Ret, Do, once, ExecResult, Waits, Ran, Stops, Machine, P, own, onto, Goes, placed_with, Good, Wp, LowerLayer, LowerLaws, Both, joined, both, Handlers, Below, Lasts, Atomic, with_more, IfRan, Budget, AtomicWithin}
use Rattle.atomic_programs.proofs.Basics.{Wp-weaker}

module _ (U : Machine) (R : LowerLayer U.World) (More : ℕ → U.World → Type 0) where
  goes_on : (t : U.Tree) (ps : List (ℕ × U.Step)) (u : U.Tree) → Goes (joined U R) t ps u → Goes (joined U (with_more R More)) t ps u
  goes_on t [] u g = g
  goes_on t (p ∷ ps) u g = (g.0, g.1, goes_on g.0 ps u g.2)

  good_on : {A : Type 0} (h : ℕ) (ps : A → List (ℕ × U.Step)) (n : ℕ) (B : List U.Step → Type 0) (es : List U.Step) (v : Both R.World U.World) (wait : Type 0) (r : ExecResult A (Both R.World U.World)) (M N : ℕ → A → Both R.World U.World → Type 0)
      → ((l : ℕ) (a : A) (w : Both R.World U.World) → M l a w → N l a w) → Good (joined U R) A h ps 0 n B es v wait r M → Good (joined U (with_more R More)) A h ps 0 n B es v wait r N
  good_on h ps n B es v wait Waits M N f g = g
  good_on h ps n B es v wait (Ran a w) M N f g = record {
    inv = g.inv;
    kept = g.kept;
    goes = λ y. goes_on (U.tree v.seen) (ps a) (U.tree w.seen) (g.goes y);
    clean = g.clean;
    begun = g.begun;
    left = g.left;
    falls = g.falls;
    next = f g.left a w g.next;
  }
  good_on h ps n B es v wait (Stops w) M N f g = record { halted = g.halted; kept = g.kept; tree = g.tree; clean = g.clean }

  -- it does as it does over the other one
  pub Wp-with_more : {A : Type 0} (h : ℕ) (p : P (joined U R) A) (B : List U.Step → Type 0) (Q : A → List U.Step → Both R.World U.World → Type 0) (n : ℕ) (es : List U.Step) (w : Both R.World U.World)
      → Wp (joined U R) h B Q p n es w → Wp (joined U (with_more R More)) h B Q p n es w
  Wp-with_more h (Ret a) B Q n es w g = g
  Wp-with_more h (Do op m k) B Q n es w g =
      λ v xs o i. (
        (g v xs o i).0,
        (g v xs o i).1,
        λ x t. good_on h (placed_with (joined U R) h op m v) n B (onto xs es) v (R.MayWait h op v.real) (both U h m v.seen (R.exec h x op v.real)) _ _ (λ l a u. Wp-with_more h (k a) B Q l _ u) ((g v xs o i).2 x t),
        (g v xs o i).3,
      )

  -- what the others leave of it
  pub lower_laws_with_more : LowerLaws U R → ((h : ℕ) (g u : U.World) → R.Kept h g u → More h g → More h u) → LowerLaws U (with_more R More)
  lower_laws_with_more laws stays = record {
    same = laws.same;
    trans = laws.trans;
    kept = laws.kept;
    base = λ h v w g u c same kept b. (laws.base h v w g u c same kept b.0, stays h g u kept b.1);
    idle = λ h w g c inv idle b. (laws.idle h w g c inv idle b.0, b.1);
  }

  -- what lasts of the operation's, with what the hart has more
  module _ (h : ℕ) (op : U.Op) (m : U.Answer op → Option U.Mark) (stays : (v w : U.World) (xs : List U.Step) → U.Others h v xs w → More h v → More h w) (goes : (x : U.Outside) (v : U.World) → More h v → IfRan (More h) (U.go h x op m v))
      (B : List U.Step → Type 0) (C : U.Answer op → List U.Step → U.World → Type 0) where
    abbrev D : U.Answer op → List U.Step → U.World → Type 0
    D a fs u = C a fs u × More h u

    lasts_too : Lasts U h B C → Lasts U h B D
    lasts_too lasts a fs xs v u o i d = let x = lasts a fs xs v u o i d.0 in (x.0, (x.1, stays v u xs o d.1))

    ran : (x : U.Outside) (v : U.World) (fs : List U.Step) (d : ExecResult (U.Answer op) U.World) → IfRan (More h) d
        → Good U (U.Answer op) h (placed_with U h op m v) (U.more op) (suc (U.more op)) B fs v (U.MayWait h op v) d (λ l a u. C a (onto (own h (U.places h op a (m a) v)) fs) u)
        → Good U (U.Answer op) h (placed_with U h op m v) (U.more op) (suc (U.more op)) B fs v (U.MayWait h op v) d (λ l a u. D a (onto (own h (U.places h op a (m a) v)) fs) u)
    ran x v fs Waits more g = g
    ran x v fs (Ran a u) more g = record { inv = g.inv; kept = g.kept; goes = g.goes; clean = g.clean; begun = g.begun; left = g.left; falls = g.falls; next = (g.next, more) }
    ran x v fs (Stops u) more g = g

    does_too : (es : List U.Step) (w : U.World) → More h w → Wp U h B C (once op m) (suc (U.more op)) es w → Wp U h B D (once op m) (suc (U.more op)) es w
    does_too es w has todo = λ v xs o i. let g = todo v xs o i in (g.0, g.1, (λ x t. ran x v (onto xs es) (U.go h x op m v) (goes x v (stays w v xs o has)) (g.2 x t)), g.3)

  -- An operation's program still acts at one moment if the operation and the others leave the hart what it has more.
  pub atomic_with_more : (handler : Handlers U R) (h : ℕ) (op : U.Op) (m : U.Answer op → Option U.Mark) → ((v w : U.World) (xs : List U.Step) → U.Others h v xs w → More h v → More h w)
      → ((x : U.Outside) (v : U.World) → More h v → IfRan (More h) (U.go h x op m v)) → Atomic U R handler h op m → Atomic U (with_more R More) handler h op m
  atomic_with_more handler h op m stays goes atomic c B C es w lasts todo base =
      Wp-with_more h (handler c op m) B (Below U (with_more R More) h C) (suc (U.more op)) es w
      (Wp-weaker (joined U R) h (handler c op m) B B (Below U R h (D h op m stays goes B C)) (Below U (with_more R More) h C) (suc (U.more op)) es w (λ fs e. e) (λ r fs u e. (e.0.0, (e.1, e.0.1)))
      (atomic c B (D h op m stays goes B C) es w (lasts_too h op m stays goes B C lasts) (does_too h op m stays goes B C es w.seen base.1 todo) base.0))

  -- and within a budget
  pub within_with_more : (handler : Handlers U R) (h : ℕ) (b : Budget U) (Has : R.World → b.Spent → Type 0) (op : U.Op) (m : U.Answer op → Option U.Mark) → ((v w : U.World) (xs : List U.Step) → U.Others h v xs w → More h v → More h w)
      → ((x : U.Outside) (v : U.World) → More h v → IfRan (More h) (U.go h x op m v)) → AtomicWithin U R handler b Has h op m → AtomicWithin U (with_more R More) handler b Has h op m
  within_with_more handler h b Has op m stays goes within c s B C es w lasts todo base few has =
      Wp-with_more h (handler c op m) B (λ r fs u. Below U (with_more R More) h C r fs u × Has u.real (b.after op s)) (suc (U.more op)) es w
      (Wp-weaker (joined U R) h (handler c op m) B B (λ r fs u. Below U R h (D h op m stays goes B C) r fs u × Has u.real (b.after op s)) (λ r fs u. Below U (with_more R More) h C r fs u × Has u.real (b.after op s)) (suc (U.more op)) es w (λ fs e. e)
      (λ r fs u e. ((e.0.0.0, (e.0.1, e.0.0.1)), e.1))
      (within c s B (D h op m stays goes B C) es w (lasts_too h op m stays goes B C lasts) (does_too h op m stays goes B C es w.seen base.1 todo) base.0 few has))
