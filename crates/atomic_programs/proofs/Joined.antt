-- The rules of two machines as one.
use Rattle.atomic_programs.proofs.Vocabulary.{◌≤◌, length, None, ◌≡◌, ◌≢◌, ◌<◌, ◌+◌, ◌-◌, ℕ, suc, Option, Some, List, [], ◌∷◌, refl, sym, subst, arith, inl, Ret, Do, bind, once, unmarked, ExecResult, Waits, Ran, Stops, Machine, P, PlacesOne, own, onto, Goes, placed_with, Grown, Fine, Good, Wp, Laws, Uses, Lifts, Budget, Affords, AtomicWithin, Lasts, ActOf, LowerLayer, Both, ran_to, placed_at, both, joined, LowerLaws, Handover, holding, Handlers, lowered, Below, AtEnd, Atomic}
use Rattle.atomic_programs.proofs.Sound.{Wp-weaker, Wp-more, Wp-bind, Wp-others}

pub joined_laws : (U : Machine) (R : LowerLayer U.World) → Laws U → LowerLaws U R → Laws (joined U R)
joined_laws U R above below =
    record {
      same = λ h w. (below.same h w.real, above.same h w.seen);
      trans = λ h u v w xs ys a b. (below.trans h u.real v.real w.real a.0 b.0, above.trans h u.seen v.seen w.seen xs ys a.1 b.1);
      idle_none = λ h v w xs o i. above.idle_none h v.seen w.seen xs o.1 i.1;
      idle_stays = λ h v w xs o i. (below.base h v.real w.real v.seen w.seen R.none o.0 (below.kept h v.seen w.seen xs o.1) i.0, above.idle_stays h v.seen w.seen xs o.1 i.1);
      clean_before = λ h v w xs o y. above.clean_before h v.seen w.seen xs o.1 y;
    }

goes_below : (U : Machine) (R : LowerLayer U.World) (t : U.Tree) (ps : List (ℕ × U.Step)) (u : U.Tree) → Goes U t ps u → Goes (joined U R) t ps u
goes_below U R t [] u g = g
goes_below U R t (p ∷ ps) u g = (g.0, g.1, goes_below U R g.0 ps u g.2)

-- a step below places what the operation that it acts for places, or nothing
pub joined_places_one : (U : Machine) (R : LowerLayer U.World) → PlacesOne U → PlacesOne (joined U R)
joined_places_one U R one h op a None w inv = omega arith
joined_places_one U R one h op a (Some t) w inv = at (U.go h t.outside t.op t.mark w.seen)
  where
    at : (d : ExecResult (U.Answer t.op) U.World) → length (own h (placed_at (placed_with U h t.op t.mark w.seen) d)) ≤ 1
    at Waits = omega arith
    at (Ran b u) = one h t.op b (t.mark b) w.seen inv.1
    at (Stops u) = omega arith

-- what is placed for a program before its next step is a beginning still
grows : (L : Machine) {A : Type 0} (h : ℕ) (p : P L A) (B : List L.Step → Type 0) (Q : A → List L.Step → L.World → Type 0) (n : ℕ) (fs xs : List L.Step) (v u : L.World)
    → Lasts L h B Q → L.Others h v xs u → L.Inv u → Wp L h B Q p n fs v → L.Clean u → Grown B xs fs
grows L h (Ret a) B Q n fs xs v u lasts o i g y = (lasts a fs xs v u o i g).0 y
grows L h (Do op m k) B Q n fs xs v u lasts o i g y = (g u xs o i).0 y

-- If the program of each operation acts at one moment, and the program can afford it, then what holds of a program
-- above holds of the lowered one. It takes the same number of steps.
pub lift_within : (U : Machine) (R : LowerLayer U.World) (handler : Handlers U R) (laws : Laws U) (h : ℕ) (b : Budget U) (Has : R.World → b.Spent → Type 0) {A : Type 0} (p : P U A) → Uses U (AtomicWithin U R handler b Has h) p
    → (s : b.Spent) → Affords U b s p → (c : R.Carry) → Lifts U R handler h c (λ w. Has w.real s) p
lift_within U R handler laws h b Has (Ret a) used s affords c B Q lasts n es w has g base inv = (g, inv, (c, base))
lift_within U R handler laws h b Has {A} (Do op m k) used s affords c B Q lasts n es w has g base inv =
    Wp-more (joined U R) h (bind (handler c op m) rest) B (AtEnd U R h Q) (suc (U.more op) + (n - suc (U.more op))) n es w (omega (arith, enough))
    (Wp-bind (joined U R) h (handler c op m) rest B (AtEnd U R h Q) (suc (U.more op)) (n - suc (U.more op)) es w
    (Wp-weaker (joined U R) h (handler c op m) B B (λ r fs u. Below U R h C r fs u × Has u.real (b.after op s)) (λ r. Wp (joined U R) h B (AtEnd U R h Q) (rest r) (n - suc (U.more op))) (suc (U.more op)) es w (λ fs e. e)
    (λ r fs u e. lift_within U R handler laws h b Has (k r.answer) (used.1 r.answer) (b.after op s) (affords.1 r.answer) r.carry B Q lasts (n - suc (U.more op)) fs u e.1 e.0.0.0 e.0.1 e.0.0.1)
    (used.0 c s B C es w
    (λ a fs xs v u o i e.
    (grows U h (k a) B Q (n - suc (U.more op)) fs xs v u lasts o i e.0, (Wp-others U laws h (k a) B Q (n - suc (U.more op)) fs xs v u (λ x d. (lasts x fs xs v u o i d).1) o e.0, i)))
    (λ v xs o i. ((g v xs o i).0, (g v xs o i).1, λ x t. one v (onto xs es) (U.go h x op m v) ((g v xs o i).2 x t), omega arith)) base affords.0 has)))
  where
    rest : Handover (U.Answer op) R.Carry → P (joined U R) A
    rest r = lowered U R handler r.carry (k r.answer)

    C : U.Answer op → List U.Step → U.World → Type 0
    C a fs u = Wp U h B Q (k a) (n - suc (U.more op)) fs u × U.Inv u

    enough : U.more op < n
    enough = (g w.seen [] (laws.same h w.seen) inv).3

    one : (v : U.World) (fs : List U.Step) (r : ExecResult (U.Answer op) U.World)
        → Good U (U.Answer op) h (placed_with U h op m v) (U.more op) n B fs v (U.MayWait h op v) r (λ l a u. Wp U h B Q (k a) l (onto (own h (U.places h op a (m a) v)) fs) u)
        → Good U (U.Answer op) h (placed_with U h op m v) (U.more op) (suc (U.more op)) B fs v (U.MayWait h op v) r (λ l a u. C a (onto (own h (U.places h op a (m a) v)) fs) u)
    one v fs Waits q = q
    one v fs (Ran a u) q =
        record {
          inv = q.inv;
          kept = q.kept;
          goes = q.goes;
          clean = q.clean;
          begun = q.begun;
          left = 0;
          falls = omega arith;
          next = (Wp-more U h (k a) B Q q.left (n - suc (U.more op)) (onto (own h (U.places h op a (m a) v)) fs) u (let c : q.left + U.more op < n = q.falls in omega arith) q.next, q.inv);
        }
    one v fs (Stops u) q = q

-- nothing is spent
abbrev free : (U : Machine) → Budget U
free U = record { Spent = Unit {0}; after = λ op s. s; Allowed = λ s. Unit {0} }

affords_free : (U : Machine) {A : Type 0} (p : P U A) → Affords U (free U) tt p
affords_free U (Ret a) = tt
affords_free U (Do op m k) = (tt, λ a. affords_free U (k a))

-- what is so of the program's operations
pub uses_so : (U : Machine) (Is So : (op : U.Op) → (U.Answer op → Option U.Mark) → Type 1) {A : Type 0} (p : P U A) → ((op : U.Op) (m : U.Answer op → Option U.Mark) → Is op m → So op m) → Uses U Is p → Uses U So p
uses_so U Is So (Ret a) so uses = tt
uses_so U Is So (Do op m k) so uses = (so op m uses.0, λ a. uses_so U Is So (k a) so (uses.1 a))

pub lift_using : (U : Machine) (R : LowerLayer U.World) (handler : Handlers U R) (laws : Laws U) (h : ℕ) {A : Type 0} (p : P U A) → Uses U (Atomic U R handler h) p → (c : R.Carry) → Lifts U R handler h c (λ w. Unit {0}) p
lift_using U R handler laws h p used c B Q lasts n es w from g base inv =
    lift_within U R handler laws h (free U) (λ r s. Unit {0}) p
    (uses_so U (Atomic U R handler h) (AtomicWithin U R handler (free U) (λ r s. Unit {0}) h) p
    (λ op m atomic c s B C es w lasts todo base allowed has. Wp-weaker (joined U R) h (handler c op m) B B (Below U R h C) (λ r fs u. Below U R h C r fs u × Unit {0}) (suc (U.more op)) es w (λ fs e. e) (λ r fs u e. (e, tt)) (atomic c B C es w lasts todo base)) used)
    tt (affords_free U p) c B Q lasts n es w tt g base inv

-- a program's operations are so if all are
pub uses_all : (U : Machine) (Is : (op : U.Op) → (U.Answer op → Option U.Mark) → Type 1) {A : Type 0} (p : P U A) → ((op : U.Op) (m : U.Answer op → Option U.Mark) → Is op m) → Uses U Is p
uses_all U Is (Ret a) all = tt
uses_all U Is (Do op m k) all = (all op m, λ a. uses_all U Is (k a) all)

-- any program, if all operations' programs do
pub lift : (U : Machine) (R : LowerLayer U.World) (handler : Handlers U R) (laws : Laws U) (h : ℕ) (atomic : (op : U.Op) (m : U.Answer op → Option U.Mark) → Atomic U R handler h op m) {A : Type 0} (p : P U A) (c : R.Carry) → Lifts U R handler h c (λ w. Unit {0}) p
lift U R handler laws h atomic p c = lift_using U R handler laws h p (uses_all U (Atomic U R handler h) p atomic) c

-- a program that hands on what it was handed
pub Wp-holding : (L : Machine) {A C : Type 0} (h : ℕ) (c : C) (p : P L A) (B : List L.Step → Type 0) (Q : Handover A C → List L.Step → L.World → Type 0) (n : ℕ) (es : List L.Step) (w : L.World)
    → Wp L h B (λ a. Q (record { answer = a; carry = c })) p n es w → Wp L h B Q (holding c p) n es w
Wp-holding L {A} {C} h c p B Q n es w g =
    Wp-more L h (holding c p) B Q (n + 0) n es w (omega arith) (Wp-bind L h p (λ a. Ret (record { answer = a; carry = c })) B Q n 0 es w g)

module _ (U : Machine) (R : LowerLayer U.World) (above : Laws U) (below : LowerLaws U R) (h : ℕ) (B : List U.Step → Type 0) where
  -- what lasts while the others step
  abbrev pub Stable : (List U.Step → U.World → Type 0) → Type 0
  Stable G = (fs xs : List U.Step) (g u : U.World) → U.Others h g xs u → U.Inv u → G fs g → (U.Clean u → Grown B xs fs) × G (onto xs fs) u

  -- what a hart knows when its next operation runs: v is the world, fs the steps so far
  pub record Here (G : List U.Step → U.World → Type 0) (w v : Both R.World U.World) (fs : List U.Step) : Type 0 where
    pub same : R.Same h w.real v.real
    pub kept : R.Kept h w.seen v.seen
    pub shows : R.Shows v.real v.seen
    pub inv : U.Inv v.seen
    pub stage : G fs v.seen

  -- an operation below, whatever others did before it
  pub s-step : {A : Type 0} (op : R.Op) (mk : R.Answer op → Option (ActOf U)) (k : R.Answer op → P (joined U R) A) (Q : A → List U.Step → Both R.World U.World → Type 0) (G : List U.Step → U.World → Type 0) (n : ℕ) (es : List U.Step) (w : Both R.World U.World)
      → Stable G → G es w.seen
      → ((v : Both R.World U.World) (fs : List U.Step) → Here G w v fs
      → R.May h op v.real × ((x : R.Outside) → R.Honest h op v.real x
      → Good (joined U R) (R.Answer op) h (placed_with (joined U R) h op mk v) 0 (suc n) B fs v (R.MayWait h op v.real) (both U h mk v.seen (R.exec h x op v.real)) (λ l a u. Wp (joined U R) h B Q (k a) l (onto (own h (placed_with (joined U R) h op mk v a)) fs) u)))
      → Wp (joined U R) h B Q (Do op mk k) (suc n) es w
  s-step op mk k Q G n es w stable stage rule =
      λ v xs o i.
      let next = stable es xs w.seen v.seen o.1 i.1 stage in
      let r = rule v (onto xs es) (record { same = o.0; kept = below.kept h w.seen v.seen xs o.1; shows = i.0; inv = i.1; stage = next.1 }) in
      (next.0, r.0, r.1, omega arith)

  -- A silent step: the world above stays as it is.
  abbrev pub Silent : {A : Type 0} → Both R.World U.World → Type 0 → ExecResult A R.World → (A → R.World → Type 0) → Type 0
  Silent v wait Waits N = wait
  Silent v wait (Ran a r) N = R.Shows r v.seen × ((g : ℕ) → g ≢ h → R.Same g v.real r) × N a r
  Silent v wait (Stops r) N = R.Halted r v.seen × ((g : ℕ) → g ≢ h → R.Same g v.real r)

  silent_good : {A : Type 0} (v : Both R.World U.World) (wait : Type 0) (r : ExecResult A R.World) (n : ℕ) (fs : List U.Step) (N : ℕ → A → Both R.World U.World → Type 0)
      → U.Inv v.seen → Silent v wait r (λ a u. N n a (record { real = u; seen = v.seen })) → Good (joined U R) A h (λ a. []) 0 (suc n) B fs v wait (both U h unmarked v.seen r) N
  silent_good v wait Waits n fs N inv g = g
  silent_good v wait (Ran a r) n fs N inv g =
      record {
        inv = (g.0, inv);
        kept = λ other ne. (g.1 other ne, above.same other v.seen);
        goes = λ y. refl;
        clean = λ y. y;
        begun = λ y. inl refl;
        left = n;
        falls = omega arith;
        next = g.2;
      }
  silent_good v wait (Stops r) n fs N inv g = record { halted = (g.0, inv); kept = λ other ne. (g.1 other ne, above.same other v.seen); tree = λ y. refl; clean = λ y. y }

  pub s-silent : {A : Type 0} (op : R.Op) (k : R.Answer op → P (joined U R) A) (Q : A → List U.Step → Both R.World U.World → Type 0) (G : List U.Step → U.World → Type 0) (n : ℕ) (es : List U.Step) (w : Both R.World U.World)
      → Stable G → G es w.seen
      → ((v : Both R.World U.World) (fs : List U.Step) → Here G w v fs
      → R.May h op v.real × ((x : R.Outside) → R.Honest h op v.real x → Silent v (R.MayWait h op v.real) (R.exec h x op v.real) (λ a u. Wp (joined U R) h B Q (k a) n fs (record { real = u; seen = v.seen }))))
      → Wp (joined U R) h B Q (Do op unmarked k) (suc n) es w
  s-silent op k Q G n es w stable stage rule =
      s-step op unmarked k Q G n es w stable stage
      (λ v fs here. ((rule v fs here).0, λ x t. silent_good v (R.MayWait h op v.real) (R.exec h x op v.real) n fs (λ l a u. Wp (joined U R) h B Q (k a) l fs u) here.inv ((rule v fs here).1 x t)))

  -- the operation above is still to act, or has acted
  module _ (op : U.Op) (m : U.Answer op → Option U.Mark) (C : U.Answer op → List U.Step → U.World → Type 0) (lasts : Lasts U h B C) where
    abbrev pub ToAct : List U.Step → U.World → Type 0
    ToAct fs g = Wp U h B C (once op m) (suc (U.more op)) fs g

    pub to_act : Stable ToAct
    to_act fs xs g u o i t = ((t u xs o i).0, Wp-others U above h (once op m) B C (suc (U.more op)) fs xs g u (λ a c. (lasts a fs xs g u o i c).1) o t)

    pub may_act : (fs : List U.Step) (g : U.World) → ToAct fs g → U.Inv g → U.May h op g
    may_act fs g t i = (t g [] (above.same h g) i).1

    pub acted : (b : U.Answer op) → Stable (C b)
    acted b fs xs g u o i c = lasts b fs xs g u o i c

    -- the mark of the step that acts
    abbrev pub act : {A : Type 0} → U.Outside → A → Option (ActOf U)
    act y a = Some (record { op = op; outside = y; mark = m })

    -- The acting step: the world above goes on as the operation alone does, to b and g.
    abbrev pub Acting : {A : Type 0} → U.Outside → Both R.World U.World → Type 0 → ExecResult A R.World → (A → U.Answer op → R.World → U.World → Type 0) → Type 0
    Acting y v wait Waits N = wait
    Acting y v wait (Ran a r) N = (b : U.Answer op) × (g : U.World) × (U.go h y op m v.seen ≡ Ran b g) × U.Honest h op v.seen y × (U.Inv g → R.Shows r g) × ((other : ℕ) → other ≢ h → R.Same other v.real r) × N a b r g
    Acting y v wait (Stops r) N = R.Halted r v.seen × ((g : ℕ) → g ≢ h → R.Same g v.real r)

    act_fine : (y : U.Outside) (v : Both R.World U.World) (r : R.World) (n : ℕ) (fs : List U.Step) (Next : List U.Step → Both R.World U.World → Type 0) (b : U.Answer op) (g : U.World) (d : ExecResult (U.Answer op) U.World) → d ≡ Ran b g
        → Fine U h (U.places h op b (m b) v.seen) (U.more op) (suc (U.more op)) B fs v.seen g (λ l. C b (onto (own h (U.places h op b (m b) v.seen)) fs) g)
        → (U.Inv g → R.Shows r g) → ((other : ℕ) → other ≢ h → R.Same other v.real r)
        → ((gs : List U.Step) → U.Inv g → C b gs g → Next gs (record { real = r; seen = g }))
        → Fine (joined U R) h (placed_at (placed_with U h op m v.seen) d) 0 (suc n) B fs v (record { real = r; seen = ran_to v.seen d }) (λ l. (l ≡ n) × Next (onto (own h (placed_at (placed_with U h op m v.seen) d)) fs) (record { real = r; seen = ran_to v.seen d }))
    act_fine y v r n fs Next b g d is f shows others then_ =
        subst (λ (z : ExecResult (U.Answer op) U.World). Fine (joined U R) h (placed_at (placed_with U h op m v.seen) z) 0 (suc n) B fs v (record { real = r; seen = ran_to v.seen z }) (λ l. (l ≡ n) × Next (onto (own h (placed_at (placed_with U h op m v.seen) z)) fs) (record { real = r; seen = ran_to v.seen z }))) (sym is)
        (record {
          inv = (shows f.inv, f.inv);
          kept = λ other ne. (others other ne, f.kept other ne);
          goes = λ y. goes_below U R (U.tree v.seen) (U.places h op b (m b) v.seen) (U.tree g) (f.goes y);
          clean = f.clean;
          begun = f.begun;
          left = n;
          falls = omega arith;
          next = (refl, then_ (onto (own h (U.places h op b (m b) v.seen)) fs) f.inv f.next);
        })

    act_good : {A : Type 0} (y : U.Outside) (v : Both R.World U.World) (wait : Type 0) (r : ExecResult A R.World) (n : ℕ) (fs : List U.Step) (N : ℕ → A → List U.Step → Both R.World U.World → Type 0)
        → U.Inv v.seen → ToAct fs v.seen → Acting y v wait r (λ a b u g. (gs : List U.Step) → U.Inv g → C b gs g → N n a gs (record { real = u; seen = g }))
        → Good (joined U R) A h (λ a. placed_at (placed_with U h op m v.seen) (U.go h y op m v.seen)) 0 (suc n) B fs v wait (both U h (act y) v.seen r) (λ l a u. N l a (onto (own h (placed_at (placed_with U h op m v.seen) (U.go h y op m v.seen))) fs) u)
    act_good y v wait Waits n fs N inv t g = g
    act_good {A} y v wait (Ran a r) n fs N inv t g =
        let fine = subst (λ (z : ExecResult (U.Answer op) U.World). Good U (U.Answer op) h (placed_with U h op m v.seen) (U.more op) (suc (U.more op)) B fs v.seen (U.MayWait h op v.seen) z (λ l c u. C c (onto (own h (U.places h op c (m c) v.seen)) fs) u)) g.2 ((t v.seen [] (above.same h v.seen) inv).2 y g.3) in
        let f = act_fine y v r n fs (N n a) g.0 g.1 (U.go h y op m v.seen) g.2 fine g.4 g.5 g.6 in
        record {
          inv = f.inv;
          kept = f.kept;
          goes = f.goes;
          clean = f.clean;
          begun = f.begun;
          left = n;
          falls = omega arith;
          next = f.next.1;
        }
    act_good y v wait (Stops r) n fs N inv t g = record { halted = (g.0, inv); kept = λ other ne. (g.1 other ne, above.same other v.seen); tree = λ y. refl; clean = λ y. y }

    pub s-act : {A : Type 0} (y : U.Outside) (lop : R.Op) (k : R.Answer lop → P (joined U R) A) (Q : A → List U.Step → Both R.World U.World → Type 0) (n : ℕ) (es : List U.Step) (w : Both R.World U.World)
        → ToAct es w.seen
        → ((v : Both R.World U.World) (fs : List U.Step) → Here ToAct w v fs → U.May h op v.seen
        → R.May h lop v.real × ((x : R.Outside) → R.Honest h lop v.real x
        → Acting y v (R.MayWait h lop v.real) (R.exec h x lop v.real) (λ a b u g. (gs : List U.Step) → U.Inv g → C b gs g → Wp (joined U R) h B Q (k a) n gs (record { real = u; seen = g }))))
        → Wp (joined U R) h B Q (Do lop (act y) k) (suc n) es w
    s-act y lop k Q n es w t rule =
        s-step lop (act y) k Q ToAct n es w to_act t
        (λ v fs here. let q = rule v fs here (may_act fs v.seen here.stage here.inv) in
        (q.0, λ x e. act_good y v (R.MayWait h lop v.real) (R.exec h x lop v.real) n fs (λ l a gs u. Wp (joined U R) h B Q (k a) l gs u) here.inv here.stage (q.1 x e)))
