-- The calls at the desk do as they should.
use Rattle.atomic_programs.proofs.Vocabulary.{◌≡◌, ◌<◌, ◌≢◌, ℕ, Option, Some, None, Bool, true, false, List, [], ◌∷◌, ◌++◌, ◌≤◌, length, refl, sym, ◌∙◌, ap, subst, arith, ◌⊎◌, inl, inr, eqb-true, eqb-false, eq-eqb, ne_eqb, nat_eq, if◌then◌else◌, Ret, Do, unmarked, own, onto, PlacesOne, Grown, Fine, Good, Wp, Laws, Began, Begins, IsBeginning, Begun, Ends, Right, Lawful, Event, changed, run, fresh, IsExplained, Slot, Empty, Asked, Served, Ask, Serve, Collect, Hand, Free, Wipe, Gave, serve_if, collect_if, served, IsServedAs, is_for, Others, Idle, IsAsked, Request, Help, Give, Reset, Got, Helped, Given, Wiped, Busy, unless, reserve_if, start_call, start_if, desk}
use Rattle.atomic_programs.specs.Desk.{World, Step, Swapped, machine, Call, Refusal, program}
use Rattle.atomic_programs.proofs.Basics.{changed_same, changed_other, explains, all_honest}

fared_same : (s : Slot) → IsServedAs s [] s
fared_same Empty = (refl, refl)
fared_same (Asked n) = inl (refl, refl)
fared_same (Served old) = (refl, refl)

fared_trans : (s t u : Slot) (xs ys : List Step) → IsServedAs s xs t → IsServedAs t ys u → IsServedAs s (xs ++ ys) u
fared_trans Empty t u xs ys a b =
    let c : IsServedAs Empty ys u = subst (λ (z : Slot). IsServedAs z ys u) a.1 b in
    (rw (a.0, c.0) refl, c.1)
fared_trans (Served old) t u xs ys a b =
    let c : IsServedAs (Served old) ys u = subst (λ (z : Slot). IsServedAs z ys u) a.1 b in
    (rw (a.0, c.0) refl, c.1)
fared_trans (Asked n) t u xs ys (inr a) b =
    let c : IsServedAs (Served a.0) ys u = subst (λ (z : Slot). IsServedAs z ys u) a.2 b in
    inr (a.0, rw (a.1, c.0) refl, c.1)
fared_trans (Asked n) t u xs ys (inl a) b = at (subst (λ (z : Slot). IsServedAs z ys u) a.1 b)
  where
    at : IsServedAs (Asked n) ys u → IsServedAs (Asked n) (xs ++ ys) u
    at (inl c) = inl (rw (a.0, c.0) refl, c.1)
    at (inr c) = inr (c.0, rw (a.0, c.1) refl, c.2)

pub others_same : (h : ℕ) (w : World) → Others h w [] w
others_same h w = record { fared = fared_same (w.slots h); tokens = λ e. (e, refl); lends = λ j. refl; clean = λ y. y }

others_trans : (h : ℕ) (u v w : World) (xs ys : List Step) → Others h u xs v → Others h v ys w → Others h u (xs ++ ys) w
others_trans h u v w xs ys a b =
    record {
      fared = fared_trans (u.slots h) (v.slots h) (w.slots h) xs ys a.fared b.fared;
      tokens = λ e. (let c = a.tokens e in let d = b.tokens c.0 in (d.0, d.1 ∙ c.1));
      lends = λ j. b.lends j ∙ a.lends j;
      clean = λ y. a.clean (b.clean y);
    }

-- an empty place stays so
pub empty_stays : (h : ℕ) (v w : World) (xs : List Step) → Others h v xs w → v.slots h ≡ Empty → (xs ≡ []) × (w.slots h ≡ Empty)
empty_stays h v w xs o e = subst (λ (z : Slot). IsServedAs z xs (w.slots h)) e o.fared

pub laws : Laws machine
laws =
    record {
      same = others_same;
      trans = others_trans;
      idle_none = λ h v w xs o i. (empty_stays h v w xs o i.slot).0;
      idle_stays = λ h v w xs o i. record { slot = (empty_stays h v w xs o i.slot).1; lends = λ j. o.lends j ∙ i.lends j };
      clean_before = λ h v w xs o y. o.clean y;
    }

-- what an operation changed is none of this hart's
others_quiet : (g : ℕ) (v u : World) → u.slots g ≡ v.slots g → (v.lent g ≡ None → (u.lent g ≡ None) × (u.book.tokens g ≡ v.book.tokens g)) → ((j : ℕ) → is_for g (u.lent j) ≡ is_for g (v.lent j))
    → (u.clean ≡ true → v.clean ≡ true) → Others g v [] u
others_quiet g v u slot tokens lends clean = record { fared = subst (λ (z : Slot). IsServedAs (v.slots g) [] z) (sym slot) (fared_same (v.slots g)); tokens = tokens; lends = lends; clean = clean }

own_none : (g j : ℕ) (e : Step) → g ≢ j → own g ((j, e) ∷ []) ≡ []
own_none g j e ne = rw (ne_eqb j g (λ q. ne (sym q))) refl

own_one : (g : ℕ) (e : Step) → own g ((g, e) ∷ []) ≡ e ∷ []
own_one g e = rw (eq-eqb g g refl) refl

-- the last operation of a request: it waits until another hart has served it
collect_ok : (h n : ℕ) (w : World) → w.slots h ≡ Asked n → ((j : ℕ) → is_for h (w.lent j) ≡ false) → Wp machine h (Begun desk (Request n)) (Ends desk h (Request n)) (Do Collect unmarked (λ old. Ret (Got old))) 1 [] w
collect_ok h n w asked lends v xs o inv = at (subst (λ (z : Slot). IsServedAs z xs (v.slots h)) asked o.fared)
  where
    Goal : Slot → List Step → Type 0
    Goal s ys =
        (v.clean ≡ true → Grown (Begun desk (Request n)) ys [])
        × Unit {0}
        × ((x : Unit {0}) → Unit {0} → Good machine ℕ h (λ a. []) 0 1 (Begun desk (Request n)) (onto ys []) v (IsAsked s) (collect_if h v s) (λ l a u. Ends desk h (Request n) (Got a) (onto ys []) u)) × (0 < 1)

    goal : (s : Slot) (ys : List Step) → v.slots h ≡ s → xs ≡ ys → Goal s ys
        → (v.clean ≡ true → Grown (Begun desk (Request n)) xs []) × Unit {0} × ((x : Unit {0}) → Unit {0} → Good machine ℕ h (λ a. []) 0 1 (Begun desk (Request n)) (onto xs []) v (IsAsked (v.slots h)) (collect_if h v (v.slots h)) (λ l a u. Ends desk h (Request n) (Got a) (onto xs []) u)) × (0 < 1)
    goal s ys e f g = subst (λ (z : Slot). Goal z xs) (sym e) (subst (λ (zs : List Step). Goal s zs) (sym f) g)

    at : ((xs ≡ []) × (v.slots h ≡ Asked n)) ⊎ ((old : ℕ) × (xs ≡ Swapped n old ∷ []) × (v.slots h ≡ Served old))
        → (v.clean ≡ true → Grown (Begun desk (Request n)) xs []) × Unit {0} × ((x : Unit {0}) → Unit {0} → Good machine ℕ h (λ a. []) 0 1 (Begun desk (Request n)) (onto xs []) v (IsAsked (v.slots h)) (collect_if h v (v.slots h)) (λ l a u. Ends desk h (Request n) (Got a) (onto xs []) u)) × (0 < 1)
    at (inl a) = goal (Asked n) [] a.1 a.0 (λ y. inl refl, tt, λ _ _. tt, omega arith)
    at (inr a) =
        goal (Served a.0) (Swapped n a.0 ∷ []) a.2 a.1 (
          λ y. inr ([], Got a.0, refl),
          tt,
          λ _ _. record {
            inv = tt;
            kept = λ other ne. others_quiet other v (record v { slots = changed v.slots h Empty }) (changed_other v.slots h Empty other ne) (λ e. (e, refl)) (λ j. refl) (λ y. y);
            goes = λ y. refl;
            clean = λ y. y;
            begun = λ y. inl refl;
            left = 0;
            falls = omega arith;
            next = (λ y. refl, record { slot = changed_same v.slots h Empty h refl; lends = λ j. o.lends j ∙ lends j });
          },
          omega arith,
        )

request_ok : (h n : ℕ) (w : World) → Idle h w → Wp machine h (Begun desk (Request n)) (Ends desk h (Request n)) (program (Request n)) 2 [] w
request_ok h n w idle v xs o inv =
    let at = empty_stays h w v xs o idle.slot in (
      λ y. inl at.0,
      tt,
      λ _ _. record {
        inv = tt;
        kept = λ other ne. others_quiet other v (record v { slots = changed v.slots h (Asked n) }) (changed_other v.slots h (Asked n) other ne) (λ e. (e, refl)) (λ j. refl) (λ y. y);
        goes = λ y. refl;
        clean = λ y. y;
        begun = λ y. inl refl;
        left = 1;
        falls = omega arith;
        next = subst (λ (zs : List Step). Wp machine h (Begun desk (Request n)) (Ends desk h (Request n)) (Do Collect unmarked (λ old. Ret (Got old))) 1 (onto zs []) (record v { slots = changed v.slots h (Asked n) })) (sym at.0)
            (collect_ok h n (record v { slots = changed v.slots h (Asked n) }) (changed_same v.slots h (Asked n) h refl) (λ j. o.lends j ∙ idle.lends j));
      },
      omega arith,
    )

-- the world after hart j's request of n was served
abbrev served_by : ℕ → ℕ → World → World
served_by j n v = record { book = record { number = n; tokens = v.book.tokens }; slots = changed v.slots j (Served v.book.number); lent = v.lent; clean = v.clean }

-- the asking hart is given its step, and the others nothing
served_keeps : (j n : ℕ) (v : World) → v.slots j ≡ Asked n → (other : ℕ) → Others other v (own other ((j, Swapped n v.book.number) ∷ [])) (served_by j n v)
served_keeps j n v e other = at (nat_eq other j) refl
  where
    asking : Others j v (Swapped n v.book.number ∷ []) (served_by j n v)
    asking =
        record {
          fared = subst (λ (z : Slot). IsServedAs z (Swapped n v.book.number ∷ []) (changed v.slots j (Served v.book.number) j)) (sym e) (inr (v.book.number, refl, changed_same v.slots j (Served v.book.number) j refl));
          tokens = λ q. (q, refl);
          lends = λ i. refl;
          clean = λ y. y;
        }

    at : (b : Bool) → nat_eq other j ≡ b → Others other v (own other ((j, Swapped n v.book.number) ∷ [])) (served_by j n v)
    at true t =
        subst (λ (x : ℕ). Others x v (own x ((j, Swapped n v.book.number) ∷ [])) (served_by j n v)) (sym (eqb-true other j t))
        (subst (λ (zs : List Step). Others j v zs (served_by j n v)) (sym (own_one j (Swapped n v.book.number))) asking)
    at false t =
        subst (λ (zs : List Step). Others other v zs (served_by j n v)) (sym (own_none other j (Swapped n v.book.number) (eqb-false other j t)))
        (others_quiet other v (served_by j n v) (changed_other v.slots j (Served v.book.number) other (eqb-false other j t)) (λ q. (q, refl)) (λ i. refl) (λ y. y))

-- a hart that serves another's request places that hart's step, and none of its own
help_ok : (h j : ℕ) (w : World) → j ≢ h → Idle h w → Wp machine h (Begun desk (Help j)) (Ends desk h (Help j)) (program (Help j)) 2 [] w
help_ok h j w apart idle v xs o inv =
    let at = empty_stays h w v xs o idle.slot in
    (λ y. inl at.0, tt, λ _ _. subst Goal (sym at.0) (one (v.slots j) refl at.1), omega arith)
  where
    Goal : List Step → Type 0
    Goal ys =
        Good machine Bool h (λ a. served j v.book.number (v.slots j)) 0 2 (Begun desk (Help j)) (onto ys []) v ⊥ (serve_if j v (v.slots j)) (λ l a u. Ends desk h (Help j) (Helped a) (onto (own h (served j v.book.number (v.slots j))) (onto ys [])) u)

    Serves : Slot → Type 0
    Serves s = Good machine Bool h (λ a. served j v.book.number s) 0 2 (Begun desk (Help j)) [] v ⊥ (serve_if j v s) (λ l a u. Ends desk h (Help j) (Helped a) (onto (own h (served j v.book.number s)) []) u)

    none : (b : Bool) → v.slots h ≡ Empty → Fine machine h [] 0 2 (Begun desk (Help j)) [] v v (λ l. Ends desk h (Help j) (Helped b) [] v)
    none b empty =
        record {
          inv = tt;
          kept = λ other ne. others_same other v;
          goes = λ y. refl;
          clean = λ y. y;
          begun = λ y. inl refl;
          left = 0;
          falls = omega arith;
          next = (λ y. refl, record { slot = empty; lends = λ i. o.lends i ∙ idle.lends i });
        }

    one : (s : Slot) → v.slots j ≡ s → v.slots h ≡ Empty → Serves (v.slots j)
    one Empty e empty = subst Serves (sym e) (none false empty)
    one (Served old) e empty = subst Serves (sym e) (none false empty)
    one (Asked n) e empty =
        subst Serves (sym e)
        (record {
          inv = tt;
          kept = λ other ne. served_keeps j n v e other;
          goes = λ y. ((served_by j n v).book, (refl, refl), refl);
          clean = λ y. y;
          begun = λ y. inl (own_none h j (Swapped n v.book.number) (λ q. apart (sym q)));
          left = 0;
          falls = omega arith;
          next =
              subst (λ (zs : List Step). Ends desk h (Help j) (Helped true) (onto zs []) (served_by j n v)) (sym (own_none h j (Swapped n v.book.number) (λ q. apart (sym q))))
              (λ y. refl, record { slot = changed_other v.slots j (Served v.book.number) h (λ q. apart (sym q)) ∙ empty; lends = λ i. o.lends i ∙ idle.lends i });
        })

is_for-is : (h : ℕ) (o : Option ℕ) → is_for h o ≡ true → o ≡ Some h
is_for-is h None e = cc
is_for-is h (Some g) e = ap Some (eqb-true g h e)

is_for-other : (g h : ℕ) → g ≢ h → is_for g (Some h) ≡ false
is_for-other g h ne = ne_eqb h g (λ q. ne (sym q))

-- hart h has reserved hart j, and no other
record Lends (h j : ℕ) (w : World) : Type 0 where
  pub slot : w.slots h ≡ Empty
  pub mine : is_for h (w.lent j) ≡ true
  pub only : (i : ℕ) → i ≢ j → is_for h (w.lent i) ≡ false

lends_stays : (h j : ℕ) (v w : World) (xs : List Step) → Others h v xs w → Lends h j v → (xs ≡ []) × Lends h j w
lends_stays h j v w xs o l =
    let at = empty_stays h v w xs o l.slot in
    (at.0, record { slot = at.1; mine = o.lends j ∙ l.mine; only = λ i ne. o.lends i ∙ l.only i ne })

-- one entry changed, as other harts see it
lends_changed : (g : ℕ) (f : ℕ → Option ℕ) (j : ℕ) (x : Option ℕ) → is_for g x ≡ is_for g (f j) → (i : ℕ) → is_for g (changed f j x i) ≡ is_for g (f i)
lends_changed g f j x same i = at (nat_eq i j) refl
  where
    at : (b : Bool) → nat_eq i j ≡ b → is_for g (if b then x else f i) ≡ is_for g (f i)
    at true t = same ∙ ap (λ (z : ℕ). is_for g (f z)) (sym (eqb-true i j t))
    at false t = refl

-- the reservation ends with the call
free_ok : (h j x : ℕ) (w : World) → Lends h j w → Wp machine h (Begun desk (Give j)) (Ends desk h (Give j)) (Do (Free j) unmarked (λ _. Ret Given)) 1 (Gave j x ∷ []) w
free_ok h j x w lends v xs o inv =
    let at = lends_stays h j w v xs o lends in
    let l = at.1 in (
      λ y. inl at.0,
      tt,
      λ _ _. record {
        inv = tt;
        kept = λ other ne.
            others_quiet other v (freed v) refl (λ e. (none (v.lent other) (nat_eq other j) e, refl))
            (lends_changed other v.lent j None (sym (ap (is_for other) (is_for-is h (v.lent j) l.mine) ∙ is_for-other other h ne))) (λ y. y);
        goes = λ y. refl;
        clean = λ y. y;
        begun = λ y. inl refl;
        left = 0;
        falls = omega arith;
        next = subst (λ (zs : List Step). Ends desk h (Give j) Given (onto zs (Gave j x ∷ [])) (freed v)) (sym at.0) (λ y. (x, refl), record { slot = l.slot; lends = λ i. idle l i (nat_eq i j) refl });
      },
      omega arith,
    )
  where
    freed : World → World
    freed v = record { book = v.book; slots = v.slots; lent = changed v.lent j None; clean = v.clean }

    none : (y : Option ℕ) (b : Bool) → y ≡ None → (if b then None else y) ≡ None
    none y true e = refl
    none y false e = e

    idle : Lends h j v → (i : ℕ) (b : Bool) → nat_eq i j ≡ b → is_for h (if b then None else v.lent i) ≡ false
    idle l i true t = refl
    idle l i false t = l.only i (eqb-false i j t)

-- what is handed over changes the tokens of a hart that is reserved
give_ok : (h j : ℕ) (w : World) → j ≢ h → Lends h j w → Wp machine h (Begun desk (Give j)) (Ends desk h (Give j)) (program (Give j)) 2 [] w
give_ok h j w apart lends v xs o inv =
    let at = lends_stays h j w v xs o lends in
    let l = at.1 in (
      λ y. inl at.0,
      tt,
      λ _ _. record {
        inv = tt;
        kept = λ other ne.
            subst (λ (zs : List Step). Others other v zs handed) (sym (own_none other h (Gave j (v.book.tokens h)) ne))
            (others_quiet other v handed refl (λ e. (e, tokens l other (nat_eq other j) refl e)) (λ i. refl) (λ y. y));
        goes = λ y. (handed.book, (refl, refl), refl);
        clean = λ y. y;
        begun = λ y. inr (subst (λ (zs : List Step). Begun desk (Give j) (onto zs (onto xs []))) (sym (own_one h (Gave j (v.book.tokens h)))) (subst (λ (zs : List Step). Begun desk (Give j) (Gave j (v.book.tokens h) ∷ onto zs [])) (sym at.0) ([], Given, (v.book.tokens h, refl))));
        left = 1;
        falls = omega arith;
        next =
            subst (λ (zs : List Step). Wp machine h (Begun desk (Give j)) (Ends desk h (Give j)) (Do (Free j) unmarked (λ _. Ret Given)) 1 (onto zs (onto xs [])) handed) (sym (own_one h (Gave j (v.book.tokens h))))
            (subst (λ (zs : List Step). Wp machine h (Begun desk (Give j)) (Ends desk h (Give j)) (Do (Free j) unmarked (λ _. Ret Given)) 1 (Gave j (v.book.tokens h) ∷ onto zs []) handed) (sym at.0)
            (free_ok h j (v.book.tokens h) handed (record { slot = l.slot; mine = l.mine; only = l.only })));
      },
      omega arith,
    )
  where
    handed : World
    handed = record { book = record { number = v.book.number; tokens = changed v.book.tokens j (v.book.tokens h) }; slots = v.slots; lent = v.lent; clean = v.clean }

    tokens : Lends h j v → (other : ℕ) (b : Bool) → nat_eq other j ≡ b → v.lent other ≡ None → (if b then v.book.tokens h else v.book.tokens other) ≡ v.book.tokens other
    tokens l other true t e =
        let c : ◌≡◌ {A = Option ℕ} None (Some h) = sym e ∙ ap v.lent (eqb-true other j t) ∙ is_for-is h (v.lent j) l.mine in cc
    tokens l other false t e = refl

-- what is wiped is placed for nobody, so nothing is claimed of the list from then on
reset_ok : (h : ℕ) (w : World) → Idle h w → Wp machine h (Begun desk Reset) (Ends desk h Reset) (program Reset) 2 [] w
reset_ok h w idle v xs o inv =
    let at = empty_stays h w v xs o idle.slot in (
      λ y. inl at.0,
      tt,
      λ _ _. record {
        inv = tt;
        kept = λ other ne. others_quiet other v (record v { book = record { number = 0; tokens = v.book.tokens }; clean = false }) refl (λ e. (e, refl)) (λ j. refl) unclean;
        goes = λ y. absurd (never y);
        clean = unclean;
        begun = λ y. inl refl;
        left = 0;
        falls = omega arith;
        next = (λ y. absurd (never y), record { slot = at.1; lends = λ j. o.lends j ∙ idle.lends j });
      },
      omega arith,
    )
  where
    never : false ≡ true → ⊥
    never e = cc

    unclean : false ≡ true → v.clean ≡ true
    unclean e = cc

-- Starts.
not_lent : (o : Option ℕ) (b : Began Refusal World) (u : World) → start_if o b ≡ Begins u → b ≡ Begins u
not_lent None b u e = e
not_lent (Some g) b u e = cc

unless_is : (b : Bool) (why : Refusal) (x : Began Refusal World) (u : World) → unless b why x ≡ Begins u → (b ≡ false) × (x ≡ Begins u)
unless_is true why x u e = cc
unless_is false why x u e = (refl, e)

begins_inj : (w u : World) → ◌≡◌ {A = Began Refusal World} (Begins w) (Begins u) → w ≡ u
begins_inj w u e = cc

reserved : (h j : ℕ) (w u : World) (o : Option ℕ) → reserve_if h j w o ≡ Begins u → (o ≡ None) × (record { book = w.book; slots = w.slots; lent = changed w.lent j (Some h); clean = w.clean } ≡ u)
reserved h j w u None e = (refl, cc)
reserved h j w u (Some g) e = cc

-- a start that changes nothing
plainly : (h : ℕ) (call : Call) (busy : ℕ → Bool) (w u : World) → ((other : ℕ) → busy other ≡ false → Idle other w) → busy h ≡ false → w ≡ u
    → IsBeginning desk call [] → (Idle h u → Wp machine h (Begun desk call) (Ends desk h call) (program call) 2 [] u) → Right desk h call busy w u
plainly h call busy w u idle free is first runs =
    record {
      inv = λ i. i;
      halted = λ i. i;
      kept = λ other ne b. subst (λ (x : World). Others other w [] x) is (others_same other w);
      rests = λ other ne b. subst (λ (x : World). Idle other x) is (idle other b);
      tree = ap (λ (x : World). x.book) (sym is);
      clean = λ y. ap (λ (x : World). x.clean) is ∙ y;
      none = λ y. first;
      runs = λ i. runs (subst (λ (x : World). Idle h x) is (idle h free));
    }

-- a start that reserves an idle hart
give_right : (h j : ℕ) (busy : ℕ → Bool) (w : World) → ((other : ℕ) → busy other ≡ false → Idle other w) → busy h ≡ false → j ≢ h → busy j ≡ false → w.lent j ≡ None
    → Right desk h (Give j) busy w (record { book = w.book; slots = w.slots; lent = changed w.lent j (Some h); clean = w.clean })
give_right h j busy w idle free apart rests unlent =
    record {
      inv = λ i. i;
      halted = λ i. i;
      kept = λ other ne b.
          others_quiet other w u refl (λ e. (changed_other w.lent j (Some h) other (not_j other b) ∙ e, refl)) (lends_changed other w.lent j (Some h) (is_for-other other h ne ∙ sym (ap (is_for other) unlent))) (λ y. y);
      rests = λ other ne b.
          let i = idle other b in
          record { slot = i.slot; lends = λ k. lends_changed other w.lent j (Some h) (is_for-other other h ne ∙ sym (ap (is_for other) unlent)) k ∙ i.lends k };
      tree = refl;
      clean = λ y. y;
      none = λ y. (Gave j 0 ∷ [], Given, (0, refl));
      runs = λ i.
          let mine = idle h free in
          give_ok h j u apart
          (record {
            slot = mine.slot;
            mine = ap (is_for h) (changed_same w.lent j (Some h) j refl) ∙ eq-eqb h h refl;
            only = λ k ne. ap (is_for h) (changed_other w.lent j (Some h) k ne) ∙ mine.lends k;
          });
    }
  where
    u : World
    u = record { book = w.book; slots = w.slots; lent = changed w.lent j (Some h); clean = w.clean }

    not_j : (other : ℕ) → busy other ≡ true → other ≢ j
    not_j other b q = let c : true ≡ false = sym b ∙ ap busy q ∙ rests in cc

call_ok : (h : ℕ) (call : Call) (busy : ℕ → Bool) (w u : World) → ((other : ℕ) → busy other ≡ false → Idle other w) → busy h ≡ false → start_call h call busy w ≡ Begins u → Right desk h call busy w u
call_ok h (Request n) busy w u idle free e = plainly h (Request n) busy w u idle free (begins_inj w u e) (Swapped n 0 ∷ [], Got 0, refl) (request_ok h n u)
call_ok h Reset busy w u idle free e = plainly h Reset busy w u idle free (begins_inj w u e) ([], Wiped, refl) (reset_ok h u)
call_ok h (Help j) busy w u idle free e =
    let x = unless_is (nat_eq j h) Busy (Begins w) u e in
    plainly h (Help j) busy w u idle free (begins_inj w u x.1) ([], Helped true, refl) (help_ok h j u (eqb-false j h x.0))
call_ok h (Give j) busy w u idle free e =
    let x = unless_is (nat_eq j h) Busy (unless (busy j) Busy (reserve_if h j w (w.lent j))) u e in
    let y = unless_is (busy j) Busy (reserve_if h j w (w.lent j)) u x.1 in
    let z = reserved h j w u (w.lent j) y.1 in
    subst (λ (v : World). Right desk h (Give j) busy w v) z.1 (give_right h j busy w idle free (eqb-false j h x.0) y.0 z.0)

pub lawful : Lawful desk
lawful = record { laws = laws; calls = λ h call busy w u holds idle free e. call_ok h call busy w u idle free (not_lent (w.lent h) (start_call h call busy w) u e) }

own_at_most : (h j : ℕ) (e : Step) → length (own h ((j, e) ∷ [])) ≤ 1
own_at_most h j e = at (nat_eq j h)
  where
    at : (b : Bool) → length (if b then e ∷ [] else []) ≤ 1
    at true = omega arith
    at false = omega arith

pub any_run : (w : World) (events : List (Event Call (Unit {0}))) → ((h : ℕ) → Idle h w) → IsExplained desk w.book (run desk events (fresh desk w))
any_run w events idle = explains desk lawful w events tt idle (all_honest desk (λ h op v x. tt) events (fresh desk w))

-- whose the only step is doesn't matter
pub places_one : PlacesOne machine
places_one h (Ask n) a m w inv = omega arith
places_one h (Serve j) a m w inv = at (w.slots j)
  where
    at : (s : Slot) → length (own h (served j w.book.number s)) ≤ 1
    at Empty = omega arith
    at (Asked n) = own_at_most h j (Swapped n w.book.number)
    at (Served old) = omega arith
places_one h Collect a m w inv = omega arith
places_one h (Hand j) a m w inv = own_at_most h h (Gave j (w.book.tokens h))
places_one h (Free j) a m w inv = omega arith
places_one h Wipe a m w inv = omega arith
