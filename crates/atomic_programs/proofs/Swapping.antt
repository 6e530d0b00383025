-- The calls of the cell do as they should.
use Rattle.atomic_programs.proofs.Vocabulary.{◌≡◌, ◌≢◌, ◌<◌, ◌+◌, ◌-◌, ◌⊎◌, ℕ, Option, Some, None, Bool, true, false, List, [], ◌∷◌, refl, sym, ◌∙◌, ap, subst, arith, inl, inr, eqb-true, eq-eqb, ne_eqb, ltb-true, nat_eq, nat_lt, if◌then◌else◌, Do, unmarked, ExecResult, Waits, Ran, own, onto, PlacesOne, Halts, Good, Wp, Safe, Laws, Began, Begins, IsBeginning, Begun, Ends, Right, Lawful, Event, AllHonest, run, fresh, IsExplained, Cell, LeavesIt, LeavesOne, failed, fetch_if, store_if, honest, may, fits, Take, Fetch, Store, Drop, Answer, Swapped, Saw, with_value, go, placed_by, own_of, Inv, MayWait, machine, Call, Look, Refusal, program, begin_if, swaps}
use Rattle.atomic_programs.specs.Cell.{Outside, Passes, Fails, Op, Step, World, if_held, IsOut, Swap, P}
use Rattle.atomic_programs.proofs.Basics.{s-op, explains}

pub laws : Laws machine
laws =
    record {
      same = λ h w. (refl, refl);
      trans = λ h u v w xs ys a b. (rw (a.0, b.0) refl, b.1 ∙ a.1);
      idle_none = λ h v w xs o i. o.0;
      idle_stays = λ h v w xs o i. o.1 ∙ i;
      clean_before = λ h v w xs o y. tt;
    }

-- what nobody or somebody else has is none of this hart's
pub held_by : {A : Type 0} (o : Option ℕ) (h : ℕ) (x y : A) → if_held o h x ≡ Some y → (o ≡ Some h) × (x ≡ y)
held_by None h x y e = cc
held_by {A} (Some g) h x y e = at (nat_eq g h) refl e
  where
    at : (b : Bool) → nat_eq g h ≡ b → (if b then Some x else None) ≡ Some y → (◌≡◌ {A = Option ℕ} (Some g) (Some h)) × (x ≡ y)
    at true t q = (ap Some (eqb-true g h t), cc)
    at false t q = cc

pub held : {A : Type 0} (h : ℕ) (x : A) → if_held (Some h) h x ≡ Some x
held h x = rw (eq-eqb h h refl) refl

pub not_held : {A : Type 0} (g h : ℕ) (x : A) → g ≢ h → if_held (Some h) g x ≡ None
not_held g h x ne = rw (ne_eqb h g (λ e. ne (sym e))) refl

-- who has no lock waits for another hart
pub out_of : {A : Type 0} (g h : ℕ) (x : A) → if_held (Some g) h x ≡ None → g ≢ h
out_of {A} g h x e q = let f : ◌≡◌ {A = Option A} (Some x) None = sym (held h x) ∙ ap (λ (z : ℕ). if_held (Some z) h x) (sym q) ∙ e in cc

pub own_mine : (h : ℕ) (e : Step) → own h (placed_by h (Some e)) ≡ e ∷ []
own_mine h e = rw (eq-eqb h h refl) refl

pub own_other : (g h : ℕ) (m : Option Step) → g ≢ h → own g (placed_by h m) ≡ []
own_other g h None ne = refl
own_other g h (Some e) ne = rw (ne_eqb h g (λ q. ne (sym q))) refl

-- the holder's numbers are nobody else's
pub others_keep : (h g : ℕ) (o : Option ℕ) (x y : ℕ × ℕ) → o ≡ Some h → g ≢ h → if_held o g x ≡ if_held o g y
others_keep h g o x y e ne = rw e (not_held g h x ne ∙ sym (not_held g h y ne))

-- what is owned stays until the operation runs
pub s-owned : {A : Type 0} {h : ℕ} {op : Op} {m : Answer op → Option Step} {k : Answer op → P A} {B : List Step → Type 0} {Q : A → List Step → World → Type 0} {n : ℕ} {es : List Step} {w : World}
    → 0 < n → ((v : World) → own_of h v ≡ own_of h w → Inv v → may h op v.cell)
    → ((v : World) (x : Outside) → own_of h v ≡ own_of h w → Inv v → honest h op v.cell x
    → Good machine (Answer op) h (λ a. placed_by h (m a)) 0 n B es v (MayWait h op v) (go h x op m v) (λ l a u. Wp machine h B Q (k a) l (onto (own h (placed_by h (m a))) es) u))
    → Safe machine h B Q (Do op m k) n es w
s-owned few f g = s-op few (λ v xs o. o.0) (λ v o i. f v o.1 i) (λ v x o i t. g v x o.1 i t)

pub s-take : {A : Type 0} {h : ℕ} {k : Unit {0} → P A} {B : List Step → Type 0} {Q : A → List Step → World → Type 0} {n : ℕ} {es : List Step} {w : World}
    → own_of h w ≡ None → 0 < n → ((l x : ℕ) (u : World) → l + 1 ≡ n → own_of h u ≡ Some (x, x) → Safe machine h B Q (k tt) l es u)
    → Safe machine h B Q (Do Take unmarked k) n es w
s-take {A} {h} {k} {B} {Q} {n} {es} {w} none few then_ = s-owned few (λ v o inv. tt) (λ v x o inv t. at v inv (o ∙ none) v.cell.holder refl)
  where
    at : (v : World) → Inv v → own_of h v ≡ None → (x : Option ℕ) → v.cell.holder ≡ x
        → Good machine (Unit {0}) h (λ a. []) 0 n B es v (IsOut h v.cell.holder) (with_value unmarked v.value (elim x as (λ y. ExecResult (Unit {0}) Cell) [ None ↦ Ran tt (record (v.cell) { holder = Some h }) | Some g ↦ Waits ])) (λ l a u. Wp machine h B Q (k a) l es u)
    at v inv own None e =
        record {
          inv = (inv.0, λ q. (let c : ◌≡◌ {A = Option ℕ} (Some h) None = q in cc));
          kept = λ other ne. (refl, not_held other h (v.cell.count, v.value) ne ∙ sym (ap (λ (z : Option ℕ). if_held z other (v.cell.count, v.value)) e));
          goes = λ y. refl;
          clean = λ y. y;
          begun = λ y. inl refl;
          left = n - 1;
          falls = omega (arith, few);
          next = (then_ (n - 1) v.cell.count _ (omega (arith, few)) (held h (v.cell.count, v.value) ∙ ap (λ (z : ℕ). Some (v.cell.count, z)) (inv.1 e))).wp;
        }
    at v inv own (Some g) e = (g, out_of g h (v.cell.count, v.value) (ap (λ (z : Option ℕ). if_held z h (v.cell.count, v.value)) (sym e) ∙ own), e)

-- if the device fails in the lock's hand, the world stops with one byte or another
broke : {h : ℕ} {v : World} → Inv v → v.cell.holder ≡ Some h → (k : ℕ) → k < 256 → Halts machine h v (record { cell = failed v.cell k; value = v.value })
broke {h} {v} inv is k small =
    record {
      halted = (small, λ q. (let c : ◌≡◌ {A = Option ℕ} (Some h) None = sym is ∙ q in cc));
      kept = λ other ne. (refl, others_keep h other v.cell.holder (k, v.value) (v.cell.count, v.value) is ne);
      tree = λ y. refl;
      clean = λ y. y;
    }

pub s-fetch : {A : Type 0} {h : ℕ} {k : ℕ → P A} {B : List Step → Type 0} {Q : A → List Step → World → Type 0} {n x : ℕ} {es : List Step} {w : World}
    → own_of h w ≡ Some (x, x) → 0 < n → ((l : ℕ) (u : World) → l + 1 ≡ n → own_of h u ≡ Some (x, x) → Safe machine h B Q (k x) l es u)
    → Safe machine h B Q (Do Fetch unmarked k) n es w
s-fetch {A} {h} {k} {B} {Q} {n} {x} {es} {w} mine few then_ =
    s-owned few
    (λ v o inv. ((held_by v.cell.holder h (v.cell.count, v.value) (x, x) (o ∙ mine)).0, inv.0))
    (λ v y o inv t. at v (o ∙ mine) inv (held_by v.cell.holder h (v.cell.count, v.value) (x, x) (o ∙ mine)) y t)
  where
    at : (v : World) → own_of h v ≡ Some (x, x) → Inv v → (v.cell.holder ≡ Some h) × (◌≡◌ {A = ℕ × ℕ} (v.cell.count, v.value) (x, x)) → (y : Outside) → LeavesIt v.cell.count y
        → Good machine ℕ h (λ a. []) 0 n B es v ⊥ (with_value unmarked v.value (fetch_if v.cell y)) (λ l a u. Wp machine h B Q (k a) l es u)
    at v o inv is (Fails j) t = broke inv is.0 j (subst (λ (z : ℕ). z < 256) (sym t) inv.0)
    at v o inv is Passes t =
        record {
          inv = inv;
          kept = λ other ne. (refl, refl);
          goes = λ y. refl;
          clean = λ y. y;
          begun = λ y. inl refl;
          left = n - 1;
          falls = omega (arith, few);
          next = subst (λ (z : ℕ). Wp machine h B Q (k z) (n - 1) es v) (ap (λ (p : ℕ × ℕ). p.0) (sym is.1)) (then_ (n - 1) v (omega (arith, few)) o).wp;
        }

-- the same, when the number is seen
pub s-see : {A : Type 0} {h : ℕ} {k : ℕ → P A} {B : List Step → Type 0} {Q : A → List Step → World → Type 0} {n x : ℕ} {es : List Step} {w : World}
    → own_of h w ≡ Some (x, x) → 0 < n → B (Saw x ∷ es) → ((l : ℕ) (u : World) → l + 1 ≡ n → own_of h u ≡ Some (x, x) → Safe machine h B Q (k x) l (Saw x ∷ es) u)
    → Safe machine h B Q (Do Fetch (λ y. Some (Saw y)) k) n es w
s-see {A} {h} {k} {B} {Q} {n} {x} {es} {w} mine few begins then_ =
    s-owned few
    (λ v o inv. ((held_by v.cell.holder h (v.cell.count, v.value) (x, x) (o ∙ mine)).0, inv.0))
    (λ v y o inv t. at v (o ∙ mine) inv (held_by v.cell.holder h (v.cell.count, v.value) (x, x) (o ∙ mine)) y t)
  where
    at : (v : World) → own_of h v ≡ Some (x, x) → Inv v → (v.cell.holder ≡ Some h) × (◌≡◌ {A = ℕ × ℕ} (v.cell.count, v.value) (x, x)) → (y : Outside) → LeavesIt v.cell.count y
        → Good machine ℕ h (λ a. (h, Saw a) ∷ []) 0 n B es v ⊥ (with_value (λ a. Some (Saw a)) v.value (fetch_if v.cell y)) (λ l a u. Wp machine h B Q (k a) l (onto (own h ((h, Saw a) ∷ [])) es) u)
    at v o inv is (Fails j) t = broke inv is.0 j (subst (λ (z : ℕ). z < 256) (sym t) inv.0)
    at v o inv is Passes t =
        let count : v.cell.count ≡ x = ap (λ (p : ℕ × ℕ). p.0) is.1 in
        let value : v.value ≡ x = ap (λ (p : ℕ × ℕ). p.1) is.1 in
        record {
          inv = inv;
          kept = λ other ne. (own_other other h (Some (Saw v.cell.count)) ne, refl);
          goes = λ y. (v.value, (count ∙ sym value, refl), refl);
          clean = λ y. y;
          begun = λ y. inr (subst (λ (zs : List Step). B (onto zs es)) (sym (own_mine h (Saw v.cell.count))) (subst (λ (z : ℕ). B (Saw z ∷ es)) (sym count) begins));
          left = n - 1;
          falls = omega (arith, few);
          next = subst (λ (zs : List Step). Wp machine h B Q (k v.cell.count) (n - 1) (onto zs es) v) (sym (own_mine h (Saw v.cell.count))) (subst (λ (z : ℕ). Wp machine h B Q (k z) (n - 1) (Saw z ∷ es) v) (sym count) (then_ (n - 1) v (omega (arith, few)) o).wp);
        }

abbrev stored : ℕ → World → World
stored j v = record { cell = record { holder = v.cell.holder; count = j; faults = v.cell.faults }; value = j }

pub s-store : {A : Type 0} {h : ℕ} {j : ℕ} {k : Unit {0} → P A} {B : List Step → Type 0} {Q : A → List Step → World → Type 0} {n x : ℕ} {es : List Step} {w : World}
    → own_of h w ≡ Some (x, x) → j < 256 → 0 < n → B (Swapped j x ∷ es) → ((l : ℕ) (u : World) → l + 1 ≡ n → own_of h u ≡ Some (j, j) → Safe machine h B Q (k tt) l (Swapped j x ∷ es) u)
    → Safe machine h B Q (Do (Store j) (λ _. Some (Swapped j x)) k) n es w
s-store {A} {h} {j} {k} {B} {Q} {n} {x} {es} {w} mine small few begins then_ =
    s-owned few (λ v o inv. ((held_by v.cell.holder h (v.cell.count, v.value) (x, x) (o ∙ mine)).0, small))
    (λ v y o inv t. at v inv (held_by v.cell.holder h (v.cell.count, v.value) (x, x) (o ∙ mine)) y t)
  where
    at : (v : World) → Inv v → (v.cell.holder ≡ Some h) × (◌≡◌ {A = ℕ × ℕ} (v.cell.count, v.value) (x, x)) → (y : Outside) → LeavesOne v.cell.count j y
        → Good machine (Unit {0}) h (λ a. (h, Swapped j x) ∷ []) 0 n B es v ⊥ (with_value (λ _. Some (Swapped j x)) v.value (store_if j v.cell y)) (λ l a u. Wp machine h B Q (k a) l (onto (own h ((h, Swapped j x) ∷ [])) es) u)
    at v inv is (Fails k) t = broke inv is.0 k (byte k t)
      where
        -- whichever of the two it leaves is a byte
        byte : (k : ℕ) → (k ≡ v.cell.count) ⊎ (k ≡ j) → k < 256
        byte k (inl e) = let b : v.cell.count < 256 = inv.0 in omega arith
        byte k (inr e) = omega (arith, small)
    at v inv is Passes t =
        record {
          inv = (small, λ q. (let c : ◌≡◌ {A = Option ℕ} (Some h) None = sym is.0 ∙ q in cc));
          kept = λ other ne. (own_other other h (Some (Swapped j x)) ne, others_keep h other v.cell.holder (j, j) (v.cell.count, v.value) is.0 ne);
          goes = λ y. (j, (sym (ap (λ (p : ℕ × ℕ). p.1) is.1), refl), refl);
          clean = λ y. y;
          begun = λ y. inr (subst (λ (zs : List Step). B (onto zs es)) (sym (own_mine h (Swapped j x))) begins);
          left = n - 1;
          falls = omega (arith, few);
          next = subst (λ (zs : List Step). Wp machine h B Q (k tt) (n - 1) (onto zs es) (stored j v)) (sym (own_mine h (Swapped j x))) (then_ (n - 1) (stored j v) (omega (arith, few)) (ap (λ (z : Option ℕ). if_held z h (j, j)) is.0 ∙ held h (j, j))).wp;
        }

pub s-drop : {A : Type 0} {h : ℕ} {k : Unit {0} → P A} {B : List Step → Type 0} {Q : A → List Step → World → Type 0} {n x : ℕ} {es : List Step} {w : World}
    → own_of h w ≡ Some (x, x) → 0 < n → ((l : ℕ) (u : World) → l + 1 ≡ n → own_of h u ≡ None → Safe machine h B Q (k tt) l es u)
    → Safe machine h B Q (Do Drop unmarked k) n es w
s-drop {A} {h} {k} {B} {Q} {n} {x} {es} {w} mine few then_ =
    s-owned few
    (λ v o inv. (held_by v.cell.holder h (v.cell.count, v.value) (x, x) (o ∙ mine)).0)
    (λ v y o inv t.
    let is = held_by v.cell.holder h (v.cell.count, v.value) (x, x) (o ∙ mine) in
    record {
      inv = (inv.0, λ q. ap (λ (p : ℕ × ℕ). p.1) is.1 ∙ sym (ap (λ (p : ℕ × ℕ). p.0) is.1));
      kept = λ other ne. (refl, sym (ap (λ (z : Option ℕ). if_held z other (v.cell.count, v.value)) is.0 ∙ not_held other h (v.cell.count, v.value) ne));
      goes = λ y. refl;
      clean = λ y. y;
      begun = λ y. inl refl;
      left = n - 1;
      falls = omega (arith, few);
      next = (then_ (n - 1) _ (omega (arith, few)) refl).wp;
    })

-- a call's proof is its program again, a line an operation
pub swap_ok : (h j : ℕ) (w : World) → j < 256 → own_of h w ≡ None → Safe machine h (Begun swaps (Swap j)) (Ends swaps h (Swap j)) (program (Swap j)) 4 [] w
swap_ok h j w small idle =
    s-take idle (omega arith) (λ l1 x u1 q1 own1.
    s-fetch own1 (omega arith) (λ l2 u2 q2 own2.
    s-store own2 small (omega arith) ([], x, refl) (λ l3 u3 q3 own3.
    s-drop own3 (omega arith) (λ l4 u4 q4 own4. record { wp = (λ y. refl, own4) }))))

pub look_ok : (h : ℕ) (w : World) → own_of h w ≡ None → Safe machine h (Begun swaps Look) (Ends swaps h Look) (program Look) 3 [] w
look_ok h w idle =
    s-take idle (omega arith) (λ l1 x u1 q1 own1.
    s-see own1 (omega arith) ([], x, refl) (λ l2 u2 q2 own2.
    s-drop own2 (omega arith) (λ l3 u3 q3 own3. record { wp = (λ y. refl, own3) })))

-- a start changes nothing here, so what is idle is idle still
pub right : (h : ℕ) (call : Call) (busy : ℕ → Bool) (w u : World) → ((other : ℕ) → busy other ≡ false → own_of other w ≡ None) → busy h ≡ false → w ≡ u
    → IsBeginning swaps call [] → (own_of h u ≡ None → Safe machine h (Begun swaps call) (Ends swaps h call) (program call) (swaps.limit call) [] u) → Right swaps h call busy w u
right h call busy w u idle free is first runs =
    record {
      inv = λ i. subst Inv is i;
      halted = λ i. subst Inv is i;
      kept = λ other ne b. (refl, ap (own_of other) (sym is));
      rests = λ other ne b. subst (λ (x : World). own_of other x ≡ None) is (idle other b);
      tree = ap (λ (x : World). x.value) (sym is);
      clean = λ y. y;
      none = λ y. first;
      runs = λ i. (runs (subst (λ (x : World). own_of h x ≡ None) is (idle h free))).wp;
    }

begun_same : (b c : Bool) (w u : World) → ◌≡◌ {A = Began Refusal World} (begin_if b c w) (Begins u) → (c ≡ true) × (w ≡ u)
begun_same true true w u e = (refl, cc)
begun_same true false w u e = cc
begun_same false c w u e = cc

pub lawful : Lawful swaps
lawful = record { laws = laws; calls = λ h call busy w u holds idle free e. (let x = begun_same (nat_lt h 8) (fits call) w u e in call_ok h call busy w u idle free x.0 x.1) }
  where
    call_ok : (h : ℕ) (call : Call) (busy : ℕ → Bool) (w u : World) → ((other : ℕ) → busy other ≡ false → own_of other w ≡ None) → busy h ≡ false → fits call ≡ true → w ≡ u → Right swaps h call busy w u
    call_ok h (Swap j) busy w u idle free small is = right h (Swap j) busy w u idle free is (Swapped j 0 ∷ [], 0, refl) (swap_ok h j u (ltb-true j 256 small))
    call_ok h Look busy w u idle free small is = right h Look busy w u idle free is (Saw 0 ∷ [], 0, refl) (look_ok h u)

pub any_run : (w : World) (events : List (Event Call Outside)) → Inv w → ((h : ℕ) → own_of h w ≡ None) → AllHonest swaps events (fresh swaps w) → IsExplained swaps w.value (run swaps events (fresh swaps w))
any_run w events inv idle honest = explains swaps lawful w events inv idle honest

-- the only step that an operation places is its own
pub places_one : PlacesOne machine
places_one h op a None w inv = omega arith
places_one h op a (Some e) w inv = rw (own_mine h e) (omega arith)
