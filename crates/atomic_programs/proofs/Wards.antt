-- What a start reserves is reserved in both worlds, and its call is a run of its operations above.
use Rattle.atomic_programs.proofs.Vocabulary.{◌≡◌, ◌≢◌, ◌<◌, ◌+◌, ◌⊎◌, inl, inr, ℕ, Bool, true, false, Option, Some, None, List, [], ◌∷◌, refl, sym, ◌∙◌, ap, subst, arith, nat_eq, eqb-false, eq-eqb, ne_eqb, Ret, once, unmarked, Stops, exec_result_in, asks, onto, own, Machine, Fine, Wp, Safe, Laws, Began, Begins, Begun, Ends, Right, Lawful, Event, AllHonest, run, fresh, is_some, IsExplained, IsCore, operations, Both, joined, LowerLaws, holding, Below, Atomic, BeginsBoth, StartsBoth, put, if_held, given, unless_ward, reserved, start, gifts, Peek, Fill, Release, LowAnswer, gifts_above, gifts_noted}
use Rattle.atomic_programs.proofs.Basics.{s-op, operations_laws, s-silent, acted, s-act, operations_below, refined, put_same, put_other, same_or, put_elim, Ours, not_held, held_is, held_here, ours_is}
use Rattle.atomic_programs.proofs.Noted.{refined_within}
use Rattle.atomic_programs.specs.Wards.{World, Op, Give, Free, Answer, exec, Mine, machine, Refusal, unless, core, Shows, Base, low, LowOp, handler, rest}

-- a ward stays one, with its purse
ward_stays : (h j : ℕ) (v w : World) → Mine h v w → v.ward j ≡ Some h → (w.ward j ≡ Some h) × (w.purse j ≡ v.purse j)
ward_stays h j v w m e = held_is h (w.ward j) (w.purse j) (v.purse j) (m.wards j ∙ ap (λ (o : Option ℕ). if_held o h (v.purse j)) e ∙ held_here h (v.purse j))

ward_was : (h j : ℕ) (v w : World) → Mine h v w → w.ward j ≡ Some h → v.ward j ≡ Some h
ward_was h j v w m e = (held_is h (v.ward j) (v.purse j) (w.purse j) (sym (m.wards j) ∙ ap (λ (o : Option ℕ). if_held o h (w.purse j)) e ∙ held_here h (w.purse j))).0

mine_same : (h : ℕ) (w : World) → Mine h w w
mine_same h w = record { wards = λ j. refl; self = λ e. (e, refl) }

mine_trans : (h : ℕ) (u v w : World) → Mine h u v → Mine h v w → Mine h u w
mine_trans h u v w a b = record { wards = λ j. b.wards j ∙ a.wards j; self = λ e. (let x = a.self e in let y = b.self x.0 in (y.0, y.1 ∙ x.1)) }

laws : Laws machine
laws =
    record {
      same = λ h w. (refl, mine_same h w);
      trans = λ h u v w xs ys a b. (rw (a.0, b.0) refl, mine_trans h u v w a.1 b.1);
      idle_none = λ h v w xs o i. o.0;
      idle_stays = λ h v w xs o i j e. i j (ward_was h j v w o.1 e);
      clean_before = λ h v w xs o y. y;
    }

low_laws : LowerLaws machine low
low_laws =
    record {
      same = mine_same;
      trans = mine_trans;
      kept = λ h g u xs o. o.1;
      base = λ h v w g u hand s k b j e.
          let was = ward_was h j v w s e in
          let x = b j was in
          let y = ward_stays h j g u k x.0 in
          (y.0, y.1 ∙ x.1 ∙ sym (ward_stays h j v w s was).1);
      idle = λ h w g hand inv i b. b;
    }

-- a step of hart h that changes nothing but one of its wards, or that a hart becomes or was one
record WardStep (h j : ℕ) (v w : World) : Type 0 where
  here : Ours h (v.ward j) × Ours h (w.ward j)
  there : (k : ℕ) → k ≢ j → (w.ward k ≡ v.ward k) × (w.purse k ≡ v.purse k)
  -- a hart that nobody had reserved, and is other, has its purse
  lone : v.ward j ≡ None → (w.ward j ≡ None) × (w.purse j ≡ v.purse j)

did_mine : (h j : ℕ) (v w : World) → WardStep h j v w → (g : ℕ) → g ≢ h → Mine g v w
did_mine h j v w did g ne =
    record {
      wards = λ k. elim (same_or k j) [
        | inl e ↦ subst (λ (z : ℕ). if_held (w.ward z) g (w.purse z) ≡ if_held (v.ward z) g (v.purse z)) (sym e) (not_held h g (w.ward j) (w.purse j) did.here.1 ne ∙ sym (not_held h g (v.ward j) (v.purse j) did.here.0 ne))
        | inr n ↦ let t = did.there k n in λ i. if_held (t.0 i) g (t.1 i)
      ];
      self = λ e. elim (same_or g j) [
        | inl q ↦ subst (λ (z : ℕ). (w.ward z ≡ None) × (w.purse z ≡ v.purse z)) (sym q) (did.lone (ap v.ward (sym q) ∙ e))
        | inr n ↦ let t = did.there g n in (t.0 ∙ e, t.1)
      ];
    }

taken_not : (h j : ℕ) (v : World) {A : Type 0} → v.ward j ≡ Some h → v.ward j ≡ None → A
taken_not h j v e n = absurd (let c : ◌≡◌ {A = Option ℕ} (Some h) None = sym e ∙ n in cc)

did_fill : (h j x : ℕ) (v : World) → v.ward j ≡ Some h → WardStep h j v (record v { purse = put v.purse j x })
did_fill h j x v e =
    record {
      here = (ours_is h (v.ward j) (inr e), ours_is h (v.ward j) (inr e));
      there = λ k n. (refl, put_other v.purse j x k n);
      lone = λ n. taken_not h j v e n;
    }

did_free : (h j : ℕ) (v : World) → v.ward j ≡ Some h → WardStep h j v (record v { ward = put v.ward j None })
did_free h j v e =
    record {
      here = (ours_is h (v.ward j) (inr e), ours_is h (put v.ward j None j) (inl (put_same v.ward j None)));
      there = λ k n. (put_other v.ward j None k n, refl);
      lone = λ n. taken_not h j v e n;
    }

-- The call is right above.
record Guards (h j : ℕ) (w : World) : Type 0 where
  pub ward : w.ward j ≡ Some h
  pub only : (k : ℕ) → k ≢ j → w.ward k ≢ Some h
  pub self : w.ward h ≡ None

guards_stay : (h j : ℕ) (v w : World) → Mine h v w → Guards h j v → Guards h j w
guards_stay h j v w m g = record { ward = (ward_stays h j v w m g.ward).0; only = λ k n e. g.only k n (ward_was h k v w m e); self = (m.self g.self).0 }

quiet : {h more n : ℕ} {B : List (Unit {0}) → Type 0} {es : List (Unit {0})} {v u : World} {Next : ℕ → Type 0} (l : ℕ) → l + more < n → ((g : ℕ) → g ≢ h → Mine g v u) → Next l → Fine machine h [] more n B es v u Next
quiet l falls mine next =
    record { inv = tt; kept = λ g ne. (refl, mine g ne); goes = λ y. absurd y; clean = λ y. y; begun = λ y. absurd y; left = l; falls = falls; next = next }

module _ (h j : ℕ) where
  free_ok : (w : World) → Guards h j w → Safe machine h (Begun gifts j) (Ends gifts h j) (once (Free j) unmarked) 1 [] w
  free_ok w p =
      s-op (omega arith) (λ v xs y. y.0) (λ v y i. (guards_stay h j w v y.1 p).ward)
      (λ v x y i t. let q = guards_stay h j w v y.1 p in
      quiet 0 (omega arith) (did_mine h j v (record v { ward = put v.ward j None }) (did_free h j v q.ward))
      ((λ c. tt), λ k. put_elim v.ward j None k (λ z. z ≢ Some h) (λ e n. cc) (λ ne. q.only k ne)))

  gift_ok : (w : World) → Guards h j w → Safe machine h (Begun gifts j) (Ends gifts h j) (gifts.program j) 3 [] w
  gift_ok w p =
      s-op (omega arith) (λ v xs y. y.0) (λ v y i. (let q = guards_stay h j w v y.1 p in (q.ward, q.self)))
      (λ v x y i t. let q = guards_stay h j w v y.1 p in
      quiet 1 (omega arith) (did_mine h j v (record v { purse = given h j v.purse }) (did_fill h j (v.purse h) v q.ward))
      (free_ok (record v { purse = given h j v.purse }) (record { ward = q.ward; only = q.only; self = q.self })).wp)

-- what a start that begins has found
record Found (h j : ℕ) (busy : ℕ → Bool) (w u : World) : Type 0 where
  pub self : w.ward h ≡ None
  pub apart : j ≢ h
  pub free : busy j ≡ false
  pub none : w.ward j ≡ None
  pub is : reserved h j w ≡ u

begins_is : (w u : World) → ◌≡◌ {A = Began Refusal World} (Begins w) (Begins u) → w ≡ u
begins_is w u e = cc

found : (h j : ℕ) (busy : ℕ → Bool) (w u : World) → start h j busy w ≡ Begins u → Found h j busy w u
found h j busy w u e = first (w.ward h) refl e
  where
    last : w.ward h ≡ None → j ≢ h → busy j ≡ false → (o : Option ℕ) → w.ward j ≡ o → unless_ward o (Begins (reserved h j w)) ≡ Begins u → Found h j busy w u
    last self ne free None q e = record { self = self; apart = ne; free = free; none = q; is = begins_is (reserved h j w) u e }
    last self ne free (Some g) q e = cc

    third : w.ward h ≡ None → j ≢ h → (b : Bool) → busy j ≡ b → unless b (unless_ward (w.ward j) (Begins (reserved h j w))) ≡ Begins u → Found h j busy w u
    third self ne true q e = cc
    third self ne false q e = last self ne q (w.ward j) refl e

    second : w.ward h ≡ None → (b : Bool) → nat_eq j h ≡ b → unless b (unless (busy j) (unless_ward (w.ward j) (Begins (reserved h j w)))) ≡ Begins u → Found h j busy w u
    second self true q e = cc
    second self false q e = third self (eqb-false j h q) (busy j) refl e

    first : (o : Option ℕ) → w.ward h ≡ o → unless_ward o (unless (nat_eq j h) (unless (busy j) (unless_ward (w.ward j) (Begins (reserved h j w))))) ≡ Begins u → Found h j busy w u
    first None q e = second q (nat_eq j h) refl e
    first (Some g) q e = cc

-- the hart that is reserved has no call, so a call under way keeps what it has
reserved_keeps : (h j : ℕ) (busy : ℕ → Bool) (w : World) → busy j ≡ false → w.ward j ≡ None → (other : ℕ) → other ≢ h → busy other ≡ true → Mine other w (reserved h j w)
reserved_keeps h j busy w free none other ne b =
    record {
      wards = λ k. elim (same_or k j) [
        | inl e ↦ subst (λ (z : ℕ). if_held (put w.ward j (Some h) z) other (w.purse z) ≡ if_held (w.ward z) other (w.purse z)) (sym e)
            (not_held h other (put w.ward j (Some h) j) (w.purse j) (ours_is h (put w.ward j (Some h) j) (inr (put_same w.ward j (Some h)))) ne ∙ sym (not_held h other (w.ward j) (w.purse j) (ours_is h (w.ward j) (inl none)) ne))
        | inr n ↦ ap (λ (o : Option ℕ). if_held o other (w.purse k)) (put_other w.ward j (Some h) k n)
      ];
      self = λ e. (put_other w.ward j (Some h) other (λ q. (let c : true ≡ false = sym b ∙ ap busy q ∙ free in cc)) ∙ e, refl);
    }

still_idle : (h j other : ℕ) (w : World) → other ≢ h → ((k : ℕ) → w.ward k ≢ Some other) → (k : ℕ) → put w.ward j (Some h) k ≢ Some other
still_idle h j other w ne idle k = put_elim w.ward j (Some h) k (λ z. z ≢ Some other) (λ e n. ne (let c : ◌≡◌ {A = Option ℕ} (Some h) (Some other) = n in cc)) (λ n. idle k)

lawful : Lawful gifts
lawful =
    record {
      laws = laws;
      calls = λ h j busy w u holds idle free e.
          let f = found h j busy w u e in
          subst (λ (z : World). Right gifts h j busy w z) f.is
          (record {
            inv = λ i. i;
            halted = λ i. i;
            kept = λ other ne b. (refl, reserved_keeps h j busy w f.free f.none other ne b);
            rests = λ other ne b. still_idle h j other w ne (idle other b);
            tree = refl;
            clean = λ y. y;
            none = λ y. absurd y;
            runs = λ i.
                (gift_ok h j (reserved h j w)
                (record {
                  ward = put_same w.ward j (Some h);
                  only = λ k n q. idle h free k (sym (put_other w.ward j (Some h) k n) ∙ q);
                  self = put_other w.ward j (Some h) h (λ q. f.apart (sym q)) ∙ f.self;
                })).wp;
          });
    }

-- A start below reserves in both worlds.
starts_both : StartsBoth gifts low start
starts_both h j busy r s g holds inv idle free e =
    let f = found h j busy r s e in
    let wards = wards_of holds in
    subst (λ (z : World). BeginsBoth gifts low h j busy r z g) f.is
    (record {
      above = reserved h j g;
      begins = begins_above (wards h ∙ f.self) (wards j ∙ f.none) f.apart f.free;
      shows = shown f.none;
      halted = shown f.none;
      kept = reserved_keeps h j busy r f.free f.none;
      rests = λ other b k q. based f.none other (idle other b).0 (idle other b).1 k q;
    })
  where
    wards_of : Shows r g ⊎ Shows r g → (k : ℕ) → g.ward k ≡ r.ward k
    wards_of (inl x) = x.wards
    wards_of (inr x) = x.wards

    agree : Shows r g ⊎ Shows r g → Shows r g
    agree (inl x) = x
    agree (inr x) = x

    begins_above : g.ward h ≡ None → g.ward j ≡ None → j ≢ h → busy j ≡ false → start h j busy g ≡ Begins (reserved h j g)
    begins_above a b ne q = rw (a, ne_eqb j h ne, q, b) refl

    shown : r.ward j ≡ None → Shows r g → Shows (reserved h j r) (reserved h j g)
    shown none x =
        record {
          wards = λ k. elim (same_or k j) [
            | inl e ↦ ap (put g.ward j (Some h)) e ∙ put_same g.ward j (Some h) ∙ sym (put_same r.ward j (Some h)) ∙ ap (put r.ward j (Some h)) (sym e)
            | inr n ↦ put_other g.ward j (Some h) k n ∙ x.wards k ∙ sym (put_other r.ward j (Some h) k n)
          ];
          purses = λ k e. elim (same_or k j) [
            | inl q ↦ absurd (let c : ◌≡◌ {A = Option ℕ} (Some h) None = sym (put_same r.ward j (Some h)) ∙ ap (put r.ward j (Some h)) (sym q) ∙ e in cc)
            | inr n ↦ x.purses k (sym (put_other r.ward j (Some h) k n) ∙ e)
          ];
        }

    -- the new ward's purse is as it was, if nobody had it
    based : r.ward j ≡ None → (other : ℕ) → Base other r g → ((k : ℕ) → g.ward k ≢ Some other) → Base other (reserved h j r) (reserved h j g)
    based none other base idle_ k e = elim (same_or k j) [
      | inl q ↦ (ap (put g.ward j (Some h)) q ∙ put_same g.ward j (Some h) ∙ sym (put_same r.ward j (Some h)) ∙ ap (put r.ward j (Some h)) (sym q) ∙ e, ap g.purse q ∙ (agree holds).purses j none ∙ ap r.purse (sym q))
      | inr n ↦ let b = base k (sym (put_other r.ward j (Some h) k n) ∙ e) in (put_other g.ward j (Some h) k n ∙ b.0, b.1)
    ]

is_core : IsCore gifts core
is_core =
    record {
      may = λ h op w m. tt;
      honest = λ h op w x t. tt;
      goes = goes;
      stops = stops;
      starts = λ h j busy w u e. (let f = found h j busy w u e in ap (λ (z : World). z.purse) (sym f.is));
      some = some;
    }
  where
    goes : (h : ℕ) (x : Unit {0}) (op : Op) (m : Answer op → Option (Unit {0})) (w : World) → exec_result_in core.of (exec h op w) ≡ core.go h x op w.purse
    goes h x (Give j) m w = refl
    goes h x (Free j) m w = refl

    stops : (h : ℕ) (x : Unit {0}) (op : Op) (t u : ℕ → ℕ) → core.go h x op t ≡ Stops u → u ≡ t
    stops h x (Give j) t u e = cc
    stops h x (Free j) t u e = cc

    some : (op : Op) → Answer op
    some (Give j) = tt
    some (Free j) = tt

-- Each operation's program acts at one moment, whichever history is kept.
module _ (h : ℕ) where
  abbrev U : Machine
  U = operations machine core

  abbrev D : Machine
  D = joined U low

  abbrev below : LowerLaws U low
  below = operations_below machine core low low_laws

  abbrev above : Laws U
  above = operations_laws machine core laws

  abbrev W : Type 0
  W = Both World World

  abbrev E : Type 0
  E = List U.Step

  give_atomic : (j : ℕ) (m : Unit {0} → Option (Unit {0})) → Atomic U low handler h (Give j) m
  give_atomic j m hand B C es w lasts todo base =
      s-act U low above below h B (Give j) m C lasts tt Peek (λ x. holding hand (once (Fill j x) unmarked)) (Below U low h C) 1 es w todo
      (λ v fs here may. (
        sym (here.shows.wards h) ∙ may.1,
        λ x t. (
          tt,
          record (v.seen) { purse = given h j v.seen.purse },
          refl,
          tt,
          (λ inv. record {
            wards = here.shows.wards;
            purses = λ k e. put_other v.seen.purse j (v.seen.purse h) k (λ q. taken_not h j v.real (sym (here.shows.wards j) ∙ may.0) (ap v.real.ward (sym q) ∙ e)) ∙ here.shows.purses k e;
          }),
          (λ other ne. mine_same other v.real),
          λ gs inv c.
              fill v (sym (here.shows.wards j) ∙ may.0) may.0 (here.shows.purses h (sym (here.shows.wards h) ∙ may.1)) (low_laws.base h w.real v.real w.seen v.seen hand here.same here.kept base) gs c,
        ),
      ))
    where
      -- the ward's purse is filled below, as it was above
      fill : (v : W) → v.real.ward j ≡ Some h → v.seen.ward j ≡ Some h → v.seen.purse h ≡ v.real.purse h → Base h v.real v.seen → (gs : E) → C tt gs (record (v.seen) { purse = given h j v.seen.purse })
          → Wp D h B (Below U low h C) (holding hand (once (Fill j (v.real.purse h)) unmarked)) 1 gs (record { real = v.real; seen = record (v.seen) { purse = given h j v.seen.purse } })
      fill v ward ward_above mine base gs c =
          s-silent U low above below h B (Fill j (v.real.purse h)) (λ a. Ret (record { answer = a; carry = hand })) (Below U low h C) (C tt) 0 gs (record { real = v.real; seen = record (v.seen) { purse = given h j v.seen.purse } }) (acted U low above below h B (Give j) m C lasts tt) c
          (λ u hs here. let is = ward_stays h j v.real u.real here.same ward in (
            is.0,
            λ x t. (
              record {
                wards = here.shows.wards;
                purses = λ k e. here.shows.purses k e ∙ sym (put_other u.real.purse j (v.real.purse h) k (λ q. taken_not h j u.real is.0 (ap u.real.ward (sym q) ∙ e)));
              },
              did_mine h j u.real (record (u.real) { purse = put u.real.purse j (v.real.purse h) }) (did_fill h j (v.real.purse h) u.real is.0),
              (
                here.stage,
                λ k e. elim (same_or k j) [
                  | inl q ↦
                      let y = ward_stays h j (record (v.seen) { purse = given h j v.seen.purse }) u.seen here.kept ward_above in
                      (ap u.seen.ward q ∙ y.0, ap u.seen.purse q ∙ y.1 ∙ put_same v.seen.purse j (v.seen.purse h) ∙ mine ∙ sym (put_same u.real.purse j (v.real.purse h)) ∙ ap (put u.real.purse j (v.real.purse h)) (sym q))
                  | inr n ↦
                      let was = ward_was h k v.real u.real here.same e in
                      let b = base k was in
                      let y = ward_stays h k (record (v.seen) { purse = given h j v.seen.purse }) u.seen here.kept b.0 in
                      (y.0, y.1 ∙ put_other v.seen.purse j (v.seen.purse h) k n ∙ b.1 ∙ sym (ward_stays h k v.real u.real here.same was).1 ∙ sym (put_other u.real.purse j (v.real.purse h) k n))
                ],
              ),
            ),
          ))

  free_atomic : (j : ℕ) (m : Unit {0} → Option (Unit {0})) → Atomic U low handler h (Free j) m
  free_atomic j m hand B C es w lasts todo base =
      s-act U low above below h B (Free j) m C lasts tt (Release j) (λ a. Ret (record { answer = a; carry = hand })) (Below U low h C) 0 es w todo
      (λ v fs here may.
      let ward : v.real.ward j ≡ Some h = sym (here.shows.wards j) ∙ may in
      let b = low_laws.base h w.real v.real w.seen v.seen hand here.same here.kept base in (
        ward,
        λ x t. (
          tt,
          record (v.seen) { ward = put v.seen.ward j None },
          refl,
          tt,
          (λ inv. record {
            wards = λ k. elim (same_or k j) [
              | inl e ↦ ap (put v.seen.ward j None) e ∙ put_same v.seen.ward j None ∙ sym (put_same v.real.ward j None) ∙ ap (put v.real.ward j None) (sym e)
              | inr n ↦ put_other v.seen.ward j None k n ∙ here.shows.wards k ∙ sym (put_other v.real.ward j None k n)
            ];
            purses = λ k e. elim (same_or k j) [
              | inl q ↦ ap v.seen.purse q ∙ (b j ward).1 ∙ ap v.real.purse (sym q)
              | inr n ↦ here.shows.purses k (sym (put_other v.real.ward j None k n) ∙ e)
            ];
          }),
          did_mine h j v.real (record (v.real) { ward = put v.real.ward j None }) (did_free h j v.real ward),
          λ gs inv c. (
            c,
            λ k e. elim (same_or k j) [
              | inl q ↦ absurd (let n : ◌≡◌ {A = Option ℕ} None (Some h) = sym (put_same v.real.ward j None) ∙ ap (put v.real.ward j None) (sym q) ∙ e in cc)
              | inr n ↦ let t = b k (sym (put_other v.real.ward j None k n) ∙ e) in (put_other v.seen.ward j None k n ∙ t.0, t.1)
            ],
          ),
        ),
      ))

  atomic : (op : Op) (m : Answer op → Option (Unit {0})) → Atomic U low handler h op m
  atomic (Give j) m = give_atomic j m
  atomic (Free j) m = free_atomic j m

-- A gift's program below places the gift, and nothing else, between its first step and its last.
module _ (h j : ℕ) (m : Unit {0} → Option (Unit {0})) where
  abbrev Gift : E h → Type 0
  Gift fs = fs ≡ (Give j, tt) ∷ []

  own_gift : ◌≡◌ {A = E h} (own h ((h, (Give j, tt)) ∷ [])) ((Give j, tt) ∷ [])
  own_gift = rw (eq-eqb h h refl) refl

  no_gift : (g : ℕ) → g ≢ h → ◌≡◌ {A = E h} (own g ((h, (Give j, tt)) ∷ [])) []
  no_gift g ne = rw (ne_eqb h g (λ q. ne (sym q))) refl

  gift_fine : (v : World) → v.ward j ≡ Some h → Fine (U h) h ((h, (Give j, tt)) ∷ []) 1 2 Gift [] v (record v { purse = given h j v.purse }) (λ l. Gift (onto (own h ((h, (Give j, tt)) ∷ [])) []))
  gift_fine v ward =
      record {
        inv = tt;
        kept = λ g ne. (no_gift g ne, ([], (refl, did_mine h j v (record v { purse = given h j v.purse }) (did_fill h j (v.purse h) v ward) g ne)));
        goes = λ y. (given h j v.purse, (tt, tt, tt, refl), refl);
        clean = λ y. tt;
        begun = λ y. inr (ap (λ (zs : E h). onto zs []) own_gift);
        left = 0;
        falls = omega arith;
        next = ap (λ (zs : E h). onto zs []) own_gift;
      }

  pub gives_once : (w : W h) → w.seen.ward j ≡ Some h → w.seen.ward h ≡ None → Base h w.real w.seen → Wp (D h) h Gift (λ a fs u. Gift fs × Base h u.real u.seen) (handler tt (Give j) m) 2 [] w
  gives_once w ward self base =
      give_atomic h j m tt Gift (λ a fs u. Gift fs) [] w
      (λ a fs xs v u o i c. ((λ y. inl o.0), subst (λ (zs : E h). Gift (onto zs fs)) (sym o.0) c))
      (λ v xs o i.
      let is = ward_stays h j w.seen v o.1.1.1 ward in (
        (λ y. inl o.0),
        (is.0, (o.1.1.1.self self).0),
        (λ x t. subst (λ (zs : E h). Fine (U h) h ((h, (Give j, tt)) ∷ []) 1 2 Gift (onto zs []) v (record v { purse = given h j v.purse }) (λ l. Gift (onto (own h ((h, (Give j, tt)) ∷ [])) (onto zs [])))) (sym o.0) (gift_fine v is.0)),
        omega arith,
      ))
      base

pub gifts_refined : (purse : ℕ → ℕ) (events : List (Event ℕ (Unit {0}))) → AllHonest gifts_above events (fresh gifts_above (rest purse)) → IsExplained gifts_above purse (run gifts_above events (fresh gifts_above (rest purse)))
gifts_refined purse events honest =
    refined gifts core low handler start lawful low_laws is_core starts_both (λ h can. atomic h) (rest purse) events (record { wards = λ k. refl; purses = λ k e. refl }) tt (λ h k e. absurd (let c : ◌≡◌ {A = Option ℕ} None (Some h) = e in cc)) (λ h k e. (let c : ◌≡◌ {A = Option ℕ} None (Some h) = e in cc)) honest

some_below : (op : LowOp) → LowAnswer op
some_below Peek = 0
some_below (Fill j x) = tt
some_below (Release j) = tt

-- each operation's program has a step
steps : (hand : Unit {0}) (op : Op) (m : Answer op → Option (Unit {0})) → is_some (asks (handler hand op m)) ≡ true
steps hand (Give j) m = refl
steps hand (Free j) m = refl

pub gifts_within : (purse : ℕ → ℕ) (events : List (Event ℕ (Unit {0}))) → AllHonest gifts_noted events (fresh gifts_noted (rest purse)) → IsExplained gifts_noted purse (run gifts_noted events (fresh gifts_noted (rest purse)))
gifts_within purse events honest =
    refined_within gifts core low handler start lawful low_laws is_core starts_both (λ h can. atomic h) some_below steps (rest purse) events (record { wards = λ k. refl; purses = λ k e. refl }) tt (λ h k e. absurd (let c : ◌≡◌ {A = Option ℕ} None (Some h) = e in cc)) (λ h k e. (let c : ◌≡◌ {A = Option ℕ} None (Some h) = e in cc)) honest
