-- A block is taken by two puts below, in one step above.
use Rattle.atomic_programs.proofs.Vocabulary.{◌≡◌, ◌≢◌, ◌<◌, ◌≤◌, ◌+◌, ◌⊎◌, inl, inr, ℕ, suc, zero, Bool, true, false, if◌then◌else◌, Option, Some, None, List, [], refl, sym, ◌∙◌, ap, subst, arith, Ret, Do, unmarked, ExecResult, Waits, Ran, Stops, exec_result_in, Machine, Fine, Good, Wp, Safe, Laws, Began, Begins, Begun, Ends, Right, Lawful, Event, AllHonest, run, fresh, IsExplained, IsCore, operations, operations_of, IsCode, BeginsBoth, StartsBoth, Lasts, Both, joined, LowerLaws, Below, Atomic, put, if_held, Above, Hold, Grab, Picks, hold_if, grabbed, exec_above, Kept, grabs, GetBits, PutBits, Zero, bits_if, lock_of, holder, TiedAt, low, first, grab_at, LowOp, low_may, grabs_above, rest, shared_of, lock_in, bits_in, exec_code, may_code, grabs_part, grabs_code}
use Rattle.atomic_programs.proofs.Basics.{s-op, operations_laws, operations_below, refined, is_code_part, Wp-holding, Here, Silent, s-silent, ToAct, to_act, acted, Acting, s-act, put_same, put_other, put_elim, same_or, Ours, ours_none, ours_some, not_held, held_is, held_here, none_is, not_mine, ours_is, ours_put, put_like}
use Rattle.atomic_programs.specs.Grab.{Op, Drop, Answer, machine, core, World, Lock, Unlock, lock_if, IsOut, Shows, Same, Base, handler, exec}

still : {A : Type 0} (h : ℕ) (o p : Option ℕ) (x y : A) → if_held p h y ≡ if_held o h x → o ≡ Some h → (p ≡ Some h) × (y ≡ x)
still h o p x y s e = held_is h p y x (s ∙ ap (λ (z : Option ℕ). if_held z h x) e ∙ held_here h x)

laws : Laws machine
laws =
    record {
      same = λ h w. (refl, (λ i. refl), λ c i a b. (a, b, refl));
      trans = λ h u v w xs ys a b. (rw (a.0, b.0) refl, (λ i. b.1 i ∙ a.1 i), λ c i o k. let x = a.2 c i o k in let y = b.2 c i x.0 x.1 in (y.0, y.1, y.2 ∙ x.2));
      idle_none = λ h v w xs o i. o.0;
      idle_stays = λ h v w xs o idle i. o.1 i ∙ idle i;
      clean_before = λ h v w xs o y. tt;
    }

tied_at : (h c : ℕ) (v w : World) (g u : Above) → Same h v w → Kept h g u → TiedAt h c v g → holder v c ≡ Some h → TiedAt h c w u
tied_at h c v w g u s k t e =
    let x : Option ℕ × ℕ = (v.owner c, v.block c) in
    let y : Option ℕ × ℕ = (w.owner c, w.block c) in
    let q = still h (holder v c) (holder w c) x y (s.blocks c) e in
    let n = k c t.0 t.2 t.3 in
    (t.0, ap (λ (p : Option ℕ × ℕ). p.0) q.1 ∙ t.1, n.0, n.1, n.2 ∙ t.4 ∙ sym (ap (λ (p : Option ℕ × ℕ). p.1) q.1))

held_before : (h c : ℕ) (v w : World) → Same h v w → holder w c ≡ Some h → holder v c ≡ Some h
held_before h c v w s e =
    let x : Option ℕ × ℕ = (v.owner c, v.block c) in
    let y : Option ℕ × ℕ = (w.owner c, w.block c) in
    (still h (holder w c) (holder v c) y x (sym (s.blocks c)) e).0

free_stays : (h : ℕ) (v w : World) → Same h v w → v.bits_out ≢ Some h → w.bits_out ≢ Some h
free_stays h v w s ne = none_is h w.bits_out w.bits (s.bits ∙ not_mine h v.bits_out v.bits ne)

low_laws : LowerLaws machine low
low_laws =
    record {
      same = λ h w. record { locks = λ i. refl; bits = refl; blocks = λ c. refl };
      trans = λ h u v w p q. record { locks = λ i. q.locks i ∙ p.locks i; bits = q.bits ∙ p.bits; blocks = λ c. q.blocks c ∙ p.blocks c };
      kept = λ h g u xs o. o.2;
      base = λ h v w g u hand s k b. record { free = free_stays h v w s b.free; tied = λ c e. let q = held_before h c v w s e in tied_at h c v w g u s k (b.tied c q) q };
      idle = λ h w g hand inv i b. b;
    }

-- a step of hart h that leaves all locks
record Changes (h : ℕ) (v r : World) : Type 0 where
  pub locks : r.lock ≡ v.lock
  pub bits : ((r.bits_out ≡ v.bits_out) × (r.bits ≡ v.bits)) ⊎ (Ours h v.bits_out × Ours h r.bits_out)
  pub blocks : (c : ℕ) → ((r.owner c ≡ v.owner c) × (r.block c ≡ v.block c)) ⊎ (Ours h (holder v c) × Ours h (holder r c))

did_same : (h : ℕ) (v r : World) → Changes h v r → (g : ℕ) → g ≢ h → Same g v r
did_same h v r did g ne =
    record { locks = λ i. ap (λ (f : ℕ → Option ℕ). if_held (f i) g i) did.locks; bits = bits did.bits; blocks = λ c. block c (did.blocks c) }
  where
    bits : ((r.bits_out ≡ v.bits_out) × (r.bits ≡ v.bits)) ⊎ (Ours h v.bits_out × Ours h r.bits_out) → if_held r.bits_out g r.bits ≡ if_held v.bits_out g v.bits
    bits (inl k) = λ j. if_held (k.0 j) g (k.1 j)
    bits (inr o) = not_held h g r.bits_out r.bits o.1 ne ∙ sym (not_held h g v.bits_out v.bits o.0 ne)

    block : (c : ℕ) → ((r.owner c ≡ v.owner c) × (r.block c ≡ v.block c)) ⊎ (Ours h (holder v c) × Ours h (holder r c))
        → if_held {A = Option ℕ × ℕ} (holder r c) g (r.owner c, r.block c) ≡ if_held {A = Option ℕ × ℕ} (holder v c) g (v.owner c, v.block c)
    block c (inl k) = λ j. if_held {A = Option ℕ × ℕ} (lock_of (did.locks j) (k.0 j)) g (k.0 j, k.1 j)
    block c (inr o) =
        let x : Option ℕ × ℕ = (r.owner c, r.block c) in
        let y : Option ℕ × ℕ = (v.owner c, v.block c) in
        not_held h g (holder r c) x o.1 ne ∙ sym (not_held h g (holder v c) y o.0 ne)

first_is : (z : ℕ → Bool) (k n c : ℕ) → first z k n ≡ Some c → z c ≡ false
first_is z k zero c e = absurd cc
first_is z k (suc n) c e = at (z k) refl (first_is z (suc k) n c) e
  where
    at : (t : Bool) → z k ≡ t → (first z (suc k) n ≡ Some c → z c ≡ false) → (if t then first z (suc k) n else Some k) ≡ Some c → z c ≡ false
    at true q later s = later s
    at false q later s = let p : k ≡ c = cc in subst (λ (j : ℕ). z j ≡ false) p q

none_is_free : (z : ℕ → Bool) (k n : ℕ) → first z k n ≡ None → (c : ℕ) → k ≤ c → c < k + n → z c ≡ true
none_is_free z k zero e c a b = absurd (omega arith)
none_is_free z k (suc n) e c a b = at (z k) refl (λ s. none_is_free z (suc k) n s c) e
  where
    at : (t : Bool) → z k ≡ t → (first z (suc k) n ≡ None → suc k ≤ c → c < suc k + n → z c ≡ true) → (if t then first z (suc k) n else Some k) ≡ None → z c ≡ true
    at false q later s = absurd cc
    at true q later s = elim (same_or c k) [ inl p ↦ subst (λ (j : ℕ). z j ≡ true) (sym p) q | inr ne ↦ later s (omega arith) (omega arith) ]

-- The history is of the operations themselves.
abbrev U : Machine
U = operations machine core

abbrev above : Laws U
above = operations_laws machine core laws

abbrev below : LowerLaws U low
below = operations_below machine core low low_laws

module _ (h i : ℕ) (m : Option ℕ → Option (Unit {0})) (hand : Unit {0}) (B : List U.Step → Type 0) (C : Option ℕ → List U.Step → Above → Type 0) (lasts : Lasts U h B C) where
  abbrev D : Machine
  D = joined U low

  abbrev W : Type 0
  W = Both World Above

  abbrev E : Type 0
  E = List U.Step

  abbrev Todo : E → Above → Type 0
  Todo = ToAct U low above below h B (Grab i) m C lasts

  abbrev Done : Option ℕ → E → W → Type 0
  Done a = Below U low h C (record { answer = a; carry = hand })

  -- between the act and the put of the block: c is the inode's, zero above, and below whatever it was
  record Zeroing (c : ℕ) (r : World) (g : Above) : Type 0 where
    pub free : r.bits_out ≢ Some h
    pub tied : (d : ℕ) → d ≢ c → holder r d ≡ Some h → TiedAt h d r g
    pub mine : holder r c ≡ Some h
    pub below : r.owner c ≡ Some i
    pub above : g.owner c ≡ Some i
    pub lock : g.lock i ≡ Some h
    pub zeroed : g.bytes c ≡ 0

  zero_ok : (c : ℕ) (es : E) (w : W) → Zeroing c w.real w.seen → C (Some c) es w.seen → Wp D h B Done (Do (Zero c) unmarked (λ _. Ret (Some c))) 1 es w
  zero_ok c es w p done =
      s-silent U low above below h B (Zero c) (λ _. Ret (Some c)) Done (C (Some c)) 0 es w (acted U low above below h B (Grab i) m C lasts (Some c)) done
      (λ v fs here.
      let x : Option ℕ × ℕ = (w.real.owner c, w.real.block c) in
      let y : Option ℕ × ℕ = (v.real.owner c, v.real.block c) in
      let q = still h (holder w.real c) (holder v.real c) x y (here.same.blocks c) p.mine in
      let k = here.kept c i p.above p.lock in
      let owner : v.real.owner c ≡ Some i = ap (λ (t : Option ℕ × ℕ). t.0) q.1 ∙ p.below in
      let lock : v.real.lock i ≡ Some h = sym (here.shows.locks i) ∙ k.1 in (
        q.0,
        λ t u. (
          record {
            locks = here.shows.locks;
            owners = here.shows.owners;
            free = here.shows.free;
            used = here.shows.used;
            datas = λ d j o f. elim (same_or d c) [
              | inl e ↦ absurd (
                  let a : ◌≡◌ {A = Option ℕ} (Some j) (Some i) = sym o ∙ ap v.real.owner e ∙ owner in
                  let b : j ≡ i = cc in
                  let n : ◌≡◌ {A = Option ℕ} None (Some h) = sym f ∙ ap v.real.lock b ∙ lock in
                  cc)
              | inr ne ↦ here.shows.datas d j o f ∙ sym (put_other v.real.block c 0 d ne)
            ];
          },
          did_same h v.real _ (record {
            locks = refl;
            bits = inl (refl, refl);
            blocks = λ d. elim (same_or d c) [
              | inl e ↦ let o = ours_is h (holder v.real d) (inr (ap (holder v.real) e ∙ q.0)) in inr (o, o)
              | inr ne ↦ inl (refl, put_other v.real.block c 0 d ne)
            ];
          }),
          (
            here.stage,
            record {
              free = free_stays h w.real v.real here.same p.free;
              tied = λ d e. elim (same_or d c) [
                | inl n ↦ (i, ap v.real.owner n ∙ owner, ap v.seen.owner n ∙ k.0, k.1, ap v.seen.bytes n ∙ k.2 ∙ p.zeroed ∙ sym (put_same v.real.block c 0) ∙ ap (put v.real.block c 0) (sym n))
                | inr ne ↦
                    let b = held_before h d w.real v.real here.same e in
                    let s = tied_at h d w.real v.real w.seen v.seen here.same here.kept (p.tied d ne b) b in
                    (s.0, s.1, s.2, s.3, s.4 ∙ sym (put_other v.real.block c 0 d ne))
              ];
            },
          ),
        ),
      ))

  -- the bitmap's buffer is the hart's, and these are its bits
  record Got (z : ℕ → Bool) (r : World) (g : Above) : Type 0 where
    pub mine : r.bits_out ≡ Some h
    pub bits : r.bits ≡ z
    pub tied : (d : ℕ) → holder r d ≡ Some h → TiedAt h d r g

  got_stays : (z : ℕ → Bool) (v w : W) → Same h v.real w.real → Kept h v.seen w.seen → Got z v.real v.seen → Got z w.real w.seen
  got_stays z v w s k p =
      let q = still h v.real.bits_out w.real.bits_out v.real.bits w.real.bits s.bits p.mine in
      record { mine = q.0; bits = q.1 ∙ p.bits; tied = λ d e. let b = held_before h d v.real w.real s e in tied_at h d v.real w.real v.seen w.seen s k (p.tied d b) b }

  pick_ok : (z : ℕ → Bool) (es : E) (w : W) (x : Option ℕ) → first z 0 8 ≡ x → Got z w.real w.seen → Todo es w.seen → Wp D h B Done (grab_at i m x) 2 es w
  pick_ok z es w None e p todo =
      s-act U low above below h B (Grab i) m C lasts None (PutBits None) (λ _. Ret None) Done 1 es w todo
      (λ v fs here may.
      let q = got_stays z w v here.same here.kept p in (
        q.mine,
        λ t u. (
          None,
          v.seen,
          refl,
          (λ c lt n.
              here.shows.used c (ap (λ (f : ℕ → Bool). f c) q.bits ∙ none_is_free z 0 8 e c (omega arith) (omega arith)) (sym (here.shows.owners c) ∙ n)),
          (λ inv. record { locks = here.shows.locks; owners = here.shows.owners; free = here.shows.free; used = here.shows.used; datas = here.shows.datas }),
          did_same h v.real _ (record { locks = refl; bits = inr (ours_is h v.real.bits_out (inr q.mine), ours_none h); blocks = λ c. inl (refl, refl) }),
          λ gs inv c. (c, record { free = λ n. cc; tied = q.tied }),
        ),
      ))
  pick_ok z es w (Some c) e p todo =
      s-act U low above below h B (Grab i) m C lasts (Some c) (PutBits (Some (c, i))) (λ _. Do (Zero c) unmarked (λ _. Ret (Some c))) Done 1 es w todo
      (λ v fs here may.
      let q = got_stays z w v here.same here.kept p in
      let none : v.real.owner c ≡ None = here.shows.free c (ap (λ (f : ℕ → Bool). f c) q.bits ∙ first_is z 0 8 c e) in
      let lock : v.real.lock i ≡ Some h = sym (here.shows.locks i) ∙ may in (
        q.mine,
        λ t u. (
          Some c,
          grabbed i v.seen (Some c),
          refl,
          here.shows.owners c ∙ none,
          (λ inv. record {
            locks = here.shows.locks;
            owners = put_like v.seen.owner v.real.owner c (Some i) here.shows.owners;
            free = λ d f. elim (same_or d c) [
              | inl n ↦ absurd (let r : true ≡ false = sym (put_same v.real.bits c true) ∙ ap (put v.real.bits c true) (sym n) ∙ f in cc)
              | inr ne ↦ put_other v.real.owner c (Some i) d ne ∙ here.shows.free d (sym (put_other v.real.bits c true d ne) ∙ f)
            ];
            used = λ d f n. elim (same_or d c) [
              | inl s ↦ let r : ◌≡◌ {A = Option ℕ} (Some i) None = sym (put_same v.real.owner c (Some i)) ∙ ap (put v.real.owner c (Some i)) (sym s) ∙ n in cc
              | inr ne ↦ here.shows.used d (sym (put_other v.real.bits c true d ne) ∙ f) (sym (put_other v.real.owner c (Some i) d ne) ∙ n)
            ];
            datas = λ d j o f. elim (same_or d c) [
              | inl s ↦ absurd (
                  let a : ◌≡◌ {A = Option ℕ} (Some i) (Some j) = sym (put_same v.real.owner c (Some i)) ∙ ap (put v.real.owner c (Some i)) (sym s) ∙ o in
                  let b : j ≡ i = cc in
                  let n : ◌≡◌ {A = Option ℕ} None (Some h) = sym f ∙ ap v.real.lock b ∙ lock in
                  cc)
              | inr ne ↦ put_other v.seen.bytes c 0 d ne ∙ here.shows.datas d j (sym (put_other v.real.owner c (Some i) d ne) ∙ o) f
            ];
          }),
          did_same h v.real _ (record {
            locks = refl;
            bits = inr (ours_is h v.real.bits_out (inr q.mine), ours_none h);
            blocks = λ d. elim (same_or d c) [
              | inl s ↦ inr (
                ours_is h (holder v.real d) (inl (ap (lock_of v.real.lock) (ap v.real.owner s ∙ none))),
                ours_is h (lock_of v.real.lock (put v.real.owner c (Some i) d)) (inr (ap (lock_of v.real.lock) (ap (put v.real.owner c (Some i)) s ∙ put_same v.real.owner c (Some i)) ∙ lock)),
              )
              | inr ne ↦ inl (put_other v.real.owner c (Some i) d ne, refl)
            ];
          }),
          λ gs inv done.
              zero_ok c gs (record { real = record (v.real) { bits_out = None; bits = put v.real.bits c true; owner = put v.real.owner c (Some i) }; seen = grabbed i v.seen (Some c) })
              (record {
                free = λ n. cc;
                tied = λ d ne y.
                    let o = put_other v.real.owner c (Some i) d ne in
                    let s = q.tied d (ap (lock_of v.real.lock) (sym o) ∙ y) in
                    (s.0, o ∙ s.1, put_other v.seen.owner c (Some i) d ne ∙ s.2, s.3, put_other v.seen.bytes c 0 d ne ∙ s.4);
                mine = ap (lock_of v.real.lock) (put_same v.real.owner c (Some i)) ∙ lock;
                below = put_same v.real.owner c (Some i);
                above = put_same v.seen.owner c (Some i);
                lock = may;
                zeroed = put_same v.seen.bytes c 0;
              })
              done,
        ),
      ))

  grab_ok : (es : E) (w : W) → Base h w.real w.seen → Todo es w.seen → Wp D h B Done (Do GetBits unmarked (λ z. grab_at i m (first z 0 8))) 3 es w
  grab_ok es w base todo =
      s-silent U low above below h B GetBits (λ z. grab_at i m (first z 0 8)) Done Todo 2 es w (to_act U low above below h B (Grab i) m C lasts) todo
      (λ v fs here. (free_stays h w.real v.real here.same base.free, λ t u. got v fs here (v.real.bits_out) refl))
    where
      got : (v : W) (fs : E) → Here U low above below h B Todo w v fs → (o : Option ℕ) → v.real.bits_out ≡ o
          → Silent U low above below h B v (IsOut h v.real.bits_out) (bits_if h v.real o) (λ z r. Wp D h B Done (grab_at i m (first z 0 8)) 2 fs (record { real = r; seen = v.seen }))
      got v fs here (Some g) e = (g, (λ q. free_stays h w.real v.real here.same base.free (e ∙ ap (λ (z : ℕ). Some z) q)), e)
      got v fs here None e = (
        record { locks = here.shows.locks; owners = here.shows.owners; free = here.shows.free; used = here.shows.used; datas = here.shows.datas },
        did_same h v.real _ (record { locks = refl; bits = inr (ours_is h v.real.bits_out (inl e), ours_some h); blocks = λ c. inl (refl, refl) }),
        pick_ok v.real.bits fs (record { real = record (v.real) { bits_out = Some h }; seen = v.seen }) (first v.real.bits 0 8) refl
            (record { mine = refl; bits = refl; tied = (low_laws.base h w.real v.real w.seen v.seen hand here.same here.kept base).tied })
            here.stage,
      )

pub grab_atomic : (h i : ℕ) (m : Option ℕ → Option (Unit {0})) → Atomic U low handler h (Grab i) m
grab_atomic h i m hand B C es w lasts todo base =
    Wp-holding (joined U low) h hand (Do GetBits unmarked (λ z. grab_at i m (first z 0 8))) B (Below U low h C) 3 es w (grab_ok h i m hand B C lasts es w base todo)

-- A lock comes into the hart's hand, or goes from it.
did_lock : (h i : ℕ) (y : Option ℕ) (v : World) → Ours h (v.lock i) → Ours h y → (g : ℕ) → g ≢ h → Same g v (record v { lock = put v.lock i y })
did_lock h i y v a b g ne =
    record {
      locks = λ j. elim (ours_put h v.lock i y j a b) [ inl e ↦ ap (λ (o : Option ℕ). if_held o g j) e.1 | inr o ↦ not_held h g (put v.lock i y j) j o.1 ne ∙ sym (not_held h g (v.lock j) j o.0 ne) ];
      bits = refl;
      blocks = λ c. block c (v.owner c);
    }
  where
    block : (c : ℕ) (o : Option ℕ) → if_held {A = Option ℕ × ℕ} (lock_of (put v.lock i y) o) g (o, v.block c) ≡ if_held {A = Option ℕ × ℕ} (lock_of v.lock o) g (o, v.block c)
    block c None = refl
    block c (Some k) =
        let x : Option ℕ × ℕ = (Some k, v.block c) in
        elim (ours_put h v.lock i y k a b) [ inl e ↦ ap (λ (o : Option ℕ). if_held o g x) e.1 | inr o ↦ not_held h g (put v.lock i y k) x o.1 ne ∙ sym (not_held h g (v.lock k) x o.0 ne) ]

lock_of_put : (lock : ℕ → Option ℕ) (i : ℕ) (y : Option ℕ) (o : Option ℕ) (h : ℕ) → lock_of (put lock i y) o ≡ Some h → ((o ≡ Some i) × (y ≡ Some h)) ⊎ ((k : ℕ) × (o ≡ Some k) × (k ≢ i) × (lock k ≡ Some h))
lock_of_put lock i y None h e = cc
lock_of_put lock i y (Some k) h e = elim (same_or k i) [
  | inl q ↦ inl (ap (λ (z : ℕ). Some z) q, sym (put_same lock i y) ∙ ap (put lock i y) (sym q) ∙ e)
  | inr n ↦ inr (k, refl, n, sym (put_other lock i y k n) ∙ e)
]

module _ (h i : ℕ) (m : Unit {0} → Option (Unit {0})) where
  hold_atomic : Atomic U low handler h (Hold i) m
  hold_atomic hand B C es w lasts todo base =
      s-act U low above below h B (Hold i) m C lasts None (Lock i) (λ a. Ret (record { answer = a; carry = hand })) (Below U low h C) 0 es w todo
      (λ v fs here may. ((λ e. may (here.shows.locks i ∙ e)), λ x t. at v here.shows (low_laws.base h w.real v.real w.seen v.seen hand here.same here.kept base) may (v.real.lock i) refl))
    where
      at : (v : Both World Above) → Shows v.real v.seen → Base h v.real v.seen → v.seen.lock i ≢ Some h → (o : Option ℕ) → v.real.lock i ≡ o
          → Acting U low above below h B (Hold i) m C lasts None v (IsOut h (v.real.lock i)) (lock_if h i v.real o) (λ a b u g. (gs : List U.Step) → Unit {0} → C b gs g → Below U low h C (record { answer = a; carry = hand }) gs (record { real = u; seen = g }))
      at v shows base may (Some g) e = (g, (λ q. may (shows.locks i ∙ e ∙ ap (λ (z : ℕ). Some z) q)), e)
      at v shows base may None e = (
        tt,
        record (v.seen) { lock = put v.seen.lock i (Some h) },
        ap (hold_if h i v.seen) (shows.locks i ∙ e),
        tt,
        (λ inv. record {
          locks = put_like v.seen.lock v.real.lock i (Some h) shows.locks;
          owners = shows.owners;
          free = shows.free;
          used = shows.used;
          datas = λ c k o n. elim (same_or k i) [
            | inl q ↦ absurd (let z : ◌≡◌ {A = Option ℕ} (Some h) None = sym (put_same v.real.lock i (Some h)) ∙ ap (put v.real.lock i (Some h)) (sym q) ∙ n in cc)
            | inr ne ↦ shows.datas c k o (sym (put_other v.real.lock i (Some h) k ne) ∙ n)
          ];
        }),
        did_lock h i (Some h) v.real (ours_is h (v.real.lock i) (inl e)) (ours_some h),
        λ gs inv c. (
          c,
          record {
            free = base.free;
            tied = λ b p. elim (lock_of_put v.real.lock i (Some h) (v.real.owner b) h p) [
              | inl q ↦ (i, q.0, shows.owners b ∙ q.0, put_same v.seen.lock i (Some h), shows.datas b i q.0 e)
              | inr q ↦ let s = base.tied b (ap (lock_of v.real.lock) q.1 ∙ q.3) in (s.0, s.1, s.2, held_put v s.0 s.3, s.4)
            ];
          },
        ),
      )
        where
          held_put : (v : Both World Above) (k : ℕ) → v.seen.lock k ≡ Some h → put v.seen.lock i (Some h) k ≡ Some h
          held_put v k e = put_elim v.seen.lock i (Some h) k (λ z. z ≡ Some h) (λ q. refl) (λ ne. e)

  drop_atomic : Atomic U low handler h (Drop i) m
  drop_atomic hand B C es w lasts todo base =
      s-act U low above below h B (Drop i) m C lasts None (Unlock i) (λ a. Ret (record { answer = a; carry = hand })) (Below U low h C) 0 es w todo
      (λ v fs here may.
      let lock : v.real.lock i ≡ Some h = sym (here.shows.locks i) ∙ may in
      let based = low_laws.base h w.real v.real w.seen v.seen hand here.same here.kept base in (
        lock,
        λ x t. (
          tt,
          record (v.seen) { lock = put v.seen.lock i None },
          refl,
          tt,
          (λ inv. record {
            locks = put_like v.seen.lock v.real.lock i None here.shows.locks;
            owners = here.shows.owners;
            free = here.shows.free;
            used = here.shows.used;
            datas = λ c k o n. elim (same_or k i) [
              | inl q ↦ (based.tied c (ap (lock_of v.real.lock) o ∙ ap v.real.lock q ∙ lock)).4
              | inr ne ↦ here.shows.datas c k o (sym (put_other v.real.lock i None k ne) ∙ n)
            ];
          }),
          did_lock h i None v.real (ours_is h (v.real.lock i) (inr lock)) (ours_none h),
          λ gs inv c. (
            c,
            record {
              free = based.free;
              tied = λ b p. elim (lock_of_put v.real.lock i None (v.real.owner b) h p) [
                | inl q ↦ absurd (let z : ◌≡◌ {A = Option ℕ} None (Some h) = q.1 in cc)
                | inr q ↦
                    let s = based.tied b (ap (lock_of v.real.lock) q.1 ∙ q.3) in
                    let z : ◌≡◌ {A = Option ℕ} (Some s.0) (Some q.0) = sym s.1 ∙ q.1 in
                    let k : s.0 ≡ q.0 = cc in
                    (s.0, s.1, s.2, put_other v.seen.lock i None s.0 (λ n. q.2 (sym k ∙ n)) ∙ s.3, s.4)
              ];
            },
          ),
        ),
      ))

atomic : (h : ℕ) (op : Op) (m : Answer op → Option (Unit {0})) → Atomic U low handler h op m
atomic h (Hold i) m = hold_atomic h i m
atomic h (Grab i) m = grab_atomic h i m
atomic h (Drop i) m = drop_atomic h i m

-- The call is right above.
record Has (h i : ℕ) (w : Above) : Type 0 where
  pub lock : w.lock i ≡ Some h
  pub only : (j : ℕ) → j ≢ i → w.lock j ≢ Some h

abbrev Locks : ℕ → Above → Above → Type 0
Locks h v w = (j : ℕ) → if_held (w.lock j) h j ≡ if_held (v.lock j) h j

not_stays : (h j : ℕ) (v w : Above) → Locks h v w → v.lock j ≢ Some h → w.lock j ≢ Some h
not_stays h j v w s ne = none_is h (w.lock j) j (s j ∙ not_mine h (v.lock j) j ne)

has_stays : (h i : ℕ) (v w : Above) → Locks h v w → Has h i v → Has h i w
has_stays h i v w s p = record { lock = (still h (v.lock i) (w.lock i) i i (s i) p.lock).0; only = λ j ne. not_stays h j v w s (p.only j ne) }

-- the other harts' things stay when a lock comes into the hart's hand or goes from it
locked : (h i : ℕ) (y : Option ℕ) (v : Above) → Ours h (v.lock i) → Ours h y → (g : ℕ) → g ≢ h → Locks g v (record v { lock = put v.lock i y }) × Kept g v (record v { lock = put v.lock i y })
locked h i y v a b g ne = (
  λ j. elim (ours_put h v.lock i y j a b) [ inl e ↦ ap (λ (o : Option ℕ). if_held o g j) e.1 | inr o ↦ not_held h g (put v.lock i y j) j o.1 ne ∙ sym (not_held h g (v.lock j) j o.0 ne) ],
  λ c k own lock. elim (ours_put h v.lock i y k a b) [ inl e ↦ (own, e.1 ∙ lock, refl) | inr o ↦ absurd (none_is g (v.lock k) k (not_held h g (v.lock k) k o.0 ne) lock) ],
)

quiet : {h more n : ℕ} {B : List (Unit {0}) → Type 0} {es : List (Unit {0})} {v u : Above} {Next : ℕ → Type 0} (l : ℕ) → l + more < n → ((g : ℕ) → g ≢ h → Locks g v u × Kept g v u) → Next l → Fine machine h [] more n B es v u Next
quiet l falls mine next =
    record { inv = tt; kept = λ g ne. (refl, (mine g ne).0, (mine g ne).1); goes = λ y. refl; clean = λ y. tt; begun = λ y. inl refl; left = l; falls = falls; next = next }

module _ (h i : ℕ) where
  drop_ok : (r : Option ℕ) (w : Above) → Has h i w → Safe machine h (Begun grabs i) (Ends grabs h i) (Do (Drop i) unmarked (λ _. Ret r)) 1 [] w
  drop_ok r w p =
      s-op (omega arith) (λ v xs y. y.0) (λ v y a. (has_stays h i w v y.1 p).lock)
      (λ v x y a t. let q = has_stays h i w v y.1 p in
      quiet 0 (omega arith) (locked h i None v (ours_is h (v.lock i) (inr q.lock)) (ours_none h))
      ((λ c. tt), λ j. not_mine h (put v.lock i None j) j (put_elim v.lock i None j (λ z. z ≢ Some h) (λ e n. cc) (λ ne. q.only j ne))))

  grabs_ok : (w : Above) → Has h i w → Safe machine h (Begun grabs i) (Ends grabs h i) (Do (Grab i) unmarked (λ r. Do (Drop i) unmarked (λ _. Ret r))) 4 [] w
  grabs_ok w p =
      s-op (omega arith) (λ v xs y. y.0) (λ v y a. (has_stays h i w v y.1 p).lock)
      (λ v x y a t. let q = has_stays h i w v y.1 p in quiet 1 (omega arith) (kept v x t) (drop_ok x (grabbed i v x) (same v x q)).wp)
    where
      same : (v : Above) (x : Option ℕ) → Has h i v → Has h i (grabbed i v x)
      same v None q = q
      same v (Some c) q = record { lock = q.lock; only = q.only }

      -- a block that nobody has is taken
      kept : (v : Above) (x : Option ℕ) → Picks v x → (g : ℕ) → g ≢ h → Locks g v (grabbed i v x) × Kept g v (grabbed i v x)
      kept v None t g ne = ((λ j. refl), λ c k own lock. (own, lock, refl))
      kept v (Some c) t g ne = (
        (λ j. refl),
        λ d k own lock.
            let other : d ≢ c = λ q. (let z : ◌≡◌ {A = Option ℕ} None (Some k) = sym t ∙ ap v.owner (sym q) ∙ own in cc) in
            (put_other v.owner c (Some i) d other ∙ own, lock, put_other v.bytes c 0 d other),
      )

  call_ok : (w : Above) → ((j : ℕ) → w.lock j ≢ Some h) → Safe machine h (Begun grabs i) (Ends grabs h i) (grabs.program i) 5 [] w
  call_ok w none =
      s-op (omega arith) (λ v xs y. y.0) (λ v y a. not_stays h i w v y.1 (none i)) (λ v x y a t. at v (λ j. not_stays h j w v y.1 (none j)) (v.lock i) refl)
    where
      at : (v : Above) → ((j : ℕ) → v.lock j ≢ Some h) → (o : Option ℕ) → v.lock i ≡ o
          → Good machine (Unit {0}) h (λ a. []) 0 5 (Begun grabs i) [] v (Unit {0}) (hold_if h i v o) (λ l a u. Wp machine h (Begun grabs i) (Ends grabs h i) (Do (Grab i) unmarked (λ r. Do (Drop i) unmarked (λ _. Ret r))) l [] u)
      at v free (Some g) e = tt
      at v free None e =
          quiet 4 (omega arith) (locked h i (Some h) v (ours_is h (v.lock i) (inl e)) (ours_some h))
          (grabs_ok _ (record { lock = put_same v.lock i (Some h); only = λ j ne n. free j (sym (put_other v.lock i (Some h) j ne) ∙ n) })).wp

lawful : Lawful grabs
lawful =
    record {
      laws = laws;
      calls = λ h i busy w u holds idle free e.
          let is : w ≡ u = begins_is w u e in
          subst (λ (z : Above). Right grabs h i busy w z) is
          (record {
            inv = λ a. a;
            halted = λ a. a;
            kept = λ g ne b. laws.same g w;
            rests = λ g ne b. idle g b;
            tree = refl;
            clean = λ y. y;
            none = λ y. tt;
            runs = λ a. (call_ok h i w (λ j. none_is h (w.lock j) j (idle h free j))).wp;
          });
    }
  where
    begins_is : (w u : Above) → ◌≡◌ {A = Began (Unit {0}) Above} (Begins w) (Begins u) → w ≡ u
    begins_is w u e = cc

starts_both : StartsBoth grabs low (λ h i busy r. Begins r)
starts_both h i busy r s g holds inv idle free e =
    let is : r ≡ s = begins_is r s e in
    subst (λ (z : World). BeginsBoth grabs low h i busy r z g) is
    (record { above = g; begins = refl; shows = λ x. x; halted = λ x. x; kept = λ other ne b. low_laws.same other r; rests = λ other b. (idle other b).0 })
  where
    begins_is : (w u : World) → ◌≡◌ {A = Began (Unit {0}) World} (Begins w) (Begins u) → w ≡ u
    begins_is w u e = cc

is_core : IsCore grabs core
is_core =
    record {
      may = λ h op w a. a;
      honest = λ h op w x a. a;
      goes = λ h x op a w. same (exec_above h x op w);
      stops = λ h x op t u e. absurd (never h x op t u e);
      starts = λ h i busy w u e. begins_is w u e;
      some = some;
    }
  where
    same : {A S : Type 0} (x : ExecResult A S) → exec_result_in (λ (w : S). w) x ≡ x
    same Waits = refl
    same (Ran a w) = refl
    same (Stops w) = refl

    begins_is : (w u : Above) → ◌≡◌ {A = Began (Unit {0}) Above} (Begins w) (Begins u) → u ≡ w
    begins_is w u e = cc

    never : (h : ℕ) (x : Option ℕ) (op : Op) (v u : Above) → exec_above h x op v ≡ Stops u → ⊥
    never h x (Hold i) v u e = at (v.lock i) e
      where
        at : (o : Option ℕ) → hold_if h i v o ≡ Stops u → ⊥
        at None e = cc
        at (Some g) e = cc
    never h x (Grab i) v u e = cc
    never h x (Drop i) v u e = cc

    some : (op : Op) → Answer op
    some (Hold i) = tt
    some (Grab i) = None
    some (Drop i) = tt

rest_shows : Shows rest.real rest.seen
rest_shows = record { locks = λ i. refl; owners = λ c. refl; free = λ c e. refl; used = λ c e. absurd cc; datas = λ c i o e. absurd cc }

pub grabs_refined : (events : List (Event ℕ (Unit {0}))) → AllHonest grabs_above events (fresh grabs_above rest) → IsExplained grabs_above rest.seen (run grabs_above events (fresh grabs_above rest))
grabs_refined events honest =
    refined grabs core low handler (λ h i busy r. Begins r) lawful low_laws is_core starts_both (λ h can. atomic h) rest events rest_shows tt (λ h. record { free = λ e. cc; tied = λ c e. absurd cc }) (λ h i. refl) honest

-- what the code has takes no notice of the rest
pub grabs_are_code : IsCode grabs_above grabs_code
grabs_are_code =
    is_code_part (operations_of grabs core) low handler (λ h i busy r. Begins r) grabs_part LowOp (λ op a. op)
    (record { goes = goes; may = may; honest = λ h op w x y. tt; starts = λ h i busy w. refl })
  where
    goes : (h : ℕ) (x : Unit {0}) (op : LowOp) (w : World) → exec_code h x op (shared_of w) ≡ exec_result_in shared_of (exec h x op w)
    goes h x (Lock i) w = at (w.lock i)
      where
        at : (o : Option ℕ) → lock_in h i (shared_of w) o ≡ exec_result_in shared_of (lock_if h i w o)
        at None = refl
        at (Some g) = refl
    goes h x (Unlock i) w = refl
    goes h x GetBits w = at w.bits_out
      where
        at : (o : Option ℕ) → bits_in h (shared_of w) o ≡ exec_result_in shared_of (bits_if h w o)
        at None = refl
        at (Some g) = refl
    goes h x (PutBits None) w = refl
    goes h x (PutBits (Some p)) w = refl
    goes h x (Zero c) w = refl

    may : (h : ℕ) (op : LowOp) (w : World) → low_may h op w → may_code h op (shared_of w)
    may h (Lock i) w y = y
    may h (Unlock i) w y = y
    may h GetBits w y = y
    may h (PutBits p) w y = y
    may h (Zero c) w y = tt
