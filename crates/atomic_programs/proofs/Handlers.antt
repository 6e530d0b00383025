-- Each operation above acts at one moment of its program below.
use Rattle.atomic_programs.proofs.Vocabulary.{◌≡◌, ◌≢◌, ◌<◌, ◌⊎◌, inl, inr, ◌/◌, ◌%◌, ℕ, suc, Bool, true, false, Option, Some, None, List, [], ◌∷◌, length, refl, sym, ◌∙◌, ap, subst, arith, Ret, Do, bind, unmarked, Machine, P, Wp, Laws, Lasts, Both, joined, Handover, Below, Atomic, put, if_held, written, Dinode, Labels, Keeps, whole, take_if, hart_count, Block, World, Lock, Unlock, Get, Read, Put, Join, Leave, PutPart, GetPart, Outside, Passes, Fails, lock_if, bytes_if, get_if, read_if, IsOut, Shows, Same, IsTied, Carry, InHand, Base, at, blocks, act, write_parts, read_or, fetch, look_back, load_or, with_record, record_of, handler}
use Rattle.atomic_programs.proofs.Basics.{bind-assoc, Wp-more, Wp-holding, Stable, Here, Silent, s-silent, ToAct, to_act, may_act, acted, Acting, s-act, Ours, put_same, put_other, same_or, put_elim, ours_none, ours_some, has_lock, has_buffer, has_none, has_part, tied_stays, hand_stays, blocks_laws, did_same, ours_is, did_lock, did_buffer, did_hand, did_read, did_txn, shows_same, shows_locked, shows_given, slot_new, slot_other, shows_stored, shows_txn, did_part, shows_part}
use Rattle.atomic_programs.specs.Whole as above

module _ (l : Labels) (laws : Laws (whole l)) (keeps : Keeps l) (h : ℕ) where
  abbrev D : Machine
  D = joined (whole l) blocks

  abbrev W : Type 0
  W = Both World above.World

  abbrev E : Type 0
  E = List l.Step

  -- Sub-programs, at any stage of the operation above.
  module _ (B : E → Type 0) {A : Type 0} (Q : A → E → W → Type 0) (G : E → above.World → Type 0) (stable : Stable (whole l) blocks laws (blocks_laws l keeps) h B G) where
    -- the buffer of b is the hart's only one, and z its block
    record Fetched (b : ℕ) (z : Block) (w v : World) (g : above.World) : Type 0 where
      pub inodes : (i : ℕ) → if_held (v.lock i) h (at v.cell i) ≡ if_held (w.lock i) h (at w.cell i)
      pub mine : v.out b ≡ Some h
      pub bytes : v.cell b ≡ z
      pub valid : v.valid b ≡ true
      pub only : (c : ℕ) → c ≢ b → v.out c ≢ Some h
      pub tied : IsTied h v g

    s-fetch : (b : ℕ) (k : Block → P D A) (n : ℕ) (es : E) (w : W) → ((c : ℕ) → w.real.out c ≢ Some h) → IsTied h w.real w.seen → G es w.seen
        → ((z : Block) (v : W) (fs : E) → Fetched b z w.real v.real v.seen → G fs v.seen → Wp D h B Q (k z) n fs v)
        → Wp D h B Q (bind (fetch l.Mark b) k) (suc (suc n)) es w
    s-fetch b k n es w none ties stage next =
        s-silent (whole l) blocks laws (blocks_laws l keeps) h B (Get b) (λ r. bind (read_or l.Mark b r) k) Q G (suc n) es w stable stage
        (λ v fs here. (has_none h b w.real v.real here.same (none b), λ x t. got v fs here (v.real.out b) refl))
      where
        taken : World → World
        taken v = record v { out = put v.out b (Some h) }

        tied : (v : W) (fs : E) → Here (whole l) blocks laws (blocks_laws l keeps) h B G w v fs → IsTied h v.real v.seen
        tied v fs here = tied_stays h w.real v.real w.seen v.seen here.same.parts here.kept ties

        only : (v : W) (fs : E) → Here (whole l) blocks laws (blocks_laws l keeps) h B G w v fs → (c : ℕ) → c ≢ b → put v.real.out b (Some h) c ≢ Some h
        only v fs here c ne e = has_none h c w.real v.real here.same (none c) (sym (put_other v.real.out b (Some h) c ne) ∙ e)

        read : (v : W) (fs : E) → Here (whole l) blocks laws (blocks_laws l keeps) h B G w v fs → (u : W) (gs : E) → Here (whole l) blocks laws (blocks_laws l keeps) h B G (record { real = taken v.real; seen = v.seen }) u gs → u.real.out b ≡ Some h → (x : Outside)
            → Silent (whole l) blocks laws (blocks_laws l keeps) h B u ⊥ (read_if b u.real x) (λ a r. Wp D h B Q (k a) n gs (record { real = r; seen = u.seen }))
        read v fs here u gs there mine Passes = (
          shows_same u.real _ u.seen refl refl refl refl refl there.shows,
          did_same h u.real _ (did_read h b u.real mine),
          next (u.real.cell b) (record { real = record (u.real) { valid = put u.real.valid b true }; seen = u.seen }) gs
              (record {
                inodes = λ i. there.same.inodes i ∙ here.same.inodes i;
                mine = mine;
                bytes = refl;
                valid = put_same u.real.valid b true;
                only = λ c ne. has_none h c (taken v.real) u.real there.same (only v fs here c ne);
                tied = tied_stays h (taken v.real) u.real v.seen u.seen there.same.parts there.kept (tied v fs here);
              })
              there.stage,
        )
        read v fs here u gs there mine Fails = (there.shows, λ g ne. (blocks_laws l keeps).same g u.real)

        bytes_at : (v : W) (fs : E) → Here (whole l) blocks laws (blocks_laws l keeps) h B G w v fs → (t : Bool) → v.real.valid b ≡ t
            → Wp D h B Q (bind (read_or l.Mark b (bytes_if t (v.real.cell b))) k) (suc n) fs (record { real = taken v.real; seen = v.seen })
        bytes_at v fs here true e =
            Wp-more D h (k (v.real.cell b)) B Q n (suc n) fs (record { real = taken v.real; seen = v.seen }) (omega arith)
            (next (v.real.cell b) (record { real = taken v.real; seen = v.seen }) fs (record { inodes = here.same.inodes; mine = put_same v.real.out b (Some h); bytes = refl; valid = e; only = only v fs here; tied = tied v fs here }) here.stage)
        bytes_at v fs here false e =
            s-silent (whole l) blocks laws (blocks_laws l keeps) h B (Read b) k Q G n fs (record { real = taken v.real; seen = v.seen }) stable here.stage
            (λ u gs there. let mine = (has_buffer h b (taken v.real) u.real there.same (put_same v.real.out b (Some h))).0 in (mine, λ x t. read v fs here u gs there mine x))

        got : (v : W) (fs : E) → Here (whole l) blocks laws (blocks_laws l keeps) h B G w v fs → (o : Option ℕ) → v.real.out b ≡ o
            → Silent (whole l) blocks laws (blocks_laws l keeps) h B v (IsOut h (v.real.out b)) (get_if h b v.real o) (λ a u. Wp D h B Q (bind (read_or l.Mark b a) k) (suc n) fs (record { real = u; seen = v.seen }))
        got v fs here (Some g) e = (g, (λ q. has_none h b w.real v.real here.same (none b) (e ∙ ap (λ (z : ℕ). Some z) q)), e)
        got v fs here None e = (
          shows_same v.real (taken v.real) v.seen refl refl refl refl refl here.shows,
          did_same h v.real (taken v.real) (did_hand h b (Some h) v.real (ours_is h (v.real.out b) (inl e)) (ours_some h)),
          bytes_at v fs here (v.real.valid b) refl,
        )

    -- the buffer is given back as it was got: the rest is shown when the hart has no buffer
    s-back : (b : ℕ) (k : P D A) (n : ℕ) (es : E) (w : W) → w.real.out b ≡ Some h → ((c : ℕ) → c ≢ b → w.real.out c ≢ Some h) → IsTied h w.real w.seen → G es w.seen
        → ((v : W) (fs : E) → ((c : ℕ) → v.real.out c ≢ Some h) → IsTied h v.real v.seen → ((i : ℕ) → if_held (v.real.lock i) h (at v.real.cell i) ≡ if_held (w.real.lock i) h (at w.real.cell i)) → G fs v.seen → Wp D h B Q k n fs v)
        → Wp D h B Q (Do (Put b None) unmarked (λ _. k)) (suc n) es w
    s-back b k n es w mine only tied stage next =
        s-silent (whole l) blocks laws (blocks_laws l keeps) h B (Put b None) (λ _. k) Q G n es w stable stage
        (λ v fs here. let m = (has_buffer h b w.real v.real here.same mine).0 in (
          m,
          λ x t. (
            shows_same v.real _ v.seen refl refl refl refl refl here.shows,
            did_same h v.real _ (did_hand h b None v.real (ours_is h (v.real.out b) (inr m)) (ours_none h)),
            next (record { real = record (v.real) { out = put v.real.out b None }; seen = v.seen }) fs (λ c. put_elim v.real.out b None c (λ z. z ≢ Some h) (λ e q. cc) (λ ne. has_none h c w.real v.real here.same (only c ne))) (tied_stays h w.real v.real w.seen v.seen here.same.parts here.kept tied) here.same.inodes here.stage,
          ),
        ))

  base_at : (hand : Carry) (w v : W) → Same h w.real v.real → above.Kept h w.seen v.seen → Base h w.real w.seen hand → Base h v.real v.seen hand
  base_at hand w v same kept base = (blocks_laws l keeps).base h w.real v.real w.seen v.seen hand same kept base

  -- an inode more in the hart's hand, and its record
  more_in_hand : (hand : Carry) (i : ℕ) (d : Dinode) (v r : World) → InHand h v hand → d ≡ at v.cell i → ((j : ℕ) → if_held (r.lock j) h (at r.cell j) ≡ if_held (put v.lock i (Some h) j) h (at v.cell j)) → InHand h r (put hand i (Some d))
  more_in_hand hand i d v r has is same j e =
      let p = has_lock h j r (record v { lock = put v.lock i (Some h) }) (sym (same j)) e in
      elim (same_or j i) [
        | inl q ↦ ap (put hand i (Some d)) q ∙ put_same hand i (Some d) ∙ ap (λ (x : Dinode). Some x) (is ∙ ap (at v.cell) (sym q) ∙ p.1)
        | inr ne ↦ put_other hand i (Some d) j ne ∙ has j (sym (put_other v.lock i (Some h) j ne) ∙ p.0) ∙ ap (λ (x : Dinode). Some x) p.1
      ]

  take_atomic : h < hart_count → (i : ℕ) (m : Dinode → Option l.Mark) → Atomic (whole l) blocks (handler l.Mark) h (above.Take i) m
  take_atomic small i m hand B C es w lasts todo base =
      s-act (whole l) blocks laws (blocks_laws l keeps) h B (above.Take i) m C lasts tt (Lock i) rest Done 3 es w todo
      (λ v fs here may. (((λ e. may (here.shows.locks i ∙ e)), small), λ x t. locked v (base_at hand w v here.same here.kept base) here.shows may (v.real.lock i) refl))
    where
      Done : Handover Dinode Carry → E → W → Type 0
      Done = Below (whole l) blocks h C

      rest : Option Dinode → P D (Handover Dinode Carry)
      rest r = bind (load_or l.Mark i r) (λ d. Ret (with_record l.Mark hand i d))

      -- from here the inode is the hart's
      taken : W → W
      taken v = record { real = record (v.real) { lock = put v.real.lock i (Some h) }; seen = record (v.seen) { lock = put v.seen.lock i (Some h) } }

      tied_taken : (v : W) → IsTied h v.real v.seen → Shows v.real v.seen → v.real.lock i ≡ None → IsTied h (taken v).real (taken v).seen
      tied_taken v tied shows is j e = elim (same_or j i) [
        | inl q ↦ (ap (put v.seen.lock i (Some h)) q ∙ put_same v.seen.lock i (Some h), ap v.seen.node q ∙ shows.parts i is ∙ ap v.real.part (sym q))
        | inr ne ↦ let t = tied j (sym (put_other v.real.lock i (Some h) j ne) ∙ e) in (put_other v.seen.lock i (Some h) j ne ∙ t.0, t.1)
      ]

      loaded : (v : W) (fs : E) → Base h v.real v.seen hand → Shows v.real v.seen → v.real.lock i ≡ None → C (v.seen.dino i) fs (taken v).seen → (r : Option Dinode) → v.real.mem i ≡ r
          → Wp D h B Done (rest r) 3 fs (taken v)
      loaded v fs base shows is c (Some d) e = (
        subst (λ (z : Dinode). C z fs (taken v).seen) (shows.dinos i ∙ sym (shows.loaded i d is e)) c,
        record { free = base.free; tied = tied_taken v base.tied shows is; in_hand = more_in_hand hand i d v.real (taken v).real base.in_hand (shows.loaded i d is e) (λ j. refl) },
      )
      loaded v fs base shows is c None e =
          subst (λ (p : P D (Handover Dinode Carry)). Wp D h B Done p 3 fs (taken v)) (sym (bind-assoc (fetch l.Mark (i / 16)) (look_back l.Mark i) (λ d. Ret (with_record l.Mark hand i d))))
          (s-fetch B Done (C (v.seen.dino i)) (acted (whole l) blocks laws (blocks_laws l keeps) h B (above.Take i) m C lasts (v.seen.dino i)) (i / 16) (λ z. bind (look_back l.Mark i z) (λ d. Ret (with_record l.Mark hand i d))) 1 fs (taken v) base.free (tied_taken v base.tied shows is) c
          (λ z u gs f stage.
          let same = (has_lock h i (taken v).real u.real (f.inodes i) (put_same v.real.lock i (Some h))).1 in
          let dino : z (i % 16) ≡ at v.real.cell i = ap (λ (x : Block). x (i % 16)) (sym f.bytes) ∙ same in
          s-back B Done (C (v.seen.dino i)) (acted (whole l) blocks laws (blocks_laws l keeps) h B (above.Take i) m C lasts (v.seen.dino i)) (i / 16) (Ret (with_record l.Mark hand i (z (i % 16)))) 0 gs u f.mine f.only f.tied stage
          (λ q hs none ties inodes done. (
            subst (λ (x : Dinode). C x hs q.seen) (shows.dinos i ∙ sym dino) done,
            record { free = none; tied = ties; in_hand = more_in_hand hand i (z (i % 16)) v.real q.real base.in_hand dino (λ j. inodes j ∙ f.inodes j) },
          ))))

      locked : (v : W) → Base h v.real v.seen hand → Shows v.real v.seen → v.seen.lock i ≢ Some h → (o : Option ℕ) → v.real.lock i ≡ o
          → Acting (whole l) blocks laws (blocks_laws l keeps) h B (above.Take i) m C lasts tt v (IsOut h (v.real.lock i)) (lock_if h i v.real o) (λ a b u g. (gs : E) → l.Inv g → C b gs g → Wp D h B Done (rest a) 3 gs (record { real = u; seen = g }))
      locked v base shows may (Some g) e = (g, (λ q. may (shows.locks i ∙ e ∙ ap (λ (z : ℕ). Some z) q)), e)
      locked v base shows may None e = (
        v.seen.dino i,
        (taken v).seen,
        ap (take_if h i v.seen) (shows.locks i ∙ e),
        tt,
        (λ inv. shows_locked h i v.real v.seen shows),
        did_same h v.real _ (did_lock h i (Some h) v.real.mem v.real (ours_is h (v.real.lock i) (inl e)) (ours_some h)),
        λ gs inv c. loaded v gs base shows e c (v.real.mem i) refl,
      )

  store_atomic : (i : ℕ) (d : Dinode) (m : Unit {0} → Option l.Mark) → Atomic (whole l) blocks (handler l.Mark) h (above.Store i d) m
  store_atomic i d m hand B C es w lasts todo base =
      s-fetch B (Below (whole l) blocks h C) (ToAct (whole l) blocks laws (blocks_laws l keeps) h B (above.Store i d) m C lasts) (to_act (whole l) blocks laws (blocks_laws l keeps) h B (above.Store i d) m C lasts) (i / 16) _ 1 es w base.free base.tied todo
      (λ z u gs f stage.
      s-act (whole l) blocks laws (blocks_laws l keeps) h B (above.Store i d) m C lasts tt (Put (i / 16) (Some (put z (i % 16) d))) (λ a. Ret (record { answer = a; carry = put hand i (Some d) })) (Below (whole l) blocks h C) 0 gs u stage
      (λ v fs here may.
      let b = has_buffer h (i / 16) u.real v.real here.same f.mine in
      let lock : v.real.lock i ≡ Some h = sym (here.shows.locks i) ∙ may.0 in
      let bytes : v.real.cell (i / 16) ≡ z = b.1 ∙ f.bytes in (
        (b.0, b.2 ∙ f.valid, sym (here.shows.txns h) ∙ may.1),
        λ x t. (
          tt,
          record (v.seen) { dino = put v.seen.dino i d },
          refl,
          tt,
          (λ inv. shows_stored h i d z v.real _ v.seen lock bytes refl refl refl refl refl here.shows),
          did_same h v.real _ (did_buffer h (i / 16) None (put z (i % 16) d) v.real (ours_is h (v.real.out (i / 16)) (inr b.0)) (ours_none h) (slots v.real z bytes lock)),
          λ hs inv c. (c, record { free = λ k. put_elim v.real.out (i / 16) None k (λ y. y ≢ Some h) (λ e q. cc) (λ ne. has_none h k u.real v.real here.same (f.only k ne)); tied = tied_stays h u.real v.real u.seen v.seen here.same.parts here.kept f.tied; in_hand = stored v.real z bytes (hand_stays h u.real v.real hand here.same.inodes (hand_stays h w.real u.real hand f.inodes base.in_hand)) }),
        ),
      )))
    where
      -- the record that was stored is in hand from now on
      stored : (v : World) (z : Block) → v.cell (i / 16) ≡ z → InHand h v hand → (j : ℕ) → v.lock j ≡ Some h → put hand i (Some d) j ≡ Some (at (put v.cell (i / 16) (put z (i % 16) d)) j)
      stored v z bytes has j e = elim (same_or j i) [
        | inl q ↦ ap (put hand i (Some d)) q ∙ put_same hand i (Some d) ∙ ap (λ (x : Dinode). Some x) (sym (slot_new v.cell i d z) ∙ ap (at (put v.cell (i / 16) (put z (i % 16) d))) (sym q))
        | inr ne ↦ put_other hand i (Some d) j ne ∙ has j e ∙ ap (λ (x : Dinode). Some x) (sym (slot_other v.cell i j d z bytes ne))
      ]

      -- the other slots are as they were
      slots : (v : World) (z : Block) → v.cell (i / 16) ≡ z → v.lock i ≡ Some h → (j : ℕ) → j / 16 ≡ i / 16 → (put z (i % 16) d (j % 16) ≡ v.cell (i / 16) (j % 16)) ⊎ Ours h (v.lock j)
      slots v z bytes lock j e = elim (same_or j i) [
        | inl q ↦ inr (ours_is h (v.lock j) (inr (ap v.lock q ∙ lock)))
        | inr ne ↦ inl (put_other z (i % 16) d (j % 16) (λ q. ne (omega arith)) ∙ ap (λ (x : Block). x (j % 16)) (sym bytes))
      ]

  give_atomic : (i : ℕ) (m : Unit {0} → Option l.Mark) → Atomic (whole l) blocks (handler l.Mark) h (above.Give i) m
  give_atomic i m hand B C es w lasts todo base =
      s-act (whole l) blocks laws (blocks_laws l keeps) h B (above.Give i) m C lasts tt (Unlock i (record_of l.Mark (hand i))) (λ a. Ret (record { answer = a; carry = put hand i None })) (Below (whole l) blocks h C) 0 es w todo
      (λ v fs here may.
      let base_v = base_at hand w v here.same here.kept base in
      let lock : v.real.lock i ≡ Some h = sym (here.shows.locks i) ∙ may in
      let is : v.seen.dino i ≡ record_of l.Mark (hand i) = here.shows.dinos i ∙ sym (ap (record_of l.Mark) (base_v.in_hand i lock)) in (
        lock,
        λ x t. (
          tt,
          record (v.seen) { lock = put v.seen.lock i None },
          refl,
          tt,
          (λ inv. shows_given i (record_of l.Mark (hand i)) v.real v.seen is (base_v.tied i lock).1 here.shows),
          did_same h v.real _ (did_lock h i None (put v.real.mem i (Some (record_of l.Mark (hand i)))) v.real (ours_is h (v.real.lock i) (inr lock)) (ours_none h)),
          λ gs inv c. (
            c,
            record {
              free = base_v.free;
              tied = λ j e. let t = base_v.tied j (left v.real j e).1 in (put_other v.seen.lock i None j (left v.real j e).0 ∙ t.0, t.1);
              in_hand = λ j e. put_other hand i None j (left v.real j e).0 ∙ base_v.in_hand j (left v.real j e).1;
            },
          ),
        ),
      ))
    where
      -- the inodes that are the hart's still
      left : (v : World) (j : ℕ) → put v.lock i None j ≡ Some h → (j ≢ i) × (v.lock j ≡ Some h)
      left v j e = elim (same_or j i) [
        | inl q ↦ absurd (let n : ◌≡◌ {A = Option ℕ} None (Some h) = sym (put_same v.lock i None) ∙ ap (put v.lock i None) (sym q) ∙ e in cc)
        | inr ne ↦ (ne, sym (put_other v.lock i None j ne) ∙ e)
      ]

  enter_atomic : (m : Unit {0} → Option l.Mark) → Atomic (whole l) blocks (handler l.Mark) h above.Enter m
  enter_atomic m hand B C es w lasts todo base =
      s-act (whole l) blocks laws (blocks_laws l keeps) h B above.Enter m C lasts tt Join (λ a. Ret (record { answer = a; carry = hand })) (Below (whole l) blocks h C) 0 es w todo
      (λ v fs here may. (
        sym (here.shows.txns h) ∙ may,
        λ x t. (tt, record (v.seen) { txn = put v.seen.txn h true }, refl, tt, (λ inv. shows_txn h true v.real v.seen here.shows), did_same h v.real _ (did_txn h true v.real), λ gs inv c. (c, let b = base_at hand w v here.same here.kept base in record { free = b.free; tied = b.tied; in_hand = b.in_hand })),
      ))

  exit_atomic : (m : Unit {0} → Option l.Mark) → Atomic (whole l) blocks (handler l.Mark) h above.Exit m
  exit_atomic m hand B C es w lasts todo base =
      s-act (whole l) blocks laws (blocks_laws l keeps) h B above.Exit m C lasts tt Leave (λ a. Ret (record { answer = a; carry = hand })) (Below (whole l) blocks h C) 0 es w todo
      (λ v fs here may. (
        sym (here.shows.txns h) ∙ may,
        λ x t. (tt, record (v.seen) { txn = put v.seen.txn h false }, refl, tt, (λ inv. shows_txn h false v.real v.seen here.shows), did_same h v.real _ (did_txn h false v.real), λ gs inv c. (c, let b = base_at hand w v here.same here.kept base in record { free = b.free; tied = b.tied; in_hand = b.in_hand })),
      ))

  look_atomic : (i k : ℕ) (m : ℕ → Option l.Mark) → Atomic (whole l) blocks (handler l.Mark) h (above.Look i k) m
  look_atomic i k m hand B C es w lasts todo base =
      s-act (whole l) blocks laws (blocks_laws l keeps) h B (above.Look i k) m C lasts tt (GetPart i k) (λ a. Ret (record { answer = a; carry = hand })) (Below (whole l) blocks h C) 0 es w todo
      (λ v fs here may.
      let base_v = base_at hand w v here.same here.kept base in
      let lock : v.real.lock i ≡ Some h = sym (here.shows.locks i) ∙ may in (
        lock,
        λ x t. (v.seen.node i k, v.seen, refl, tt, (λ inv. here.shows), (λ other ne. (blocks_laws l keeps).same other v.real), λ gs inv c. (subst (λ (z : ℕ). C z gs v.seen) (ap (λ (f : ℕ → ℕ). f k) (base_v.tied i lock).1) c, base_v)),
      ))

  -- A loop: each put but the last is silent, and the last one acts.
  module _ (i from first : ℕ) (others : List ℕ) (m : Unit {0} → Option l.Mark) (hand : Carry) (B : E → Type 0) (C : Unit {0} → E → above.World → Type 0) (lasts : Lasts (whole l) h B C) where
    abbrev the_op : above.Op
    the_op = above.Write i from first others

    abbrev Done : Unit {0} → E → W → Type 0
    Done a = Below (whole l) blocks h C (record { answer = a; carry = hand })

    -- before the put of z at k, and the ones of zs: what they lead to is what the node will be
    record Writing (k z : ℕ) (zs : List ℕ) (r : World) (g : above.World) : Type 0 where
      pub free : (b : ℕ) → r.out b ≢ Some h
      pub tied : (j : ℕ) → j ≢ i → r.lock j ≡ Some h → (g.lock j ≡ Some h) × (g.node j ≡ r.part j)
      pub below : r.lock i ≡ Some h
      pub above : g.lock i ≡ Some h
      pub in_hand : InHand h r hand
      pub leads : written (r.part i) k (z ∷ zs) ≡ written (g.node i) from (first ∷ others)

    writing_stays : (k z : ℕ) (zs : List ℕ) (w v : W) → Same h w.real v.real → above.Kept h w.seen v.seen → Writing k z zs w.real w.seen → Writing k z zs v.real v.seen
    writing_stays k z zs w v same kept p =
        let part = has_part h i w.real v.real (same.parts i) p.below in
        let node = kept.node i p.above in
        record {
          free = λ b. has_none h b w.real v.real same (p.free b);
          tied = λ j ne e.
              let q = has_part h j v.real w.real (sym (same.parts j)) e in
              let t = p.tied j ne q.0 in
              let n = kept.node j t.0 in (n.0, n.1 ∙ t.1 ∙ q.1);
          below = part.0;
          above = node.0;
          in_hand = hand_stays h w.real v.real hand same.inodes p.in_hand;
          leads = ap (λ (f : ℕ → ℕ). written f k (z ∷ zs)) part.1 ∙ p.leads ∙ ap (λ (f : ℕ → ℕ). written f from (first ∷ others)) (sym node.1);
        }

    -- the world with this part written
    abbrev wrote : W → ℕ → ℕ → W
    wrote v k z = record { real = record (v.real) { part = put v.real.part i (put (v.real.part i) k z) }; seen = v.seen }

    write_ok : (zs : List ℕ) (k z : ℕ) (es : E) (w : W) → ((v : W) (fs : E) → Here (whole l) blocks laws (blocks_laws l keeps) h B (ToAct (whole l) blocks laws (blocks_laws l keeps) h B the_op m C lasts) w v fs → Writing k z zs v.real v.seen) → ToAct (whole l) blocks laws (blocks_laws l keeps) h B the_op m C lasts es w.seen
        → Wp D h B Done (write_parts l.Mark i (act l.Mark the_op m) k z zs) (suc (length zs)) es w
    write_ok [] k z es w p todo =
        s-act (whole l) blocks laws (blocks_laws l keeps) h B the_op m C lasts tt (PutPart i k z) (λ a. Ret a) Done 0 es w todo
        (λ v fs here may.
        let q = p v fs here in (
          (q.below, sym (here.shows.txns h) ∙ may.1),
          λ x t. (
            tt,
            record (v.seen) { node = put v.seen.node i (written (v.seen.node i) from (first ∷ others)) },
            refl,
            tt,
            (λ inv. shows_part h i (put (v.real.part i) k z) _ v.real v.seen q.below (λ j ne. put_other v.seen.node i _ j ne) here.shows),
            did_same h v.real _ (did_part h i k z v.real q.below),
            λ gs inv c. (
              c,
              record {
                free = q.free;
                tied = λ j e. elim (same_or j i) [
                  | inl n ↦ (ap v.seen.lock n ∙ q.above, ap (put v.seen.node i (written (v.seen.node i) from (first ∷ others))) n ∙ put_same v.seen.node i _ ∙ sym q.leads ∙ sym (put_same v.real.part i (put (v.real.part i) k z)) ∙ ap (put v.real.part i (put (v.real.part i) k z)) (sym n))
                  | inr ne ↦ let y = q.tied j ne e in (y.0, put_other v.seen.node i _ j ne ∙ y.1 ∙ sym (put_other v.real.part i (put (v.real.part i) k z) j ne))
                ];
                in_hand = q.in_hand;
              },
            ),
          ),
        ))
    write_ok (y ∷ ys) k z es w p todo =
        s-silent (whole l) blocks laws (blocks_laws l keeps) h B (PutPart i k z) (λ _. write_parts l.Mark i (act l.Mark the_op m) (suc k) y ys) Done (ToAct (whole l) blocks laws (blocks_laws l keeps) h B the_op m C lasts) (suc (length ys)) es w (to_act (whole l) blocks laws (blocks_laws l keeps) h B the_op m C lasts) todo
        (λ v fs here.
        let q = p v fs here in
        let may = may_act (whole l) blocks laws (blocks_laws l keeps) h B the_op m C lasts fs v.seen here.stage here.inv in (
          (q.below, sym (here.shows.txns h) ∙ may.1),
          λ x t. (
            shows_part h i (put (v.real.part i) k z) v.seen.node v.real v.seen q.below (λ j ne. refl) here.shows,
            did_same h v.real _ (did_part h i k z v.real q.below),
            write_ok ys (suc k) y fs (wrote v k z)
                (λ u gs there. writing_stays (suc k) y ys (wrote v k z) u there.same there.kept (record {
                  free = q.free;
                  tied = λ j ne e. let t = q.tied j ne e in (t.0, t.1 ∙ sym (put_other v.real.part i (put (v.real.part i) k z) j ne));
                  below = q.below;
                  above = q.above;
                  in_hand = q.in_hand;
                  leads = ap (λ (f : ℕ → ℕ). written f (suc k) (y ∷ ys)) (put_same v.real.part i (put (v.real.part i) k z)) ∙ q.leads;
                }))
                here.stage,
          ),
        ))

  write_atomic : (i k z : ℕ) (zs : List ℕ) (m : Unit {0} → Option l.Mark) → Atomic (whole l) blocks (handler l.Mark) h (above.Write i k z zs) m
  write_atomic i k z zs m hand B C es w lasts todo base =
      Wp-holding D h hand (write_parts l.Mark i (act l.Mark (above.Write i k z zs) m) k z zs) B (Below (whole l) blocks h C) (suc (length zs)) es w
      (write_ok i k z zs m hand B C lasts zs k z es w
      (λ v fs here.
      let b = base_at hand w v here.same here.kept base in
      let may = may_act (whole l) blocks laws (blocks_laws l keeps) h B (above.Write i k z zs) m C lasts fs v.seen here.stage here.inv in
      let lock : v.real.lock i ≡ Some h = sym (here.shows.locks i) ∙ may.0 in
      record { free = b.free; tied = λ j ne e. b.tied j e; below = lock; above = may.0; in_hand = b.in_hand; leads = ap (λ (f : ℕ → ℕ). written f k (z ∷ zs)) (sym (b.tied i lock).1) })
      todo)

  pub atomic : h < hart_count → (op : above.Op) (m : above.Answer op → Option l.Mark) → Atomic (whole l) blocks (handler l.Mark) h op m
  atomic small (above.Take i) m = take_atomic small i m
  atomic small (above.Store i d) m = store_atomic i d m
  atomic small (above.Give i) m = give_atomic i m
  atomic small above.Enter m = enter_atomic m
  atomic small above.Exit m = exit_atomic m
  atomic small (above.Look i k) m = look_atomic i k m
  atomic small (above.Write i k z zs) m = write_atomic i k z zs m
