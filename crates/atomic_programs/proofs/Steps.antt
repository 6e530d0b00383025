-- What a step below leaves to the others, and what it shows above.
use Rattle.atomic_programs.proofs.Vocabulary.{◌≡◌, ◌≢◌, ◌⊎◌, inl, inr, ◌/◌, ◌%◌, ℕ, Bool, true, Option, Some, None, refl, sym, ◌∙◌, ap, subst, arith, ne_eqb, LowerLaws, put, if_held, Dinode, Labels, Keeps, whole, Block, World, Shows, Same, IsTied, Carry, InHand, at, blocks}
use Rattle.atomic_programs.specs.Whole as above
use Rattle.atomic_programs.proofs.Maps.{put_same, put_other, same_or, put_elim, Ours, ours_none, ours_some, not_held, held_is, held_here, none_is}

pub not_mine : {A : Type 0} (h : ℕ) (o : Option ℕ) (x : A) → o ≢ Some h → if_held o h x ≡ None
not_mine h None x ne = refl
not_mine h (Some g) x ne = rw (ne_eqb g h (λ e. ne (ap Some e)))

-- What the hart has stays.
pub has_lock : (h i : ℕ) (v w : World) → if_held (w.lock i) h (at w.cell i) ≡ if_held (v.lock i) h (at v.cell i) → v.lock i ≡ Some h → (w.lock i ≡ Some h) × (at w.cell i ≡ at v.cell i)
has_lock h i v w s e = held_is h (w.lock i) (at w.cell i) (at v.cell i) (s ∙ ap (λ (o : Option ℕ). if_held o h (at v.cell i)) e ∙ held_here h (at v.cell i))

pub has_buffer : (h b : ℕ) (v w : World) → Same h v w → v.out b ≡ Some h → (w.out b ≡ Some h) × (w.cell b ≡ v.cell b) × (w.valid b ≡ v.valid b)
has_buffer h b v w s e =
    let x : Block × Bool = (w.cell b, w.valid b) in
    let y : Block × Bool = (v.cell b, v.valid b) in
    let q = held_is h (w.out b) x y (s.buffers b ∙ ap (λ (o : Option ℕ). if_held o h y) e ∙ held_here h y) in
    (q.0, ap (λ (p : Block × Bool). p.0) q.1, ap (λ (p : Block × Bool). p.1) q.1)

pub has_none : (h b : ℕ) (v w : World) → Same h v w → v.out b ≢ Some h → w.out b ≢ Some h
has_none h b v w s ne =
    let x : Block × Bool = (w.cell b, w.valid b) in
    let y : Block × Bool = (v.cell b, v.valid b) in
    none_is h (w.out b) x (s.buffers b ∙ not_mine h (v.out b) y ne)

pub has_part : (h i : ℕ) (v w : World) → if_held (w.lock i) h (w.part i) ≡ if_held (v.lock i) h (v.part i) → v.lock i ≡ Some h → (w.lock i ≡ Some h) × (w.part i ≡ v.part i)
has_part h i v w s e = held_is h (w.lock i) (w.part i) (v.part i) (s ∙ ap (λ (o : Option ℕ). if_held o h (v.part i)) e ∙ held_here h (v.part i))

-- what the hart has of contents stays tied
pub tied_stays : (h : ℕ) (v w : World) (g u : above.World) → ((i : ℕ) → if_held (w.lock i) h (w.part i) ≡ if_held (v.lock i) h (v.part i)) → above.Kept h g u → IsTied h v g → IsTied h w u
tied_stays h v w g u s kept tied i e =
    let p = has_part h i w v (sym (s i)) e in
    let t = tied i p.0 in
    let k = kept.node i t.0 in
    (k.0, k.1 ∙ t.1 ∙ p.1)

-- and what it has in hand is still the records of its inodes
pub hand_stays : (h : ℕ) (v w : World) (hand : Carry) → ((i : ℕ) → if_held (w.lock i) h (at w.cell i) ≡ if_held (v.lock i) h (at v.cell i)) → InHand h v hand → InHand h w hand
hand_stays h v w hand s has i e = let p = has_lock h i w v (sym (s i)) e in has i p.0 ∙ ap (λ (d : Dinode). Some d) p.1

pub blocks_laws : (l : Labels) → Keeps l → LowerLaws (whole l) blocks
blocks_laws l keeps =
    record {
      same = λ h w. record { inodes = λ i. refl; buffers = λ b. refl; txn = refl; parts = λ i. refl };
      trans = λ h u v w p q. record { inodes = λ i. q.inodes i ∙ p.inodes i; buffers = λ b. q.buffers b ∙ p.buffers b; txn = q.txn ∙ p.txn; parts = λ i. q.parts i ∙ p.parts i };
      kept = keeps.kept;
      base = λ h v w g u hand s k b. record { free = λ c. has_none h c v w s (b.free c); tied = tied_stays h v w g u s.parts k b.tied; in_hand = hand_stays h v w hand s.inodes b.in_hand };
      idle = λ h w g hand inv i b. record { free = b.free; tied = b.tied; in_hand = λ j e. absurd (keeps.idle h g i j (b.tied j e).0) };
    }

-- a step of hart h
pub record LowerStep (h : ℕ) (v r : World) : Type 0 where
  pub inodes : (i : ℕ) → ((r.lock i ≡ v.lock i) × (at r.cell i ≡ at v.cell i) × (r.part i ≡ v.part i)) ⊎ (Ours h (v.lock i) × Ours h (r.lock i))
  pub buffers : (b : ℕ) → ((r.out b ≡ v.out b) × (r.cell b ≡ v.cell b) × (r.valid b ≡ v.valid b)) ⊎ (Ours h (v.out b) × Ours h (r.out b))
  pub txns : (g : ℕ) → g ≢ h → r.txn g ≡ v.txn g

pub did_same : (h : ℕ) (v r : World) → LowerStep h v r → (g : ℕ) → g ≢ h → Same g v r
did_same h v r did g ne = record { inodes = λ i. inode i (did.inodes i); buffers = λ b. buffer b (did.buffers b); txn = did.txns g ne; parts = λ i. part i (did.inodes i) }
  where
    inode : (i : ℕ) → ((r.lock i ≡ v.lock i) × (at r.cell i ≡ at v.cell i) × (r.part i ≡ v.part i)) ⊎ (Ours h (v.lock i) × Ours h (r.lock i)) → if_held (r.lock i) g (at r.cell i) ≡ if_held (v.lock i) g (at v.cell i)
    inode i (inl k) = let a = k.0 in let b = k.1 in cc
    inode i (inr o) = not_held h g (r.lock i) (at r.cell i) o.1 ne ∙ sym (not_held h g (v.lock i) (at v.cell i) o.0 ne)

    part : (i : ℕ) → ((r.lock i ≡ v.lock i) × (at r.cell i ≡ at v.cell i) × (r.part i ≡ v.part i)) ⊎ (Ours h (v.lock i) × Ours h (r.lock i)) → if_held (r.lock i) g (r.part i) ≡ if_held (v.lock i) g (v.part i)
    part i (inl k) = λ j. if_held (k.0 j) g (k.2 j)
    part i (inr o) = not_held h g (r.lock i) (r.part i) o.1 ne ∙ sym (not_held h g (v.lock i) (v.part i) o.0 ne)

    buffer : (b : ℕ) → ((r.out b ≡ v.out b) × (r.cell b ≡ v.cell b) × (r.valid b ≡ v.valid b)) ⊎ (Ours h (v.out b) × Ours h (r.out b))
        → if_held {A = Block × Bool} (r.out b) g (r.cell b, r.valid b) ≡ if_held {A = Block × Bool} (v.out b) g (v.cell b, v.valid b)
    buffer b (inl k) = λ i. if_held {A = Block × Bool} (k.0 i) g (k.1 i, k.2 i)
    buffer b (inr o) =
        let x : Block × Bool = (r.cell b, r.valid b) in
        let y : Block × Bool = (v.cell b, v.valid b) in
        not_held h g (r.out b) x o.1 ne ∙ sym (not_held h g (v.out b) y o.0 ne)

pub ours_is : (h : ℕ) (o : Option ℕ) → (o ≡ None) ⊎ (o ≡ Some h) → Ours h o
ours_is h o (inl e) = subst (Ours h) (sym e) (ours_none h)
ours_is h o (inr e) = subst (Ours h) (sym e) (ours_some h)

-- what was changed at one place, that was and is nobody else's
pub ours_put : (h : ℕ) (f : ℕ → Option ℕ) (k : ℕ) (y : Option ℕ) (j : ℕ) → Ours h (f k) → Ours h y → ((j ≢ k) × (put f k y j ≡ f j)) ⊎ (Ours h (f j) × Ours h (put f k y j))
ours_put h f k y j a b = elim (same_or j k) [
  | inl e ↦ inr (subst (Ours h) (ap f (sym e)) a, subst (Ours h) (sym (ap (put f k y) e ∙ put_same f k y)) b)
  | inr ne ↦ inl (ne, put_other f k y j ne)
]

-- the lock of inode i came into the hart's hand, or goes from it
pub did_lock : (h i : ℕ) (y : Option ℕ) (mem : ℕ → Option Dinode) (v : World) → Ours h (v.lock i) → Ours h y → LowerStep h v (record v { lock = put v.lock i y; mem = mem })
did_lock h i y mem v a b =
    record { inodes = λ j. elim (ours_put h v.lock i y j a b) [ inl e ↦ inl (e.1, refl, refl) | inr o ↦ inr o ]; buffers = λ c. inl (refl, refl, refl); txns = λ g ne. refl }

-- the same of a buffer whose block may change, but only in slots of the hart's inodes
pub did_buffer : (h b : ℕ) (y : Option ℕ) (z : Block) (v : World) → Ours h (v.out b) → Ours h y
    → ((i : ℕ) → i / 16 ≡ b → (z (i % 16) ≡ v.cell b (i % 16)) ⊎ Ours h (v.lock i)) → LowerStep h v (record v { out = put v.out b y; cell = put v.cell b z })
did_buffer h b y z v a c slots =
    record {
      inodes = λ i. elim (same_or (i / 16) b) [
        | inl e ↦ elim (slots i e) [
          | inl s ↦ inl (refl, ap (λ (k : ℕ). put v.cell b z k (i % 16)) e ∙ ap (λ (x : Block). x (i % 16)) (put_same v.cell b z) ∙ s ∙ ap (λ (k : ℕ). v.cell k (i % 16)) (sym e), refl)
          | inr o ↦ inr (o, o)
        ]
        | inr ne ↦ inl (refl, ap (λ (x : Block). x (i % 16)) (put_other v.cell b z (i / 16) ne), refl)
      ];
      buffers = λ j. elim (ours_put h v.out b y j a c) [ inl e ↦ inl (e.1, put_other v.cell b z j e.0, refl) | inr o ↦ inr o ];
      txns = λ g ne. refl;
    }

-- the same if the block stays
pub did_hand : (h b : ℕ) (y : Option ℕ) (v : World) → Ours h (v.out b) → Ours h y → LowerStep h v (record v { out = put v.out b y })
did_hand h b y v a c =
    record { inodes = λ i. inl (refl, refl, refl); buffers = λ j. elim (ours_put h v.out b y j a c) [ inl e ↦ inl (e.1, refl, refl) | inr o ↦ inr o ]; txns = λ g ne. refl }

pub did_read : (h b : ℕ) (v : World) → v.out b ≡ Some h → LowerStep h v (record v { valid = put v.valid b true })
did_read h b v mine =
    record {
      inodes = λ i. inl (refl, refl, refl);
      buffers = λ j. elim (same_or j b) [
        | inl e ↦ inr (ours_is h (v.out j) (inr (ap v.out e ∙ mine)), ours_is h (v.out j) (inr (ap v.out e ∙ mine)))
        | inr ne ↦ inl (refl, refl, put_other v.valid b true j ne)
      ];
      txns = λ g ne. refl;
    }

pub did_txn : (h : ℕ) (t : Bool) (v : World) → LowerStep h v (record v { txn = put v.txn h t })
did_txn h t v = record { inodes = λ i. inl (refl, refl, refl); buffers = λ b. inl (refl, refl, refl); txns = λ g ne. put_other v.txn h t g ne }

-- What is shown above after a step.
pub put_like : {A : Type 0} (f g : ℕ → A) (k : ℕ) (x : A) → ((n : ℕ) → f n ≡ g n) → (n : ℕ) → put f k x n ≡ put g k x n
put_like f g k x same n =
    put_elim g k x n (λ z. put f k x n ≡ z) (λ e. ap (put f k x) e ∙ put_same f k x) (λ ne. put_other f k x n ne ∙ same n)

pub shows_same : (v r : World) (g : above.World) → r.lock ≡ v.lock → r.mem ≡ v.mem → r.cell ≡ v.cell → r.txn ≡ v.txn → r.part ≡ v.part → Shows v g → Shows r g
shows_same v r g a b c d p s =
    record {
      locks = λ i. s.locks i ∙ ap (λ (f : ℕ → Option ℕ). f i) (sym a);
      dinos = λ i. s.dinos i ∙ ap (λ (f : ℕ → Block). at f i) (sym c);
      txns = λ h. s.txns h ∙ ap (λ (f : ℕ → Bool). f h) (sym d);
      loaded = λ i x free is. s.loaded i x (ap (λ (f : ℕ → Option ℕ). f i) (sym a) ∙ free) (ap (λ (f : ℕ → Option Dinode). f i) (sym b) ∙ is) ∙ ap (λ (f : ℕ → Block). at f i) (sym c);
      parts = λ i free. s.parts i (ap (λ (f : ℕ → Option ℕ). f i) (sym a) ∙ free) ∙ ap (λ (f : ℕ → ℕ → ℕ). f i) (sym p);
    }

pub shows_locked : (h i : ℕ) (v : World) (g : above.World) → Shows v g → Shows (record v { lock = put v.lock i (Some h) }) (record g { lock = put g.lock i (Some h) })
shows_locked h i v g s =
    record {
      locks = put_like g.lock v.lock i (Some h) s.locks;
      dinos = s.dinos;
      txns = s.txns;
      loaded = λ j d. put_elim v.lock i (Some h) j (λ z. z ≡ None → v.mem j ≡ Some d → d ≡ at v.cell j) (λ e q. absurd cc) (λ ne. s.loaded j d);
      parts = λ j. put_elim v.lock i (Some h) j (λ z. z ≡ None → g.node j ≡ v.part j) (λ e q. absurd cc) (λ ne. s.parts j);
    }

pub shows_given : (i : ℕ) (d : Dinode) (v : World) (g : above.World) → g.dino i ≡ d → g.node i ≡ v.part i → Shows v g → Shows (record v { lock = put v.lock i None; mem = put v.mem i (Some d) }) (record g { lock = put g.lock i None })
shows_given i d v g is tie s =
    record {
      locks = put_like g.lock v.lock i None s.locks;
      dinos = s.dinos;
      txns = s.txns;
      loaded = λ j x free m. elim (same_or j i) [
        | inl e ↦ (let q : ◌≡◌ {A = Option Dinode} (Some d) (Some x) = sym (put_same v.mem i (Some d)) ∙ ap (put v.mem i (Some d)) (sym e) ∙ m in let p : d ≡ x = cc in sym p) ∙ sym is ∙ s.dinos i ∙ ap (at v.cell) (sym e)
        | inr ne ↦ s.loaded j x (sym (put_other v.lock i None j ne) ∙ free) (sym (put_other v.mem i (Some d) j ne) ∙ m)
      ];
      parts = λ j free. elim (same_or j i) [ inl e ↦ ap g.node e ∙ tie ∙ ap v.part (sym e) | inr ne ↦ s.parts j (sym (put_other v.lock i None j ne) ∙ free) ];
    }

-- a block with one slot changed
pub slot_new : (cell : ℕ → Block) (i : ℕ) (d : Dinode) (z : Block) → at (put cell (i / 16) (put z (i % 16) d)) i ≡ d
slot_new cell i d z = ap (λ (x : Block). x (i % 16)) (put_same cell (i / 16) (put z (i % 16) d)) ∙ put_same z (i % 16) d

another_slot : (i j : ℕ) → j ≢ i → j / 16 ≡ i / 16 → j % 16 ≢ i % 16
another_slot i j ne e q = ne (omega arith)

pub slot_other : (cell : ℕ → Block) (i j : ℕ) (d : Dinode) (z : Block) → cell (i / 16) ≡ z → j ≢ i → at (put cell (i / 16) (put z (i % 16) d)) j ≡ at cell j
slot_other cell i j d z is ne = elim (same_or (j / 16) (i / 16)) [
  | inl e ↦ ap (λ (b : ℕ). put cell (i / 16) (put z (i % 16) d) b (j % 16)) e ∙ ap (λ (x : Block). x (j % 16)) (put_same cell (i / 16) (put z (i % 16) d)) ∙ put_other z (i % 16) d (j % 16) (another_slot i j ne e) ∙ ap (λ (x : Block). x (j % 16)) (sym is ∙ ap cell (sym e))
  | inr other ↦ ap (λ (x : Block). x (j % 16)) (put_other cell (i / 16) (put z (i % 16) d) (j / 16) other)
]

pub shows_stored : (h i : ℕ) (d : Dinode) (z : Block) (v r : World) (g : above.World) → v.lock i ≡ Some h → v.cell (i / 16) ≡ z → r.lock ≡ v.lock → r.mem ≡ v.mem → r.txn ≡ v.txn → r.part ≡ v.part → r.cell ≡ put v.cell (i / 16) (put z (i % 16) d)
    → Shows v g → Shows r (record g { dino = put g.dino i d })
shows_stored h i d z v r g mine is a b t p c s =
    record {
      locks = λ j. s.locks j ∙ ap (λ (f : ℕ → Option ℕ). f j) (sym a);
      dinos = λ j. put_elim g.dino i d j (λ x. x ≡ at r.cell j) (λ e. sym (slot_new v.cell i d z) ∙ ap (λ (f : ℕ → Block). at f i) (sym c) ∙ ap (at r.cell) (sym e)) (λ ne. s.dinos j ∙ sym (slot_other v.cell i j d z is ne) ∙ ap (λ (f : ℕ → Block). at f j) (sym c));
      txns = λ k. s.txns k ∙ ap (λ (f : ℕ → Bool). f k) (sym t);
      loaded = λ j x free m. elim (same_or j i) [
        | inl e ↦ absurd (let q : ◌≡◌ {A = Option ℕ} None (Some h) = sym free ∙ ap (λ (f : ℕ → Option ℕ). f j) a ∙ ap v.lock e ∙ mine in cc)
        | inr ne ↦ s.loaded j x (ap (λ (f : ℕ → Option ℕ). f j) (sym a) ∙ free) (ap (λ (f : ℕ → Option Dinode). f j) (sym b) ∙ m) ∙ sym (slot_other v.cell i j d z is ne) ∙ ap (λ (f : ℕ → Block). at f j) (sym c)
      ];
      parts = λ j free. s.parts j (ap (λ (f : ℕ → Option ℕ). f j) (sym a) ∙ free) ∙ ap (λ (f : ℕ → ℕ → ℕ). f j) (sym p);
    }

pub shows_txn : (h : ℕ) (t : Bool) (v : World) (g : above.World) → Shows v g → Shows (record v { txn = put v.txn h t }) (record g { txn = put g.txn h t })
shows_txn h t v g s = record { locks = s.locks; dinos = s.dinos; txns = put_like g.txn v.txn h t s.txns; loaded = s.loaded; parts = s.parts }

-- A part of an inode of the hart's: below it is written, and above it may be later.
pub did_part : (h i k z : ℕ) (v : World) → v.lock i ≡ Some h → LowerStep h v (record v { part = put v.part i (put (v.part i) k z) })
did_part h i k z v mine =
    record {
      inodes = λ j. elim (same_or j i) [
        | inl e ↦ inr (ours_is h (v.lock j) (inr (ap v.lock e ∙ mine)), ours_is h (v.lock j) (inr (ap v.lock e ∙ mine)))
        | inr ne ↦ inl (refl, refl, put_other v.part i (put (v.part i) k z) j ne)
      ];
      buffers = λ b. inl (refl, refl, refl);
      txns = λ g ne. refl;
    }

-- whatever the node above and the parts below of a locked inode are
pub shows_part : (h i : ℕ) (p : ℕ → ℕ) (n : ℕ → ℕ → ℕ) (v : World) (g : above.World) → v.lock i ≡ Some h → ((j : ℕ) → j ≢ i → n j ≡ g.node j) → Shows v g → Shows (record v { part = put v.part i p }) (record g { node = n })
shows_part h i p n v g mine others s =
    record {
      locks = s.locks;
      dinos = s.dinos;
      txns = s.txns;
      loaded = s.loaded;
      parts = λ j free. elim (same_or j i) [
        | inl e ↦ absurd (let q : ◌≡◌ {A = Option ℕ} None (Some h) = sym free ∙ ap v.lock e ∙ mine in cc)
        | inr ne ↦ others j ne ∙ s.parts j free ∙ sym (put_other v.part i p j ne)
      ];
    }
