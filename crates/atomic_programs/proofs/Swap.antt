-- The swap is right over whole inodes.
use Rattle.atomic_programs.proofs.Vocabulary.{◌≡◌, ◌≢◌, ◌<◌, ◌+◌, inl, inr, ℕ, Bool, true, false, Option, Some, None, List, [], ◌∷◌, refl, sym, ◌∙◌, ap, subst, arith, eq-eqb, ne_eqb, Ret, Do, unmarked, Machine, own, onto, Fine, Good, Wp, Safe, Laws, Theory, Began, Begins, Begun, Ends, Right, Lawful, put, if_held, Dinode, Exit, Keeps, whole, take_if, IsOut, theory, Mine, HasNothing, Swap, labels, calls}
use Rattle.atomic_programs.proofs.Basics.{s-op, put_same, put_other, same_or, put_elim, Ours, ours_none, not_held, held_is, held_here, none_is, not_mine, ours_is, ours_put}
use Rattle.atomic_programs.specs.Whole.{World, Op, Take, Store, Give}
use Rattle.atomic_programs.specs.Swap.{Step, Swapped, program}

pub has : (h i : ℕ) (v w : World) → Mine h v w → v.lock i ≡ Some h → (w.lock i ≡ Some h) × (w.dino i ≡ v.dino i) × (w.node i ≡ v.node i)
has h i v w m e =
    let x : Dinode × (ℕ → ℕ) = (v.dino i, v.node i) in
    let y : Dinode × (ℕ → ℕ) = (w.dino i, w.node i) in
    let q = held_is h (w.lock i) y x (m.inodes i ∙ ap (λ (o : Option ℕ). if_held o h x) e ∙ held_here h x) in
    (q.0, ap (λ (p : Dinode × (ℕ → ℕ)). p.0) q.1, ap (λ (p : Dinode × (ℕ → ℕ)). p.1) q.1)

has_not : (h i : ℕ) (v w : World) → Mine h v w → v.lock i ≢ Some h → w.lock i ≢ Some h
has_not h i v w m ne =
    let x : Dinode × (ℕ → ℕ) = (v.dino i, v.node i) in
    let y : Dinode × (ℕ → ℕ) = (w.dino i, w.node i) in
    none_is h (w.lock i) y (m.inodes i ∙ not_mine h (v.lock i) x ne)

pub keeps : Keeps labels
keeps = record { kept = λ h v w xs o. record { node = λ i e. let q = has h i v w o.1 e in (q.0, q.2) }; idle = λ h w i. i.none }

abbrev M : Machine
M = whole labels

pub laws : Laws M
laws =
    record {
      same = λ h w. (refl, record { inodes = λ i. refl; txn = refl });
      trans = λ h u v w xs ys a b. (rw (a.0, b.0) refl, record { inodes = λ i. b.1.inodes i ∙ a.1.inodes i; txn = b.1.txn ∙ a.1.txn });
      idle_none = λ h v w xs o i. o.0;
      idle_stays = λ h v w xs o i. record { none = λ j. has_not h j v w o.1 (i.none j); txn = o.1.txn ∙ i.txn };
      clean_before = λ h v w xs o y. tt;
    }

-- an inode in the hart's hand
record Held (h i : ℕ) (d : Dinode) (w : World) : Type 0 where
  pub lock : w.lock i ≡ Some h
  pub dino : w.dino i ≡ d
  pub only : (j : ℕ) → j ≢ i → w.lock j ≢ Some h
  pub txn : w.txn h ≡ true

held_stays : (h i : ℕ) (d : Dinode) (v w : World) → Mine h v w → Held h i d v → Held h i d w
held_stays h i d v w m p = let q = has h i v w m p.lock in record { lock = q.0; dino = q.1 ∙ p.dino; only = λ j ne. has_not h j v w m (p.only j ne); txn = m.txn ∙ p.txn }

nothing_stays : (h : ℕ) (t : Bool) (v w : World) → Mine h v w → HasNothing h t v → HasNothing h t w
nothing_stays h t v w m p = record { none = λ j. has_not h j v w m (p.none j); txn = m.txn ∙ p.txn }

mine_lock : (h i : ℕ) (y : Option ℕ) (v : World) → Ours h (v.lock i) → Ours h y → (g : ℕ) → g ≢ h → Mine g v (record v { lock = put v.lock i y })
mine_lock h i y v a b g ne =
    record {
      inodes = λ j. let x : Dinode × (ℕ → ℕ) = (v.dino j, v.node j) in elim (ours_put h v.lock i y j a b) [
        | inl e ↦ ap (λ (o : Option ℕ). if_held o g x) e.1
        | inr o ↦ not_held h g (put v.lock i y j) x o.1 ne ∙ sym (not_held h g (v.lock j) x o.0 ne)
      ];
      txn = refl;
    }

mine_dino : (h i : ℕ) (d : Dinode) (v : World) → v.lock i ≡ Some h → (g : ℕ) → g ≢ h → Mine g v (record v { dino = put v.dino i d })
mine_dino h i d v lock g ne =
    record {
      inodes = λ j. let x : Dinode × (ℕ → ℕ) = (v.dino j, v.node j) in let z : Dinode × (ℕ → ℕ) = (put v.dino i d j, v.node j) in elim (same_or j i) [
        | inl e ↦ let o = ours_is h (v.lock j) (inr (ap v.lock e ∙ lock)) in not_held h g (v.lock j) z o ne ∙ sym (not_held h g (v.lock j) x o ne)
        | inr n ↦ λ k. if_held {A = Dinode × (ℕ → ℕ)} (v.lock j) g (put_other v.dino i d j n k, v.node j)
      ];
      txn = refl;
    }

mine_txn : (h : ℕ) (t : Bool) (v : World) (g : ℕ) → g ≢ h → Mine g v (record v { txn = put v.txn h t })
mine_txn h t v g ne = record { inodes = λ j. refl; txn = put_other v.txn h t g ne }

quiet : {h more n : ℕ} {B : List Step → Type 0} {es : List Step} {v u : World} {Next : ℕ → Type 0} (l : ℕ) → l + more < n → ((g : ℕ) → g ≢ h → Mine g v u) → u.dino ≡ v.dino → Next l → Fine M h [] more n B es v u Next
quiet l falls mine same next =
    record { inv = tt; kept = λ g ne. (refl, mine g ne); goes = λ y. same; clean = λ y. tt; begun = λ y. inl refl; left = l; falls = falls; next = next }

module _ (h : ℕ) (c : Swap) where
  abbrev T : Theory
  T = theory labels calls

  abbrev S : Op → Type 0
  S op = Unit {0}

  exit_ok : (o : Dinode) (w : World) → HasNothing h true w → Safe M h (Begun T c) (Ends T h c) (Do Exit unmarked (λ _. Ret o)) 1 (Swapped c.inode c.to o ∷ []) w
  exit_ok o w p =
      s-op (omega arith) (λ v xs y. y.0) (λ v y i. y.1.txn ∙ p.txn)
      (λ v x y i t. quiet 0 (omega arith) (mine_txn h false v) refl ((λ z. refl), record { none = (nothing_stays h true w v y.1 p).none; txn = put_same v.txn h false }))

  give_ok : (o : Dinode) (w : World) → Held h c.inode c.to w → Safe M h (Begun T c) (Ends T h c) (Do (Give c.inode) unmarked (λ _. Do Exit unmarked (λ _. Ret o))) 2 (Swapped c.inode c.to o ∷ []) w
  give_ok o w p =
      s-op (omega arith) (λ v xs y. y.0) (λ v y i. (held_stays h c.inode c.to w v y.1 p).lock)
      (λ v x y i t. let q = held_stays h c.inode c.to w v y.1 p in
      quiet 1 (omega arith) (mine_lock h c.inode None v (ours_is h (v.lock c.inode) (inr q.lock)) (ours_none h)) refl
      (exit_ok o _ (record { none = λ j. put_elim v.lock c.inode None j (λ z. z ≢ Some h) (λ e n. cc) (λ ne. q.only j ne); txn = q.txn })).wp)

  store_ok : (o : Dinode) (w : World) → Held h c.inode o w → Safe M h (Begun T c) (Ends T h c) (Do (Store c.inode c.to) (λ _. Some (Swapped c.inode c.to o)) (λ _. Do (Give c.inode) unmarked (λ _. Do Exit unmarked (λ _. Ret o)))) 5 [] w
  store_ok o w p =
      s-op (omega arith) (λ v xs y. y.0) (λ v y i. let q = held_stays h c.inode o w v y.1 p in (q.lock, q.txn))
      (λ v x y i t. let q = held_stays h c.inode o w v y.1 p in record {
        inv = tt;
        kept = λ g ne. (rw (ne_eqb h g (λ e. ne (sym e))), mine_dino h c.inode c.to v q.lock g ne);
        goes = λ z. (put v.dino c.inode c.to, (q.dino, refl), refl);
        clean = λ z. tt;
        begun = λ z. inr (subst (λ (zs : List Step). Begun T c (onto zs [])) (sym (one o)) ([], o, refl));
        left = 2;
        falls = omega arith;
        next = subst (λ (zs : List Step). Wp M h (Begun T c) (Ends T h c) (Do (Give c.inode) unmarked (λ _. Do Exit unmarked (λ _. Ret o))) 2 (onto zs []) (record v { dino = put v.dino c.inode c.to })) (sym (one o))
            (give_ok o _ (record { lock = q.lock; dino = put_same v.dino c.inode c.to; only = q.only; txn = q.txn })).wp;
      })
    where
      one : (o : Dinode) → own h ((h, Swapped c.inode c.to o) ∷ []) ≡ Swapped c.inode c.to o ∷ []
      one o = rw (eq-eqb h h refl) refl

  take_ok : (w : World) → HasNothing h true w → Safe M h (Begun T c) (Ends T h c) (Do (Take c.inode) unmarked (λ o. Do (Store c.inode c.to) (λ _. Some (Swapped c.inode c.to o)) (λ _. Do (Give c.inode) unmarked (λ _. Do Exit unmarked (λ _. Ret o))))) 9 [] w
  take_ok w p =
      s-op (omega arith) (λ v xs y. y.0) (λ v y i. (nothing_stays h true w v y.1 p).none c.inode) (λ v x y i t. at v (nothing_stays h true w v y.1 p) (v.lock c.inode) refl)
    where
      at : (v : World) → HasNothing h true v → (o : Option ℕ) → v.lock c.inode ≡ o
          → Good M Dinode h (λ a. []) 3 9 (Begun T c) [] v (IsOut h (v.lock c.inode)) (take_if h c.inode v o) (λ l o u. Wp M h (Begun T c) (Ends T h c) (Do (Store c.inode c.to) (λ _. Some (Swapped c.inode c.to o)) (λ _. Do (Give c.inode) unmarked (λ _. Do Exit unmarked (λ _. Ret o)))) l [] u)
      at v q (Some g) e = (g, (λ n. q.none c.inode (e ∙ ap (λ (z : ℕ). Some z) n)), e)
      at v q None e =
          quiet 5 (omega arith) (mine_lock h c.inode (Some h) v (ours_is h (v.lock c.inode) (inl e)) (ours_is h (Some h) (inr refl))) refl
          (store_ok (v.dino c.inode) _ (record { lock = put_same v.lock c.inode (Some h); dino = refl; only = λ j ne n. q.none j (sym (put_other v.lock c.inode (Some h) j ne) ∙ n); txn = q.txn })).wp

  swap_ok : (w : World) → HasNothing h false w → Safe M h (Begun T c) (Ends T h c) (program c) 10 [] w
  swap_ok w p =
      s-op (omega arith) (λ v xs y. y.0) (λ v y i. y.1.txn ∙ p.txn)
      (λ v x y i t. quiet 9 (omega arith) (mine_txn h true v) refl (take_ok _ (record { none = (nothing_stays h false w v y.1 p).none; txn = put_same v.txn h true })).wp)

pub lawful : Lawful (theory labels calls)
lawful =
    record {
      laws = laws;
      calls = λ h c busy w u holds idle free e.
          subst (λ (z : World). Right (theory labels calls) h c busy w z) (begun_same w u e)
          (record {
            inv = λ i. i;
            halted = λ i. i;
            kept = λ g ne b. laws.same g w;
            rests = λ g ne b. idle g b;
            tree = refl;
            clean = λ y. y;
            none = λ y. (Swapped c.inode c.to c.to ∷ [], c.to, refl);
            runs = λ i. (swap_ok h c w (idle h free)).wp;
          });
    }
  where
    begun_same : (w u : World) → ◌≡◌ {A = Began (Unit {0}) World} (Begins w) (Begins u) → w ≡ u
    begun_same w u e = cc
