-- How the forest of live directories and the counts of links change. A name is entered or cleared, a file becomes a
-- directory, or an empty directory a file.
use Rattle.tree_laws.proofs.Vocabulary.{◌≡◌, ◌≢◌, ℕ, suc, ◌+◌, ◌<◌, ◌≤◌, Bool, true, false, ◌&&◌, not, ◌==◌, ◌⊎◌, inl, inr, refl, sym, ◌∙◌, ap, subst, arith, [], drop, Option, Some, None, Slot, Name, put, same_name, dot, dotdot, first_slot, first_free, cleared, Slots, Folders, up_in, past, has_up, one_if, count_in, mentions, children, NamesOnce, IsInOrder, IsForest}
use Rattle.tree_laws.proofs.Maps.{same_or, eq_not, put_same, put_other, put_is}
use Rattle.tree_laws.proofs.Sums.{sum_same, sum_changed, sum_part, sum_two, sum_none, one_no, count_nil, count_entered, count_cleared}
use Rattle.tree_laws.proofs.Slots.{entered_once, entered_dots, cleared_once, cleared_dots, first_dots, dots_once, Dots}

-- The sums, when one folder changes.

pub mentions_at : (F : Folders) (v : Option Slots) (N d k : ℕ) → d < N → mentions (put F d v) N k + count_in (past (F d)) k ≡ mentions F N k + count_in (past v) k
unfolding mentions
mentions_at F v N d k lt =
    let s = sum_changed N d (λ x. count_in (past (F x)) k) (λ x. count_in (past (put F d v x)) k) lt (λ x ne. ap (λ (o : Option Slots). count_in (past o) k) (put_other F d v x ne)) in
    let here : count_in (past (put F d v d)) k ≡ count_in (past v) k = ap (λ (o : Option Slots). count_in (past o) k) (put_same F d v) in
    omega (arith, s, here)

abbrev pub is_child : Option Slots → ℕ → ℕ → ℕ
is_child o c d = one_if (not (c == 1) && has_up o d)

pub children_at : (F : Folders) (v : Option Slots) (N c d : ℕ) → c < N → children (put F c v) N d + is_child (F c) c d ≡ children F N d + is_child v c d
unfolding children
children_at F v N c d lt =
    let s = sum_changed N c (λ x. is_child (F x) x d) (λ x. is_child (put F c v x) x d) lt (λ x ne. ap (λ (o : Option Slots). is_child o x d) (put_other F c v x ne)) in
    let here : is_child (put F c v c) c d ≡ is_child v c d = ap (λ (o : Option Slots). is_child o c d) (put_same F c v) in
    omega (arith, s, here)

-- a part is not above the whole
pub mentions_part : (F : Folders) (N d k : ℕ) → d < N → count_in (past (F d)) k ≤ mentions F N k
unfolding mentions
mentions_part F N d k lt = sum_part N d (λ x. count_in (past (F x)) k) lt

pub mentions_two : (F : Folders) (N c d k : ℕ) → c < N → d < N → c ≢ d → count_in (past (F c)) k + count_in (past (F d)) k ≤ mentions F N k
unfolding mentions
mentions_two F N c d k lc ld ne = sum_two N c d (λ x. count_in (past (F x)) k) lc ld ne

pub children_none : (F : Folders) (N d : ℕ) → ((c : ℕ) → c ≢ 1 → has_up (F c) d ≡ false) → children F N d ≡ 0
unfolding children
children_none F N d all = sum_none N (λ c. is_child (F c) c d) (λ c l. elim (same_or c 1) [
  | inl e ↦ one_no _ (left_false (not (c == 1)) (has_up (F c) d) (subst (λ (z : ℕ). not (z == 1) ≡ false) (sym e) refl))
  | inr ne ↦ one_no _ (right_false (not (c == 1)) (has_up (F c) d) (all c ne))
])
  where
    left_false : (a b : Bool) → a ≡ false → (a && b) ≡ false
    left_false a b h = grind arith

    right_false : (a b : Bool) → b ≡ false → (a && b) ≡ false
    right_false a b h = grind arith

pub children_same : (F F' : Folders) (N d : ℕ) → ((c : ℕ) → c < N → has_up (F' c) d ≡ has_up (F c) d) → children F' N d ≡ children F N d
unfolding children
children_same F F' N d all = sum_same N (λ c. is_child (F c) c d) (λ c. is_child (F' c) c d) (λ c l. ap (λ (b : Bool). one_if (not (c == 1) && b)) (all c l))

pub mentions_same : (F F' : Folders) (N k : ℕ) → ((d : ℕ) → d < N → count_in (past (F' d)) k ≡ count_in (past (F d)) k) → mentions F' N k ≡ mentions F N k
unfolding mentions
mentions_same F F' N k all = sum_same N (λ d. count_in (past (F d)) k) (λ d. count_in (past (F' d)) k) all

-- A directory that is in order stays so.
pub order_kept : (F F' : Folders) (C C' R R' : ℕ → ℕ) (N : ℕ) (D D' : ℕ → ℕ) (d : ℕ) (ss ss' : Slots) → IsInOrder F C R N D d ss
    → up_in ss' ≡ up_in ss
    → ss' ≡ Dots d (up_in ss') (drop 2 ss')
    → NamesOnce ss'
    → F' (up_in ss) ≢ None
    → C' d + children F N d ≡ C d + children F' N d
    → R' d ≡ 0
    → mentions F' N d ≡ mentions F N d
    → count_in (past (F' (up_in ss))) d ≡ count_in (past (F (up_in ss))) d
    → D' d ≡ D d
    → D' (up_in ss) ≡ D (up_in ss)
    → IsInOrder F' C' R' N D' d ss'
order_kept F F' C C' R R' N D D' d ss ss' k up dots once above counts unheld said there deep deeper = record {
  within = k.within;
  dots = dots;
  once = once;
  above = subst (λ (u : ℕ). F' u ≢ None) (sym up) above;
  counted = omega (arith, k.counted, counts);
  unheld = unheld;
  rooted = λ e. (up ∙ (k.rooted e).0, subst (λ (z : ℕ). mentions F' N z ≡ mentions F N z) e said ∙ (k.rooted e).1);
  place = λ ne. let p = k.place ne in (
    said ∙ p.0,
    subst (λ (u : ℕ). count_in (past (F' u)) d ≡ 1) (sym up) (there ∙ p.1),
    subst (λ (u : ℕ). D' u < D' d) (sym up) (let lower : D (up_in ss) < D d = p.2 in omega (arith, lower, deep, deeper)),
  );
}

some_not : (F : Folders) (d : ℕ) (ss : Slots) → F d ≡ Some ss → F d ≢ None
some_not F d ss h = λ q. absurd (cc (h, q))

-- a node that is no live directory isn't one that is
pub apart : (F : Folders) (n d : ℕ) (ss : Slots) → F n ≡ None → F d ≡ Some ss → n ≢ d
apart F n d ss none some = λ e. absurd (let q : F d ≡ None = subst (λ (z : ℕ). F z ≡ None) e none in cc (q, some))

-- one of two that says nothing
pub plain_or : (o : Option Slots) → (o ≡ None) ⊎ ((ss : Slots) × (o ≡ Some ss))
plain_or None = inl refl
plain_or (Some ss) = inr (ss, refl)

up_dots : (d up : ℕ) (rest : Slots) → up_in (Dots d up rest) ≡ up
up_dots d up rest = refl

-- entering leaves the first two slots
pub entered_shape : (d : ℕ) (ss : Slots) (s : Slot) → ss ≡ Dots d (up_in ss) (drop 2 ss) → first_free ss s ≡ Dots d (up_in ss) (first_free (drop 2 ss) s)
entered_shape d ss s h = ap (λ (z : Slots). first_free z s) h ∙ entered_dots d (up_in ss) (drop 2 ss) s

pub cleared_shape : (d : ℕ) (ss : Slots) (e : Name) → same_name e dot ≡ false → same_name e dotdot ≡ false → ss ≡ Dots d (up_in ss) (drop 2 ss) → cleared ss e ≡ Dots d (up_in ss) (cleared (drop 2 ss) e)
cleared_shape d ss e a b h = ap (λ (z : Slots). cleared z e) h ∙ cleared_dots d (up_in ss) (drop 2 ss) e a b

-- from a shape: the number of ".." and the rest
pub shape_up : (d up : ℕ) (ss rest : Slots) → ss ≡ Dots d up rest → up_in ss ≡ up
shape_up d up ss rest h = ap (λ (z : Slots). up_in z) h

pub shape_rest : (d up : ℕ) (ss rest : Slots) → ss ≡ Dots d up rest → drop 2 ss ≡ rest
shape_rest d up ss rest h = ap (λ (z : Slots). drop 2 z) h

pub shape_dots : (d up : ℕ) (ss rest : Slots) → ss ≡ Dots d up rest → ss ≡ Dots d (up_in ss) (drop 2 ss)
shape_dots d up ss rest h = subst (λ (z : Slots). z ≡ Dots d (up_in z) (drop 2 z)) (sym h) refl

-- One folder's slots past the first two change. The links and raised holds of nodes that are no directories change
-- with the names.
pub one_folder : (F : Folders) (C C' R R' : ℕ → ℕ) (N : ℕ) (D : ℕ → ℕ) (d : ℕ) (ss ss' : Slots) → IsForest F C R N D → F d ≡ Some ss
    → ss' ≡ Dots d (up_in ss) (drop 2 ss') → NamesOnce ss'
    → ((k : ℕ) (ks : Slots) → F k ≡ Some ks → (C' k ≡ C k) × (R' k ≡ R k) × (count_in (drop 2 ss') k ≡ count_in (drop 2 ss) k))
    → ((k : ℕ) → F k ≡ None → C' k + count_in (drop 2 ss) k + R k ≡ C k + count_in (drop 2 ss') k + R' k)
    → IsForest (put F d (Some ss')) C' R' N D
one_folder F C C' R R' N D d ss ss' f is shape once dirs others =
    let F' : Folders = put F d (Some ss') in
    let mine = f.directory d ss is in
    let same_up : up_in ss' ≡ up_in ss = shape_up d (up_in ss) ss' (drop 2 ss') shape in
    let past_d : (k : ℕ) → count_in (past (F d)) k ≡ count_in (drop 2 ss) k = (λ k. ap (λ (o : Option Slots). count_in (past o) k) is) in
    let said : (k : ℕ) → mentions F' N k + count_in (drop 2 ss) k ≡ mentions F N k + count_in (drop 2 ss') k = (λ k. let m = mentions_at F (Some ss') N d k mine.within in omega (arith, m, past_d k)) in
    let ups : (x c : ℕ) → has_up (F' c) x ≡ has_up (F c) x = (λ x c. elim (put_is F d (Some ss') c) [
      | inl w ↦ ap (λ (o : Option Slots). has_up o x) w.1 ∙ (ap (λ (u : ℕ). u == x) same_up ∙ subst (λ (z : ℕ). (up_in ss == x) ≡ has_up (F z) x) (sym w.0) (ap (λ (o : Option Slots). has_up o x) (sym is)))
      | inr w ↦ ap (λ (o : Option Slots). has_up o x) w.1
    ]) in
    let kids : (x : ℕ) → children F' N x ≡ children F N x = (λ x. children_same F F' N x (λ c l. ups x c)) in
    let live : (x : ℕ) → F x ≢ None → F' x ≢ None = (λ x nn. elim (put_is F d (Some ss') x) [
      | inl w ↦ (λ q. absurd (let z : Some ss' ≡ None = sym w.1 ∙ q in cc))
      | inr w ↦ (λ q. nn (sym w.1 ∙ q))
    ]) in
    let there : (k : ℕ) (ks : Slots) → F k ≡ Some ks → (x : ℕ) → count_in (past (F' x)) k ≡ count_in (past (F x)) k = (λ k ks kis x. elim (put_is F d (Some ss') x) [
      | inl w ↦ ap (λ (o : Option Slots). count_in (past o) k) w.1 ∙ ((dirs k ks kis).2 ∙ subst (λ (z : ℕ). count_in (drop 2 ss) k ≡ count_in (past (F z)) k) (sym w.0) (sym (past_d k)))
      | inr w ↦ ap (λ (o : Option Slots). count_in (past o) k) w.1
    ]) in
    let again : (k : ℕ) (ks ks' : Slots) → F k ≡ Some ks → up_in ks' ≡ up_in ks → ks' ≡ Dots k (up_in ks') (drop 2 ks') → NamesOnce ks' → IsInOrder F' C' R' N D k ks' = (λ k ks ks' kis up dots o.
    let old = f.directory k ks kis in
    let three = dirs k ks kis in
    let sk = said k in
    let ck = kids k in
    order_kept F F' C C' R R' N D D k ks ks' old up dots o (live (up_in ks) old.above) (omega (arith, ck, three.0)) (three.1 ∙ old.unheld) (omega (arith, sk, three.2)) (there k ks kis (up_in ks)) refl refl) in
    record {
      rooted = live 1 f.rooted;
      directory = λ k ks' q. elim (put_is F d (Some ss') k) [
        | inl w ↦
            let e : Some ss' ≡ Some ks' = sym w.1 ∙ q in
            let same : ss' ≡ ks' = cc in
            subst (λ (z : Slots). IsInOrder F' C' R' N D k z) same
            (again k ss ss' (subst (λ (z : ℕ). F z ≡ Some ss) (sym w.0) is) same_up (subst (λ (z : ℕ). ss' ≡ Dots z (up_in ss') (drop 2 ss')) (sym w.0) (shape_dots d (up_in ss) ss' (drop 2 ss') shape)) once)
        | inr w ↦ let kis : F k ≡ Some ks' = sym w.1 ∙ q in let old = f.directory k ks' kis in again k ks' ks' kis refl old.dots old.once
      ];
      other = λ k q. elim (put_is F d (Some ss') k) [
        | inl w ↦ absurd (let z : Some ss' ≡ None = sym w.1 ∙ q in cc)
        | inr w ↦ let old : F k ≡ None = sym w.1 ∙ q in let o = f.other k old in let s = said k in let g = others k old in omega (arith, o, s, g)
      ];
    }

-- a node that is no live directory, and that an entry names
not_one : (F : Folders) (n k : ℕ) (ks : Slots) → F n ≡ None → F k ≡ Some ks → one_if (n == k) ≡ 0
not_one F n k ks none is = one_no (n == k) (eq_not n k (apart F n k ks none is))

-- a name is entered for a node that is no live directory
pub entered_forest : (F : Folders) (C C' R R' : ℕ → ℕ) (N : ℕ) (D : ℕ → ℕ) (d : ℕ) (ss : Slots) (s : Slot) → IsForest F C R N D → F d ≡ Some ss
    → first_slot ss s.name ≡ None → F s.number ≡ None
    → ((k : ℕ) (ks : Slots) → F k ≡ Some ks → (C' k ≡ C k) × (R' k ≡ R k))
    → ((k : ℕ) → F k ≡ None → C' k + R k ≡ C k + one_if (s.number == k) + R' k)
    → IsForest (put F d (Some (first_free ss s))) C' R' N D
entered_forest F C C' R R' N D d ss s f is absent plain dirs others =
    let mine = f.directory d ss is in
    let shape : first_free ss s ≡ Dots d (up_in ss) (first_free (drop 2 ss) s) = entered_shape d ss s mine.dots in
    let rest : drop 2 (first_free ss s) ≡ first_free (drop 2 ss) s = shape_rest d (up_in ss) (first_free ss s) (first_free (drop 2 ss) s) shape in
    let count : (k : ℕ) → count_in (drop 2 (first_free ss s)) k ≡ count_in (drop 2 ss) k + one_if (s.number == k) = (λ k. ap (λ (z : Slots). count_in z k) rest ∙ count_entered (drop 2 ss) s k) in
    one_folder F C C' R R' N D d ss (first_free ss s) f is
    (shape ∙ ap (λ (z : Slots). Dots d (up_in ss) z) (sym rest))
    (entered_once ss s absent mine.once)
    (λ k ks kis. let z : one_if (s.number == k) ≡ 0 = not_one F s.number k ks plain kis in let c = count k in ((dirs k ks kis).0, (dirs k ks kis).1, omega (arith, c, z)))
    (λ k kis. let o = others k kis in let c = count k in omega (arith, o, c))

-- a name of a node that is no live directory is cleared
pub cleared_forest : (F : Folders) (C C' R R' : ℕ → ℕ) (N : ℕ) (D : ℕ → ℕ) (d n : ℕ) (ss : Slots) (e : Name) → IsForest F C R N D → F d ≡ Some ss
    → same_name e dot ≡ false → same_name e dotdot ≡ false → first_slot ss e ≡ Some n → F n ≡ None
    → ((k : ℕ) (ks : Slots) → F k ≡ Some ks → (C' k ≡ C k) × (R' k ≡ R k))
    → ((k : ℕ) → F k ≡ None → C' k + one_if (n == k) + R k ≡ C k + R' k)
    → IsForest (put F d (Some (cleared ss e))) C' R' N D
cleared_forest F C C' R R' N D d n ss e f is a b found plain dirs others =
    let mine = f.directory d ss is in
    let shape : cleared ss e ≡ Dots d (up_in ss) (cleared (drop 2 ss) e) = cleared_shape d ss e a b mine.dots in
    let rest : drop 2 (cleared ss e) ≡ cleared (drop 2 ss) e = shape_rest d (up_in ss) (cleared ss e) (cleared (drop 2 ss) e) shape in
    let later : first_slot (drop 2 ss) e ≡ Some n = sym (first_dots d (up_in ss) (drop 2 ss) e a b) ∙ (ap (λ (z : Slots). first_slot z e) (sym mine.dots) ∙ found) in
    let count : (k : ℕ) → count_in (drop 2 (cleared ss e)) k + one_if (n == k) ≡ count_in (drop 2 ss) k = (λ k. subst (λ (z : Slots). count_in z k + one_if (n == k) ≡ count_in (drop 2 ss) k) (sym rest) (count_cleared (drop 2 ss) e n k later)) in
    one_folder F C C' R R' N D d ss (cleared ss e) f is
    (shape ∙ ap (λ (z : Slots). Dots d (up_in ss) z) (sym rest))
    (cleared_once ss e mine.once)
    (λ k ks kis. let z : one_if (n == k) ≡ 0 = not_one F n k ks plain kis in let c = count k in ((dirs k ks kis).0, (dirs k ks kis).1, omega (arith, c, z)))
    (λ k kis. let o = others k kis in let c = count k in omega (arith, o, c))

-- only links and raised holds change
pub recounted_forest : (F : Folders) (C C' R R' : ℕ → ℕ) (N : ℕ) (D : ℕ → ℕ) → IsForest F C R N D
    → ((k : ℕ) (ks : Slots) → F k ≡ Some ks → (C' k ≡ C k) × (R' k ≡ R k))
    → ((k : ℕ) → F k ≡ None → C' k + R k ≡ C k + R' k)
    → IsForest F C' R' N D
recounted_forest F C C' R R' N D f dirs others = record {
  rooted = f.rooted;
  directory = λ k ks is. let old = f.directory k ks is in order_kept F F C C' R R' N D D k ks ks old refl old.dots old.once old.above (let z = (dirs k ks is).0 in omega (arith, z)) ((dirs k ks is).1 ∙ old.unheld) refl refl refl refl;
  other = λ k is. let o = f.other k is in let g = others k is in omega (arith, o, g);
}

not_true : (n : ℕ) → n ≢ 1 → not (n == 1) ≡ true
not_true n ne = ap (λ (b : Bool). not b) (eq_not n 1 ne)

-- what a directory adds to the children of x
adds_child : (n up x : ℕ) (o : Option Slots) → n ≢ 1 → has_up o x ≡ (up == x) → is_child o n x ≡ one_if (up == x)
adds_child n up x o ne is = ap (λ (b : Bool). one_if b) (both (not (n == 1)) (has_up o x) (up == x) (not_true n ne) is)
  where
    both : (a b c : Bool) → a ≡ true → b ≡ c → (a && b) ≡ c
    both a b c h q = grind arith

adds_none : (n x : ℕ) → is_child None n x ≡ 0
adds_none n x = one_no _ (right (not (n == 1)))
  where
    right : (a : Bool) → (a && false) ≡ false
    right a = grind arith

-- A file that d names once, and nothing else names, becomes an empty directory below d.
pub grown_forest : (F : Folders) (C C' R : ℕ → ℕ) (N : ℕ) (D : ℕ → ℕ) (d n : ℕ) (ss : Slots) → IsForest F C R N D → F d ≡ Some ss
    → F n ≡ None → n < N → C n ≡ 1 → R n ≡ 0 → count_in (past (F d)) n ≡ 1
    → ((k : ℕ) → C' k ≡ C k + one_if (d == k))
    → IsForest (put F n (Some (Dots n d []))) C' R N (put D n (suc (D d)))
grown_forest F C C' R N D d n ss f is none lt one unheld named links =
    let F' : Folders = put F n (Some (Dots n d [])) in
    let D' : ℕ → ℕ = put D n (suc (D d)) in
    let nd : n ≢ d = apart F n d ss none is in
    let n1 : n ≢ 1 = (λ q. f.rooted (subst (λ (z : ℕ). F z ≡ None) q none)) in
    let said : (k : ℕ) → mentions F' N k ≡ mentions F N k = (λ k.
    let m = mentions_at F (Some (Dots n d [])) N n k lt in
    let z : count_in (past (F n)) k ≡ 0 = ap (λ (o : Option Slots). count_in (past o) k) none ∙ count_nil k in
    let z' : count_in (past (Some (Dots n d []))) k ≡ 0 = count_nil k in
    omega (arith, m, z, z')) in
    let kids : (x : ℕ) → children F' N x ≡ children F N x + one_if (d == x) = (λ x.
    let m = children_at F (Some (Dots n d [])) N n x lt in
    let z : is_child (F n) n x ≡ 0 = ap (λ (o : Option Slots). is_child o n x) none ∙ adds_none n x in
    let z' : is_child (Some (Dots n d [])) n x ≡ one_if (d == x) = adds_child n d x (Some (Dots n d [])) n1 refl in
    omega (arith, m, z, z')) in
    let live : (x : ℕ) → F x ≢ None → F' x ≢ None = (λ x nn. elim (put_is F n (Some (Dots n d [])) x) [
      | inl w ↦ (λ q. absurd (let z : Some (Dots n d []) ≡ None = sym w.1 ∙ q in cc))
      | inr w ↦ (λ q. nn (sym w.1 ∙ q))
    ]) in
    -- no live directory has n as its ".."
    let free : children F N n ≡ 0 = children_none F N n (λ c ne. free_up c (plain_or (F c))) in
    record {
      rooted = live 1 f.rooted;
      directory = λ k ks q. elim (put_is F n (Some (Dots n d [])) k) [
        | inl w ↦
            let e : Some (Dots n d []) ≡ Some ks = sym w.1 ∙ q in
            let same : Dots n d [] ≡ ks = cc in
            subst (λ (z : ℕ). IsInOrder F' C' R N D' z ks) (sym w.0)
            (subst (λ (z : Slots). IsInOrder F' C' R N D' n z) same (record {
              within = lt;
              dots = refl;
              once = dots_once n d;
              above = live d (some_not F d ss is);
              counted =
                  (let a = kids n in
                  let b = links n in
                  let c : one_if (d == n) ≡ 0 = one_no (d == n) (eq_not d n (λ r. nd (sym r))) in
                  omega (arith, a, b, c, one, free));
              unheld = unheld;
              rooted = λ r. absurd (n1 r);
              place = λ r. (
                said n ∙ (let o = f.other n none in omega (arith, o, one, unheld)),
                ap (λ (o : Option Slots). count_in (past o) n) (put_other F n (Some (Dots n d [])) d (λ r. nd (sym r))) ∙ named,
                (let a : D' d ≡ D d = put_other D n (suc (D d)) d (λ r. nd (sym r)) in let b : D' n ≡ suc (D d) = put_same D n (suc (D d)) in omega (arith, a, b)),
              );
            }))
        | inr w ↦
            let kis : F k ≡ Some ks = sym w.1 ∙ q in
            let old = f.directory k ks kis in
            let un : up_in ks ≢ n = (λ r. old.above (subst (λ (z : ℕ). F z ≡ None) (sym r) none)) in
            order_kept F F' C C' R R N D D' k ks ks old refl old.dots old.once (live (up_in ks) old.above)
            (let a = kids k in let b = links k in omega (arith, a, b)) old.unheld (said k)
            (ap (λ (o : Option Slots). count_in (past o) k) (put_other F n (Some (Dots n d [])) (up_in ks) un))
            (put_other D n (suc (D d)) k w.0)
            (put_other D n (suc (D d)) (up_in ks) un)
      ];
      other = λ k q. elim (put_is F n (Some (Dots n d [])) k) [
        | inl w ↦ absurd (let z : Some (Dots n d []) ≡ None = sym w.1 ∙ q in cc)
        | inr w ↦
            let old : F k ≡ None = sym w.1 ∙ q in
            let o = f.other k old in
            let s = said k in
            let b = links k in
            let c : one_if (d == k) ≡ 0 = one_no (d == k) (eq_not d k (λ r. apart F k d ss old is (sym r))) in
            omega (arith, o, s, b, c)
      ];
    }
  where
    free_up : (c : ℕ) → (F c ≡ None) ⊎ ((cs : Slots) × (F c ≡ Some cs)) → has_up (F c) n ≡ false
    free_up c (inl e) = ap (λ (o : Option Slots). has_up o n) e
    free_up c (inr e) =
        let k = f.directory c e.0 e.1 in
        ap (λ (o : Option Slots). has_up o n) e.1 ∙ eq_not (up_in e.0) n (λ r. k.above (subst (λ (z : ℕ). F z ≡ None) (sym r) none))

-- nothing has an empty directory as its ".."
pub childless : (F : Folders) (C R : ℕ → ℕ) (N : ℕ) (D : ℕ → ℕ) (n : ℕ) → IsForest F C R N D → ((k : ℕ) → count_in (past (F n)) k ≡ 0) → children F N n ≡ 0
childless F C R N D n f empty = children_none F N n (λ c ne. free_up c ne (plain_or (F c)))
  where
    free_up : (c : ℕ) → c ≢ 1 → (F c ≡ None) ⊎ ((cs : Slots) × (F c ≡ Some cs)) → has_up (F c) n ≡ false
    free_up c ne (inl e) = ap (λ (o : Option Slots). has_up o n) e
    free_up c ne (inr e) =
        let k = f.directory c e.0 e.1 in
        let p = (k.place ne).1 in
        ap (λ (o : Option Slots). has_up o n) e.1
        ∙ eq_not (up_in e.0) n (λ r. absurd (let z : count_in (past (F n)) c ≡ 1 = subst (λ (x : ℕ). count_in (past (F x)) c ≡ 1) r p in let y = empty c in omega (arith, z, y)))

-- An empty directory other than the root becomes a file; its ".." loses one.
pub shrunk_forest : (F : Folders) (C C' R : ℕ → ℕ) (N : ℕ) (D : ℕ → ℕ) (n : ℕ) (ns : Slots) → IsForest F C R N D → F n ≡ Some ns → n ≢ 1
    → ((k : ℕ) → count_in (drop 2 ns) k ≡ 0)
    → ((k : ℕ) → C' k + one_if (up_in ns == k) ≡ C k)
    → IsForest (put F n None) C' R N D
shrunk_forest F C C' R N D n ns f is n1 empty links =
    let F' : Folders = put F n None in
    let mine = f.directory n ns is in
    let lt = mine.within in
    let z : (k : ℕ) → count_in (past (F n)) k ≡ 0 = (λ k. ap (λ (o : Option Slots). count_in (past o) k) is ∙ empty k) in
    let said : (k : ℕ) → mentions F' N k ≡ mentions F N k = (λ k.
    let m = mentions_at F None N n k lt in
    let a = z k in
    let b : count_in (past None) k ≡ 0 = count_nil k in
    omega (arith, m, a, b)) in
    let kids : (x : ℕ) → children F' N x + one_if (up_in ns == x) ≡ children F N x = (λ x.
    let m = children_at F None N n x lt in
    let a : is_child (F n) n x ≡ one_if (up_in ns == x) = adds_child n (up_in ns) x (F n) n1 (ap (λ (o : Option Slots). has_up o x) is) in
    let b : is_child None n x ≡ 0 = adds_none n x in
    omega (arith, m, a, b)) in
    let alone : children F N n ≡ 0 = childless F C R N D n f z in
    -- n is nobody's ".."
    let above : (k : ℕ) (ks : Slots) → F k ≡ Some ks → up_in ks ≢ n = (λ k ks kis r.
    let old = f.directory k ks kis in
    elim (same_or k 1) [
      | inl e ↦ n1 (sym r ∙ (old.rooted e).0)
      | inr ne ↦ absurd (let p : count_in (past (F n)) k ≡ 1 = subst (λ (x : ℕ). count_in (past (F x)) k ≡ 1) r (old.place ne).1 in let y = z k in omega (arith, p, y))
    ]) in
    record {
      rooted = λ q. f.rooted (sym (put_other F n None 1 (λ r. n1 (sym r))) ∙ q);
      directory = λ k ks q. elim (put_is F n None k) [
        | inl w ↦ absurd (let e : None ≡ Some ks = sym w.1 ∙ q in cc)
        | inr w ↦
            let kis : F k ≡ Some ks = sym w.1 ∙ q in
            let old = f.directory k ks kis in
            let same : F' (up_in ks) ≡ F (up_in ks) = put_other F n None (up_in ks) (above k ks kis) in
            order_kept F F' C C' R R N D D k ks ks old refl old.dots old.once (λ r. old.above (sym same ∙ r))
            (let a = kids k in let b = links k in omega (arith, a, b)) old.unheld (said k)
            (ap (λ (o : Option Slots). count_in (past o) k) same) refl refl
      ];
      other = λ k q. elim (put_is F n None k) [
        | inl w ↦
            let s = said n in
            let p = (mine.place n1).0 in
            let l = links n in
            let c = mine.counted in
            let u = mine.unheld in
            let a : one_if (up_in ns == n) ≡ 0 = one_no (up_in ns == n) (eq_not (up_in ns) n (above n ns is)) in
            subst (λ (x : ℕ). C' x ≡ mentions F' N x + R x) (sym w.0) (omega (arith, s, p, l, c, u, a, alone))
        | inr w ↦
            let old : F k ≡ None = sym w.1 ∙ q in
            let o = f.other k old in
            let s = said k in
            let b = links k in
            let c : one_if (up_in ns == k) ≡ 0 = one_no (up_in ns == k) (eq_not (up_in ns) k (λ r. mine.above (subst (λ (x : ℕ). F x ≡ None) (sym r) old))) in
            omega (arith, o, s, b, c)
      ];
    }
