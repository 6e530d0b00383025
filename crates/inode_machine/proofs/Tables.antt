-- The open-file table beside the tree's open files, when one descriptor changes.
use Rattle.inode_machine.proofs.Vocabulary.{◌≡◌, ◌≢◌, inl, inr, ℕ, zero, suc, ◌+◌, ◌<◌, true, false, ◌==◌, nat_lt, Option, Some, None, refl, sym, ◌∙◌, ap, subst, arith, nat_tests, OpenFile, hart_count, descriptor_count, Tree, put, lowest, lowest_from, has_room, closed, sum_below, one_if, eq_self, either, same_or, put_same, put_other, sum_changed, sum_part, one_yes, one_no, is_at, file_count, Entry, Desk, id_at, number_is, uses, users, FileTables, IsTied}
use Rattle.inode_machine.proofs.Frame.{put_elim}
use Rattle.inode_machine.proofs.Rows.{is_at_some}
use Rattle.tree_laws.proofs.Opened.{has_it}

-- How often a slot is used.

abbrev pub with_fd : (ℕ → Desk) → ℕ → ℕ → Option ℕ → ℕ → Desk
with_fd D h fd y = put D h (record (D h) { fds = put (D h).fds fd y })

pub users_put : (D : ℕ → Desk) (h fd k : ℕ) (y : Option ℕ) → h < hart_count → fd < descriptor_count → users (with_fd D h fd y) k + one_if (is_at ((D h).fds fd) k) ≡ users D k + one_if (is_at y k)
users_put D h fd k y lh lf =
    let d : Desk = record (D h) { fds = put (D h).fds fd y } in
    let a = sum_changed hart_count h (λ g. uses (D g) k) (λ g. uses (with_fd D h fd y g) k) lh (λ g ne. ap (λ (z : Desk). uses z k) (put_other D h d g ne)) in
    let b = sum_changed descriptor_count fd (λ i. one_if (is_at ((D h).fds i) k)) (λ i. one_if (is_at (put (D h).fds fd y i) k)) lf (λ i ne. ap (λ (z : Option ℕ). one_if (is_at z k)) (put_other (D h).fds fd y i ne)) in
    let c : uses (with_fd D h fd y h) k ≡ uses d k = ap (λ (z : Desk). uses z k) (put_same D h d) in
    let e : one_if (is_at (put (D h).fds fd y fd) k) ≡ one_if (is_at y k) = ap (λ (z : Option ℕ). one_if (is_at z k)) (put_same (D h).fds fd y) in
    omega (arith, a, b, c, e)

at_one : (o : Option ℕ) (k : ℕ) → o ≡ Some k → one_if (is_at o k) ≡ 1
at_one o k q = ap (λ (z : Option ℕ). one_if (is_at z k)) q ∙ one_yes (k == k) (eq_self k)

pub users_fd : (D : ℕ → Desk) (g i k : ℕ) → g < hart_count → i < descriptor_count → (D g).fds i ≡ Some k → 0 < users D k
users_fd D g i k lg li q =
    let a = sum_part hart_count g (λ g. uses (D g) k) lg in
    let b = sum_part descriptor_count i (λ i. one_if (is_at ((D g).fds i) k)) li in
    let c = at_one ((D g).fds i) k q in
    omega (arith, a, b, c)

pub less_is : (a b : ℕ) → nat_lt a b ≡ true → a < b
less_is a b h = grind (arith, nat_tests)

pub less_not : (a : ℕ) → nat_lt 0 a ≡ false → a ≡ 0
less_not a h = grind (arith, nat_tests)

sum_some : (n : ℕ) (f : ℕ → ℕ) → 0 < sum_below n f → (k : ℕ) × (k < n) × (0 < f k)
unfolding sum_below
sum_some zero f p = absurd (omega arith)
sum_some (suc n) f p = elim (either (nat_lt 0 (f n))) [
  | inl y ↦ (n, omega arith, less_is 0 (f n) y)
  | inr y ↦ let z = less_not (f n) y in let r = sum_some n f (omega (arith, z, p)) in (r.0, (let l = r.1 in omega (arith, l)), r.2)
]

at_some : (o : Option ℕ) (k : ℕ) → 0 < one_if (is_at o k) → o ≡ Some k
at_some o k p = elim (either (is_at o k)) [ inl y ↦ is_at_some o k y | inr y ↦ absurd (let z = one_no (is_at o k) y in omega (arith, z, p)) ]

-- what is handed on the hart has still
abbrev pub LendsOwn : (ℕ → Desk) → Type 0
LendsOwn D = (g i k : ℕ) → g < hart_count → i < descriptor_count → (D g).lent i ≡ Some k → (D g).fds i ≡ Some k

pub users_some : (D : ℕ → Desk) (k : ℕ) → LendsOwn D → 0 < users D k → (g : ℕ) × (g < hart_count) × (i : ℕ) × (i < descriptor_count) × ((D g).fds i ≡ Some k)
users_some D k lends p = elim (either (nat_lt 0 (sum_below descriptor_count (λ i. one_if (is_at ((D a.0).fds i) k))))) [
  | inl y ↦ let b = sum_some descriptor_count (λ i. one_if (is_at ((D a.0).fds i) k)) (less_is 0 _ y) in (a.0, a.1, b.0, b.1, at_some ((D a.0).fds b.0) k b.2)
  | inr y ↦
      let z = less_not (sum_below descriptor_count (λ i. one_if (is_at ((D a.0).fds i) k))) y in
      let q = a.2 in
      let b = sum_some descriptor_count (λ i. one_if (is_at ((D a.0).lent i) k)) (omega (arith, q, z)) in
      (a.0, a.1, b.0, b.1, lends a.0 b.0 k a.1 b.1 (at_some ((D a.0).lent b.0) k b.2))
]
  where
    a : (g : ℕ) × (g < hart_count) × (0 < uses (D g) k)
    a = sum_some hart_count (λ g. uses (D g) k) p

-- The lowest free descriptor.

lowest_from_same : (n i : ℕ) (f g : ℕ → Option ℕ) (ids : ℕ → ℕ) → ((j : ℕ) → j < i + n → g j ≡ id_at ids (f j)) → lowest_from n i g ≡ lowest_from n i f
unfolding lowest_from
lowest_from_same zero i f g ids same = refl
lowest_from_same (suc n) i f g ids same = at (f i) (g i) (same i (omega arith)) (λ u. lowest_from_same n (i + 1) f g ids (λ j l. same j (omega (arith, l))))
  where
    at : (o r : Option ℕ) → r ≡ id_at ids o → (Unit {0} → lowest_from n (i + 1) g ≡ lowest_from n (i + 1) f) → ◌≡◌ {A = ℕ} (elim r [ None ↦ i | Some id ↦ lowest_from n (i + 1) g ]) (elim o [ None ↦ i | Some id ↦ lowest_from n (i + 1) f ])
    at None None e r = refl
    at None (Some y) e r = absurd cc
    at (Some x) None e r = absurd cc
    at (Some x) (Some y) e r = r tt

pub lowest_same : (f g : ℕ → Option ℕ) (ids : ℕ → ℕ) → ((j : ℕ) → j < descriptor_count → g j ≡ id_at ids (f j)) → lowest g ≡ lowest f
lowest_same f g ids same = lowest_from_same descriptor_count 0 f g ids (λ j l. same j (omega (arith, l)))

lowest_from_free : (n i : ℕ) (f : ℕ → Option ℕ) → lowest_from n i f < i + n → f (lowest_from n i f) ≡ None
unfolding lowest_from
lowest_from_free zero i f l = absurd (omega arith)
lowest_from_free (suc n) i f l = at (f i) refl l (λ q. lowest_from_free n (i + 1) f (omega (arith, q)))
  where
    at : (o : Option ℕ) → f i ≡ o → (elim o [ None ↦ i | Some id ↦ lowest_from n (i + 1) f ]) < i + suc n → (lowest_from n (i + 1) f < i + suc n → f (lowest_from n (i + 1) f) ≡ None) → f (elim o [ None ↦ i | Some id ↦ lowest_from n (i + 1) f ]) ≡ None
    at None e q r = e
    at (Some x) e q r = r q

pub lowest_free : (f : ℕ → Option ℕ) → has_room f ≡ true → (lowest f < descriptor_count) × (f (lowest f) ≡ None)
lowest_free f room = let l = less_is (lowest f) descriptor_count room in (l, lowest_from_free descriptor_count 0 f (omega (arith, l)))

-- One descriptor changes, and the table with it.
pub record Changes (s : FileTables) (h fd : ℕ) (y x : Option ℕ) (F : ℕ → Option Entry) (S : ℕ → ℕ) : Type 0 where
  pub hart : h < hart_count
  pub below : fd < descriptor_count
  pub opening : (s.desks h).opening ≡ None
  pub same : x ≡ id_at s.ids y
  pub keep : (k : ℕ) (e : Entry) → F k ≡ Some e → (d : Entry) × (s.files k ≡ Some d) × (e.file ≡ d.file) × (e.references ≡ users (with_fd s.desks h fd y) k) × (0 < e.references)
  pub used : (k : ℕ) (e : Entry) → s.files k ≡ Some e → 0 < users (with_fd s.desks h fd y) k → (d : Entry) × (F k ≡ Some d)
  pub has : (k : ℕ) → y ≡ Some k → (e : Entry) × (s.files k ≡ Some e) × (l : ℕ) × (l < descriptor_count) × (s.tree_fds h l ≡ Some (s.ids k))
  pub slots : (n : ℕ) → S n ≡ sum_below file_count (λ k. number_is (F k) n)
  pub lent : (k : ℕ) → (s.desks h).lent fd ≡ Some k → y ≡ Some k

abbrev pub changed_file_tables : FileTables → ℕ → ℕ → Option ℕ → Option ℕ → (ℕ → Option Entry) → (ℕ → ℕ) → FileTables
changed_file_tables s h fd y x F S = record { files = F; desks = with_fd s.desks h fd y; ids = s.ids; slots = S; clean = s.clean; tree_fds = put s.tree_fds h (put (s.tree_fds h) fd x); tree_files = s.tree_files }

pub changes : (s : FileTables) (h fd : ℕ) (y x : Option ℕ) (F : ℕ → Option Entry) (S : ℕ → ℕ) → IsTied s → Changes s h fd y x F S → IsTied (changed_file_tables s h fd y x F S)
changes s h fd y x F S tied c =
    record {
      fds = λ g i lg li o. elim (same_or g h) [
        | inl q ↦ subst (λ (z : ℕ). T z i ≡ id_at s.ids ((D z).fds i)) (sym q) (ap (λ (f : ℕ → Option ℕ). f i) (put_same s.tree_fds h (put (s.tree_fds h) fd x)) ∙ own i li ∙ sym (ap (λ (z : Desk). id_at s.ids (z.fds i)) (put_same s.desks h new)))
        | inr ne ↦ ap (λ (f : ℕ → Option ℕ). f i) (put_other s.tree_fds h (put (s.tree_fds h) fd x) g ne) ∙ tied.fds g i lg li (ap (λ (z : Desk). is_at z.opening i) (sym (put_other s.desks h new g ne)) ∙ o) ∙ sym (ap (λ (z : Desk). id_at s.ids (z.fds i)) (put_other s.desks h new g ne))
      ];
      fresh = λ g i lg o. elim (same_or g h) [
        | inl q ↦ absurd (let a : (D g).opening ≡ (D h).opening = ap (λ (z : ℕ). (D z).opening) q in let b = ap (λ (z : Desk). z.opening) (put_same s.desks h new) in let d = c.opening in cc (a, b, d, o))
        | inr ne ↦ let f = tied.fresh g i lg (ap (λ (z : Desk). z.opening) (sym (put_other s.desks h new g ne)) ∙ o) in record {
          below = f.below;
          free = ap (λ (z : Desk). z.fds i) (put_other s.desks h new g ne) ∙ f.free;
          id = f.id;
          is = ap (λ (z : ℕ → Option ℕ). z i) (put_other s.tree_fds h (put (s.tree_fds h) fd x) g ne) ∙ f.is;
          file = f.file;
          at = f.at;
          offset = f.offset;
          only = λ j l lj ll q. elim (same_or j h) [
            | inr nj ↦ f.only j l lj ll (ap (λ (z : ℕ → Option ℕ). z l) (sym (put_other s.tree_fds h (put (s.tree_fds h) fd x) j nj)) ∙ q)
            | inl r ↦
                let a : put (s.tree_fds h) fd x l ≡ Some f.id = sym (ap (λ (z : ℕ → Option ℕ). z l) (put_same s.tree_fds h (put (s.tree_fds h) fd x))) ∙ ap (λ (z : ℕ). T z l) (sym r) ∙ q in
                elim (same_or l fd) [
                  | inr nl ↦ f.only j l lj ll (ap (λ (z : ℕ). s.tree_fds z l) r ∙ sym (put_other (s.tree_fds h) fd x l nl) ∙ a)
                  | inl t ↦ absurd (mine f.id g ne (λ j2 l2 a2 b2 q2. ((f.only j2 l2 a2 b2 q2).0, refl)) y refl (sym c.same ∙ sym (put_same (s.tree_fds h) fd x) ∙ ap (put (s.tree_fds h) fd x) (sym t) ∙ a))
                ]
          ];
        }
      ];
      used = λ g i k lg li q. let e = had g i k lg li q in c.used k e.0 e.1 (users_fd D g i k lg li q);
      lends = λ g i k lg li q. elim (same_or g h) [
        | inr ne ↦ ap (λ (z : Desk). z.fds i) (put_other s.desks h new g ne) ∙ tied.lends g i k lg li (ap (λ (z : Desk). z.lent i) (sym (put_other s.desks h new g ne)) ∙ q)
        | inl r ↦
            let l : (s.desks h).lent i ≡ Some k = sym (ap (λ (z : Desk). z.lent i) (put_same s.desks h new)) ∙ ap (λ (z : ℕ). (D z).lent i) (sym r) ∙ q in
            ap (λ (z : ℕ). (D z).fds i) r ∙ ap (λ (z : Desk). z.fds i) (put_same s.desks h new) ∙ elim (same_or i fd) [
              | inl t ↦ ap (put (s.desks h).fds fd y) t ∙ put_same (s.desks h).fds fd y ∙ c.lent k (ap (s.desks h).lent (sym t) ∙ l)
              | inr ne ↦ put_other (s.desks h).fds fd y i ne ∙ tied.lends h i k c.hart li l
            ]
      ];
      hand = λ g k lg q. let o = tied.hand g k lg (sym (hand_is g) ∙ q) in (o.0, empty k o.1 (F k) refl);
      hands = λ g j k lg lj q r. tied.hands g j k lg lj (sym (hand_is g) ∙ q) (sym (hand_is j) ∙ r);
      within = λ k e q. let d = c.keep k e q in tied.within k d.0 d.1;
      files = λ k e q. let d = c.keep k e q in tied.files k d.0 d.1 ∙ ap (λ (z : OpenFile). Some z) (sym d.2);
      apart = λ k l e f p q r. let a = c.keep k e p in let b = c.keep l f q in tied.apart k l a.0 b.0 a.1 b.1 r;
      counted = λ k e q. let d = c.keep k e q in (d.3, d.4);
      slots = c.slots;
      spoiled = λ g q. tied.spoiled g (sym (full_is g) ∙ q);
    }
  where
    new : Desk
    new = record (s.desks h) { fds = put (s.desks h).fds fd y }

    D : ℕ → Desk
    D = with_fd s.desks h fd y

    T : ℕ → ℕ → Option ℕ
    T = put s.tree_fds h (put (s.tree_fds h) fd x)

    none_at : (o : Option ℕ) (i : ℕ) → o ≡ None → is_at o i ≡ false
    none_at o i q = ap (λ (z : Option ℕ). is_at z i) q

    own : (i : ℕ) → i < descriptor_count → put (s.tree_fds h) fd x i ≡ id_at s.ids (put (s.desks h).fds fd y i)
    own i li = elim (same_or i fd) [
      | inl q ↦ subst (λ (z : ℕ). put (s.tree_fds h) fd x z ≡ id_at s.ids (put (s.desks h).fds fd y z)) (sym q) (put_same (s.tree_fds h) fd x ∙ c.same ∙ sym (ap (λ (z : Option ℕ). id_at s.ids z) (put_same (s.desks h).fds fd y)))
      | inr ne ↦ put_other (s.tree_fds h) fd x i ne ∙ tied.fds h i c.hart li (none_at (s.desks h).opening i c.opening) ∙ sym (ap (λ (z : Option ℕ). id_at s.ids z) (put_other (s.desks h).fds fd y i ne))
    ]

    -- what the changed descriptor gets, another of the hart's descriptors has
    mine : (id g : ℕ) → g ≢ h → ((j l : ℕ) → j < hart_count → l < descriptor_count → s.tree_fds j l ≡ Some id → (j ≡ g) × (l ≡ l)) → (o : Option ℕ) → y ≡ o → id_at s.ids o ≡ Some id → ⊥
    mine id g ne only None q e = absurd cc
    mine id g ne only (Some k) q e = let m = c.has k q in ne (sym (only h m.2 c.hart m.3 (m.4 ∙ e)).0)

    hand_is : (g : ℕ) → (D g).hand ≡ (s.desks g).hand
    hand_is g = put_elim s.desks h new g (λ z. z.hand ≡ (s.desks g).hand) (λ e. ap (λ (z : ℕ). (s.desks z).hand) (sym e)) (λ ne. refl)

    full_is : (g : ℕ) → (D g).full ≡ (s.desks g).full
    full_is g = put_elim s.desks h new g (λ z. z.full ≡ (s.desks g).full) (λ e. ap (λ (z : ℕ). (s.desks z).full) (sym e)) (λ ne. refl)

    empty : (k : ℕ) → s.files k ≡ None → (o : Option Entry) → F k ≡ o → F k ≡ None
    empty k q None r = r
    empty k q (Some e) r = absurd (let d = (c.keep k e r).1 in cc (d, q))

    has_only : (k : ℕ) → y ≡ Some k → (e : Entry) × (s.files k ≡ Some e)
    has_only k q = let m = c.has k q in (m.0, m.1)

    had : (g i k : ℕ) → g < hart_count → i < descriptor_count → (D g).fds i ≡ Some k → (e : Entry) × (s.files k ≡ Some e)
    had g i k lg li q = elim (same_or g h) [
      | inr ne ↦ tied.used g i k lg li (ap (λ (z : Desk). z.fds i) (sym (put_other s.desks h new g ne)) ∙ q)
      | inl r ↦
          let a : put (s.desks h).fds fd y i ≡ Some k = sym (ap (λ (z : Desk). z.fds i) (put_same s.desks h new)) ∙ ap (λ (z : ℕ). (D z).fds i) (sym r) ∙ q in
          elim (same_or i fd) [
            | inl t ↦ has_only k (sym (put_same (s.desks h).fds fd y) ∙ ap (put (s.desks h).fds fd y) (sym t) ∙ a)
            | inr ne ↦ tied.used h i k c.hart li (sym (put_other (s.desks h).fds fd y i ne) ∙ a)
          ]
    ]

-- An open file of the tree without a descriptor goes; the table has none.

pub kept_open : (t : Tree) (h i id : ℕ) → h < hart_count → i < descriptor_count → t.fds h i ≡ Some id → (closed t).files id ≡ t.files id
kept_open t h i id lh li is = rw (has_it t h i id lh li is) refl

abbrev pub closed_file_tables : FileTables → (ℕ → Option OpenFile) → FileTables
closed_file_tables s f = record { files = s.files; desks = s.desks; ids = s.ids; slots = s.slots; clean = s.clean; tree_fds = s.tree_fds; tree_files = f }

pub tied_closed : (s : FileTables) (t : Tree) → IsTied s → t.fds ≡ s.tree_fds → t.files ≡ s.tree_files → IsTied (closed_file_tables s (closed t).files)
tied_closed s t tied fds files =
    record {
      fds = tied.fds;
      fresh = λ g i lg o. let f = tied.fresh g i lg o in record { below = f.below; free = f.free; id = f.id; is = f.is; file = f.file; at = kept_open t g i f.id lg f.below (ap (λ (z : ℕ → ℕ → Option ℕ). z g i) fds ∙ f.is) ∙ ap (λ (z : ℕ → Option OpenFile). z f.id) files ∙ f.at; offset = f.offset; only = f.only };
      used = tied.used;
      lends = tied.lends;
      hand = tied.hand;
      hands = tied.hands;
      within = tied.within;
      files = λ k e q. stays k (users_some s.desks k tied.lends (let a = tied.counted k e q in let b = a.0 in let c = a.1 in omega (arith, b, c))) ∙ tied.files k e q;
      apart = tied.apart;
      counted = tied.counted;
      slots = tied.slots;
      spoiled = tied.spoiled;
    }
  where
    at : (g i k : ℕ) → g < hart_count → i < descriptor_count → s.tree_fds g i ≡ Some (s.ids k) → (closed t).files (s.ids k) ≡ s.tree_files (s.ids k)
    at g i k lg li q = kept_open t g i (s.ids k) lg li (ap (λ (f : ℕ → ℕ → Option ℕ). f g i) fds ∙ q) ∙ ap (λ (f : ℕ → Option OpenFile). f (s.ids k)) files

    stays : (k : ℕ) → ((g : ℕ) × (g < hart_count) × (i : ℕ) × (i < descriptor_count) × ((s.desks g).fds i ≡ Some k)) → (closed t).files (s.ids k) ≡ s.tree_files (s.ids k)
    stays k a = at a.0 a.2 k a.1 a.3 (tied.fds a.0 a.2 a.1 a.3 (not_opening a.0 a.2 k a.1 a.4) ∙ ap (λ (z : Option ℕ). id_at s.ids z) a.4)
      where
        not_opening : (g i k : ℕ) → g < hart_count → (s.desks g).fds i ≡ Some k → is_at (s.desks g).opening i ≡ false
        not_opening g i k lg q = elim (either (is_at (s.desks g).opening i)) [ inr y ↦ y | inl y ↦ absurd (let f = (tied.fresh g i lg (is_at_some (s.desks g).opening i y)).free in cc (f, q)) ]
