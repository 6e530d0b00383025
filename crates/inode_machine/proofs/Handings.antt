-- The open-file table when a hart hands its descriptors to the one that it serves.
use Rattle.inode_machine.proofs.Vocabulary.{◌≡◌, ◌≢◌, ◌⊎◌, inl, inr, ℕ, ◌+◌, ◌-◌, ◌<◌, ◌≤◌, true, false, ◌==◌, not, Option, Some, None, refl, sym, ◌∙◌, ap, arith, hart_count, descriptor_count, put, sum_below, one_if, eq_self, either, same_or, put_same, put_other, sum_changed, sum_same, sum_none, one_yes, one_no, Entry, Desk, is_at, is_nothing, next_used, id_at, uses, users, FileTables, IsTied}
use Rattle.inode_machine.proofs.Frame.{put_elim}
use Rattle.inode_machine.proofs.Dups.{Renews, renewed, renewed_slots, not_one}
use Rattle.inode_machine.proofs.Openings.{first_is, first_some}

-- a sum when two numbers of the list change
pub sum_twice : (n h c : ℕ) (f g : ℕ → ℕ) → h < n → c < n → c ≢ h → ((k : ℕ) → k ≢ h → k ≢ c → g k ≡ f k) → sum_below n g + f h + f c ≡ sum_below n f + g h + g c
sum_twice n h c f g lh lc ne same =
    let mid : ℕ → ℕ = put f h (g h) in
    let a = sum_changed n h f mid lh (λ k q. put_other f h (g h) k q) in
    let b = sum_changed n c mid g lc (λ k q. put_elim f h (g h) k (λ z. g k ≡ z) (λ e. ap g e) (λ nk. same k nk q)) in
    let x : mid h ≡ g h = put_same f h (g h) in
    let y : mid c ≡ f c = put_other f h (g h) c ne in
    omega (arith, a, b, x, y)

-- The first descriptor that is used, from here on.

used_some : (o : Option ℕ) → not (is_nothing o) ≡ true → (k : ℕ) × (o ≡ Some k)
used_some None e = absurd cc
used_some (Some k) e = (k, refl)

unused : (o : Option ℕ) → not (is_nothing o) ≡ false → o ≡ None
unused None e = refl
unused (Some k) e = absurd cc

pub record NextUsed (from i : ℕ) (fds : ℕ → Option ℕ) : Type 0 where
  pub above : from ≤ i
  pub below : i < descriptor_count
  pub slot : ℕ
  pub is : fds i ≡ Some slot
  pub before : (j : ℕ) → from ≤ j → j < i → fds j ≡ None

pub next_is : (from i : ℕ) (fds : ℕ → Option ℕ) → from ≤ descriptor_count → next_used from fds ≡ Some i → NextUsed from i fds
next_is from i fds le e =
    let f = first_is (descriptor_count - from) from (λ j. not (is_nothing (fds j))) i e in
    let s = used_some (fds i) f.is in
    record { above = f.above; below = (let b = f.below in omega (arith, b, le)); slot = s.0; is = s.1; before = λ j a l. unused (fds j) (f.least j a l) }

pub next_none : (from : ℕ) (fds : ℕ → Option ℕ) → next_used from fds ≡ None → (j : ℕ) → from ≤ j → j < descriptor_count → fds j ≡ None
next_none from fds e j a l = elim (either (not (is_nothing (fds j)))) [
  | inr y ↦ unused (fds j) y
  | inl y ↦ absurd (let s = first_some (descriptor_count - from) from (λ j. not (is_nothing (fds j))) j a (omega (arith, a, l)) y in let b = s.1 in cc (b, e))
]

-- past the last descriptor there is none
pub next_past : (from : ℕ) (fds : ℕ → Option ℕ) → descriptor_count ≤ from → next_used from fds ≡ None
next_past from fds le = at (next_used from fds) refl
  where
    at : (o : Option ℕ) → next_used from fds ≡ o → o ≡ None
    at None e = refl
    at (Some i) e = let f = first_is (descriptor_count - from) from (λ j. not (is_nothing (fds j))) i e in let a = f.above in let b = f.below in absurd (omega (arith, a, b, le))

-- Desks that the table can't tell apart.
pub record SameTied (d e : Desk) : Type 0 where
  pub fds : (i : ℕ) → i < descriptor_count → d.fds i ≡ e.fds i
  pub lent : (i : ℕ) → i < descriptor_count → d.lent i ≡ e.lent i
  pub hand : d.hand ≡ e.hand
  pub opening : d.opening ≡ e.opening
  pub full : d.full ≡ e.full

pub same_tied : (d : Desk) → SameTied d d
same_tied d = record { fds = λ i l. refl; lent = λ i l. refl; hand = refl; opening = refl; full = refl }

abbrev pub desks_file_tables : FileTables → (ℕ → Desk) → FileTables
desks_file_tables s D = record { files = s.files; desks = D; ids = s.ids; slots = s.slots; clean = s.clean; tree_fds = s.tree_fds; tree_files = s.tree_files }

pub tied_as : (s : FileTables) (D : ℕ → Desk) → ((g : ℕ) → SameTied (D g) (s.desks g)) → IsTied s → IsTied (desks_file_tables s D)
tied_as s D same tied = record {
  fds = λ g i lg li o. tied.fds g i lg li (ap (λ (z : Option ℕ). is_at z i) (sym (same g).opening) ∙ o) ∙ ap (λ (z : Option ℕ). id_at s.ids z) (sym ((same g).fds i li));
  fresh = λ g i lg o. let f = tied.fresh g i lg (sym (same g).opening ∙ o) in record { below = f.below; free = (same g).fds i f.below ∙ f.free; id = f.id; is = f.is; file = f.file; at = f.at; offset = f.offset; only = f.only };
  used = λ g i k lg li q. tied.used g i k lg li (sym ((same g).fds i li) ∙ q);
  lends = λ g i k lg li q. (same g).fds i li ∙ tied.lends g i k lg li (sym ((same g).lent i li) ∙ q);
  hand = λ g k lg q. tied.hand g k lg (sym (same g).hand ∙ q);
  hands = λ g j k lg lj q r. tied.hands g j k lg lj (sym (same g).hand ∙ q) (sym (same j).hand ∙ r);
  within = tied.within;
  files = tied.files;
  apart = tied.apart;
  counted = λ k e q. let a = tied.counted k e q in (a.0 ∙ sym (users_same k), a.1);
  slots = tied.slots;
  spoiled = λ g q. tied.spoiled g (sym (same g).full ∙ q);
}
  where
    uses_same : (g k : ℕ) → uses (D g) k ≡ uses (s.desks g) k
    uses_same g k =
        let a = sum_same descriptor_count (λ i. one_if (is_at ((s.desks g).fds i) k)) (λ i. one_if (is_at ((D g).fds i) k)) (λ i l. ap (λ (z : Option ℕ). one_if (is_at z k)) ((same g).fds i l)) in
        let b = sum_same descriptor_count (λ i. one_if (is_at ((s.desks g).lent i) k)) (λ i. one_if (is_at ((D g).lent i) k)) (λ i l. ap (λ (z : Option ℕ). one_if (is_at z k)) ((same g).lent i l)) in
        omega (arith, a, b)

    users_same : (k : ℕ) → users D k ≡ users s.desks k
    users_same k = sum_same hart_count (λ g. uses (s.desks g) k) (λ g. uses (D g) k) (λ g lg. uses_same g k)

-- a descriptor is handed on: its open file has one more
abbrev pub lent_desks : (ℕ → Desk) → ℕ → ℕ → Option ℕ → ℕ → Desk
lent_desks D h i y = put D h (record (D h) { lent = put (D h).lent i y })

users_lent : (D : ℕ → Desk) (h i k : ℕ) (y : Option ℕ) → h < hart_count → i < descriptor_count → users (lent_desks D h i y) k + one_if (is_at ((D h).lent i) k) ≡ users D k + one_if (is_at y k)
users_lent D h i k y lh li =
    let d : Desk = record (D h) { lent = put (D h).lent i y } in
    let a = sum_changed hart_count h (λ g. uses (D g) k) (λ g. uses (lent_desks D h i y g) k) lh (λ g ne. ap (λ (z : Desk). uses z k) (put_other D h d g ne)) in
    let b = sum_changed descriptor_count i (λ j. one_if (is_at ((D h).lent j) k)) (λ j. one_if (is_at (put (D h).lent i y j) k)) li (λ j ne. ap (λ (z : Option ℕ). one_if (is_at z k)) (put_other (D h).lent i y j ne)) in
    let c : uses (lent_desks D h i y h) k ≡ uses d k = ap (λ (z : Desk). uses z k) (put_same D h d) in
    let e : one_if (is_at (put (D h).lent i y i) k) ≡ one_if (is_at y k) = ap (λ (z : Option ℕ). one_if (is_at z k)) (put_same (D h).lent i y) in
    omega (arith, a, b, c, e)

abbrev pub counted_more : Entry → Entry
counted_more e = record { file = e.file; inode_type = e.inode_type; references = e.references + 1 }

abbrev pub lent_file_tables : FileTables → ℕ → ℕ → ℕ → Entry → FileTables
lent_file_tables s h i k e = record { files = put s.files k (Some (counted_more e)); desks = lent_desks s.desks h i (Some k); ids = s.ids; slots = s.slots; clean = s.clean; tree_fds = s.tree_fds; tree_files = s.tree_files }

pub tied_lent : (s : FileTables) (h i k : ℕ) (e : Entry) → IsTied s → h < hart_count → i < descriptor_count → (s.desks h).fds i ≡ Some k → (s.desks h).lent i ≡ None → s.files k ≡ Some e → IsTied (lent_file_tables s h i k e)
tied_lent s h i k e tied lt li is unlent at = record {
  fds = λ g j lg lj o. tied.fds g j lg lj (ap (λ (z : Option ℕ). is_at z j) (sym (opening_is g)) ∙ o) ∙ ap (λ (z : Option ℕ). id_at s.ids z) (sym (fds_is g j));
  fresh = λ g j lg o. let f = tied.fresh g j lg (sym (opening_is g) ∙ o) in record { below = f.below; free = fds_is g j ∙ f.free; id = f.id; is = f.is; file = f.file; at = f.at; offset = f.offset; only = f.only };
  used = λ g j l lg lj q. there l (tied.used g j l lg lj (sym (fds_is g j) ∙ q));
  lends = λ g j l lg lj q. fds_is g j ∙ elim (same_or g h) [
    | inr ne ↦ tied.lends g j l lg lj (ap (λ (d : Desk). d.lent j) (sym (put_other s.desks h new g ne)) ∙ q)
    | inl r ↦
        let b : put (s.desks h).lent i (Some k) j ≡ Some l = sym (ap (λ (d : Desk). d.lent j) (put_same s.desks h new)) ∙ ap (λ (z : ℕ). (D z).lent j) (sym r) ∙ q in
        ap (λ (z : ℕ). (s.desks z).fds j) r ∙ elim (same_or j i) [
          | inl t ↦ ap (s.desks h).fds t ∙ is ∙ sym (put_same (s.desks h).lent i (Some k)) ∙ ap (put (s.desks h).lent i (Some k)) (sym t) ∙ b
          | inr ne ↦ tied.lends h j l lt lj (sym (put_other (s.desks h).lent i (Some k) j ne) ∙ b)
        ]
  ];
  hand = λ g l lg q. let o = tied.hand g l lg (sym (hand_is g) ∙ q) in (o.0, put_elim s.files k (Some (counted_more e)) l (λ z. z ≡ None) (λ t. absurd (let b : s.files k ≡ None = ap s.files (sym t) ∙ o.1 in cc (b, at))) (λ ne. o.1));
  hands = λ g j l lg lj q r. tied.hands g j l lg lj (sym (hand_is g) ∙ q) (sym (hand_is j) ∙ r);
  within = λ l x q. let d = old l x q in tied.within l d.0 d.1;
  files = λ l x q. let d = old l x q in tied.files l d.0 d.1 ∙ (λ z. Some (sym d.2 z));
  apart = λ l m x y p q r. let a = old l x p in let b = old m y q in tied.apart l m a.0 b.0 a.1 b.1 r;
  counted = λ l x q. let d = old l x q in (d.3, d.4);
  slots = λ n. tied.slots n ∙ sym (renewed_slots s.files k e (counted_more e) n at refl);
  spoiled = λ g q. tied.spoiled g (sym (full_is g) ∙ q);
}
  where
    new : Desk
    new = record (s.desks h) { lent = put (s.desks h).lent i (Some k) }

    D : ℕ → Desk
    D = lent_desks s.desks h i (Some k)

    fds_is : (g j : ℕ) → (D g).fds j ≡ (s.desks g).fds j
    fds_is g j = put_elim s.desks h new g (λ d. d.fds j ≡ (s.desks g).fds j) (λ r. ap (λ (z : ℕ). (s.desks z).fds j) (sym r)) (λ ne. refl)

    hand_is : (g : ℕ) → (D g).hand ≡ (s.desks g).hand
    hand_is g = put_elim s.desks h new g (λ d. d.hand ≡ (s.desks g).hand) (λ r. ap (λ (z : ℕ). (s.desks z).hand) (sym r)) (λ ne. refl)

    opening_is : (g : ℕ) → (D g).opening ≡ (s.desks g).opening
    opening_is g = put_elim s.desks h new g (λ d. d.opening ≡ (s.desks g).opening) (λ r. ap (λ (z : ℕ). (s.desks z).opening) (sym r)) (λ ne. refl)

    full_is : (g : ℕ) → (D g).full ≡ (s.desks g).full
    full_is g = put_elim s.desks h new g (λ d. d.full ≡ (s.desks g).full) (λ r. ap (λ (z : ℕ). (s.desks z).full) (sym r)) (λ ne. refl)

    none : (j : ℕ) → one_if (is_at ((s.desks h).lent i) j) ≡ 0
    none j = ap (λ (z : Option ℕ). one_if (is_at z j)) unlent ∙ one_no false refl

    renews : Renews s k e (counted_more e) D
    renews = record {
      at = at;
      same = refl;
      counted = let a = users_lent s.desks h i k (Some k) lt li in let b = none k in let c : one_if (k == k) ≡ 1 = one_yes (k == k) (eq_self k) in let d = (tied.counted k e at).0 in omega (arith, a, b, c, d);
      more = omega arith;
      other = λ j ne. let a = users_lent s.desks h i j (Some k) lt li in let b = none j in let c = not_one k j (λ z. ne (sym z)) in omega (arith, a, b, c);
    }

    old : (l : ℕ) (x : Entry) → put s.files k (Some (counted_more e)) l ≡ Some x → (d : Entry) × (s.files l ≡ Some d) × (x.file ≡ d.file) × (x.references ≡ users D l) × (0 < x.references)
    old = renewed s k e (counted_more e) D tied renews

    there : (l : ℕ) → ((d : Entry) × (s.files l ≡ Some d)) → (x : Entry) × (put s.files k (Some (counted_more e)) l ≡ Some x)
    there l d = elim (same_or l k) [
      | inl t ↦ (counted_more e, ap (put s.files k (Some (counted_more e))) t ∙ put_same s.files k (Some (counted_more e)))
      | inr ne ↦ (d.0, put_other s.files k (Some (counted_more e)) l ne ∙ d.1)
    ]

-- All of a hart's descriptors are the child's too, which had none. x, y: their desks then.
pub record HandsAll (s : FileTables) (h c : ℕ) (x y : Desk) : Type 0 where
  pub hart : h < hart_count
  pub below : c < hart_count
  pub apart : c ≢ h
  pub all : (i : ℕ) → i < descriptor_count → (s.desks h).lent i ≡ (s.desks h).fds i
  pub empty : (i : ℕ) → i < descriptor_count → (s.desks c).fds i ≡ None
  pub lends_none : (i : ℕ) → i < descriptor_count → (s.desks c).lent i ≡ None
  pub idle : (s.desks h).opening ≡ None
  pub rests : (s.desks c).opening ≡ None
  pub kept : (i : ℕ) → i < descriptor_count → x.fds i ≡ (s.desks h).fds i
  pub lent : (i : ℕ) → i < descriptor_count → x.lent i ≡ None
  pub hand : x.hand ≡ (s.desks h).hand
  pub opening : x.opening ≡ (s.desks h).opening
  pub full : x.full ≡ (s.desks h).full
  pub given : (i : ℕ) → i < descriptor_count → y.fds i ≡ (s.desks h).fds i
  pub child_lent : (i : ℕ) → i < descriptor_count → y.lent i ≡ None
  pub child_hand : y.hand ≡ (s.desks c).hand
  pub child_opening : y.opening ≡ (s.desks c).opening
  pub child_full : y.full ≡ (s.desks c).full

abbrev pub handed_file_tables : FileTables → ℕ → ℕ → Desk → Desk → FileTables
handed_file_tables s h c x y = record { files = s.files; desks = put (put s.desks h x) c y; ids = s.ids; slots = s.slots; clean = s.clean; tree_fds = put s.tree_fds c (s.tree_fds h); tree_files = s.tree_files }

module _ (s : FileTables) (h c : ℕ) (x y : Desk) (tied : IsTied s) (a : HandsAll s h c x y) where
  abbrev D : ℕ → Desk
  D = put (put s.desks h x) c y

  abbrev T : ℕ → ℕ → Option ℕ
  T = put s.tree_fds c (s.tree_fds h)

  at_hart : D h ≡ x
  at_hart = put_other (put s.desks h x) c y h (λ e. a.apart (sym e)) ∙ put_same s.desks h x

  at_child : D c ≡ y
  at_child = put_same (put s.desks h x) c y

  at_other : (g : ℕ) → g ≢ h → g ≢ c → D g ≡ s.desks g
  at_other g nh nc = put_other (put s.desks h x) c y g nc ∙ put_other s.desks h x g nh

  part : {A : Type 0} (f : Desk → A) (g : ℕ) → f x ≡ f (s.desks h) → f y ≡ f (s.desks c) → f (D g) ≡ f (s.desks g)
  part f g mine his = elim (same_or g c) [
    | inl e ↦ ap (λ (z : ℕ). f (D z)) e ∙ ap f at_child ∙ his ∙ ap (λ (z : ℕ). f (s.desks z)) (sym e)
    | inr nc ↦ elim (same_or g h) [
      | inl e ↦ ap (λ (z : ℕ). f (D z)) e ∙ ap f at_hart ∙ mine ∙ ap (λ (z : ℕ). f (s.desks z)) (sym e)
      | inr nh ↦ ap f (at_other g nh nc)
    ]
  ]

  hand_is : (g : ℕ) → (D g).hand ≡ (s.desks g).hand
  hand_is g = part (λ d. d.hand) g a.hand a.child_hand

  opening_is : (g : ℕ) → (D g).opening ≡ (s.desks g).opening
  opening_is g = part (λ d. d.opening) g a.opening a.child_opening

  full_is : (g : ℕ) → (D g).full ≡ (s.desks g).full
  full_is g = part (λ d. d.full) g a.full a.child_full

  -- its own descriptors, or the child's new ones
  fds_is : (g i : ℕ) → i < descriptor_count → ((g ≡ c) × ((D g).fds i ≡ (s.desks h).fds i)) ⊎ ((g ≢ c) × ((D g).fds i ≡ (s.desks g).fds i))
  fds_is g i li = elim (same_or g c) [
    | inl e ↦ inl (e, ap (λ (z : ℕ). (D z).fds i) e ∙ ap (λ (d : Desk). d.fds i) at_child ∙ a.given i li)
    | inr nc ↦ inr (
      nc,
      elim (same_or g h) [
        | inl e ↦ ap (λ (z : ℕ). (D z).fds i) e ∙ ap (λ (d : Desk). d.fds i) at_hart ∙ a.kept i li ∙ ap (λ (z : ℕ). (s.desks z).fds i) (sym e)
        | inr nh ↦ ap (λ (d : Desk). d.fds i) (at_other g nh nc)
      ],
    )
  ]

  no_opening : (i : ℕ) → is_at (s.desks h).opening i ≡ false
  no_opening i = ap (λ (z : Option ℕ). is_at z i) a.idle

  users_is : (k : ℕ) → users D k ≡ users s.desks k
  users_is k =
      let both = sum_twice hart_count h c (λ g. uses (s.desks g) k) (λ g. uses (D g) k) a.hart a.below a.apart (λ g nh nc. ap (λ (d : Desk). uses d k) (at_other g nh nc)) in
      let hart : uses (D h) k ≡ uses x k = ap (λ (d : Desk). uses d k) at_hart in
      let child : uses (D c) k ≡ uses y k = ap (λ (d : Desk). uses d k) at_child in
      let kept = same (λ i. (s.desks h).fds i) (λ i. x.fds i) a.kept in
      let given = same (λ i. (s.desks h).fds i) (λ i. y.fds i) a.given in
      let all = same (λ i. (s.desks h).fds i) (λ i. (s.desks h).lent i) a.all in
      let lent = none (λ i. x.lent i) a.lent in
      let his = none (λ i. y.lent i) a.child_lent in
      let empty = none (λ i. (s.desks c).fds i) a.empty in
      let lends = none (λ i. (s.desks c).lent i) a.lends_none in
      omega (arith, both, hart, child, kept, given, all, lent, his, empty, lends)
    where
      same : (f g : ℕ → Option ℕ) → ((i : ℕ) → i < descriptor_count → g i ≡ f i) → sum_below descriptor_count (λ i. one_if (is_at (g i) k)) ≡ sum_below descriptor_count (λ i. one_if (is_at (f i) k))
      same f g e = sum_same descriptor_count (λ i. one_if (is_at (f i) k)) (λ i. one_if (is_at (g i) k)) (λ i l. ap (λ (z : Option ℕ). one_if (is_at z k)) (e i l))

      none : (f : ℕ → Option ℕ) → ((i : ℕ) → i < descriptor_count → f i ≡ None) → sum_below descriptor_count (λ i. one_if (is_at (f i) k)) ≡ 0
      none f e = sum_none descriptor_count (λ i. one_if (is_at (f i) k)) (λ i l. ap (λ (z : Option ℕ). one_if (is_at z k)) (e i l) ∙ one_no false refl)

  pub tied_handed : IsTied (handed_file_tables s h c x y)
  tied_handed = record {
    fds = λ g i lg li o. elim (fds_is g i li) [
      | inl r ↦ ap (λ (z : ℕ). T z i) r.0 ∙ ap (λ (f : ℕ → Option ℕ). f i) (put_same s.tree_fds c (s.tree_fds h)) ∙ tied.fds h i a.hart li (no_opening i) ∙ ap (λ (z : Option ℕ). id_at s.ids z) (sym r.1)
      | inr r ↦ ap (λ (f : ℕ → Option ℕ). f i) (put_other s.tree_fds c (s.tree_fds h) g r.0) ∙ tied.fds g i lg li (ap (λ (z : Option ℕ). is_at z i) (sym (opening_is g)) ∙ o) ∙ ap (λ (z : Option ℕ). id_at s.ids z) (sym r.1)
    ];
    fresh = λ g i lg o.
        let old : (s.desks g).opening ≡ Some i = sym (opening_is g) ∙ o in
        let nh : g ≢ h = (λ e. let b : (s.desks h).opening ≡ Some i = ap (λ (z : ℕ). (s.desks z).opening) (sym e) ∙ old in let n = a.idle in absurd (cc (b, n))) in
        let nc : g ≢ c = (λ e. let b : (s.desks c).opening ≡ Some i = ap (λ (z : ℕ). (s.desks z).opening) (sym e) ∙ old in let n = a.rests in absurd (cc (b, n))) in
        let f = tied.fresh g i lg old in record {
          below = f.below;
          free = ap (λ (d : Desk). d.fds i) (at_other g nh nc) ∙ f.free;
          id = f.id;
          is = ap (λ (z : ℕ → Option ℕ). z i) (put_other s.tree_fds c (s.tree_fds h) g nc) ∙ f.is;
          file = f.file;
          at = f.at;
          offset = f.offset;
          only = λ j l lj ll q. elim (same_or j c) [
            | inl e ↦ absurd (nh (sym (f.only h l a.hart ll (sym (ap (λ (z : ℕ → Option ℕ). z l) (put_same s.tree_fds c (s.tree_fds h))) ∙ ap (λ (z : ℕ). T z l) (sym e) ∙ q)).0))
            | inr ne ↦ f.only j l lj ll (sym (ap (λ (z : ℕ → Option ℕ). z l) (put_other s.tree_fds c (s.tree_fds h) j ne)) ∙ q)
          ];
        };
    used = λ g i k lg li q. elim (fds_is g i li) [ inl r ↦ tied.used h i k a.hart li (sym r.1 ∙ q) | inr r ↦ tied.used g i k lg li (sym r.1 ∙ q) ];
    lends = λ g i k lg li q. elim (same_or g c) [
      | inl e ↦ absurd (let b : y.lent i ≡ Some k = ap (λ (d : Desk). d.lent i) (sym at_child) ∙ ap (λ (z : ℕ). (D z).lent i) (sym e) ∙ q in let n = a.child_lent i li in cc (b, n))
      | inr nc ↦ elim (same_or g h) [
        | inl e ↦ absurd (let b : x.lent i ≡ Some k = ap (λ (d : Desk). d.lent i) (sym at_hart) ∙ ap (λ (z : ℕ). (D z).lent i) (sym e) ∙ q in let n = a.lent i li in cc (b, n))
        | inr nh ↦ ap (λ (d : Desk). d.fds i) (at_other g nh nc) ∙ tied.lends g i k lg li (ap (λ (d : Desk). d.lent i) (sym (at_other g nh nc)) ∙ q)
      ]
    ];
    hand = λ g k lg q. tied.hand g k lg (sym (hand_is g) ∙ q);
    hands = λ g j k lg lj q r. tied.hands g j k lg lj (sym (hand_is g) ∙ q) (sym (hand_is j) ∙ r);
    within = tied.within;
    files = tied.files;
    apart = tied.apart;
    counted = λ k e q. let b = tied.counted k e q in (b.0 ∙ sym (users_is k), b.1);
    slots = tied.slots;
    spoiled = λ g q. tied.spoiled g (sym (full_is g) ∙ q);
  }
