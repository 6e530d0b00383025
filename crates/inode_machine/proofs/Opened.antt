-- A world at rest with one open file meets the invariant.
use Rattle.inode_machine.proofs.Vocabulary.{◌≡◌, ◌≢◌, ◌⊎◌, inl, inr, ℕ, ◌<◌, true, false, ◌==◌, ◌||◌, Option, Some, None, refl, sym, ◌∙◌, ap, subst, arith, Node, OpenFile, hart_count, descriptor_count, Tree, put, hold_names, key_names, row_of, Hold, holds_raised, sum_below, one_if, IsWellFormed, eq_self, either, same_or, put_same, put_other, sum_none, sum_changed, one_yes, one_no, Desk, Entry, World, type_of, type_of_kind, file_count, is_at, at_rest, open_at_rest, HasOneOpen, number_is, users, id_at, key_in, left_or, own_names, Inv, Idle, HasType}
use Rattle.inode_machine.proofs.Basics.{put_elim, type_of_directory, users_put, one_most}

module _ (t : Tree) (f : OpenFile) (v : Node) (well : IsWellFormed t) (has : HasOneOpen t f v) where
  abbrev entry : Entry
  entry = record { file = f; inode_type = type_of_kind v.kind; references = 1 }

  abbrev pub w : World
  w = open_at_rest t f (type_of_kind v.kind)

  abbrev resting : ℕ → Desk
  resting = (at_rest t).desks

  abbrev new : Desk
  new = record (resting 0) { fds = put (λ i. None) 0 (Some 0) }

  abbrev D : ℕ → Desk
  D = put resting 0 new

  abbrev F : ℕ → Option Entry
  F = put (λ k. None) 0 (Some entry)

  fd_here : (D 0).fds 0 ≡ Some 0
  fd_here = ap (λ (d : Desk). d.fds 0) (put_same resting 0 new) ∙ put_same (λ (i : ℕ). None) 0 (Some 0)

  fd_there : (g i : ℕ) → (g ≢ 0) ⊎ (i ≢ 0) → (D g).fds i ≡ None
  fd_there g i (inl ne) = ap (λ (d : Desk). d.fds i) (put_other resting 0 new g ne)
  fd_there g i (inr ne) = put_elim resting 0 new g (λ d. d.fds i ≡ None) (λ e. put_other (λ (i : ℕ). None) 0 (Some 0) i ne) (λ q. refl)

  file_here : F 0 ≡ Some entry
  file_here = put_same (λ (k : ℕ). None) 0 (Some entry)

  file_at : (k : ℕ) (e : Entry) → F k ≡ Some e → (k ≡ 0) × (entry ≡ e)
  file_at k e q = elim (same_or k 0) [
    | inl z ↦ (z, (let a : Some entry ≡ Some e = sym file_here ∙ ap F (sym z) ∙ q in cc))
    | inr ne ↦ absurd (let a : F k ≡ None = put_other (λ (k : ℕ). None) 0 (Some entry) k ne in cc (a, q))
  ]

  opening : (g : ℕ) → (D g).opening ≡ None
  opening g = put_elim resting 0 new g (λ d. d.opening ≡ None) (λ e. refl) (λ q. refl)

  left : (g : ℕ) → (D g).left ≡ None
  left g = put_elim resting 0 new g (λ d. d.left ≡ None) (λ e. refl) (λ q. refl)

  hand : (g : ℕ) → (D g).hand ≡ None
  hand g = put_elim resting 0 new g (λ d. d.hand ≡ None) (λ e. refl) (λ q. refl)

  lent : (g : ℕ) → (D g).lent ≡ λ i. None
  lent g = put_elim resting 0 new g (λ d. d.lent ≡ λ i. None) (λ e. refl) (λ q. refl)

  lender : (g : ℕ) → (D g).lender ≡ None
  lender g = put_elim resting 0 new g (λ d. d.lender ≡ None) (λ e. refl) (λ q. refl)

  noted : (g : ℕ) → (D g).noted ≡ None
  noted g = put_elim resting 0 new g (λ d. d.noted ≡ None) (λ e. refl) (λ q. refl)

  full : (g : ℕ) → (D g).full ≡ false
  full g = put_elim resting 0 new g (λ d. d.full ≡ false) (λ e. refl) (λ q. refl)

  joined : (g : ℕ) → (D g).joined ≡ false
  joined g = put_elim resting 0 new g (λ d. d.joined ≡ false) (λ e. refl) (λ q. refl)

  directory : (g : ℕ) → (D g).directory ≡ t.cwd g
  directory g = put_elim resting 0 new g (λ d. d.directory ≡ t.cwd g) (λ e. ap t.cwd (sym e)) (λ q. refl)

  nobody : (k : ℕ) → users resting k ≡ 0
  nobody k = sum_none hart_count _ (λ g lg. let a : sum_below descriptor_count (λ i. one_if (is_at None k)) ≡ 0 = sum_none descriptor_count _ (λ i li. one_no false refl) in omega (arith, a))

  once : users D 0 ≡ 1
  once = let a = users_put resting 0 0 0 (Some 0) (omega arith) (omega arith) in let b = nobody 0 in let c : one_if (is_at None 0) ≡ 0 = one_no false refl in let d : one_if (is_at (Some 0) 0) ≡ 1 = one_yes true refl in omega (arith, a, b, c, d)

  pub inv : Inv w
  inv = record {
    well = well;
    ids = λ k le. has.files k (λ q. omega (arith, q, le));
    whole = λ i e. refl;
    quiet = λ i g e. absurd cc;
    keeps = λ i g e. absurd cc;
    kept = λ i g e. absurd cc;
    held = λ i g e. absurd cc;
    alone = λ i e. absurd cc;
    counts = λ i. refl;
    tied = record {
      fds = λ g i lg li e. elim (same_or g 0) [
        | inr ne ↦ has.fds g i (inl ne) ∙ sym (ap (λ (z : Option ℕ). id_at w.ids z) (fd_there g i (inl ne)))
        | inl q ↦ elim (same_or i 0) [
          | inr ne ↦ has.fds g i (inr ne) ∙ sym (ap (λ (z : Option ℕ). id_at w.ids z) (fd_there g i (inr ne)))
          | inl r ↦ (λ z. t.fds (q z) (r z)) ∙ has.fd ∙ sym (ap (λ (z : Option ℕ). id_at w.ids z) ((λ z. (D (q z)).fds (r z)) ∙ fd_here))
        ]
      ];
      fresh = λ g i lg e. absurd (let a = opening g in cc (a, e));
      used = λ g i k lg li e. elim (same_or k 0) [
        | inl z ↦ (entry, ap F z ∙ file_here)
        | inr nk ↦ absurd (elim (same_or g 0) [
          | inr ne ↦ (let a = fd_there g i (inl ne) in cc (a, e))
          | inl q ↦ elim (same_or i 0) [
            | inr ne ↦ (let a = fd_there g i (inr ne) in cc (a, e))
            | inl r ↦ nk (let a : Some 0 ≡ Some k = sym fd_here ∙ (λ z. (D (sym q z)).fds (sym r z)) ∙ e in let b : 0 ≡ k = cc in sym b)
          ]
        ])
      ];
      lends = λ g i k lg li e. absurd (let a = ap (λ (z : ℕ → Option ℕ). z i) (lent g) in cc (a, e));
      hand = λ g k lg e. absurd (let a = hand g in cc (a, e));
      hands = λ g j k lg lj e q. absurd (let a = hand g in cc (a, e));
      within = λ k e q. let z = (file_at k e q).0 in omega (arith, z);
      files = λ k e q. has.file ∙ ap (λ (z : Entry). Some z.file) (file_at k e q).1;
      apart = λ k l e x p q r. (file_at k e p).0 ∙ sym (file_at l x q).0;
      counted = λ k e q. let a = file_at k e q in (ap (λ (z : Entry). z.references) (sym a.1) ∙ sym once ∙ ap (λ (z : ℕ). users D z) (sym a.0), subst (λ (z : Entry). 0 < z.references) a.1 (omega arith));
      slots = λ n.
          let a = sum_changed file_count 0 (λ k. number_is None n) (λ k. number_is (F k) n) (omega arith) (λ k ne. ap (λ (z : Option Entry). number_is z n) (put_other (λ (k : ℕ). None) 0 (Some entry) k ne)) in
          let b = sum_none file_count (λ k. number_is None n) (λ k lk. refl) in
          let c : number_is (F 0) n ≡ one_if (f.number == n) = ap (λ (z : Option Entry). number_is z n) file_here in
          omega (arith, a, b, c);
      spoiled = λ g q. absurd (let a = full g in cc (a, q));
    };
    inode_types = λ k e q. subst (λ (z : Entry). HasType t.nodes z) (file_at k e q).1 (record { inode_type = ap (λ (z : Option Node). type_of z) has.node; written = has.written });
    named = λ g i lt free is. inl (here g i (cwd g i is));
    pending = λ g i lt e. absurd cc;
    walks = λ g k lt e. absurd cc;
    noted = λ g n lt e. absurd (let a = noted g in cc (a, e));
    refers = λ g lt. record { few = λ i. let a = one_most (t.cwd g == i) in omega (arith, a); home = here g (D g).directory ((λ z. t.cwd g == directory g z) ∙ eq_self (t.cwd g)) };
    directory = λ g lt. record { at = λ _. directory g ∙ (λ z. left_or (sym (left g) z) (t.cwd g)); inode_type = ap (λ (z : ℕ). type_of (t.nodes z)) (directory g) ∙ type_of_directory t g well lt };
    raised = λ g lt q. absurd (let a = ap (λ (o : Option Hold). holds_raised true o) (has.holds g) in cc (a, q));
    lent = λ g c lt is. absurd (let a = lender g in cc (a, is));
    serves = λ c g lt is. absurd (let a = ap (λ (f : ℕ → Option ℕ). f descriptor_count) (lent c) in cc (a, is));
  }
    where
      here : (g i : ℕ) → (t.cwd g == i) ≡ true → 0 < one_if (t.cwd g == i)
      here g i e = let a = one_yes (t.cwd g == i) e in omega (arith, a)

      cwd : (g i : ℕ) → own_names (row_of t g) (D g) i ≡ true → (t.cwd g == i) ≡ true
      cwd g i is = elim (either (t.cwd g == i)) [
        | inl y ↦ y
        | inr y ↦ absurd (let e : own_names (row_of t g) (D g) i ≡ false = (λ z. (y z) || (hold_names (has.holds g z) i || (key_names (key_in (row_of t g).keys (opening g z)) i || is_at (left g z) i))) in cc (e, is))
      ]

  pub idle : (h : ℕ) → Idle h w
  idle h = record { inodes = refl; refs = λ i. λ z. one_if (sym (directory h) z == i); walk = refl; pending = refl; hold = has.holds h; hand = hand h; joined = joined h; lent = lent h; opening = opening h; left = left h; noted = noted h }
