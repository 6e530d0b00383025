-- The tree's step of an open, on the table's side: the tree has a new descriptor and a new open file, and the table has neither yet.
use Rattle.inode_machine.proofs.Vocabulary.{◌≡◌, ◌≢◌, ◌⊎◌, inl, inr, ℕ, zero, suc, ◌+◌, ◌<◌, ◌≤◌, Bool, true, false, ◌==◌, ◌&&◌, ◌||◌, nat_lt, Option, Some, None, refl, sym, ◌∙◌, ap, subst, arith, if◌then◌else◌, Node, OpenFile, hart_count, descriptor_count, Tree, put, hold_names, IsLeastUnused, has_room, lowest, Key, Row, key_at, key_is, key_names, key_of, row_of, key_from, sum_below, one_if, IsWellFormed, either, eq_self, eq_is, same_or, put_same, put_other, sum_same, well_opened, Desk, World, first_from, is_at, is_nothing, or_zero, new_id, file_for, id_at, key_in, own_names, own_of, file_tables_of, users, Own, Inv, IsReached, FileTables, IsTied}
use Rattle.inode_machine.proofs.Frame.{bond_of, put_elim, is_put, stands_on, HartStep, refers_on}
use Rattle.inode_machine.proofs.Tables.{less_is, lowest_free, lowest_same}
use Rattle.inode_machine.proofs.Dups.{not_at}

pub record OpensIn (s : FileTables) (h fd id : ℕ) (f : OpenFile) : Type 0 where
  pub hart : h < hart_count
  pub below : fd < descriptor_count
  pub idle : (s.desks h).opening ≡ None
  pub free : (s.desks h).fds fd ≡ None
  pub unused : s.tree_files id ≡ None
  -- of the tree's well-formedness
  pub stands : (j l k : ℕ) → j < hart_count → l < descriptor_count → s.tree_fds j l ≡ Some k → s.tree_files k ≢ None
  pub offset : f.offset ≡ 0

abbrev pub opened_file_tables : FileTables → ℕ → ℕ → ℕ → OpenFile → FileTables
opened_file_tables s h fd id f = record { files = s.files; desks = put s.desks h (record (s.desks h) { opening = Some fd }); ids = s.ids; slots = s.slots; clean = s.clean; tree_fds = put s.tree_fds h (put (s.tree_fds h) fd (Some id)); tree_files = put s.tree_files id (Some f) }

pub opens_tied : (s : FileTables) (h fd id : ℕ) (f : OpenFile) → IsTied s → OpensIn s h fd id f → IsTied (opened_file_tables s h fd id f)
opens_tied s h fd id f tied a =
    record {
      fds = λ g i lg li q. elim (same_or g h) [
        | inr ne ↦ there g i (inl ne) ∙ tied.fds g i lg li (ap (λ (d : Desk). is_at d.opening i) (sym (put_other s.desks h new g ne)) ∙ q) ∙ ap (λ (z : Option ℕ). id_at s.ids z) (sym (fds_is g i))
        | inl r ↦
            let o : is_at (Some fd) i ≡ false = sym (ap (λ (d : Desk). is_at d.opening i) (put_same s.desks h new)) ∙ ap (λ (z : ℕ). is_at (D z).opening i) (sym r) ∙ q in
            let ne : i ≢ fd = (λ e. absurd (let b : (fd == i) ≡ true = ap (λ (z : ℕ). fd == z) e ∙ eq_self fd in cc (b, o))) in
            there g i (inr ne) ∙ tied.fds g i lg li (ap (λ (z : ℕ). is_at (s.desks z).opening i) r ∙ ap (λ (z : Option ℕ). is_at z i) a.idle) ∙ ap (λ (z : Option ℕ). id_at s.ids z) (sym (fds_is g i))
      ];
      fresh = λ g i lg q. elim (same_or g h) [
        | inl r ↦
            let o : Some fd ≡ Some i = sym (ap (λ (d : Desk). d.opening) (put_same s.desks h new)) ∙ ap (λ (z : ℕ). (D z).opening) (sym r) ∙ q in
            let e : fd ≡ i = cc in
            record {
              below = subst (λ (z : ℕ). z < descriptor_count) e a.below;
              free = fds_is g i ∙ (λ z. (s.desks (r z)).fds (sym e z)) ∙ a.free;
              id = id;
              is = (λ z. T (r z) (sym e z)) ∙ here;
              file = f;
              at = put_same s.tree_files id (Some f);
              offset = a.offset;
              only = λ j l lj ll p. elim (same_or j h) [
                | inr ne ↦ absurd (a.stands j l id lj ll (sym (there j l (inl ne)) ∙ p) a.unused)
                | inl t ↦ elim (same_or l fd) [
                  | inr ne ↦ absurd (a.stands j l id lj ll (sym (there j l (inr ne)) ∙ p) a.unused)
                  | inl m ↦ (t ∙ sym r, m ∙ e)
                ]
              ];
            }
        | inr ne ↦
            let x = tied.fresh g i lg (ap (λ (d : Desk). d.opening) (sym (put_other s.desks h new g ne)) ∙ q) in
            let apart : x.id ≢ id = (λ e. absurd (let b : s.tree_files x.id ≡ None = ap s.tree_files e ∙ a.unused in let c = x.at in cc (b, c))) in
            record {
              below = x.below;
              free = fds_is g i ∙ x.free;
              id = x.id;
              is = there g i (inl ne) ∙ x.is;
              file = x.file;
              at = put_other s.tree_files id (Some f) x.id apart ∙ x.at;
              offset = x.offset;
              only = λ j l lj ll p. elim (same_or j h) [
                | inr nj ↦ x.only j l lj ll (sym (there j l (inl nj)) ∙ p)
                | inl t ↦ elim (same_or l fd) [
                  | inr nl ↦ x.only j l lj ll (sym (there j l (inr nl)) ∙ p)
                  | inl m ↦ absurd (let b : Some id ≡ Some x.id = sym here ∙ (λ z. T (sym t z) (sym m z)) ∙ p in let c : id ≡ x.id = cc in apart (sym c))
                ]
              ];
            }
      ];
      used = λ g i j lg li q. tied.used g i j lg li (sym (fds_is g i) ∙ q);
      lends = λ g i j lg li q. fds_is g i ∙ tied.lends g i j lg li (sym (lent_is g i) ∙ q);
      hand = λ g j lg q. tied.hand g j lg (sym (hand_is g) ∙ q);
      hands = λ g i j lg li q r. tied.hands g i j lg li (sym (hand_is g) ∙ q) (sym (hand_is i) ∙ r);
      within = tied.within;
      files = λ j e q. let x = tied.files j e q in put_other s.tree_files id (Some f) (s.ids j) (λ p. absurd (let b : s.tree_files (s.ids j) ≡ None = ap s.tree_files p ∙ a.unused in cc (b, x))) ∙ x;
      apart = tied.apart;
      counted = λ j e q. let x = tied.counted j e q in (x.0 ∙ sym (users_is j), x.1);
      slots = tied.slots;
      spoiled = λ g q. tied.spoiled g (sym (full_is g) ∙ q);
    }
  where
    new : Desk
    new = record (s.desks h) { opening = Some fd }

    D : ℕ → Desk
    D = put s.desks h new

    T : ℕ → ℕ → Option ℕ
    T = put s.tree_fds h (put (s.tree_fds h) fd (Some id))

    here : T h fd ≡ Some id
    here = ap (λ (z : ℕ → Option ℕ). z fd) (put_same s.tree_fds h (put (s.tree_fds h) fd (Some id))) ∙ put_same (s.tree_fds h) fd (Some id)

    there : (g i : ℕ) → ((g ≢ h) ⊎ (i ≢ fd)) → T g i ≡ s.tree_fds g i
    there g i (inl ne) = ap (λ (z : ℕ → Option ℕ). z i) (put_other s.tree_fds h (put (s.tree_fds h) fd (Some id)) g ne)
    there g i (inr ne) = put_elim s.tree_fds h (put (s.tree_fds h) fd (Some id)) g (λ z. z i ≡ s.tree_fds g i) (λ e. put_other (s.tree_fds h) fd (Some id) i ne ∙ ap (λ (z : ℕ). s.tree_fds z i) (sym e)) (λ q. refl)

    fds_is : (g i : ℕ) → (D g).fds i ≡ (s.desks g).fds i
    fds_is g i = put_elim s.desks h new g (λ d. d.fds i ≡ (s.desks g).fds i) (λ e. ap (λ (z : ℕ). (s.desks z).fds i) (sym e)) (λ ne. refl)

    hand_is : (g : ℕ) → (D g).hand ≡ (s.desks g).hand
    hand_is g = put_elim s.desks h new g (λ d. d.hand ≡ (s.desks g).hand) (λ e. ap (λ (z : ℕ). (s.desks z).hand) (sym e)) (λ ne. refl)

    full_is : (g : ℕ) → (D g).full ≡ (s.desks g).full
    full_is g = put_elim s.desks h new g (λ d. d.full ≡ (s.desks g).full) (λ e. ap (λ (z : ℕ). (s.desks z).full) (sym e)) (λ ne. refl)

    lent_is : (g i : ℕ) → (D g).lent i ≡ (s.desks g).lent i
    lent_is g i = put_elim s.desks h new g (λ d. d.lent i ≡ (s.desks g).lent i) (λ e. ap (λ (z : ℕ). (s.desks z).lent i) (sym e)) (λ ne. refl)

    users_is : (j : ℕ) → users D j ≡ users s.desks j
    users_is j = sum_same hart_count _ _ (λ g lg. λ z. sum_below descriptor_count (λ i. one_if (is_at (fds_is g i z) j)) + sum_below descriptor_count (λ i. one_if (is_at (lent_is g i z) j)))

-- The least unused id.

pub record FirstOf (i from more : ℕ) (p : ℕ → Bool) : Type 0 where
  pub is : p i ≡ true
  pub above : from ≤ i
  pub below : i < from + more
  pub least : (j : ℕ) → from ≤ j → j < i → p j ≡ false

pub first_is : (more from : ℕ) (p : ℕ → Bool) (i : ℕ) → first_from more from p ≡ Some i → FirstOf i from more p
unfolding first_from
first_is zero from p i e = absurd cc
first_is (suc more) from p i e = at (p from) refl e (first_is more (from + 1) p i)
  where
    at : (t : Bool) → p from ≡ t → (if t then Some from else first_from more (from + 1) p) ≡ Some i → (first_from more (from + 1) p ≡ Some i → FirstOf i (from + 1) more p) → FirstOf i from (suc more) p
    at true q e next = let s : from ≡ i = cc in record { is = subst (λ (z : ℕ). p z ≡ true) s q; above = omega (arith, s); below = omega (arith, s); least = λ j a b. absurd (omega (arith, a, b, s)) }
    at false q e next = let f = next e in record {
      is = f.is;
      above = (let g = f.above in omega (arith, g));
      below = (let g = f.below in omega (arith, g));
      least = λ j a b. elim (same_or j from) [ inl s ↦ ap p s ∙ q | inr ne ↦ f.least j (omega (arith, a, ne)) b ];
    }

-- one is found if there is one
pub first_some : (more from : ℕ) (p : ℕ → Bool) (k : ℕ) → from ≤ k → k < from + more → p k ≡ true → (i : ℕ) × (first_from more from p ≡ Some i)
unfolding first_from
first_some zero from p k a b q = absurd (omega (arith, a, b))
first_some (suc more) from p k a b q = at (p from) refl (λ ne. first_some more (from + 1) p k (omega (arith, a, ne)) (omega (arith, b)) q)
  where
    at : (t : Bool) → p from ≡ t → (from ≢ k → (i : ℕ) × (first_from more (from + 1) p ≡ Some i)) → (i : ℕ) × ((if t then Some from else first_from more (from + 1) p) ≡ Some i)
    at true s next = (from, refl)
    at false s next = next (λ e. absurd (let r : p from ≡ p k = ap p e in cc (r, q, s)))

pub record Fresh (v : World) : Type 0 where
  pub least : IsLeastUnused v.all (new_id v)
  pub below : new_id v ≤ v.next

pub fresh_id : (v : World) → Inv v → Fresh v
fresh_id v inv = record {
  least = record { unused = nothing_is (v.all.files (new_id v)) (subst (λ (z : ℕ). is_nothing (v.all.files z) ≡ true) (sym id_is) f.is); least = λ j a q. absurd (let b = f.least j (omega (arith)) (let c = id_is in omega (arith, c, a)) in let c : is_nothing (v.all.files j) ≡ true = ap (λ (o : Option OpenFile). is_nothing o) q in cc (b, c)) };
  below = let c = id_is in let b = f.below in omega (arith, c, b);
}
  where
    nothing_is : (o : Option OpenFile) → is_nothing o ≡ true → o ≡ None
    nothing_is None e = refl
    nothing_is (Some x) e = absurd cc

    found : (i : ℕ) × (first_from (v.next + 1) 0 (λ k. is_nothing (v.all.files k)) ≡ Some i)
    found = first_some (v.next + 1) 0 (λ k. is_nothing (v.all.files k)) v.next (omega arith) (omega arith) (ap (λ (o : Option OpenFile). is_nothing o) (inv.ids v.next (omega arith)))

    f : FirstOf found.0 0 (v.next + 1) (λ k. is_nothing (v.all.files k))
    f = first_is (v.next + 1) 0 (λ k. is_nothing (v.all.files k)) found.0 found.1

    id_is : new_id v ≡ found.0
    id_is = ap (λ (o : Option ℕ). or_zero o) found.1

-- The tree opens a file of an inode that the hart has reached.

abbrev pub opened_tree : Tree → ℕ → ℕ → ℕ → ℕ → ℕ → Tree
opened_tree t h fd id j flags = record t { files = put t.files id (Some (file_for j flags)); fds = put t.fds h (put (t.fds h) fd (Some id)) }

abbrev pub opened_world : ℕ → ℕ → ℕ → ℕ → World → World
opened_world h fd j flags v = record v { desks = put v.desks h (record (v.desks h) { opening = Some fd }); all = opened_tree v.all h fd (new_id v) j flags; next = v.next + 1 }

-- what a hart's row has with one descriptor more, and with one less
abbrev pub opened_row : Row → ℕ → ℕ → Key → Row
opened_row r fd id k = record { cwd = r.cwd; hold = r.hold; fds = put r.fds fd (Some id); keys = put r.keys fd (Some k) }

abbrev pub unopened_row : Row → ℕ → Row
unopened_row r fd = record { cwd = r.cwd; hold = r.hold; fds = put r.fds fd None; keys = put r.keys fd None }

pub row_back : (r : Row) (fd id : ℕ) (k : Key) → r.fds fd ≡ None → r.keys fd ≡ None → unopened_row (opened_row r fd id k) fd ≡ r
row_back r fd id k none key = λ z. record { cwd = r.cwd; hold = r.hold; fds = back r.fds (Some id) none z; keys = back r.keys (Some k) key z }
  where
    back : {A : Type 0} (f : ℕ → Option A) (x : Option A) → f fd ≡ None → put (put f fd x) fd None ≡ f
    back {A} f x q = λ z i. each i z
      where
        each : (i : ℕ) → put (put f fd x) fd None i ≡ f i
        each i = elim (same_or i fd) [
          | inl e ↦ ap (put (put f fd x) fd None) e ∙ put_same (put f fd x) fd None ∙ sym q ∙ ap f (sym e)
          | inr ne ↦ put_other (put f fd x) fd None i ne ∙ put_other f fd x i ne
        ]

pub record Opening (h fd j flags : ℕ) (v : World) (O : Own) : Type 0 where
  pub did : HartStep h v (opened_world h fd j flags v)
  pub owned : own_of h (opened_world h fd j flags v) ≡ record O { row = opened_row O.row fd (new_id v) (key_is (file_for j flags)); desk = record (O.desk) { opening = Some fd } }
  pub below : fd < descriptor_count
  pub free : (v.desks h).fds fd ≡ None
  pub none : v.all.fds h fd ≡ None
  pub unkeyed : (row_of v.all h).keys fd ≡ None

pub opening : (h fd j flags : ℕ) (x : Node) (v : World) (O : Own) → own_of h v ≡ O → O.desk.lender ≡ None → h < hart_count → Inv v → O.desk.opening ≡ None → lowest (v.all.fds h) ≡ fd → has_room (v.all.fds h) ≡ true → v.all.nodes j ≡ Some x → IsReached v h j → Opening h fd j flags v O
opening h fd j flags x v O ov free lt inv idle low room is reached = record {
  did = record {
    hart = lt;
    inodes = λ i. inl (record { lock = refl; keeper = refl; disk = refl; node = refl; alone = refl });
    mine = λ g ne. refl;
    rows = λ g ne. λ z. record { cwd = v.all.cwd g; hold = v.all.holds g; fds = put_other v.all.fds h (put (v.all.fds h) fd (Some id)) g ne z; keys = λ i. keys g ne i z };
    size = refl;
    ids = λ k le. put_other v.all.files id (Some (file_for j flags)) k (λ e. absurd (let b = fresh.below in omega (arith, b, le, e))) ∙ inv.ids k (omega (arith, le));
    file_tables = record { tied = opens_tied (file_tables_of v) h fd id (file_for j flags) inv.tied (record { hart = lt; below = below; idle = opening_v; free = free_fd; unused = fresh.least.unused; stands = λ g l k lg ll q e. absurd (let o = inv.well.descriptors g l k lg ll q in let a = o.is in cc (a, e)); offset = refl }); desks = λ g ne. put_other v.desks h new g ne; numbers = λ g i k e lg ne li q a. (e, a, refl, inl refl); clean = λ c. c; bond = ap (λ (d : Desk). bond_of d) here; stays = inl (ap (λ (d : Desk). d.directory) here) };
    free = ap (λ (d : Desk). d.lender) here ∙ ap (λ (o : Own). o.desk.lender) ov ∙ free;
    raised = λ q. ap (λ (d : Desk). d.joined) here ∙ inv.raised h lt q;
    quiet = λ i is2 f. inv.quiet i h is2 (sym (ap (λ (d : Desk). d.joined) here) ∙ f);
    inode_type = λ i. inl refl;
    inode_types = inv.inode_types;
    noted = λ m q r s. inv.noted h m lt (sym (ap (λ (d : Desk). d.noted) here) ∙ q) r s;
    directory = stands_on (v.desks h) (put v.desks h new h) (v.all.cwd h) v.all.nodes (ap (λ (o : Own). o.desk.lender) ov ∙ free) (ap (λ (d : Desk). d.directory) here) (ap (λ (d : Desk). d.left) here) (inv.directory h lt);
    refers = refers_on (v.harts h) (v.harts h) (v.desks h) (put v.desks h new h) (λ j. refl) (ap (λ (d : Desk). d.directory) here) (inv.refers h lt);
    well = well;
    counts = inv.counts;
    alone = inv.alone;
    kept = λ i is2. elim (inv.kept i h is2).1 [ inl o ↦ inl (record { fd = o.fd; below = o.below; slot = o.slot; is = ap (λ (d : Desk). d.fds o.fd) here ∙ o.is; entry = o.entry; at = o.at; number = o.number }) | inr p ↦ inr p ];
    held = λ i is2. inv.held i h is2;
    named = λ i q. named i q;
    pending = λ i is2. inv.pending h i lt is2;
    walks = λ y is2. inv.walks h y lt is2;
  };
  owned = λ z. record {
    inodes = ap (λ (o : Own). o.inodes) ov z;
    mine = ap (λ (o : Own). o.mine) ov z;
    row = (row_is ∙ ap (λ (o : Own). opened_row o.row fd id (key_is (file_for j flags))) ov) z;
    ninodes = ap (λ (o : Own). o.ninodes) ov z;
    desk = (here ∙ ap (λ (o : Own). record (o.desk) { opening = Some fd }) ov) z;
  };
  below = below;
  free = free_fd;
  none = none_fd;
  unkeyed = key_none (nat_lt h hart_count && nat_lt fd descriptor_count) (v.all.fds h fd) none_fd;
}
  where
    id : ℕ
    id = new_id v

    fresh : Fresh v
    fresh = fresh_id v inv

    T : Tree
    T = opened_tree v.all h fd id j flags

    new : Desk
    new = record (v.desks h) { opening = Some fd }

    here : put v.desks h new h ≡ new
    here = put_same v.desks h new

    opening_v : (v.desks h).opening ≡ None
    opening_v = ap (λ (o : Own). o.desk.opening) ov ∙ idle

    low_is : lowest (v.desks h).fds ≡ fd
    low_is = sym (lowest_same (v.desks h).fds (v.all.fds h) v.ids (λ i l. inv.tied.fds h i lt l (not_at v h i opening_v))) ∙ low

    spare : (fd < descriptor_count) × (v.all.fds h fd ≡ None)
    spare = let l = lowest_free (v.all.fds h) room in subst (λ (z : ℕ). (z < descriptor_count) × (v.all.fds h z ≡ None)) low l

    below : fd < descriptor_count
    below = spare.0

    none_fd : v.all.fds h fd ≡ None
    none_fd = spare.1

    free_fd : (v.desks h).fds fd ≡ None
    free_fd = at ((v.desks h).fds fd) (sym none_fd ∙ inv.tied.fds h fd lt below (not_at v h fd opening_v))
      where
        at : (o : Option ℕ) → None ≡ id_at v.ids o → o ≡ None
        at None q = refl
        at (Some k) q = absurd cc

    well : IsWellFormed T
    well = subst (λ (t : Tree). IsWellFormed t) ((λ z. if room z then opened_tree v.all h (low z) id j flags else v.all)) (well_opened v.all h id j flags x inv.well is (λ _. fresh.least.unused))

    -- an open file that a descriptor has isn't the new one
    old_file : (g i k : ℕ) → g < hart_count → i < descriptor_count → v.all.fds g i ≡ Some k → put v.all.files id (Some (file_for j flags)) k ≡ v.all.files k
    old_file g i k lg li q = put_other v.all.files id (Some (file_for j flags)) k (λ e. absurd (let o = inv.well.descriptors g i k lg li q in let a = o.is in let b : v.all.files k ≡ None = ap v.all.files e ∙ fresh.least.unused in cc (a, b)))

    key_at_old : (g i : ℕ) → g < hart_count → i < descriptor_count → (o : Option ℕ) → v.all.fds g i ≡ o → key_at T.files o ≡ key_at v.all.files o
    key_at_old g i lg li None q = refl
    key_at_old g i lg li (Some k) q = ap (λ (z : Option OpenFile). key_of z) (old_file g i k lg li q)

    keys : (g : ℕ) → g ≢ h → (i : ℕ) → (row_of T g).keys i ≡ (row_of v.all g).keys i
    keys g ne i = at (nat_lt g hart_count) (nat_lt i descriptor_count) refl refl
      where
        at : (a b : Bool) → nat_lt g hart_count ≡ a → nat_lt i descriptor_count ≡ b → (if a && b then key_at T.files (T.fds g i) else None) ≡ (if a && b then key_at v.all.files (v.all.fds g i) else None)
        at true true p q = ap (λ (z : ℕ → Option ℕ). key_at T.files (z i)) (put_other v.all.fds h (put (v.all.fds h) fd (Some id)) g ne) ∙ key_at_old g i (less_is g hart_count p) (less_is i descriptor_count q) (v.all.fds g i) refl
        at true false p q = refl
        at false true p q = refl
        at false false p q = refl

    mine : (i : ℕ) → i ≢ fd → (row_of T h).keys i ≡ (row_of v.all h).keys i
    mine i ne = at (nat_lt h hart_count) (nat_lt i descriptor_count) refl refl
      where
        at : (a b : Bool) → nat_lt h hart_count ≡ a → nat_lt i descriptor_count ≡ b → (if a && b then key_at T.files (T.fds h i) else None) ≡ (if a && b then key_at v.all.files (v.all.fds h i) else None)
        at true true p q = ap (λ (z : Option ℕ). key_at T.files z) (ap (λ (z : ℕ → Option ℕ). z i) (put_same v.all.fds h (put (v.all.fds h) fd (Some id))) ∙ put_other (v.all.fds h) fd (Some id) i ne) ∙ key_at_old h i (less_is h hart_count p) (less_is i descriptor_count q) (v.all.fds h i) refl
        at true false p q = refl
        at false true p q = refl
        at false false p q = refl

    keyed : (row_of T h).keys fd ≡ Some (key_is (file_for j flags))
    keyed = key_from T h fd id (file_for j flags) lt below (ap (λ (z : ℕ → Option ℕ). z fd) (put_same v.all.fds h (put (v.all.fds h) fd (Some id))) ∙ put_same (v.all.fds h) fd (Some id)) (put_same v.all.files id (Some (file_for j flags)))

    row_is : row_of T h ≡ opened_row (row_of v.all h) fd id (key_is (file_for j flags))
    row_is = λ z. record { cwd = v.all.cwd h; hold = v.all.holds h; fds = put_same v.all.fds h (put (v.all.fds h) fd (Some id)) z; keys = is_put (row_of v.all h).keys (row_of T h).keys fd (Some (key_is (file_for j flags))) keyed mine z }

    key_none : (b : Bool) (o : Option ℕ) → o ≡ None → (if b then key_at v.all.files o else None) ≡ None
    key_none true None q = refl
    key_none false o q = refl
    key_none true (Some k) q = absurd cc

    named : (i : ℕ) → own_names (row_of T h) (put v.desks h new h) i ≡ true → IsReached v h i
    named i q = elim (either (j == i)) [
      | inl y ↦ subst (λ (z : ℕ). IsReached v h z) (eq_is j i y) reached
      | inr y ↦ inv.named h i lt (ap (λ (o : Own). o.desk.lender) ov ∙ free) ((λ z. (v.all.cwd h == i) || (hold_names (v.all.holds h) i || (key_names (key_in (row_of v.all h).keys (opening_v z)) i || is_at (v.desks h).left i)))
          ∙ sym ((λ z. (v.all.cwd h == i) || (hold_names (v.all.holds h) i || (key_names (keyed z) i || is_at (v.desks h).left i))) ∙ (λ z. (v.all.cwd h == i) || (hold_names (v.all.holds h) i || (y z || is_at (v.desks h).left i))))
          ∙ (λ z. own_names (row_of T h) (sym here z) i) ∙ q)
    ]
