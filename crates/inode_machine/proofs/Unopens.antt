-- An open finds no room after its step: its descriptor is taken back from the tree.
use Rattle.inode_machine.proofs.Vocabulary.{◌≡◌, ◌≢◌, inl, inr, ℕ, ◌+◌, ◌<◌, Bool, true, false, ◌==◌, ◌&&◌, ◌||◌, nat_lt, Option, Some, None, refl, sym, ◌∙◌, ap, subst, arith, if◌then◌else◌, OpenFile, hart_count, descriptor_count, Tree, put, hold_names, closed, key_at, key_names, key_of, row_of, sum_below, one_if, eq_not, same_or, put_same, put_other, sum_same, well_closed, Desk, World, is_at, with_walk, mended, unheld, unmoved, unopened, id_at, key_in, own_names, own_of, file_tables_of, users, IsOpening, Own, Inv, FileTables, IsTied}
use Rattle.inode_machine.proofs.Basics.{bond_of, put_elim, is_put, stands_on, Fair, fair, fair_then, refers_on, my_refs, walk_named_did, own_walk, closed_file_tables, kept_open, tied_closed, KeepsHold, unheld_is, Mending, unopened_row}
use Rattle.inode_machine.proofs.Tables.{less_is}
use Rattle.inode_machine.proofs.Closes.{fewer, left_open, without_fd, fewer_same, fewer_gone, rows_stay, closed_or}

pub key_more : (a b c d : Bool) → (a || (b || (false || d))) ≡ true → (a || (b || (c || d))) ≡ true
key_more true b c d e = refl
key_more false true c d e = refl
key_more false false true d e = refl
key_more false false false d e = e

-- the hart's row without the descriptor
row_less : (t : Tree) (h fd : ℕ) → row_of (without_fd t h fd) h ≡ unopened_row (row_of t h) fd
row_less t h fd = λ z. record { cwd = t.cwd h; hold = t.holds h; fds = put_same t.fds h (put (t.fds h) fd None) z; keys = is_put (row_of t h).keys (row_of (without_fd t h fd) h).keys fd None gone there z }
  where
    none_at : (b : Bool) (o : Option ℕ) → o ≡ None → (if b then key_at (left_open t h fd) o else None) ≡ None
    none_at true None q = refl
    none_at false o q = refl
    none_at true (Some k) q = absurd cc

    gone : (row_of (without_fd t h fd) h).keys fd ≡ None
    gone = none_at (nat_lt h hart_count && nat_lt fd descriptor_count) (fewer t h fd h fd) (fewer_gone t h fd)

    old : (i : ℕ) → i ≢ fd → h < hart_count → i < descriptor_count → (o : Option ℕ) → t.fds h i ≡ o → key_at (left_open t h fd) o ≡ key_at t.files o
    old i ne lh li None q = refl
    old i ne lh li (Some id) q = ap (λ (z : Option OpenFile). key_of z) (kept_open (record t { fds = fewer t h fd }) h i id lh li (fewer_same t h fd h i (inr ne) ∙ q))

    there : (i : ℕ) → i ≢ fd → (row_of (without_fd t h fd) h).keys i ≡ (row_of t h).keys i
    there i ne = at (nat_lt h hart_count) (nat_lt i descriptor_count) refl refl
      where
        at : (a b : Bool) → nat_lt h hart_count ≡ a → nat_lt i descriptor_count ≡ b → (if a && b then key_at (left_open t h fd) (fewer t h fd h i) else None) ≡ (if a && b then key_at t.files (t.fds h i) else None)
        at true true p q = ap (λ (z : Option ℕ). key_at (left_open t h fd) z) (fewer_same t h fd h i (inr ne)) ∙ old i ne (less_is h hart_count p) (less_is i descriptor_count q) (t.fds h i) refl
        at true false p q = refl
        at false true p q = refl
        at false false p q = refl

pub mends_opened : (h fd : ℕ) (v : World) (O : Own) → own_of h v ≡ O → O.desk.lender ≡ None → h < hart_count → Inv v → O.desk.opening ≡ Some fd → O.desk.left ≡ None → KeepsHold O.row.hold → ((i : ℕ) → own_names O.row (record (O.desk) { opening = None }) i ≡ true → 0 < O.mine.refs i)
    → Mending h v (mended h v) (record O { row = unopened_row O.row fd; desk = record (O.desk) { opening = None; left = None; full = true }; mine = record { refs = O.mine.refs; walk = None; pending = None } })
mends_opened h fd v O ov free lt inv opens left hold names = subst (λ (z : World). Mending h v z (record O1 { mine = record { refs = O.mine.refs; walk = None; pending = None } })) (sym is) (record {
  fair = fair_then back (fair back.inv (walk_named_did h None None u1 (ap (λ (o : Own). o.desk.lender) ov1 ∙ free) lt back.inv named (λ m q e. absurd cc) (λ z q. absurd cc) (λ i q. absurd cc)));
  bad = refl;
  owned = own_walk h None None u1 O1 ov1;
})
  where
    u1 : World
    u1 = record v { clean = false; desks = put v.desks h (record (v.desks h) { opening = None; left = None; full = true }); all = without_fd v.all h fd }

    O1 : Own
    O1 = record O { row = unopened_row O.row fd; desk = record (O.desk) { opening = None; left = None; full = true } }

    opened : (v.desks h).opening ≡ Some fd
    opened = ap (λ (o : Own). o.desk.opening) ov ∙ opens

    left_v : (v.desks h).left ≡ None
    left_v = ap (λ (o : Own). o.desk.left) ov ∙ left

    o : IsOpening (file_tables_of v) h fd
    o = inv.tied.fresh h fd lt opened

    new : Desk
    new = record (v.desks h) { opening = None; left = None; full = true }

    D : ℕ → Desk
    D = put v.desks h new

    X : ℕ → ℕ → Option ℕ
    X = fewer v.all h fd

    fds_is : (g i : ℕ) → (D g).fds i ≡ (v.desks g).fds i
    fds_is g i = put_elim v.desks h new g (λ d. d.fds i ≡ (v.desks g).fds i) (λ e. ap (λ (z : ℕ). (v.desks z).fds i) (sym e)) (λ ne. refl)

    hand_is : (g : ℕ) → (D g).hand ≡ (v.desks g).hand
    hand_is g = put_elim v.desks h new g (λ d. d.hand ≡ (v.desks g).hand) (λ e. ap (λ (z : ℕ). (v.desks z).hand) (sym e)) (λ ne. refl)

    lent_is : (g i : ℕ) → (D g).lent i ≡ (v.desks g).lent i
    lent_is g i = put_elim v.desks h new g (λ d. d.lent i ≡ (v.desks g).lent i) (λ e. ap (λ (z : ℕ). (v.desks z).lent i) (sym e)) (λ ne. refl)

    users_is : (j : ℕ) → users D j ≡ users v.desks j
    users_is j = sum_same hart_count _ _ (λ g lg. λ z. sum_below descriptor_count (λ i. one_if (is_at (fds_is g i z) j)) + sum_below descriptor_count (λ i. one_if (is_at (lent_is g i z) j)))

    file_tables : FileTables
    file_tables = record { files = v.files; desks = D; ids = v.ids; slots = v.slots; clean = false; tree_fds = X; tree_files = v.all.files }

    mine : (i : ℕ) → i < descriptor_count → X h i ≡ id_at v.ids ((v.desks h).fds i)
    mine i li = elim (same_or i fd) [
      | inl r ↦ ap (X h) r ∙ fewer_gone v.all h fd ∙ sym (ap (λ (z : Option ℕ). id_at v.ids z) (ap (v.desks h).fds r ∙ o.free))
      | inr ne ↦ fewer_same v.all h fd h i (inr ne) ∙ inv.tied.fds h i lt li (ap (λ (z : Option ℕ). is_at z i) opened ∙ eq_not fd i (λ z. ne (sym z)))
    ]

    still : (j l id : ℕ) → X j l ≡ Some id → v.all.fds j l ≡ Some id
    still j l id q = elim (same_or j h) [
      | inr ne ↦ sym (fewer_same v.all h fd j l (inl ne)) ∙ q
      | inl r ↦ elim (same_or l fd) [
        | inr ne ↦ sym (fewer_same v.all h fd j l (inr ne)) ∙ q
        | inl t ↦ absurd (let a : X j l ≡ None = (λ z. X (r z) (t z)) ∙ fewer_gone v.all h fd in cc (a, q))
      ]
    ]

    before : IsTied file_tables
    before = record {
      fds = λ g i lg li q. elim (same_or g h) [
        | inl r ↦ subst (λ (z : ℕ). X z i ≡ id_at v.ids ((D z).fds i)) (sym r) (mine i li ∙ ap (λ (z : Option ℕ). id_at v.ids z) (sym (fds_is h i)))
        | inr ne ↦ fewer_same v.all h fd g i (inl ne) ∙ inv.tied.fds g i lg li (ap (λ (d : Desk). is_at d.opening i) (sym (put_other v.desks h new g ne)) ∙ q) ∙ ap (λ (z : Option ℕ). id_at v.ids z) (sym (fds_is g i))
      ];
      fresh = λ g i lg q. elim (same_or g h) [
        | inl r ↦ absurd (let a : (D g).opening ≡ None = ap (λ (z : ℕ). (D z).opening) r ∙ ap (λ (d : Desk). d.opening) (put_same v.desks h new) in cc (a, q))
        | inr ne ↦ let f = inv.tied.fresh g i lg (ap (λ (d : Desk). d.opening) (sym (put_other v.desks h new g ne)) ∙ q) in record { below = f.below; free = fds_is g i ∙ f.free; id = f.id; is = fewer_same v.all h fd g i (inl ne) ∙ f.is; file = f.file; at = f.at; offset = f.offset; only = λ j l lj ll p. f.only j l lj ll (still j l f.id p) }
      ];
      used = λ g i j lg li e. inv.tied.used g i j lg li (sym (fds_is g i) ∙ e);
      lends = λ g i j lg li e. fds_is g i ∙ inv.tied.lends g i j lg li (sym (lent_is g i) ∙ e);
      hand = λ g j lg e. inv.tied.hand g j lg (sym (hand_is g) ∙ e);
      hands = λ g i j lg li e r. inv.tied.hands g i j lg li (sym (hand_is g) ∙ e) (sym (hand_is i) ∙ r);
      within = inv.tied.within;
      files = inv.tied.files;
      apart = inv.tied.apart;
      counted = λ j e r. let a = inv.tied.counted j e r in (a.0 ∙ sym (users_is j), a.1);
      slots = inv.tied.slots;
      spoiled = λ g e. refl;
    }

    tied : IsTied (closed_file_tables file_tables (closed (record (v.all) { fds = X })).files)
    tied = tied_closed file_tables (record (v.all) { fds = X }) before refl refl

    here : D h ≡ new
    here = put_same v.desks h new

    -- what it names now it named before
    fewer_names : (i : ℕ) → own_names (row_of (without_fd v.all h fd) h) (D h) i ≡ true → own_names (row_of v.all h) (v.desks h) i ≡ true
    fewer_names i q = key_more (v.all.cwd h == i) (hold_names (v.all.holds h) i) (key_names (key_in (row_of v.all h).keys (v.desks h).opening) i) (is_at (v.desks h).left i)
        ((λ z. (v.all.cwd h == i) || (hold_names (v.all.holds h) i || (false || is_at (left_v z) i))) ∙ (λ z. own_names (row_of (without_fd v.all h fd) h) (sym here z) i) ∙ q)

    back : Fair h v u1
    back = fair inv (record {
      hart = lt;
      inodes = λ j. inl (record { lock = refl; keeper = refl; disk = refl; node = refl; alone = refl });
      mine = λ g ne. refl;
      rows = λ g ne. rows_stay v.all h fd g ne;
      size = refl;
      ids = λ k le. elim (closed_or (record (v.all) { fds = fewer v.all h fd }) k) [ inl q ↦ q ∙ inv.ids k le | inr q ↦ q ];
      file_tables = record { tied = tied; desks = λ g ne. put_other v.desks h new g ne; numbers = λ g i k e lg ne li q a. (e, a, refl, inl refl); clean = λ c. absurd cc; bond = ap (λ (d : Desk). bond_of d) here; stays = inl (ap (λ (d : Desk). d.directory) here) };
      free = ap (λ (d : Desk). d.lender) here ∙ ap (λ (o : Own). o.desk.lender) ov ∙ free;
      raised = λ q. ap (λ (d : Desk). d.joined) here ∙ inv.raised h lt q;
      quiet = λ j is2 f. inv.quiet j h is2 (sym (ap (λ (d : Desk). d.joined) here) ∙ f);
      inode_type = λ j. inl refl;
      inode_types = inv.inode_types;
      noted = λ m q r s. inv.noted h m lt (sym (ap (λ (d : Desk). d.noted) here) ∙ q) r s;
      directory = stands_on (v.desks h) (D h) (v.all.cwd h) v.all.nodes (ap (λ (o : Own). o.desk.lender) ov ∙ free) (ap (λ (d : Desk). d.directory) here) (ap (λ (d : Desk). d.left) here ∙ sym left_v) (inv.directory h lt);
      refers = refers_on (v.harts h) (v.harts h) (v.desks h) (D h) (λ j. refl) (ap (λ (d : Desk). d.directory) here) (inv.refers h lt);
      well = well_closed v.all h fd inv.well;
      counts = inv.counts;
      alone = inv.alone;
      kept = λ j is2. elim (inv.kept j h is2).1 [ inl x ↦ inl (record { fd = x.fd; below = x.below; slot = x.slot; is = fds_is h x.fd ∙ x.is; entry = x.entry; at = x.at; number = x.number }) | inr p ↦ inr p ];
      held = λ j is2. inv.held j h is2;
      named = λ j is2. inv.named h j lt (ap (λ (o : Own). o.desk.lender) ov ∙ free) (fewer_names j is2);
      pending = λ j is2. inv.pending h j lt is2;
      walks = λ x is2. inv.walks h x lt is2;
    })

    ov1 : own_of h u1 ≡ O1
    ov1 = λ z. record {
      inodes = ap (λ (o : Own). o.inodes) ov z;
      mine = ap (λ (o : Own). o.mine) ov z;
      row = (row_less v.all h fd ∙ ap (λ (o : Own). unopened_row o.row fd) ov) z;
      ninodes = ap (λ (o : Own). o.ninodes) ov z;
      desk = (here ∙ ap (λ (o : Own). record (o.desk) { opening = None; left = None; full = true }) ov) z;
    }

    named : (i : ℕ) → own_names (row_of u1.all h) (u1.desks h) i ≡ true → 0 < (v.harts h).refs i
    named i q =
        let r = my_refs h v O i ov in
        let a = names i ((λ z. (ap (λ (o : Own). o.row.cwd) (sym ov) z == i) || (hold_names (ap (λ (o : Own). o.row.hold) (sym ov) z) i || (false || is_at (left z) i))) ∙ (λ z. own_names (row_of (without_fd v.all h fd) h) (sym here z) i) ∙ q) in
        omega (arith, r, a)

    is : mended h v ≡ record u1 { harts = with_walk v.harts h None None }
    is = λ z. record u1 { harts = with_walk v.harts h None None; all = tree z }
      where
        tree : unheld (unmoved (unopened v.all h (v.desks h).opening) h (v.desks h).left) h (v.all.holds h) ≡ without_fd v.all h fd
        tree = (λ z. unheld (unmoved (unopened v.all h (opened z)) h (left_v z)) h (v.all.holds h)) ∙ unheld_is (without_fd v.all h fd) h (v.all.holds h) (subst KeepsHold (sym (ap (λ (o : Own). o.row.hold) ov)) hold)
