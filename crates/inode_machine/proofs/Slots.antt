-- A slot of the open-file table is taken in hand, and given back.
use Rattle.image_versions.specs.declared.version.Version.{Version}
use Rattle.inode_machine.proofs.Vocabulary.{◌≡◌, ◌≢◌, ◌⊎◌, inl, inr, ℕ, ◌+◌, ◌<◌, Bool, true, false, ◌==◌, not, List, Option, Some, None, refl, sym, ◌∙◌, ap, subst, arith, Do, ExecResult, P, own, onto, Good, Fine, Safe, Wp, OpenFile, hart_count, descriptor_count, put, any_below, has_room, row_of, sum_below, one_if, and_true, any_none, eq_self, same_or, put_same, put_other, sum_same, Step, Desk, Mark, World, Slot, Install, Mends, InodeType, file_count, first_from, install_if, is_at, is_empty_slot, is_nothing, slot_if, marked, mended, places, with_mark, id_at, own_names, own_of, file_tables_of, users, Own, Inv, IsTied, machine}
use Rattle.inode_machine.proofs.Basics.{bond_of, put_elim, stands_on, Fair, fair, refers_on, s-owned, fine_after, quiet, with_new, spoilt, Mending, FirstOf, first_is}

pub nothing_is : {A : Type 0} (o : Option A) → is_nothing o ≡ true → o ≡ None
nothing_is None e = refl
nothing_is (Some x) e = absurd cc

not_false : (b : Bool) → not b ≡ true → b ≡ false
not_false true e = absurd cc
not_false false e = refl

-- What the hart has in hand changes. o: a slot without an open file that no other hart has, or none.
record Handing (h : ℕ) (o : Option ℕ) (v : World) (O : Own) : Type 0 where
  pub fair : Fair h v (with_new v h (record (v.desks h) { hand = o }) v.clean)
  pub owned : own_of h (with_new v h (record (v.desks h) { hand = o }) v.clean) ≡ record O { desk = record (O.desk) { hand = o } }

handing : Version → (h : ℕ) (o : Option ℕ) (v : World) (O : Own) → own_of h v ≡ O → O.desk.lender ≡ None → h < hart_count → Inv v
    → ((s : ℕ) → o ≡ Some s → (s < file_count) × (v.files s ≡ None) × ((g : ℕ) → g < hart_count → g ≢ h → (v.desks g).hand ≢ Some s)) → Handing h o v O
handing version h o v O ov free lt inv empty = record {
  fair = fair inv (record {
    hart = lt;
    inodes = λ j. inl (record { lock = refl; keeper = refl; disk = refl; node = refl; alone = refl });
    mine = λ g ne. refl;
    rows = λ g ne. refl;
    size = refl;
    ids = inv.ids;
    file_tables = record { tied = tied; desks = λ g ne. put_other v.desks h new g ne; numbers = λ g i j e lg ne li r a. (e, a, refl, inl refl); clean = λ c. c; bond = ap (λ (d : Desk). bond_of d) here; stays = inl (ap (λ (d : Desk). d.directory) here) };
    free = ap (λ (d : Desk). d.lender) here ∙ ap (λ (p : Own). p.desk.lender) ov ∙ free;
    raised = λ q. ap (λ (d : Desk). d.joined) here ∙ inv.raised h lt q;
    quiet = λ j is f. inv.quiet j h is (sym (ap (λ (d : Desk). d.joined) here) ∙ f);
    inode_type = λ j. inl refl;
    inode_types = inv.inode_types;
    noted = λ m q r s. inv.noted h m lt (sym (ap (λ (d : Desk). d.noted) here) ∙ q) r s;
    directory = stands_on (v.desks h) (D h) (v.all.cwd h) v.all.nodes (ap (λ (o : Own). o.desk.lender) ov ∙ free) (ap (λ (d : Desk). d.directory) here) (ap (λ (d : Desk). d.left) here) (inv.directory h lt);
    refers = refers_on (v.harts h) (v.harts h) (v.desks h) (D h) (λ j. refl) (ap (λ (d : Desk). d.directory) here) (inv.refers h lt);
    well = inv.well;
    counts = inv.counts;
    alone = inv.alone;
    kept = λ j is. elim (inv.kept j h is).1 [ inl x ↦ inl (record { fd = x.fd; below = x.below; slot = x.slot; is = fds_is h x.fd ∙ x.is; entry = x.entry; at = x.at; number = x.number }) | inr p ↦ inr p ];
    held = λ j is. inv.held j h is;
    named = λ j is. inv.named h j lt (ap (λ (o : Own). o.desk.lender) ov ∙ free) ((λ z. own_names (row_of v.all h) (sym here z) j) ∙ is);
    pending = λ j is. inv.pending h j lt is;
    walks = λ x is. inv.walks h x lt is;
  });
  owned = λ z. record {
    inodes = ap (λ (p : Own). p.inodes) ov z;
    mine = ap (λ (p : Own). p.mine) ov z;
    row = ap (λ (p : Own). p.row) ov z;
    ninodes = ap (λ (p : Own). p.ninodes) ov z;
    desk = (here ∙ ap (λ (p : Own). record (p.desk) { hand = o }) ov) z;
  };
}
  where
    new : Desk
    new = record (v.desks h) { hand = o }

    D : ℕ → Desk
    D = put v.desks h new

    here : D h ≡ new
    here = put_same v.desks h new

    fds_is : (g i : ℕ) → (D g).fds i ≡ (v.desks g).fds i
    fds_is g i = put_elim v.desks h new g (λ d. d.fds i ≡ (v.desks g).fds i) (λ e. ap (λ (z : ℕ). (v.desks z).fds i) (sym e)) (λ ne. refl)

    lent_is : (g i : ℕ) → (D g).lent i ≡ (v.desks g).lent i
    lent_is g i = put_elim v.desks h new g (λ d. d.lent i ≡ (v.desks g).lent i) (λ e. ap (λ (z : ℕ). (v.desks z).lent i) (sym e)) (λ ne. refl)

    opening_is : (g : ℕ) → (D g).opening ≡ (v.desks g).opening
    opening_is g = put_elim v.desks h new g (λ d. d.opening ≡ (v.desks g).opening) (λ e. ap (λ (z : ℕ). (v.desks z).opening) (sym e)) (λ ne. refl)

    full_is : (g : ℕ) → (D g).full ≡ (v.desks g).full
    full_is g = put_elim v.desks h new g (λ d. d.full ≡ (v.desks g).full) (λ e. ap (λ (z : ℕ). (v.desks z).full) (sym e)) (λ ne. refl)

    users_is : (j : ℕ) → users D j ≡ users v.desks j
    users_is j = sum_same hart_count _ _ (λ g lg. λ z. sum_below descriptor_count (λ i. one_if (is_at (fds_is g i z) j)) + sum_below descriptor_count (λ i. one_if (is_at (lent_is g i z) j)))

    -- a hand is the new one, or was there
    hand_or : (g j : ℕ) → (D g).hand ≡ Some j → ((g ≡ h) × (o ≡ Some j)) ⊎ ((g ≢ h) × ((v.desks g).hand ≡ Some j))
    hand_or g j e = elim (same_or g h) [
      | inl r ↦ inl (r, sym (ap (λ (d : Desk). d.hand) here) ∙ ap (λ (z : ℕ). (D z).hand) (sym r) ∙ e)
      | inr ne ↦ inr (ne, ap (λ (d : Desk). d.hand) (sym (put_other v.desks h new g ne)) ∙ e)
    ]

    hands : (g i j : ℕ) → g < hart_count → i < hart_count → ((g ≡ h) × (o ≡ Some j)) ⊎ ((g ≢ h) × ((v.desks g).hand ≡ Some j)) → ((i ≡ h) × (o ≡ Some j)) ⊎ ((i ≢ h) × ((v.desks i).hand ≡ Some j)) → g ≡ i
    hands g i j lg li (inl a) (inl b) = a.0 ∙ sym b.0
    hands g i j lg li (inl a) (inr b) = absurd ((empty j a.1).2 i li b.0 b.1)
    hands g i j lg li (inr a) (inl b) = absurd ((empty j b.1).2 g lg a.0 a.1)
    hands g i j lg li (inr a) (inr b) = inv.tied.hands g i j lg li a.1 b.1

    tied : IsTied (file_tables_of (with_new v h new v.clean))
    tied = record {
      fds = λ g i lg li q. inv.tied.fds g i lg li (ap (λ (z : Option ℕ). is_at z i) (sym (opening_is g)) ∙ q) ∙ ap (λ (z : Option ℕ). id_at v.ids z) (sym (fds_is g i));
      fresh = λ g i lg q. let f = inv.tied.fresh g i lg (sym (opening_is g) ∙ q) in record { below = f.below; free = fds_is g i ∙ f.free; id = f.id; is = f.is; file = f.file; at = f.at; offset = f.offset; only = f.only };
      used = λ g i j lg li e. inv.tied.used g i j lg li (sym (fds_is g i) ∙ e);
      lends = λ g i j lg li e. fds_is g i ∙ inv.tied.lends g i j lg li (sym (lent_is g i) ∙ e);
      hand = λ g j lg e. elim (hand_or g j e) [ inl a ↦ ((empty j a.1).0, (empty j a.1).1) | inr a ↦ inv.tied.hand g j lg a.1 ];
      hands = λ g i j lg li e r. hands g i j lg li (hand_or g j e) (hand_or i j r);
      within = inv.tied.within;
      files = inv.tied.files;
      apart = inv.tied.apart;
      counted = λ j e r. let a = inv.tied.counted j e r in (a.0 ∙ sym (users_is j), a.1);
      slots = inv.tied.slots;
      spoiled = λ g e. inv.tied.spoiled g (sym (full_is g) ∙ e);
    }

-- A slot is taken, or there is none. M: what the hart has once its step is taken back.
pub s-slot : (version : Version) {A : Type 0} {h : ℕ} {m : Bool → Option Mark} {k : Bool → P (machine version) A} {B : List Step → Type 0} {Q : A → List Step → World → Type 0} {n : ℕ} {es : List Step} {w : World} {O : Own} (M : Own)
    → own_of h w ≡ O → O.desk.lender ≡ None → h < hart_count → 0 < n → O.desk.hand ≡ None → m true ≡ None → m false ≡ Some Mends
    → ((v : World) → Inv v → own_of h v ≡ O → Mending h v (mended h v) M) → ((l : ℕ) (u : World) → l + 1 ≡ n → own_of h u ≡ M → Safe (machine version) h B Q (k false) l es u)
    → ((l s : ℕ) (u : World) → l + 1 ≡ n → own_of h u ≡ record O { desk = record (O.desk) { hand = Some s } } → Safe (machine version) h B Q (k true) l es u)
    → Safe (machine version) h B Q (Do Slot m k) n es w
s-slot version {A} {h} {m} {k} {B} {Q} {n} {es} {w} {O} M owns free lt pos none unmarked mark mends full rest = s-owned version owns free pos (λ v inv ov. (ap (λ (o : Own). o.desk.hand) ov ∙ none, (λ _ _. at v inv ov (first_from file_count 0 (is_empty_slot v)) refl)))
  where
    at : (v : World) → Inv v → own_of h v ≡ O → (r : Option ℕ) → first_from file_count 0 (is_empty_slot v) ≡ r
        → Good (machine version) Bool h (λ a. places version h Slot a (m a) v) 0 n B es v ⊥ (with_mark version h m (slot_if h v r)) (λ l a u. Wp (machine version) h B Q (k a) l (onto (own h (places version h Slot a (m a) v)) es) u)
    at v inv ov None q =
        let x = mends v inv ov in
        subst (λ (z : Option Mark). Fine (machine version) h (places version h Slot false z v) 0 n B es v (marked version h z v) (λ l. Wp (machine version) h B Q (k false) l (onto (own h (places version h Slot false z v)) es) (marked version h z v))) (sym mark)
        (spoilt version x.fair x.bad pos (λ l r. (full l (mended h v) r x.owned).wp))
    at v inv ov (Some s) q =
        let x = handing version h (Some s) v O ov free lt inv (λ j e. let c : s ≡ j = cc in subst (λ (z : ℕ). (z < file_count) × (v.files z ≡ None) × ((g : ℕ) → g < hart_count → g ≢ h → (v.desks g).hand ≢ Some z)) c (below, nothing_is (v.files s) two.0, λ g lg ne. nobody g lg)) in
        subst (λ (z : Option Mark). Fine (machine version) h (places version h Slot true z v) 0 n B es v (marked version h z (with_new v h (record (v.desks h) { hand = Some s }) v.clean)) (λ l. Wp (machine version) h B Q (k true) l (onto (own h (places version h Slot true z v)) es) (marked version h z (with_new v h (record (v.desks h) { hand = Some s }) v.clean)))) (sym unmarked)
        (quiet version x.fair refl pos (λ l r. (rest l s (with_new v h (record (v.desks h) { hand = Some s }) v.clean) r x.owned).wp))
      where
        f : FirstOf s 0 file_count (is_empty_slot v)
        f = first_is file_count 0 (is_empty_slot v) s q

        two : (is_nothing (v.files s) ≡ true) × (not (any_below hart_count (λ g. is_at (v.desks g).hand s)) ≡ true)
        two = and_true (is_nothing (v.files s)) (not (any_below hart_count (λ g. is_at (v.desks g).hand s))) f.is

        below : s < file_count
        below = let b = f.below in omega (arith, b)

        nobody : (g : ℕ) → g < hart_count → (v.desks g).hand ≢ Some s
        nobody g lg e = let a = any_none hart_count (λ g. is_at (v.desks g).hand s) (not_false (any_below hart_count (λ g. is_at (v.desks g).hand s)) two.1) g lg in let b : is_at (v.desks g).hand s ≡ true = ap (λ (z : Option ℕ). is_at z s) e ∙ eq_self s in absurd (cc (a, b))

-- No descriptor is free: the slot is given back.
pub s-install-full : (version : Version) {A : Type 0} {h : ℕ} (s : ℕ) (f : OpenFile) (inode_type : InodeType) {m : Option ℕ → Option Mark} {k : Option ℕ → P (machine version) A} {B : List Step → Type 0} {Q : A → List Step → World → Type 0} {n : ℕ} {es : List Step} {w : World} {O : Own} (M : Own)
    → own_of h w ≡ O → O.desk.lender ≡ None → h < hart_count → 0 < n → O.desk.hand ≡ Some s → has_room O.desk.fds ≡ false → f.offset ≡ 0 → one_if (O.desk.directory == f.number) < O.mine.refs f.number → m None ≡ Some Mends
    → ((v : World) → Inv v → own_of h v ≡ record O { desk = record (O.desk) { hand = None } } → Mending h v (mended h v) M)
    → ((l : ℕ) (u : World) → l + 1 ≡ n → own_of h u ≡ M → Safe (machine version) h B Q (k None) l es u)
    → Safe (machine version) h B Q (Do (Install f inode_type) m k) n es w
s-install-full version {A} {h} s f inode_type {m} {k} {B} {Q} {n} {es} {w} {O} M owns free lt pos hand room start spare mark mends rest = s-owned version owns free pos (λ v inv ov.
    let a : (v.desks h).hand ≡ Some s = ap (λ (o : Own). o.desk.hand) ov ∙ hand in
    let b : has_room (v.desks h).fds ≡ false = ap (λ (o : Own). has_room o.desk.fds) ov ∙ room in (
      ((λ q. cc (a, q)), start, subst (λ (o : Own). one_if (o.desk.directory == f.number) < o.mine.refs f.number) (sym ov) spare),
      (λ _ _. subst (λ (z : ExecResult (Option ℕ) World). Good (machine version) (Option ℕ) h (λ a. places version h (Install f inode_type) a (m a) v) 0 n B es v ⊥ (with_mark version h m z) (λ l a u. Wp (machine version) h B Q (k a) l (onto (own h (places version h (Install f inode_type) a (m a) v)) es) u))
          (sym (λ i. install_if h v f inode_type (a i) (b i))) (good v inv ov)),
    ))
  where
    good : (v : World) → Inv v → own_of h v ≡ O
        → Fine (machine version) h (places version h (Install f inode_type) None (m None) v) 0 n B es v (marked version h (m None) (with_new v h (record (v.desks h) { hand = None }) v.clean)) (λ l. Wp (machine version) h B Q (k None) l (onto (own h (places version h (Install f inode_type) None (m None) v)) es) (marked version h (m None) (with_new v h (record (v.desks h) { hand = None }) v.clean)))
    good v inv ov =
        let x = handing version h None v O ov free lt inv (λ j e. absurd cc) in
        let y = mends (with_new v h (record (v.desks h) { hand = None }) v.clean) x.fair.inv x.owned in
        subst (λ (z : Option Mark). Fine (machine version) h (places version h (Install f inode_type) None z v) 0 n B es v (marked version h z (with_new v h (record (v.desks h) { hand = None }) v.clean)) (λ l. Wp (machine version) h B Q (k None) l (onto (own h (places version h (Install f inode_type) None z v)) es) (marked version h z (with_new v h (record (v.desks h) { hand = None }) v.clean)))) (sym mark)
        (fine_after version x.fair refl (spoilt version y.fair y.bad pos (λ l r. (rest l (mended h (with_new v h (record (v.desks h) { hand = None }) v.clean)) r y.owned).wp)))
