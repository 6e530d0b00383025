-- A new inode: claimed, and its count and its entries stored; and what a call takes back if it finds no room.
use Rattle.image_versions.specs.declared.version.Version.{Version}
use Rattle.inode_machine.proofs.Vocabulary.{◌≡◌, ◌≢◌, ◌⊎◌, inl, inr, ℕ, ◌+◌, ◌<◌, ◌≤◌, Bool, true, false, ◌==◌, nat_lt, List, [], Option, Some, None, refl, sym, ◌∙◌, ap, subst, arith, if◌then◌else◌, Do, Ran, unmarked, P, own, onto, Good, Fine, Safe, Wp, Node, Directory, count_limit, hart_count, put, settle, node_or, sum_below, eq_is, same_or, put_same, put_other, and_true, Walk, Step, Mine, World, ClaimResult, New, NoInode, NoPlace, Outside, Room, RoomFor, Picks, Claim, Store, Fill, InodeType, is_nothing, blank, claimed, claim_if, is_free, place_count, referenced, with_count, with_dots, fill_if, with_mark, mended, places, Own, file_tables_of, own_names, Held, view, is_hart, own_of, IsReferredTo, Inv, machine, IsReached, HonestClaim, mends_if_full, mends_unless_new}
use Rattle.inode_machine.proofs.Frame.{file_tables_same, put_elim, ours_none, ours_some, kept_here, HartStep, Fair, fair, own_inodes, has_inode, found_more, one_refs, refers_put}
use Rattle.inode_machine.proofs.Rules.{opens_slots, s-owned, quiet, each_refs, here_refs, walks_refs, total_same, total_changed, my_refs, has_disk, locks_it, has_node}
use Rattle.inode_machine.proofs.Counting.{writes}
use Rattle.inode_machine.proofs.Rows.{unlive}
use Rattle.inode_machine.proofs.Looks.{spoilt, KeepsHold, mends}

-- A call finds no room, and the tree has nothing that the tables have not.

pub record Mendable (O : Own) : Type 0 where
  pub opening : O.desk.opening ≡ None
  pub left : O.desk.left ≡ None
  pub hold : KeepsHold O.row.hold
  pub names : (i : ℕ) → own_names O.row O.desk i ≡ true → 0 < O.mine.refs i

abbrev pub mended_own : Own → Own
mended_own O = record O { desk = record (O.desk) { opening = None; left = None; full = true }; mine = record { refs = O.mine.refs; walk = None; pending = None } }

pub mend_fine : (version : Version) {A : Type 0} (h more n : ℕ) (B : List Step → Type 0) (Q : A → List Step → World → Type 0) (es : List Step) (v : World) (O : Own) (p : P (machine version) A) → own_of h v ≡ O → O.desk.lender ≡ None → h < hart_count → Inv v → Mendable O → more < n
    → ((l : ℕ) (u : World) → l + (more + 1) ≡ n → own_of h u ≡ mended_own O → Safe (machine version) h B Q p l es u)
    → Fine (machine version) h [] more n B es v (mended h v) (λ l. Wp (machine version) h B Q p l es (mended h v))
mend_fine version h more n B Q es v O p ov free lt inv can pos rest =
    let m = mends h v O ov free lt inv can.opening can.left can.hold can.names in
    spoilt version m.fair m.bad pos (λ l q. (rest l (mended h v) q m.owned).wp)

-- A claim.

free_is : (w : World) (n : ℕ) → is_free w n ≡ true → (w.disk n ≡ None) × (w.refs n ≡ 0)
free_is w n e = let a = and_true (is_nothing (w.disk n)) (w.refs n == 0) e in (none (w.disk n) a.0, eq_is (w.refs n) 0 a.1)
  where
    none : (o : Option Node) → is_nothing o ≡ true → o ≡ None
    none None q = refl
    none (Some v) q = absurd cc

abbrev pub claimed_held : InodeType → Held
claimed_held inode_type = record { disk = Some (blank inode_type); node = None; alone = true; locked = false }

-- A number that nobody refers to is the hart's alone.
pub record Claiming (h i : ℕ) (inode_type : InodeType) (v : World) (O : Own) : Type 0 where
  pub fair : Fair h v (claimed h inode_type v i)
  pub stage : ◌≡◌ {A = ℕ → Option Walk} (λ g. ((claimed h inode_type v i).harts g).walk) (λ g. (v.harts g).walk)
  pub out : O.inodes i ≡ None
  pub zero : O.mine.refs i ≡ 0
  pub owned : own_of h (claimed h inode_type v i) ≡ record O { inodes = put O.inodes i (Some (claimed_held inode_type)); mine = record { refs = put O.mine.refs i (O.mine.refs i + 1); walk = O.mine.walk; pending = O.mine.pending } }

pub claiming : Version → (h i : ℕ) (inode_type : InodeType) (v : World) (O : Own) → own_of h v ≡ O → O.desk.lender ≡ None → h < hart_count → Inv v → O.desk.joined ≡ true → is_free v i ≡ true → Claiming h i inode_type v O
claiming version h i inode_type v O ov free lt inv joined is_free_i = record { fair = fair inv did; stage = walks_refs v.harts h i ((v.harts h).refs i + 1); out = out (O.inodes i) refl; zero = sym (my_refs h v O i ov) ∙ zero; owned = owned }
  where
    u : World
    u = claimed h inode_type v i

    none : v.disk i ≡ None
    none = (free_is v i is_free_i).0

    refs_none : v.refs i ≡ 0
    refs_none = (free_is v i is_free_i).1

    zero : (v.harts h).refs i ≡ 0
    zero = let o = one_refs v h i inv lt in let r = refs_none in omega (arith, o, r)

    nobody : v.keeper i ≡ None
    nobody = go (v.keeper i) refl
      where
        go : (o : Option ℕ) → v.keeper i ≡ o → o ≡ None
        go None q = refl
        go (Some g) q =
            let k = inv.kept i g q in
            let o = one_refs v g i inv k.0 in
            let r = refs_none in
            absurd (elim k.1 [ inl b ↦ (let a = opens_slots v g i inv b in omega (arith, o, r, a)) | inr a ↦ omega (arith, o, r, a) ])

    node_none : v.all.nodes i ≡ None
    node_none = sym (inv.whole i nobody) ∙ none

    unlocked : (g : ℕ) → v.lock i ≡ Some g → ⊥
    unlocked g q = let k = inv.keeps i g q in cc (k, nobody)

    new : Mine
    new = record { refs = put (v.harts h).refs i ((v.harts h).refs i + 1); walk = (v.harts h).walk; pending = (v.harts h).pending }

    grow : (j : ℕ) → 0 < (v.harts h).refs j → 0 < (u.harts h).refs j
    grow j a = elim (same_or j i) [
      | inl q ↦ absurd (let r : (v.harts h).refs j ≡ 0 = ap (v.harts h).refs q ∙ zero in omega (arith, r, a))
      | inr ne ↦ (let r = each_refs v.harts h i ((v.harts h).refs i + 1) h j (inr ne) in omega (arith, r, a))
    ]

    pin : (j : ℕ) → IsReferredTo v.desks v.files v.harts h j → IsReferredTo v.desks v.files u.harts h j
    pin j (inl a) = inl a
    pin j (inr a) = inr (grow j a)

    reach : (j : ℕ) → IsReached v h j → IsReached u h j
    reach j (inl a) = inl (grow j a)
    reach j (inr a) = inr (ap (λ (m : Mine). m.pending) (put_same v.harts h new) ∙ a)

    back : (j : ℕ) → j ≢ i → IsReached u h j → IsReached v h j
    back j ne (inl a) = inl (let r = each_refs v.harts h i ((v.harts h).refs i + 1) h j (inr ne) in omega (arith, r, a))
    back j ne (inr a) = inr (sym (ap (λ (m : Mine). m.pending) (put_same v.harts h new)) ∙ a)

    did : HartStep h v u
    did =
        record {
          hart = lt;
          inodes = λ j. elim (same_or j i) [
            | inl q ↦ inr (record {
              before = ours_none h (v.keeper j) (ap v.keeper q ∙ nobody);
              after = ours_some h (u.keeper j) (ap u.keeper q ∙ put_same v.keeper i (Some h));
              whole = λ f. absurd (let s : u.keeper j ≡ Some h = ap u.keeper q ∙ put_same v.keeper i (Some h) in cc);
              keeps = λ g is. absurd (unlocked g (ap v.lock (sym q) ∙ is));
            })
            | inr ne ↦ inl (record { lock = refl; keeper = put_other v.keeper i (Some h) j ne; disk = put_other v.disk i (Some (blank inode_type)) j ne; node = refl; alone = put_other v.alone i true j ne })
          ];
          mine = λ g ne. put_other v.harts h new g ne;
          rows = λ g ne. refl;
          size = refl;
          ids = inv.ids;
          file_tables = file_tables_same h (file_tables_of v) inv.tied;
          free = ap (λ (o : Own). o.desk.lender) ov ∙ free;
          raised = inv.raised h lt;
          quiet = λ j is f. absurd (let e : (v.desks h).joined ≡ true = ap (λ (o : Own). o.desk.joined) ov ∙ joined in cc (e, f));
          inode_type = λ j. inl refl;
          inode_types = inv.inode_types;
          noted = λ n is r s. elim (same_or n.number i) [
            | inl q ↦ absurd (let a : put v.alone i true n.number ≡ true = ap (put v.alone i true) q ∙ put_same v.alone i true in cc (a, s))
            | inr ne ↦ inv.noted h n lt is (back n.number ne r) (sym (put_other v.alone i true n.number ne) ∙ s)
          ];
          directory = inv.directory h lt;
          refers = refers_put (v.harts h) (u.harts h) (v.desks h) (v.desks h) i ((v.harts h).refs i + 1) (ap (λ (m : Mine). m.refs) (put_same v.harts h new)) refl (omega (arith, zero)) (λ q. omega arith) (inv.refers h lt);
          well = inv.well;
          counts = λ j. elim (same_or j i) [
            | inl q ↦ subst (λ (z : ℕ). u.refs z ≡ v.slots z + sum_below hart_count (λ g. (u.harts g).refs z)) (sym q)
                (let t = total_changed v.harts h i ((v.harts h).refs i + 1) lt in let c = inv.counts i in let p = put_same v.refs i (v.refs i + 1) in omega (arith, t, c, p))
            | inr ne ↦ put_other v.refs i (v.refs i + 1) j ne ∙ inv.counts j ∙ ap (λ (z : ℕ). v.slots j + z) (sym (total_same v.harts h i ((v.harts h).refs i + 1) j ne))
          ];
          alone = λ j is. elim (same_or j i) [
            | inl q ↦ record {
              hart = h;
              kept = ap u.keeper q ∙ put_same v.keeper i (Some h);
              dead = unlive (v.all.nodes j) (ap v.all.nodes q ∙ node_none);
              counts = subst (λ (z : ℕ). u.refs z ≡ (u.harts h).refs z) (sym q) (let p = put_same v.refs i (v.refs i + 1) in let r = here_refs v.harts h i ((v.harts h).refs i + 1) in let a = refs_none in let b = zero in omega (arith, p, r, a, b));
            }
            | inr ne ↦ let a = inv.alone j (sym (put_other v.alone i true j ne) ∙ is) in record {
              hart = a.hart;
              kept = put_other v.keeper i (Some h) j ne ∙ a.kept;
              dead = a.dead;
              counts = put_other v.refs i (v.refs i + 1) j ne ∙ a.counts ∙ sym (each_refs v.harts h i ((v.harts h).refs i + 1) a.hart j (inr ne));
            }
          ];
          kept = λ j is. elim (same_or j i) [
            | inl q ↦ inr (subst (λ (z : ℕ). 0 < (u.harts h).refs z) (sym q) (let r = here_refs v.harts h i ((v.harts h).refs i + 1) in omega (arith, r)))
            | inr ne ↦ pin j (inv.kept j h (sym (put_other v.keeper i (Some h) j ne) ∙ is)).1
          ];
          held = λ j is. elim (same_or j i) [
            | inl q ↦ inr (ap u.alone q ∙ put_same v.alone i true)
            | inr ne ↦ elim (inv.held j h (sym (put_other v.keeper i (Some h) j ne) ∙ is)) [ inl a ↦ inl a | inr a ↦ inr (put_other v.alone i true j ne ∙ a) ]
          ];
          named = λ j is. reach j (inv.named h j lt (ap (λ (o : Own). o.desk.lender) ov ∙ free) is);
          pending = λ j is. found_more h v u j (λ d q. (put_elim v.keeper i (Some h) d (λ z. z ≡ Some h) (λ y. refl) (λ y. q), refl)) (inv.pending h j lt (sym (ap (λ (m : Mine). m.pending) (put_same v.harts h new)) ∙ is));
          walks = λ x is. reach x.at (inv.walks h x lt (sym (ap (λ (m : Mine). m.walk) (put_same v.harts h new)) ∙ is));
        }

    out : (o : Option Held) → O.inodes i ≡ o → O.inodes i ≡ None
    out None q = q
    out (Some x) q = absurd (let a = (has_inode h i v O x ov q).0 in cc (a, nobody))

    not_locked : is_hart (v.lock i) h ≡ false
    not_locked = go (v.lock i) refl
      where
        go : (o : Option ℕ) → v.lock i ≡ o → is_hart o h ≡ false
        go None q = refl
        go (Some g) q = absurd (unlocked g q)

    owned : own_of h u ≡ record O { inodes = put O.inodes i (Some (claimed_held inode_type)); mine = record { refs = put O.mine.refs i (O.mine.refs i + 1); walk = O.mine.walk; pending = O.mine.pending } }
    owned = λ z. record {
      inodes = own_inodes h i v u O (Some (claimed_held inode_type)) ov
          (kept_here h (u.keeper i) (view u h i) (put_same v.keeper i (Some h)) ∙ (λ r. Some (record { disk = put_same v.disk i (Some (blank inode_type)) r; node = node_none r; alone = put_same v.alone i true r; locked = not_locked r })))
          (λ j ne. (put_other v.keeper i (Some h) j ne, (λ r. record { disk = put_other v.disk i (Some (blank inode_type)) j ne r; node = v.all.nodes j; alone = put_other v.alone i true j ne r; locked = is_hart (v.lock j) h }))) z;
      mine = (put_same v.harts h new ∙ ap (λ (o : Own). record { refs = put o.mine.refs i (o.mine.refs i + 1); walk = o.mine.walk; pending = o.mine.pending }) ov) z;
      row = ap (λ (o : Own). o.row) ov z;
      ninodes = ap (λ (o : Own). o.ninodes) ov z;
      desk = ap (λ (o : Own). o.desk) ov z;
    }

pub s-claim : (version : Version) {A : Type 0} {h : ℕ} (inode_type : InodeType) {k : ClaimResult → P (machine version) A} {B : List Step → Type 0} {Q : A → List Step → World → Type 0} {n : ℕ} {es : List Step} {w : World} {O : Own}
    → own_of h w ≡ O → O.desk.lender ≡ None → h < hart_count → 12300 < n → O.desk.joined ≡ true → Mendable O
    → ((l i : ℕ) (u : World) → l + 12301 ≡ n → 1 ≤ i → i < O.ninodes → O.inodes i ≡ None → O.mine.refs i ≡ 0
    → own_of h u ≡ record O { inodes = put O.inodes i (Some (claimed_held inode_type)); mine = record { refs = put O.mine.refs i (O.mine.refs i + 1); walk = O.mine.walk; pending = O.mine.pending } } → Safe (machine version) h B Q (k (New i)) l es u)
    → ((l : ℕ) (u : World) → l + 12301 ≡ n → own_of h u ≡ mended_own O → Safe (machine version) h B Q (k NoInode) l es u)
    → ((l : ℕ) (u : World) → l + 12301 ≡ n → own_of h u ≡ mended_own O → Safe (machine version) h B Q (k NoPlace) l es u)
    → Safe (machine version) h B Q (Do (Claim inode_type) mends_unless_new k) n es w
s-claim version {A} {h} inode_type {k} {B} {Q} {n} {es} {w} {O} owns free lt pos joined can then_ none full = s-owned version owns free pos (λ v inv ov. (ap (λ (o : Own). o.desk.joined) ov ∙ joined, (λ x honest. at v inv ov x honest)))
  where
    Goal : World → Outside → Type 0
    Goal v x = Good (machine version) ClaimResult h (λ a. places version h (Claim inode_type) a (mends_unless_new a) v) 12300 n B es v ⊥ (with_mark version h mends_unless_new (claim_if h inode_type v x)) (λ l a u. Wp (machine version) h B Q (k a) l (onto (own h (places version h (Claim inode_type) a (mends_unless_new a) v)) es) u)

    at : (v : World) → Inv v → own_of h v ≡ O → (x : Outside) → HonestClaim v x → Goal v x
    at v inv ov Room honest = mend_fine version h 12300 n B Q es v O (k NoInode) ov free lt inv can pos none
    at v inv ov (RoomFor j) honest = mend_fine version h 12300 n B Q es v O (k NoPlace) ov free lt inv can pos full
    at v inv ov (Picks i) honest = by_place (nat_lt (referenced v) place_count)
      where
        by_place : (b : Bool) → Good (machine version) ClaimResult h (λ a. places version h (Claim inode_type) a (mends_unless_new a) v) 12300 n B es v ⊥ (with_mark version h mends_unless_new (if b then Ran (New i) (claimed h inode_type v i) else Ran NoPlace v)) (λ l a u. Wp (machine version) h B Q (k a) l (onto (own h (places version h (Claim inode_type) a (mends_unless_new a) v)) es) u)
        by_place false = mend_fine version h 12300 n B Q es v O (k NoPlace) ov free lt inv can pos full
        by_place true =
            let c = claiming version h i inode_type v O ov free lt inv joined honest.2 in
            quiet version c.fair (λ z. record { tree = settle v.all; walk = c.stage z }) pos (λ l q. (then_ l i (claimed h inode_type v i) q honest.0 (let s = ap (λ (o : Own). o.ninodes) ov in let b = honest.1 in omega (arith, s, b)) c.out c.zero c.owned).wp)

-- A record of an inode that the hart has locked.

pub s-store : (version : Version) {A : Type 0} {h : ℕ} (i c : ℕ) {x : Held} (y : Node) {k : Unit {0} → P (machine version) A} {B : List Step → Type 0} {Q : A → List Step → World → Type 0} {n : ℕ} {es : List Step} {w : World} {O : Own}
    → own_of h w ≡ O → O.desk.lender ≡ None → h < hart_count → 2 < n → O.desk.joined ≡ true → O.inodes i ≡ Some x → x.locked ≡ true → x.disk ≡ Some y → ((c ≤ count_limit) ⊎ (c ≤ y.count))
    → ((l : ℕ) (u : World) → l + 3 ≡ n → own_of h u ≡ record O { inodes = put O.inodes i (Some (record x { disk = Some (with_count c y) })) } → Safe (machine version) h B Q (k tt) l es u)
    → Safe (machine version) h B Q (Do (Store i c) unmarked k) n es w
s-store version {A} {h} i c {x} y {k} {B} {Q} {n} {es} {w} {O} owns free lt pos joined isi has disk count rest = s-owned version owns free pos (λ v inv ov. (
  ((locks_it h i v O x ov isi has, ap (λ (o : Own). o.desk.joined) ov ∙ joined), record { node = y; is = has_disk h i v O x ov isi ∙ disk; fits = count }),
  (λ _ _.
      let wr = writes version h i (Some (with_count c y)) x O v free lt joined inv ov isi in
      subst (λ (z : Option Node). Fine (machine version) h [] 2 n B es v (record v { disk = put v.disk i (Some (with_count c (node_or z))) }) (λ l. Wp (machine version) h B Q (k tt) l es (record v { disk = put v.disk i (Some (with_count c (node_or z))) }))) (sym (has_disk h i v O x ov isi ∙ disk))
      (quiet version wr.fair refl pos (λ l q. (rest l (record v { disk = put v.disk i (Some (with_count c y)) }) q wr.owned).wp))),
))

pub s-fill : (version : Version) {A : Type 0} {h : ℕ} (i d : ℕ) {x : Held} (y : Node) {k : Bool → P (machine version) A} {B : List Step → Type 0} {Q : A → List Step → World → Type 0} {n : ℕ} {es : List Step} {w : World} {O : Own}
    → own_of h w ≡ O → O.desk.lender ≡ None → h < hart_count → 12 < n → O.desk.joined ≡ true → O.inodes i ≡ Some x → x.locked ≡ true → x.disk ≡ Some y → y.kind ≡ Directory [] → (z : Held) (Z : Node) → O.inodes d ≡ Some z → z.node ≡ Some Z → Mendable O
    → ((l : ℕ) (u : World) → l + 13 ≡ n → own_of h u ≡ record O { inodes = put O.inodes i (Some (record x { disk = Some (with_dots i d y) })) } → Safe (machine version) h B Q (k true) l es u)
    → ((l : ℕ) (u : World) → l + 13 ≡ n → own_of h u ≡ mended_own O → Safe (machine version) h B Q (k false) l es u)
    → Safe (machine version) h B Q (Do (Fill i d) mends_if_full k) n es w
s-fill version {A} {h} i d {x} y {k} {B} {Q} {n} {es} {w} {O} owns free lt pos joined isi has disk empty z Z isd node can rest full = s-owned version owns free pos (λ v inv ov. (
  ((locks_it h i v O x ov isi has, ap (λ (o : Own). o.desk.joined) ov ∙ joined), record { node = y; is = has_disk h i v O x ov isi ∙ disk; fits = empty }, inv.well.range d Z (has_node h d v O z ov isd ∙ node)),
  (λ o _. at v inv ov o),
))
  where
    at : (v : World) → Inv v → own_of h v ≡ O → (o : Outside) → Good (machine version) Bool h (λ a. places version h (Fill i d) a (mends_if_full a) v) 12 n B es v ⊥ (with_mark version h mends_if_full (fill_if i d v o)) (λ l a u. Wp (machine version) h B Q (k a) l (onto (own h (places version h (Fill i d) a (mends_if_full a) v)) es) u)
    at v inv ov (RoomFor j) = mend_fine version h 12 n B Q es v O (k false) ov free lt inv can pos full
    at v inv ov (Picks j) = mend_fine version h 12 n B Q es v O (k false) ov free lt inv can pos full
    at v inv ov Room =
        let wr = writes version h i (Some (with_dots i d y)) x O v free lt joined inv ov isi in
        subst (λ (z : Option Node). Fine (machine version) h [] 12 n B es v (record v { disk = put v.disk i (Some (with_dots i d (node_or z))) }) (λ l. Wp (machine version) h B Q (k true) l es (record v { disk = put v.disk i (Some (with_dots i d (node_or z))) }))) (sym (has_disk h i v O x ov isi ∙ disk))
        (quiet version wr.fair refl pos (λ l q. (rest l (record v { disk = put v.disk i (Some (with_dots i d y)) }) q wr.owned).wp))
