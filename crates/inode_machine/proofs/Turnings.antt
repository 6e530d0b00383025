-- What a step of a hart that serves another one shows: what the hart has then, and what the child has.
use Rattle.inode_machine.proofs.Vocabulary.{◌≡◌, ◌≢◌, ◌⊎◌, inl, inr, ℕ, ◌+◌, ◌-◌, ◌<◌, ◌≤◌, false, ◌==◌, Option, Some, None, refl, sym, ◌∙◌, ap, subst, arith, hart_count, descriptor_count, put, sum_below, one_if, IsWellFormed, eq_self, same_or, put_same, put_other, one_yes, Walk, Mine, Entry, Desk, World, child_of, given_of, serving, with_refs, OfDirectory, type_of, Own, Held, IsTied, own_of, reference_limit, Has, Inv, Lends, nothing, HasType}
use Rattle.inode_machine.proofs.Basics.{put_elim, has_none, two_refs, FairTo, walks_refs, not_one, sum_twice, both_world, Serves, both, row_same}

-- What hart h owns while it serves hart c.
pub record Server (h c : ℕ) (O : Own) : Type 0 where
  pub hart : h < hart_count
  pub free : O.desk.lender ≡ None
  pub child : child_of O.desk ≡ Some c
  pub inodes : (j : ℕ) → O.inodes j ≡ None
  pub walk : O.mine.walk ≡ None
  pub pending : O.mine.pending ≡ None
  pub opening : O.desk.opening ≡ None
  pub left : O.desk.left ≡ None
  pub noted : O.desk.noted ≡ None
  pub few : (i : ℕ) → O.mine.refs i < reference_limit

-- Whom it serves rests, and has of it what its desk says.
pub record Kid (h c : ℕ) (v : World) : Type 0 where
  pub below : c < hart_count
  pub apart : c ≢ h
  pub lender : (v.desks c).lender ≡ Some h
  pub lends : Lends v h c

pub kid : (h c : ℕ) (v : World) (O : Own) → Inv v → own_of h v ≡ O → Server h c O → Kid h c v
kid h c v O inv ov s = record {
  below = served.0;
  apart = λ e. let a : (v.desks h).lender ≡ Some h = ap (λ (z : ℕ). (v.desks z).lender) (sym e) ∙ served.1 in let b : (v.desks h).lender ≡ None = ap (λ (o : Own). o.desk.lender) ov ∙ s.free in cc (a, b);
  lender = served.1;
  lends = inv.lent c h served.0 served.1;
}
  where
    served : (c < hart_count) × ((v.desks c).lender ≡ Some h)
    served = inv.serves h c s.hart (ap (λ (o : Own). child_of o.desk) ov ∙ s.child)

-- What the step changes. L: the hart's descriptors on their way; y: the child's desk.
pub record Turns (h c : ℕ) (v : World) (F : ℕ → Option Entry) (D : ℕ → Desk) (R : ℕ → ℕ) (H : ℕ → Mine) (X : ℕ → ℕ → Option ℕ) (C : ℕ → ℕ) (L : ℕ → Option ℕ) (y : Desk) : Type 0 where
  pub mine : D h ≡ record (v.desks h) { lent = L }
  pub his : D c ≡ y
  pub desks : (g : ℕ) → g ≢ h → g ≢ c → D g ≡ v.desks g
  pub others : (g : ℕ) → g ≢ h → g ≢ c → H g ≡ v.harts g
  pub fds : (g : ℕ) → g ≢ c → X g ≡ v.all.fds g
  pub cwd : (g : ℕ) → g ≢ c → C g ≡ v.all.cwd g
  pub numbers : (k : ℕ) (e : Entry) → v.files k ≡ Some e → (f : Entry) × (F k ≡ Some f) × (f.inode_type ≡ e.inode_type) × (f.file ≡ e.file)
  pub tied : IsTied (record { files = F; desks = D; ids = v.ids; slots = v.slots; clean = v.clean; tree_fds = X; tree_files = v.all.files })
  pub inode_types : (k : ℕ) (e : Entry) → F k ≡ Some e → HasType v.all.nodes e
  pub well : IsWellFormed (record (v.all) { fds = X; cwd = C })
  pub counts : (i : ℕ) → R i ≡ v.slots i + sum_below hart_count (λ g. (H g).refs i)
  pub apart : (i : ℕ) (g : ℕ) → v.keeper i ≡ Some g → v.refs i ≡ (v.harts g).refs i → R i ≡ v.refs i
  pub few : (i : ℕ) → (H h).refs i ≤ reference_limit
  pub refs : (i : ℕ) → (v.harts h).refs i ≤ (H h).refs i
  pub walk : (H h).walk ≡ None
  pub found : (H h).pending ≡ None
  pub his_refs : (i : ℕ) → (H c).refs i ≡ one_if (y.directory == i)
  pub his_walk : (H c).walk ≡ None
  pub his_found : (H c).pending ≡ None
  pub hand : y.hand ≡ None
  pub joined : y.joined ≡ false
  pub lent : y.lent ≡ nothing
  pub opening : y.opening ≡ None
  pub left : y.left ≡ None
  pub noted : y.noted ≡ None
  pub inode_type : type_of (v.all.nodes y.directory) ≡ Some OfDirectory
  -- the hart still serves it, or does no more
  pub phase : ((L descriptor_count ≡ Some c) × (y.lender ≡ Some h) × Has (L (descriptor_count + 1)) y.fds (C c) y.directory (v.desks h).directory)
      ⊎ ((L descriptor_count ≡ None) × (y.lender ≡ None) × (C c ≡ y.directory))

module _ (h c : ℕ) (v : World) (O : Own) (F : ℕ → Option Entry) (D : ℕ → Desk) (R : ℕ → ℕ) (H : ℕ → Mine) (X : ℕ → ℕ → Option ℕ) (C : ℕ → ℕ) (L : ℕ → Option ℕ) (y : Desk) (inv : Inv v) (ov : own_of h v ≡ O) (s : Server h c O) (t : Turns h c v F D R H X C L y) where
  k : Kid h c v
  k = kid h c v O inv ov s

  empty : (j : ℕ) → v.keeper j ≢ Some h
  empty j = has_none h j v O ov (s.inodes j)

  his_empty : (j : ℕ) → v.keeper j ≢ Some c
  his_empty j = has_none c j v (own_of c v) refl (ap (λ (f : ℕ → Option Held). f j) k.lends.rests.inodes)

  unlent : (v.desks h).lender ≡ None
  unlent = ap (λ (o : Own). o.desk.lender) ov ∙ s.free

  turned : Serves h c v F D R H X C
  turned = record {
    hart = s.hart;
    child = ap (λ (o : Own). child_of o.desk) ov ∙ s.child;
    unlent = unlent;
    empty = empty;
    still = ap (λ (o : Own). o.mine.pending) ov ∙ s.pending;
    desks = t.desks;
    others = t.others;
    fds = t.fds;
    cwd = t.cwd;
    numbers = t.numbers;
    tied = t.tied;
    inode_types = t.inode_types;
    well = t.well;
    counts = t.counts;
    lone = λ i a.
        let nh : a.hart ≢ h = (λ e. empty i (a.kept ∙ ap (λ (z : ℕ). Some z) e)) in
        let nc : a.hart ≢ c = (λ e. his_empty i (a.kept ∙ ap (λ (z : ℕ). Some z) e)) in
        t.apart i a.hart a.kept a.counts ∙ a.counts ∙ ap (λ (m : Mine). m.refs i) (sym (t.others a.hart nh nc));
    few = t.few;
    refs = t.refs;
    directory = ap (λ (d : Desk). d.directory) t.mine;
    left = ap (λ (d : Desk). d.left) t.mine;
    opening = ap (λ (d : Desk). d.opening) t.mine;
    lender = ap (λ (d : Desk). d.lender) t.mine ∙ unlent;
    joined = ap (λ (d : Desk). d.joined) t.mine;
    noted = ap (λ (d : Desk). d.noted) t.mine ∙ ap (λ (o : Own). o.desk.noted) ov ∙ s.noted;
    walk = t.walk;
    found = t.found;
    rests = record {
      inodes = k.lends.rests.inodes;
      refs = λ i. t.his_refs i ∙ (λ z. one_if ((sym t.his z).directory == i));
      walk = t.his_walk;
      pending = t.his_found;
      hold = k.lends.rests.hold;
      hand = ap (λ (d : Desk). d.hand) t.his ∙ t.hand;
      joined = ap (λ (d : Desk). d.joined) t.his ∙ t.joined;
      lent = ap (λ (d : Desk). d.lent) t.his ∙ t.lent;
      opening = ap (λ (d : Desk). d.opening) t.his ∙ t.opening;
      left = ap (λ (d : Desk). d.left) t.his ∙ t.left;
      noted = ap (λ (d : Desk). d.noted) t.his ∙ t.noted;
    };
    inode_type = ap (λ (d : Desk). type_of (v.all.nodes d.directory)) t.his ∙ t.inode_type;
    stands = λ free. elim t.phase [
      | inl p ↦ absurd (let a = ap (λ (d : Desk). d.lender) t.his ∙ p.1 in cc (a, free))
      | inr p ↦ p.2 ∙ ap (λ (d : Desk). d.directory) (sym t.his)
    ];
    lends = λ g is. elim t.phase [
      | inl p ↦ (
        (let a : Some h ≡ Some g = sym (ap (λ (d : Desk). d.lender) t.his ∙ p.1) ∙ is in let b : h ≡ g = cc in sym b),
        ap (λ (d : Desk). child_of d) t.mine ∙ p.0,
        subst (λ (x : Desk). Has (given_of (D h)) x.fds (C c) x.directory (D h).directory) (sym t.his) (subst (λ (x : Desk). Has (given_of x) y.fds (C c) y.directory x.directory) (sym t.mine) p.2),
      )
      | inr p ↦ absurd (let a = ap (λ (d : Desk). d.lender) t.his ∙ p.1 in cc (a, is))
    ];
    served = λ g is. elim t.phase [
      | inl p ↦ ((let a : Some c ≡ Some g = sym p.0 ∙ ap (λ (d : Desk). child_of d) (sym t.mine) ∙ is in let b : c ≡ g = cc in sym b), ap (λ (d : Desk). d.lender) t.his ∙ p.1)
      | inr p ↦ absurd (let a = ap (λ (d : Desk). child_of d) t.mine ∙ p.0 in cc (a, is))
    ];
  }

  pub turned_fair : FairTo h v (both_world v F D R H X C)
  turned_fair = both h c v F D R H X C inv turned

  pub turned_own : own_of h (both_world v F D R H X C) ≡ record O { mine = H h; desk = record (O.desk) { lent = L } }
  turned_own = λ z. record {
    inodes = ap (λ (o : Own). o.inodes) ov z;
    mine = H h;
    row = (row_same h c v F D R H X C inv turned h (λ e. k.apart (sym e)) ∙ ap (λ (o : Own). o.row) ov) z;
    ninodes = ap (λ (o : Own). o.ninodes) ov z;
    desk = (t.mine ∙ ap (λ (o : Own). record (o.desk) { lent = L }) ov) z;
  }

-- References, when a hart hands on its directory d, and takes the child's, o.

put_one : (f : ℕ → ℕ) (n i : ℕ) → put f n (f n + 1) i ≡ f i + one_if (n == i)
put_one f n i = put_elim f n (f n + 1) i (λ z. z ≡ f i + one_if (n == i))
    (λ e. let a : f n ≡ f i = ap f (sym e) in let b = one_yes (n == i) (ap (λ (z : ℕ). n == z) e ∙ eq_self n) in omega (arith, a, b))
    (λ ne. let a = not_one n i (λ e. ne (sym e)) in omega (arith, a))

-- the one reference of who had one to o alone is to d
put_moved : (f : ℕ → ℕ) (d o i : ℕ) → ((j : ℕ) → f j ≡ one_if (o == j)) → put (put f d (f d + 1)) o (put f d (f d + 1) o - 1) i ≡ one_if (d == i)
put_moved f d o i only = put_elim (put f d (f d + 1)) o (put f d (f d + 1) o - 1) i (λ z. z ≡ one_if (d == i))
    (λ e.
    let a = put_one f d o in
    let b = only o in
    let c = one_yes (o == o) (eq_self o) in
    let g : one_if (d == i) ≡ one_if (d == o) = ap (λ (z : ℕ). one_if (d == z)) e in
    omega (arith, a, b, c, g))
    (λ ne.
    let a = put_one f d i in
    let b = only i in
    let c = not_one o i (λ e. ne (sym e)) in
    omega (arith, a, b, c))

abbrev pub raised : (ℕ → Mine) → ℕ → ℕ → ℕ → Mine
raised harts c d = with_refs harts c d ((harts c).refs d + 1)

abbrev pub dropped : (ℕ → Mine) → ℕ → ℕ → ℕ → ℕ → Mine
dropped harts c d o = with_refs (raised harts c d) c o ((raised harts c d c).refs o - 1)

abbrev pub moved_refs : (ℕ → Mine) → ℕ → ℕ → ℕ → ℕ → ℕ → Mine
moved_refs harts h c d o = with_refs (dropped harts c d o) h o ((harts h).refs o + 1)

module _ (harts : ℕ → Mine) (h c d o : ℕ) (apart : c ≢ h) where
  at_hart : moved_refs harts h c d o h ≡ record { refs = put (harts h).refs o ((harts h).refs o + 1); walk = (harts h).walk; pending = (harts h).pending }
  at_hart = put_same (dropped harts c d o) h (record { refs = put (dropped harts c d o h).refs o ((harts h).refs o + 1); walk = (dropped harts c d o h).walk; pending = (dropped harts c d o h).pending })
      ∙ ap (λ (m : Mine). record { refs = put m.refs o ((harts h).refs o + 1); walk = m.walk; pending = m.pending }) before
    where
      before : dropped harts c d o h ≡ harts h
      before = put_other (raised harts c d) c (record { refs = put (raised harts c d c).refs o ((raised harts c d c).refs o - 1); walk = (raised harts c d c).walk; pending = (raised harts c d c).pending }) h (λ e. apart (sym e))
          ∙ put_other harts c (record { refs = put (harts c).refs d ((harts c).refs d + 1); walk = (harts c).walk; pending = (harts c).pending }) h (λ e. apart (sym e))

  at_child : moved_refs harts h c d o c ≡ record { refs = put (put (harts c).refs d ((harts c).refs d + 1)) o (put (harts c).refs d ((harts c).refs d + 1) o - 1); walk = (harts c).walk; pending = (harts c).pending }
  at_child = put_other (dropped harts c d o) h (record { refs = put (dropped harts c d o h).refs o ((harts h).refs o + 1); walk = (dropped harts c d o h).walk; pending = (dropped harts c d o h).pending }) c apart
      ∙ put_same (raised harts c d) c (record { refs = put (raised harts c d c).refs o ((raised harts c d c).refs o - 1); walk = (raised harts c d c).walk; pending = (raised harts c d c).pending })
      ∙ ap (λ (m : Mine). record { refs = put m.refs o (m.refs o - 1); walk = m.walk; pending = m.pending }) (put_same harts c (record { refs = put (harts c).refs d ((harts c).refs d + 1); walk = (harts c).walk; pending = (harts c).pending }))

  pub moved_hart : moved_refs harts h c d o h ≡ record { refs = put (harts h).refs o ((harts h).refs o + 1); walk = (harts h).walk; pending = (harts h).pending }
  moved_hart = at_hart

  pub moved_child_walk : (moved_refs harts h c d o c).walk ≡ (harts c).walk
  moved_child_walk = ap (λ (m : Mine). m.walk) at_child

  pub moved_child_pending : (moved_refs harts h c d o c).pending ≡ (harts c).pending
  moved_child_pending = ap (λ (m : Mine). m.pending) at_child

  pub moved_child : ((j : ℕ) → (harts c).refs j ≡ one_if (o == j)) → (i : ℕ) → (moved_refs harts h c d o c).refs i ≡ one_if (d == i)
  moved_child only i = ap (λ (m : Mine). m.refs i) at_child ∙ put_moved (harts c).refs d o i only

  pub moved_mine : (i : ℕ) → (moved_refs harts h c d o h).refs i ≡ (harts h).refs i + one_if (o == i)
  moved_mine i = ap (λ (m : Mine). m.refs i) at_hart ∙ put_one (harts h).refs o i

  pub moved_others : (g : ℕ) → g ≢ h → g ≢ c → moved_refs harts h c d o g ≡ harts g
  moved_others g nh nc = put_other (dropped harts c d o) h (record { refs = put (dropped harts c d o h).refs o ((harts h).refs o + 1); walk = (dropped harts c d o h).walk; pending = (dropped harts c d o h).pending }) g nh
      ∙ put_other (raised harts c d) c (record { refs = put (raised harts c d c).refs o ((raised harts c d c).refs o - 1); walk = (raised harts c d c).walk; pending = (raised harts c d c).pending }) g nc
      ∙ put_other harts c (record { refs = put (harts c).refs d ((harts c).refs d + 1); walk = (harts c).walk; pending = (harts c).pending }) g nc

  pub moved_walks : ◌≡◌ {A = ℕ → Option Walk} (λ g. (moved_refs harts h c d o g).walk) (λ g. (harts g).walk)
  moved_walks = walks_refs (dropped harts c d o) h o ((harts h).refs o + 1) ∙ walks_refs (raised harts c d) c o ((raised harts c d c).refs o - 1) ∙ walks_refs harts c d ((harts c).refs d + 1)

-- the count of d is one more, and so is the sum
pub moved_counts : (v : World) (H : ℕ → Mine) (h c d o : ℕ) → Inv v → h < hart_count → c < hart_count → c ≢ h → ((j : ℕ) → (v.harts c).refs j ≡ one_if (o == j)) → ((j : ℕ) → (H c).refs j ≡ one_if (d == j)) → ((j : ℕ) → (H h).refs j ≡ (v.harts h).refs j + one_if (o == j)) → ((g : ℕ) → g ≢ h → g ≢ c → (j : ℕ) → (H g).refs j ≡ (v.harts g).refs j)
    → (i : ℕ) → put v.refs d (v.refs d + 1) i ≡ v.slots i + sum_below hart_count (λ g. (H g).refs i)
moved_counts v H h c d o inv lh lc apart was now mine others i =
    let s = sum_twice hart_count h c (λ g. (v.harts g).refs i) (λ g. (H g).refs i) lh lc apart (λ g nh nc. others g nh nc i) in
    let a = put_one v.refs d i in
    let b = was i in
    let e = now i in
    let f = mine i in
    let n = inv.counts i in
    omega (arith, s, a, b, e, f, n)

-- an inode that one hart has all the references to is not this hart's directory
pub moved_apart : (v : World) (h d i g : ℕ) → Inv v → h < hart_count → 0 < (v.harts h).refs d → g ≢ h → v.keeper i ≡ Some g → v.refs i ≡ (v.harts g).refs i → put v.refs d (v.refs d + 1) i ≡ v.refs i
moved_apart v h d i g inv lt refers ne kept counts = elim (same_or i d) [
  | inr nd ↦ put_other v.refs d (v.refs d + 1) i nd
  | inl e ↦ absurd (
      let two = two_refs v g h i inv (inv.kept i g kept).0 lt ne in
      let r : (v.harts h).refs i ≡ (v.harts h).refs d = ap (v.harts h).refs e in
      omega (arith, two, counts, refers, r)
      )
]

-- Nothing is on its way.

pub serving_child : (c : ℕ) (g : Option ℕ) → serving c g descriptor_count ≡ Some c
serving_child c g = put_other (put (λ i. None) descriptor_count (Some c)) (descriptor_count + 1) g descriptor_count (λ e. absurd (omega (arith, e))) ∙ put_same (λ i. None) descriptor_count (Some c)

pub serving_given : (c : ℕ) (g : Option ℕ) → serving c g (descriptor_count + 1) ≡ g
serving_given c g = put_same (put (λ i. None) descriptor_count (Some c)) (descriptor_count + 1) g

pub serving_none : (c : ℕ) (g : Option ℕ) (i : ℕ) → i < descriptor_count → serving c g i ≡ None
serving_none c g i lt = put_other (put (λ i. None) descriptor_count (Some c)) (descriptor_count + 1) g i (λ e. absurd (omega (arith, e, lt))) ∙ put_other (λ i. None) descriptor_count (Some c) i (λ e. absurd (omega (arith, e, lt)))
