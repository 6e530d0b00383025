-- A step that changes what two harts have: a hart's, and those of the one that it serves, which rests.
use Rattle.inode_machine.proofs.Vocabulary.{◌≡◌, ◌≢◌, inl, inr, ℕ, ◌+◌, ◌<◌, ◌≤◌, true, ◌==◌, [], Option, Some, None, refl, sym, ◌∙◌, ap, subst, arith, OpenFile, hart_count, descriptor_count, row_of, Hold, holds_raised, sum_below, IsWellFormed, eq_self, same_or, one_yes, Mine, Entry, Desk, World, child_of, given_of, OfDirectory, type_of, Own, Held, Rests, Idle, Others, Stands, IsTied, own_names, own_of, Found, IsReferredTo, IsReached, reference_limit, References, IsAlone, Has, Lends, Inv, left_or, HasType}
use Rattle.inode_machine.proofs.Rules.{FairTo}
use Rattle.inode_machine.proofs.Frame.{has_none, resting_names}
use Rattle.inode_machine.proofs.Counting.{one_most}

-- the world with the tables, references and tree that the step makes
abbrev pub both_world : World → (ℕ → Option Entry) → (ℕ → Desk) → (ℕ → ℕ) → (ℕ → Mine) → (ℕ → ℕ → Option ℕ) → (ℕ → ℕ) → World
both_world v F D R H X C = record v { files = F; desks = D; refs = R; harts = H; all = record (v.all) { fds = X; cwd = C } }

-- What the step shows of its changes.
pub record Serves (h c : ℕ) (v : World) (F : ℕ → Option Entry) (D : ℕ → Desk) (R : ℕ → ℕ) (H : ℕ → Mine) (X : ℕ → ℕ → Option ℕ) (C : ℕ → ℕ) : Type 0 where
  pub hart : h < hart_count
  -- before: the child is the hart's, and rests, and the hart keeps nothing
  pub child : child_of (v.desks h) ≡ Some c
  pub unlent : (v.desks h).lender ≡ None
  pub empty : (j : ℕ) → v.keeper j ≢ Some h
  pub still : (v.harts h).pending ≡ None
  -- others have what they had
  pub desks : (g : ℕ) → g ≢ h → g ≢ c → D g ≡ v.desks g
  pub others : (g : ℕ) → g ≢ h → g ≢ c → H g ≡ v.harts g
  pub fds : (g : ℕ) → g ≢ c → X g ≡ v.all.fds g
  pub cwd : (g : ℕ) → g ≢ c → C g ≡ v.all.cwd g
  pub numbers : (k : ℕ) (e : Entry) → v.files k ≡ Some e → (f : Entry) × (F k ≡ Some f) × (f.inode_type ≡ e.inode_type) × (f.file ≡ e.file)
  pub tied : IsTied (record { files = F; desks = D; ids = v.ids; slots = v.slots; clean = v.clean; tree_fds = X; tree_files = v.all.files })
  pub inode_types : (k : ℕ) (e : Entry) → F k ≡ Some e → HasType v.all.nodes e
  pub well : IsWellFormed (record (v.all) { fds = X; cwd = C })
  pub counts : (i : ℕ) → R i ≡ v.slots i + sum_below hart_count (λ g. (H g).refs i)
  pub lone : (i : ℕ) (a : IsAlone v.keeper v.all.nodes v.refs v.harts i) → R i ≡ (H a.hart).refs i
  -- the hart
  pub few : (i : ℕ) → (H h).refs i ≤ reference_limit
  pub refs : (i : ℕ) → (v.harts h).refs i ≤ (H h).refs i
  pub directory : (D h).directory ≡ (v.desks h).directory
  pub left : (D h).left ≡ (v.desks h).left
  pub opening : (D h).opening ≡ (v.desks h).opening
  pub lender : (D h).lender ≡ None
  pub joined : (D h).joined ≡ (v.desks h).joined
  pub noted : (D h).noted ≡ None
  pub walk : (H h).walk ≡ None
  pub found : (H h).pending ≡ None
  -- the child
  pub rests : Idle c (both_world v F D R H X C)
  pub inode_type : type_of (v.all.nodes (D c).directory) ≡ Some OfDirectory
  pub stands : (D c).lender ≡ None → C c ≡ (D c).directory
  pub lends : (g : ℕ) → (D c).lender ≡ Some g → (g ≡ h) × (child_of (D h) ≡ Some c) × Has (given_of (D h)) (D c).fds (C c) (D c).directory (D h).directory
  pub served : (g : ℕ) → child_of (D h) ≡ Some g → (g ≡ c) × ((D c).lender ≡ Some h)

module _ (h c : ℕ) (v : World) (F : ℕ → Option Entry) (D : ℕ → Desk) (R : ℕ → ℕ) (H : ℕ → Mine) (X : ℕ → ℕ → Option ℕ) (C : ℕ → ℕ) (inv : Inv v) (s : Serves h c v F D R H X C) where
  abbrev u : World
  u = both_world v F D R H X C

  lends : Lends v h c
  lends = let a = inv.serves h c s.hart s.child in inv.lent c h a.0 a.1

  below : c < hart_count
  below = (inv.serves h c s.hart s.child).0

  apart : c ≢ h
  apart e = let a : (v.desks h).lender ≡ Some h = ap (λ (z : ℕ). (v.desks z).lender) (sym e) ∙ (inv.serves h c s.hart s.child).1 in let b = s.unlent in cc (a, b)

  -- who keeps something is neither
  keeper_not : (i g : ℕ) → v.keeper i ≡ Some g → (g ≢ h) × (g ≢ c)
  keeper_not i g is = (
    (λ e. s.empty i (is ∙ ap (λ (z : ℕ). Some z) e)),
    (λ e. has_none c i v (own_of c v) refl (ap (λ (f : ℕ → Option Held). f i) lends.rests.inodes) (is ∙ ap (λ (z : ℕ). Some z) e)),
  )

  -- a hart is one of the two, or neither
  by_hart : (g : ℕ) (T : Type 0) → (g ≡ h → T) → (g ≡ c → T) → (g ≢ h → g ≢ c → T) → T
  by_hart g T a b o = elim (same_or g h) [ inl e ↦ a e | inr nh ↦ elim (same_or g c) [ inl e ↦ b e | inr nc ↦ o nh nc ] ]

  pub row_same : (g : ℕ) → g ≢ c → row_of u.all g ≡ row_of v.all g
  row_same g ne = λ i. record {
    cwd = s.cwd g ne i;
    hold = v.all.holds g;
    fds = s.fds g ne i;
    keys = (row_of (record (v.all) { fds = λ k. s.fds g ne i }) g).keys;
  }

  pinned : (g i : ℕ) → g ≢ h → g ≢ c → IsReferredTo v.desks v.files v.harts g i → IsReferredTo D F H g i
  pinned g i nh nc (inl o) = let n = s.numbers o.slot o.entry o.at in inl (record { fd = o.fd; below = o.below; slot = o.slot; is = ap (λ (d : Desk). d.fds o.fd) (s.desks g nh nc) ∙ o.is; entry = n.0; at = n.1; number = ap (λ (z : OpenFile). z.number) n.3 ∙ o.number })
  pinned g i nh nc (inr p) = inr (let e = ap (λ (m : Mine). m.refs i) (s.others g nh nc) in omega (arith, e, p))

  reached : (g i : ℕ) → g ≢ h → g ≢ c → IsReached v g i → IsReached u g i
  reached g i nh nc (inl p) = inl (let e = ap (λ (m : Mine). m.refs i) (s.others g nh nc) in omega (arith, e, p))
  reached g i nh nc (inr f) = inr (ap (λ (m : Mine). m.pending) (s.others g nh nc) ∙ f)

  reached_back : (g i : ℕ) → g ≢ h → g ≢ c → IsReached u g i → IsReached v g i
  reached_back g i nh nc (inl p) = inl (let e = ap (λ (m : Mine). m.refs i) (s.others g nh nc) in omega (arith, e, p))
  reached_back g i nh nc (inr f) = inr (ap (λ (m : Mine). m.pending) (sym (s.others g nh nc)) ∙ f)

  -- the child's one reference is to its directory
  child_home : 0 < (H c).refs (D c).directory
  child_home = let a = s.rests.refs (D c).directory in let b = one_yes ((D c).directory == (D c).directory) (eq_self (D c).directory) in omega (arith, a, b)

  others_same : (g : ℕ) → g ≢ h → g ≢ c → own_of g u ≡ own_of g v
  others_same g nh nc = λ i. record { inodes = (own_of g v).inodes; mine = s.others g nh nc i; row = row_same g nc i; ninodes = v.all.ninodes; desk = s.desks g nh nc i }

  refers : (g : ℕ) → g < hart_count → References (H g) (D g)
  refers g lt = by_hart g (References (H g) (D g))
      (λ e. subst (λ (z : ℕ). References (H z) (D z)) (sym e) (record { few = s.few; home = subst (λ (z : ℕ). 0 < (H h).refs z) (sym s.directory) (let a = (inv.refers h s.hart).home in let b = s.refs (v.desks h).directory in omega (arith, a, b)) }))
      (λ e. subst (λ (z : ℕ). References (H z) (D z)) (sym e) (record { few = λ i. let a = s.rests.refs i in let b = one_most ((D c).directory == i) in omega (arith, a, b); home = child_home }))
      (λ nh nc. subst (λ (m : Mine). References m (D g)) (sym (s.others g nh nc)) (subst (λ (d : Desk). References (v.harts g) d) (sym (s.desks g nh nc)) (inv.refers g lt)))

  named : (g i : ℕ) → g < hart_count → (D g).lender ≡ None → own_names (row_of u.all g) (D g) i ≡ true → IsReached u g i
  named g i lt free is = by_hart g (IsReached u g i)
      (λ e. subst (λ (z : ℕ). IsReached u z i) (sym e) (elim (inv.named h i s.hart s.unlent (names (ap (λ (z : ℕ). own_names (row_of u.all z) (D z) i) (sym e) ∙ is))) [
        | inl p ↦ inl (let r = s.refs i in omega (arith, r, p))
        | inr p ↦ absurd (let a = s.still in cc (a, p))
      ]))
      (λ e. subst (λ (z : ℕ). IsReached u z i) (sym e) (inl (let n = resting_names (row_of u.all c) (D c) i s.rests.hold s.rests.opening s.rests.left (ap (λ (z : ℕ). own_names (row_of u.all z) (D z) i) (sym e) ∙ is) in
      subst (λ (z : ℕ). 0 < (H c).refs z) (sym (s.stands (ap (λ (z : ℕ). (D z).lender) (sym e) ∙ free)) ∙ n) child_home)))
      (λ nh nc. reached g i nh nc (inv.named g i lt (ap (λ (d : Desk). d.lender) (sym (s.desks g nh nc)) ∙ free) ((λ z. own_names (sym (row_same g nc) z) (sym (s.desks g nh nc) z) i) ∙ is)))
    where
      names : own_names (row_of u.all h) (D h) i ≡ true → own_names (row_of v.all h) (v.desks h) i ≡ true
      names q = (λ z. own_names (sym (row_same h (λ e. apart (sym e))) z) (record (v.desks h) { opening = sym s.opening z; left = sym s.left z }) i) ∙ q

  directory : (g : ℕ) → g < hart_count → Stands (D g) (C g) v.all.nodes
  directory g lt = by_hart g (Stands (D g) (C g) v.all.nodes)
      (λ e. subst (λ (z : ℕ). Stands (D z) (C z) v.all.nodes) (sym e) (let a = inv.directory h s.hart in record {
        at = λ _. s.directory ∙ a.at s.unlent ∙ (λ z. left_or (sym s.left z) (sym (s.cwd h (λ q. apart (sym q))) z));
        inode_type = ap (λ (n : ℕ). type_of (v.all.nodes n)) s.directory ∙ a.inode_type;
      }))
      (λ e. subst (λ (z : ℕ). Stands (D z) (C z) v.all.nodes) (sym e) (record { at = λ free. sym (s.stands free) ∙ (λ z. left_or (sym s.rests.left z) (C c)); inode_type = s.inode_type }))
      (λ nh nc. subst (λ (d : Desk). Stands d (C g) v.all.nodes) (sym (s.desks g nh nc)) (subst (λ (z : ℕ). Stands (v.desks g) z v.all.nodes) (sym (s.cwd g nc)) (inv.directory g lt)))

  -- A hart that a third one serves is as it was.
  lent : (g b : ℕ) → g < hart_count → (D g).lender ≡ Some b → Lends u b g
  lent g b lt is = by_hart g (Lends u b g)
      (λ e. absurd (let a : (D h).lender ≡ Some b = ap (λ (z : ℕ). (D z).lender) (sym e) ∙ is in let l = s.lender in cc (a, l)))
      (λ e.
      let l = s.lends b (ap (λ (z : ℕ). (D z).lender) (sym e) ∙ is) in
      subst (λ (z : ℕ). Lends u b z) (sym e) (subst (λ (z : ℕ). Lends u z c) (sym l.0) (record { hart = s.hart; free = s.lender; child = l.1; rests = s.rests; has = l.2 })))
      (λ nh nc. third nh nc (inv.lent g b lt (ap (λ (d : Desk). d.lender) (sym (s.desks g nh nc)) ∙ is)))
    where
      third : g ≢ h → g ≢ c → Lends v b g → Lends u b g
      third nh nc l =
          let bh : b ≢ h = (λ e. nc (let a : Some g ≡ Some c = sym l.child ∙ ap (λ (z : ℕ). child_of (v.desks z)) e ∙ s.child in cc)) in
          let bc : b ≢ c = (λ e. let a : child_of (v.desks c) ≡ Some g = ap (λ (z : ℕ). child_of (v.desks z)) (sym e) ∙ l.child in let n = ap (λ (f : ℕ → Option ℕ). f descriptor_count) lends.rests.lent in absurd (cc (a, n))) in
          record {
            hart = l.hart;
            free = ap (λ (d : Desk). d.lender) (s.desks b bh bc) ∙ l.free;
            child = ap (λ (d : Desk). child_of d) (s.desks b bh bc) ∙ l.child;
            rests = subst (λ (o : Own). Rests o) (sym (others_same g nh nc)) l.rests;
            has = subst (λ (d : Desk). Has (given_of d) (D g).fds (C g) (D g).directory d.directory) (sym (s.desks b bh bc))
                (subst (λ (d : Desk). Has (given_of (v.desks b)) d.fds (C g) d.directory (v.desks b).directory) (sym (s.desks g nh nc))
                (subst (λ (z : ℕ). Has (given_of (v.desks b)) (v.desks g).fds z (v.desks g).directory (v.desks b).directory) (sym (s.cwd g nc)) l.has));
          }

  serves : (b g : ℕ) → b < hart_count → child_of (D b) ≡ Some g → (g < hart_count) × ((D g).lender ≡ Some b)
  serves b g lt is = by_hart b ((g < hart_count) × ((D g).lender ≡ Some b))
      (λ e.
      let a = s.served g (ap (λ (z : ℕ). child_of (D z)) (sym e) ∙ is) in
      (subst (λ (z : ℕ). z < hart_count) (sym a.0) below, ap (λ (z : ℕ). (D z).lender) a.0 ∙ a.1 ∙ ap (λ (z : ℕ). Some z) (sym e)))
      (λ e. absurd (let a : child_of (D c) ≡ Some g = ap (λ (z : ℕ). child_of (D z)) (sym e) ∙ is in let n = ap (λ (f : ℕ → Option ℕ). f descriptor_count) s.rests.lent in cc (a, n)))
      (λ nh nc.
      let a = inv.serves b g lt (ap (λ (d : Desk). child_of d) (sym (s.desks b nh nc)) ∙ is) in
      let gh : g ≢ h = (λ e. let x : (v.desks h).lender ≡ Some b = ap (λ (z : ℕ). (v.desks z).lender) (sym e) ∙ a.1 in let y = s.unlent in absurd (cc (x, y))) in
      let gc : g ≢ c = (λ e. nh (let x : Some b ≡ Some h = sym a.1 ∙ ap (λ (z : ℕ). (v.desks z).lender) e ∙ (inv.serves h c s.hart s.child).1 in cc)) in
      (a.0, ap (λ (d : Desk). d.lender) (s.desks g gh gc) ∙ a.1))

  both_inv : Inv u
  both_inv = record {
    well = s.well;
    ids = inv.ids;
    whole = inv.whole;
    quiet = λ i g is q. let n = keeper_not i g is in inv.quiet i g is (ap (λ (d : Desk). d.joined) (sym (s.desks g n.0 n.1)) ∙ q);
    keeps = inv.keeps;
    kept = λ i g is. let n = keeper_not i g is in let k = inv.kept i g is in (k.0, pinned g i n.0 n.1 k.1);
    held = inv.held;
    alone = λ i is. let a = inv.alone i is in record { hart = a.hart; kept = a.kept; dead = a.dead; counts = s.lone i a };
    counts = s.counts;
    refers = refers;
    tied = s.tied;
    inode_types = s.inode_types;
    named = named;
    pending = λ g i lt is. by_hart g (Found v.keeper v.all.nodes g i)
        (λ e. absurd (let a : (H h).pending ≡ Some i = ap (λ (z : ℕ). (H z).pending) (sym e) ∙ is in let b = s.found in cc (a, b)))
        (λ e. absurd (let a : (H c).pending ≡ Some i = ap (λ (z : ℕ). (H z).pending) (sym e) ∙ is in let b = s.rests.pending in cc (a, b)))
        (λ nh nc. inv.pending g i lt (ap (λ (m : Mine). m.pending) (sym (s.others g nh nc)) ∙ is));
    walks = λ g k lt is. by_hart g (IsReached u g k.at)
        (λ e. absurd (let a : (H h).walk ≡ Some k = ap (λ (z : ℕ). (H z).walk) (sym e) ∙ is in let b = s.walk in cc (a, b)))
        (λ e. absurd (let a : (H c).walk ≡ Some k = ap (λ (z : ℕ). (H z).walk) (sym e) ∙ is in let b = s.rests.walk in cc (a, b)))
        (λ nh nc. reached g k.at nh nc (inv.walks g k lt (ap (λ (m : Mine). m.walk) (sym (s.others g nh nc)) ∙ is)));
    noted = λ g n lt is r q. by_hart g (type_of (v.all.nodes n.number) ≡ n.inode_type)
        (λ e. absurd (let a : (D h).noted ≡ Some n = ap (λ (z : ℕ). (D z).noted) (sym e) ∙ is in let b = s.noted in cc (a, b)))
        (λ e. absurd (let a : (D c).noted ≡ Some n = ap (λ (z : ℕ). (D z).noted) (sym e) ∙ is in let b = s.rests.noted in cc (a, b)))
        (λ nh nc. inv.noted g n lt (ap (λ (d : Desk). d.noted) (sym (s.desks g nh nc)) ∙ is) (reached_back g n.number nh nc r) q);
    directory = directory;
    raised = λ g lt q. by_hart g ((D g).joined ≡ true)
        (λ e. ap (λ (z : ℕ). (D z).joined) e ∙ s.joined ∙ inv.raised h s.hart (ap (λ (z : ℕ). holds_raised true (v.all.holds z)) (sym e) ∙ q))
        (λ e. absurd (let a : holds_raised true (v.all.holds c) ≡ true = ap (λ (z : ℕ). holds_raised true (v.all.holds z)) (sym e) ∙ q in let b = ap (λ (o : Option Hold). holds_raised true o) s.rests.hold in cc (a, b)))
        (λ nh nc. ap (λ (d : Desk). d.joined) (s.desks g nh nc) ∙ inv.raised g lt q);
    lent = lent;
    serves = serves;
  }

  pub both : FairTo h v u
  both = record {
    inv = both_inv;
    kept = λ g ne. elim (same_or g c) [
      | inl e ↦ subst (λ (z : ℕ). Others z v [] u) (sym e) (record { none = refl; same = λ free. absurd (let a = (inv.serves h c s.hart s.child).1 in cc (a, free)); opens = λ free. absurd (let a = (inv.serves h c s.hart s.child).1 in cc (a, free)); rests = λ i. s.rests; clean = λ q. q })
      | inr nc ↦ record { none = refl; same = λ free. others_same g ne nc; opens = λ free i k e below li is at. let n = s.numbers k e at in (n.0, n.1, n.2, (λ keeps. n.3)); rests = λ i. subst (λ (o : Own). Rests o) (sym (others_same g ne nc)) i; clean = λ q. q }
    ];
    clean = λ q. q;
  }
