-- The start of an inherit: the child is reserved, and what else holds does so still.
use Rattle.image_versions.specs.declared.version.Version.{Version}
use Rattle.inode_machine.proofs.Vocabulary.{◌≡◌, ◌≢◌, inl, inr, ℕ, ◌<◌, Bool, false, ◌==◌, [], Option, Some, None, refl, sym, ◌∙◌, ap, subst, Begins, Right, hart_count, descriptor_count, put, row_of, one_if, same_or, put_same, put_other, Desk, World, child_of, given_of, serving, type_of, Own, Idle, Rests, Others, file_tables_of, own_names, own_of, Has, Lends, Inv, left_or, begin_call, covered_calls, serving_world}
use Rattle.plain_tree.specs.declared.call.Call.TheVariants as calls
use Rattle.inode_machine.proofs.Basics.{Inherits, inherit_begins, SameTied, same_tied, tied_as}
use Rattle.inode_machine.proofs.Turnings.{serving_child, serving_given, serving_none}
use Rattle.inode_machine.proofs.Inherits.{begun_own, inherit_ok}

module _ (h c : ℕ) (w : World) (lt : h < hart_count) (below : c < hart_count) (apart : c ≢ h) (rests : Idle h w) (his : Idle c w) (free : (w.desks h).lender ≡ None) (unlent : (w.desks c).lender ≡ None) where
  abbrev x : Desk
  x = record (w.desks h) { lent = serving c None }

  abbrev y : Desk
  y = record (w.desks c) { lender = Some h }

  abbrev D : ℕ → Desk
  D = put (put w.desks h x) c y

  abbrev pub started : World
  started = serving_world w h c

  at_hart : D h ≡ x
  at_hart = put_other (put w.desks h x) c y h (λ e. apart (sym e)) ∙ put_same w.desks h x

  at_child : D c ≡ y
  at_child = put_same (put w.desks h x) c y

  at_other : (g : ℕ) → g ≢ h → g ≢ c → D g ≡ w.desks g
  at_other g nh nc = put_other (put w.desks h x) c y g nc ∙ put_other w.desks h x g nh

  by_hart : (g : ℕ) (T : Type 0) → (g ≡ h → T) → (g ≡ c → T) → (g ≢ h → g ≢ c → T) → T
  by_hart g T a b o = elim (same_or g h) [ inl e ↦ a e | inr nh ↦ elim (same_or g c) [ inl e ↦ b e | inr nc ↦ o nh nc ] ]

  part : {A : Type 0} (f : Desk → A) (g : ℕ) → f x ≡ f (w.desks h) → f y ≡ f (w.desks c) → f (D g) ≡ f (w.desks g)
  part f g mine hers = by_hart g (f (D g) ≡ f (w.desks g))
      (λ e. ap (λ (z : ℕ). f (D z)) e ∙ ap f at_hart ∙ mine ∙ ap (λ (z : ℕ). f (w.desks z)) (sym e))
      (λ e. ap (λ (z : ℕ). f (D z)) e ∙ ap f at_child ∙ hers ∙ ap (λ (z : ℕ). f (w.desks z)) (sym e))
      (λ nh nc. ap f (at_other g nh nc))

  lender_is : (g : ℕ) → (D g).lender ≡ None → (w.desks g).lender ≡ None
  lender_is g is = by_hart g ((w.desks g).lender ≡ None)
      (λ e. ap (λ (z : ℕ). (w.desks z).lender) e ∙ free)
      (λ e. ap (λ (z : ℕ). (w.desks z).lender) e ∙ unlent)
      (λ nh nc. ap (λ (d : Desk). d.lender) (sym (at_other g nh nc)) ∙ is)

  names_is : (g i : ℕ) → own_names (row_of w.all g) (D g) i ≡ own_names (row_of w.all g) (w.desks g) i
  names_is g i = part (λ d. own_names (row_of w.all g) d i) g
      (by_names g i x (w.desks h) refl refl)
      (by_names g i y (w.desks c) refl refl)
    where
      by_names : (g i : ℕ) (d e : Desk) → d.opening ≡ e.opening → d.left ≡ e.left → own_names (row_of w.all g) d i ≡ own_names (row_of w.all g) e i
      by_names g i d e o l = λ z. own_names (row_of w.all g) (record e { opening = o z; left = l z }) i

  child_rests : Idle c started
  child_rests = record {
    inodes = his.inodes;
    refs = λ i. his.refs i ∙ ap (λ (z : ℕ). one_if (z == i)) (sym (ap (λ (d : Desk). d.directory) at_child));
    walk = his.walk;
    pending = his.pending;
    hold = his.hold;
    hand = ap (λ (d : Desk). d.hand) at_child ∙ his.hand;
    joined = ap (λ (d : Desk). d.joined) at_child ∙ his.joined;
    lent = ap (λ (d : Desk). d.lent) at_child ∙ his.lent;
    opening = ap (λ (d : Desk). d.opening) at_child ∙ his.opening;
    left = ap (λ (d : Desk). d.left) at_child ∙ his.left;
    noted = ap (λ (d : Desk). d.noted) at_child ∙ his.noted;
  }

  other_same : (g : ℕ) → g ≢ h → g ≢ c → own_of g started ≡ own_of g w
  other_same g nh nc = λ z. record { inodes = (own_of g w).inodes; mine = w.harts g; row = row_of w.all g; ninodes = w.all.ninodes; desk = at_other g nh nc z }

  same : (g : ℕ) → SameTied (D g) (w.desks g)
  same g = by_hart g (SameTied (D g) (w.desks g))
      (λ e. subst (λ (z : ℕ). SameTied (D z) (w.desks z)) (sym e) (subst (λ (d : Desk). SameTied d (w.desks h)) (sym at_hart) (record { fds = λ i l. refl; lent = λ i l. serving_none c None i l ∙ sym (ap (λ (f : ℕ → Option ℕ). f i) rests.lent); hand = refl; opening = refl; full = refl })))
      (λ e. subst (λ (z : ℕ). SameTied (D z) (w.desks z)) (sym e) (subst (λ (d : Desk). SameTied d (w.desks c)) (sym at_child) (record { fds = λ i l. refl; lent = λ i l. refl; hand = refl; opening = refl; full = refl })))
      (λ nh nc. subst (λ (d : Desk). SameTied d (w.desks g)) (sym (at_other g nh nc)) (same_tied (w.desks g)))

  pub started_inv : Inv w → ((i : ℕ) → i < descriptor_count → (w.desks c).fds i ≡ None) → Inv started
  started_inv inv none = record {
    well = inv.well;
    ids = inv.ids;
    whole = inv.whole;
    quiet = λ i g is q. inv.quiet i g is (sym (part (λ d. d.joined) g refl refl) ∙ q);
    keeps = inv.keeps;
    kept = λ i g is. let k = inv.kept i g is in (k.0, elim k.1 [ inl o ↦ inl (record { fd = o.fd; below = o.below; slot = o.slot; is = part (λ d. d.fds o.fd) g refl refl ∙ o.is; entry = o.entry; at = o.at; number = o.number }) | inr p ↦ inr p ]);
    held = inv.held;
    alone = inv.alone;
    counts = inv.counts;
    refers = λ g l. let r = inv.refers g l in record { few = r.few; home = subst (λ (z : ℕ). 0 < (w.harts g).refs z) (sym (part (λ d. d.directory) g refl refl)) r.home };
    tied = tied_as (file_tables_of w) D same inv.tied;
    inode_types = inv.inode_types;
    named = λ g i l f is. inv.named g i l (lender_is g f) (sym (names_is g i) ∙ is);
    pending = inv.pending;
    walks = inv.walks;
    noted = λ g n l is r s. inv.noted g n l (sym (part (λ d. d.noted) g refl refl) ∙ is) r s;
    raised = λ g l q. part (λ d. d.joined) g refl refl ∙ inv.raised g l q;
    directory = λ g l. let s = inv.directory g l in record {
      at = λ f. part (λ d. d.directory) g refl refl ∙ s.at (lender_is g f) ∙ (λ z. left_or (sym (part (λ d. d.left) g refl refl) z) (w.all.cwd g));
      inode_type = ap (λ (n : ℕ). type_of (w.all.nodes n)) (part (λ d. d.directory) g refl refl) ∙ s.inode_type;
    };
    lent = lent;
    serves = λ b g l is. by_hart b ((g < hart_count) × ((D g).lender ≡ Some b))
        (λ e.
        let a : Some c ≡ Some g = sym (serving_child c None) ∙ ap (λ (d : Desk). child_of d) (sym at_hart) ∙ ap (λ (z : ℕ). child_of (D z)) (sym e) ∙ is in
        let q : c ≡ g = cc in
        (subst (λ (z : ℕ). z < hart_count) q below, ap (λ (z : ℕ). (D z).lender) (sym q) ∙ ap (λ (d : Desk). d.lender) at_child ∙ ap (λ (z : ℕ). Some z) (sym e)))
        (λ e. absurd (let a : child_of (D c) ≡ Some g = ap (λ (z : ℕ). child_of (D z)) (sym e) ∙ is in let n = ap (λ (f : ℕ → Option ℕ). f descriptor_count) child_rests.lent in cc (a, n)))
        (λ nh nc.
        let a = inv.serves b g l (ap (λ (d : Desk). child_of d) (sym (at_other b nh nc)) ∙ is) in
        let gh : g ≢ h = (λ e. let p : (w.desks h).lender ≡ Some b = ap (λ (z : ℕ). (w.desks z).lender) (sym e) ∙ a.1 in absurd (cc (p, free))) in
        let gc : g ≢ c = (λ e. let p : (w.desks c).lender ≡ Some b = ap (λ (z : ℕ). (w.desks z).lender) (sym e) ∙ a.1 in absurd (cc (p, unlent))) in
        (a.0, ap (λ (d : Desk). d.lender) (at_other g gh gc) ∙ a.1));
  }
    where
      home : w.all.cwd c ≡ (w.desks c).directory
      home = sym ((inv.directory c below).at unlent ∙ (λ z. left_or (his.left z) (w.all.cwd c)))

      mine : Lends started h c
      mine = record {
        hart = lt;
        free = ap (λ (d : Desk). d.lender) at_hart ∙ free;
        child = ap (λ (d : Desk). child_of d) at_hart ∙ serving_child c None;
        rests = child_rests;
        has = subst (λ (d : Desk). Has (given_of (D h)) d.fds (w.all.cwd c) d.directory (D h).directory) (sym at_child)
            (subst (λ (d : Desk). Has (given_of d) (w.desks c).fds (w.all.cwd c) (w.desks c).directory d.directory) (sym at_hart)
            (subst (λ (z : Option ℕ). Has z (w.desks c).fds (w.all.cwd c) (w.desks c).directory (w.desks h).directory) (sym (serving_given c None)) (none, home)));
      }

      lent : (g b : ℕ) → g < hart_count → (D g).lender ≡ Some b → Lends started b g
      lent g b l is = by_hart g (Lends started b g)
          (λ e. absurd (let a : (D h).lender ≡ Some b = ap (λ (z : ℕ). (D z).lender) (sym e) ∙ is in let n = ap (λ (d : Desk). d.lender) at_hart ∙ free in cc (a, n)))
          (λ e.
          let a : Some h ≡ Some b = sym (ap (λ (d : Desk). d.lender) at_child) ∙ ap (λ (z : ℕ). (D z).lender) (sym e) ∙ is in
          let q : h ≡ b = cc in
          subst (λ (z : ℕ). Lends started z g) q (subst (λ (z : ℕ). Lends started h z) (sym e) mine))
          (λ nh nc. third nh nc (inv.lent g b l (ap (λ (d : Desk). d.lender) (sym (at_other g nh nc)) ∙ is)))
        where
          third : g ≢ h → g ≢ c → Lends w b g → Lends started b g
          third nh nc k =
              let bh : b ≢ h = (λ e. let a : child_of (w.desks h) ≡ Some g = ap (λ (z : ℕ). child_of (w.desks z)) (sym e) ∙ k.child in let n = ap (λ (f : ℕ → Option ℕ). f descriptor_count) rests.lent in absurd (cc (a, n))) in
              let bc : b ≢ c = (λ e. let a : child_of (w.desks c) ≡ Some g = ap (λ (z : ℕ). child_of (w.desks z)) (sym e) ∙ k.child in let n = ap (λ (f : ℕ → Option ℕ). f descriptor_count) his.lent in absurd (cc (a, n))) in
              record {
                hart = k.hart;
                free = ap (λ (d : Desk). d.lender) (at_other b bh bc) ∙ k.free;
                child = ap (λ (d : Desk). child_of d) (at_other b bh bc) ∙ k.child;
                rests = subst (λ (o : Own). Rests o) (sym (other_same g nh nc)) k.rests;
                has = subst (λ (d : Desk). Has (given_of d) (D g).fds (w.all.cwd g) (D g).directory d.directory) (sym (at_other b bh bc))
                    (subst (λ (d : Desk). Has (given_of (w.desks b)) d.fds (w.all.cwd g) d.directory (w.desks b).directory) (sym (at_other g nh nc)) k.has);
              }

  pub started_rests : (g : ℕ) → g ≢ h → Idle g w → Idle g started
  started_rests g nh i = elim (same_or g c) [ inl e ↦ subst (λ (z : ℕ). Idle z started) (sym e) child_rests | inr nc ↦ subst (λ (o : Own). Rests o) (sym (other_same g nh nc)) i ]

  pub started_kept : (g : ℕ) → g ≢ h → g ≢ c → Others g w [] started
  started_kept g nh nc = record { none = refl; same = λ f. other_same g nh nc; opens = λ f i k e below li is at. (e, at, refl, (λ keeps. refl)); rests = λ i. subst (λ (o : Own). Rests o) (sym (other_same g nh nc)) i; clean = λ q. q }

  pub started_own : own_of h started ≡ begun_own c (own_of h w)
  started_own = λ z. record { inodes = (own_of h w).inodes; mine = w.harts h; row = row_of w.all h; ninodes = w.all.ninodes; desk = at_hart z }

  pub started_home : Inv started → (w.desks h).directory ≡ w.all.cwd h
  started_home inv = ap (λ (d : Desk). d.directory) (sym at_hart) ∙ (inv.directory h lt).at (ap (λ (d : Desk). d.lender) at_hart ∙ free) ∙ (λ z. left_or ((ap (λ (d : Desk). d.left) at_hart ∙ rests.left) z) (w.all.cwd h))

-- The call, from its start on.
pub inherit_right : (version : Version) (h c : ℕ) (busy : ℕ → Bool) (w u : World) → h < hart_count → (u.desks h).lender ≡ None → ((other : ℕ) → busy other ≡ false → Idle other w) → busy h ≡ false → begin_call h (calls.Inherit c) busy w ≡ Begins u → Right (covered_calls version) h (calls.Inherit c) busy w u
inherit_right version h c busy w u lt out idle free e = subst (λ (z : World). Right (covered_calls version) h (calls.Inherit c) busy w z) i.is (record {
  inv = λ inv. started_inv h c w lt i.below i.apart (idle h free) his unlent i.unlent inv i.empty;
  halted = λ inv. started_inv h c w lt i.below i.apart (idle h free) his unlent i.unlent inv i.empty;
  kept = λ g ne b. started_kept h c w lt i.below i.apart (idle h free) his unlent i.unlent g ne (λ q. let f : busy g ≡ false = ap busy q ∙ i.free in cc (b, f));
  rests = λ g ne b. started_rests h c w lt i.below i.apart (idle h free) his unlent i.unlent g ne (idle g b);
  tree = refl;
  clean = λ q. q;
  none = λ q. tt;
  runs = λ inv. (inherit_ok version h c (own_of h w) lt unlent (idle h free) (started_home h c w lt i.below i.apart (idle h free) his unlent i.unlent inv) (serving_world w h c) (started_own h c w lt i.below i.apart (idle h free) his unlent i.unlent)).wp;
})
  where
    i : Inherits h c busy w u
    i = inherit_begins h c busy w u e

    his : Idle c w
    his = idle c i.free

    unlent : (w.desks h).lender ≡ None
    unlent =
        ap (λ (d : Desk). d.lender) (sym (put_other (put w.desks h (record (w.desks h) { lent = serving c None })) c (record (w.desks c) { lender = Some h }) h (λ q. i.apart (sym q)) ∙ put_same w.desks h (record (w.desks h) { lent = serving c None })))
        ∙ ap (λ (z : World). (z.desks h).lender) i.is ∙ out
