-- Unlocking, writing, counting down, and claiming a free number.
use Rattle.image_versions.specs.declared.version.Version.{Version}
use Rattle.inode_machine.proofs.Vocabulary.{◌≡◌, ◌≢◌, ◌⊎◌, inl, inr, ℕ, ◌+◌, ◌-◌, ◌<◌, ◌≤◌, Bool, true, false, ◌==◌, List, [], Option, Some, None, refl, sym, ◌∙◌, ap, subst, arith, nat_tests, Do, unmarked, P, Good, Fine, Safe, Wp, Node, hart_count, put, is_live, settle, row_of, sum_below, one_if, eq_is, eq_not, either, same_or, put_same, put_other, and_true, one_no, Walk, Step, Mine, World, stage_of, with_mark, unlocked, counted_down, down_if, is_dead, is_last, reserved, walk_down_if, Down, UnlockInode, WalkDown, Own, file_tables_of, own_names, Held, view, is_hart, if_kept, own_of, IsReferredTo, Inv, machine, IsReached, Spares, left_or}
use Rattle.inode_machine.proofs.Frame.{file_tables_same, put_elim, ours_none, ours_some, kept_here, HartStep, Fair, fair, own_inodes, has_inode, has_none, directory_named, one_refs, two_refs, refers_put}
use Rattle.inode_machine.proofs.Rules.{opens_slots, s-owned, quiet, each_refs, here_refs, walks_refs, total_same, total_changed, my_refs, not_alone, has_disk, has_node, is_me, is_mine, locks_it, locks_not}

abbrev pub after_unlock : ℕ → World → World
after_unlock i v = record v { lock = put v.lock i None; keeper = put v.keeper i None }

-- a whole inode is given up
pub record Gives (h i : ℕ) (O : Own) (v : World) : Type 0 where
  pub fair : Fair h v (after_unlock i v)
  pub owned : own_of h (after_unlock i v) ≡ record O { inodes = put O.inodes i None }

pub gives : Version → (h i : ℕ) (x : Held) (O : Own) (v : World) → O.desk.lender ≡ None → h < hart_count → Inv v → own_of h v ≡ O → O.inodes i ≡ Some x → x.alone ≡ false → x.disk ≡ x.node → O.mine.pending ≡ None → Gives h i O v
gives version h i x O v free lt inv ov isi shared whole none = record { fair = fair inv did; owned = owned }
  where
    kept : v.keeper i ≡ Some h
    kept = (has_inode h i v O x ov isi).0

    did : HartStep h v (after_unlock i v)
    did =
        record {
          hart = lt;
          inodes = λ j. elim (same_or j i) [
            | inl q ↦ inr (record {
              before = ours_some h (v.keeper j) (ap v.keeper q ∙ kept);
              after = ours_none h (put v.keeper i None j) (ap (put v.keeper i None) q ∙ put_same v.keeper i None);
              whole = λ f. ap v.disk q ∙ has_disk h i v O x ov isi ∙ whole ∙ sym (has_node h i v O x ov isi) ∙ ap v.all.nodes (sym q);
              keeps = λ g is. absurd (let s : put v.lock i None j ≡ None = ap (put v.lock i None) q ∙ put_same v.lock i None in cc);
            })
            | inr ne ↦ inl (record { lock = put_other v.lock i None j ne; keeper = put_other v.keeper i None j ne; disk = refl; node = refl; alone = refl })
          ];
          mine = λ g ne. refl;
          rows = λ g ne. refl;
          size = refl;
          ids = inv.ids;
          file_tables = file_tables_same h (file_tables_of v) inv.tied;
          free = ap (λ (o : Own). o.desk.lender) ov ∙ free;
          raised = inv.raised h lt;
          quiet = λ j. put_elim v.keeper i None j (λ z. z ≡ Some h → (v.desks h).joined ≡ false → v.disk j ≡ v.all.nodes j) (λ q is f. absurd cc) (λ q is f. inv.quiet j h is f);
          inode_type = λ j. inl refl;
          inode_types = inv.inode_types;
          noted = λ n is r s. inv.noted h n lt is r s;
          directory = inv.directory h lt;
          refers = inv.refers h lt;
          well = inv.well;
          counts = inv.counts;
          alone = λ j is. let a = inv.alone j is in record {
            hart = a.hart;
            kept = put_elim v.keeper i None j (λ z. z ≡ Some a.hart) (λ q. absurd (let s : v.alone i ≡ false = ap (λ (y : Held). y.alone) (has_inode h i v O x ov isi).1 ∙ shared in let s2 : v.alone j ≡ v.alone i = ap v.alone q in cc (s, s2, is))) (λ q. a.kept);
            dead = a.dead;
            counts = a.counts;
          };
          kept = λ j. put_elim v.keeper i None j (λ z. z ≡ Some h → IsReferredTo v.desks v.files v.harts h j) (λ q is. absurd cc) (λ q is. (inv.kept j h is).1);
          held = λ j is. elim (same_or j i) [
            | inl q ↦ absurd (let s : put v.keeper i None j ≡ None = ap (put v.keeper i None) q ∙ put_same v.keeper i None in cc)
            | inr ne ↦ elim (inv.held j h (sym (put_other v.keeper i None j ne) ∙ is)) [ inl a ↦ inl (put_other v.lock i None j ne ∙ a) | inr a ↦ inr a ]
          ];
          named = λ j is. inv.named h j lt (ap (λ (o : Own). o.desk.lender) ov ∙ free) is;
          pending = λ j is. absurd (let p : (v.harts h).pending ≡ None = ap (λ (o : Own). o.mine.pending) ov ∙ none in cc);
          walks = λ y is. inv.walks h y lt is;
        }

    owned : own_of h (after_unlock i v) ≡ record O { inodes = put O.inodes i None }
    owned = λ z. record {
      inodes = own_inodes h i v (after_unlock i v) O None ov (rw (put_same v.keeper i None) refl) (λ j ne. (put_other v.keeper i None j ne, (λ r. record { disk = v.disk j; node = v.all.nodes j; alone = v.alone j; locked = is_hart (put_other v.lock i None j ne r) h }))) z;
      mine = ap (λ (o : Own). o.mine) ov z;
      row = ap (λ (o : Own). o.row) ov z;
      ninodes = ap (λ (o : Own). o.ninodes) ov z;
      desk = ap (λ (o : Own). o.desk) ov z;
    }

pub s-give : (version : Version) {A : Type 0} {h i : ℕ} {x : Held} {k : Unit {0} → P (machine version) A} {B : List Step → Type 0} {Q : A → List Step → World → Type 0} {n : ℕ} {es : List Step} {w : World} {O : Own}
    → own_of h w ≡ O → O.desk.lender ≡ None → h < hart_count → 0 < n → O.inodes i ≡ Some x → x.locked ≡ true → x.alone ≡ false → x.disk ≡ x.node → O.mine.pending ≡ None
    → ((l : ℕ) (u : World) → l + 1 ≡ n → own_of h u ≡ record O { inodes = put O.inodes i None } → Safe (machine version) h B Q (k tt) l es u)
    → Safe (machine version) h B Q (Do (UnlockInode i) unmarked k) n es w
s-give version {A} {h} {i} {x} {k} {B} {Q} {n} {es} {w} {O} owns free lt pos isi has shared whole none rest = s-owned version owns free pos (λ v inv ov. (
  locks_it h i v O x ov isi has,
  (λ _ _.
      let a : v.alone i ≡ false = ap (λ (y : Held). y.alone) (has_inode h i v O x ov isi).1 ∙ shared in
      let g = gives version h i x O v free lt inv ov isi shared whole none in
      subst (λ (b : Bool). Fine (machine version) h [] 0 n B es v (unlocked i v b) (λ l. Wp (machine version) h B Q (k tt) l es (unlocked i v b))) (sym a)
      (quiet version g.fair refl pos (λ l q. (rest l (after_unlock i v) q g.owned).wp))),
))

-- a record is written, of an inode that the hart keeps
pub record Writes (h i : ℕ) (y : Option Node) (x : Held) (O : Own) (v : World) : Type 0 where
  pub fair : Fair h v (record v { disk = put v.disk i y })
  pub owned : own_of h (record v { disk = put v.disk i y }) ≡ record O { inodes = put O.inodes i (Some (record x { disk = y })) }

pub writes : Version → (h i : ℕ) (y : Option Node) (x : Held) (O : Own) (v : World) → O.desk.lender ≡ None → h < hart_count → O.desk.joined ≡ true → Inv v → own_of h v ≡ O → O.inodes i ≡ Some x → Writes h i y x O v
writes version h i y x O v free lt joined inv ov isi = record { fair = fair inv did; owned = owned }
  where
    kept : v.keeper i ≡ Some h
    kept = (has_inode h i v O x ov isi).0

    did : HartStep h v (record v { disk = put v.disk i y })
    did =
        record {
          hart = lt;
          inodes = λ j. elim (same_or j i) [
            | inl q ↦ inr (record {
              before = ours_some h (v.keeper j) (ap v.keeper q ∙ kept);
              after = ours_some h (v.keeper j) (ap v.keeper q ∙ kept);
              whole = λ f. absurd (let s : v.keeper j ≡ Some h = ap v.keeper q ∙ kept in cc);
              keeps = λ g is. inv.keeps j g is;
            })
            | inr ne ↦ inl (record { lock = refl; keeper = refl; disk = put_other v.disk i y j ne; node = refl; alone = refl })
          ];
          mine = λ g ne. refl;
          rows = λ g ne. refl;
          size = refl;
          ids = inv.ids;
          file_tables = file_tables_same h (file_tables_of v) inv.tied;
          free = ap (λ (o : Own). o.desk.lender) ov ∙ free;
          raised = inv.raised h lt;
          quiet = λ j is f. absurd (let e : (v.desks h).joined ≡ true = ap (λ (o : Own). o.desk.joined) ov ∙ joined in cc (e, f));
          inode_type = λ j. inl refl;
          inode_types = inv.inode_types;
          noted = λ n is r s. inv.noted h n lt is r s;
          directory = inv.directory h lt;
          refers = inv.refers h lt;
          well = inv.well;
          counts = inv.counts;
          alone = inv.alone;
          kept = λ j is. (inv.kept j h is).1;
          held = λ j is. inv.held j h is;
          named = λ j is. inv.named h j lt (ap (λ (o : Own). o.desk.lender) ov ∙ free) is;
          pending = λ j is. inv.pending h j lt is;
          walks = λ z is. inv.walks h z lt is;
        }

    now : view (record v { disk = put v.disk i y }) h i ≡ record x { disk = y }
    now = (λ r. record { disk = put_same v.disk i y r; node = v.all.nodes i; alone = v.alone i; locked = is_hart (v.lock i) h }) ∙ ap (λ (z : Held). record z { disk = y }) (has_inode h i v O x ov isi).1

    owned : own_of h (record v { disk = put v.disk i y }) ≡ record O { inodes = put O.inodes i (Some (record x { disk = y })) }
    owned = λ z. record {
      inodes = own_inodes h i v (record v { disk = put v.disk i y }) O (Some (record x { disk = y })) ov (kept_here h (v.keeper i) (view (record v { disk = put v.disk i y }) h i) kept ∙ ap (λ (q : Held). Some q) now)
          (λ j ne. (refl, (λ r. record { disk = put_other v.disk i y j ne r; node = v.all.nodes j; alone = v.alone j; locked = is_hart (v.lock j) h }))) z;
      mine = ap (λ (o : Own). o.mine) ov z;
      row = ap (λ (o : Own). o.row) ov z;
      ninodes = ap (λ (o : Own). o.ninodes) ov z;
      desk = ap (λ (o : Own). o.desk) ov z;
    }

-- The last reference to a dead inode is kept, to free it; any other is counted down.

dead_is : (o : Option Node) → is_dead o ≡ true → is_live o ≡ false
dead_is None e = refl
dead_is (Some v) e = grind (arith, nat_tests)

dead_there : (o : Option Node) → is_dead o ≡ true → o ≢ None
dead_there None e q = cc
dead_there (Some v) e q = cc

one_is : (a : ℕ) → (a == 1) ≡ true → a ≡ 1
one_is a e = eq_is a 1 e

-- What is known where it is the last one; the lock is taken too, or isn't.
pub record Lasting (h i : ℕ) (v : World) (O : Own) (L : ℕ → Option ℕ) (b : Bool) : Type 0 where
  pub fair : Fair h v (record (reserved h i v) { lock = L })
  pub dead : is_live (v.all.nodes i) ≡ false
  pub there : v.all.nodes i ≢ None
  pub only : O.mine.refs i ≡ 1
  pub owned : own_of h (record (reserved h i v) { lock = L }) ≡ record O { inodes = put O.inodes i (Some (record { disk = v.all.nodes i; node = v.all.nodes i; alone = true; locked = b })) }

pub lasting : Version → (h i : ℕ) (v : World) (O : Own) (L : ℕ → Option ℕ) (b : Bool) → own_of h v ≡ O → O.desk.lender ≡ None → h < hart_count → Inv v → O.inodes i ≡ None → 0 < O.mine.refs i → O.mine.pending ≡ None → is_last v i ≡ true
    → ((j : ℕ) → j ≢ i → L j ≡ v.lock j) → is_hart (L i) h ≡ b → ((g : ℕ) → L i ≡ Some g → g ≡ h) → Lasting h i v O L b
lasting version h i v O L b ov free lt inv out refers none e there here mine = record { fair = fair inv did; dead = dead; there = has; only = only; owned = owned }
  where
    more_v : 0 < (v.harts h).refs i
    more_v = let r = my_refs h v O i ov in omega (arith, r, refers)

    two : ((v.refs i == 1) ≡ true) × (is_dead (v.disk i) ≡ true)
    two = and_true (v.refs i == 1) (is_dead (v.disk i)) e

    u : World
    u = record (reserved h i v) { lock = L }

    nobody : v.keeper i ≡ None
    nobody = go (v.keeper i) refl
      where
        go : (o : Option ℕ) → v.keeper i ≡ o → o ≡ None
        go None q = refl
        go (Some g) q =
            let p = inv.kept i g q in
            let ne : g ≢ h = (λ z. has_none h i v O ov out (q ∙ ap (λ (y : ℕ). Some y) z)) in
            let t = two_refs v g h i inv p.0 lt ne in
            let r1 : v.refs i ≡ 1 = one_is (v.refs i) two.0 in
            let m = more_v in
            absurd (elim p.1 [ inl b ↦ (let a = opens_slots v g i inv b in omega (arith, t, r1, m, a)) | inr a ↦ omega (arith, t, r1, m, a) ])

    dead : is_live (v.all.nodes i) ≡ false
    dead = subst (λ (o : Option Node). is_live o ≡ false) (inv.whole i nobody) (dead_is (v.disk i) two.1)

    has : v.all.nodes i ≢ None
    has q = dead_there (v.disk i) two.1 (inv.whole i nobody ∙ q)

    only_v : v.refs i ≡ (v.harts h).refs i
    only_v = let o = one_refs v h i inv lt in let r1 = one_is (v.refs i) two.0 in let m = more_v in omega (arith, o, r1, m)

    only : O.mine.refs i ≡ 1
    only = sym (my_refs h v O i ov) ∙ sym only_v ∙ one_is (v.refs i) two.0

    did : HartStep h v u
    did =
        record {
          hart = lt;
          inodes = λ j. elim (same_or j i) [
            | inl q ↦ inr (record {
              before = ours_none h (v.keeper j) (ap v.keeper q ∙ nobody);
              after = ours_some h (u.keeper j) (ap u.keeper q ∙ put_same v.keeper i (Some h));
              whole = λ f. absurd (let s : u.keeper j ≡ Some h = ap u.keeper q ∙ put_same v.keeper i (Some h) in cc);
              keeps = λ g is. ap u.keeper q ∙ put_same v.keeper i (Some h) ∙ ap (λ (z : ℕ). Some z) (sym (mine g (ap L (sym q) ∙ is)));
            })
            | inr ne ↦ inl (record { lock = there j ne; keeper = put_other v.keeper i (Some h) j ne; disk = refl; node = refl; alone = put_other v.alone i true j ne })
          ];
          mine = λ g ne. refl;
          rows = λ g ne. refl;
          size = refl;
          ids = inv.ids;
          file_tables = file_tables_same h (file_tables_of v) inv.tied;
          free = ap (λ (o : Own). o.desk.lender) ov ∙ free;
          raised = inv.raised h lt;
          quiet = λ j. put_elim v.keeper i (Some h) j (λ z. z ≡ Some h → (v.desks h).joined ≡ false → v.disk j ≡ v.all.nodes j) (λ q is f. inv.whole j (ap v.keeper q ∙ nobody)) (λ q is f. inv.quiet j h is f);
          inode_type = λ j. inl refl;
          inode_types = inv.inode_types;
          noted = λ n is r s. inv.noted h n lt is r (put_elim v.alone i true n.number (λ z. z ≡ false → v.alone n.number ≡ false) (λ q e. absurd cc) (λ q e. e) s);
          directory = inv.directory h lt;
          refers = inv.refers h lt;
          well = inv.well;
          counts = inv.counts;
          alone = λ j is. elim (same_or j i) [
            | inl q ↦ record {
              hart = h;
              kept = ap u.keeper q ∙ put_same v.keeper i (Some h);
              dead = subst (λ (z : ℕ). is_live (v.all.nodes z) ≡ false) (sym q) dead;
              counts = subst (λ (z : ℕ). v.refs z ≡ (v.harts h).refs z) (sym q) only_v;
            }
            | inr ne ↦ let a = inv.alone j (sym (put_other v.alone i true j ne) ∙ is) in record { hart = a.hart; kept = put_other v.keeper i (Some h) j ne ∙ a.kept; dead = a.dead; counts = a.counts }
          ];
          kept = λ j. put_elim v.keeper i (Some h) j (λ z. z ≡ Some h → IsReferredTo v.desks v.files v.harts h j) (λ q is. inr (subst (λ (z : ℕ). 0 < (v.harts h).refs z) (sym q) (more_v))) (λ q is. (inv.kept j h is).1);
          held = λ j is. elim (same_or j i) [
            | inl q ↦ inr (ap u.alone q ∙ put_same v.alone i true)
            | inr ne ↦ elim (inv.held j h (sym (put_other v.keeper i (Some h) j ne) ∙ is)) [ inl a ↦ inl (there j ne ∙ a) | inr a ↦ inr (put_other v.alone i true j ne ∙ a) ]
          ];
          named = λ j is. inv.named h j lt (ap (λ (o : Own). o.desk.lender) ov ∙ free) is;
          pending = λ j is. absurd (let p : (v.harts h).pending ≡ None = ap (λ (o : Own). o.mine.pending) ov ∙ none in cc);
          walks = λ y is. inv.walks h y lt is;
        }

    owned : own_of h u ≡ record O { inodes = put O.inodes i (Some (record { disk = v.all.nodes i; node = v.all.nodes i; alone = true; locked = b })) }
    owned = λ z. record {
      inodes = own_inodes h i v u O (Some (record { disk = v.all.nodes i; node = v.all.nodes i; alone = true; locked = b })) ov
          (kept_here h (u.keeper i) (view u h i) (put_same v.keeper i (Some h)) ∙ (λ r. Some (record { disk = inv.whole i nobody r; node = v.all.nodes i; alone = put_same v.alone i true r; locked = here r })))
          (λ j ne. (put_other v.keeper i (Some h) j ne, (λ r. record { disk = v.disk j; node = v.all.nodes j; alone = put_other v.alone i true j ne r; locked = is_hart (there j ne r) h }))) z;
      mine = ap (λ (o : Own). o.mine) ov z;
      row = ap (λ (o : Own). o.row) ov z;
      ninodes = ap (λ (o : Own). o.ninodes) ov z;
      desk = ap (λ (o : Own). o.desk) ov z;
    }

-- One of several, or the last to what has links: it is counted down.
pub record Counting (h i : ℕ) (v : World) (O : Own) : Type 0 where
  pub fair : Fair h v (counted_down h i v)
  pub stage : stage_of (counted_down h i v) ≡ stage_of v
  pub owned : own_of h (counted_down h i v) ≡ record O { mine = record { refs = put O.mine.refs i (O.mine.refs i - 1); walk = O.mine.walk; pending = O.mine.pending } }

abbrev pub MayDrop : Own → ℕ → Type 0
MayDrop O i = (1 < O.mine.refs i) ⊎ ((own_names O.row O.desk i ≡ false) × ((y : Walk) → O.mine.walk ≡ Some y → y.at ≢ i))

pub one_most : (b : Bool) → one_if b ≤ 1
unfolding one_if
one_most true = omega arith
one_most false = omega arith

-- What the hart doesn't name isn't its current directory, whatever it is opening.
pub not_home : (h i : ℕ) (v : World) (O : Own) (o : Option ℕ) → Inv v → own_of h v ≡ O → O.desk.lender ≡ None → h < hart_count → own_names O.row (record (O.desk) { opening = o }) i ≡ false → O.desk.directory ≢ i
not_home h i v O o inv ov free lt unnamed q =
    let at : O.desk.directory ≡ left_or O.desk.left O.row.cwd = subst (λ (p : Own). p.desk.directory ≡ left_or p.desk.left p.row.cwd) ov ((inv.directory h lt).at (ap (λ (o : Own). o.desk.lender) ov ∙ free)) in
    let a : own_names O.row (record (O.desk) { opening = o }) i ≡ true = ap (own_names O.row (record (O.desk) { opening = o })) (sym q) ∙ directory_named O.row (record (O.desk) { opening = o }) at in
    absurd (cc (a, unnamed))

pub spares : (h i : ℕ) (v : World) (O : Own) → own_of h v ≡ O → 0 < O.mine.refs i → ((1 < O.mine.refs i) ⊎ (O.desk.directory ≢ i)) → Spares h i v
spares h i v O ov refers may = subst (λ (o : Own). one_if (o.desk.directory == i) < o.mine.refs i) (sym ov) (at may)
  where
    at : ((1 < O.mine.refs i) ⊎ (O.desk.directory ≢ i)) → one_if (O.desk.directory == i) < O.mine.refs i
    at (inl m) = let o = one_most (O.desk.directory == i) in omega (arith, m, o)
    at (inr ne) = let o = one_no (O.desk.directory == i) (eq_not O.desk.directory i ne) in omega (arith, refers, o)

pub counting : Version → (h i : ℕ) (v : World) (O : Own) → own_of h v ≡ O → O.desk.lender ≡ None → h < hart_count → Inv v → O.inodes i ≡ None → 0 < O.mine.refs i → O.mine.pending ≡ None → MayDrop O i → Counting h i v O
counting version h i v O ov free lt inv out refers none still = record { fair = fair inv did; stage = (λ z. record { tree = settle v.all; walk = walks_refs v.harts h i ((v.harts h).refs i - 1) z }); owned = owned }
  where
    more_v : 0 < (v.harts h).refs i
    more_v = let r = my_refs h v O i ov in omega (arith, r, refers)

    shared : v.alone i ≡ false
    shared = elim (either (v.alone i)) [
      | inr y ↦ y
      | inl y ↦ absurd (let a = inv.alone i y in not_alone h a.hart i v inv lt (λ z. has_none h i v O ov out (a.kept ∙ ap (λ (q : ℕ). Some q) z)) (inr more_v) y a.kept)
    ]

    u : World
    u = counted_down h i v

    keeper_same : (j : ℕ) → u.keeper j ≡ v.keeper j
    keeper_same j = rw (shared) refl

    alone_same : (j : ℕ) → u.alone j ≡ v.alone j
    alone_same j = put_elim v.alone i false j (λ z. z ≡ v.alone j) (λ q. sym (ap v.alone q ∙ shared)) (λ q. refl)

    new : Mine
    new = record { refs = put (v.harts h).refs i ((v.harts h).refs i - 1); walk = (v.harts h).walk; pending = (v.harts h).pending }

    grow : (j : ℕ) → ((j ≡ i) → 1 < (v.harts h).refs i) → 0 < (v.harts h).refs j → 0 < (u.harts h).refs j
    grow j ok a = elim (same_or j i) [
      | inl q ↦ subst (λ (z : ℕ). 0 < (u.harts h).refs z) (sym q) (let r = here_refs v.harts h i ((v.harts h).refs i - 1) in let o = ok q in omega (arith, r, o))
      | inr ne ↦ (let r = each_refs v.harts h i ((v.harts h).refs i - 1) h j (inr ne) in omega (arith, r, a))
    ]

    pin : (j : ℕ) → ((j ≡ i) → 1 < (v.harts h).refs i) → IsReferredTo v.desks v.files v.harts h j → IsReferredTo v.desks v.files u.harts h j
    pin j ok (inl a) = inl a
    pin j ok (inr a) = inr (grow j ok a)

    shrink : (j : ℕ) → IsReached u h j → IsReached v h j
    shrink j (inr p) = inr (sym (ap (λ (m : Mine). m.pending) (put_same v.harts h new)) ∙ p)
    shrink j (inl p) = elim (same_or j i) [
      | inl q ↦ inl (subst (λ (z : ℕ). 0 < (v.harts h).refs z) (sym q) more_v)
      | inr ne ↦ inl (let r = each_refs v.harts h i ((v.harts h).refs i - 1) h j (inr ne) in omega (arith, r, p))
    ]

    pend : (v.harts h).pending ≡ None
    pend = ap (λ (o : Own). o.mine.pending) ov ∙ none

    many : 1 < O.mine.refs i → 1 < (v.harts h).refs i
    many m = let r = my_refs h v O i ov in omega (arith, r, m)

    row_is : row_of v.all h ≡ O.row
    row_is = ap (λ (o : Own). o.row) ov

    home : (v.desks h).directory ≡ i → 0 < (v.harts h).refs i - 1
    home q = elim still [
      | inl m ↦ (let a = many m in omega (arith, a))
      | inr s ↦ absurd (not_home h i v O O.desk.opening inv ov free lt s.0 (ap (λ (o : Own). o.desk.directory) (sym ov) ∙ q))
    ]

    did : HartStep h v u
    did =
        record {
          hart = lt;
          inodes = λ j. inl (record { lock = refl; keeper = keeper_same j; disk = refl; node = refl; alone = alone_same j });
          mine = λ g ne. put_other v.harts h new g ne;
          rows = λ g ne. refl;
          size = refl;
          ids = inv.ids;
          file_tables = file_tables_same h (file_tables_of v) inv.tied;
          free = ap (λ (o : Own). o.desk.lender) ov ∙ free;
          raised = inv.raised h lt;
          quiet = λ j is f. inv.quiet j h (sym (keeper_same j) ∙ is) f;
          inode_type = λ j. inl refl;
          inode_types = inv.inode_types;
          noted = λ n is r s. inv.noted h n lt is (shrink n.number r) (sym (alone_same n.number) ∙ s);
          directory = inv.directory h lt;
          refers = refers_put (v.harts h) (u.harts h) (v.desks h) (v.desks h) i ((v.harts h).refs i - 1) (ap (λ (m : Mine). m.refs) (put_same v.harts h new)) refl (let a = (inv.refers h lt).few i in omega (arith, a)) (λ q. home q) (inv.refers h lt);
          well = inv.well;
          counts = λ j. elim (same_or j i) [
            | inl q ↦ subst (λ (z : ℕ). u.refs z ≡ v.slots z + sum_below hart_count (λ g. (u.harts g).refs z)) (sym q)
                (let t = total_changed v.harts h i ((v.harts h).refs i - 1) lt in let c = inv.counts i in let p = put_same v.refs i (v.refs i - 1) in let m = more_v in let o = one_refs v h i inv lt in omega (arith, t, c, p, m, o))
            | inr ne ↦ put_other v.refs i (v.refs i - 1) j ne ∙ inv.counts j ∙ ap (λ (z : ℕ). v.slots j + z) (sym (total_same v.harts h i ((v.harts h).refs i - 1) j ne))
          ];
          alone = λ j is. let a = inv.alone j (sym (alone_same j) ∙ is) in
              let ne : j ≢ i = (λ q. absurd (let s : v.alone j ≡ v.alone i = ap v.alone q in let s1 = shared in let s2 = sym (alone_same j) ∙ is in cc (s, s1, s2))) in
              record {
                hart = a.hart;
                kept = keeper_same j ∙ a.kept;
                dead = a.dead;
                counts = put_other v.refs i (v.refs i - 1) j ne ∙ a.counts ∙ sym (each_refs v.harts h i ((v.harts h).refs i - 1) a.hart j (inr ne));
              };
          kept = λ j is. pin j (λ q. absurd (has_none h i v O ov out (ap v.keeper (sym q) ∙ sym (keeper_same j) ∙ is))) (inv.kept j h (sym (keeper_same j) ∙ is)).1;
          held = λ j is. elim (inv.held j h (sym (keeper_same j) ∙ is)) [ inl a ↦ inl a | inr a ↦ inr (alone_same j ∙ a) ];
          named = λ j is. elim (inv.named h j lt (ap (λ (o : Own). o.desk.lender) ov ∙ free) is) [
            | inl a ↦ inl (grow j (λ q. elim still [ inl m ↦ many m | inr s ↦ absurd (let f : own_names O.row O.desk i ≡ true = ap (λ (o : Own). own_names o.row o.desk i) (sym ov) ∙ ap (λ (z : ℕ). own_names (row_of v.all h) (v.desks h) z) (sym q) ∙ is in let g = s.0 in cc (f, g)) ]) a)
            | inr a ↦ absurd (cc (a, pend))
          ];
          pending = λ j is. absurd (let p : (u.harts h).pending ≡ (v.harts h).pending = ap (λ (m : Mine). m.pending) (put_same v.harts h new) in cc (p, is, pend));
          walks = λ y is.
              let was : (v.harts h).walk ≡ Some y = sym (ap (λ (m : Mine). m.walk) (put_same v.harts h new)) ∙ is in
              elim (inv.walks h y lt was) [
                | inl a ↦ inl (grow y.at (λ q. elim still [ inl m ↦ many m | inr s ↦ absurd (s.1 y (sym (ap (λ (o : Own). o.mine.walk) ov) ∙ was) q) ]) a)
                | inr a ↦ absurd (cc (a, pend))
              ];
        }

    owned : own_of h u ≡ record O { mine = record { refs = put O.mine.refs i (O.mine.refs i - 1); walk = O.mine.walk; pending = O.mine.pending } }
    owned = λ z. record {
      inodes = ((λ r j. if_kept (keeper_same j r) h (record { disk = v.disk j; node = v.all.nodes j; alone = alone_same j r; locked = is_hart (v.lock j) h })) ∙ ap (λ (o : Own). o.inodes) ov) z;
      mine = (put_same v.harts h new ∙ ap (λ (o : Own). record { refs = put o.mine.refs i (o.mine.refs i - 1); walk = o.mine.walk; pending = o.mine.pending }) ov) z;
      row = ap (λ (o : Own). o.row) ov z;
      ninodes = ap (λ (o : Own). o.ninodes) ov z;
      desk = ap (λ (o : Own). o.desk) ov z;
    }

lock_free : (h i : ℕ) (v : World) (O : Own) → Inv v → own_of h v ≡ O → O.inodes i ≡ None → is_hart (v.lock i) h ≡ false
lock_free h i v O inv ov out = elim (either (is_hart (v.lock i) h)) [ inr y ↦ y | inl y ↦ absurd (locks_not h i v O inv ov out (is_mine h (v.lock i) y)) ]

pub s-down : (version : Version) {A : Type 0} {h i : ℕ} {k : Bool → P (machine version) A} {B : List Step → Type 0} {Q : A → List Step → World → Type 0} {n : ℕ} {es : List Step} {w : World} {O : Own}
    → own_of h w ≡ O → O.desk.lender ≡ None → h < hart_count → 0 < n → O.inodes i ≡ None → 0 < O.mine.refs i → O.mine.pending ≡ None → MayDrop O i
    → ((l : ℕ) (s : Option Node) (u : World) → l + 1 ≡ n → is_live s ≡ false → s ≢ None → O.mine.refs i ≡ 1 → own_of h u ≡ record O { inodes = put O.inodes i (Some (record { disk = s; node = s; alone = true; locked = true })) } → Safe (machine version) h B Q (k true) l es u)
    → ((l : ℕ) (u : World) → l + 1 ≡ n → own_of h u ≡ record O { mine = record { refs = put O.mine.refs i (O.mine.refs i - 1); walk = O.mine.walk; pending = O.mine.pending } } → Safe (machine version) h B Q (k false) l es u)
    → Safe (machine version) h B Q (Do (Down i) unmarked k) n es w
s-down version {A} {h} {i} {k} {B} {Q} {n} {es} {w} {O} owns free lt pos out refers none still last rest = s-owned version owns free pos (λ v inv ov. ((spares h i v O ov refers (elim still [ inl m ↦ inl m | inr m ↦ inr (not_home h i v O O.desk.opening inv ov free lt m.0) ]), has_none h i v O ov out), (λ x honest. at v inv ov (is_last v i) refl)))
  where
    at : (v : World) → Inv v → own_of h v ≡ O → (b : Bool) → is_last v i ≡ b → Good (machine version) Bool h (λ a. []) 0 n B es v ⊥ (with_mark version h unmarked (down_if h i v b)) (λ l a u. Wp (machine version) h B Q (k a) l es u)
    at v inv ov true e =
        let a = lasting version h i v O (put v.lock i (Some h)) true ov free lt inv out refers none e (λ j ne. put_other v.lock i (Some h) j ne) (is_me h (put v.lock i (Some h) i) (put_same v.lock i (Some h)))
        (λ g q. let s : Some h ≡ Some g = sym (put_same v.lock i (Some h)) ∙ q in let c : h ≡ g = cc in sym c) in
        quiet version a.fair refl pos (λ l q. (last l (v.all.nodes i) (record (reserved h i v) { lock = put v.lock i (Some h) }) q a.dead a.there a.only a.owned).wp)
    at v inv ov false e = let a = counting version h i v O ov free lt inv out refers none still in quiet version a.fair a.stage pos (λ l q. (rest l (counted_down h i v) q a.owned).wp)

-- in a walk: what was the last one is kept for later, without its lock
pub s-walk-down : (version : Version) {A : Type 0} {h i : ℕ} {k : Bool → P (machine version) A} {B : List Step → Type 0} {Q : A → List Step → World → Type 0} {n : ℕ} {es : List Step} {w : World} {O : Own}
    → own_of h w ≡ O → O.desk.lender ≡ None → h < hart_count → 0 < n → O.inodes i ≡ None → 0 < O.mine.refs i → O.mine.pending ≡ None → MayDrop O i
    → ((l : ℕ) (s : Option Node) (u : World) → l + 1 ≡ n → is_live s ≡ false → s ≢ None → O.mine.refs i ≡ 1 → own_of h u ≡ record O { inodes = put O.inodes i (Some (record { disk = s; node = s; alone = true; locked = false })) } → Safe (machine version) h B Q (k true) l es u)
    → ((l : ℕ) (u : World) → l + 1 ≡ n → own_of h u ≡ record O { mine = record { refs = put O.mine.refs i (O.mine.refs i - 1); walk = O.mine.walk; pending = O.mine.pending } } → Safe (machine version) h B Q (k false) l es u)
    → Safe (machine version) h B Q (Do (WalkDown i) unmarked k) n es w
s-walk-down version {A} {h} {i} {k} {B} {Q} {n} {es} {w} {O} owns free lt pos out refers none still last rest = s-owned version owns free pos (λ v inv ov. ((spares h i v O ov refers (elim still [ inl m ↦ inl m | inr m ↦ inr (not_home h i v O O.desk.opening inv ov free lt m.0) ]), has_none h i v O ov out), (λ x honest. at v inv ov (is_last v i) refl)))
  where
    at : (v : World) → Inv v → own_of h v ≡ O → (b : Bool) → is_last v i ≡ b → Good (machine version) Bool h (λ a. []) 0 n B es v ⊥ (with_mark version h unmarked (walk_down_if h i v b)) (λ l a u. Wp (machine version) h B Q (k a) l es u)
    at v inv ov true e =
        let a = lasting version h i v O v.lock false ov free lt inv out refers none e (λ j ne. refl) (lock_free h i v O inv ov out)
        (λ g q. absurd (let c : is_last v i ≡ true = e in elim (same_or g h) [ inl s ↦ locks_not h i v O inv ov out (q ∙ ap (λ (z : ℕ). Some z) s) | inr ne ↦ held_not g v inv ov ne q c ])) in
        quiet version a.fair refl pos (λ l q. (last l (v.all.nodes i) (reserved h i v) q a.dead a.there a.only a.owned).wp)
      where
        -- another hart's lock has a reference of its own
        held_not : (g : ℕ) (v : World) → Inv v → own_of h v ≡ O → g ≢ h → v.lock i ≡ Some g → is_last v i ≡ true → ⊥
        held_not g v inv ov ne q c =
            let p = inv.kept i g (inv.keeps i g q) in
            let t = two_refs v g h i inv p.0 lt ne in
            let one = one_is (v.refs i) (and_true (v.refs i == 1) (is_dead (v.disk i)) c).0 in
            let m = my_refs h v O i ov in
            elim p.1 [ inl b ↦ (let a = opens_slots v g i inv b in omega (arith, t, one, m, refers, a)) | inr a ↦ omega (arith, t, one, m, refers, a) ]
    at v inv ov false e = let a = counting version h i v O ov free lt inv out refers none still in quiet version a.fair a.stage pos (λ l q. (rest l (counted_down h i v) q a.owned).wp)
