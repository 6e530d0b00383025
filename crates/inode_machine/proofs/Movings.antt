-- The directory is handed on: the child refers to it, and the hart to what was the child's.
use Rattle.image_versions.specs.declared.version.Version.{Version}
use Rattle.inode_machine.proofs.Vocabulary.{◌≡◌, ◌≢◌, inl, ℕ, ◌+◌, ◌<◌, ◌≤◌, ◌==◌, Option, Some, None, refl, sym, ◌∙◌, ap, subst, arith, descriptor_count, put, settle, one_if, IsWellFormed, put_same, put_other, well_inherit, Stage, PlaysStep, Mine, Desk, World, stage_of, with_walk, moved_in, serving, Own, Rests, own_of, file_tables_of, IsTied, Has, Inv}
use Rattle.inode_machine.proofs.Basics.{put_elim, has_none, FairTo, my_refs, refs_walk, stage_walk, one_most, SameTied, same_tied, tied_as, HandsAll, tied_handed, both_world}
use Rattle.inode_machine.proofs.Turnings.{Server, Kid, kid, Turns, turned_fair, turned_own, moved_refs, moved_hart, moved_child, moved_child_walk, moved_child_pending, moved_mine, moved_others, moved_walks, moved_counts, moved_apart, serving_child, serving_given, serving_none}
use Rattle.inode_machine.proofs.Lendings.{at_home, inherited, inherit_takes, tree_empty}

-- what the hart has then, by what was the child's directory
abbrev pub moved_mine_own : Version → ℕ → Own → Mine
moved_mine_own version o O = record { refs = put O.mine.refs o (O.mine.refs o + 1); walk = None; pending = None }

abbrev pub moved_own : Version → ℕ → ℕ → Own → Own
moved_own version c o O = record O { mine = moved_mine_own version o O; desk = record (O.desk) { lent = serving c (Some 1) } }

-- Both ways to get there: after the descriptors, or with the tree's step if there are none. H, X, C: the walks and the
-- tree then.
module _ (version : Version) (h c : ℕ) (v : World) (O : Own) (inv : Inv v) (ov : own_of h v ≡ O) (srv : Server h c O) (unlent : (j : ℕ) → j < descriptor_count → (v.desks h).lent j ≡ None) where
  k : Kid h c v
  k = kid h c v O inv ov srv

  abbrev pub home : ℕ
  home = (v.desks h).directory

  abbrev pub old : ℕ
  old = (v.desks c).directory

  abbrev x : Desk
  x = record (v.desks h) { lent = serving c (Some 1) }

  abbrev y : Desk
  y = record (v.desks c) { directory = home; left = None }

  abbrev D : ℕ → Desk
  D = put (put v.desks h x) c y

  abbrev R : ℕ → ℕ
  R = put v.refs home (v.refs home + 1)

  abbrev M : ℕ → Mine
  M = moved_refs v.harts h c home old

  child_rests : Rests (own_of c v)
  child_rests = k.lends.rests

  walk : (v.harts h).walk ≡ None
  walk = ap (λ (o : Own). o.mine.walk) ov ∙ srv.walk

  pending : (v.harts h).pending ≡ None
  pending = ap (λ (o : Own). o.mine.pending) ov ∙ srv.pending

  at_hart : D h ≡ x
  at_hart = put_other (put v.desks h x) c y h (λ q. k.apart (sym q)) ∙ put_same v.desks h x

  at_child : D c ≡ y
  at_child = put_same (put v.desks h x) c y

  at_other : (g : ℕ) → g ≢ h → g ≢ c → D g ≡ v.desks g
  at_other g nh nc = put_other (put v.desks h x) c y g nc ∙ put_other v.desks h x g nh

  -- the table sees nothing of it
  same : (g : ℕ) → SameTied (D g) (v.desks g)
  same g = put_elim (put v.desks h x) c y g (λ d. SameTied d (v.desks g))
      (λ e. subst (λ (z : ℕ). SameTied y (v.desks z)) (sym e) (record { fds = λ i l. refl; lent = λ i l. refl; hand = refl; opening = refl; full = refl }))
      (λ nc. put_elim v.desks h x g (λ d. SameTied d (v.desks g))
      (λ e. subst (λ (z : ℕ). SameTied x (v.desks z)) (sym e) (record { fds = λ i l. refl; lent = λ i l. serving_none c (Some 1) i l ∙ sym (unlent i l); hand = refl; opening = refl; full = refl }))
      (λ nh. same_tied (v.desks g)))

  few : (r : ℕ → ℕ) → ((i : ℕ) → r i ≡ (v.harts h).refs i + one_if (old == i)) → (i : ℕ) → r i ≤ 8
  few r is i = let a = is i in let b = one_most (old == i) in let e = my_refs h v O i ov in let f = srv.few i in omega (arith, a, b, e, f)

  module _ (H : ℕ → Mine) (X : ℕ → ℕ → Option ℕ) (C : ℕ → ℕ) (refs : (g i : ℕ) → (H g).refs i ≡ (M g).refs i) (others : (g : ℕ) → g ≢ h → H g ≡ M g) (ended : (H h ≡ moved_mine_own version old O)) (fds : (g : ℕ) → g ≢ c → X g ≡ v.all.fds g) (cwd : (g : ℕ) → g ≢ c → C g ≡ v.all.cwd g)
      (tied : IsTied (record { files = v.files; desks = D; ids = v.ids; slots = v.slots; clean = v.clean; tree_fds = X; tree_files = v.all.files })) (well : IsWellFormed (record (v.all) { fds = X; cwd = C })) (at : C c ≡ home) where
    turns : Turns h c v v.files D R H X C (serving c (Some 1)) y
    turns = record {
      mine = at_hart;
      his = at_child;
      desks = at_other;
      others = λ g nh nc. others g nh ∙ moved_others v.harts h c home old k.apart g nh nc;
      fds = fds;
      cwd = cwd;
      numbers = λ l d q. (d, q, refl, refl);
      tied = tied;
      inode_types = inv.inode_types;
      well = well;
      counts = moved_counts v H h c home old inv srv.hart k.below k.apart child_rests.refs his_refs mine_refs (λ g nh nc j. refs g j ∙ ap (λ (m : Mine). m.refs j) (moved_others v.harts h c home old k.apart g nh nc));
      apart = λ i g kept q. moved_apart v h home i g inv srv.hart (inv.refers h srv.hart).home (λ e. not_mine i g e kept) kept q;
      few = few (λ i. (H h).refs i) mine_refs;
      refs = λ i. let a = mine_refs i in omega (arith, a);
      walk = ap (λ (m : Mine). m.walk) ended;
      found = ap (λ (m : Mine). m.pending) ended;
      his_refs = his_refs;
      his_walk = ap (λ (m : Mine). m.walk) (others c k.apart) ∙ moved_child_walk v.harts h c home old k.apart ∙ child_rests.walk;
      his_found = ap (λ (m : Mine). m.pending) (others c k.apart) ∙ moved_child_pending v.harts h c home old k.apart ∙ child_rests.pending;
      hand = child_rests.hand;
      joined = child_rests.joined;
      lent = child_rests.lent;
      opening = child_rests.opening;
      left = refl;
      noted = child_rests.noted;
      inode_type = (inv.directory h srv.hart).inode_type;
      phase = inl (serving_child c (Some 1), k.lender, subst (λ (z : Option ℕ). Has z y.fds (C c) y.directory (v.desks h).directory) (sym (serving_given c (Some 1))) at);
    }
      where
        his_refs : (i : ℕ) → (H c).refs i ≡ one_if (home == i)
        his_refs i = refs c i ∙ moved_child v.harts h c home old k.apart child_rests.refs i

        mine_refs : (i : ℕ) → (H h).refs i ≡ (v.harts h).refs i + one_if (old == i)
        mine_refs i = refs h i ∙ moved_mine v.harts h c home old k.apart i

        not_mine : (i g : ℕ) → g ≡ h → v.keeper i ≡ Some g → ⊥
        not_mine i g e kept = has_none h i v O ov (srv.inodes i) (kept ∙ ap (λ (z : ℕ). Some z) e)

    turns_fair : FairTo h v (both_world v v.files D R H X C)
    turns_fair = turned_fair h c v O v.files D R H X C (serving c (Some 1)) y inv ov srv turns

    turns_own : own_of h (both_world v v.files D R H X C) ≡ moved_own version c old O
    turns_own = turned_own h c v O v.files D R H X C (serving c (Some 1)) y inv ov srv turns ∙ (λ z. record O { mine = ended z; desk = record (O.desk) { lent = serving c (Some 1) } })

  moved_hart_is : M h ≡ moved_mine_own version old O
  moved_hart_is = moved_hart v.harts h c home old k.apart ∙ (λ z. record { refs = put (ov z).mine.refs old ((ov z).mine.refs old + 1); walk = walk z; pending = pending z })

  -- after the descriptors
  module _ (at : v.all.cwd c ≡ home) where
    pub moved_fair : FairTo h v (moved_in v h c)
    moved_fair = turns_fair M v.all.fds v.all.cwd (λ g i. refl) (λ g ne. refl) moved_hart_is (λ g ne. refl) (λ g ne. refl) (tied_as (file_tables_of v) D same inv.tied) inv.well at

    pub moved_owns : own_of h (moved_in v h c) ≡ moved_own version c old O
    moved_owns = turns_own M v.all.fds v.all.cwd (λ g i. refl) (λ g ne. refl) moved_hart_is (λ g ne. refl) (λ g ne. refl) (tied_as (file_tables_of v) D same inv.tied) inv.well at

    pub moved_stage : stage_of (moved_in v h c) ≡ stage_of v
    moved_stage = λ z. record { tree = settle v.all; walk = moved_walks v.harts h c home old k.apart z }

  -- with the tree's step, if the hart has no descriptors
  module _ (none : (j : ℕ) → j < descriptor_count → (v.desks h).fds j ≡ None) (his : (j : ℕ) → j < descriptor_count → (v.desks c).fds j ≡ None) where
    abbrev X : ℕ → ℕ → Option ℕ
    X = put v.all.fds c (v.all.fds h)

    abbrev C : ℕ → ℕ
    C = put v.all.cwd c (v.all.cwd h)

    abbrev H : ℕ → Mine
    H = with_walk M h None None

    hands : HandsAll (file_tables_of v) h c x y
    hands = record {
      hart = srv.hart;
      below = k.below;
      apart = k.apart;
      all = λ j lj. unlent j lj ∙ sym (none j lj);
      empty = his;
      lends_none = λ j lj. ap (λ (f : ℕ → Option ℕ). f j) child_rests.lent;
      idle = ap (λ (o : Own). o.desk.opening) ov ∙ srv.opening;
      rests = child_rests.opening;
      kept = λ j lj. refl;
      lent = λ j lj. serving_none c (Some 1) j lj;
      hand = refl;
      opening = refl;
      full = refl;
      given = λ j lj. his j lj ∙ sym (none j lj);
      child_lent = λ j lj. ap (λ (f : ℕ → Option ℕ). f j) child_rests.lent;
      child_hand = refl;
      child_opening = refl;
      child_full = refl;
    }

    ended : H h ≡ moved_mine_own version old O
    ended = put_same M h (record { refs = (M h).refs; walk = None; pending = None }) ∙ ap (λ (m : Mine). record { refs = m.refs; walk = None; pending = None }) moved_hart_is

    others : (g : ℕ) → g ≢ h → H g ≡ M g
    others g ne = put_other M h (record { refs = (M h).refs; walk = None; pending = None }) g ne

    home_is : C c ≡ home
    home_is = put_same v.all.cwd c (v.all.cwd h) ∙ at_home h c v O inv ov srv

    abbrev pub given_world : World
    given_world = both_world v v.files D R H X C

    pub given_fair : FairTo h v given_world
    given_fair = turns_fair H X C (refs_walk M h None None) others ended (λ g nc. put_other v.all.fds c (v.all.fds h) g nc) (λ g nc. put_other v.all.cwd c (v.all.cwd h) g nc) (tied_handed (file_tables_of v) h c x y inv.tied hands) (well_inherit v.all h c inv.well srv.hart) home_is

    pub given_owns : own_of h given_world ≡ moved_own version c old O
    given_owns = turns_own H X C (refs_walk M h None None) others ended (λ g nc. put_other v.all.fds c (v.all.fds h) g nc) (λ g nc. put_other v.all.cwd c (v.all.cwd h) g nc) (tied_handed (file_tables_of v) h c x y inv.tied hands) (well_inherit v.all h c inv.well srv.hart) home_is

    pub given_takes : PlaysStep version (stage_of v) h (inherited c) (stage_of given_world)
    given_takes = inherit_takes version h c v given_world srv.hart k walk (tree_empty h c v inv k his) refl
        (ap (λ (m : Stage). m.walk) (stage_walk h None None (record v { harts = M })) ∙ (λ z. put (moved_walks v.harts h c home old k.apart z) h None))
