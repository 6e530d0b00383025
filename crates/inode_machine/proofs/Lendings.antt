-- The rules of an inherit: each descriptor is handed on, then the directory, and then the child starts again.
use Rattle.image_versions.specs.declared.version.Version.{Version}
use Rattle.inode_machine.proofs.Vocabulary.{◌≡◌, ◌≢◌, inl, ℕ, ◌+◌, ◌<◌, not, ◌==◌, [], Option, Some, None, refl, sym, ◌∙◌, ap, subst, arith, Inherit, Done, AsksForWhatStays, hart_count, descriptor_count, Name, Tree, put, settle, resolve, parent, no_fd, refusal_with, refusal_by, effect_with, effect_by, answer_with, answer_by, place_of, IsInPlace, MayChoose, StepWith, settle_again, settled_step, one_if, eq_not, none_any, put_same, put_other, sum_same, well_inherit, Walk, Stage, Step, PlaysStep, OwnMove, Mine, Entry, Desk, World, stage_of, is_at, with_walk, slot_or, more_users, with_lent, serving, type_of, Made, made_by, new_id, Own, Rests, own_names, own_of, file_tables_of, id_at, Has, Inv, left_or}
use Rattle.inode_machine.proofs.Basics.{FairTo, bond_of, stands_on, Fair, fair, has_none, below_is, refs_walk, stage_walk, sells_did, renewed_same, renewed_types, lent_desks, counted_more, tied_lent, HandsAll, tied_handed, both_world}
use Rattle.inode_machine.proofs.Turnings.{Server, Kid, kid, Turns, turned_fair, turned_own, serving_child, serving_given, serving_none}

-- The step of the tree.

abbrev pub inherited_tree : Tree → ℕ → ℕ → Tree
inherited_tree t h c = record t { fds = put t.fds c (t.fds h); cwd = put t.cwd c (t.cwd h) }

inherit_goes : (version : Version) (t : Tree) (h c : ℕ) (res : Option ℕ) (par : Option (ℕ × Name)) → refusal_with version t h (Inherit c) res par ≡ None
unfolding refusal_by
inherit_goes version t h c res par = refl

inherit_effect : (version : Version) (t : Tree) (h c new id : ℕ) (res : Option ℕ) (par : Option (ℕ × Name)) → effect_with version t h (Inherit c) res par new id ≡ inherited_tree t h c
unfolding effect_by
inherit_effect version t h c new id res par = refl

inherit_answer : (version : Version) (t : Tree) (h c id : ℕ) (res : Option ℕ) (par : Option (ℕ × Name)) → answer_with version t h (Inherit c) res par id ≡ Done
unfolding answer_by
inherit_answer version t h c id res par = refl

settled_fds : (t : Tree) → (settle t).fds ≡ t.fds
unfolding settle
settled_fds t = refl

inherit_place : (t : Tree) (h c : ℕ) → h < hart_count → c < hart_count → c ≢ h → ((i : ℕ) → i < descriptor_count → t.fds c i ≡ None) → IsInPlace t h (Inherit c)
unfolding place_of
inherit_place t h c lt lc ne none =
    let e = none_any descriptor_count (λ i. not (no_fd (t.fds c i))) (λ i li. ap (λ (o : Option ℕ). not (no_fd o)) (none i li)) in
    rw (below_is h hart_count lt, below_is c hart_count lc, eq_not c h ne, e) refl

asks_nothing : (t : Tree) → AsksForWhatStays t None None
asks_nothing t = record { node = λ n q. absurd cc; directory = λ q r. absurd cc; child = λ q n r l. absurd cc }

inherit_step : (version : Version) (t : Tree) (h c id : ℕ) (res : Option ℕ) (par : Option (ℕ × Name)) → h < hart_count → c < hart_count → c ≢ h → ((i : ℕ) → i < descriptor_count → t.fds c i ≡ None) → StepWith version (settle t) h (Inherit c) res par Done 0 id (settle (inherited_tree t h c))
inherit_step version t h c id res par lt lc ne none = (
  inherit_goes version (settle t) h c res par,
  sym (inherit_answer version (settle t) h c id res par),
  choice,
  settle_again (inherited_tree t h c) ∙ x.3 ∙ ap settle (inherit_effect version (settle t) h c 0 id None None ∙ sym (inherit_effect version (settle t) h c 0 id res par)),
  inherit_place (settle t) h c lt lc ne (λ i li. ap (λ (f : ℕ → ℕ → Option ℕ). f c i) (settled_fds t) ∙ none i li),
)
  where
    choice : MayChoose (settle t) h (Inherit c) par 0 id
    choice = record { node = λ z. absurd cc; file = λ z. absurd cc }

    now : StepWith version t h (Inherit c) None None Done 0 id (settle (inherited_tree t h c))
    now = (inherit_goes version t h c None None, sym (inherit_answer version t h c id None None), record { node = λ z. absurd cc; file = λ z. absurd cc }, ap settle (sym (inherit_effect version t h c 0 id None None)), inherit_place t h c lt lc ne none)

    x : StepWith version (settle t) h (Inherit c) None None Done 0 id (settle (settle (inherited_tree t h c)))
    x = settled_step version t h (Inherit c) None None Done 0 id (settle (inherited_tree t h c)) (asks_nothing t) now

abbrev pub inherited : ℕ → Step
inherited c = record { move = OwnMove (Inherit c) 0; told = Some (record { act = record { step = Inherit c; answer = Done }; new = 0 }) }

abbrev pub inherited_made : Tree → ℕ → ℕ → Made
inherited_made t h c = record { all = inherited_tree t h c; walk = None; found = None; opened = None; entered = None; left = None; told = (inherited c).told }

pub made_is : (version : Version) (t : Tree) (h c id : ℕ) (k : Option Walk) → made_by version t h id k (OwnMove (Inherit c) 0) ≡ inherited_made t h c
made_is version t h c id k = rw (inherit_goes version t h c (resolve version t h []) (parent version t h []))
    (λ r. record { all = inherit_effect version t h c 0 id (resolve version t h []) (parent version t h []) r; walk = None; found = None; opened = None; entered = None; left = None; told = Some (record { act = record { step = Inherit c; answer = inherit_answer version t h c id (resolve version t h []) (parent version t h []) r }; new = 0 }) })

pub inherit_takes : (version : Version) (h c : ℕ) (v u : World) → h < hart_count → Kid h c v → (v.harts h).walk ≡ None → ((i : ℕ) → i < descriptor_count → v.all.fds c i ≡ None) → (stage_of u).tree ≡ settle (inherited_tree v.all h c) → (stage_of u).walk ≡ put (λ g. (v.harts g).walk) h None → PlaysStep version (stage_of v) h (inherited c) (stage_of u)
inherit_takes version h c v u lt k walk none tree walks = record {
  follows = refl;
  rests = walk;
  acts = record {
    answer = Done;
    id = new_id v;
    deed = refl;
    step = subst (λ (z : Tree). StepWith version (settle v.all) h (Inherit c) (resolve version (settle v.all) h []) (parent version (settle v.all) h []) Done 0 (new_id v) z) (sym tree) (inherit_step version v.all h c (new_id v) (resolve version (settle v.all) h []) (parent version (settle v.all) h []) lt k.below k.apart none);
    walk = walks;
    alone = λ ok q. absurd cc;
    idle = λ g l q. let e : c ≡ g = cc in subst (λ (z : ℕ). (v.harts z).walk ≡ None) e k.lends.rests.walk;
  };
}

-- what a child without descriptors has in the tree
pub tree_empty : (h c : ℕ) (v : World) → Inv v → Kid h c v → ((i : ℕ) → i < descriptor_count → (v.desks c).fds i ≡ None) → (i : ℕ) → i < descriptor_count → v.all.fds c i ≡ None
tree_empty h c v inv k none i li = inv.tied.fds c i k.below li (ap (λ (z : Option ℕ). is_at z i) k.lends.rests.opening) ∙ ap (λ (z : Option ℕ). id_at v.ids z) (none i li)

-- One descriptor more is on its way, and not the last.

abbrev pub lent_world : World → ℕ → ℕ → ℕ → Entry → World
lent_world v h i s e = record v { files = put v.files s (Some (counted_more e)); desks = lent_desks v.desks h i (Some s) }

pub lent_is : (v : World) (h i s : ℕ) (e : Entry) → (v.desks h).fds i ≡ Some s → v.files s ≡ Some e → with_lent v h i ≡ lent_world v h i s e
lent_is v h i s e is at =
    (λ z. record v { files = put v.files (slot_or (is z)) (more_users (v.files (slot_or (is z)))); desks = lent_desks v.desks h i (is z) })
    ∙ (λ z. record v { files = put v.files s (more_users (at z)); desks = lent_desks v.desks h i (Some s) })

pub record LendsOne (h i s : ℕ) (e : Entry) (v : World) (O : Own) : Type 0 where
  pub fair : Fair h v (lent_world v h i s e)
  pub owned : own_of h (lent_world v h i s e) ≡ record O { desk = record (O.desk) { lent = put O.desk.lent i (Some s) } }

pub lends_one : (h c i s : ℕ) (e : Entry) (v : World) (O : Own) → Inv v → own_of h v ≡ O → Server h c O → i < descriptor_count → (v.desks h).fds i ≡ Some s → (v.desks h).lent i ≡ None → v.files s ≡ Some e → LendsOne h i s e v O
lends_one h c i s e v O inv ov srv li is unlent at = record {
  fair = fair inv (sells_did h v F D v.slots v.all v.harts srv.hart inv (record {
    kin = record {
      tied = tied_lent (file_tables_of v) h i s e inv.tied srv.hart li is unlent at;
      desks = λ g ne. put_other v.desks h new g ne;
      numbers = λ g j l d lg ne lj q a. let x = renewed_same v.files s e (counted_more e) l d at refl refl a in (x.0, x.1, x.2, inl x.3);
      clean = λ q. q;
      bond = ap (λ (d : Desk). bond_of d) desk_is ∙ (λ z. record {
        child = put_other (v.desks h).lent i (Some s) descriptor_count (λ q. absurd (omega (arith, li, q))) z;
        given = put_other (v.desks h).lent i (Some s) (descriptor_count + 1) (λ q. absurd (omega (arith, li, q))) z;
        lender = (v.desks h).lender;
      });
      stays = inl (ap (λ (d : Desk). d.directory) desk_is);
    };
    free = ap (λ (d : Desk). d.lender) desk_is ∙ free;
    unlent = free;
    joined = ap (λ (d : Desk). d.joined) desk_is;
    holds = refl;
    inode_types = λ l x q. renewed_types v s e (counted_more e) inv at refl refl refl l x q;
    noted = λ m q. (sym (ap (λ (d : Desk). d.noted) desk_is) ∙ q, (λ p. p));
    directory = stands_on (v.desks h) (D h) (v.all.cwd h) v.all.nodes free (ap (λ (d : Desk). d.directory) desk_is) (ap (λ (d : Desk). d.left) desk_is) (inv.directory h srv.hart);
    home = ap (λ (d : Desk). d.directory) desk_is;
    few = (inv.refers h srv.hart).few;
    well = inv.well;
    nodes = refl;
    size = refl;
    rows = λ g ne. refl;
    ids = inv.ids;
    others = λ g ne. refl;
    refs = λ j. omega arith;
    counts = inv.counts;
    pinned = λ j kept o. absurd (has_none h j v O ov (srv.inodes j) kept);
    names = λ j q. (λ z. own_names (own_of h v).row (sym desk_is z) j) ∙ q;
    still = ap (λ (o : Own). o.mine.pending) ov ∙ srv.pending;
    found = ap (λ (o : Own). o.mine.pending) ov ∙ srv.pending;
    walk = ap (λ (o : Own). o.mine.walk) ov ∙ srv.walk;
    lone = λ j a. a.counts;
  }));
  owned = λ z. record {
    inodes = ap (λ (o : Own). o.inodes) ov z;
    mine = ap (λ (o : Own). o.mine) ov z;
    row = ap (λ (o : Own). o.row) ov z;
    ninodes = ap (λ (o : Own). o.ninodes) ov z;
    desk = (desk_is ∙ ap (λ (o : Own). record (o.desk) { lent = put o.desk.lent i (Some s) }) ov) z;
  };
}
  where
    new : Desk
    new = record (v.desks h) { lent = put (v.desks h).lent i (Some s) }

    F : ℕ → Option Entry
    F = put v.files s (Some (counted_more e))

    D : ℕ → Desk
    D = lent_desks v.desks h i (Some s)

    desk_is : D h ≡ new
    desk_is = put_same v.desks h new

    free : (v.desks h).lender ≡ None
    free = ap (λ (o : Own). o.desk.lender) ov ∙ srv.free

-- the hart's directory is the tree's
pub at_home : (h c : ℕ) (v : World) (O : Own) → Inv v → own_of h v ≡ O → Server h c O → v.all.cwd h ≡ (v.desks h).directory
at_home h c v O inv ov srv = sym ((inv.directory h srv.hart).at (ap (λ (o : Own). o.desk.lender) ov ∙ srv.free) ∙ (λ z. left_or ((ap (λ (o : Own). o.desk.left) ov ∙ srv.left) z) (v.all.cwd h)))

-- The last one is: the child has them all, in the table and in the tree.

abbrev pub ended_mine : Own → Mine
ended_mine O = record { refs = O.mine.refs; walk = None; pending = None }

module _ (version : Version) (h c i s : ℕ) (e : Entry) (v : World) (O : Own) (inv : Inv v) (ov : own_of h v ≡ O) (srv : Server h c O) (none : (j : ℕ) → j < descriptor_count → (v.desks c).fds j ≡ None) (li : i < descriptor_count) (is : (v.desks h).fds i ≡ Some s) (unlent : (v.desks h).lent i ≡ None) (at : v.files s ≡ Some e)
    (all : (j : ℕ) → j < descriptor_count → put (v.desks h).lent i (Some s) j ≡ (v.desks h).fds j) where
  k : Kid h c v
  k = kid h c v O inv ov srv

  abbrev F : ℕ → Option Entry
  F = put v.files s (Some (counted_more e))

  abbrev before : ℕ → Desk
  before = lent_desks v.desks h i (Some s)

  abbrev x : Desk
  x = record (before h) { lent = serving c (Some 0) }

  abbrev y : Desk
  y = record (before c) { fds = put (before h).lent descriptor_count None }

  abbrev D : ℕ → Desk
  D = put (put before h x) c y

  abbrev X : ℕ → ℕ → Option ℕ
  X = put v.all.fds c (v.all.fds h)

  abbrev C : ℕ → ℕ
  C = put v.all.cwd c (v.all.cwd h)

  abbrev H : ℕ → Mine
  H = with_walk v.harts h None None

  here : before h ≡ record (v.desks h) { lent = put (v.desks h).lent i (Some s) }
  here = put_same v.desks h (record (v.desks h) { lent = put (v.desks h).lent i (Some s) })

  there : (g : ℕ) → g ≢ h → before g ≡ v.desks g
  there g ne = put_other v.desks h (record (v.desks h) { lent = put (v.desks h).lent i (Some s) }) g ne

  lent_all : (j : ℕ) → j < descriptor_count → (before h).lent j ≡ (before h).fds j
  lent_all j lj = ap (λ (d : Desk). d.lent j) here ∙ all j lj ∙ ap (λ (d : Desk). d.fds j) (sym here)

  child_rests : Rests (own_of c v)
  child_rests = k.lends.rests

  hands : HandsAll (record { files = F; desks = before; ids = v.ids; slots = v.slots; clean = v.clean; tree_fds = v.all.fds; tree_files = v.all.files }) h c x y
  hands = record {
    hart = srv.hart;
    below = k.below;
    apart = k.apart;
    all = lent_all;
    empty = λ j lj. ap (λ (d : Desk). d.fds j) (there c k.apart) ∙ none j lj;
    lends_none = λ j lj. ap (λ (d : Desk). d.lent j) (there c k.apart) ∙ ap (λ (f : ℕ → Option ℕ). f j) child_rests.lent;
    idle = ap (λ (d : Desk). d.opening) here ∙ ap (λ (o : Own). o.desk.opening) ov ∙ srv.opening;
    rests = ap (λ (d : Desk). d.opening) (there c k.apart) ∙ child_rests.opening;
    kept = λ j lj. refl;
    lent = λ j lj. serving_none c (Some 0) j lj;
    hand = refl;
    opening = refl;
    full = refl;
    given = λ j lj. put_other (before h).lent descriptor_count None j (λ q. absurd (omega (arith, q, lj))) ∙ lent_all j lj;
    child_lent = λ j lj. ap (λ (d : Desk). d.lent j) (there c k.apart) ∙ ap (λ (f : ℕ → Option ℕ). f j) child_rests.lent;
    child_hand = refl;
    child_opening = refl;
    child_full = refl;
  }

  mine_is : H h ≡ ended_mine O
  mine_is = put_same v.harts h (record { refs = (v.harts h).refs; walk = None; pending = None }) ∙ ap (λ (o : Own). record { refs = o.mine.refs; walk = None; pending = None }) ov

  his_is : H c ≡ v.harts c
  his_is = put_other v.harts h (record { refs = (v.harts h).refs; walk = None; pending = None }) c k.apart

  turns : Turns h c v F D v.refs H X C (serving c (Some 0)) y
  turns = record {
    mine = put_other (put before h x) c y h (λ q. k.apart (sym q)) ∙ put_same before h x ∙ ap (λ (d : Desk). record d { lent = serving c (Some 0) }) here;
    his = put_same (put before h x) c y;
    desks = λ g nh nc. put_other (put before h x) c y g nc ∙ put_other before h x g nh ∙ there g nh;
    others = λ g nh nc. put_other v.harts h (record { refs = (v.harts h).refs; walk = None; pending = None }) g nh;
    fds = λ g nc. put_other v.all.fds c (v.all.fds h) g nc;
    cwd = λ g nc. put_other v.all.cwd c (v.all.cwd h) g nc;
    numbers = λ l d q. renewed_same v.files s e (counted_more e) l d at refl refl q;
    tied = tied_handed (record { files = F; desks = before; ids = v.ids; slots = v.slots; clean = v.clean; tree_fds = v.all.fds; tree_files = v.all.files }) h c x y (tied_lent (file_tables_of v) h i s e inv.tied srv.hart li is unlent at) hands;
    inode_types = λ l d q. renewed_types v s e (counted_more e) inv at refl refl refl l d q;
    well = well_inherit v.all h c inv.well srv.hart;
    counts = λ j. inv.counts j ∙ ap (λ (z : ℕ). v.slots j + z) (sym (sum_same hart_count (λ g. (v.harts g).refs j) (λ g. (H g).refs j) (λ g l. refs_walk v.harts h None None g j)));
    apart = λ j g kept q. refl;
    few = λ j. let r = refs_walk v.harts h None None h j in let a = (inv.refers h srv.hart).few j in omega (arith, r, a);
    refs = λ j. let r = refs_walk v.harts h None None h j in omega (arith, r);
    walk = ap (λ (m : Mine). m.walk) mine_is;
    found = ap (λ (m : Mine). m.pending) mine_is;
    his_refs = λ j. ap (λ (m : Mine). m.refs j) his_is ∙ child_rests.refs j ∙ (λ z. one_if ((sym (there c k.apart) z).directory == j));
    his_walk = ap (λ (m : Mine). m.walk) his_is ∙ child_rests.walk;
    his_found = ap (λ (m : Mine). m.pending) his_is ∙ child_rests.pending;
    hand = ap (λ (d : Desk). d.hand) (there c k.apart) ∙ child_rests.hand;
    joined = ap (λ (d : Desk). d.joined) (there c k.apart) ∙ child_rests.joined;
    lent = ap (λ (d : Desk). d.lent) (there c k.apart) ∙ child_rests.lent;
    opening = ap (λ (d : Desk). d.opening) (there c k.apart) ∙ child_rests.opening;
    left = ap (λ (d : Desk). d.left) (there c k.apart) ∙ child_rests.left;
    noted = ap (λ (d : Desk). d.noted) (there c k.apart) ∙ child_rests.noted;
    inode_type = ap (λ (d : Desk). type_of (v.all.nodes d.directory)) (there c k.apart) ∙ (inv.directory c k.below).inode_type;
    phase = inl (serving_child c (Some 0), ap (λ (d : Desk). d.lender) (there c k.apart) ∙ k.lender, subst (λ (z : Option ℕ). Has z y.fds (C c) y.directory (v.desks h).directory) (sym (serving_given c (Some 0))) (put_same v.all.cwd c (v.all.cwd h) ∙ at_home h c v O inv ov srv));
  }

  abbrev pub all_lent : World
  all_lent = both_world v F D v.refs H X C

  pub all_lent_fair : FairTo h v all_lent
  all_lent_fair = turned_fair h c v O F D v.refs H X C (serving c (Some 0)) y inv ov srv turns

  pub all_lent_own : own_of h all_lent ≡ record O { mine = ended_mine O; desk = record (O.desk) { lent = serving c (Some 0) } }
  all_lent_own = turned_own h c v O F D v.refs H X C (serving c (Some 0)) y inv ov srv turns ∙ (λ z. record O { mine = mine_is z; desk = record (O.desk) { lent = serving c (Some 0) } })

  pub all_lent_takes : PlaysStep version (stage_of v) h (inherited c) (stage_of all_lent)
  all_lent_takes = inherit_takes version h c v all_lent srv.hart k (ap (λ (o : Own). o.mine.walk) ov ∙ srv.walk) (tree_empty h c v inv k none) refl (ap (λ (m : Stage). m.walk) (stage_walk h None None v))
