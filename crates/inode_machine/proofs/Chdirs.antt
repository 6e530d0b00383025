-- A change of directory: the tree's step, what is taken back of it, and the hart's own.
use Rattle.image_versions.specs.declared.version.Version.{Version}
use Rattle.inode_machine.proofs.Vocabulary.{◌≡◌, inl, inr, ℕ, ◌+◌, ◌<◌, Bool, true, false, ◌==◌, ◌||◌, List, [], Option, Some, None, refl, sym, ◌∙◌, ap, subst, arith, Do, unmarked, P, Fine, Safe, Wp, NotDirectory, Node, NodeKind, Directory, File, Device, Chdir, Done, Failed, hart_count, Name, Tree, put, is_directory, hold_names, settle, node_at, node_or, answer_by, effect_by, place_of, refusal_with, refusal_by, StepWith, key_names, row_of, one_if, either, eq_is, or_right, put_same, put_other, well_chdir, Step, Desk, World, SetDirectory, OfDirectory, type_of, type_of_kind, is_at, unlocked, with_directory, with_walk, child_of, acts, mended, unheld, unmoved, unopened, Own, Held, key_in, left_or, own_names, own_of, file_tables_of, Inv, IsReached, machine}
use Rattle.inode_machine.proofs.Basics.{file_tables_same, directory_named, HartStep, Fair, fair, fair_then, has_inode, s-owned, quiet, locks_it, my_refs, below_is, gives, walk_named_did, own_walk, with_new, Flagging, desk_changes, names_less, KeepsHold, unheld_is, type_of_directory, Mending}

-- The tree's step.

chdir_goes : (version : Version) (t : Tree) (h j : ℕ) (path : List ℕ) (par : Option (ℕ × Name)) → is_directory (node_at t j).kind ≡ true → refusal_with version t h (Chdir path) (Some j) par ≡ None
unfolding refusal_by
chdir_goes version t h j path par e = rw e refl

chdir_refused : (version : Version) (t : Tree) (h j : ℕ) (path : List ℕ) (par : Option (ℕ × Name)) → is_directory (node_at t j).kind ≡ false → refusal_with version t h (Chdir path) (Some j) par ≡ Some NotDirectory
unfolding refusal_by
chdir_refused version t h j path par e = rw e refl

pub chdir_made : (version : Version) (t : Tree) (h j new id : ℕ) (path : List ℕ) (par : Option (ℕ × Name)) → is_directory (node_at t j).kind ≡ true
    → acts version t h (Chdir path) (Some j) par new id ≡ record { all = record t { cwd = put t.cwd h j }; walk = None; found = Some j; opened = None; entered = None; left = Some (t.cwd h); told = Some (record { act = record { step = Chdir path; answer = Done }; new = new }) }
unfolding effect_by answer_by
chdir_made version t h j new id path par e = rw (chdir_goes version t h j path par e) refl

pub chdir_step : (version : Version) (t : Tree) (h j id : ℕ) (path : List ℕ) (par : Option (ℕ × Name)) → h < hart_count → is_directory (node_at t j).kind ≡ true → StepWith version t h (Chdir path) (Some j) par Done 0 id (settle (record t { cwd = put t.cwd h j }))
unfolding effect_by answer_by place_of
chdir_step version t h j id path par lt e = (chdir_goes version t h j path par e, refl, record { node = λ z. absurd cc; file = λ z. absurd cc }, refl, rw (below_is h hart_count lt) refl)

pub chdir_refused_step : (version : Version) (t : Tree) (h j id : ℕ) (path : List ℕ) (par : Option (ℕ × Name)) → h < hart_count → is_directory (node_at t j).kind ≡ false → (refusal_with version t h (Chdir path) (Some j) par ≡ Some NotDirectory) × StepWith version t h (Chdir path) (Some j) par (Failed NotDirectory) 0 id t
unfolding place_of
chdir_refused_step version t h j id path par lt e = (chdir_refused version t h j path par e, (chdir_refused version t h j path par e, refl, rw (below_is h hart_count lt) refl))

pub kind_directory : (o : Option Node) → type_of o ≡ Some OfDirectory → is_directory (node_or o).kind ≡ true
kind_directory None e = absurd cc
kind_directory (Some v) e = at v.kind e
  where
    at : (k : NodeKind) → Some (type_of_kind k) ≡ Some OfDirectory → is_directory k ≡ true
    at (Directory slots) q = refl
    at (File bytes) q = absurd cc
    at (Device major minor size) q = absurd cc

-- The tree's current directory changes, if the hart refers to the directory that it leaves.
cwd_did : Version → (h x k : ℕ) (v : World) → (v.desks h).lender ≡ None → h < hart_count → Inv v → (v.desks h).left ≡ Some k → type_of (v.all.nodes x) ≡ Some OfDirectory → IsReached v h x → HartStep h v (record v { all = record (v.all) { cwd = put v.all.cwd h x } })
cwd_did version h x k v free lt inv left inode_type reached = record {
  hart = lt;
  inodes = λ j. inl (record { lock = refl; keeper = refl; disk = refl; node = refl; alone = refl });
  mine = λ g ne. refl;
  rows = λ g ne. λ i. record { cwd = put_other v.all.cwd h x g ne i; hold = v.all.holds g; fds = v.all.fds g; keys = (row_of v.all g).keys };
  size = refl;
  ids = inv.ids;
  file_tables = file_tables_same h (file_tables_of v) inv.tied;
  free = free;
  raised = inv.raised h lt;
  quiet = λ j is f. inv.quiet j h is f;
  inode_type = λ j. inl refl;
  inode_types = inv.inode_types;
  noted = λ m is r s. inv.noted h m lt is r s;
  directory = let s = inv.directory h lt in record { at = λ _. s.at free ∙ (λ z. left_or (left z) (v.all.cwd h)) ∙ sym (λ z. left_or (left z) (put v.all.cwd h x h)); inode_type = s.inode_type };
  refers = inv.refers h lt;
  well = well_chdir v.all h x inv.well (kind_directory (v.all.nodes x) inode_type);
  counts = inv.counts;
  alone = inv.alone;
  kept = λ j is. (inv.kept j h is).1;
  held = λ j is. inv.held j h is;
  named = λ j is. named j ((λ z. (sym (put_same v.all.cwd h x) z == j) || (hold_names (v.all.holds h) j || (key_names (key_in (row_of v.all h).keys (v.desks h).opening) j || is_at (v.desks h).left j))) ∙ is);
  pending = λ j is. inv.pending h j lt is;
  walks = λ y is. inv.walks h y lt is;
}
  where
    named : (j : ℕ) → ((x == j) || (hold_names (v.all.holds h) j || (key_names (key_in (row_of v.all h).keys (v.desks h).opening) j || is_at (v.desks h).left j))) ≡ true → IsReached v h j
    named j is = elim (either (x == j)) [
      | inl y ↦ subst (λ (z : ℕ). IsReached v h z) (eq_is x j y) reached
      | inr y ↦ inv.named h j lt free (or_right (v.all.cwd h == j) (hold_names (v.all.holds h) j || (key_names (key_in (row_of v.all h).keys (v.desks h).opening) j || is_at (v.desks h).left j)) ((λ z. sym y z || (hold_names (v.all.holds h) j || (key_names (key_in (row_of v.all h).keys (v.desks h).opening) j || is_at (v.desks h).left j))) ∙ is))
    ]

own_cwd : (h x : ℕ) (v : World) (O : Own) → own_of h v ≡ O → own_of h (record v { all = record (v.all) { cwd = put v.all.cwd h x } }) ≡ record O { row = record (O.row) { cwd = x } }
own_cwd h x v O ov = λ z. record {
  inodes = ap (λ (o : Own). o.inodes) ov z;
  mine = ap (λ (o : Own). o.mine) ov z;
  row = record { cwd = put_same v.all.cwd h x z; hold = ap (λ (o : Own). o.row.hold) ov z; fds = ap (λ (o : Own). o.row.fds) ov z; keys = ap (λ (o : Own). o.row.keys) ov z };
  ninodes = ap (λ (o : Own). o.ninodes) ov z;
  desk = ap (λ (o : Own). o.desk) ov z;
}

-- without a directory that it leaves a hart names less
left_more : (a b c d : Bool) → (a || (b || (c || false))) ≡ true → (a || (b || (c || d))) ≡ true
left_more true b c d e = refl
left_more false true c d e = refl
left_more false false true d e = refl
left_more false false false d e = absurd cc

-- The hart leaves its current directory for a directory that it has reached.

abbrev pub left_world : ℕ → ℕ → World → World
left_world h j v = record v { desks = put v.desks h (record (v.desks h) { left = Some (v.all.cwd h) }); all = record (v.all) { cwd = put v.all.cwd h j } }

pub record Leaving (h j : ℕ) (v : World) (O : Own) : Type 0 where
  pub fair : Fair h v (left_world h j v)
  pub owned : own_of h (left_world h j v) ≡ record O { row = record (O.row) { cwd = j }; desk = record (O.desk) { left = Some (O.row.cwd) } }

pub leaving : Version → (h j : ℕ) (v : World) (O : Own) → own_of h v ≡ O → O.desk.lender ≡ None → h < hart_count → Inv v → O.desk.left ≡ None → type_of (v.all.nodes j) ≡ Some OfDirectory → IsReached v h j → Leaving h j v O
leaving version h j v O ov free lt inv none inode_type reached = record {
  fair = fair_then f.fair (fair f.fair.inv (cwd_did version h j (v.all.cwd h) u (ap (λ (o : Own). o.desk.lender) f.owned ∙ free) lt f.fair.inv (ap (λ (z : Desk). z.left) (put_same v.desks h new)) inode_type reached));
  owned = own_cwd h j u (record O { desk = record (O.desk) { left = Some (O.row.cwd) } }) f.owned;
}
  where
    new : Desk
    new = record (v.desks h) { left = Some (v.all.cwd h) }

    u : World
    u = with_new v h new v.clean

    was : (v.desks h).left ≡ None
    was = ap (λ (o : Own). o.desk.left) ov ∙ none

    f : Flagging h v O new (record (O.desk) { left = Some (O.row.cwd) }) v.clean
    f = desk_changes h v O new (record (O.desk) { left = Some (O.row.cwd) }) v.clean ov free lt inv (ap (λ (o : Own). record (o.desk) { left = Some (o.row.cwd) }) ov) (record { fds = refl; hand = refl; lent = refl; opening = refl })
        (λ i q. names i q)
        (let s = inv.directory h lt in record { at = λ _. s.at (ap (λ (o : Own). o.desk.lender) ov ∙ free) ∙ (λ z. left_or (was z) (v.all.cwd h)); inode_type = s.inode_type })
        (inv.refers h lt).home (inl refl)
        (ap (λ (o : Own). o.desk.lender) ov ∙ free) (λ q i is. inv.quiet i h is q) (inv.raised h lt) (λ m q r s. inv.noted h m lt q r s) (λ q. inv.tied.spoiled h q) (λ q. q) (λ q. q)
      where
        names : (i : ℕ) → own_names (row_of v.all h) new i ≡ true → own_names (row_of v.all h) (v.desks h) i ≡ true
        names i q = elim (either (v.all.cwd h == i)) [
          | inl y ↦ (λ z. y z || (hold_names (v.all.holds h) i || (key_names (key_in (row_of v.all h).keys (v.desks h).opening) i || is_at (v.desks h).left i)))
          | inr y ↦ (λ z. (v.all.cwd h == i) || (hold_names (v.all.holds h) i || (key_names (key_in (row_of v.all h).keys (v.desks h).opening) i || is_at (was z) i)))
              ∙ sym (λ z. (v.all.cwd h == i) || (hold_names (v.all.holds h) i || (key_names (key_in (row_of v.all h).keys (v.desks h).opening) i || y z))) ∙ q
        ]

-- If the call finds no room after that, the hart is in its old directory again. k: that directory.
pub mends_left : Version → (h k : ℕ) (v : World) (O : Own) → own_of h v ≡ O → O.desk.lender ≡ None → h < hart_count → Inv v → O.desk.opening ≡ None → O.desk.left ≡ Some k → KeepsHold O.row.hold → ((i : ℕ) → own_names (record (O.row) { cwd = k }) (record (O.desk) { left = None }) i ≡ true → 0 < O.mine.refs i)
    → Mending h v (mended h v) (record O { row = record (O.row) { cwd = k }; desk = record (O.desk) { opening = None; left = None; full = true }; mine = record { refs = O.mine.refs; walk = None; pending = None } })
mends_left version h k v O ov free lt inv opening left hold names = subst (λ (z : World). Mending h v z M) (sym is) (record {
  fair = fair_then back (fair_then f.fair (fair f.fair.inv (walk_named_did h None None u2 (ap (λ (o : Own). o.desk.lender) f.owned ∙ free) lt f.fair.inv named (λ m q e. absurd cc) (λ z q. absurd cc) (λ i q. absurd cc))));
  bad = refl;
  owned = own_walk h None None u2 O2 f.owned;
})
  where
    M : Own
    M = record O { row = record (O.row) { cwd = k }; desk = record (O.desk) { opening = None; left = None; full = true }; mine = record { refs = O.mine.refs; walk = None; pending = None } }

    left_v : (v.desks h).left ≡ Some k
    left_v = ap (λ (o : Own). o.desk.left) ov ∙ left

    stands : (v.desks h).directory ≡ k
    stands = (inv.directory h lt).at (ap (λ (o : Own). o.desk.lender) ov ∙ free) ∙ (λ z. left_or (left_v z) (v.all.cwd h))

    u1 : World
    u1 = record v { all = record (v.all) { cwd = put v.all.cwd h k } }

    O1 : Own
    O1 = record O { row = record (O.row) { cwd = k } }

    inode_type : type_of (v.all.nodes k) ≡ Some OfDirectory
    inode_type = ap (λ (z : ℕ). type_of (v.all.nodes z)) (sym stands) ∙ (inv.directory h lt).inode_type

    reached : IsReached v h k
    reached = subst (λ (z : ℕ). IsReached v h z) stands (inv.named h (v.desks h).directory lt (ap (λ (o : Own). o.desk.lender) ov ∙ free) (directory_named (row_of v.all h) (v.desks h) ((inv.directory h lt).at (ap (λ (o : Own). o.desk.lender) ov ∙ free))))

    back : Fair h v u1
    back = fair inv (cwd_did version h k k v (ap (λ (o : Own). o.desk.lender) ov ∙ free) lt inv left_v inode_type reached)

    ov1 : own_of h u1 ≡ O1
    ov1 = own_cwd h k v O ov

    new : Desk
    new = record (v.desks h) { opening = None; left = None; full = true }

    O2 : Own
    O2 = record O1 { desk = record (O.desk) { opening = None; left = None; full = true } }

    u2 : World
    u2 = with_new u1 h new false

    f : Flagging h u1 O1 new (record (O.desk) { opening = None; left = None; full = true }) false
    f = desk_changes h u1 O1 new (record (O.desk) { opening = None; left = None; full = true }) false ov1 free lt back.inv (ap (λ (o : Own). record (o.desk) { opening = None; left = None; full = true }) ov)
        (record { fds = refl; hand = refl; lent = refl; opening = sym (ap (λ (o : Own). o.desk.opening) ov ∙ opening) })
        (λ i q. fewer i q)
        (record { at = λ _. stands ∙ sym (put_same v.all.cwd h k); inode_type = (inv.directory h lt).inode_type })
        (inv.refers h lt).home (inl refl)
        (ap (λ (o : Own). o.desk.lender) ov ∙ free) (λ q i is. inv.quiet i h is q) (inv.raised h lt) (λ m q r s. inv.noted h m lt q r s) (λ q. refl) (λ q. refl) (λ q. absurd cc)
      where
        fewer : (i : ℕ) → own_names (row_of u1.all h) new i ≡ true → own_names (row_of u1.all h) (v.desks h) i ≡ true
        fewer i q = elim (either (put v.all.cwd h k h == i)) [
          | inl y ↦ (λ z. y z || (hold_names (v.all.holds h) i || (key_names (key_in (row_of v.all h).keys (v.desks h).opening) i || is_at (v.desks h).left i)))
          | inr y ↦
              let at : (k == i) ≡ false = (λ z. sym (put_same v.all.cwd h k) z == i) ∙ y in
              (λ z. (put v.all.cwd h k h == i) || (hold_names (v.all.holds h) i || (key_names (key_in (row_of v.all h).keys ((ap (λ (o : Own). o.desk.opening) ov ∙ opening) z)) i || is_at (left_v z) i)))
              ∙ (λ z. (put v.all.cwd h k h == i) || (hold_names (v.all.holds h) i || (key_names (key_in (row_of v.all h).keys None) i || at z))) ∙ q
        ]

    -- what it names has its own references
    named : (i : ℕ) → own_names (row_of u2.all h) (u2.desks h) i ≡ true → 0 < (v.harts h).refs i
    named i q =
        let r = my_refs h v O i ov in
        let d : u2.desks h ≡ record (O.desk) { opening = None; left = None; full = true } = ap (λ (o : Own). o.desk) f.owned in
        let a = names i (sym (names_less (row_of u2.all h) (record (O.row) { cwd = k }) (u2.desks h) (record (O.desk) { left = None }) i (put_same v.all.cwd h k) (ap (λ (o : Own). o.row.hold) ov) (ap (λ (z : Desk). z.opening) d) opening (ap (λ (z : Desk). z.left) d)) ∙ q) in
        omega (arith, r, a)

    is : mended h v ≡ record u2 { harts = with_walk v.harts h None None }
    is = λ z. record u2 { harts = with_walk v.harts h None None; all = tree z }
      where
        tree : unheld (unmoved (unopened v.all h (v.desks h).opening) h (v.desks h).left) h (v.all.holds h) ≡ record (v.all) { cwd = put v.all.cwd h k }
        tree = (λ z. unheld (unmoved (unopened v.all h ((ap (λ (o : Own). o.desk.opening) ov ∙ opening) z)) h (left_v z)) h (v.all.holds h)) ∙ unheld_is (record (v.all) { cwd = put v.all.cwd h k }) h (v.all.holds h) (subst KeepsHold (sym (ap (λ (o : Own). o.row.hold) ov)) hold)

-- The lock is given up, and the tree's current directory is the hart's.
pub s-settle : (version : Version) {A : Type 0} {h i : ℕ} {x : Held} {k : ℕ → P (machine version) A} {B : List Step → Type 0} {Q : A → List Step → World → Type 0} {n : ℕ} {es : List Step} {w : World} {O : Own}
    → own_of h w ≡ O → O.desk.lender ≡ None → h < hart_count → 0 < n → O.inodes i ≡ Some x → x.locked ≡ true → x.alone ≡ false → x.disk ≡ x.node → O.mine.pending ≡ None → O.row.cwd ≡ i → one_if (O.desk.directory == i) < O.mine.refs i → child_of O.desk ≡ None
    → ((l : ℕ) (u : World) → l + 1 ≡ n → own_of h u ≡ record O { inodes = put O.inodes i None; desk = record (O.desk) { directory = i; left = None } } → Safe (machine version) h B Q (k O.desk.directory) l es u)
    → Safe (machine version) h B Q (Do (SetDirectory i) unmarked k) n es w
s-settle version {A} {h} {i} {x} {k} {B} {Q} {n} {es} {w} {O} owns free lt pos isi has shared whole none stands spare childless rest = s-owned version owns free pos (λ v inv ov. (
  (locks_it h i v O x ov isi has, subst (λ (o : Own). one_if (o.desk.directory == i) < o.mine.refs i) (sym ov) spare),
  (λ _ _.
      let a : v.alone i ≡ false = ap (λ (y : Held). y.alone) (has_inode h i v O x ov isi).1 ∙ shared in
      let f = settles v inv ov in
      let g = gives version h i x (record O { desk = record (O.desk) { directory = i; left = None } }) (with_new v h (record (v.desks h) { directory = i; left = None }) v.clean) free lt f.fair.inv f.owned isi shared whole none in
      subst (λ (b : Bool). Fine (machine version) h [] 0 n B es v (with_directory (unlocked i v b) h i) (λ l. Wp (machine version) h B Q (k (v.desks h).directory) l es (with_directory (unlocked i v b) h i))) (sym a)
      (quiet version (fair_then f.fair g.fair) refl pos (λ l q. subst (λ (z : ℕ). Wp (machine version) h B Q (k z) l es (with_directory (unlocked i v false) h i)) (sym (ap (λ (o : Own). o.desk.directory) ov)) (rest l (with_directory (unlocked i v false) h i) q g.owned).wp))),
))
  where
    settles : (v : World) → Inv v → own_of h v ≡ O → Flagging h v O (record (v.desks h) { directory = i; left = None }) (record (O.desk) { directory = i; left = None }) v.clean
    settles v inv ov = desk_changes h v O (record (v.desks h) { directory = i; left = None }) (record (O.desk) { directory = i; left = None }) v.clean ov free lt inv (ap (λ (o : Own). record (o.desk) { directory = i; left = None }) ov) (record { fds = refl; hand = refl; lent = refl; opening = refl })
        (λ j q. fewer j q)
        (let c : v.all.cwd h ≡ i = ap (λ (o : Own). o.row.cwd) ov ∙ stands in record { at = λ _. sym c; inode_type = ap (λ (z : ℕ). type_of (v.all.nodes z)) (sym c) ∙ type_of_directory v.all h inv.well lt })
        (let r = my_refs h v O i ov in omega (arith, r, spare)) (inr (ap (λ (o : Own). child_of o.desk) ov ∙ childless))
        (ap (λ (o : Own). o.desk.lender) ov ∙ free) (λ q j is. inv.quiet j h is q) (inv.raised h lt) (λ m q r s. inv.noted h m lt q r s) (λ q. inv.tied.spoiled h q) (λ q. q) (λ q. q)
      where
        fewer : (j : ℕ) → own_names (row_of v.all h) (record (v.desks h) { left = None }) j ≡ true → own_names (row_of v.all h) (v.desks h) j ≡ true
        fewer j q = left_more (v.all.cwd h == j) (hold_names (v.all.holds h) j) (key_names (key_in (row_of v.all h).keys (v.desks h).opening) j) (is_at (v.desks h).left j) q
