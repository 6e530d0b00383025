-- A descriptor's open file, a refused step, want of room, and one more descriptor.
use Rattle.image_versions.specs.declared.version.Version.{Version}
use Rattle.inode_machine.proofs.Vocabulary.{◌≡◌, ◌≢◌, ◌⊎◌, inl, inr, ℕ, ◌+◌, ◌<◌, Bool, true, false, ◌==◌, ◌&&◌, ◌||◌, nat_lt, List, [], ◌∷◌, Option, Some, None, refl, sym, ◌∙◌, ap, subst, arith, if◌then◌else◌, nat_tests, Do, unmarked, P, own, onto, Good, Fine, Safe, Wp, Cause, BadDescriptor, OpenFile, Action, Dup, Inherit, NewFd, Failed, hart_count, descriptor_count, Name, Tree, put, fd_names, and_then, settle, resolve, parent, hold_names, no_fd as is_nothing, path_of, follows_path, file_at, lowest, has_room, refusal_with, refusal_by, effect_with, effect_by, answer_with, answer_by, makes_node, place_of, refused, IsInPlace, holds_raised, Row, key_at, row_of, key_names, with_open, NamesLess, settle_less, file_settled, sum_below, one_if, IsWellFormed, eq_self, eq_not, same_or, put_same, put_other, sum_same, one_no, one_yes, well_dup, Stage, Step, OwnMove, is_at, file_count, with_walk, slot_at, entry_at, doubled, double_at, double_if, with_joined, child_of, places, with_mark, with_made, made_by, found_by, refused_all, new_id, Mine, Entry, Desk, World, Note, dups, Double, Join, Leave, Say, Own, file_tables_of, FileTables, IsTied, id_at, number_is, users, own_names, own_of, Inv, machine, Held, key_in, Stands, view, IsReached, HasType, KeepsFiles, InodeType, type_of}
use Rattle.inode_machine.proofs.Frame.{bond_of, put_elim, stands_on, Fair, fair, fair_same, kept_here}
use Rattle.inode_machine.proofs.Rules.{s-owned, quiet, UnlocksAll, locks_none, s-owned-from}
use Rattle.inode_machine.proofs.Rows.{below_is}
use Rattle.inode_machine.proofs.Walking.{refs_walk, walk_did, own_walk, stage_walk, moves_good}
use Rattle.inode_machine.proofs.Tables.{with_fd, users_put, lowest_same, lowest_free, changes}
use Rattle.inode_machine.proofs.FileTablesSteps.{Sells, sells_did, own_takes, names_less}

-- What a descriptor names.
pub record Behind (h fd s : ℕ) (e : Entry) (v : World) : Type 0 where
  pub below : fd < descriptor_count
  pub is : (v.desks h).fds fd ≡ Some s
  pub at : v.files s ≡ Some e
  pub tree : v.all.fds h fd ≡ Some (v.ids s)
  pub file : file_at v.all h fd ≡ Some e.file

pub less_is : (a b : ℕ) → nat_lt a b ≡ true → a < b
less_is a b h = grind (arith, nat_tests)

pub not_at : (v : World) (h i : ℕ) → (v.desks h).opening ≡ None → is_at (v.desks h).opening i ≡ false
not_at v h i e = ap (λ (z : Option ℕ). is_at z i) e

pub behind : (h fd s : ℕ) (v : World) → Inv v → h < hart_count → (v.desks h).opening ≡ None → slot_at v h fd ≡ Some s → (e : Entry) × Behind h fd s e v
behind h fd s v inv lt idle is = go (nat_lt fd descriptor_count) refl is
  where
    go : (b : Bool) → nat_lt fd descriptor_count ≡ b → (if b then (v.desks h).fds fd else None) ≡ Some s → (e : Entry) × Behind h fd s e v
    go false q e = absurd cc
    go true q e =
        let low = less_is fd descriptor_count q in
        let u = inv.tied.used h fd s lt low e in
        let t = inv.tied.fds h fd lt low (not_at v h fd idle) ∙ ap (λ (z : Option ℕ). id_at v.ids z) e in
        (u.0, record { below = low; is = e; at = u.1; tree = t; file = rw q (ap (λ (o : Option ℕ). and_then o (λ id. v.all.files id)) t ∙ inv.tied.files s u.0 u.1) })

pub behind_none : (h fd : ℕ) (v : World) → Inv v → h < hart_count → (v.desks h).opening ≡ None → slot_at v h fd ≡ None → file_at v.all h fd ≡ None
behind_none h fd v inv lt idle is = go (nat_lt fd descriptor_count) refl is
  where
    go : (b : Bool) → nat_lt fd descriptor_count ≡ b → (if b then (v.desks h).fds fd else None) ≡ None → (if b then and_then (v.all.fds h fd) (λ id. v.all.files id) else None) ≡ None
    go false q e = refl
    go true q e = ap (λ (o : Option ℕ). and_then o (λ id. v.all.files id)) (inv.tied.fds h fd lt (less_is fd descriptor_count q) (not_at v h fd idle) ∙ ap (λ (z : Option ℕ). id_at v.ids z) e)

-- A step of the call's own that is refused.
pub record Refused (version : Version) (h : ℕ) (s : Action) (c : Cause) (v : World) : Type 0 where
  pub follows : follows_path s ≡ false
  pub path : path_of s ≡ []
  pub now : (res : Option ℕ) (par : Option (ℕ × Name)) → refusal_with version v.all h s res par ≡ Some c
  pub then_ : (res : Option ℕ) (par : Option (ℕ × Name)) → refusal_with version (settle v.all) h s res par ≡ Some c
  pub found : (res : Option ℕ) → found_by s res ≡ None
  pub stays : refused (settle v.all) h s ≡ settle v.all
  pub keeps : refused_all v.all h s ≡ v.all
  pub place : IsInPlace (settle v.all) h s
  pub makes : (q : Option (ℕ × Name)) → makes_node (settle v.all) s q ≡ false
  pub inherits : (g : ℕ) → s ≡ Inherit g → ⊥

abbrev pub fails : Action → Cause → Step
fails s c = record { move = OwnMove s 0; told = Some (record { act = record { step = s; answer = Failed c }; new = 0 }) }

pub refused_good : (version : Version) {A : Type 0} (h more n : ℕ) (B : List Step → Type 0) (Q : A → List Step → World → Type 0) (es : List Step) (v : World) (O : Own) (s : Action) (c : Cause) (p : P (machine version) A) → own_of h v ≡ O → O.desk.lender ≡ None → h < hart_count → Inv v → O.mine.walk ≡ None → O.mine.pending ≡ None → Refused version h s c v
    → B (fails s c ∷ es) → more < n → ((l : ℕ) (u : World) → l + (more + 1) ≡ n → own_of h u ≡ record O { mine = record { refs = O.mine.refs; walk = None; pending = None } } → Safe (machine version) h B Q p l (fails s c ∷ es) u)
    → Fine (machine version) h ((h, record { move = OwnMove s 0; told = (made_by version v.all h (new_id v) (v.harts h).walk (OwnMove s 0)).told }) ∷ []) more n B es v (with_made h (made_by version v.all h (new_id v) (v.harts h).walk (OwnMove s 0)) v) (λ l. Wp (machine version) h B Q p l (onto (own h ((h, record { move = OwnMove s 0; told = (made_by version v.all h (new_id v) (v.harts h).walk (OwnMove s 0)).told }) ∷ [])) es) (with_made h (made_by version v.all h (new_id v) (v.harts h).walk (OwnMove s 0)) v))
refused_good version h more n B Q es v O s c p ov free lt inv walks none r b pos next =
    moves_good version h more n B Q es v v (OwnMove s 0) tt p (made_by version v.all h (new_id v) (v.harts h).walk (OwnMove s 0)) (record { all = v.all; walk = None; found = None; opened = None; entered = None; left = None; told = (fails s c).told })
    (rw (r.now (resolve version v.all h (path_of s)) (parent version v.all h (path_of s))) (λ i. record { all = r.keeps i; walk = None; found = r.found (resolve version v.all h (path_of s)) i; opened = None; entered = None; left = None; told = (fails s c).told }))
    (fair inv (walk_did h None None v (ap (λ (o : Own). o.desk.lender) ov ∙ free) lt inv (ap (λ (o : Own). o.mine.pending) ov ∙ none) (λ m q e. absurd cc) (λ z q. absurd cc) (λ j q. absurd cc)))
    (own_takes version h v (record v { harts = with_walk v.harts h None None }) s (Failed c) r.follows r.path (ap (λ (o : Own). o.mine.walk) ov ∙ walks) r.makes r.inherits
    (r.then_ (resolve version (settle v.all) h (path_of s)) (parent version (settle v.all) h (path_of s)), sym r.stays, r.place) (ap (λ (m : Stage). m.walk) (stage_walk h None None v)))
    b pos
    (λ l q. (next l (record v { harts = with_walk v.harts h None None }) q (own_walk h None None v O ov)).wp)

-- What of a hart's desk changes in a call.

-- what of a desk the table of open files knows
pub record SameTable (d c : Desk) : Type 0 where
  pub fds : d.fds ≡ c.fds
  pub hand : d.hand ≡ c.hand
  pub lent : d.lent ≡ c.lent
  pub opening : d.opening ≡ c.opening
  pub left : d.left ≡ c.left
  pub directory : d.directory ≡ c.directory

-- of these what its open files are
pub record SameFiles (d c : Desk) : Type 0 where
  pub fds : d.fds ≡ c.fds
  pub hand : d.hand ≡ c.hand
  pub lent : d.lent ≡ c.lent
  pub opening : d.opening ≡ c.opening

abbrev pub with_new : World → ℕ → Desk → Bool → World
with_new v h new c = record v { clean = c; desks = put v.desks h new }

pub record Flagging (h : ℕ) (v : World) (O : Own) (new d : Desk) (c : Bool) : Type 0 where
  pub fair : Fair h v (with_new v h new c)
  pub owned : own_of h (with_new v h new c) ≡ record O { desk = d }

-- A desk changes, but not what the table knows of it, nor what the hart names.
pub desk_changes : (h : ℕ) (v : World) (O : Own) (new d : Desk) (c : Bool) → own_of h v ≡ O → O.desk.lender ≡ None → h < hart_count → Inv v → new ≡ d → SameFiles new (v.desks h)
    → ((j : ℕ) → own_names (row_of v.all h) new j ≡ true → own_names (row_of v.all h) (v.desks h) j ≡ true) → Stands new (v.all.cwd h) v.all.nodes → 0 < (v.harts h).refs new.directory → ((new.directory ≡ (v.desks h).directory) ⊎ (child_of (v.desks h) ≡ None)) → new.lender ≡ None
    → (new.joined ≡ false → (j : ℕ) → v.keeper j ≡ Some h → v.disk j ≡ v.all.nodes j) → (holds_raised true (v.all.holds h) ≡ true → new.joined ≡ true)
    → ((m : Note) → new.noted ≡ Some m → IsReached v h m.number → v.alone m.number ≡ false → type_of (v.all.nodes m.number) ≡ m.inode_type)
    → (new.full ≡ true → c ≡ false) → (v.clean ≡ false → c ≡ false) → (c ≡ true → v.clean ≡ true) → Flagging h v O new d c
desk_changes h v O new d c ov free lt inv is same names stands home stays unlent quiet raises notes mine his back = record {
  fair = fair inv (record {
    hart = lt;
    inodes = λ j. inl (record { lock = refl; keeper = refl; disk = refl; node = refl; alone = refl });
    mine = λ g ne. refl;
    rows = λ g ne. refl;
    size = refl;
    ids = inv.ids;
    file_tables = record { tied = tied; desks = λ g ne. put_other v.desks h new g ne; numbers = λ g i k e lg ne li q a. (e, a, refl, inl refl); clean = back; bond = ap (λ (z : Desk). bond_of z) here ∙ (λ z. record { child = same.lent z descriptor_count; given = same.lent z (descriptor_count + 1); lender = (unlent ∙ sym (ap (λ (o : Own). o.desk.lender) ov ∙ free)) z }); stays = elim stays [ inl q ↦ inl (ap (λ (z : Desk). z.directory) here ∙ q) | inr q ↦ inr q ] };
    free = ap (λ (z : Desk). z.lender) here ∙ unlent;
    raised = λ q. ap (λ (z : Desk). z.joined) here ∙ raises q;
    quiet = λ j is f. quiet (sym (ap (λ (z : Desk). z.joined) here) ∙ f) j is;
    inode_type = λ j. inl refl;
    inode_types = inv.inode_types;
    noted = λ m is r s. notes m (sym (ap (λ (z : Desk). z.noted) here) ∙ is) r s;
    directory = subst (λ (z : Desk). Stands z (v.all.cwd h) v.all.nodes) (sym here) stands;
    refers = record { few = (inv.refers h lt).few; home = subst (λ (z : Desk). 0 < (v.harts h).refs z.directory) (sym here) home };
    well = inv.well;
    counts = inv.counts;
    alone = inv.alone;
    kept = λ j is. elim (inv.kept j h is).1 [ inl o ↦ inl (record { fd = o.fd; below = o.below; slot = o.slot; is = fds_is h o.fd ∙ o.is; entry = o.entry; at = o.at; number = o.number }) | inr p ↦ inr p ];
    held = λ j is. inv.held j h is;
    named = λ j is. inv.named h j lt (ap (λ (o : Own). o.desk.lender) ov ∙ free) (names j ((λ z. own_names (row_of v.all h) (sym here z) j) ∙ is));
    pending = λ j is. inv.pending h j lt is;
    walks = λ x is. inv.walks h x lt is;
  });
  owned = λ z. record {
    inodes = ap (λ (o : Own). o.inodes) ov z;
    mine = ap (λ (o : Own). o.mine) ov z;
    row = ap (λ (o : Own). o.row) ov z;
    ninodes = ap (λ (o : Own). o.ninodes) ov z;
    desk = (here ∙ is) z;
  };
}
  where
    D : ℕ → Desk
    D = put v.desks h new

    here : D h ≡ new
    here = put_same v.desks h new

    fds_is : (g i : ℕ) → (D g).fds i ≡ (v.desks g).fds i
    fds_is g i = put_elim v.desks h new g (λ d. d.fds i ≡ (v.desks g).fds i) (λ e. ap (λ (f : ℕ → Option ℕ). f i) same.fds ∙ ap (λ (z : ℕ). (v.desks z).fds i) (sym e)) (λ ne. refl)

    lent_is : (g i : ℕ) → (D g).lent i ≡ (v.desks g).lent i
    lent_is g i = put_elim v.desks h new g (λ d. d.lent i ≡ (v.desks g).lent i) (λ e. ap (λ (f : ℕ → Option ℕ). f i) same.lent ∙ ap (λ (z : ℕ). (v.desks z).lent i) (sym e)) (λ ne. refl)

    hand_is : (g : ℕ) → (D g).hand ≡ (v.desks g).hand
    hand_is g = put_elim v.desks h new g (λ d. d.hand ≡ (v.desks g).hand) (λ e. same.hand ∙ ap (λ (z : ℕ). (v.desks z).hand) (sym e)) (λ ne. refl)

    opening_is : (g : ℕ) → (D g).opening ≡ (v.desks g).opening
    opening_is g = put_elim v.desks h new g (λ d. d.opening ≡ (v.desks g).opening) (λ e. same.opening ∙ ap (λ (z : ℕ). (v.desks z).opening) (sym e)) (λ ne. refl)

    users_is : (k : ℕ) → users D k ≡ users v.desks k
    users_is k = sum_same hart_count _ _ (λ g lg. λ z. sum_below descriptor_count (λ i. one_if (is_at (fds_is g i z) k)) + sum_below descriptor_count (λ i. one_if (is_at (lent_is g i z) k)))

    tied : IsTied (record { files = v.files; desks = D; ids = v.ids; slots = v.slots; clean = c; tree_fds = v.all.fds; tree_files = v.all.files })
    tied = record {
      fds = λ g i lg li o. inv.tied.fds g i lg li (ap (λ (z : Option ℕ). is_at z i) (sym (opening_is g)) ∙ o) ∙ ap (λ (z : Option ℕ). id_at v.ids z) (sym (fds_is g i));
      fresh = λ g i lg o. let f = inv.tied.fresh g i lg (sym (opening_is g) ∙ o) in record { below = f.below; free = fds_is g i ∙ f.free; id = f.id; is = f.is; file = f.file; at = f.at; offset = f.offset; only = f.only };
      used = λ g i k lg li q. inv.tied.used g i k lg li (sym (fds_is g i) ∙ q);
      lends = λ g i k lg li q. fds_is g i ∙ inv.tied.lends g i k lg li (sym (lent_is g i) ∙ q);
      hand = λ g k lg q. inv.tied.hand g k lg (sym (hand_is g) ∙ q);
      hands = λ g j k lg lj q r. inv.tied.hands g j k lg lj (sym (hand_is g) ∙ q) (sym (hand_is j) ∙ r);
      within = inv.tied.within;
      files = inv.tied.files;
      apart = inv.tied.apart;
      counted = λ k e q. let a = inv.tied.counted k e q in (a.0 ∙ sym (users_is k), a.1);
      slots = inv.tied.slots;
      spoiled = λ g q. elim (same_or g h) [
        | inl e ↦ mine (ap (λ (d : Desk). d.full) (sym here) ∙ ap (λ (z : ℕ). (D z).full) (sym e) ∙ q)
        | inr ne ↦ his (inv.tied.spoiled g (ap (λ (d : Desk). d.full) (sym (put_other v.desks h new g ne)) ∙ q))
      ];
    }

-- the same, if it leaves no directory and opens nothing else
pub flagging : (h : ℕ) (v : World) (O : Own) (new d : Desk) (c : Bool) → own_of h v ≡ O → O.desk.lender ≡ None → h < hart_count → Inv v → new ≡ d → SameTable new (v.desks h) → new.lender ≡ None
    → (new.joined ≡ false → (j : ℕ) → v.keeper j ≡ Some h → v.disk j ≡ v.all.nodes j) → (holds_raised true (v.all.holds h) ≡ true → new.joined ≡ true)
    → ((m : Note) → new.noted ≡ Some m → IsReached v h m.number → v.alone m.number ≡ false → type_of (v.all.nodes m.number) ≡ m.inode_type)
    → (new.full ≡ true → c ≡ false) → (v.clean ≡ false → c ≡ false) → (c ≡ true → v.clean ≡ true) → Flagging h v O new d c
flagging h v O new d c ov free lt inv is same unlent quiet raises notes mine his back = desk_changes h v O new d c ov free lt inv is (record { fds = same.fds; hand = same.hand; lent = same.lent; opening = same.opening })
    (λ j q. (λ z. (v.all.cwd h == j) || (hold_names (v.all.holds h) j || (key_names (key_in (row_of v.all h).keys (sym same.opening z)) j || is_at (sym same.left z) j))) ∙ q)
    (stands_on (v.desks h) new (v.all.cwd h) v.all.nodes (ap (λ (o : Own). o.desk.lender) ov ∙ free) same.directory same.left (inv.directory h lt)) (subst (λ (z : ℕ). 0 < (v.harts h).refs z) (sym same.directory) (inv.refers h lt).home) (inl same.directory) unlent quiet raises notes mine his back

pub filling : (h : ℕ) (v : World) (O : Own) → own_of h v ≡ O → O.desk.lender ≡ None → h < hart_count → Inv v → Flagging h v O (record (v.desks h) { full = true }) (record (O.desk) { full = true }) false
filling h v O ov free lt inv = flagging h v O (record (v.desks h) { full = true }) (record (O.desk) { full = true }) false ov free lt inv (ap (λ (o : Own). record (o.desk) { full = true }) ov)
    (record { fds = refl; hand = refl; lent = refl; opening = refl; left = refl; directory = refl }) (ap (λ (o : Own). o.desk.lender) ov ∙ free) (λ f j is. inv.quiet j h is f) (inv.raised h lt) (λ m q r s. inv.noted h m lt q r s) (λ q. refl) (λ q. refl) (λ q. absurd cc)

-- The hart joins the transaction.
pub s-join-from : (version : Version) {A : Type 0} {h : ℕ} {k : Unit {0} → P (machine version) A} {B : List Step → Type 0} {Q : A → List Step → World → Type 0} {n : ℕ} {es : List Step} {w : World} {O : Own}
    → own_of h w ≡ O → O.desk.lender ≡ None → h < hart_count → 0 < n → UnlocksAll O → O.desk.joined ≡ false
    → ((l : ℕ) (v u : World) → l + 1 ≡ n → KeepsFiles h w v → u.files ≡ v.files → own_of h u ≡ record O { desk = record (O.desk) { joined = true } } → Safe (machine version) h B Q (k tt) l es u)
    → Safe (machine version) h B Q (Do Join unmarked k) n es w
s-join-from version {h = h} {O = O} owns free lt pos none out rest = s-owned-from version owns free pos (λ v inv ov keeps. (
  (locks_none h v O inv ov none, ap (λ (o : Own). o.desk.joined) ov ∙ out),
  (λ _ _.
      let new : Desk = record (v.desks h) { joined = true } in
      let f = flagging h v O new (record (O.desk) { joined = true }) v.clean ov free lt inv (ap (λ (o : Own). record (o.desk) { joined = true }) ov)
      (record { fds = refl; hand = refl; lent = refl; opening = refl; left = refl; directory = refl }) (ap (λ (o : Own). o.desk.lender) ov ∙ free) (λ f j is. absurd cc) (λ q. refl) (λ m q r s. inv.noted h m lt q r s) (λ q. inv.tied.spoiled h q) (λ q. q) (λ q. q) in
      quiet version f.fair refl pos (λ l q. (rest l v (with_joined v h true) q keeps refl f.owned).wp)),
))

pub s-join : (version : Version) {A : Type 0} {h : ℕ} {k : Unit {0} → P (machine version) A} {B : List Step → Type 0} {Q : A → List Step → World → Type 0} {n : ℕ} {es : List Step} {w : World} {O : Own}
    → own_of h w ≡ O → O.desk.lender ≡ None → h < hart_count → 0 < n → UnlocksAll O → O.desk.joined ≡ false → ((l : ℕ) (u : World) → l + 1 ≡ n → own_of h u ≡ record O { desk = record (O.desk) { joined = true } } → Safe (machine version) h B Q (k tt) l es u)
    → Safe (machine version) h B Q (Do Join unmarked k) n es w
s-join version owns free lt pos none out rest = s-join-from version owns free lt pos none out (λ l v u q keeps same own. rest l u q own)

-- It leaves it, with every inode as its node says.
pub s-leave-from : (version : Version) {A : Type 0} {h : ℕ} {k : Unit {0} → P (machine version) A} {B : List Step → Type 0} {Q : A → List Step → World → Type 0} {n : ℕ} {es : List Step} {w : World} {O : Own}
    → own_of h w ≡ O → O.desk.lender ≡ None → h < hart_count → 62 < n → UnlocksAll O → O.desk.joined ≡ true → holds_raised true O.row.hold ≡ false → ((i : ℕ) (x : Held) → O.inodes i ≡ Some x → x.disk ≡ x.node)
    → ((l : ℕ) (v u : World) → l + 63 ≡ n → KeepsFiles h w v → u.files ≡ v.files → own_of h u ≡ record O { desk = record (O.desk) { joined = false; noted = None } } → Safe (machine version) h B Q (k tt) l es u)
    → Safe (machine version) h B Q (Do Leave unmarked k) n es w
s-leave-from version {h = h} {O = O} owns free lt pos none joined low whole rest = s-owned-from version owns free pos (λ v inv ov keeps. (
  (locks_none h v O inv ov none, ap (λ (o : Own). o.desk.joined) ov ∙ joined, ap (λ (o : Own). holds_raised true o.row.hold) ov ∙ low),
  (λ _ _.
      let new : Desk = record (v.desks h) { joined = false; noted = None } in
      let f = flagging h v O new (record (O.desk) { joined = false; noted = None }) v.clean ov free lt inv (ap (λ (o : Own). record (o.desk) { joined = false; noted = None }) ov)
      (record { fds = refl; hand = refl; lent = refl; opening = refl; left = refl; directory = refl }) (ap (λ (o : Own). o.desk.lender) ov ∙ free)
      (λ f j is. whole j (view v h j) (ap (λ (o : Own). o.inodes j) (sym ov) ∙ kept_here h (v.keeper j) (view v h j) is)) (λ q. absurd (let a : holds_raised true (v.all.holds h) ≡ false = ap (λ (o : Own). holds_raised true o.row.hold) ov ∙ low in cc (a, q))) (λ m q r s. absurd cc) (λ q. inv.tied.spoiled h q) (λ q. q) (λ q. q) in
      quiet version f.fair refl pos (λ l q. (rest l v (with_new v h new v.clean) q keeps refl f.owned).wp)),
))

pub s-leave : (version : Version) {A : Type 0} {h : ℕ} {k : Unit {0} → P (machine version) A} {B : List Step → Type 0} {Q : A → List Step → World → Type 0} {n : ℕ} {es : List Step} {w : World} {O : Own}
    → own_of h w ≡ O → O.desk.lender ≡ None → h < hart_count → 62 < n → UnlocksAll O → O.desk.joined ≡ true → holds_raised true O.row.hold ≡ false → ((i : ℕ) (x : Held) → O.inodes i ≡ Some x → x.disk ≡ x.node)
    → ((l : ℕ) (u : World) → l + 63 ≡ n → own_of h u ≡ record O { desk = record (O.desk) { joined = false; noted = None } } → Safe (machine version) h B Q (k tt) l es u)
    → Safe (machine version) h B Q (Do Leave unmarked k) n es w
s-leave version owns free lt pos none joined low whole rest = s-leave-from version owns free lt pos none joined low whole (λ l v u q keeps same own. rest l u q own)

-- The reply is given.
pub s-say : (version : Version) {A : Type 0} {h : ℕ} {k : Unit {0} → P (machine version) A} {B : List Step → Type 0} {Q : A → List Step → World → Type 0} {n : ℕ} {es : List Step} {w : World} {O : Own}
    → own_of h w ≡ O → O.desk.lender ≡ None → h < hart_count → 0 < n → UnlocksAll O → O.desk.joined ≡ false → ((l : ℕ) (u : World) → l + 1 ≡ n → (O.desk.full ≡ true → u.clean ≡ false) → own_of h u ≡ O → Safe (machine version) h B Q (k tt) l es u)
    → Safe (machine version) h B Q (Do Say unmarked k) n es w
s-say version {h = h} {O = O} owns free lt pos none out rest = s-owned version owns free pos (λ v inv ov. ((locks_none h v O inv ov none, ap (λ (o : Own). o.desk.joined) ov ∙ out), (λ _ _. quiet version (fair_same inv) refl pos (λ l q. (rest l v q (λ f. inv.tied.spoiled h (ap (λ (o : Own). o.desk.full) ov ∙ f)) ov).wp))))

-- A slot's entry changes, but not its open file.
pub record Renews (s : FileTables) (k : ℕ) (e f : Entry) (D : ℕ → Desk) : Type 0 where
  pub at : s.files k ≡ Some e
  pub same : f.file ≡ e.file
  pub counted : f.references ≡ users D k
  pub more : 0 < f.references
  pub other : (j : ℕ) → j ≢ k → users D j ≡ users s.desks j

pub renewed : (s : FileTables) (k : ℕ) (e f : Entry) (D : ℕ → Desk) → IsTied s → Renews s k e f D → (j : ℕ) (x : Entry) → put s.files k (Some f) j ≡ Some x → (d : Entry) × (s.files j ≡ Some d) × (x.file ≡ d.file) × (x.references ≡ users D j) × (0 < x.references)
renewed s k e f D tied r j x q = elim (same_or j k) [
  | inl t ↦
      let a : Some f ≡ Some x = sym (put_same s.files k (Some f)) ∙ ap (put s.files k (Some f)) (sym t) ∙ q in
      let b : f ≡ x = cc in
      (e, ap s.files t ∙ r.at, ap (λ (z : Entry). z.file) (sym b) ∙ r.same, ap (λ (z : Entry). z.references) (sym b) ∙ r.counted ∙ ap (λ (z : ℕ). users D z) (sym t), subst (λ (z : Entry). 0 < z.references) b r.more)
  | inr ne ↦
      let a : s.files j ≡ Some x = sym (put_other s.files k (Some f) j ne) ∙ q in
      let c = tied.counted j x a in
      (x, a, refl, c.0 ∙ sym (r.other j ne), c.1)
]

pub renewed_slots : (files : ℕ → Option Entry) (k : ℕ) (e f : Entry) (n : ℕ) → files k ≡ Some e → f.file.number ≡ e.file.number → sum_below file_count (λ j. number_is (put files k (Some f) j) n) ≡ sum_below file_count (λ j. number_is (files j) n)
renewed_slots files k e f n at same = sum_same file_count (λ j. number_is (files j) n) (λ j. number_is (put files k (Some f) j) n) (λ j lj. put_elim files k (Some f) j (λ z. number_is z n ≡ number_is (files j) n)
    (λ q. ap (λ (z : ℕ). one_if (z == n)) same ∙ sym (ap (λ (z : Option Entry). number_is z n) (ap files q ∙ at))) (λ ne. refl))

pub renewed_at : (files : ℕ → Option Entry) (k : ℕ) (e f : Entry) (j : ℕ) (d : Entry) → files k ≡ Some e → f.file.number ≡ e.file.number → files j ≡ Some d → (x : Entry) × (put files k (Some f) j ≡ Some x) × (x.file.number ≡ d.file.number)
renewed_at files k e f j d at same q = elim (same_or j k) [
  | inl t ↦ (f, ap (put files k (Some f)) t ∙ put_same files k (Some f), same ∙ (let a : Some e ≡ Some d = sym at ∙ ap files (sym t) ∙ q in let b : e ≡ d = cc in ap (λ (z : Entry). z.file.number) b))
  | inr ne ↦ (d, put_other files k (Some f) j ne ∙ q, refl)
]

-- and the same open file, if the change keeps it
pub renewed_same : (files : ℕ → Option Entry) (k : ℕ) (e f : Entry) (j : ℕ) (d : Entry) → files k ≡ Some e → f.file ≡ e.file → f.inode_type ≡ e.inode_type → files j ≡ Some d → (x : Entry) × (put files k (Some f) j ≡ Some x) × (x.inode_type ≡ d.inode_type) × (x.file ≡ d.file)
renewed_same files k e f j d at same inode_type q = elim (same_or j k) [
  | inl t ↦
      let a : Some e ≡ Some d = sym at ∙ ap files (sym t) ∙ q in
      let b : e ≡ d = cc in
      (f, ap (put files k (Some f)) t ∙ put_same files k (Some f), inode_type ∙ ap (λ (z : Entry). z.inode_type) b, same ∙ ap (λ (z : Entry). z.file) b)
  | inr ne ↦ (d, put_other files k (Some f) j ne ∙ q, refl, refl)
]

-- what a hart's row keeps when a descriptor changes
pub record SameRow (r s : Row) : Type 0 where
  pub cwd : r.cwd ≡ s.cwd
  pub hold : r.hold ≡ s.hold

-- all of a desk but its descriptors
pub record SameDesk (d c : Desk) : Type 0 where
  pub hand : d.hand ≡ c.hand
  pub joined : d.joined ≡ c.joined
  pub directory : d.directory ≡ c.directory
  pub lent : d.lent ≡ c.lent
  pub lender : d.lender ≡ c.lender
  pub opening : d.opening ≡ c.opening
  pub left : d.left ≡ c.left
  pub noted : d.noted ≡ c.noted
  pub full : d.full ≡ c.full

pub same_desk : (h fd : ℕ) (y : Option ℕ) (v : World) (O : Own) → own_of h v ≡ O → SameDesk (with_fd v.desks h fd y h) O.desk
same_desk h fd y v O ov = record {
  hand = ap (λ (z : Desk). z.hand) is ∙ ap (λ (o : Own). o.desk.hand) ov;
  joined = ap (λ (z : Desk). z.joined) is ∙ ap (λ (o : Own). o.desk.joined) ov;
  directory = ap (λ (z : Desk). z.directory) is ∙ ap (λ (o : Own). o.desk.directory) ov;
  lent = ap (λ (z : Desk). z.lent) is ∙ ap (λ (o : Own). o.desk.lent) ov;
  lender = ap (λ (z : Desk). z.lender) is ∙ ap (λ (o : Own). o.desk.lender) ov;
  opening = ap (λ (z : Desk). z.opening) is ∙ ap (λ (o : Own). o.desk.opening) ov;
  left = ap (λ (z : Desk). z.left) is ∙ ap (λ (o : Own). o.desk.left) ov;
  noted = ap (λ (z : Desk). z.noted) is ∙ ap (λ (o : Own). o.desk.noted) ov;
  full = ap (λ (z : Desk). z.full) is ∙ ap (λ (o : Own). o.desk.full) ov;
}
  where
    is : with_fd v.desks h fd y h ≡ record (v.desks h) { fds = put (v.desks h).fds fd y }
    is = put_same v.desks h (record (v.desks h) { fds = put (v.desks h).fds fd y })

-- an entry's type stays its inode's
pub renewed_types : (v : World) (k : ℕ) (e f : Entry) → Inv v → v.files k ≡ Some e → f.file.number ≡ e.file.number → f.file.writable ≡ e.file.writable → f.inode_type ≡ e.inode_type → (j : ℕ) (d : Entry) → put v.files k (Some f) j ≡ Some d → HasType v.all.nodes d
renewed_types v k e f inv at number writable inode_type j d q = elim (same_or j k) [
  | inl t ↦
      let a : Some f ≡ Some d = sym (put_same v.files k (Some f)) ∙ ap (put v.files k (Some f)) (sym t) ∙ q in
      let b : f ≡ d = cc in
      let was = inv.inode_types k e at in
      subst (λ (z : Entry). HasType v.all.nodes z) b (record {
        inode_type = ap (λ (n : ℕ). type_of (v.all.nodes n)) number ∙ was.inode_type ∙ ap (λ (z : InodeType). Some z) (sym inode_type);
        written = λ y z. was.written (sym writable ∙ y) (sym inode_type ∙ z);
      })
  | inr ne ↦ inv.inode_types j d (sym (put_other v.files k (Some f) j ne) ∙ q)
]

pub not_one : (a b : ℕ) → a ≢ b → one_if (a == b) ≡ 0
not_one a b ne = one_no (a == b) (eq_not a b ne)

-- Dup.

dup_goes : (version : Version) (t : Tree) (h fd : ℕ) (f : OpenFile) (res : Option ℕ) (par : Option (ℕ × Name)) → file_at t h fd ≡ Some f → refusal_with version t h (Dup fd) res par ≡ None
unfolding refusal_by
dup_goes version t h fd f res par e = rw e refl

dup_refused : (version : Version) (t : Tree) (h fd : ℕ) (res : Option ℕ) (par : Option (ℕ × Name)) → file_at t h fd ≡ None → refusal_with version t h (Dup fd) res par ≡ Some BadDescriptor
unfolding refusal_by
dup_refused version t h fd res par e = rw e refl

dup_effect : (version : Version) (t : Tree) (h fd new id f : ℕ) (x : Option ℕ) (res : Option ℕ) (par : Option (ℕ × Name)) → lowest (t.fds h) ≡ f → t.fds h fd ≡ x → effect_with version t h (Dup fd) res par new id ≡ with_open t (put t.fds h (put (t.fds h) f x)) t.files
unfolding effect_by
dup_effect version t h fd new id f x res par e q = λ i. record t { fds = put t.fds h (put (t.fds h) (e i) (q i)) }

dup_effect_settled : (version : Version) (t : Tree) (h fd new id f : ℕ) (x : Option ℕ) (res : Option ℕ) (par : Option (ℕ × Name)) → lowest (t.fds h) ≡ f → t.fds h fd ≡ x → effect_with version (settle t) h (Dup fd) res par new id ≡ with_open (settle t) (put t.fds h (put (t.fds h) f x)) t.files
unfolding effect_by settle
dup_effect_settled version t h fd new id f x res par e q = λ i. record (settle t) { fds = put t.fds h (put (t.fds h) (e i) (q i)) }

dup_answer : (version : Version) (t : Tree) (h fd id f : ℕ) (res : Option ℕ) (par : Option (ℕ × Name)) → lowest (t.fds h) ≡ f → answer_with version t h (Dup fd) res par id ≡ NewFd f
unfolding answer_by
dup_answer version t h fd id f res par e = ap (λ (z : ℕ). NewFd z) e

dup_answer_settled : (version : Version) (t : Tree) (h fd id f : ℕ) (res : Option ℕ) (par : Option (ℕ × Name)) → lowest (t.fds h) ≡ f → answer_with version (settle t) h (Dup fd) res par id ≡ NewFd f
unfolding answer_by settle
dup_answer_settled version t h fd id f res par e = ap (λ (z : ℕ). NewFd z) e

dup_place : (t : Tree) (h fd : ℕ) → h < hart_count → ((file_at t h fd ≡ None) ⊎ (has_room (t.fds h) ≡ true)) → IsInPlace (settle t) h (Dup fd)
unfolding place_of settle
dup_place t h fd lt (inl e) = rw (below_is h hart_count lt, e) refl
dup_place t h fd lt (inr e) = rw (below_is h hart_count lt) (or_right (file_at t h fd) (has_room (t.fds h)) e)
  where
    or_right : (o : Option OpenFile) (b : Bool) → b ≡ true → (is_nothing o || b) ≡ true
    or_right None b q = refl
    or_right (Some f) b q = q

dup_stays : (t : Tree) (h fd : ℕ) → refused t h (Dup fd) ≡ t
dup_stays t h fd = refl

pub dup_is_refused : (version : Version) (h fd : ℕ) (v : World) → h < hart_count → file_at v.all h fd ≡ None → Refused version h (Dup fd) BadDescriptor v
dup_is_refused version h fd v lt e = record {
  follows = refl;
  path = refl;
  now = λ res par. dup_refused version v.all h fd res par e;
  then_ = λ res par. dup_refused version (settle v.all) h fd res par (file_settled v.all h fd ∙ e);
  found = λ res. refl;
  stays = refl;
  place = dup_place v.all h fd lt (inl e);
  makes = λ q. refl;
  keeps = refl;
  inherits = λ g q. absurd cc;
}

abbrev pub dupped : ℕ → ℕ → Step
dupped fd f = record { move = OwnMove (Dup fd) 0; told = Some (record { act = record { step = Dup fd; answer = NewFd f }; new = 0 }) }

pub s-double : (version : Version) {A : Type 0} {h : ℕ} (fd : ℕ) {k : Option (Option ℕ) → P (machine version) A} {B : List Step → Type 0} {Q : A → List Step → World → Type 0} {n : ℕ} {es : List Step} {w : World} {O : Own}
    → own_of h w ≡ O → O.desk.lender ≡ None → h < hart_count → 0 < n → O.mine.walk ≡ None → O.mine.pending ≡ None → O.desk.opening ≡ None
    → B (fails (Dup fd) BadDescriptor ∷ es) → ((f : ℕ) → B (dupped fd f ∷ es))
    → ((l : ℕ) (u : World) → l + 1 ≡ n → own_of h u ≡ record O { mine = record { refs = O.mine.refs; walk = None; pending = None } } → Safe (machine version) h B Q (k None) l (fails (Dup fd) BadDescriptor ∷ es) u)
    → ((l : ℕ) (u : World) → l + 1 ≡ n → u.clean ≡ false → own_of h u ≡ record O { desk = record (O.desk) { full = true } } → Safe (machine version) h B Q (k (Some None)) l es u)
    → ((l f : ℕ) (r : Row) (d : Desk) (u : World) → l + 1 ≡ n → SameRow r O.row → SameDesk d O.desk → own_of h u ≡ record O { row = r; desk = d; mine = record { refs = O.mine.refs; walk = None; pending = None } } → Safe (machine version) h B Q (k (Some (Some f))) l (dupped fd f ∷ es) u)
    → Safe (machine version) h B Q (Do (Double fd) (dups fd) k) n es w
s-double version {A} {h} fd {k} {B} {Q} {n} {es} {w} {O} owns free lt pos walks none idle bf bd bad full then_ = s-owned version owns free pos (λ v inv ov. (tt, (λ _ _. at v inv ov (slot_at v h fd) refl)))
  where
    opening_none : (v : World) → own_of h v ≡ O → (v.desks h).opening ≡ None
    opening_none v ov = ap (λ (o : Own). o.desk.opening) ov ∙ idle

    rest : (v : World) → Inv v → own_of h v ≡ O → (s : ℕ) (e : Entry) → Behind h fd s e v → (b : Bool) → has_room (v.desks h).fds ≡ b
        → Good (machine version) (Option (Option ℕ)) h (λ a. places version h (Double fd) a (dups fd a) v) 0 n B es v ⊥ (with_mark version h (dups fd) (double_if h v s e b)) (λ l a u. Wp (machine version) h B Q (k a) l (onto (own h (places version h (Double fd) a (dups fd a) v)) es) u)
    rest v inv ov s e hit false q = let f = filling h v O ov free lt inv in quiet version f.fair refl pos (λ l r. (full l (record v { clean = false; desks = put v.desks h (record (v.desks h) { full = true }) }) r refl f.owned).wp)
    rest v inv ov s e hit true q =
        moves_good version h 0 n B Q es v (doubled h v s e f) (OwnMove (Dup fd) 0) tt (k (Some (Some f))) (made_by version v.all h (new_id v) (v.harts h).walk (OwnMove (Dup fd) 0)) (record { all = T; walk = None; found = None; opened = None; entered = None; left = None; told = (dupped fd f).told })
        made_is
        (fair inv (sells_did h v F D v.slots T (with_walk v.harts h None None) lt inv sells))
        (own_takes version h v u (Dup fd) (NewFd f) refl refl (ap (λ (o : Own). o.mine.walk) ov ∙ walks) (λ z. refl) (λ g z. absurd cc) (
          dup_goes version (settle v.all) h fd e.file (resolve version (settle v.all) h []) (parent version (settle v.all) h []) (file_settled v.all h fd ∙ hit.file),
          sym (dup_answer_settled version v.all h fd (new_id v) f (resolve version (settle v.all) h []) (parent version (settle v.all) h []) low),
          record { node = λ z. absurd cc; file = λ z. absurd cc },
          settle_less v.all X v.all.files less ∙ ap (λ (z : Tree). settle z) (sym (dup_effect_settled version v.all h fd 0 (new_id v) f (Some (v.ids s)) (resolve version (settle v.all) h []) (parent version (settle v.all) h []) low hit.tree)),
          dup_place v.all h fd lt (inr (ap (λ (z : ℕ). nat_lt z descriptor_count) low ∙ q)),
        )
        (ap (λ (m : Stage). m.walk) (stage_walk h None None v)))
        (bd f) pos
        (λ l r. (then_ l f (row_of T h) (D h) u r (record { cwd = ap (λ (o : Own). o.row.cwd) ov; hold = ap (λ (o : Own). o.row.hold) ov })
        (same_desk h f (Some s) v O ov)
        owned).wp)
      where
        f : ℕ
        f = lowest (v.desks h).fds

        F : ℕ → Option Entry
        F = put v.files s (Some (record { file = e.file; inode_type = e.inode_type; references = e.references + 1 }))

        D : ℕ → Desk
        D = with_fd v.desks h f (Some s)

        X : ℕ → ℕ → Option ℕ
        X = put v.all.fds h (put (v.all.fds h) f (Some (v.ids s)))

        T : Tree
        T = with_open v.all X v.all.files

        u : World
        u = record v { files = F; desks = D; all = T; harts = with_walk v.harts h None None }

        spare : (f < descriptor_count) × ((v.desks h).fds f ≡ None)
        spare = lowest_free (v.desks h).fds q

        low : lowest (v.all.fds h) ≡ f
        low = lowest_same (v.desks h).fds (v.all.fds h) v.ids (λ j l. inv.tied.fds h j lt l (not_at v h j (opening_none v ov)))

        desk_is : D h ≡ record (v.desks h) { fds = put (v.desks h).fds f (Some s) }
        desk_is = put_same v.desks h (record (v.desks h) { fds = put (v.desks h).fds f (Some s) })

        made_is : made_by version v.all h (new_id v) (v.harts h).walk (OwnMove (Dup fd) 0) ≡ record { all = T; walk = None; found = None; opened = None; entered = None; left = None; told = (dupped fd f).told }
        made_is = rw (dup_goes version v.all h fd e.file (resolve version v.all h []) (parent version v.all h []) hit.file)
            (λ r. record { all = dup_effect version v.all h fd 0 (new_id v) f (Some (v.ids s)) (resolve version v.all h []) (parent version v.all h []) low hit.tree r; walk = None; found = None; opened = None; entered = None; left = None; told = Some (record { act = record { step = Dup fd; answer = dup_answer version v.all h fd (new_id v) f (resolve version v.all h []) (parent version v.all h []) low r }; new = 0 }) })

        uses_free : (j : ℕ) → one_if (is_at ((v.desks h).fds f) j) ≡ 0
        uses_free j = ap (λ (z : Option ℕ). one_if (is_at z j)) spare.1 ∙ one_no false refl

        renews : Renews (file_tables_of v) s e (record { file = e.file; inode_type = e.inode_type; references = e.references + 1 }) D
        renews = record {
          at = hit.at;
          same = refl;
          counted = let a = users_put v.desks h f s (Some s) lt spare.0 in let b = uses_free s in let c : one_if (s == s) ≡ 1 = one_yes (s == s) (eq_self s) in let d = (inv.tied.counted s e hit.at).0 in omega (arith, a, b, c, d);
          more = omega arith;
          other = λ j ne. let a = users_put v.desks h f j (Some s) lt spare.0 in let b = uses_free j in let c = not_one s j (λ z. ne (sym z)) in omega (arith, a, b, c);
        }

        tied : IsTied (record { files = F; desks = D; ids = v.ids; slots = v.slots; clean = v.clean; tree_fds = T.fds; tree_files = T.files })
        tied = changes (file_tables_of v) h f (Some s) (Some (v.ids s)) F v.slots inv.tied (record {
          hart = lt;
          below = spare.0;
          opening = opening_none v ov;
          same = refl;
          keep = renewed (file_tables_of v) s e (record { file = e.file; inode_type = e.inode_type; references = e.references + 1 }) D inv.tied renews;
          used = λ j d a more. let z = renewed_at v.files s e (record { file = e.file; inode_type = e.inode_type; references = e.references + 1 }) j d hit.at refl a in (z.0, z.1);
          has = λ j z. let a : s ≡ j = cc in (e, ap v.files (sym a) ∙ hit.at, fd, hit.below, hit.tree ∙ ap (λ (y : ℕ). Some (v.ids y)) a);
          slots = λ j. inv.tied.slots j ∙ sym (renewed_slots v.files s e (record { file = e.file; inode_type = e.inode_type; references = e.references + 1 }) j hit.at refl);
          lent = λ k q. absurd (let a = inv.tied.lends h f k lt spare.0 q in let b = spare.1 in cc (a, b));
        })

        same_fds : (g i : ℕ) → g ≢ h → X g i ≡ v.all.fds g i
        same_fds g i ne = ap (λ (z : ℕ → Option ℕ). z i) (put_other v.all.fds h (put (v.all.fds h) f (Some (v.ids s))) g ne)

        less : NamesLess v.all X v.all.files
        less m g i lg li out = elim (same_or g h) [
          | inr ne ↦ ap (λ (z : Option ℕ). fd_names v.all z m) (same_fds g i ne) ∙ out g i lg li
          | inl r ↦ elim (same_or i f) [
            | inl t ↦ ap (λ (z : Option ℕ). fd_names v.all z m) (ap (λ (z : ℕ). X z i) r ∙ ap (λ (z : ℕ → Option ℕ). z i) (put_same v.all.fds h (put (v.all.fds h) f (Some (v.ids s)))) ∙ ap (put (v.all.fds h) f (Some (v.ids s))) t ∙ put_same (v.all.fds h) f (Some (v.ids s)) ∙ sym hit.tree) ∙ out h fd lt hit.below
            | inr ne ↦ ap (λ (z : Option ℕ). fd_names v.all z m) (ap (λ (z : ℕ). X z i) r ∙ ap (λ (z : ℕ → Option ℕ). z i) (put_same v.all.fds h (put (v.all.fds h) f (Some (v.ids s)))) ∙ put_other (v.all.fds h) f (Some (v.ids s)) i ne) ∙ out h i lt li
          ]
        ]

        sells : Sells h v F D v.slots T (with_walk v.harts h None None)
        sells = record {
          kin = record {
            tied = tied;
            desks = λ g ne. put_other v.desks h (record (v.desks h) { fds = put (v.desks h).fds f (Some s) }) g ne;
            numbers = λ g i j d lg ne li z a. let x = renewed_same v.files s e (record { file = e.file; inode_type = e.inode_type; references = e.references + 1 }) j d hit.at refl refl a in (x.0, x.1, x.2, inl x.3);
            clean = λ c. c;
            bond = ap (λ (z : Desk). bond_of z) desk_is;
            stays = inl (ap (λ (z : Desk). z.directory) desk_is);
          };
          free = same.lender ∙ free;
          unlent = (ap (λ (o : Own). o.desk.lender) ov ∙ free);
          joined = ap (λ (z : Desk). z.joined) desk_is;
          holds = refl;
          inode_types = λ k x q. renewed_types v s e (record { file = e.file; inode_type = e.inode_type; references = e.references + 1 }) inv hit.at refl refl refl k x q;
          noted = λ m q. (sym (ap (λ (z : Desk). z.noted) desk_is) ∙ q, (λ p. let r = refs_walk v.harts h None None h m.number in omega (arith, r, p)));
          directory = stands_on (v.desks h) (D h) (v.all.cwd h) v.all.nodes (ap (λ (o : Own). o.desk.lender) ov ∙ free) (ap (λ (z : Desk). z.directory) desk_is) (ap (λ (z : Desk). z.left) desk_is) (inv.directory h lt);
          home = ap (λ (z : Desk). z.directory) desk_is;
          few = λ j. let r = refs_walk v.harts h None None h j in let a = (inv.refers h lt).few j in omega (arith, r, a);
          well = subst (λ (z : Tree). IsWellFormed z) (λ i. record (v.all) { fds = put v.all.fds h (put (v.all.fds h) (low i) (hit.tree i)) }) (well_dup v.all h fd e.file inv.well lt hit.file);
          nodes = refl;
          size = refl;
          rows = λ g ne. λ r. record { cwd = v.all.cwd g; hold = v.all.holds g; fds = put_other v.all.fds h (put (v.all.fds h) f (Some (v.ids s))) g ne r; keys = λ i. if nat_lt g hart_count && nat_lt i descriptor_count then key_at v.all.files (put_other v.all.fds h (put (v.all.fds h) f (Some (v.ids s))) g ne r i) else None };
          ids = inv.ids;
          others = λ g ne. put_other v.harts h (record { refs = (v.harts h).refs; walk = None; pending = None }) g ne;
          refs = λ j. let r = refs_walk v.harts h None None h j in omega (arith, r);
          counts = λ j. inv.counts j ∙ ap (λ (z : ℕ). v.slots j + z) (sym (sum_same hart_count (λ g. (v.harts g).refs j) (λ g. (with_walk v.harts h None None g).refs j) (λ g l. refs_walk v.harts h None None g j)));
          pinned = λ j kept o.
              let ne : o.fd ≢ f = (λ z. absurd (let a : (v.desks h).fds o.fd ≡ None = ap (v.desks h).fds z ∙ spare.1 in let b = o.is in cc (a, b))) in
              let z = renewed_at v.files s e (record { file = e.file; inode_type = e.inode_type; references = e.references + 1 }) o.slot o.entry hit.at refl o.at in
              inl (record { fd = o.fd; below = o.below; slot = o.slot; is = ap (λ (d : Desk). d.fds o.fd) desk_is ∙ put_other (v.desks h).fds f (Some s) o.fd ne ∙ o.is; entry = z.0; at = z.1; number = z.2 ∙ o.number });
          names = λ j is. names_same j is;
          still = ap (λ (o : Own). o.mine.pending) ov ∙ none;
          found = ap (λ (m : Mine). m.pending) (put_same v.harts h (record { refs = (v.harts h).refs; walk = None; pending = None }));
          walk = ap (λ (m : Mine). m.walk) (put_same v.harts h (record { refs = (v.harts h).refs; walk = None; pending = None }));
          lone = λ i a. a.counts ∙ sym (refs_walk v.harts h None None a.hart i);
        }
          where
            same : SameDesk (D h) O.desk
            same = same_desk h f (Some s) v O ov

            names_same : (j : ℕ) → own_names (row_of T h) (D h) j ≡ true → own_names (row_of v.all h) (v.desks h) j ≡ true
            names_same j is = sym (names_less (row_of T h) (row_of v.all h) (D h) (v.desks h) j refl refl (ap (λ (z : Desk). z.opening) desk_is ∙ opening_none v ov) (opening_none v ov) (ap (λ (z : Desk). z.left) desk_is)) ∙ is

        owned : own_of h u ≡ record O { row = row_of T h; desk = D h; mine = record { refs = O.mine.refs; walk = None; pending = None } }
        owned = λ z. record {
          inodes = ap (λ (o : Own). o.inodes) ov z;
          mine = (put_same v.harts h (record { refs = (v.harts h).refs; walk = None; pending = None }) ∙ ap (λ (o : Own). record { refs = o.mine.refs; walk = None; pending = None }) ov) z;
          row = row_of T h;
          ninodes = ap (λ (o : Own). o.ninodes) ov z;
          desk = D h;
        }

    at : (v : World) → Inv v → own_of h v ≡ O → (o : Option ℕ) → slot_at v h fd ≡ o
        → Good (machine version) (Option (Option ℕ)) h (λ a. places version h (Double fd) a (dups fd a) v) 0 n B es v ⊥ (with_mark version h (dups fd) (double_at h v o (entry_at v.files o))) (λ l a u. Wp (machine version) h B Q (k a) l (onto (own h (places version h (Double fd) a (dups fd a) v)) es) u)
    at v inv ov None q = refused_good version h 0 n B Q es v O (Dup fd) BadDescriptor (k None) ov free lt inv walks none (dup_is_refused version h fd v lt (behind_none h fd v inv lt (opening_none v ov) q)) bf pos bad
    at v inv ov (Some s) q =
        let b = behind h fd s v inv lt (opening_none v ov) q in
        subst (λ (z : Option Entry). Good (machine version) (Option (Option ℕ)) h (λ a. places version h (Double fd) a (dups fd a) v) 0 n B es v ⊥ (with_mark version h (dups fd) (double_at h v (Some s) z)) (λ l a u. Wp (machine version) h B Q (k a) l (onto (own h (places version h (Double fd) a (dups fd a) v)) es) u)) (sym b.1.at)
        (rest v inv ov s b.0 b.1 (has_room (v.desks h).fds) refl)
