-- Inodes that one hart keeps alone: locked, freed, and anybody's again.
use Rattle.image_versions.specs.declared.version.Version.{Version}
use Rattle.inode_machine.proofs.Vocabulary.{◌≡◌, ◌≢◌, ◌⊎◌, inl, inr, ℕ, ◌+◌, ◌-◌, ◌<◌, Bool, true, false, ◌==◌, List, [], Option, Some, None, refl, sym, ◌∙◌, ap, subst, arith, Do, unmarked, P, Good, Fine, Safe, Wp, Node, hart_count, put, is_live, is_named, settle, row_of, settle_nodes, sum_below, either, nat_lt, nat_tests, HasLast, same_or, put_same, put_other, none_any, look_live, Step, Walk, Mine, World, Entry, with_mark, lock_if, blank, counted_down, file_count, locked, unlocked, Frees, Take, UnlockInode, Free, Forget, file_tables_of, own_names, Held, view, is_hart, if_kept, own_of, IsReferredTo, IsReached, IsAlone, Inv, IsOut, machine, looking_cost, number_is, Sought, sum_part, one_yes, one_if, eq_self, Own, Query, Sight, seen_in, type_of, emptying_cost}
use Rattle.inode_machine.proofs.Frame.{child_directory, file_tables_same, put_elim, ours_none, ours_some, kept_here, HartStep, Fair, fair, fair_then, own_inodes, has_inode, found_more, one_refs, two_refs, stands_in, directory_named, refers_put, resting_names, type_on}
use Rattle.inode_machine.proofs.Rules.{s-owned, quiet, each_refs, here_refs, walks_refs, total_same, total_changed, my_refs, is_me, has_disk, has_node, locks_it}
use Rattle.inode_machine.proofs.Counting.{Writes, writes, spares, not_home}
use Rattle.inode_machine.proofs.Rows.{hart_not}
use Rattle.tree_laws.proofs.Nodes.{well_gone}

-- The lock of an inode that the hart keeps already is free.
pub record LockingKept (h i : ℕ) (x : Held) (v : World) (O : Own) : Type 0 where
  pub unlocked : v.lock i ≡ None
  pub fair : Fair h v (locked h i v)
  pub owned : own_of h (locked h i v) ≡ record O { inodes = put O.inodes i (Some (record x { locked = true })) }

pub locking_kept : Version → (h i : ℕ) (x : Held) (v : World) (O : Own) → own_of h v ≡ O → O.desk.lender ≡ None → h < hart_count → Inv v → O.inodes i ≡ Some x → x.locked ≡ false → LockingKept h i x v O
locking_kept version h i x v O ov free lt inv isi out = record { unlocked = none (v.lock i) refl; fair = fair inv did; owned = owned }
  where
    none : (r : Option ℕ) → v.lock i ≡ r → r ≡ None
    none None e = refl
    none (Some g) e = absurd (let a = inv.keeps i g e in let b = (has_inode h i v O x ov isi).0 in let s : Some g ≡ Some h = sym a ∙ b in let c : g ≡ h = cc in
        let m = is_me h (v.lock i) (e ∙ ap (λ (z : ℕ). Some z) c) in let l : is_hart (v.lock i) h ≡ false = ap (λ (y : Held). y.locked) (has_inode h i v O x ov isi).1 ∙ out in cc (m, l))

    u : World
    u = locked h i v

    kept : v.keeper i ≡ Some h
    kept = (has_inode h i v O x ov isi).0

    same : (j : ℕ) → put v.keeper i (Some h) j ≡ v.keeper j
    same j = put_elim v.keeper i (Some h) j (λ z. z ≡ v.keeper j) (λ q. sym (ap v.keeper q ∙ kept)) (λ q. refl)

    did : HartStep h v u
    did =
        record {
          hart = lt;
          inodes = λ j. elim (same_or j i) [
            | inl q ↦ inr (record {
              before = ours_some h (v.keeper j) (ap v.keeper q ∙ kept);
              after = ours_some h (u.keeper j) (ap u.keeper q ∙ put_same v.keeper i (Some h));
              whole = λ f. absurd (let s : u.keeper j ≡ Some h = ap u.keeper q ∙ put_same v.keeper i (Some h) in cc);
              keeps = λ g is. let a : u.lock j ≡ Some h = ap u.lock q ∙ put_same v.lock i (Some h) in let s : u.keeper j ≡ Some h = ap u.keeper q ∙ put_same v.keeper i (Some h) in s ∙ sym a ∙ is;
            })
            | inr ne ↦ inl (record { lock = put_other v.lock i (Some h) j ne; keeper = put_other v.keeper i (Some h) j ne; disk = refl; node = refl; alone = refl })
          ];
          mine = λ g ne. refl;
          rows = λ g ne. refl;
          size = refl;
          ids = inv.ids;
          file_tables = file_tables_same h (file_tables_of v) inv.tied;
          free = ap (λ (o : Own). o.desk.lender) ov ∙ free;
          raised = inv.raised h lt;
          quiet = λ j is f. inv.quiet j h (sym (same j) ∙ is) f;
          inode_type = λ j. inl refl;
          inode_types = inv.inode_types;
          noted = λ n is r s. inv.noted h n lt is r s;
          directory = inv.directory h lt;
          refers = inv.refers h lt;
          well = inv.well;
          counts = inv.counts;
          alone = λ j is. let a = inv.alone j is in record { hart = a.hart; kept = same j ∙ a.kept; dead = a.dead; counts = a.counts };
          kept = λ j is. (inv.kept j h (sym (same j) ∙ is)).1;
          held = λ j is. put_elim v.lock i (Some h) j (λ z. (z ≡ Some h) ⊎ (v.alone j ≡ true)) (λ q. inl refl) (λ q. inv.held j h (sym (same j) ∙ is));
          named = λ j is. inv.named h j lt (ap (λ (o : Own). o.desk.lender) ov ∙ free) is;
          pending = λ j is. found_more h v u j (λ d q. (same d ∙ q, refl)) (inv.pending h j lt is);
          walks = λ y is. inv.walks h y lt is;
        }

    owned : own_of h u ≡ record O { inodes = put O.inodes i (Some (record x { locked = true })) }
    owned = λ z. record {
      inodes = own_inodes h i v u O (Some (record x { locked = true })) ov
          (kept_here h (u.keeper i) (view u h i) (put_same v.keeper i (Some h)) ∙ (λ r. Some (record (view v h i) { locked = is_me h (u.lock i) (put_same v.lock i (Some h)) r })) ∙ ap (λ (y : Held). Some (record y { locked = true })) (has_inode h i v O x ov isi).1)
          (λ j ne. (put_other v.keeper i (Some h) j ne, (λ r. record { disk = v.disk j; node = v.all.nodes j; alone = v.alone j; locked = is_hart (put_other v.lock i (Some h) j ne r) h }))) z;
      mine = ap (λ (o : Own). o.mine) ov z;
      row = ap (λ (o : Own). o.row) ov z;
      ninodes = ap (λ (o : Own). o.ninodes) ov z;
      desk = ap (λ (o : Own). o.desk) ov z;
    }

pub s-take-kept : (version : Version) {A : Type 0} {h i : ℕ} {x : Held} {looking : Query} {k : Sight → P (machine version) A} {B : List Step → Type 0} {Q : A → List Step → World → Type 0} {n : ℕ} {es : List Step} {w : World} {O : Own}
    → own_of h w ≡ O → O.desk.lender ≡ None → h < hart_count → looking_cost looking < n → O.inodes i ≡ Some x → x.locked ≡ false → x.disk ≢ None → Sought version looking → 0 < O.mine.refs i
    → ((l : ℕ) (u : World) → l + (looking_cost looking + 1) ≡ n → own_of h u ≡ record O { inodes = put O.inodes i (Some (record x { locked = true })) } → Safe (machine version) h B Q (k (seen_in version i looking x.disk)) l es u)
    → Safe (machine version) h B Q (Do (Take i looking) unmarked k) n es w
s-take-kept version {A} {h} {i} {x} {looking} {k} {B} {Q} {n} {es} {w} {O} owns free lt pos isi out there sought refers rest = s-owned version owns free pos (λ v inv ov. (
  ((let r = my_refs h v O i ov in omega (arith, r, refers), (λ e. let a = locking_kept version h i x v O ov free lt inv isi out in let b = a.unlocked in cc (b, e))), (λ e z. there (sym (has_disk h i v O x ov isi) ∙ z)), sought),
  (λ _ _. at v inv ov (v.lock i) refl),
))
  where
    at : (v : World) → Inv v → own_of h v ≡ O → (r : Option ℕ) → v.lock i ≡ r → Good (machine version) Sight h (λ a. []) (looking_cost looking) n B es v (IsOut h (v.lock i)) (with_mark version h unmarked (lock_if h i (seen_in version i looking (v.disk i)) v (locked h i v) r)) (λ l a u. Wp (machine version) h B Q (k a) l es u)
    at v inv ov (Some g) e = absurd (let a = locking_kept version h i x v O ov free lt inv isi out in let b = a.unlocked in cc (b, e))
    at v inv ov None e =
        let a = locking_kept version h i x v O ov free lt inv isi out in
        quiet version a.fair refl pos (λ l q. subst (λ (z : Option Node). Wp (machine version) h B Q (k (seen_in version i looking z)) l es (locked h i v)) (sym (has_disk h i v O x ov isi)) (rest l (locked h i v) q a.owned).wp)

-- an open file isn't of an inode that one hart keeps alone
pub lone_file : (h i k : ℕ) (e : Entry) (v : World) → Inv v → h < hart_count → v.alone i ≡ true → v.keeper i ≡ Some h → v.files k ≡ Some e → e.file.number ≢ i
lone_file h i k e v inv lt lone kept is q =
    let a = inv.alone i lone in
    let s : Some a.hart ≡ Some h = sym a.kept ∙ kept in
    let m : a.hart ≡ h = cc in
    let c : v.refs i ≡ (v.harts h).refs i = a.counts ∙ ap (λ (z : ℕ). (v.harts z).refs i) m in
    let o = one_refs v h i inv lt in
    let t = inv.tied.slots i in
    let p = sum_part file_count k (λ k. number_is (v.files k) i) (inv.tied.within k e is) in
    let x : number_is (v.files k) i ≡ one_if (e.file.number == i) = ap (λ (z : Option Entry). number_is z i) is in
    let y : one_if (e.file.number == i) ≡ 1 = one_yes (e.file.number == i) (ap (λ (z : ℕ). z == i) q ∙ eq_self i) in
    omega (arith, c, o, t, p, x, y)

-- A dead node that nothing names can be taken out of the tree before it settles.

abbrev without_one : (ℕ → Option Node) → ℕ → ℕ → Option Node
without_one ns i = put ns i None

-- nobody names an inode that one hart keeps alone, and doesn't name itself
pub unnamed : (h i : ℕ) (v : World) → Inv v → h < hart_count → v.alone i ≡ true → v.keeper i ≡ Some h → own_names (row_of v.all h) (v.desks h) i ≡ false → is_named v.all i ≡ false
unfolding is_named
unnamed h i v inv lt lone kept mine = none_any hart_count _ (λ g lg. hart_not g i v inv lg (let o = one_refs v h i inv lt in let c = counts in omega (arith, o, c)) (elim (same_or g h) [
  | inl e ↦ ap (λ (z : ℕ). own_names (row_of v.all z) (v.desks z) i) e ∙ mine
  | inr ne ↦ elim (either (own_names (row_of v.all g) (v.desks g) i)) [ inr y ↦ y | inl y ↦ absurd (names_not g lg ne (v.desks g).lender refl y) ]
]))
  where
    a : IsAlone v.keeper v.all.nodes v.refs v.harts i
    a = inv.alone i lone

    counts : v.refs i ≡ (v.harts h).refs i
    counts = let s : Some a.hart ≡ Some h = sym a.kept ∙ kept in let e : a.hart ≡ h = cc in a.counts ∙ ap (λ (z : ℕ). (v.harts z).refs i) e

    reached : (g : ℕ) → g < hart_count → g ≢ h → IsReached v g i → ⊥
    reached g lg ne (inl p) = let o = two_refs v g h i inv lg lt ne in let c = counts in omega (arith, o, c, p)
    reached g lg ne (inr p) = let f = inv.pending g i lg p in let l = look_live v.all f.directory i f.name inv.well f.finds in let u = a.dead in absurd (cc (l, u))

    -- nor does a hart that gets another's directory
    names_not : (g : ℕ) → g < hart_count → g ≢ h → (o : Option ℕ) → (v.desks g).lender ≡ o → own_names (row_of v.all g) (v.desks g) i ≡ true → ⊥
    names_not g lg ne None q y = reached g lg ne (inv.named g i lg q y)
    names_not g lg ne (Some c) q y =
        let l = inv.lent g c lg q in
        let at = resting_names (row_of v.all g) (v.desks g) i l.rests.hold l.rests.opening l.rests.left y in
        elim (child_directory v c g l) [
          | inl e ↦ reached g lg ne (inl (let p = (inv.refers g lg).home in let r : (v.harts g).refs (v.desks g).directory ≡ (v.harts g).refs i = ap (v.harts g).refs (sym e ∙ at) in omega (arith, p, r)))
          | inr e ↦ elim (same_or c h) [
            | inr nc ↦ reached c l.hart nc (inl (let p = (inv.refers c l.hart).home in let r : (v.harts c).refs (v.desks c).directory ≡ (v.harts c).refs i = ap (v.harts c).refs (sym e ∙ at) in omega (arith, p, r)))
            | inl s ↦ (
                let d : own_names (row_of v.all c) (v.desks c) i ≡ true = ap (own_names (row_of v.all c) (v.desks c)) (sym (sym e ∙ at)) ∙ directory_named (row_of v.all c) (v.desks c) ((inv.directory c l.hart).at l.free) in
                let b : own_names (row_of v.all c) (v.desks c) i ≡ false = ap (λ (z : ℕ). own_names (row_of v.all z) (v.desks z) i) s ∙ mine in
                absurd (cc (d, b))
                )
          ]
        ]

-- What has no links has a record with that count.
pub record NoLinks (o : Option Node) : Type 0 where
  pub node : Node
  pub is : o ≡ Some node
  pub count : node.count ≡ 0

none_less : (n : ℕ) → nat_lt 0 n ≡ false → n ≡ 0
none_less n is = grind (arith, nat_tests, is)

no_links : (o : Option Node) → o ≢ None → is_live o ≡ false → NoLinks o
no_links None there dead = absurd (there refl)
no_links (Some y) there dead = record { node = y; is = refl; count = none_less y.count dead }

-- The type of a dead inode, to which the hart has the one reference, is cleared on the disk.
pub s-free : (version : Version) {A : Type 0} {h i : ℕ} {x : Held} {k : Unit {0} → P (machine version) A} {B : List Step → Type 0} {Q : A → List Step → World → Type 0} {n : ℕ} {es : List Step} {w : World} {O : Own}
    → own_of h w ≡ O → O.desk.lender ≡ None → h < hart_count → emptying_cost < n → O.desk.joined ≡ true → O.inodes i ≡ Some x → x.locked ≡ true → x.alone ≡ true → NoLinks x.disk → O.mine.refs i ≡ 1 → own_names O.row O.desk i ≡ false → O.mine.pending ≡ None
    → ((l : ℕ) (u : World) → l + 901 ≡ n → own_of h u ≡ record O { inodes = put O.inodes i (Some (record x { disk = None; node = None })) } → Safe (machine version) h B Q (k tt) l es u)
    → Safe (machine version) h B Q (Do (Free i) (λ a. Some (Frees i)) k) n es w
s-free version {A} {h} {i} {x} {k} {B} {Q} {n} {es} {w} {O} owns free lt pos joined isi has lone links one mine none rest = s-owned version owns free pos (λ v inv ov. (
  ((locks_it h i v O x ov isi has, ap (λ (o : Own). o.desk.joined) ov ∙ joined), record { node = links.node; is = has_disk h i v O x ov isi ∙ links.is; fits = links.count }, last v inv ov),
  (λ _ _. good v inv ov),
))
  where
    -- nobody else refers to what one hart keeps alone
    last : (v : World) → Inv v → own_of h v ≡ O → HasLast h i v
    last v inv ov =
        let lone_at : v.alone i ≡ true = ap (λ (y : Held). y.alone) (has_inode h i v O x ov isi).1 ∙ lone in
        let a = inv.alone i lone_at in
        let s : Some a.hart ≡ Some h = sym a.kept ∙ (has_inode h i v O x ov isi).0 in
        let e : a.hart ≡ h = cc in
        let mine : (v.harts h).refs i ≡ 1 = my_refs h v O i ov ∙ one in
        (a.counts ∙ ap (λ (z : ℕ). (v.harts z).refs i) e ∙ mine, mine)

    good : (v : World) → Inv v → own_of h v ≡ O → Fine (machine version) h [] emptying_cost n B es v (record v { disk = put v.disk i None; all = record (v.all) { nodes = put v.all.nodes i None } }) (λ l. Wp (machine version) h B Q (k tt) l es (record v { disk = put v.disk i None; all = record (v.all) { nodes = put v.all.nodes i None } }))
    good v inv ov = quiet version (fair_then wr.fair (fair wr.fair.inv did)) (λ z. record { tree = tree z; walk = λ g. (v.harts g).walk }) pos (λ l q. (rest l u q owned).wp)
      where
        wr : Writes h i None x O v
        wr = writes version h i None x O v free lt joined inv ov isi

        u1 : World
        u1 = record v { disk = put v.disk i None }

        u : World
        u = record u1 { all = record (v.all) { nodes = put v.all.nodes i None } }

        kept : v.keeper i ≡ Some h
        kept = (has_inode h i v O x ov isi).0

        lone_at : v.alone i ≡ true
        lone_at = ap (λ (y : Held). y.alone) (has_inode h i v O x ov isi).1 ∙ lone

        dead : is_live (v.all.nodes i) ≡ false
        dead = (inv.alone i lone_at).dead

        out : is_named v.all i ≡ false
        out = unnamed h i v inv lt lone_at kept (ap (λ (o : Own). own_names o.row o.desk i) ov ∙ mine)

        not_directory : (v.desks h).directory ≢ i
        not_directory q = let a = directory_named (row_of v.all h) (v.desks h) ((inv.directory h lt).at (ap (λ (o : Own). o.desk.lender) ov ∙ free)) in let b : own_names (row_of v.all h) (v.desks h) (v.desks h).directory ≡ own_names O.row O.desk i = ap (λ (o : Own). own_names o.row o.desk (v.desks h).directory) ov ∙ ap (own_names O.row O.desk) q in cc (a, b, mine)

        tree : settle (record (v.all) { nodes = put v.all.nodes i None }) ≡ settle v.all
        tree = settle_nodes v.all (put v.all.nodes i None) v.all.nodes (λ j. elim (same_or j i) [
          | inl q ↦ inr (ap (put v.all.nodes i None) q ∙ put_same v.all.nodes i None, subst (λ (z : ℕ). is_live (v.all.nodes z) ≡ false) (sym q) dead, subst (λ (z : ℕ). is_named v.all z ≡ false) (sym q) out)
          | inr ne ↦ inl (put_other v.all.nodes i None j ne)
        ])

        did : HartStep h u1 u
        did =
            record {
              hart = lt;
              inodes = λ j. elim (same_or j i) [
                | inl q ↦ inr (record {
                  before = ours_some h (v.keeper j) (ap v.keeper q ∙ kept);
                  after = ours_some h (v.keeper j) (ap v.keeper q ∙ kept);
                  whole = λ f. absurd (let s : v.keeper j ≡ Some h = ap v.keeper q ∙ kept in cc);
                  keeps = λ g is. inv.keeps j g is;
                })
                | inr ne ↦ inl (record { lock = refl; keeper = refl; disk = refl; node = put_other v.all.nodes i None j ne; alone = refl })
              ];
              mine = λ g ne. refl;
              rows = λ g ne. refl;
              size = refl;
              ids = inv.ids;
              file_tables = file_tables_same h (file_tables_of v) inv.tied;
              free = ap (λ (o : Own). o.desk.lender) ov ∙ free;
              raised = inv.raised h lt;
              quiet = λ j is f. absurd (let e : (v.desks h).joined ≡ true = ap (λ (o : Own). o.desk.joined) ov ∙ joined in cc (e, f));
              inode_type = λ j. elim (same_or j i) [
                | inl q ↦ inr (ap v.keeper q ∙ kept, ap v.alone q ∙ lone_at)
                | inr ne ↦ inl (ap (λ (z : Option Node). type_of z) (put_other v.all.nodes i None j ne))
              ];
              inode_types = λ k e is. type_on v.all.nodes (put v.all.nodes i None) e (ap (λ (z : Option Node). type_of z) (put_other v.all.nodes i None e.file.number (lone_file h i k e v inv lt lone_at kept is))) (inv.inode_types k e is);
              noted = λ n is r s. elim (same_or n.number i) [
                | inl q ↦ absurd (let a : v.alone n.number ≡ true = ap v.alone q ∙ lone_at in cc (a, s))
                | inr ne ↦ ap (λ (z : Option Node). type_of z) (put_other v.all.nodes i None n.number ne) ∙ inv.noted h n lt is r s
              ];
              directory = stands_in (v.desks h) (v.all.cwd h) v.all.nodes (put v.all.nodes i None) (ap (λ (z : Option Node). type_of z) (put_other v.all.nodes i None (v.desks h).directory not_directory)) (inv.directory h lt);
              refers = inv.refers h lt;
              well = well_gone v.all i inv.well dead out;
              counts = inv.counts;
              alone = λ j is. let a = inv.alone j is in record { hart = a.hart; kept = a.kept; dead = put_elim v.all.nodes i None j (λ z. is_live z ≡ false) (λ q. refl) (λ q. a.dead); counts = a.counts };
              kept = λ j is. (inv.kept j h is).1;
              held = λ j is. inv.held j h is;
              named = λ j is. inv.named h j lt (ap (λ (o : Own). o.desk.lender) ov ∙ free) is;
              pending = λ j is. absurd (let p : (v.harts h).pending ≡ None = ap (λ (o : Own). o.mine.pending) ov ∙ none in cc (p, is));
              walks = λ y is. inv.walks h y lt is;
            }

        owned : own_of h u ≡ record O { inodes = put O.inodes i (Some (record x { disk = None; node = None })) }
        owned = λ z. record {
          inodes = own_inodes h i v u O (Some (record x { disk = None; node = None })) ov
              (kept_here h (v.keeper i) (view u h i) kept ∙ (λ r. Some (record (view v h i) { disk = put_same v.disk i None r; node = put_same v.all.nodes i None r })) ∙ ap (λ (y : Held). Some (record y { disk = None; node = None })) (has_inode h i v O x ov isi).1)
              (λ j ne. (refl, (λ r. record { disk = put_other v.disk i None j ne r; node = put_other v.all.nodes i None j ne r; alone = v.alone j; locked = is_hart (v.lock j) h }))) z;
          mine = ap (λ (o : Own). o.mine) ov z;
          row = ap (λ (o : Own). o.row) ov z;
          ninodes = ap (λ (o : Own). o.ninodes) ov z;
          desk = ap (λ (o : Own). o.desk) ov z;
        }

-- Its lock is given up, and the hart keeps it still.
pub s-give-alone : (version : Version) {A : Type 0} {h i : ℕ} {x : Held} {k : Unit {0} → P (machine version) A} {B : List Step → Type 0} {Q : A → List Step → World → Type 0} {n : ℕ} {es : List Step} {w : World} {O : Own}
    → own_of h w ≡ O → O.desk.lender ≡ None → h < hart_count → 0 < n → O.inodes i ≡ Some x → x.locked ≡ true → x.alone ≡ true
    → ((l : ℕ) (u : World) → l + 1 ≡ n → own_of h u ≡ record O { inodes = put O.inodes i (Some (record x { locked = false })) } → Safe (machine version) h B Q (k tt) l es u)
    → Safe (machine version) h B Q (Do (UnlockInode i) unmarked k) n es w
s-give-alone version {A} {h} {i} {x} {k} {B} {Q} {n} {es} {w} {O} owns free lt pos isi has lone rest = s-owned version owns free pos (λ v inv ov. (
  locks_it h i v O x ov isi has,
  (λ _ _.
      let a : v.alone i ≡ true = ap (λ (y : Held). y.alone) (has_inode h i v O x ov isi).1 ∙ lone in
      subst (λ (b : Bool). Fine (machine version) h [] 0 n B es v (unlocked i v b) (λ l. Wp (machine version) h B Q (k tt) l es (unlocked i v b))) (sym a)
      (quiet version (fair inv (did v inv ov)) refl pos (λ l q. (rest l (after v) q (owned v ov)).wp))),
))
  where
    after : World → World
    after v = record v { lock = put v.lock i None }

    kept : (v : World) → own_of h v ≡ O → v.keeper i ≡ Some h
    kept v ov = (has_inode h i v O x ov isi).0

    did : (v : World) → Inv v → own_of h v ≡ O → HartStep h v (record v { lock = put v.lock i None })
    did v inv ov =
        record {
          hart = lt;
          inodes = λ j. elim (same_or j i) [
            | inl q ↦ inr (record {
              before = ours_some h (v.keeper j) (ap v.keeper q ∙ kept v ov);
              after = ours_some h (v.keeper j) (ap v.keeper q ∙ kept v ov);
              whole = λ f. absurd (let s : v.keeper j ≡ Some h = ap v.keeper q ∙ kept v ov in cc);
              keeps = λ g is. absurd (let s : put v.lock i None j ≡ None = ap (put v.lock i None) q ∙ put_same v.lock i None in cc);
            })
            | inr ne ↦ inl (record { lock = put_other v.lock i None j ne; keeper = refl; disk = refl; node = refl; alone = refl })
          ];
          mine = λ g ne. refl;
          rows = λ g ne. refl;
          size = refl;
          ids = inv.ids;
          file_tables = file_tables_same h (file_tables_of v) inv.tied;
          free = ap (λ (o : Own). o.desk.lender) ov ∙ free;
          raised = inv.raised h lt;
          quiet = λ j is f. inv.quiet j h is f;
          inode_type = λ j. inl refl;
          inode_types = inv.inode_types;
          noted = λ n is r s. inv.noted h n lt is r s;
          directory = inv.directory h lt;
          refers = inv.refers h lt;
          well = inv.well;
          counts = inv.counts;
          alone = inv.alone;
          kept = λ j is. (inv.kept j h is).1;
          held = λ j is. elim (same_or j i) [
            | inl q ↦ inr (ap v.alone q ∙ ap (λ (y : Held). y.alone) (has_inode h i v O x ov isi).1 ∙ lone)
            | inr ne ↦ elim (inv.held j h is) [ inl a ↦ inl (put_other v.lock i None j ne ∙ a) | inr a ↦ inr a ]
          ];
          named = λ j is. inv.named h j lt (ap (λ (o : Own). o.desk.lender) ov ∙ free) is;
          pending = λ j is. inv.pending h j lt is;
          walks = λ y is. inv.walks h y lt is;
        }

    owned : (v : World) → own_of h v ≡ O → own_of h (record v { lock = put v.lock i None }) ≡ record O { inodes = put O.inodes i (Some (record x { locked = false })) }
    owned v ov = λ z. record {
      inodes = own_inodes h i v (record v { lock = put v.lock i None }) O (Some (record x { locked = false })) ov
          (kept_here h (v.keeper i) (view (record v { lock = put v.lock i None }) h i) (kept v ov) ∙ (λ r. Some (record (view v h i) { locked = is_hart (put_same v.lock i None r) h })) ∙ ap (λ (y : Held). Some (record y { locked = false })) (has_inode h i v O x ov isi).1)
          (λ j ne. (refl, (λ r. record { disk = v.disk j; node = v.all.nodes j; alone = v.alone j; locked = is_hart (put_other v.lock i None j ne r) h }))) z;
      mine = ap (λ (o : Own). o.mine) ov z;
      row = ap (λ (o : Own). o.row) ov z;
      ninodes = ap (λ (o : Own). o.ninodes) ov z;
      desk = ap (λ (o : Own). o.desk) ov z;
    }

-- The last reference to an inode that was freed is counted down: its number is anybody's.
pub s-forget : (version : Version) {A : Type 0} {h i : ℕ} {x : Held} {k : Unit {0} → P (machine version) A} {B : List Step → Type 0} {Q : A → List Step → World → Type 0} {n : ℕ} {es : List Step} {w : World} {O : Own}
    → own_of h w ≡ O → O.desk.lender ≡ None → h < hart_count → 0 < n → O.inodes i ≡ Some x → x.alone ≡ true → x.locked ≡ false → x.disk ≡ None → x.node ≡ None → O.mine.refs i ≡ 1 → O.mine.pending ≡ None
    → own_names O.row O.desk i ≡ false → ((y : Walk) → O.mine.walk ≡ Some y → y.at ≢ i)
    → ((l : ℕ) (u : World) → l + 1 ≡ n → own_of h u ≡ record O { inodes = put O.inodes i None; mine = record { refs = put O.mine.refs i (O.mine.refs i - 1); walk = O.mine.walk; pending = O.mine.pending } } → Safe (machine version) h B Q (k tt) l es u)
    → Safe (machine version) h B Q (Do (Forget i) unmarked k) n es w
s-forget version {A} {h} {i} {x} {k} {B} {Q} {n} {es} {w} {O} owns free lt pos isi lone out blank gone one none unnamed unwalked rest = s-owned version owns free pos (λ v inv ov. (
  (spares h i v O ov (omega (arith, one)) (inr (not_home h i v O O.desk.opening inv ov free lt unnamed)), not_out v ov, ((has_inode h i v O x ov isi).0, has_disk h i v O x ov isi ∙ blank)),
  (λ _ _. good v inv ov),
))
  where
    not_out : (v : World) → own_of h v ≡ O → v.lock i ≢ Some h
    not_out v ov e = let m = is_me h (v.lock i) e in let l : is_hart (v.lock i) h ≡ false = ap (λ (y : Held). y.locked) (has_inode h i v O x ov isi).1 ∙ out in cc (m, l)

    good : (v : World) → Inv v → own_of h v ≡ O → Fine (machine version) h [] 0 n B es v (counted_down h i v) (λ l. Wp (machine version) h B Q (k tt) l es (counted_down h i v))
    good v inv ov = quiet version (fair inv did) (λ z. record { tree = settle v.all; walk = walks_refs v.harts h i ((v.harts h).refs i - 1) z }) pos (λ l q. (rest l u q owned).wp)
      where
        u : World
        u = counted_down h i v

        lone_at : v.alone i ≡ true
        lone_at = ap (λ (y : Held). y.alone) (has_inode h i v O x ov isi).1 ∙ lone

        kept : v.keeper i ≡ Some h
        kept = (has_inode h i v O x ov isi).0

        keeper_is : u.keeper ≡ put v.keeper i None
        keeper_is = rw lone_at refl

        at : (j : ℕ) → u.keeper j ≡ put v.keeper i None j
        at j = ap (λ (f : ℕ → Option ℕ). f j) keeper_is

        more : 0 < (v.harts h).refs i
        more = let r = my_refs h v O i ov in omega (arith, r, one)

        new : Mine
        new = record { refs = put (v.harts h).refs i ((v.harts h).refs i - 1); walk = (v.harts h).walk; pending = (v.harts h).pending }

        grow : (j : ℕ) → j ≢ i → 0 < (v.harts h).refs j → 0 < (u.harts h).refs j
        grow j ne a = let r = each_refs v.harts h i ((v.harts h).refs i - 1) h j (inr ne) in omega (arith, r, a)

        pin : (j : ℕ) → j ≢ i → IsReferredTo v.desks v.files v.harts h j → IsReferredTo v.desks v.files u.harts h j
        pin j ne (inl a) = inl a
        pin j ne (inr a) = inr (grow j ne a)

        pend : (v.harts h).pending ≡ None
        pend = ap (λ (o : Own). o.mine.pending) ov ∙ none

        shrink : (j : ℕ) → IsReached u h j → IsReached v h j
        shrink j (inr p) = inr (sym (ap (λ (m : Mine). m.pending) (put_same v.harts h new)) ∙ p)
        shrink j (inl p) = elim (same_or j i) [
          | inl q ↦ inl (subst (λ (z : ℕ). 0 < (v.harts h).refs z) (sym q) more)
          | inr ne ↦ inl (let r = each_refs v.harts h i ((v.harts h).refs i - 1) h j (inr ne) in omega (arith, r, p))
        ]

        none_left : (j : ℕ) → j ≡ i → IsReached u h j → ⊥
        none_left j q (inl p) = let a : (u.harts h).refs j ≡ (u.harts h).refs i = ap (u.harts h).refs q in let b = here_refs v.harts h i ((v.harts h).refs i - 1) in let r = my_refs h v O i ov in omega (arith, a, b, r, one, p)
        none_left j q (inr p) = let a : (u.harts h).pending ≡ (v.harts h).pending = ap (λ (m : Mine). m.pending) (put_same v.harts h new) in cc (a, p, pend)

        not_i : (j : ℕ) → u.keeper j ≡ Some h → j ≢ i
        not_i j is q = absurd (let a : u.keeper j ≡ None = at j ∙ ap (put v.keeper i None) q ∙ put_same v.keeper i None in cc (a, is))

        was : (j : ℕ) → u.keeper j ≡ Some h → v.keeper j ≡ Some h
        was j is = sym (put_other v.keeper i None j (not_i j is)) ∙ sym (at j) ∙ is

        unlocked_is : (g : ℕ) → v.lock i ≡ Some g → ⊥
        unlocked_is g q =
            let a = inv.keeps i g q in
            let s : Some g ≡ Some h = sym a ∙ kept in
            let m = is_me h (v.lock i) (q ∙ s) in
            let l : is_hart (v.lock i) h ≡ false = ap (λ (y : Held). y.locked) (has_inode h i v O x ov isi).1 ∙ out in
            absurd (cc (m, l))

        did : HartStep h v u
        did =
            record {
              hart = lt;
              inodes = λ j. elim (same_or j i) [
                | inl q ↦ inr (record {
                  before = ours_some h (v.keeper j) (ap v.keeper q ∙ kept);
                  after = ours_none h (u.keeper j) (at j ∙ ap (put v.keeper i None) q ∙ put_same v.keeper i None);
                  whole = λ f. ap v.disk q ∙ has_disk h i v O x ov isi ∙ blank ∙ sym gone ∙ sym (has_node h i v O x ov isi) ∙ ap v.all.nodes (sym q);
                  keeps = λ g is. absurd (unlocked_is g (ap v.lock (sym q) ∙ is));
                })
                | inr ne ↦ inl (record { lock = refl; keeper = at j ∙ put_other v.keeper i None j ne; disk = refl; node = refl; alone = put_other v.alone i false j ne })
              ];
              mine = λ g ne. put_other v.harts h new g ne;
              rows = λ g ne. refl;
              size = refl;
              ids = inv.ids;
              file_tables = file_tables_same h (file_tables_of v) inv.tied;
              free = ap (λ (o : Own). o.desk.lender) ov ∙ free;
              raised = inv.raised h lt;
              quiet = λ j is f. inv.quiet j h (was j is) f;
              inode_type = λ j. inl refl;
              inode_types = inv.inode_types;
              noted = λ n is r s. elim (same_or n.number i) [
                | inl q ↦ absurd (none_left n.number q r)
                | inr ne ↦ inv.noted h n lt is (shrink n.number r) (sym (put_other v.alone i false n.number ne) ∙ s)
              ];
              directory = inv.directory h lt;
              refers = refers_put (v.harts h) (u.harts h) (v.desks h) (v.desks h) i ((v.harts h).refs i - 1) (ap (λ (m : Mine). m.refs) (put_same v.harts h new)) refl (let a = (inv.refers h lt).few i in omega (arith, a)) (λ q. absurd (not_home h i v O O.desk.opening inv ov free lt unnamed (ap (λ (o : Own). o.desk.directory) (sym ov) ∙ q))) (inv.refers h lt);
              well = inv.well;
              counts = λ j. elim (same_or j i) [
                | inl q ↦ subst (λ (z : ℕ). u.refs z ≡ v.slots z + sum_below hart_count (λ g. (u.harts g).refs z)) (sym q)
                    (let t = total_changed v.harts h i ((v.harts h).refs i - 1) lt in let c = inv.counts i in let p = put_same v.refs i (v.refs i - 1) in let m = more in let o = one_refs v h i inv lt in omega (arith, t, c, p, m, o))
                | inr ne ↦ put_other v.refs i (v.refs i - 1) j ne ∙ inv.counts j ∙ ap (λ (z : ℕ). v.slots j + z) (sym (total_same v.harts h i ((v.harts h).refs i - 1) j ne))
              ];
              alone = λ j is. elim (same_or j i) [
                | inl q ↦ absurd (let a : put v.alone i false j ≡ false = ap (put v.alone i false) q ∙ put_same v.alone i false in cc (a, is))
                | inr ne ↦ let a = inv.alone j (sym (put_other v.alone i false j ne) ∙ is) in record {
                  hart = a.hart;
                  kept = at j ∙ put_other v.keeper i None j ne ∙ a.kept;
                  dead = a.dead;
                  counts = put_other v.refs i (v.refs i - 1) j ne ∙ a.counts ∙ sym (each_refs v.harts h i ((v.harts h).refs i - 1) a.hart j (inr ne));
                }
              ];
              kept = λ j is. pin j (not_i j is) (inv.kept j h (was j is)).1;
              held = λ j is. elim (inv.held j h (was j is)) [ inl a ↦ inl a | inr a ↦ inr (put_other v.alone i false j (not_i j is) ∙ a) ];
              named = λ j is. elim (inv.named h j lt (ap (λ (o : Own). o.desk.lender) ov ∙ free) is) [
                | inl a ↦ inl (grow j (λ q. absurd (let f : own_names O.row O.desk j ≡ true = ap (λ (o : Own). own_names o.row o.desk j) (sym ov) ∙ is in let g : own_names O.row O.desk j ≡ false = ap (own_names O.row O.desk) q ∙ unnamed in cc (f, g))) a)
                | inr a ↦ absurd (cc (a, pend))
              ];
              pending = λ j is. absurd (let p : (u.harts h).pending ≡ (v.harts h).pending = ap (λ (m : Mine). m.pending) (put_same v.harts h new) in cc (p, is, pend));
              walks = λ y is.
                  let old : (v.harts h).walk ≡ Some y = sym (ap (λ (m : Mine). m.walk) (put_same v.harts h new)) ∙ is in
                  elim (inv.walks h y lt old) [ inl a ↦ inl (grow y.at (unwalked y (sym (ap (λ (o : Own). o.mine.walk) ov) ∙ old)) a) | inr a ↦ absurd (cc (a, pend)) ];
            }

        owned : own_of h u ≡ record O { inodes = put O.inodes i None; mine = record { refs = put O.mine.refs i (O.mine.refs i - 1); walk = O.mine.walk; pending = O.mine.pending } }
        owned = λ z. record {
          inodes = own_inodes h i v u O None ov ((λ r. if_kept ((at i ∙ put_same v.keeper i None) r) h (view u h i)))
              (λ j ne. (at j ∙ put_other v.keeper i None j ne, (λ r. record { disk = v.disk j; node = v.all.nodes j; alone = put_other v.alone i false j ne r; locked = is_hart (v.lock j) h }))) z;
          mine = (put_same v.harts h new ∙ ap (λ (o : Own). record { refs = put o.mine.refs i (o.mine.refs i - 1); walk = o.mine.walk; pending = o.mine.pending }) ov) z;
          row = ap (λ (o : Own). o.row) ov z;
          ninodes = ap (λ (o : Own). o.ninodes) ov z;
          desk = ap (λ (o : Own). o.desk) ov z;
        }

-- Free, from the down that found the last reference: emptied, its lock given up, counted down.
pub s-free-all : (version : Version) {A : Type 0} {h i : ℕ} (s : Option Node) {k : P (machine version) A} {B : List Step → Type 0} {Q : A → List Step → World → Type 0} {n : ℕ} {es : List Step} {w : World} {O : Own}
    → own_of h w ≡ O → O.desk.lender ≡ None → h < hart_count → 902 < n → O.desk.joined ≡ true → O.inodes i ≡ Some (record { disk = s; node = s; alone = true; locked = true }) → s ≢ None → is_live s ≡ false → O.mine.refs i ≡ 1 → O.mine.pending ≡ None → own_names O.row O.desk i ≡ false → O.mine.walk ≡ None
    → ((l : ℕ) (u : World) → l + 903 ≡ n → own_of h u ≡ record O { inodes = put (put (put O.inodes i (Some (record { disk = None; node = None; alone = true; locked = true }))) i (Some (record { disk = None; node = None; alone = true; locked = false }))) i None; mine = record { refs = put O.mine.refs i (O.mine.refs i - 1); walk = O.mine.walk; pending = O.mine.pending } } → Safe (machine version) h B Q k l es u)
    → Safe (machine version) h B Q (Do (Free i) (λ _. Some (Frees i)) (λ _. Do (UnlockInode i) unmarked (λ _. Do (Forget i) unmarked (λ _. k)))) n es w
s-free-all version {h = h} {i = i} s {O = O} owns free lt few joined isi there dead one none unnamed still rest =
    s-free version owns free lt (omega arith) joined isi refl refl (no_links s there dead) one unnamed none (λ l2 u2 q2 own2.
    s-give-alone version own2 free lt (omega arith) (put_same _ i (Some (record { disk = None; node = None; alone = true; locked = true }))) refl refl (λ l3 u3 q3 own3.
    s-forget version own3 free lt (omega arith) (put_same _ i (Some (record { disk = None; node = None; alone = true; locked = false }))) refl refl refl refl one none unnamed (λ y is. absurd (cc (is, still))) (λ l4 u4 q4 own4. rest l4 u4 (omega arith) own4)))
