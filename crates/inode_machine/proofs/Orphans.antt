-- A new inode that gets no name: from then on it is a dead node of the tree before that settles, as any other.
use Rattle.image_versions.specs.declared.version.Version.{Version}
use Rattle.inode_machine.proofs.Vocabulary.{◌≡◌, ◌≢◌, inl, inr, ℕ, ◌+◌, ◌<◌, ◌≤◌, true, false, List, [], Option, Some, None, refl, sym, ◌∙◌, ap, subst, arith, Do, P, Fine, Safe, Wp, Node, hart_count, Tree, put, is_live, is_named, settle, row_of, node_or, settle_nodes, links_of, folders_of, links_in, raises, Folders, IsForest, IsWellFormed, same_or, put_same, put_other, folder_dead, dead_links, no_node, cwd_named, hold_named, file_named, folders_put, put_self, map_put, Step, with_count, type_of, Note, World, Orphans, Store, Own, file_tables_of, own_names, Held, view, is_hart, own_of, Inv, machine}
use Rattle.inode_machine.proofs.Basics.{file_tables_same, ours_some, kept_here, HartStep, fair, fair_then, own_inodes, has_inode, stands_in, directory_named, type_on, s-owned, quiet, has_disk, has_node, locks_it, locked_held, Writes, writes, lone_file, unnamed}

-- A dead node that nothing names may be in the tree before it settles.
well_orphan : (t : Tree) (i : ℕ) (v : Node) → IsWellFormed t → t.nodes i ≡ None → is_live (Some v) ≡ false → 1 ≤ i → i < t.ninodes → is_named t i ≡ false → IsWellFormed (record t { nodes = put t.nodes i (Some v) })
well_orphan t i v k none dead low below unnamed = record {
  range = λ n w is. elim (same_or n i) [
    | inl q ↦ (omega (arith, q, low), omega (arith, q, below))
    | inr ne ↦ k.range n w (sym (other n ne) ∙ is)
  ];
  depth = k.depth;
  forest = subst (λ (F : Folders). IsForest F (links_in (put t.nodes i (Some v))) (raises t.holds) t.ninodes k.depth) (sym folders)
      (subst (λ (C : ℕ → ℕ). IsForest (folders_of t.nodes) C (raises t.holds) t.ninodes k.depth) (sym links) k.forest);
  holds = λ h o lt is. let th = k.holds h o lt is in record { node = th.node; is = other o.number (λ q. named o.number q (hold_named t h o lt is)) ∙ th.is; inode_type = th.inode_type };
  descriptors = λ h j id lh lj is. let th = k.descriptors h j id lh lj is in record { file = th.file; is = th.is; node = th.node; there = other th.file.number (λ q. named th.file.number q (file_named t h j id th.file lh lj is th.is)) ∙ th.there };
  directories = λ h lt. let th = k.directories h lt in record { node = th.node; is = other (t.cwd h) (λ q. named (t.cwd h) q (cwd_named t h lt)) ∙ th.is; inode_type = th.inode_type };
}
  where
    was : is_live (t.nodes i) ≡ false
    was = ap (λ (o : Option Node). is_live o) none

    folders : folders_of (put t.nodes i (Some v)) ≡ folders_of t.nodes
    folders = folders_put t.nodes i (Some v) ∙ put_self (folders_of t.nodes) i _ (folder_dead (t.nodes i) (no_node (t.nodes i) was) ∙ sym (folder_dead (Some v) (no_node (Some v) dead)))

    links : links_in (put t.nodes i (Some v)) ≡ links_in t.nodes
    links = map_put (λ (o : Option Node). links_of o) t.nodes i (Some v) ∙ put_self (links_in t.nodes) i _ (dead_links (t.nodes i) was ∙ sym (dead_links (Some v) dead))

    other : (n : ℕ) → n ≢ i → put t.nodes i (Some v) n ≡ t.nodes n
    other n ne = put_other t.nodes i (Some v) n ne

    named : (n : ℕ) → n ≡ i → is_named t n ≡ true → ⊥
    named n q is = let a = subst (λ (z : ℕ). is_named t z ≡ true) q is in absurd (cc (a, unnamed))

-- The last store of its record, without links.
pub s-orphan : (version : Version) {A : Type 0} {h i : ℕ} {x : Held} (y : Node) {k : Unit {0} → P (machine version) A} {B : List Step → Type 0} {Q : A → List Step → World → Type 0} {n : ℕ} {es : List Step} {w : World} {O : Own}
    → own_of h w ≡ O → O.desk.lender ≡ None → h < hart_count → 2 < n → O.desk.joined ≡ true → O.inodes i ≡ Some x → x.locked ≡ true → x.alone ≡ true → x.disk ≡ Some y → x.node ≡ None → own_names O.row O.desk i ≡ false → O.mine.pending ≡ None
    → ((t : Note) → O.desk.noted ≡ Some t → t.number ≢ i) → 1 ≤ i → i < O.ninodes
    → ((l : ℕ) (u : World) → l + 3 ≡ n → own_of h u ≡ record O { inodes = put O.inodes i (Some (locked_held (Some (with_count 0 y)))) } → Safe (machine version) h B Q (k tt) l es u)
    → Safe (machine version) h B Q (Do (Store i 0) (λ _. Some (Orphans i)) k) n es w
s-orphan version {A} {h} {i} {x} y {k} {B} {Q} {n} {es} {w} {O} owns free lt pos joined isi has lone disk node mine none notes low below rest = s-owned version owns free pos (λ v inv ov. (
  ((locks_it h i v O x ov isi has, ap (λ (o : Own). o.desk.joined) ov ∙ joined), record { node = y; is = has_disk h i v O x ov isi ∙ disk; fits = inl (omega arith) }),
  (λ _ _. good v inv ov),
))
  where
    y1 : Node
    y1 = with_count 0 y

    good : (v : World) → Inv v → own_of h v ≡ O
        → Fine (machine version) h [] 2 n B es v (record v { disk = put v.disk i (Some (with_count 0 (node_or (v.disk i)))); all = record (v.all) { nodes = put v.all.nodes i (put v.disk i (Some (with_count 0 (node_or (v.disk i)))) i) }; alone = put v.alone i false })
        (λ l. Wp (machine version) h B Q (k tt) l es (record v { disk = put v.disk i (Some (with_count 0 (node_or (v.disk i)))); all = record (v.all) { nodes = put v.all.nodes i (put v.disk i (Some (with_count 0 (node_or (v.disk i)))) i) }; alone = put v.alone i false }))
    good v inv ov = subst (λ (z : World). Fine (machine version) h [] 2 n B es v z (λ l. Wp (machine version) h B Q (k tt) l es z)) (sym same)
        (quiet version (fair_then wr.fair (fair wr.fair.inv did)) (λ z. record { tree = tree z; walk = λ g. (v.harts g).walk }) pos (λ l q. (rest l u q owned).wp))
      where
        is_y : v.disk i ≡ Some y
        is_y = has_disk h i v O x ov isi ∙ disk

        wr : Writes h i (Some y1) x O v
        wr = writes version h i (Some y1) x O v free lt joined inv ov isi

        u1 : World
        u1 = record v { disk = put v.disk i (Some y1) }

        u : World
        u = record u1 { all = record (v.all) { nodes = put v.all.nodes i (Some y1) }; alone = put v.alone i false }

        same : record v { disk = put v.disk i (Some (with_count 0 (node_or (v.disk i)))); all = record (v.all) { nodes = put v.all.nodes i (put v.disk i (Some (with_count 0 (node_or (v.disk i)))) i) }; alone = put v.alone i false } ≡ u
        same = λ z. record v {
          disk = put v.disk i (Some (with_count 0 (node_or (is_y z))));
          all = record (v.all) { nodes = put v.all.nodes i (put_same v.disk i (Some (with_count 0 (node_or (is_y z)))) z) };
          alone = put v.alone i false;
        }

        kept : v.keeper i ≡ Some h
        kept = (has_inode h i v O x ov isi).0

        lone_at : v.alone i ≡ true
        lone_at = ap (λ (z : Held). z.alone) (has_inode h i v O x ov isi).1 ∙ lone

        gone : v.all.nodes i ≡ None
        gone = has_node h i v O x ov isi ∙ node

        out : is_named v.all i ≡ false
        out = unnamed h i v inv lt lone_at kept (ap (λ (o : Own). own_names o.row o.desk i) ov ∙ mine)

        not_directory : (v.desks h).directory ≢ i
        not_directory q = let a = directory_named (row_of v.all h) (v.desks h) ((inv.directory h lt).at (ap (λ (o : Own). o.desk.lender) ov ∙ free)) in let b : own_names (row_of v.all h) (v.desks h) (v.desks h).directory ≡ own_names O.row O.desk i = ap (λ (o : Own). own_names o.row o.desk (v.desks h).directory) ov ∙ ap (own_names O.row O.desk) q in cc (a, b, mine)

        tree : settle (record (v.all) { nodes = put v.all.nodes i (Some y1) }) ≡ settle v.all
        tree = sym (settle_nodes v.all v.all.nodes (put v.all.nodes i (Some y1)) (λ j. elim (same_or j i) [
          | inl q ↦ inr (ap v.all.nodes q ∙ gone, ap (λ (o : Option Node). is_live o) (ap (put v.all.nodes i (Some y1)) q ∙ put_same v.all.nodes i (Some y1)), subst (λ (z : ℕ). is_named v.all z ≡ false) (sym q) out)
          | inr ne ↦ inl (sym (put_other v.all.nodes i (Some y1) j ne))
        ]))

        number : i < v.all.ninodes
        number = let a = ap (λ (o : Own). o.ninodes) ov in omega (arith, a, below)

        did : HartStep h u1 u
        did =
            record {
              hart = lt;
              inodes = λ j. elim (same_or j i) [
                | inl q ↦ inr (record {
                  before = ours_some h (v.keeper j) (ap v.keeper q ∙ kept);
                  after = ours_some h (v.keeper j) (ap v.keeper q ∙ kept);
                  whole = λ f. absurd (let s : v.keeper j ≡ Some h = ap v.keeper q ∙ kept in cc);
                  keeps = λ g is. inv.keeps j g is;
                })
                | inr ne ↦ inl (record { lock = refl; keeper = refl; disk = refl; node = put_other v.all.nodes i (Some y1) j ne; alone = put_other v.alone i false j ne })
              ];
              mine = λ g ne. refl;
              rows = λ g ne. refl;
              size = refl;
              ids = inv.ids;
              file_tables = file_tables_same h (file_tables_of v) inv.tied;
              free = ap (λ (o : Own). o.desk.lender) ov ∙ free;
              raised = inv.raised h lt;
              quiet = λ j is f. absurd (let e : (v.desks h).joined ≡ true = ap (λ (o : Own). o.desk.joined) ov ∙ joined in cc (e, f));
              inode_type = λ j. elim (same_or j i) [
                | inl q ↦ inr (ap v.keeper q ∙ kept, ap v.alone q ∙ lone_at)
                | inr ne ↦ inl (ap (λ (z : Option Node). type_of z) (put_other v.all.nodes i (Some y1) j ne))
              ];
              inode_types = λ k e is. type_on v.all.nodes (put v.all.nodes i (Some y1)) e (ap (λ (z : Option Node). type_of z) (put_other v.all.nodes i (Some y1) e.file.number (lone_file h i k e v inv lt lone_at kept is))) (inv.inode_types k e is);
              noted = λ m is r s. elim (same_or m.number i) [
                | inl q ↦ absurd (notes m (ap (λ (o : Own). o.desk.noted) (sym ov) ∙ is) q)
                | inr ne ↦ ap (λ (z : Option Node). type_of z) (put_other v.all.nodes i (Some y1) m.number ne) ∙ inv.noted h m lt is r (sym (put_other v.alone i false m.number ne) ∙ s)
              ];
              directory = stands_in (v.desks h) (v.all.cwd h) v.all.nodes (put v.all.nodes i (Some y1)) (ap (λ (z : Option Node). type_of z) (put_other v.all.nodes i (Some y1) (v.desks h).directory not_directory)) (inv.directory h lt);
              refers = inv.refers h lt;
              well = well_orphan v.all i y1 inv.well gone refl low number out;
              counts = inv.counts;
              alone = λ j is. elim (same_or j i) [
                | inl q ↦ absurd (let a : put v.alone i false j ≡ false = ap (put v.alone i false) q ∙ put_same v.alone i false in cc (a, is))
                | inr ne ↦ (let a = inv.alone j (sym (put_other v.alone i false j ne) ∙ is) in record { hart = a.hart; kept = a.kept; dead = ap (λ (z : Option Node). is_live z) (put_other v.all.nodes i (Some y1) j ne) ∙ a.dead; counts = a.counts })
              ];
              kept = λ j is. (inv.kept j h is).1;
              held = λ j is. elim (same_or j i) [
                | inl q ↦ inl (ap v.lock q ∙ locks_it h i v O x ov isi has)
                | inr ne ↦ elim (inv.held j h is) [ inl a ↦ inl a | inr a ↦ inr (put_other v.alone i false j ne ∙ a) ]
              ];
              named = λ j is. inv.named h j lt (ap (λ (o : Own). o.desk.lender) ov ∙ free) is;
              pending = λ j is. absurd (let p : (v.harts h).pending ≡ None = ap (λ (o : Own). o.mine.pending) ov ∙ none in cc (p, is));
              walks = λ z is. inv.walks h z lt is;
            }

        owned : own_of h u ≡ record O { inodes = put O.inodes i (Some (locked_held (Some y1))) }
        owned = λ z. record {
          inodes = own_inodes h i v u O (Some (locked_held (Some y1))) ov
              (kept_here h (v.keeper i) (view u h i) kept ∙ (λ r. Some (record { disk = put_same v.disk i (Some y1) r; node = put_same v.all.nodes i (Some y1) r; alone = put_same v.alone i false r; locked = (ap (λ (q : Held). q.locked) (has_inode h i v O x ov isi).1 ∙ has) r })))
              (λ j ne. (refl, (λ r. record { disk = put_other v.disk i (Some y1) j ne r; node = put_other v.all.nodes i (Some y1) j ne r; alone = put_other v.alone i false j ne r; locked = is_hart (v.lock j) h }))) z;
          mine = ap (λ (o : Own). o.mine) ov z;
          row = ap (λ (o : Own). o.row) ov z;
          ninodes = ap (λ (o : Own). o.ninodes) ov z;
          desk = ap (λ (o : Own). o.desk) ov z;
        }
