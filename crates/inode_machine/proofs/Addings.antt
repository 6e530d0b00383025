-- A new inode's name is entered: its node comes into the tree, and it is the hart's alone no longer.
use Rattle.image_versions.specs.declared.version.Version.{Version}
use Rattle.inode_machine.proofs.Vocabulary.{◌≡◌, ◌≢◌, inl, inr, ℕ, ◌<◌, true, false, Option, Some, None, refl, sym, ◌∙◌, ap, Node, hart_count, Tree, put, is_live, live_directory, with_nodes, IsWellFormed, same_or, put_same, put_other, Note, World, InodeType, OfDirectory, type_of, type_of_kind, with_walk, Own, Held, view, is_hart, if_kept, own_of, file_tables_of, Inv}
use Rattle.inode_machine.proofs.Basics.{file_tables_same, stands_in, kept_here, Fair, fair, fair_then, has_inode, locks_it, has_node, Writes, writes, Fits, acts_did, two_put}
use Rattle.inode_machine.proofs.Removes.{type_of_directory}

abbrev pub added_nodes : (ℕ → Option Node) → ℕ → ℕ → Node → Node → ℕ → Option Node
added_nodes ns d i x y = put (put ns d (Some x)) i (Some y)

-- the directory d has this record; in the tree it is x, and the new inode i is y
abbrev pub added_world : ℕ → ℕ → ℕ → Option Node → Node → Node → World → World
added_world h d i r x y v = record v { disk = put v.disk d r; all = with_nodes v.all (added_nodes v.all.nodes d i x y); alone = put v.alone i false; harts = with_walk v.harts h None None }

pub record Adding (h d i : ℕ) (r : Option Node) (X x y : Node) (a z : Held) (v : World) (O : Own) : Type 0 where
  pub fair : Fair h v (added_world h d i r x y v)
  pub owned : own_of h (added_world h d i r x y v) ≡ record O { inodes = put (put O.inodes d (Some (record a { disk = r; node = Some x }))) i (Some (record z { node = Some y; alone = false })); mine = record { refs = O.mine.refs; walk = None; pending = None } }
  pub here : (added_world h d i r x y v).all.nodes i ≡ Some y
  pub kept : v.keeper i ≡ Some h
  pub lone : v.alone i ≡ true
  pub unused : v.all.nodes i ≡ None
  pub is : v.all.nodes d ≡ Some X

-- a: what the hart has of the directory, whose node was X; z: what it has of the new inode
pub adding : Version → (h d i : ℕ) (r : Option Node) (X x y : Node) (a z : Held) (v : World) (O : Own) → own_of h v ≡ O → O.desk.lender ≡ None → h < hart_count → Inv v → O.desk.joined ≡ true → O.mine.pending ≡ None
    → O.inodes d ≡ Some a → a.node ≡ Some X → a.alone ≡ false → live_directory (Some X) ≡ true → type_of_kind x.kind ≡ OfDirectory → O.inodes i ≡ Some z → z.alone ≡ true → z.locked ≡ true → z.node ≡ None → ((t : Note) → O.desk.noted ≡ Some t → t.number ≢ i)
    → ((v.all.nodes d ≡ Some X) → (v.all.nodes i ≡ None) → IsWellFormed (with_nodes v.all (added_nodes v.all.nodes d i x y))) → Adding h d i r X x y a z v O
adding version h d i r X x y a z v O ov free lt inv joined none isd an shared live sorted isi lone locked blank notes well = record {
  fair = fair_then wr.fair (fair wr.fair.inv (acts_did h u1 all None (put v.alone i false) v.next v.desks v.clean lt wr.fair.inv idle fits));
  owned = owned;
  here = put_i;
  kept = kept_i;
  lone = lone_at;
  unused = ni;
  is = nd;
}
  where
    wr : Writes h d r a O v
    wr = writes version h d r a O v free lt joined inv ov isd

    u1 : World
    u1 = record v { disk = put v.disk d r }

    all : Tree
    all = with_nodes v.all (added_nodes v.all.nodes d i x y)

    u : World
    u = added_world h d i r x y v

    idle : (v.harts h).pending ≡ None
    idle = ap (λ (o : Own). o.mine.pending) ov ∙ none

    nd : v.all.nodes d ≡ Some X
    nd = has_node h d v O a ov isd ∙ an

    ni : v.all.nodes i ≡ None
    ni = has_node h i v O z ov isi ∙ blank

    lone_at : v.alone i ≡ true
    lone_at = ap (λ (o : Held). o.alone) (has_inode h i v O z ov isi).1 ∙ lone

    kept_i : v.keeper i ≡ Some h
    kept_i = (has_inode h i v O z ov isi).0

    apart : i ≢ d
    apart q = absurd (let b : v.all.nodes d ≡ None = ap v.all.nodes (sym q) ∙ ni in cc (b, nd))

    node_else : (j : ℕ) → j ≢ d → j ≢ i → all.nodes j ≡ v.all.nodes j
    node_else j b q = put_other (put v.all.nodes d (Some x)) i (Some y) j q ∙ put_other v.all.nodes d (Some x) j b

    put_d : all.nodes d ≡ Some x
    put_d = put_other (put v.all.nodes d (Some x)) i (Some y) d (λ q. apart (sym q)) ∙ put_same v.all.nodes d (Some x)

    put_i : all.nodes i ≡ Some y
    put_i = put_same (put v.all.nodes d (Some x)) i (Some y)

    inode_types : (j : ℕ) → j ≢ i → type_of (all.nodes j) ≡ type_of (v.all.nodes j)
    inode_types j o = elim (same_or j d) [
      | inl q ↦ ap (λ (c : ℕ). type_of (all.nodes c)) q ∙ ap (λ (p : Option Node). type_of p) put_d ∙ ap (λ (s : InodeType). Some s) (sorted ∙ sym (type_of_directory X live)) ∙ sym (ap (λ (c : ℕ). type_of (v.all.nodes c)) q ∙ ap (λ (p : Option Node). type_of p) nd)
      | inr b ↦ ap (λ (p : Option Node). type_of p) (node_else j b o)
    ]

    not_d : (j : ℕ) → v.alone j ≡ true → j ≢ d
    not_d j is q = absurd (let b = ap (λ (o : Held). o.alone) (has_inode h d v O a ov isd).1 in let s : v.alone j ≡ v.alone d = ap v.alone q in cc (b, s, shared, is))

    fits : Fits h u1 all None (put v.alone i false) v.next v.desks v.clean
    fits = record {
      ids = inv.ids;
      file_tables = file_tables_same h (file_tables_of v) inv.tied;
      fds = refl;
      free = ap (λ (o : Own). o.desk.lender) ov ∙ free;
      unlent = ap (λ (o : Own). o.desk.lender) ov ∙ free;
      joined = ap (λ (o : Own). o.desk.joined) ov ∙ joined;
      directory = stands_in (v.desks h) (v.all.cwd h) v.all.nodes all.nodes (inode_types (v.desks h).directory (λ q. absurd (let b = (inv.directory h lt).inode_type in let c : type_of (v.all.nodes (v.desks h).directory) ≡ None = ap (λ (c : ℕ). type_of (v.all.nodes c)) q ∙ ap (λ (p : Option Node). type_of p) ni in cc (b, c)))) (inv.directory h lt);
      home = refl;
      well = well nd ni;
      size = refl;
      rows = λ g ne. refl;
      nodes = λ j. elim (same_or j d) [
        | inl q ↦ inr (ap v.keeper q ∙ (has_inode h d v O a ov isd).0)
        | inr b ↦ elim (same_or j i) [ inl q ↦ inr (ap v.keeper q ∙ kept_i) | inr o ↦ inl (node_else j b o, put_other v.alone i false j o) ]
      ];
      inode_type = λ j. elim (same_or j i) [ inl q ↦ inr (ap v.keeper q ∙ kept_i, ap v.alone q ∙ lone_at) | inr o ↦ inl (inode_types j o) ];
      noted = λ t is b s.
          let o : t.number ≢ i = notes t (ap (λ (p : Own). p.desk.noted) (sym ov) ∙ is) in
          inode_types t.number o ∙ inv.noted h t lt is (elim b [ inl c ↦ inl c | inr c ↦ absurd cc ]) (sym (put_other v.alone i false t.number o) ∙ s);
      lone = λ j is. elim (same_or j i) [
        | inl q ↦ absurd (let s : put v.alone i false j ≡ false = ap (put v.alone i false) q ∙ put_same v.alone i false in cc (s, is))
        | inr o ↦ (let was : v.alone j ≡ true = sym (put_other v.alone i false j o) ∙ is in (was, ap (λ (p : Option Node). is_live p) (node_else j (not_d j was) o) ∙ (inv.alone j was).dead))
      ];
      held = λ j is. elim (same_or j i) [
        | inl q ↦ inl (ap v.lock q ∙ locks_it h i v O z ov isi locked)
        | inr o ↦ elim (inv.held j h is) [ inl b ↦ inl b | inr b ↦ inr (put_other v.alone i false j o ∙ b) ]
      ];
      named = λ j is. inl is;
      found = λ j q. absurd cc;
    }

    owned : own_of h u ≡ record O { inodes = put (put O.inodes d (Some (record a { disk = r; node = Some x }))) i (Some (record z { node = Some y; alone = false })); mine = record { refs = O.mine.refs; walk = None; pending = None } }
    owned = λ s. record {
      inodes = two_put O.inodes (own_of h u).inodes d i (Some (record a { disk = r; node = Some x })) (Some (record z { node = Some y; alone = false }))
          (kept_here h (v.keeper d) (view u h d) (has_inode h d v O a ov isd).0
          ∙ (λ c. Some (record { disk = put_same v.disk d r c; node = put_d c; alone = put_other v.alone i false d (λ q. apart (sym q)) c; locked = is_hart (v.lock d) h }))
          ∙ ap (λ (q : Held). Some (record q { disk = r; node = Some x })) (has_inode h d v O a ov isd).1)
          (kept_here h (v.keeper i) (view u h i) kept_i
          ∙ (λ c. Some (record { disk = put_other v.disk d r i apart c; node = put_i c; alone = put_same v.alone i false c; locked = is_hart (v.lock i) h }))
          ∙ ap (λ (q : Held). Some (record q { node = Some y; alone = false })) (has_inode h i v O z ov isi).1)
          (λ j b q. (λ c. if_kept (v.keeper j) h (record { disk = put_other v.disk d r j b c; node = node_else j b q c; alone = put_other v.alone i false j q c; locked = is_hart (v.lock j) h })) ∙ ap (λ (o : Own). o.inodes j) ov) s;
      mine = (put_same v.harts h (record { refs = (v.harts h).refs; walk = None; pending = None }) ∙ ap (λ (o : Own). record { refs = o.mine.refs; walk = None; pending = None }) ov) s;
      row = ap (λ (o : Own). o.row) ov s;
      ninodes = ap (λ (o : Own). o.ninodes) ov s;
      desk = ap (λ (o : Own). o.desk) ov s;
    }
