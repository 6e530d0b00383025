-- Unlink's act: a name is cleared, and what it named loses a link.
use Rattle.image_versions.specs.declared.version.Version.{Version}
use Rattle.inode_machine.proofs.Vocabulary.{◌≡◌, ◌≢◌, inl, inr, ℕ, ◌+◌, ◌-◌, ◌<◌, true, false, List, [], ◌∷◌, Option, Some, None, IsSome, refl, sym, ◌∙◌, ap, subst, arith, if◌then◌else◌, nat_tests, Do, P, own, onto, Fine, Safe, Wp, Node, NodeKind, Directory, File, Device, Unlink, Done, hart_count, Name, Tree, put, look, same_name, dot, dotdot, is_directory, slots_of, is_live, live_directory, settle, node_or, node_at, with_nodes, cleared, lowered, not_empty, refusal_with, refusal_by, effect_with, effect_by, answer_with, answer_by, place_of, IsInPlace, IsWellFormed, same_or, put_same, put_other, and_true, live_some, look_same, look_in, look_live, can_go, effect_well, Step, Look, World, Clear, InodeType, OfDirectory, type_of, type_of_kind, with_walk, without_entry, Made, new_id, marked, places, Own, Held, view, is_hart, if_kept, own_of, file_tables_of, Inv, machine, makes, clear_cost}
use Rattle.inode_machine.proofs.Basics.{file_tables_same, stands_in, kept_here, fair, fair_then, has_inode, s-owned, locks_it, has_disk, has_node, Writes, writes, stage_walk, Fits, acts_did, acts_gone, act_good, told_step, two_put}

-- The directory x without the name, and one link less if that was a directory's: z is what the name led to.
abbrev pub less : Node → Node → Name → Node
less x z e = record x { kind = Directory (cleared (slots_of x.kind) e); count = if is_directory z.kind then x.count - 1 else x.count }

abbrev pub cleared_nodes : (ℕ → Option Node) → Node → Node → ℕ → Name → ℕ → ℕ → Option Node
cleared_nodes ns x z d e c = put (put ns d (Some (less x z e))) c (Some (lowered z))

unlink_goes : (version : Version) (t : Tree) (h d c : ℕ) (e : Name) (path : List ℕ) → same_name e dot ≡ false → same_name e dotdot ≡ false → look t.nodes d e ≡ Some c → not_empty (node_at t c).kind ≡ None → refusal_with version t h (Unlink path) (Some c) (Some (d, e)) ≡ None
unfolding refusal_by
unlink_goes version t h d c e path a b found empty = rw (a, b, found) empty

unlink_effect : (version : Version) (t : Tree) (h d c new id : ℕ) (e : Name) (path : List ℕ) → c ≢ d → look t.nodes d e ≡ Some c
    → effect_with version t h (Unlink path) (Some c) (Some (d, e)) new id ≡ with_nodes t (cleared_nodes t.nodes (node_or (t.nodes d)) (node_or (t.nodes c)) d e c)
unfolding effect_by
unlink_effect version t h d c new id e path ne found =
    rw found (ap (λ (z : Option Node). with_nodes t (put (put t.nodes d (Some (less (node_or (t.nodes d)) (node_or (t.nodes c)) e))) c (Some (lowered (node_or z))))) (put_other t.nodes d (Some (less (node_or (t.nodes d)) (node_or (t.nodes c)) e)) c ne))

pub unlink_place : (t : Tree) (h : ℕ) (path : List ℕ) → h < hart_count → IsInPlace t h (Unlink path)
unfolding place_of
unlink_place t h path lt = grind (arith, nat_tests)

unlink_placed : (t : Tree) (h : ℕ) (path : List ℕ) → place_of t h (Unlink path) ≡ true
unfolding place_of
unlink_placed t h path = refl

unlink_answer : (version : Version) (t : Tree) (h id : ℕ) (path : List ℕ) (res : Option ℕ) (par : Option (ℕ × Name)) → answer_with version t h (Unlink path) res par id ≡ Done
unfolding answer_by
unlink_answer version t h id path res par = refl

-- a live directory's type
pub type_of_directory : (x : Node) → live_directory (Some x) ≡ true → type_of_kind x.kind ≡ OfDirectory
type_of_directory x live = by_kind x.kind (and_true _ _ live).1
  where
    by_kind : (k : NodeKind) → is_directory k ≡ true → type_of_kind k ≡ OfDirectory
    by_kind (Directory slots) q = refl
    by_kind (File bytes) q = absurd cc
    by_kind (Device major minor size) q = absurd cc

-- The slot is cleared on the disk; at this moment the name goes, and the counts go down in the tree.
some_of : {o : Option ℕ} (c : ℕ) → o ≡ Some c → IsSome o
some_of c e = rw e refl

pub s-clear : (version : Version) {A : Type 0} {h : ℕ} (d c : ℕ) {x z : Held} (X Z : Node) (e : Name) (path : List ℕ) {k : Unit {0} → P (machine version) A} {B : List Step → Type 0} {Q : A → List Step → World → Type 0} {n : ℕ} {es : List Step} {w : World} {O : Own}
    → own_of h w ≡ O → O.desk.lender ≡ None → h < hart_count → clear_cost < n → O.desk.joined ≡ true → O.mine.walk ≡ Some (record { step = Unlink path; at = d; next = e; rest = [] }) → O.mine.pending ≡ None
    → O.inodes d ≡ Some x → x.disk ≡ Some X → x.node ≡ Some X → x.alone ≡ false → x.locked ≡ true → live_directory (Some X) ≡ true → O.inodes c ≡ Some z → z.node ≡ Some Z → z.alone ≡ false → look (λ j. Some X) d e ≡ Some c
    → same_name e dot ≡ false → same_name e dotdot ≡ false → not_empty Z.kind ≡ None
    → B (told_step 0 (Unlink path) Done ∷ es)
    → ((l : ℕ) (u : World) → l + 1621 ≡ n → c ≢ d
    → own_of h u ≡ record O { inodes = put (put O.inodes d (Some (record x { disk = Some (without_entry e X); node = Some (less X Z e) }))) c (Some (record z { node = Some (lowered Z) })); mine = record { refs = O.mine.refs; walk = None; pending = None } }
    → Safe (machine version) h B Q (k tt) l (told_step 0 (Unlink path) Done ∷ es) u)
    → Safe (machine version) h B Q (Do (Clear d e) (λ _. makes (Look 0)) k) n es w
s-clear version {A} {h} d c {x} {z} X Z e path {k} {B} {Q} {n} {es} {w} {O} owns free lt pos joined walks none isd xd xn shared locked live isc zn shared2 finds nodot nodotdot empty b then_ = s-owned version owns free pos (λ v inv ov. (
  ((locks_it h d v O x ov isd locked, ap (λ (o : Own). o.desk.joined) ov ∙ joined), record { node = X; is = has_disk h d v O x ov isd ∙ xd; fits = some_of c finds }),
  (λ _ _. subst (λ (o : Option Node). Goal v (record v { disk = put v.disk d (Some (without_entry e (node_or o))) })) (sym (has_disk h d v O x ov isd ∙ xd)) (good v inv ov)),
))
  where
    Goal : World → World → Type 0
    Goal v u = Fine (machine version) h (places version h (Clear d e) tt (makes (Look 0)) v) clear_cost n B es v (marked version h (makes (Look 0)) u) (λ l. Wp (machine version) h B Q (k tt) l (onto (own h (places version h (Clear d e) tt (makes (Look 0)) v)) es) (marked version h (makes (Look 0)) u))

    good : (v : World) → Inv v → own_of h v ≡ O → Goal v (record v { disk = put v.disk d (Some (without_entry e X)) })
    good v inv ov =
        act_good version h clear_cost n B Q es v u1 (Unlink path) d 0 tt e (Some c) Done made (k tt) lt inv mine live_at look_is (λ g q. absurd cc)
        (acts_gone version v.all h (Unlink path) (Some c) (Some (d, e)) 0 (new_id v) goes ∙ (λ i. record made { all = effect i; told = Some (record { act = record { step = Unlink path; answer = unlink_answer version v.all h (new_id v) path (Some c) (Some (d, e)) i }; new = 0 }) }))
        refl goes
        (goes, sym (unlink_answer version v.all h (new_id v) path (Some c) (Some (d, e))), record { node = λ q. absurd cc; file = λ q. absurd cc }, ap (λ (t : Tree). settle t) (sym effect), unlink_place v.all h path lt)
        (λ q. absurd cc)
        (fair_then wr.fair (fair wr.fair.inv (acts_did h u1 all None v.alone v.next v.desks v.clean lt wr.fair.inv idle fits)))
        (stage_walk h None None (record u1 { all = all })) b pos
        (λ l q. (then_ l u q apart owned).wp)
      where
        wr : Writes h d (Some (without_entry e X)) x O v
        wr = writes version h d (Some (without_entry e X)) x O v free lt joined inv ov isd

        u1 : World
        u1 = record v { disk = put v.disk d (Some (without_entry e X)) }

        all : Tree
        all = with_nodes v.all (cleared_nodes v.all.nodes X Z d e c)

        made : Made
        made = record { all = all; walk = None; found = None; opened = None; entered = None; left = None; told = Some (record { act = record { step = Unlink path; answer = Done }; new = 0 }) }

        u : World
        u = record u1 { all = all; harts = with_walk v.harts h None None }

        mine : (v.harts h).walk ≡ Some (record { step = Unlink path; at = d; next = e; rest = [] })
        mine = ap (λ (o : Own). o.mine.walk) ov ∙ walks

        idle : (v.harts h).pending ≡ None
        idle = ap (λ (o : Own). o.mine.pending) ov ∙ none

        nd : v.all.nodes d ≡ Some X
        nd = has_node h d v O x ov isd ∙ xn

        nc : v.all.nodes c ≡ Some Z
        nc = has_node h c v O z ov isc ∙ zn

        live_at : live_directory (v.all.nodes d) ≡ true
        live_at = ap (λ (o : Option Node). live_directory o) nd ∙ live

        look_is : look v.all.nodes d e ≡ Some c
        look_is = look_same (λ j. Some X) v.all.nodes d e nd ∙ finds

        child_live : is_live (v.all.nodes c) ≡ true
        child_live = look_live v.all d c e inv.well look_is

        empty_at : not_empty (node_at v.all c).kind ≡ None
        empty_at = ap (λ (o : Option Node). not_empty (node_or o).kind) nc ∙ empty

        apart : c ≢ d
        apart q = (can_go v.all d c e inv.well live_at nodot nodotdot look_is (sym (look_in v.all.nodes d e live_at) ∙ look_is) empty_at).apart (sym q)

        goes : refusal_with version v.all h (Unlink path) (Some c) (Some (d, e)) ≡ None
        goes = unlink_goes version v.all h d c e path nodot nodotdot look_is empty_at

        effect : effect_with version v.all h (Unlink path) (Some c) (Some (d, e)) 0 (new_id v) ≡ all
        effect = unlink_effect version v.all h d c 0 (new_id v) e path apart look_is ∙ (λ i. with_nodes v.all (cleared_nodes v.all.nodes (node_or (nd i)) (node_or (nc i)) d e c))

        node_else : (j : ℕ) → j ≢ d → j ≢ c → all.nodes j ≡ v.all.nodes j
        node_else j a q = put_other (put v.all.nodes d (Some (less X Z e))) c (Some (lowered Z)) j q ∙ put_other v.all.nodes d (Some (less X Z e)) j a

        put_d : all.nodes d ≡ Some (less X Z e)
        put_d = put_other (put v.all.nodes d (Some (less X Z e))) c (Some (lowered Z)) d (λ q. apart (sym q)) ∙ put_same v.all.nodes d (Some (less X Z e))

        put_c : all.nodes c ≡ Some (lowered Z)
        put_c = put_same (put v.all.nodes d (Some (less X Z e))) c (Some (lowered Z))

        inode_types : (j : ℕ) → type_of (all.nodes j) ≡ type_of (v.all.nodes j)
        inode_types j = elim (same_or j c) [
          | inl q ↦ ap (λ (i : ℕ). type_of (all.nodes i)) q ∙ ap (λ (o : Option Node). type_of o) put_c ∙ sym (ap (λ (i : ℕ). type_of (v.all.nodes i)) q ∙ ap (λ (o : Option Node). type_of o) nc)
          | inr o ↦ elim (same_or j d) [
            | inl q ↦ ap (λ (i : ℕ). type_of (all.nodes i)) q ∙ ap (λ (o : Option Node). type_of o) put_d ∙ sym (ap (λ (i : ℕ). type_of (v.all.nodes i)) q ∙ ap (λ (o : Option Node). type_of o) nd ∙ ap (λ (s : InodeType). Some s) (type_of_directory X live))
            | inr a ↦ ap (λ (p : Option Node). type_of p) (node_else j a o)
          ]
        ]

        not_lone : (j i : ℕ) (o : Held) → j ≡ i → O.inodes i ≡ Some o → o.alone ≡ false → v.alone j ≡ true → ⊥
        not_lone j i o q isi s is = let a = ap (λ (p : Held). p.alone) (has_inode h i v O o ov isi).1 in let r : v.alone j ≡ v.alone i = ap v.alone q in absurd (cc (a, r, s, is))

        fits : Fits h u1 all None v.alone v.next v.desks v.clean
        fits = record {
          ids = inv.ids;
          file_tables = file_tables_same h (file_tables_of v) inv.tied;
          fds = refl;
          free = ap (λ (o : Own). o.desk.lender) ov ∙ free;
          unlent = ap (λ (o : Own). o.desk.lender) ov ∙ free;
          joined = ap (λ (o : Own). o.desk.joined) ov ∙ joined;
          directory = stands_in (v.desks h) (v.all.cwd h) v.all.nodes all.nodes (inode_types (v.desks h).directory) (inv.directory h lt);
          home = refl;
          well = subst (λ (t : Tree). IsWellFormed t) effect (effect_well version v.all h (Unlink path) (Some c) (Some (d, e)) 0 (new_id v) inv.well lt (unlink_placed v.all h path)
              (λ j q. let s : c ≡ j = cc in subst (λ (i : ℕ). v.all.nodes i ≡ Some (node_or (v.all.nodes i))) s (live_some (v.all.nodes c) child_live))
              (λ p q. let s : (d, e) ≡ p = cc in subst (λ (o : ℕ × Name). live_directory (v.all.nodes o.0) ≡ true) s live_at)
              goes (record { node = λ q. absurd cc; file = λ q. absurd cc }));
          size = refl;
          rows = λ g ne. refl;
          nodes = λ j. elim (same_or j d) [
            | inl q ↦ inr (ap v.keeper q ∙ (has_inode h d v O x ov isd).0)
            | inr a ↦ elim (same_or j c) [ inl q ↦ inr (ap v.keeper q ∙ (has_inode h c v O z ov isc).0) | inr o ↦ inl (node_else j a o, refl) ]
          ];
          inode_type = λ j. inl (inode_types j);
          noted = λ m is r s. inode_types m.number ∙ inv.noted h m lt is (elim r [ inl a ↦ inl a | inr a ↦ absurd cc ]) s;
          lone = λ j is. (is, ap (λ (o : Option Node). is_live o) (node_else j (λ q. not_lone j d x q isd shared is) (λ q. not_lone j c z q isc shared2 is)) ∙ (inv.alone j is).dead);
          held = λ j is. inv.held j h is;
          named = λ j is. inl is;
          found = λ j q. absurd cc;
        }

        owned : own_of h u ≡ record O { inodes = put (put O.inodes d (Some (record x { disk = Some (without_entry e X); node = Some (less X Z e) }))) c (Some (record z { node = Some (lowered Z) })); mine = record { refs = O.mine.refs; walk = None; pending = None } }
        owned = λ i. record {
          inodes = two_put O.inodes (own_of h u).inodes d c (Some (record x { disk = Some (without_entry e X); node = Some (less X Z e) })) (Some (record z { node = Some (lowered Z) }))
              (kept_here h (v.keeper d) (view u h d) (has_inode h d v O x ov isd).0
              ∙ (λ r. Some (record { disk = put_same v.disk d (Some (without_entry e X)) r; node = put_d r; alone = v.alone d; locked = is_hart (v.lock d) h }))
              ∙ ap (λ (q : Held). Some (record q { disk = Some (without_entry e X); node = Some (less X Z e) })) (has_inode h d v O x ov isd).1)
              (kept_here h (v.keeper c) (view u h c) (has_inode h c v O z ov isc).0
              ∙ (λ r. Some (record { disk = put_other v.disk d (Some (without_entry e X)) c apart r; node = put_c r; alone = v.alone c; locked = is_hart (v.lock c) h }))
              ∙ ap (λ (q : Held). Some (record q { node = Some (lowered Z) })) (has_inode h c v O z ov isc).1)
              (λ j a q. (λ r. if_kept (v.keeper j) h (record { disk = put_other v.disk d (Some (without_entry e X)) j a r; node = node_else j a q r; alone = v.alone j; locked = is_hart (v.lock j) h })) ∙ ap (λ (o : Own). o.inodes j) ov) i;
          mine = (put_same v.harts h (record { refs = (v.harts h).refs; walk = None; pending = None }) ∙ ap (λ (o : Own). record { refs = o.mine.refs; walk = None; pending = None }) ov) i;
          row = ap (λ (o : Own). o.row) ov i;
          ninodes = ap (λ (o : Own). o.ninodes) ov i;
          desk = ap (λ (o : Own). o.desk) ov i;
        }
