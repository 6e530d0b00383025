-- A file that the hart keeps is emptied, which a descriptor of its own names.
use Rattle.image_versions.specs.declared.version.Version.{Version}
use Rattle.inode_machine.proofs.Vocabulary.{◌≡◌, ℕ, ◌+◌, ◌<◌, true, List, [], ◌∷◌, Option, Some, None, refl, sym, ◌∙◌, ap, subst, Do, P, own, onto, Fine, Safe, Wp, Node, NodeKind, Directory, File, Device, OpenFile, Truncate, Done, hart_count, Name, Tree, put, is_live, settle, resolve, parent, answer_by, effect_with, effect_by, emptied, file_at, is_file, node_at, node_or, place_of, refusal_with, refusal_by, with_nodes, IsInPlace, StepWith, Key, Behind, behind, settle_again, settled_step, IsWellFormed, effect_well, Stage, Step, OwnMove, World, Empty, type_of, type_of_kind, changed_record, with_no_bytes, with_walk, acts, made_by, own_made, marked, new_id, places, Own, own_of, Inv, machine, own_step, emptying_cost}
use Rattle.inode_machine.proofs.Basics.{fair, fair_then, s-owned, has_disk, has_node, locked_held, locks_it, below_is, moves_good, own_walk, stage_walk, walk_did, own_takes}
use Rattle.inode_machine.proofs.Writings.{Changing, changed_world, changing}

abbrev pub emptied_node : Node → Node
emptied_node v = record v { kind = emptied v.kind }

abbrev pub empty_step : ℕ → Step
empty_step fd = record { move = OwnMove (Truncate fd) 0; told = Some (record { act = record { step = Truncate fd; answer = Done }; new = 0 }) }

-- The tree's step.

pub trunc_effect : (version : Version) (t : Tree) (h fd new id j : ℕ) (f : OpenFile) (v : Node) (res : Option ℕ) (par : Option (ℕ × Name)) → file_at t h fd ≡ Some f → f.number ≡ j → t.nodes j ≡ Some v → effect_with version t h (Truncate fd) res par new id ≡ with_nodes t (put t.nodes j (Some (emptied_node v)))
unfolding effect_by
trunc_effect version t h fd new id j f v res par is number there = rw is ((λ z. with_nodes t (put t.nodes (number z) (Some (emptied_node (node_at t (number z)))))) ∙ (λ z. with_nodes t (put t.nodes j (Some (emptied_node (node_or (there z)))))))

pub trunc_made : (version : Version) (t : Tree) (h fd new id j : ℕ) (f : OpenFile) (v : Node) (res : Option ℕ) (par : Option (ℕ × Name)) → file_at t h fd ≡ Some f → f.number ≡ j → t.nodes j ≡ Some v
    → own_made (refusal_with version t h (Truncate fd) res par) t h (Truncate fd) (acts version t h (Truncate fd) res par new id) ≡ record { all = with_nodes t (put t.nodes j (Some (emptied_node v))); walk = None; found = None; opened = None; entered = None; left = None; told = Some (record { act = record { step = Truncate fd; answer = Done }; new = new }) }
unfolding refusal_by answer_by
trunc_made version t h fd new id j f v res par is number there = λ z. record { all = trunc_effect version t h fd new id j f v res par is number there z; walk = None; found = None; opened = None; entered = None; left = None; told = Some (record { act = record { step = Truncate fd; answer = Done }; new = new }) }

pub trunc_place : (t : Tree) (h fd j : ℕ) (f : OpenFile) (v : Node) → h < hart_count → file_at t h fd ≡ Some f → f.number ≡ j → t.nodes j ≡ Some v → is_file v.kind ≡ true → place_of t h (Truncate fd) ≡ true
unfolding place_of
trunc_place t h fd j f v lt is number there isf = rw is ((λ z. is_file (node_or (t.nodes (number z))).kind) ∙ (λ z. is_file (node_or (there z)).kind) ∙ isf)

trunc_goes : (version : Version) (t : Tree) (h fd : ℕ) (res : Option ℕ) (par : Option (ℕ × Name)) → refusal_with version t h (Truncate fd) res par ≡ None
unfolding refusal_by
trunc_goes version t h fd res par = refl

-- It asks for nothing that a path leads to.
pub trunc_settled : (version : Version) (t T : Tree) (h fd id : ℕ) (res : Option ℕ) (par : Option (ℕ × Name)) → settle T ≡ settle (effect_with version t h (Truncate fd) None None 0 id) → IsInPlace t h (Truncate fd) → StepWith version (settle t) h (Truncate fd) res par Done 0 id (settle (settle T))
unfolding refusal_by effect_by answer_by
trunc_settled version t T h fd id res par same place =
    let y = settled_step version t h (Truncate fd) None None Done 0 id (settle T) (record { node = λ n q. absurd cc; directory = λ q e. absurd cc; child = λ q n e r. absurd cc }) (refl, refl, record { node = λ z. absurd cc; file = λ z. absurd cc }, same, place) in
    (y.0, y.1, record { node = λ z. absurd cc; file = λ z. absurd cc }, y.3, y.4)

pub s-empty : (version : Version) {A : Type 0} {h : ℕ} (j fd : ℕ) (key : Key) (v : Node) {k : Unit {0} → P (machine version) A} {B : List Step → Type 0} {Q : A → List Step → World → Type 0} {n : ℕ} {es : List Step} {w : World} {O : Own}
    → own_of h w ≡ O → O.desk.lender ≡ None → h < hart_count → emptying_cost < n → O.desk.joined ≡ true → O.inodes j ≡ Some (locked_held (Some v)) → is_file v.kind ≡ true → O.row.keys fd ≡ Some key → key.number ≡ j → O.mine.walk ≡ None → O.mine.pending ≡ None → B (empty_step fd ∷ es)
    → ((l : ℕ) (u : World) → l + 901 ≡ n → own_of h u ≡ record O { inodes = put O.inodes j (Some (locked_held (Some (emptied_node v)))); mine = record { refs = O.mine.refs; walk = None; pending = None } } → Safe (machine version) h B Q (k tt) l (empty_step fd ∷ es) u)
    → Safe (machine version) h B Q (Do (Empty j) (λ _. own_step (Truncate fd)) k) n es w
s-empty version {A} {h} j fd key v {k} {B} {Q} {n} {es} {w} {O} owns free lt pos joined isj isf keyed number walks none b rest = s-owned version owns free pos (λ v0 inv ov. (
  ((locks_it h j v0 O (locked_held (Some v)) ov isj refl, ap (λ (o : Own). o.desk.joined) ov ∙ joined), record { node = v; is = has_disk h j v0 O (locked_held (Some v)) ov isj; fits = isf }),
  (λ _ _. good v0 inv ov),
))
  where
    y : Node
    y = emptied_node v

    type_y : (x : NodeKind) → type_of_kind (emptied x) ≡ type_of_kind x
    type_y (Directory slots) = refl
    type_y (File bytes) = refl
    type_y (Device major minor size) = refl

    good : (v0 : World) → Inv v0 → own_of h v0 ≡ O
        → Fine (machine version) h (places version h (Empty j) tt (own_step (Truncate fd)) v0) emptying_cost n B es v0 (marked version h (own_step (Truncate fd)) (changed_record v0 j with_no_bytes)) (λ l. Wp (machine version) h B Q (k tt) l (onto (own h (places version h (Empty j) tt (own_step (Truncate fd)) v0)) es) (marked version h (own_step (Truncate fd)) (changed_record v0 j with_no_bytes)))
    good v0 inv ov =
        subst (λ (z : Option Node). Fine (machine version) h (places version h (Empty j) tt (own_step (Truncate fd)) v0) emptying_cost n B es v0 (marked version h (own_step (Truncate fd)) (record v0 { disk = put v0.disk j (Some (with_no_bytes (node_or z))) })) (λ l. Wp (machine version) h B Q (k tt) l (onto (own h (places version h (Empty j) tt (own_step (Truncate fd)) v0)) es) (marked version h (own_step (Truncate fd)) (record v0 { disk = put v0.disk j (Some (with_no_bytes (node_or z))) })))) (sym (has_disk h j v0 O (locked_held (Some v)) ov isj))
        (moves_good version h emptying_cost n B Q es v0 (record v0 { disk = put v0.disk j (Some y) }) (OwnMove (Truncate fd) 0) tt (k tt) (made_by version v0.all h (new_id v0) (v0.harts h).walk (OwnMove (Truncate fd) 0)) (record { all = T; walk = None; found = None; opened = None; entered = None; left = None; told = (empty_step fd).told })
        (trunc_made version v0.all h fd 0 (new_id v0) j at.file v (resolve version v0.all h []) (parent version v0.all h []) at.at file_j there)
        (fair_then c.fair (fair c.fair.inv (walk_did h None None u1 (ap (λ (o : Own). o.desk.lender) ov ∙ free) lt c.fair.inv (ap (λ (o : Own). o.mine.pending) ov ∙ none) (λ m q e. absurd cc) (λ z q. absurd cc) (λ i q. absurd cc))))
        (own_takes version h v0 u (Truncate fd) Done refl refl (ap (λ (o : Own). o.mine.walk) ov ∙ walks) (λ q. refl) (λ g q. absurd cc)
        (subst (λ (z : Tree). StepWith version (settle v0.all) h (Truncate fd) (resolve version (settle v0.all) h []) (parent version (settle v0.all) h []) Done 0 (new_id v0) z) (sym (settle_again T))
        (trunc_settled version v0.all T h fd (new_id v0) (resolve version (settle v0.all) h []) (parent version (settle v0.all) h []) (ap settle (sym effect_is)) (rw (below_is h hart_count lt) placed)))
        (ap (λ (m : Stage). m.walk) (stage_walk h None None u1)))
        b pos
        (λ l q. (rest l u q (own_walk h None None u1 (record O { inodes = put O.inodes j (Some (locked_held (Some y))) }) c.owned)).wp))
      where
        at : Behind v0.all h fd key
        at = behind v0.all h fd key (ap (λ (o : Own). o.row.keys fd) ov ∙ keyed)

        file_j : at.file.number ≡ j
        file_j = ap (λ (z : Key). z.number) at.same ∙ number

        there : v0.all.nodes j ≡ Some v
        there = has_node h j v0 O (locked_held (Some v)) ov isj

        placed : place_of v0.all h (Truncate fd) ≡ true
        placed = trunc_place v0.all h fd j at.file v lt at.at file_j there isf

        T : Tree
        T = with_nodes v0.all (put v0.all.nodes j (Some y))

        effect_is : effect_with version v0.all h (Truncate fd) None None 0 (new_id v0) ≡ T
        effect_is = trunc_effect version v0.all h fd 0 (new_id v0) j at.file v None None at.at file_j there

        c : Changing h j y (locked_held (Some v)) v0 O
        c = changing version h j y (locked_held (Some v)) v0 O ov free lt inv none isj ((λ z. Some (type_y v.kind z)) ∙ ap (λ (o : Option Node). type_of o) (sym there)) (ap (λ (o : Option Node). is_live o) (sym there))
            (subst (λ (z : Tree). IsWellFormed z) effect_is (effect_well version v0.all h (Truncate fd) None None 0 (new_id v0) inv.well lt placed (λ m q. absurd cc) (λ q e. absurd cc) (trunc_goes version v0.all h fd None None) (record { node = λ z. absurd cc; file = λ z. absurd cc })))

        u1 : World
        u1 = changed_world j y v0

        u : World
        u = record u1 { harts = with_walk v0.harts h None None }
