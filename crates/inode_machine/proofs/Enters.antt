-- A name is entered: without room for it nothing is; and mkdir's act, which is at that moment.
use Rattle.image_versions.specs.declared.version.Version.{Version}
use Rattle.inode_machine.proofs.Vocabulary.{◌≡◌, ◌≢◌, ℕ, ◌+◌, ◌<◌, ◌≤◌, Bool, true, false, nat_lt, List, [], ◌∷◌, Option, Some, None, refl, sym, ◌∙◌, ap, subst, arith, nat_tests, Do, Ran, ExecResult, P, own, onto, Good, Fine, Safe, Wp, Node, Mkdir, Done, hart_count, count_limit, Name, Tree, put, look, is_directory, live_directory, settle, node_or, node_at, with_nodes, raised, new_directory, IsNewNode, refusal_with, refusal_by, effect_with, effect_by, answer_with, answer_by, place_of, IsInPlace, IsWellFormed, and_true, put_same, put_other, look_same, effect_well, Step, Look, Note, World, Mark, Outside, Room, RoomFor, Picks, EntryResult, InPlace, NoBlock, NoSlot, Enter, Mends, with_entry, enter_if, enter_in, is_full_directory, Made, new_id, marked, places, with_mark, Own, Held, own_of, Inv, machine, IsName, makes, enter_cost}
use Rattle.inode_machine.proofs.Basics.{s-owned, locks_it, has_disk, has_node, stage_walk, Mendable, mended_own, mend_fine, acts_gone, act_good, no_walk, of_range, told_step, two_put, less_is}
use Rattle.inode_machine.proofs.Addings.{Adding, added_world, adding}

-- an entry's put, with its mark
abbrev pub EnterFine : (version : Version) {A : Type 0} → ℕ → ℕ → Name → ℕ → Option Mark → ℕ → (List Step → Type 0) → (A → List Step → World → Type 0) → List Step → World → World → P (machine version) A → Type 0
EnterFine version h d e i m n B Q es v u p = Fine (machine version) h (places version h (Enter d e i) InPlace m v) enter_cost n B es v (marked version h m u) (λ l. Wp (machine version) h B Q p l (onto (own h (places version h (Enter d e i) InPlace m v)) es) (marked version h m u))

pub s-enter-with : (version : Version) {A : Type 0} {h : ℕ} (d i : ℕ) {x : Held} (X : Node) (e : Name) {m : EntryResult → Option Mark} {k : EntryResult → P (machine version) A} {B : List Step → Type 0} {Q : A → List Step → World → Type 0} {n : ℕ} {es : List Step} {w : World} {O : Own}
    → own_of h w ≡ O → O.desk.lender ≡ None → h < hart_count → enter_cost < n → O.desk.joined ≡ true → O.inodes d ≡ Some x → x.disk ≡ Some X → x.locked ≡ true → live_directory (Some X) ≡ true → IsName version e → 1 ≤ i → i < O.ninodes → Mendable O → m NoBlock ≡ Some Mends → m NoSlot ≡ Some Mends
    → ((v : World) → Inv v → own_of h v ≡ O → EnterFine version h d e i (m InPlace) n B Q es v (record v { disk = put v.disk d (Some (with_entry e i X)) }) (k InPlace))
    → ((l : ℕ) (u : World) → l + 1641 ≡ n → own_of h u ≡ mended_own O → Safe (machine version) h B Q (k NoBlock) l es u)
    → ((l : ℕ) (u : World) → l + 1641 ≡ n → own_of h u ≡ mended_own O → Safe (machine version) h B Q (k NoSlot) l es u)
    → Safe (machine version) h B Q (Do (Enter d e i) m k) n es w
s-enter-with version {A} {h} d i {x} X e {m} {k} {B} {Q} {n} {es} {w} {O} owns free lt pos joined isd xd locked live named from below can block slot good no_block no_slot = s-owned version owns free pos (λ v inv ov. (
  ((locks_it h d v O x ov isd locked, ap (λ (o : Own). o.desk.joined) ov ∙ joined), record { node = X; is = has_disk h d v O x ov isd ∙ xd; fits = (linked.1, less_is 0 X.count linked.0) }, (from, (let s : v.all.ninodes ≡ O.ninodes = ap (λ (o : Own). o.ninodes) ov in omega (arith, s, below))), named),
  (λ o _. by_slots v inv ov o (is_full_directory version (v.disk d))),
))
  where
    linked : (nat_lt 0 X.count ≡ true) × (is_directory X.kind ≡ true)
    linked = and_true (nat_lt 0 X.count) (is_directory X.kind) live

    Goal : World → ExecResult EntryResult World → Type 0
    Goal v z = Good (machine version) EntryResult h (λ a. places version h (Enter d e i) a (m a) v) enter_cost n B es v ⊥ (with_mark version h m z) (λ l a u. Wp (machine version) h B Q (k a) l (onto (own h (places version h (Enter d e i) a (m a) v)) es) u)

    -- nothing is entered
    fails : (v : World) → Inv v → own_of h v ≡ O → (a : EntryResult) → m a ≡ Some Mends → ((l : ℕ) (u : World) → l + 1641 ≡ n → own_of h u ≡ mended_own O → Safe (machine version) h B Q (k a) l es u) → Goal v (Ran a v)
    fails v inv ov a is rest = subst (λ (o : Option Mark). Fine (machine version) h (places version h (Enter d e i) a o v) enter_cost n B es v (marked version h o v) (λ l. Wp (machine version) h B Q (k a) l (onto (own h (places version h (Enter d e i) a o v)) es) (marked version h o v))) (sym is) (mend_fine version h enter_cost n B Q es v O (k a) ov free lt inv can pos rest)

    by_room : (v : World) → Inv v → own_of h v ≡ O → (o : Outside) → Goal v (enter_in d e i v o)
    by_room v inv ov Room = subst (λ (z : Option Node). Goal v (Ran InPlace (record v { disk = put v.disk d (Some (with_entry e i (node_or z))) }))) (sym (has_disk h d v O x ov isd ∙ xd)) (good v inv ov)
    by_room v inv ov (RoomFor j) = fails v inv ov NoBlock block no_block
    by_room v inv ov (Picks j) = fails v inv ov NoBlock block no_block

    by_slots : (v : World) → Inv v → own_of h v ≡ O → (o : Outside) (f : Bool) → Goal v (enter_if d e i v o f)
    by_slots v inv ov o true = fails v inv ov NoSlot slot no_slot
    by_slots v inv ov o false = by_room v inv ov o

-- Mkdir.

-- the name is entered in x, with a link more for it, and the new directory is there
abbrev pub made_nodes : (ℕ → Option Node) → Node → ℕ → Name → ℕ → ℕ → Option Node
made_nodes ns x d e i = put (put ns d (Some (raised (with_entry e i x)))) i (Some (new_directory i d))

mkdir_goes : (version : Version) (t : Tree) (h d : ℕ) (e : Name) (path : List ℕ) → look t.nodes d e ≡ None → nat_lt (node_at t d).count count_limit ≡ true → refusal_with version t h (Mkdir path) None (Some (d, e)) ≡ None
unfolding refusal_by
mkdir_goes version t h d e path absent few = rw (absent, few) refl

mkdir_effect : (version : Version) (t : Tree) (h d i id : ℕ) (e : Name) (path : List ℕ) → i ≢ d → effect_with version t h (Mkdir path) None (Some (d, e)) i id ≡ with_nodes t (made_nodes t.nodes (node_or (t.nodes d)) d e i)
unfolding effect_by
mkdir_effect version t h d i id e path ne = λ r. with_nodes t (turned r)
  where
    x : Node
    x = with_entry e i (node_or (t.nodes d))

    f : ℕ → Option Node
    f = put (put t.nodes d (Some x)) i (Some (new_directory i d))

    at_d : f d ≡ Some x
    at_d = put_other (put t.nodes d (Some x)) i (Some (new_directory i d)) d (λ q. ne (sym q)) ∙ put_same t.nodes d (Some x)

    turned : put f d (Some (raised (node_or (f d)))) ≡ made_nodes t.nodes (node_or (t.nodes d)) d e i
    turned = two_put t.nodes (put f d (Some (raised (node_or (f d))))) d i (Some (raised x)) (Some (new_directory i d))
        (put_same f d (Some (raised (node_or (f d)))) ∙ ap (λ (o : Option Node). Some (raised (node_or o))) at_d)
        (put_other f d (Some (raised (node_or (f d)))) i ne ∙ put_same (put t.nodes d (Some x)) i (Some (new_directory i d)))
        (λ n nd ni. put_other f d (Some (raised (node_or (f d)))) n nd ∙ put_other (put t.nodes d (Some x)) i (Some (new_directory i d)) n ni ∙ put_other t.nodes d (Some x) n nd)

pub mkdir_place : (t : Tree) (h : ℕ) (path : List ℕ) → h < hart_count → IsInPlace t h (Mkdir path)
unfolding place_of
mkdir_place t h path lt = grind (arith, nat_tests)

mkdir_placed : (t : Tree) (h : ℕ) (path : List ℕ) → place_of t h (Mkdir path) ≡ true
unfolding place_of
mkdir_placed t h path = refl

mkdir_answer : (version : Version) (t : Tree) (h id : ℕ) (path : List ℕ) (res : Option ℕ) (par : Option (ℕ × Name)) → answer_with version t h (Mkdir path) res par id ≡ Done
unfolding answer_by
mkdir_answer version t h id path res par = refl

-- The entry is put: at this moment the directory is there, under its name. z: the new inode, with its two entries.
pub s-enter-directory : (version : Version) {A : Type 0} {h : ℕ} (d i : ℕ) {x z : Held} (X : Node) (e : Name) (path : List ℕ) {m : EntryResult → Option Mark} {k : EntryResult → P (machine version) A} {B : List Step → Type 0} {Q : A → List Step → World → Type 0} {n : ℕ} {es : List Step} {w : World} {O : Own}
    → own_of h w ≡ O → O.desk.lender ≡ None → h < hart_count → enter_cost < n → O.desk.joined ≡ true → O.mine.walk ≡ Some (record { step = Mkdir path; at = d; next = e; rest = [] }) → O.mine.pending ≡ None → Mendable O
    → m InPlace ≡ makes (Look i) → m NoBlock ≡ Some Mends → m NoSlot ≡ Some Mends
    → O.inodes d ≡ Some x → x.disk ≡ Some X → x.node ≡ Some X → x.alone ≡ false → x.locked ≡ true → live_directory (Some X) ≡ true → look (λ j. Some X) d e ≡ None → nat_lt X.count count_limit ≡ true
    → O.inodes i ≡ Some z → z.alone ≡ true → z.locked ≡ true → z.node ≡ None → IsName version e → 1 ≤ i → i < O.ninodes → ((t : Note) → O.desk.noted ≡ Some t → t.number ≢ i)
    → B (told_step i (Mkdir path) Done ∷ es)
    → ((l : ℕ) (u : World) → l + 1641 ≡ n
    → own_of h u ≡ record O { inodes = put (put O.inodes d (Some (record x { disk = Some (with_entry e i X); node = Some (raised (with_entry e i X)) }))) i (Some (record z { node = Some (new_directory i d); alone = false })); mine = record { refs = O.mine.refs; walk = None; pending = None } }
    → Safe (machine version) h B Q (k InPlace) l (told_step i (Mkdir path) Done ∷ es) u)
    → ((l : ℕ) (u : World) → l + 1641 ≡ n → own_of h u ≡ mended_own O → Safe (machine version) h B Q (k NoBlock) l es u)
    → ((l : ℕ) (u : World) → l + 1641 ≡ n → own_of h u ≡ mended_own O → Safe (machine version) h B Q (k NoSlot) l es u)
    → Safe (machine version) h B Q (Do (Enter d e i) m k) n es w
s-enter-directory version {A} {h} d i {x} {z} X e path {m} {k} {B} {Q} {n} {es} {w} {O} owns free lt pos joined walks none can in_place block slot isd xd xn shared locked live finds few isi lone locked2 blank named from below notes b then_ no_block no_slot =
    s-enter-with version d i X e owns free lt pos joined isd xd locked live named from below can block slot (λ v inv ov. subst (λ (o : Option Mark). EnterFine version h d e i o n B Q es v (record v { disk = put v.disk d (Some (with_entry e i X)) }) (k InPlace)) (sym in_place) (good v inv ov)) no_block no_slot
  where
    good : (v : World) → Inv v → own_of h v ≡ O → EnterFine version h d e i (makes (Look i)) n B Q es v (record v { disk = put v.disk d (Some (with_entry e i X)) }) (k InPlace)
    good v inv ov =
        act_good version h enter_cost n B Q es v u1 (Mkdir path) d i (of_range v i fresh.below) e None Done made (k InPlace) lt inv mine live_at look_is (λ g q. absurd cc)
        (acts_gone version v.all h (Mkdir path) None (Some (d, e)) i (new_id v) goes ∙ (λ r. record made { all = effect r; told = Some (record { act = record { step = Mkdir path; answer = mkdir_answer version v.all h (new_id v) path None (Some (d, e)) r }; new = i }) }))
        refl goes
        (goes, sym (mkdir_answer version v.all h (new_id v) path None (Some (d, e))), record { node = λ q. fresh; file = λ q. absurd cc }, ap (λ (t : Tree). settle t) (sym effect), mkdir_place v.all h path lt)
        (λ q g lg ne at. no_walk h i g v inv lt a.lone a.kept lg ne at)
        a.fair
        (stage_walk h None None (record u1 { all = all })) b pos
        (λ l q. (then_ l (added_world h d i (Some (with_entry e i X)) (raised (with_entry e i X)) (new_directory i d) v) q a.owned).wp)
      where
        u1 : World
        u1 = record v { disk = put v.disk d (Some (with_entry e i X)) }

        all : Tree
        all = with_nodes v.all (made_nodes v.all.nodes X d e i)

        made : Made
        made = record { all = all; walk = None; found = None; opened = None; entered = Some i; left = None; told = Some (record { act = record { step = Mkdir path; answer = Done }; new = i }) }

        mine : (v.harts h).walk ≡ Some (record { step = Mkdir path; at = d; next = e; rest = [] })
        mine = ap (λ (o : Own). o.mine.walk) ov ∙ walks

        nd : v.all.nodes d ≡ Some X
        nd = has_node h d v O x ov isd ∙ xn

        ni : v.all.nodes i ≡ None
        ni = has_node h i v O z ov isi ∙ blank

        fresh : IsNewNode v.all i
        fresh = record { from = from; below = (let q = ap (λ (o : Own). o.ninodes) ov in omega (arith, q, below)); unused = ni }

        live_at : live_directory (v.all.nodes d) ≡ true
        live_at = ap (λ (o : Option Node). live_directory o) nd ∙ live

        look_is : look v.all.nodes d e ≡ None
        look_is = look_same (λ j. Some X) v.all.nodes d e nd ∙ finds

        apart : i ≢ d
        apart q = absurd (let c : v.all.nodes d ≡ None = ap v.all.nodes (sym q) ∙ ni in cc (c, nd))

        goes : refusal_with version v.all h (Mkdir path) None (Some (d, e)) ≡ None
        goes = mkdir_goes version v.all h d e path look_is (ap (λ (o : Option Node). nat_lt (node_or o).count count_limit) nd ∙ few)

        effect : effect_with version v.all h (Mkdir path) None (Some (d, e)) i (new_id v) ≡ all
        effect = mkdir_effect version v.all h d i (new_id v) e path apart ∙ (λ r. with_nodes v.all (made_nodes v.all.nodes (node_or (nd r)) d e i))

        well : IsWellFormed all
        well = subst (λ (t : Tree). IsWellFormed t) effect (effect_well version v.all h (Mkdir path) None (Some (d, e)) i (new_id v) inv.well lt (mkdir_placed v.all h path)
            (λ j q. absurd cc)
            (λ p q. let s : (d, e) ≡ p = cc in subst (λ (o : ℕ × Name). live_directory (v.all.nodes o.0) ≡ true) s live_at)
            goes (record { node = λ q. fresh; file = λ q. absurd cc }))

        a : Adding h d i (Some (with_entry e i X)) X (raised (with_entry e i X)) (new_directory i d) x z v O
        a = adding version h d i (Some (with_entry e i X)) X (raised (with_entry e i X)) (new_directory i d) x z v O ov free lt inv joined none isd xn shared live refl isi lone locked2 blank notes (λ _ _. well)
