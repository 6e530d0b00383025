-- The act of an open that makes its file. At the entry's put the file is there, under its name, and open; or the hart
-- has no descriptor left, and the file stays.
use Rattle.image_versions.specs.declared.version.Version.{Version}
use Rattle.inode_machine.proofs.Vocabulary.{◌≡◌, ◌≢◌, inl, ℕ, ◌+◌, ◌<◌, ◌≤◌, Bool, true, false, ◌&&◌, nat_lt, List, [], ◌∷◌, Option, Some, None, refl, sym, ◌∙◌, ap, subst, arith, if◌then◌else◌, nat_tests, Do, P, Safe, Descriptors, Node, Open, Opened, NoRoom, hart_count, descriptor_count, Name, Tree, put, look, live_directory, settle, node_or, with_nodes, new_file, IsNewNode, creates, has_room, lowest, refusal_with, refusal_by, effect_with, effect_by, answer_with, answer_by, is_absent, place_of, IsInPlace, key_is, IsWellFormed, look_same, well_file, absent_slot, Step, Look, Note, World, Mark, EntryResult, InPlace, NoBlock, NoSlot, Enter, Mends, with_entry, Made, new_id, file_for, Own, Held, own_of, Inv, machine, IsName, makes, enter_cost}
use Rattle.inode_machine.proofs.Basics.{fair, fair_then, has_node, my_refs, refs_walk, stage_walk, Mendable, mended_own, acts_gone, act_good, no_walk, of_range, told_step, lowest_same, not_at, Fresh, fresh_id, Opening, opened_row, opened_tree, opened_world, opening}
use Rattle.inode_machine.proofs.Addings.{Adding, added_nodes, added_world, adding}
use Rattle.inode_machine.proofs.Enters.{EnterFine, s-enter-with}

open_goes : (version : Version) (t : Tree) (h d flags : ℕ) (e : Name) (path : List ℕ) → creates flags ≡ true → look t.nodes d e ≡ None → refusal_with version t h (Open path flags) None (Some (d, e)) ≡ None
unfolding refusal_by
open_goes version t h d flags e path c absent = rw (c, absent) refl

open_effect : (version : Version) (t : Tree) (h d i id flags : ℕ) (e : Name) (path : List ℕ) → creates flags ≡ true → look t.nodes d e ≡ None → has_room (t.fds h) ≡ true
    → effect_with version t h (Open path flags) None (Some (d, e)) i id ≡ opened_tree (with_nodes t (added_nodes t.nodes d i (with_entry e i (node_or (t.nodes d))) new_file)) h (lowest (t.fds h)) id i flags
unfolding effect_by
open_effect version t h d i id flags e path c absent room = rw (c, absent, room) refl

full_effect : (version : Version) (t : Tree) (h d i id flags : ℕ) (e : Name) (path : List ℕ) → creates flags ≡ true → look t.nodes d e ≡ None → has_room (t.fds h) ≡ false
    → effect_with version t h (Open path flags) None (Some (d, e)) i id ≡ with_nodes t (added_nodes t.nodes d i (with_entry e i (node_or (t.nodes d))) new_file)
unfolding effect_by
full_effect version t h d i id flags e path c absent room = rw (c, absent, room) refl

open_answer : (version : Version) (t : Tree) (h d id flags : ℕ) (e : Name) (path : List ℕ) → creates flags ≡ true → look t.nodes d e ≡ None → has_room (t.fds h) ≡ true → answer_with version t h (Open path flags) None (Some (d, e)) id ≡ Opened (lowest (t.fds h)) id true
unfolding answer_by
open_answer version t h d id flags e path c absent room = rw (room, c, absent) refl

full_answer : (version : Version) (t : Tree) (h d id flags : ℕ) (e : Name) (path : List ℕ) → has_room (t.fds h) ≡ false → answer_with version t h (Open path flags) None (Some (d, e)) id ≡ NoRoom Descriptors
unfolding answer_by
full_answer version t h d id flags e path room = rw room refl

open_place : (t : Tree) (h flags : ℕ) (path : List ℕ) → h < hart_count → IsInPlace t h (Open path flags)
unfolding place_of
open_place t h flags path lt = grind (arith, nat_tests)

absent_is : (t : Tree) (d flags : ℕ) (e : Name) → creates flags ≡ true → look t.nodes d e ≡ None → (creates flags && is_absent t (Some (d, e))) ≡ true
absent_is t d flags e c absent = rw (c, absent) refl

-- what the hart has then of the two inodes
abbrev pub created_inodes : Own → ℕ → ℕ → Name → Node → Held → Held → ℕ → Option Held
created_inodes O d i e X x z = put (put O.inodes d (Some (record x { disk = Some (with_entry e i X); node = Some (with_entry e i X) }))) i (Some (record z { node = Some new_file; alone = false }))

pub s-enter-file : (version : Version) {A : Type 0} {h : ℕ} (d i : ℕ) {x z : Held} (X : Node) (e : Name) (path : List ℕ) (flags : ℕ) {m : EntryResult → Option Mark} {k : EntryResult → P (machine version) A} {B : List Step → Type 0} {Q : A → List Step → World → Type 0} {n : ℕ} {es : List Step} {w : World} {O : Own}
    → own_of h w ≡ O → O.desk.lender ≡ None → h < hart_count → enter_cost < n → O.desk.joined ≡ true → O.mine.walk ≡ Some (record { step = Open path flags; at = d; next = e; rest = [] }) → O.mine.pending ≡ None → Mendable O → creates flags ≡ true
    → m InPlace ≡ makes (Look i) → m NoBlock ≡ Some Mends → m NoSlot ≡ Some Mends
    → O.inodes d ≡ Some x → x.disk ≡ Some X → x.node ≡ Some X → x.alone ≡ false → x.locked ≡ true → live_directory (Some X) ≡ true → look (λ j. Some X) d e ≡ None
    → O.inodes i ≡ Some z → z.alone ≡ true → z.locked ≡ true → z.node ≡ None → 0 < O.mine.refs i → IsName version e → 1 ≤ i → i < O.ninodes → ((t : Note) → O.desk.noted ≡ Some t → t.number ≢ i)
    → ((fd id : ℕ) → B (told_step i (Open path flags) (Opened fd id true) ∷ es)) → B (told_step i (Open path flags) (NoRoom Descriptors) ∷ es)
    → ((l fd id : ℕ) (u : World) → l + 1641 ≡ n → has_room O.desk.fds ≡ true → lowest O.desk.fds ≡ fd → O.row.fds fd ≡ None → O.row.keys fd ≡ None
    → own_of h u ≡ record O { inodes = created_inodes O d i e X x z; mine = record { refs = O.mine.refs; walk = None; pending = None }; row = opened_row O.row fd id (key_is (file_for i flags)); desk = record (O.desk) { opening = Some fd } }
    → Safe (machine version) h B Q (k InPlace) l (told_step i (Open path flags) (Opened fd id true) ∷ es) u)
    → ((l : ℕ) (u : World) → l + 1641 ≡ n → has_room O.desk.fds ≡ false → own_of h u ≡ record O { inodes = created_inodes O d i e X x z; mine = record { refs = O.mine.refs; walk = None; pending = None } }
    → Safe (machine version) h B Q (k InPlace) l (told_step i (Open path flags) (NoRoom Descriptors) ∷ es) u)
    → ((l : ℕ) (u : World) → l + 1641 ≡ n → own_of h u ≡ mended_own O → Safe (machine version) h B Q (k NoBlock) l es u)
    → ((l : ℕ) (u : World) → l + 1641 ≡ n → own_of h u ≡ mended_own O → Safe (machine version) h B Q (k NoSlot) l es u)
    → Safe (machine version) h B Q (Do (Enter d e i) m k) n es w
s-enter-file version {A} {h} d i {x} {z} X e path flags {m} {k} {B} {Q} {n} {es} {w} {O} owns free lt pos joined walks none can flag in_place block slot isd xd xn shared locked live finds isi lone locked2 blank refers named from below notes b b_full then_ full no_block no_slot =
    s-enter-with version d i X e owns free lt pos joined isd xd locked live named from below can block slot (λ v inv ov. subst (λ (o : Option Mark). EnterFine version h d e i o n B Q es v (record v { disk = put v.disk d (Some (with_entry e i X)) }) (k InPlace)) (sym in_place) (by_room v inv ov (has_room (v.all.fds h)) refl)) no_block no_slot
  where
    u1 : World → World
    u1 v = record v { disk = put v.disk d (Some (with_entry e i X)) }

    -- the file is in the tree
    u2 : World → World
    u2 v = added_world h d i (Some (with_entry e i X)) (with_entry e i X) new_file v

    mine : (v : World) → own_of h v ≡ O → (v.harts h).walk ≡ Some (record { step = Open path flags; at = d; next = e; rest = [] })
    mine v ov = ap (λ (o : Own). o.mine.walk) ov ∙ walks

    nd : (v : World) → own_of h v ≡ O → v.all.nodes d ≡ Some X
    nd v ov = has_node h d v O x ov isd ∙ xn

    ni : (v : World) → own_of h v ≡ O → v.all.nodes i ≡ None
    ni v ov = has_node h i v O z ov isi ∙ blank

    fresh : (v : World) → own_of h v ≡ O → IsNewNode v.all i
    fresh v ov = record { from = from; below = (let q = ap (λ (o : Own). o.ninodes) ov in omega (arith, q, below)); unused = ni v ov }

    live_at : (v : World) → own_of h v ≡ O → live_directory (v.all.nodes d) ≡ true
    live_at v ov = ap (λ (o : Option Node). live_directory o) (nd v ov) ∙ live

    look_is : (v : World) → own_of h v ≡ O → look v.all.nodes d e ≡ None
    look_is v ov = look_same (λ j. Some X) v.all.nodes d e (nd v ov) ∙ finds

    well : (v : World) → Inv v → own_of h v ≡ O → IsWellFormed (with_nodes v.all (added_nodes v.all.nodes d i (with_entry e i X) new_file))
    well v inv ov =
        let f = fresh v ov in
        subst (λ (y : Node). IsWellFormed (with_nodes v.all (added_nodes v.all.nodes d i (with_entry e i y) new_file))) (ap (λ (o : Option Node). node_or o) (nd v ov))
        (well_file v.all d i e inv.well (live_at v ov) (absent_slot v.all d e (live_at v ov) (look_is v ov)) f.unused f.from f.below)

    added : (v : World) → Inv v → own_of h v ≡ O → Adding h d i (Some (with_entry e i X)) X (with_entry e i X) new_file x z v O
    added v inv ov = adding version h d i (Some (with_entry e i X)) X (with_entry e i X) new_file x z v O ov free lt inv joined none isd xn shared live refl isi lone locked2 blank notes (λ _ _. well v inv ov)

    goes : (v : World) → own_of h v ≡ O → refusal_with version v.all h (Open path flags) None (Some (d, e)) ≡ None
    goes v ov = open_goes version v.all h d flags e path flag (look_is v ov)

    -- the table has a descriptor if the tree has
    low_is : (v : World) → Inv v → own_of h v ≡ O → lowest O.desk.fds ≡ lowest (v.all.fds h)
    low_is v inv ov = ap (λ (p : Own). lowest p.desk.fds) (sym ov) ∙ sym (lowest_same (v.desks h).fds (v.all.fds h) v.ids (λ j l. inv.tied.fds h j lt l (not_at v h j (ap (λ (p : Own). p.desk.opening) ov ∙ can.opening))))

    has_too : (v : World) → Inv v → own_of h v ≡ O → has_room O.desk.fds ≡ has_room (v.all.fds h)
    has_too v inv ov = ap (λ (l : ℕ). nat_lt l descriptor_count) (low_is v inv ov)

    has : (v : World) → Inv v → own_of h v ≡ O → has_room (v.all.fds h) ≡ true → EnterFine version h d e i (makes (Look i)) n B Q es v (u1 v) (k InPlace)
    has v inv ov room =
        act_good version h enter_cost n B Q es v (u1 v) (Open path flags) d i (of_range v i (fresh v ov).below) e None (Opened fd (new_id v) true) made (k InPlace) lt inv (mine v ov) (live_at v ov) (look_is v ov) (λ g q. absurd cc)
        (acts_gone version v.all h (Open path flags) None (Some (d, e)) i (new_id v) (goes v ov)
        ∙ (λ r. record made { all = effect r; opened = if room r then Some (new_id v) else None; entered = if absent_is v.all d flags e flag (look_is v ov) r then Some i else None; told = Some (record { act = record { step = Open path flags; answer = answer r }; new = i }) }))
        refl (goes v ov)
        (goes v ov, sym answer, record { node = λ q. fresh v ov; file = λ q. id_is.least }, ap (λ (t : Tree). settle t) (sym effect), open_place v.all h flags path lt)
        (λ q g lg ne at. no_walk h i g v inv lt a.lone a.kept lg ne at)
        (fair_then a.fair (fair a.fair.inv o.did))
        (stage_walk h None None (record (u1 v) { all = all })) (b fd (new_id v)) pos
        (λ l q. (then_ l fd (new_id v) (opened_world h fd i flags (u2 v)) q (has_too v inv ov ∙ room) (low_is v inv ov)
        (ap (λ (p : Own). p.row.fds fd) (sym ov) ∙ o.none) (ap (λ (p : Own). p.row.keys fd) (sym ov) ∙ o.unkeyed) o.owned).wp)
      where
        fd : ℕ
        fd = lowest (v.all.fds h)

        a : Adding h d i (Some (with_entry e i X)) X (with_entry e i X) new_file x z v O
        a = added v inv ov

        id_is : Fresh v
        id_is = fresh_id v inv

        all : Tree
        all = opened_tree (with_nodes v.all (added_nodes v.all.nodes d i (with_entry e i X) new_file)) h fd (new_id v) i flags

        made : Made
        made = record { all = all; walk = None; found = None; opened = Some (new_id v); entered = Some i; left = None; told = Some (record { act = record { step = Open path flags; answer = Opened fd (new_id v) true }; new = i }) }

        effect : effect_with version v.all h (Open path flags) None (Some (d, e)) i (new_id v) ≡ all
        effect = open_effect version v.all h d i (new_id v) flags e path flag (look_is v ov) room ∙ (λ r. opened_tree (with_nodes v.all (added_nodes v.all.nodes d i (with_entry e i (node_or (nd v ov r))) new_file)) h fd (new_id v) i flags)

        answer : answer_with version v.all h (Open path flags) None (Some (d, e)) (new_id v) ≡ Opened fd (new_id v) true
        answer = open_answer version v.all h d (new_id v) flags e path flag (look_is v ov) room

        O2 : Own
        O2 = record O { inodes = created_inodes O d i e X x z; mine = record { refs = O.mine.refs; walk = None; pending = None } }

        o : Opening h fd i flags (u2 v) O2
        o = opening h fd i flags new_file (u2 v) O2 a.owned free lt a.fair.inv can.opening refl room a.here (inl (let r = refs_walk v.harts h None None h i in let q = my_refs h v O i ov in omega (arith, r, q, refers)))

    lacks : (v : World) → Inv v → own_of h v ≡ O → has_room (v.all.fds h) ≡ false → EnterFine version h d e i (makes (Look i)) n B Q es v (u1 v) (k InPlace)
    lacks v inv ov room =
        act_good version h enter_cost n B Q es v (u1 v) (Open path flags) d i (of_range v i (fresh v ov).below) e None (NoRoom Descriptors) made (k InPlace) lt inv (mine v ov) (live_at v ov) (look_is v ov) (λ g q. absurd cc)
        (acts_gone version v.all h (Open path flags) None (Some (d, e)) i (new_id v) (goes v ov)
        ∙ (λ r. record made { all = effect r; opened = if room r then Some (new_id v) else None; entered = if absent_is v.all d flags e flag (look_is v ov) r then Some i else None; told = Some (record { act = record { step = Open path flags; answer = full_answer version v.all h d (new_id v) flags e path room r }; new = i }) }))
        refl (goes v ov)
        (goes v ov, sym (full_answer version v.all h d (new_id v) flags e path room), record { node = λ q. fresh v ov; file = λ q. absurd (cc (q, room)) }, ap (λ (t : Tree). settle t) (sym effect), open_place v.all h flags path lt)
        (λ q g lg ne at. no_walk h i g v inv lt a.lone a.kept lg ne at)
        a.fair
        (stage_walk h None None (record (u1 v) { all = made.all })) b_full pos
        (λ l q. (full l (u2 v) q (has_too v inv ov ∙ room) a.owned).wp)
      where
        a : Adding h d i (Some (with_entry e i X)) X (with_entry e i X) new_file x z v O
        a = added v inv ov

        made : Made
        made = record { all = with_nodes v.all (added_nodes v.all.nodes d i (with_entry e i X) new_file); walk = None; found = None; opened = None; entered = Some i; left = None; told = Some (record { act = record { step = Open path flags; answer = NoRoom Descriptors }; new = i }) }

        effect : effect_with version v.all h (Open path flags) None (Some (d, e)) i (new_id v) ≡ with_nodes v.all (added_nodes v.all.nodes d i (with_entry e i X) new_file)
        effect = full_effect version v.all h d i (new_id v) flags e path flag (look_is v ov) room ∙ (λ r. with_nodes v.all (added_nodes v.all.nodes d i (with_entry e i (node_or (nd v ov r))) new_file))

    by_room : (v : World) → Inv v → own_of h v ≡ O → (r : Bool) → has_room (v.all.fds h) ≡ r → EnterFine version h d e i (makes (Look i)) n B Q es v (u1 v) (k InPlace)
    by_room v inv ov true q = has v inv ov q
    by_room v inv ov false q = lacks v inv ov q
