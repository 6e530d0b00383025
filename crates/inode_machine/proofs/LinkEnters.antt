-- Link's name is entered: at this moment its hold goes, and the link is there.
use Rattle.image_versions.specs.declared.version.Version.{Version}
use Rattle.inode_machine.proofs.Vocabulary.{◌≡◌, ℕ, ◌+◌, ◌<◌, ◌≤◌, true, false, List, [], ◌∷◌, Option, Some, None, refl, sym, ◌∙◌, ap, subst, Do, P, Safe, Exists, NoEntry, Node, EnterStep, Done, hart_count, Name, Tree, put, live_directory, look, settle, answer_with, answer_by, drop_hold, effect_with, effect_by, enter_hold, holds_raised, name_taken, node_or, place_of, refusal_with, refusal_by, IsInPlace, Row, IsWellFormed, put_same, look_same, effect_well, Step, Look, World, EntryResult, InPlace, NoBlock, NoSlot, Enter, InodeType, type_of, with_entry, with_walk, Made, new_id, Own, Held, own_of, Inv, machine, IsName, makes, enters, enter_cost}
use Rattle.inode_machine.proofs.Basics.{Fair, fair, fair_then, has_node, below_is, Writes, writes, own_walk, stage_walk, walk_did, Mendable, mended_own, act_good, told_step, Turned, gone_made, held_tree, held_world, high, turned}
use Rattle.inode_machine.proofs.Writings.{put_twice}
use Rattle.inode_machine.proofs.Removes.{type_of_directory}
use Rattle.inode_machine.proofs.Enters.{EnterFine, s-enter-with}
use Rattle.inode_machine.proofs.Namings.{Leads}

enter_goes : (version : Version) (t : Tree) (h d : ℕ) (e : Name) (path : List ℕ) (res : Option ℕ) → look t.nodes d e ≡ None → refusal_with version t h (EnterStep path) res (Some (d, e)) ≡ None
unfolding refusal_by
enter_goes version t h d e path res absent = λ z. name_taken (absent z)

pub enter_taken : (version : Version) (t : Tree) (h d n : ℕ) (e : Name) (path : List ℕ) (res : Option ℕ) → look t.nodes d e ≡ Some n → refusal_with version t h (EnterStep path) res (Some (d, e)) ≡ Some Exists
unfolding refusal_by
enter_taken version t h d n e path res there = λ z. name_taken (there z)

enter_missing : (version : Version) (t : Tree) (h : ℕ) (path : List ℕ) (res : Option ℕ) → refusal_with version t h (EnterStep path) res None ≡ Some NoEntry
unfolding refusal_by
enter_missing version t h path res = refl

enter_effect : (version : Version) (t : Tree) (h d j id : ℕ) (X : Node) (e : Name) (path : List ℕ) (res : Option ℕ) → t.holds h ≡ Some (high j) → t.nodes d ≡ Some X → effect_with version t h (EnterStep path) res (Some (d, e)) 0 id ≡ held_tree t (put t.nodes d (Some (with_entry e j X))) h None
unfolding effect_by
enter_effect version t h d j id X e path res held there = (λ z. drop_hold (enter_hold t (Some (d, e)) (held z)) h) ∙ (λ z. held_tree t (put t.nodes d (Some (with_entry e j (node_or (there z))))) h None)

enter_answer : (version : Version) (t : Tree) (h id : ℕ) (path : List ℕ) (res : Option ℕ) (par : Option (ℕ × Name)) → answer_with version t h (EnterStep path) res par id ≡ Done
unfolding answer_by
enter_answer version t h id path res par = refl

enter_placed : (t : Tree) (h j : ℕ) (path : List ℕ) → t.holds h ≡ Some (high j) → place_of t h (EnterStep path) ≡ true
unfolding place_of
enter_placed t h j path held = λ z. holds_raised true (held z)

pub enter_place : (t : Tree) (h j : ℕ) (path : List ℕ) → h < hart_count → t.holds h ≡ Some (high j) → IsInPlace t h (EnterStep path)
enter_place t h j path lt held = rw (below_is h hart_count lt) (enter_placed t h j path held)

pub enter_leads : (version : Version) (h j : ℕ) (path : List ℕ) (O0 : Own) → h < hart_count → O0.row.hold ≡ Some (high j) → Leads version h (EnterStep path) O0
enter_leads version h j path O0 lt holds = record {
  follows = refl;
  missing = λ b res. enter_missing version b h path res;
  stays = λ b. refl;
  place = λ t q. enter_place t h j path lt (ap (λ (r : Row). r.hold) q ∙ holds);
  other = λ g q. absurd cc;
  finds = refl;
}

-- The entry is put.
pub s-enter-name : (version : Version) {A : Type 0} {h : ℕ} (d j : ℕ) {x : Held} (X : Node) (e : Name) (path : List ℕ) {k : EntryResult → P (machine version) A} {B : List Step → Type 0} {Q : A → List Step → World → Type 0} {n : ℕ} {es : List Step} {w : World} {O : Own}
    → own_of h w ≡ O → O.desk.lender ≡ None → h < hart_count → enter_cost < n → O.desk.joined ≡ true → O.mine.walk ≡ Some (record { step = EnterStep path; at = d; next = e; rest = [] }) → O.mine.pending ≡ None → Mendable O → O.row.hold ≡ Some (high j)
    → O.inodes d ≡ Some x → x.disk ≡ Some X → x.node ≡ Some X → x.alone ≡ false → x.locked ≡ true → live_directory (Some X) ≡ true → look (λ i. Some X) d e ≡ None → IsName version e → 1 ≤ j → j < O.ninodes → B (told_step 0 (EnterStep path) Done ∷ es)
    → ((l : ℕ) (u : World) → l + 1641 ≡ n
    → own_of h u ≡ record O { inodes = put O.inodes d (Some (record x { disk = Some (with_entry e j X); node = Some (with_entry e j X) })); row = record (O.row) { hold = None }; mine = record { refs = O.mine.refs; walk = None; pending = None } }
    → Safe (machine version) h B Q (k InPlace) l (told_step 0 (EnterStep path) Done ∷ es) u)
    → ((l : ℕ) (u : World) → l + 1641 ≡ n → own_of h u ≡ mended_own O → Safe (machine version) h B Q (k NoBlock) l es u)
    → ((l : ℕ) (u : World) → l + 1641 ≡ n → own_of h u ≡ mended_own O → Safe (machine version) h B Q (k NoSlot) l es u)
    → Safe (machine version) h B Q (Do (Enter d e j) enters k) n es w
s-enter-name version {A} {h} d j {x} X e path {k} {B} {Q} {n} {es} {w} {O} owns free lt pos joined walks none can holds isd xd xn shared locked live finds named from below b then_ no_block no_slot =
    s-enter-with version d j X e owns free lt pos joined isd xd locked live named from below can refl refl good no_block no_slot
  where
    good : (v : World) → Inv v → own_of h v ≡ O → EnterFine version h d e j (makes (Look 0)) n B Q es v (record v { disk = put v.disk d (Some (with_entry e j X)) }) (k InPlace)
    good v inv ov =
        act_good version h enter_cost n B Q es v u1 (EnterStep path) d 0 tt e None Done made (k InPlace) lt inv mine live_at look_is (λ g q. absurd cc)
        (gone_made version v.all h (EnterStep path) None (Some (d, e)) (new_id v) T goes effect (enter_answer version v.all h (new_id v) path None (Some (d, e))) refl refl refl refl) refl goes
        (goes, sym (enter_answer version v.all h (new_id v) path None (Some (d, e))), record { node = λ q. absurd cc; file = λ q. absurd cc }, ap (λ (t : Tree). settle t) (sym effect), enter_place v.all h j path lt held)
        (λ q. absurd cc) ends (stage_walk h None None u2) b pos (λ l q. (then_ l u3 q owned).wp)
      where
        E : Node
        E = with_entry e j X

        u1 : World
        u1 = record v { disk = put v.disk d (Some E) }

        T : Tree
        T = held_tree v.all (put v.all.nodes d (Some E)) h None

        made : Made
        made = record { all = T; walk = None; found = None; opened = None; entered = None; left = None; told = Some (record { act = record { step = EnterStep path; answer = Done }; new = 0 }) }

        mine : (v.harts h).walk ≡ Some (record { step = EnterStep path; at = d; next = e; rest = [] })
        mine = ap (λ (o : Own). o.mine.walk) ov ∙ walks

        held : v.all.holds h ≡ Some (high j)
        held = ap (λ (o : Own). o.row.hold) ov ∙ holds

        nd : v.all.nodes d ≡ Some X
        nd = has_node h d v O x ov isd ∙ xn

        live_at : live_directory (v.all.nodes d) ≡ true
        live_at = ap (λ (o : Option Node). live_directory o) nd ∙ live

        look_is : look v.all.nodes d e ≡ None
        look_is = look_same (λ i. Some X) v.all.nodes d e nd ∙ finds

        goes : refusal_with version v.all h (EnterStep path) None (Some (d, e)) ≡ None
        goes = enter_goes version v.all h d e path None look_is

        effect : effect_with version v.all h (EnterStep path) None (Some (d, e)) 0 (new_id v) ≡ T
        effect = enter_effect version v.all h d j (new_id v) X e path None held nd

        well : IsWellFormed T
        well = subst (λ (t : Tree). IsWellFormed t) effect (effect_well version v.all h (EnterStep path) None (Some (d, e)) 0 (new_id v) inv.well lt (enter_placed v.all h j path held) (λ i q. absurd cc)
            (λ p q. let s : (d, e) ≡ p = cc in subst (λ (o : ℕ × Name). live_directory (v.all.nodes o.0) ≡ true) s live_at) goes (record { node = λ q. absurd cc; file = λ q. absurd cc }))

        wr : Writes h d (Some E) x O v
        wr = writes version h d (Some E) x O v free lt joined inv ov isd

        O1 : Own
        O1 = record O { inodes = put O.inodes d (Some (record x { disk = Some E })) }

        t : Turned h d E None (record x { disk = Some E }) u1 O1
        t = turned h d E None (record x { disk = Some E }) u1 O1 wr.owned free joined lt wr.fair.inv none (put_same O.inodes d (Some (record x { disk = Some E }))) shared
            (sym (ap (λ (z : Option Node). type_of z) nd ∙ ap (λ (s : InodeType). Some s) (type_of_directory X live))) (λ i q. absurd cc) well

        u2 : World
        u2 = held_world (put v.all.nodes d (Some E)) h None u1

        u3 : World
        u3 = record u2 { harts = with_walk v.harts h None None }

        ends : Fair h v u3
        ends = fair_then wr.fair (fair_then t.fair (fair t.fair.inv (walk_did h None None u2 (ap (λ (z : Own). z.desk.lender) t.owned ∙ free) lt t.fair.inv (ap (λ (z : Own). z.mine.pending) t.owned ∙ none) (λ q r e. absurd cc) (λ q r. absurd cc) (λ q r. absurd cc))))

        owned : own_of h u3 ≡ record O { inodes = put O.inodes d (Some (record x { disk = Some E; node = Some E })); row = record (O.row) { hold = None }; mine = record { refs = O.mine.refs; walk = None; pending = None } }
        owned = own_walk h None None u2 (record O1 { inodes = put O1.inodes d (Some (record x { disk = Some E; node = Some E })); row = record (O.row) { hold = None } }) t.owned
            ∙ (λ z. record O { inodes = put_twice O.inodes d (Some (record x { disk = Some E })) (Some (record x { disk = Some E; node = Some E })) z; row = record (O.row) { hold = None }; mine = record { refs = O.mine.refs; walk = None; pending = None } })
