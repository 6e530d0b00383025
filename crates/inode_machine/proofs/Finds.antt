-- Link's first step: what its old path leads to is found and held; and what is taken back of that if the call finds no
-- room.
use Rattle.image_versions.specs.declared.version.Version.{Version}
use Rattle.inode_machine.proofs.Vocabulary.{◌≡◌, ℕ, ◌<◌, true, false, not, Option, Some, None, List, refl, sym, ◌∙◌, ap, subst, IsDirectory, NoEntry, Hold, Find, Done, Failed, hart_count, Name, Tree, is_directory, settle, answer_by, effect_by, holds_raised, node_at, place_of, refusal_with, refusal_by, IsInPlace, StepWith, raised_at, put_same, not_raised, well_hold, World, acts, mended, unheld, unmoved, unopened, Own, own_names, own_of, Inv}
use Rattle.inode_machine.proofs.Basics.{fair_then, below_is, MendingOf, mends, Mending, Finder, Rehold, held_tree, held_world, low, reholds}

pub find_goes : (version : Version) (t : Tree) (h j : ℕ) (path : List ℕ) (par : Option (ℕ × Name)) → is_directory (node_at t j).kind ≡ false → refusal_with version t h (Find path) (Some j) par ≡ None
unfolding refusal_by
find_goes version t h j path par e = rw e refl

pub find_refused : (version : Version) (t : Tree) (h j : ℕ) (path : List ℕ) (par : Option (ℕ × Name)) → is_directory (node_at t j).kind ≡ true → refusal_with version t h (Find path) (Some j) par ≡ Some IsDirectory
unfolding refusal_by
find_refused version t h j path par e = rw e refl

pub find_missing : (version : Version) (t : Tree) (h : ℕ) (path : List ℕ) (par : Option (ℕ × Name)) → refusal_with version t h (Find path) None par ≡ Some NoEntry
unfolding refusal_by
find_missing version t h path par = refl

pub find_finder : (path : List ℕ) → Finder (Find path)
find_finder path = record { follows = refl; makes = λ t q. refl; inherits = λ g q. absurd cc }

pub find_place : (t : Tree) (h : ℕ) (path : List ℕ) → h < hart_count → t.holds h ≡ None → IsInPlace t h (Find path)
unfolding place_of
find_place t h path lt none = rw (below_is h hart_count lt) (λ z. not (holds_raised true (none z)))

pub find_made : (version : Version) (t : Tree) (h j id : ℕ) (path : List ℕ) (par : Option (ℕ × Name)) → is_directory (node_at t j).kind ≡ false
    → acts version t h (Find path) (Some j) par 0 id ≡ record { all = held_tree t t.nodes h (Some (low j)); walk = None; found = Some j; opened = None; entered = None; left = None; told = Some (record { act = record { step = Find path; answer = Done }; new = 0 }) }
unfolding effect_by answer_by
find_made version t h j id path par e = rw (find_goes version t h j path par e) refl

pub find_step : (version : Version) (t : Tree) (h j id : ℕ) (path : List ℕ) (par : Option (ℕ × Name)) → h < hart_count → t.holds h ≡ None → is_directory (node_at t j).kind ≡ false → StepWith version t h (Find path) (Some j) par Done 0 id (settle (held_tree t t.nodes h (Some (low j))))
unfolding effect_by answer_by
find_step version t h j id path par lt none e = (find_goes version t h j path par e, refl, record { node = λ z. absurd cc; file = λ z. absurd cc }, refl, find_place t h path lt none)

pub find_refused_step : (version : Version) (t : Tree) (h j id : ℕ) (path : List ℕ) (par : Option (ℕ × Name)) → h < hart_count → t.holds h ≡ None → is_directory (node_at t j).kind ≡ true → StepWith version t h (Find path) (Some j) par (Failed IsDirectory) 0 id t
find_refused_step version t h j id path par lt none e = (find_refused version t h j path par e, refl, find_place t h path lt none)

-- If the call finds no room after that, the hart holds nothing.
pub mends_held : (h j : ℕ) (v : World) (O : Own) → own_of h v ≡ O → O.desk.lender ≡ None → O.desk.joined ≡ true → h < hart_count → Inv v → O.desk.opening ≡ None → O.desk.left ≡ None → O.row.hold ≡ Some (low j) → ((i : ℕ) → own_names (record (O.row) { hold = None }) O.desk i ≡ true → 0 < O.mine.refs i)
    → Mending h v (mended h v) (record O { row = record (O.row) { hold = None }; desk = record (O.desk) { opening = None; left = None; full = true }; mine = record { refs = O.mine.refs; walk = None; pending = None } })
mends_held h j v O ov free joined lt inv opening left holds names = subst (λ (z : World). Mending h v z M) (sym is) (record { fair = fair_then r.fair m.fair; bad = m.bad; owned = m.owned })
  where
    M : Own
    M = record O { row = record (O.row) { hold = None }; desk = record (O.desk) { opening = None; left = None; full = true }; mine = record { refs = O.mine.refs; walk = None; pending = None } }

    O1 : Own
    O1 = record O { row = record (O.row) { hold = None } }

    u : World
    u = held_world v.all.nodes h None v

    held_v : v.all.holds h ≡ Some (low j)
    held_v = ap (λ (o : Own). o.row.hold) ov ∙ holds

    r : Rehold h None v O
    r = reholds h None v O ov free joined lt inv (λ i q. absurd cc) (well_hold v.all h None inv.well lt (λ n. refl) (λ n. ap (λ (z : Option Hold). raised_at z n) held_v ∙ not_raised (low j) n refl) (λ q e. absurd cc))

    m : MendingOf h u O1 (mended h u)
    m = mends h u O1 r.owned free lt r.fair.inv opening left tt names

    is : mended h v ≡ mended h u
    is = λ z. record (mended h v) { all = tree z }
      where
        opening_v : (v.desks h).opening ≡ None
        opening_v = ap (λ (o : Own). o.desk.opening) ov ∙ opening

        left_v : (v.desks h).left ≡ None
        left_v = ap (λ (o : Own). o.desk.left) ov ∙ left

        tree : unheld (unmoved (unopened v.all h (v.desks h).opening) h (v.desks h).left) h (v.all.holds h) ≡ unheld (unmoved (unopened u.all h (v.desks h).opening) h (v.desks h).left) h (u.all.holds h)
        tree = (λ z. unheld (unmoved (unopened v.all h (opening_v z)) h (left_v z)) h (held_v z))
            ∙ sym (λ z. unheld (unmoved (unopened u.all h (opening_v z)) h (left_v z)) h (put_same v.all.holds h None z))
