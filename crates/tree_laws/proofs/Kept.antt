-- Every tree step keeps a tree well formed.
use Rattle.image_versions.specs.declared.version.Version.{Version}
use Rattle.tree_laws.proofs.Vocabulary.{◌≡◌, ◌≢◌, ℕ, ◌<◌, Bool, true, false, ◌&&◌, ◌||◌, not, ◌==◌, inl, inr, refl, sym, ◌∙◌, ap, subst, arith, List, [], ◌∷◌, length, Option, Some, None, nat_lt, if◌then◌else◌, nat_tests, Cause, DotName, Node, NodeKind, Directory, File, Device, OpenFile, Hold, Action, Open, Truncate, Read, WritePart, Find, Bump, Enter, Unbump, Unlink, Mkdir, Chdir, Dup, Close, Fstat, Inherit, StepAnswer, Opened, Bytes, Status, NewFd, Done, Failed, NoRoom, hart_count, Name, Tree, put, same_name, dot, dotdot, is_directory, live_directory, all_slots, first_slot, look, resolve, parent, settle, node_or, node_at, file_at, is_file, is_open_file, holds_raised, has_room, creates, find_refusal, enter_refusal, name_taken, or_else, child_refusal, unlink_refusal, mkdir_refusal, chdir_refusal, fd_refusal, refusal_with, refusal_by, place_of, IsInPlace, effect_with, effect_by, refused, new_file, raised, lowered, emptied, truncated, written_kind, written, wrote, held, at_hold, raise_hold, enter_hold, drop_hold, removed, removed_child, made, opened_at, opened_in, opened_new, at_dir, is_absent, is_nothing, IsNewNode, MayChoose, StepWith, folder, links_of, links_in, raised_at, one_if, IsThere, IsWellFormed, IsFound}
use Rattle.tree_laws.proofs.Basics.{either, eq_self, eq_not, put_same, and_true, or_none, one_yes, one_no, live_some, settled_well, look_in, well_content, well_same, well_counted, well_entered, well_file, not_folder, not_raised, is_raised, raises_part, with_new}
use Rattle.tree_laws.proofs.Facts.{InMap, in_map, look_live, resolve_map, parent_live}
use Rattle.tree_laws.proofs.Placed.{well_directory, well_removed}
use Rattle.tree_laws.proofs.Opened.{file_is, well_opened, well_moved, well_dup, well_closed, well_inherit, well_chdir, well_hold}

-- what a test leaves
pub if_none : {A : Type 0} → (b : Bool) (k : A) → (if b then Some k else None) ≡ None → b ≡ false
if_none true k h = absurd cc
if_none false k h = refl

pub if_some : {A : Type 0} → (b : Bool) (k : A) → (if b then None else Some k) ≡ None → b ≡ true
if_some true k h = refl
if_some false k h = absurd cc

pub none_taken : (r : Option ℕ) → name_taken r ≡ None → r ≡ None
none_taken None h = refl
none_taken (Some n) h = absurd cc

pub or_first : (a b : Option Cause) → or_else a b ≡ None → a ≡ None
or_first None b h = refl
or_first (Some k) b h = absurd cc

pub not_false : (b : Bool) → not b ≡ true → b ≡ false
not_false true h = absurd cc
not_false false h = refl

pub there_map : (ns : ℕ → Option Node) (n : ℕ) (b : Bool) → IsThere ns n b → InMap ns n × (is_directory (node_or (ns n)).kind ≡ b)
there_map ns n b th = (in_map ns n th.node th.is, ap (λ (o : Option Node). is_directory (node_or o).kind) th.is ∙ th.inode_type)

map_there : (ns : ℕ → Option Node) (n : ℕ) (b : Bool) → InMap ns n → is_directory (node_or (ns n)).kind ≡ b → IsThere ns n b
map_there ns n b is inode_type = record { node = node_or (ns n); is = is; inode_type = inode_type }

-- the node of a descriptor's open file is in the map
pub open_node : (t : Tree) (h fd : ℕ) (f : OpenFile) → IsWellFormed t → h < hart_count → file_at t h fd ≡ Some f → InMap t.nodes f.number
open_node t h fd f k lt is =
    let two = file_is t h fd f is in
    let o = k.descriptors h fd two.1.0 lt two.0 two.1.1 in
    let e : Some o.file ≡ Some f = sym o.is ∙ two.1.2 in
    let same : o.file ≡ f = cc in
    subst (λ (z : OpenFile). InMap t.nodes z.number) same (in_map t.nodes o.file.number o.node o.there)

pub file_type : (x : NodeKind) → is_file x ≡ true → is_directory x ≡ false
file_type (Directory slots) h = absurd cc
file_type (File bytes) h = refl
file_type (Device a b c) h = absurd cc

pub emptied_type : (x : NodeKind) → is_directory x ≡ false → is_directory (emptied x) ≡ false
emptied_type (Directory slots) h = h
emptied_type (File bytes) h = refl
emptied_type (Device a b c) h = refl

pub type_written : (x : NodeKind) (o : ℕ) (b : List ℕ) → is_directory x ≡ false → is_directory (written_kind x o b) ≡ false
type_written (Directory slots) o b h = h
type_written (File bytes) o b h = refl
type_written (Device x y z) o b h = refl

pub written_dir : (x : NodeKind) (o : ℕ) (b : List ℕ) → is_directory x ≡ true → written_kind x o b ≡ x
written_dir (Directory slots) o b h = refl
written_dir (File bytes) o b h = absurd cc
written_dir (Device x y z) o b h = refl

truncated_well : (t : Tree) (h fd : ℕ) (o : Option OpenFile) → IsWellFormed t → h < hart_count → file_at t h fd ≡ o → is_open_file t o ≡ true → IsWellFormed (truncated t o)
truncated_well t h fd None k lt is place = absurd cc
truncated_well t h fd (Some f) k lt is place =
    let v : Node = node_at t f.number in
    let inode_type = file_type v.kind place in
    well_content t f.number v (record v { kind = emptied v.kind }) k (open_node t h fd f k lt is) refl inode_type (emptied_type v.kind inode_type)

written_well : (t : Tree) (h fd : ℕ) (b : List ℕ) (o : Option OpenFile) → IsWellFormed t → h < hart_count → file_at t h fd ≡ o → IsWellFormed (written t o b)
written_well t h fd b None k lt is = k
written_well t h fd b (Some f) k lt is =
    let v : Node = node_at t f.number in
    let there = open_node t h fd f k lt is in
    elim (either (is_directory v.kind)) [
      | inl y ↦
          let same : record v { kind = written_kind v.kind f.offset b } ≡ v = ap (λ (x : NodeKind). record { count = v.count; kind = x }) (written_dir v.kind f.offset b y) in
          subst (λ (w : Node). IsWellFormed (record t { nodes = put t.nodes f.number (Some w) })) (sym same) (well_same t f.number v k there)
      | inr y ↦ well_content t f.number v (record v { kind = written_kind v.kind f.offset b }) k there refl y (type_written v.kind f.offset b y)
    ]

wrote_well : (t : Tree) (h fd : ℕ) (b : List ℕ) → IsWellFormed t → h < hart_count → IsWellFormed (wrote t h fd b)
wrote_well t h fd [] k lt = k
wrote_well t h fd (b ∷ bs) k lt = well_moved (written t (file_at t h fd) (b ∷ bs)) (t.fds h fd) (length (b ∷ bs)) (written_well t h fd (b ∷ bs) (file_at t h fd) k lt refl)

no_hold : (t : Tree) (h : ℕ) (o : Option Hold) → t.holds h ≡ o → not (holds_raised true o) ≡ true → (n : ℕ) → raised_at (t.holds h) n ≡ 0
no_hold t h None is free n = ap (λ (z : Option Hold). raised_at z n) is
no_hold t h (Some o) is free n = ap (λ (z : Option Hold). raised_at z n) is ∙ not_raised o n (not_false o.raised free)

held_well : (t : Tree) (h : ℕ) (res : Option ℕ) → IsWellFormed t → h < hart_count → ((n : ℕ) → res ≡ Some n → InMap t.nodes n) → find_refusal t res ≡ None → not (holds_raised true (t.holds h)) ≡ true → IsWellFormed (held t h res)
held_well t h None k lt map ref free = k
held_well t h (Some n) k lt map ref free =
    let inode_type : is_directory (node_at t n).kind ≡ false = if_none _ _ ref in
    let th : IsThere t.nodes n false = map_there t.nodes n false (map n refl) inode_type in
    well_hold t h (Some (record { number = n; raised = false })) k lt (λ j. not_raised (record { number = n; raised = false }) j refl) (no_hold t h (t.holds h) refl free)
    (λ q e. let same : record { number = n; raised = false } ≡ q = cc in subst (λ (z : Hold). IsThere t.nodes z.number false) same th)

bumped_well : (t : Tree) (h : ℕ) (o : Option Hold) → IsWellFormed t → h < hart_count → t.holds h ≡ o → holds_raised false o ≡ true → IsWellFormed (record (at_hold t o raised) { holds = put t.holds h (raise_hold o) })
bumped_well t h None k lt is place = absurd cc
bumped_well t h (Some o) k lt is place =
    let n : ℕ = o.number in
    let two = there_map t.nodes n false (k.holds h o lt is) in
    let v : Node = node_at t n in
    let low : o.raised ≡ false = not_false o.raised place in
    let up : Hold = record { number = o.number; raised = true } in
    let old : (j : ℕ) → raised_at (t.holds h) j ≡ 0 = (λ j. ap (λ (z : Option Hold). raised_at z j) is ∙ not_raised o j low) in
    well_counted t h n v (raised v) (Some up) k lt two.0 refl two.1
    (λ j ne. is_raised up j refl ∙ (one_no (n == j) (eq_not n j (λ q. ne (sym q))) ∙ sym (old j)))
    (let a = old n in let b : raised_at (Some up) n ≡ 1 = is_raised up n refl ∙ one_yes (n == n) (eq_self n) in omega (arith, a, b))
    (λ q e. let same : up ≡ q = cc in subst (λ (z : Hold). IsThere t.nodes z.number false) same (map_there t.nodes n false two.0 two.1))

unbumped_well : (t : Tree) (h : ℕ) (o : Option Hold) → IsWellFormed t → h < hart_count → t.holds h ≡ o → holds_raised true o ≡ true → IsWellFormed (drop_hold (at_hold t o lowered) h)
unbumped_well t h None k lt is place = absurd cc
unbumped_well t h (Some o) k lt is place =
    let n : ℕ = o.number in
    let two = there_map t.nodes n false (k.holds h o lt is) in
    let v : Node = node_at t n in
    let old : (j : ℕ) → raised_at (t.holds h) j ≡ one_if (n == j) = (λ j. ap (λ (z : Option Hold). raised_at z j) is ∙ is_raised o j place) in
    let one : raised_at (t.holds h) n ≡ 1 = old n ∙ one_yes (n == n) (eq_self n) in
    let plain : folder (t.nodes n) ≡ None = ap (λ (z : Option Node). folder z) two.0 ∙ not_folder v two.1 in
    let links : links_in t.nodes n ≡ v.count = ap (λ (z : Option Node). links_of z) two.0 in
    let sum = k.forest.other n plain in
    let part = raises_part t.holds h n lt in
    well_counted t h n v (lowered v) None k lt two.0 refl two.1
    (λ j ne. sym (old j ∙ one_no (n == j) (eq_not n j (λ q. ne (sym q)))))
    (omega (arith, one, links, sum, part))
    (λ q e. absurd cc)

pub absent_slot : (t : Tree) (d : ℕ) (e : Name) → live_directory (t.nodes d) ≡ true → look t.nodes d e ≡ None → first_slot (all_slots (t.nodes d)) e ≡ None
absent_slot t d e good none = sym (look_in t.nodes d e good) ∙ none

abbrev pub LiveParent : Tree → Option (ℕ × Name) → Type 0
LiveParent t par = (q : ℕ × Name) → par ≡ Some q → live_directory (t.nodes q.0) ≡ true

entered_well : (t : Tree) (h : ℕ) (par : Option (ℕ × Name)) (o : Option Hold) → IsWellFormed t → h < hart_count → LiveParent t par → enter_refusal t par ≡ None → t.holds h ≡ o → holds_raised true o ≡ true → IsWellFormed (drop_hold (enter_hold t par o) h)
entered_well t h None o k lt live ref is place = absurd cc
entered_well t h (Some q) None k lt live ref is place = absurd cc
entered_well t h (Some q) (Some o) k lt live ref is place =
    let none = none_taken (look t.nodes q.0 q.1) ref in
    let good = live q refl in
    well_entered t h q.0 q.1 o k lt good none (absent_slot t q.0 q.1 good none) is place

pub dotted : {A : Type 0} (k : A) (b : Bool) (r : Option A) → b ≡ true → (if b then Some k else r) ≡ None → ⊥
dotted k true r y h = absurd cc
dotted k false r y h = absurd cc

pub plain : {A : Type 0} (k : A) (b : Bool) (r : Option A) → b ≡ false → (if b then Some k else r) ≡ None → r ≡ None
plain k true r y h = absurd cc
plain k false r y h = h

removed_well : (t : Tree) (par : Option (ℕ × Name)) → IsWellFormed t → LiveParent t par → unlink_refusal t par ≡ None → IsWellFormed (removed t par)
removed_well t None k live ref = absurd cc
removed_well t (Some q) k live ref = elim (either (same_name q.1 dot || same_name q.1 dotdot)) [
  | inl y ↦ absurd (dotted DotName (same_name q.1 dot || same_name q.1 dotdot) (child_refusal t (look t.nodes q.0 q.1)) y ref)
  | inr y ↦
      let two = or_none (same_name q.1 dot) (same_name q.1 dotdot) y in
      go two.0 two.1 (look t.nodes q.0 q.1) refl (plain DotName (same_name q.1 dot || same_name q.1 dotdot) (child_refusal t (look t.nodes q.0 q.1)) y ref)
]
  where
    go : same_name q.1 dot ≡ false → same_name q.1 dotdot ≡ false → (r : Option ℕ) → look t.nodes q.0 q.1 ≡ r → child_refusal t r ≡ None → IsWellFormed (removed_child t q.0 q.1 r)
    go a b None is h = absurd cc
    go a b (Some n) is h = let good = live q refl in well_removed t q.0 n q.1 k good a b is (sym (look_in t.nodes q.0 q.1 good) ∙ is) h

made_well : (t : Tree) (par : Option (ℕ × Name)) (n : ℕ) → IsWellFormed t → LiveParent t par → mkdir_refusal t par ≡ None → IsNewNode t n → IsWellFormed (made t par n)
made_well t None n k live ref new = absurd cc
made_well t (Some q) n k live ref new =
    let good = live q refl in
    let none = none_taken (look t.nodes q.0 q.1) (or_first _ _ ref) in
    well_directory t q.0 n q.1 k good (absent_slot t q.0 q.1 good none) new.unused new.from new.below

opened_well : (t : Tree) (h id flags n : ℕ) (res : Option ℕ) → IsWellFormed t → ((j : ℕ) → res ≡ Some j → InMap t.nodes j) → (has_room (t.fds h) ≡ true → t.files id ≡ None) → IsWellFormed (opened_at t h id flags res n)
opened_well t h id flags n None k map unused = k
opened_well t h id flags n (Some j) k map unused = well_opened t h id j flags (node_at t j) k (map j refl) unused

opened_in_well : (t : Tree) (h id flags n d : ℕ) (e : Name) (r : Option ℕ) → IsWellFormed t → live_directory (t.nodes d) ≡ true → look t.nodes d e ≡ r → (r ≡ None → IsNewNode t n) → (has_room (t.fds h) ≡ true → t.files id ≡ None) → IsWellFormed (opened_in t h id flags d e r n)
opened_in_well t h id flags n d e (Some j) k good is new unused = well_opened t h id j flags (node_at t j) k (live_some (t.nodes j) (look_live t d j e k is)) unused
opened_in_well t h id flags n d e None k good is new unused =
    let w = new refl in
    let t2 : Tree = record t { nodes = with_new t.nodes d e n new_file } in
    well_opened t2 h id n flags new_file (well_file t d n e k good (absent_slot t d e good is) w.unused w.from w.below) (put_same _ n (Some new_file)) unused

opened_new_well : (t : Tree) (h id flags n : ℕ) (par : Option (ℕ × Name)) → IsWellFormed t → LiveParent t par → (is_absent t par ≡ true → IsNewNode t n) → (has_room (t.fds h) ≡ true → t.files id ≡ None) → IsWellFormed (opened_new t h id flags par n)
opened_new_well t h id flags n None k live new unused = k
opened_new_well t h id flags n (Some q) k live new unused = opened_in_well t h id flags n q.0 q.1 (look t.nodes q.0 q.1) k (live q refl) refl (λ e. new (ap (λ (r : Option ℕ). is_nothing r) e)) unused

changed_well : (t : Tree) (h : ℕ) (res : Option ℕ) → IsWellFormed t → chdir_refusal t res ≡ None → IsWellFormed (at_dir t h res)
changed_well t h None k ref = k
changed_well t h (Some n) k ref = well_chdir t h n k (if_some _ _ ref)

dup_well : (version : Version) (t : Tree) (h fd : ℕ) (o : Option OpenFile) → IsWellFormed t → h < hart_count → file_at t h fd ≡ o → fd_refusal o ≡ None → IsWellFormed (effect_with version t h (Dup fd) None None 0 0)
unfolding effect_by
dup_well version t h fd None k lt is ref = absurd cc
dup_well version t h fd (Some f) k lt is ref = well_dup t h fd f k lt is

-- A step that isn't refused. map, live: what the path's results are.
pub effect_well : (version : Version) (t : Tree) (h : ℕ) (s : Action) (res : Option ℕ) (par : Option (ℕ × Name)) (new id : ℕ) → IsWellFormed t → h < hart_count → place_of t h s ≡ true → ((n : ℕ) → res ≡ Some n → InMap t.nodes n) → LiveParent t par
    → refusal_with version t h s res par ≡ None → MayChoose t h s par new id → IsWellFormed (effect_with version t h s res par new id)
unfolding effect_by refusal_by place_of
effect_well version t h (Open path flags) res par new id k lt place map live ref may = elim (either (creates flags)) [
  | inl y ↦ rw y (opened_new_well t h id flags new par k live (λ e. may.node (both (creates flags) (is_absent t par) y e)) (λ o. (may.file o).unused))
  | inr y ↦ rw y (opened_well t h id flags new res k map (λ o. (may.file o).unused))
]
  where
    both : (a b : Bool) → a ≡ true → b ≡ true → (a && b) ≡ true
    both a b p q = grind arith
effect_well version t h (Truncate fd) res par new id k lt place map live ref may = truncated_well t h fd (file_at t h fd) k lt refl place
effect_well version t h (Read fd n) res par new id k lt place map live ref may = well_moved t (t.fds h fd) _ k
effect_well version t h (WritePart fd b) res par new id k lt place map live ref may = wrote_well t h fd b k lt
effect_well version t h (Find old) res par new id k lt place map live ref may = held_well t h res k lt map ref place
effect_well version t h Bump res par new id k lt place map live ref may = bumped_well t h (t.holds h) k lt refl place
effect_well version t h (Enter name) res par new id k lt place map live ref may = entered_well t h par (t.holds h) k lt live ref refl place
effect_well version t h Unbump res par new id k lt place map live ref may = unbumped_well t h (t.holds h) k lt refl place
effect_well version t h (Unlink path) res par new id k lt place map live ref may = removed_well t par k live ref
effect_well version t h (Mkdir path) res par new id k lt place map live ref may = made_well t par new k live ref (may.node refl)
effect_well version t h (Chdir path) res par new id k lt place map live ref may = changed_well t h res k ref
effect_well version t h (Dup fd) res par new id k lt place map live ref may = dup_well version t h fd (file_at t h fd) k lt refl ref
effect_well version t h (Close fd) res par new id k lt place map live ref may = well_closed t h fd k
effect_well version t h (Fstat fd) res par new id k lt place map live ref may = k
effect_well version t h (Inherit child) res par new id k lt place map live ref may = well_inherit t h child k lt

dropped_well : (t : Tree) (h : ℕ) (o : Option Hold) → IsWellFormed t → h < hart_count → t.holds h ≡ o → holds_raised false o ≡ true → IsWellFormed (drop_hold t h)
dropped_well t h None k lt is place = absurd cc
dropped_well t h (Some o) k lt is place = well_hold t h None k lt (λ n. refl) (λ n. ap (λ (z : Option Hold). raised_at z n) is ∙ not_raised o n (not_false o.raised place)) (λ q e. absurd cc)

refused_well : (t : Tree) (h : ℕ) (s : Action) → IsWellFormed t → h < hart_count → place_of t h s ≡ true → IsWellFormed (refused t h s)
unfolding place_of
refused_well t h Bump k lt place = settled_well (drop_hold t h) (dropped_well t h (t.holds h) k lt refl place)
refused_well t h (Open path flags) k lt place = k
refused_well t h (Truncate fd) k lt place = k
refused_well t h (Read fd n) k lt place = k
refused_well t h (WritePart fd b) k lt place = k
refused_well t h (Find old) k lt place = k
refused_well t h (Enter new) k lt place = k
refused_well t h Unbump k lt place = k
refused_well t h (Unlink path) k lt place = k
refused_well t h (Mkdir path) k lt place = k
refused_well t h (Chdir path) k lt place = k
refused_well t h (Dup fd) k lt place = k
refused_well t h (Close fd) k lt place = k
refused_well t h (Fstat fd) k lt place = k
refused_well t h (Inherit child) k lt place = k

-- a step in its place is of one of the harts
pub in_place : (t : Tree) (h : ℕ) (s : Action) → IsInPlace t h s → (h < hart_count) × (place_of t h s ≡ true)
in_place t h s is = let two = and_true (nat_lt h hart_count) (place_of t h s) is in (less h two.0, two.1)
  where
    less : (a : ℕ) → nat_lt a hart_count ≡ true → a < hart_count
    less a h = grind (arith, nat_tests)

pub found_map : (t : Tree) (res : Option ℕ) (par : Option (ℕ × Name)) → IsFound t res par → (n : ℕ) → res ≡ Some n → InMap t.nodes n
found_map t res par f n e = there (t.nodes n) (f.node n e)
  where
    there : (o : Option Node) → o ≢ None → o ≡ Some (node_or o)
    there None ne = absurd (ne refl)
    there (Some v) ne = refl

-- Every tree step keeps a tree well formed.
pub step_well : (version : Version) (t t' : Tree) (h : ℕ) (s : Action) (res : Option ℕ) (par : Option (ℕ × Name)) (a : StepAnswer) (new id : ℕ) → IsWellFormed t → IsFound t res par → StepWith version t h s res par a new id t' → IsWellFormed t'
step_well version t t' h s res par a new id k found = go a
  where
    done : (u : Tree) → refusal_with version t h s res par ≡ None → MayChoose t h s par new id → u ≡ settle (effect_with version t h s res par new id) → IsInPlace t h s → IsWellFormed u
    done u ref may is place =
        let two = in_place t h s place in
        subst (λ (z : Tree). IsWellFormed z) (sym is)
        (settled_well (effect_with version t h s res par new id) (effect_well version t h s res par new id k two.0 two.1 (found_map t res par found) found.directory ref may))

    go : (a : StepAnswer) → StepWith version t h s res par a new id t' → IsWellFormed t'
    go (Failed c) o = let two = in_place t h s o.2 in subst (λ (z : Tree). IsWellFormed z) (sym o.1) (refused_well t h s k two.0 two.1)
    go (Opened fd j f) o = done t' o.0 o.2 o.3 o.4
    go (Bytes b) o = done t' o.0 o.2 o.3 o.4
    go (Status x) o = done t' o.0 o.2 o.3 o.4
    go (NewFd fd) o = done t' o.0 o.2 o.3 o.4
    go Done o = done t' o.0 o.2 o.3 o.4
    go (NoRoom f) o = done t' o.0 o.2 o.3 o.4

pub step_hart : (version : Version) (t t' : Tree) (h : ℕ) (s : Action) (res : Option ℕ) (par : Option (ℕ × Name)) (a : StepAnswer) (new id : ℕ) → StepWith version t h s res par a new id t' → h < hart_count
step_hart version t t' h s res par (Failed c) new id o = (in_place t h s o.2).0
step_hart version t t' h s res par (Opened fd j f) new id o = (in_place t h s o.4).0
step_hart version t t' h s res par (Bytes b) new id o = (in_place t h s o.4).0
step_hart version t t' h s res par (Status x) new id o = (in_place t h s o.4).0
step_hart version t t' h s res par (NewFd fd) new id o = (in_place t h s o.4).0
step_hart version t t' h s res par Done new id o = (in_place t h s o.4).0
step_hart version t t' h s res par (NoRoom f) new id o = (in_place t h s o.4).0

-- what a whole path leads to
pub path_found : (version : Version) (t : Tree) (h : ℕ) (path : List ℕ) → h < hart_count → IsWellFormed t → IsFound t (resolve version t h path) (parent version t h path)
path_found version t h path lt k = record {
  node = λ n e none. let there : InMap t.nodes n = resolve_map version t h n path lt k e in absurd (cc (there, none));
  directory = λ q e. parent_live version t h path q e;
}
