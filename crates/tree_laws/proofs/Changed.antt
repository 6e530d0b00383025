-- What a tree step does to the live directories: nothing, or one of four changes.
use Rattle.image_versions.specs.declared.version.Version.{Version}
use Rattle.tree_laws.proofs.Vocabulary.{◌≡◌, ◌≢◌, ℕ, ◌-◌, ◌<◌, ◌≤◌, Bool, true, false, ◌&&◌, ◌||◌, inl, inr, refl, sym, ◌∙◌, ap, subst, arith, List, [], ◌∷◌, drop, length, Option, Some, None, nat_lt, if◌then◌else◌, DotName, Node, NodeKind, OpenFile, Hold, Action, Open, Truncate, Read, WritePart, Find, Bump, Enter, Unbump, Unlink, Mkdir, Chdir, Dup, Close, Fstat, Inherit, StepAnswer, Opened, Bytes, Status, NewFd, Done, Failed, NoRoom, hart_count, Name, Tree, put, same_name, dot, dotdot, is_directory, live_directory, all_slots, first_slot, look, settle, node_or, node_at, file_at, is_open_file, has_room, creates, enter_refusal, child_refusal, unlink_refusal, mkdir_refusal, not_empty, any_used, first_free, cleared, refusal_with, refusal_by, place_of, IsInPlace, effect_with, effect_by, refused, new_file, new_directory, raised, lowered, emptied, truncated, written_kind, written, moved, wrote, held, at_hold, enter_hold, drop_hold, removed, removed_child, made, opened_at, opened_in, opened_new, at_dir, with_file, is_absent, is_nothing, makes_node, IsNewNode, MayChoose, StepWith, Slots, Folders, folder, folders_of, links_in, raises, up_in, NamesOnce, IsWellFormed, names_change, IsFound}
use Rattle.tree_laws.proofs.Basics.{either, put_same, put_other, or_none, Dots, plain_or, folder_live, folder_dead, folder_some, folder_links, linked_live, folders_put, put_self, settle_folders, look_in, counted_folders, entered_folders, new_folders, new_apart, not_folder, with_new}
use Rattle.tree_laws.proofs.Facts.{entry_found, entry_linked}
use Rattle.tree_laws.proofs.Placed.{with_directory, without, less, without_folders, less_folder, put_turn, can_go, type_file, type_folder, raised_folder, positive, gone, links_node}
use Rattle.tree_laws.proofs.Kept.{LiveParent, in_place, absent_slot, none_taken, or_first, dotted, plain, there_map, open_node, file_type, emptied_type, type_written, written_dir}

-- par: the path's parent and last element; b: whether the step enters or clears names; m: whether it makes a node;
-- new: the number that it may choose
pub data Change (F F' : Folders) (b m : Bool) (par : Option (ℕ × Name)) (new : ℕ) : Type 0 where
  Same : F' ≡ F → Change F F' b m par new
  Entered : (d n : ℕ) (e : Name) (ss : Slots) → b ≡ true → par ≡ Some (d, e) → F d ≡ Some ss → first_slot ss e ≡ None → F' ≡ put F d (Some (first_free ss (record { name = e; number = n }))) → Change F F' b m par new
  Made : (d : ℕ) (e : Name) (ss : Slots) → b ≡ true → m ≡ true → par ≡ Some (d, e) → F d ≡ Some ss → first_slot ss e ≡ None → F new ≡ None → F' ≡ put (put F d (Some (first_free ss (record { name = e; number = new })))) new (Some (Dots new d [])) → Change F F' b m par new
  Cleared : (d n : ℕ) (e : Name) (ss : Slots) → b ≡ true → par ≡ Some (d, e) → F d ≡ Some ss → NamesOnce ss → first_slot ss e ≡ Some n → F n ≡ None → F' ≡ put F d (Some (cleared ss e)) → Change F F' b m par new
  Removed : (d n : ℕ) (e : Name) (ss ns : Slots) → b ≡ true → par ≡ Some (d, e) → d ≢ n → F d ≡ Some ss → NamesOnce ss → first_slot ss e ≡ Some n → F n ≡ Some ns → ns ≡ Dots n (up_in ns) (drop 2 ns) → any_used (drop 2 ns) ≡ false → F' ≡ put (put F n None) d (Some (cleared ss e)) → Change F F' b m par new

same_nodes : (ns ns' : ℕ → Option Node) (b m : Bool) (par : Option (ℕ × Name)) (new : ℕ) → ns' ≡ ns → Change (folders_of ns) (folders_of ns') b m par new
same_nodes ns ns' b m par new e = Same (ap (λ (f : ℕ → Option Node). folders_of f) e)

content_folders : (ns : ℕ → Option Node) (n : ℕ) (v w : Node) → ns n ≡ Some v → is_directory v.kind ≡ false → is_directory w.kind ≡ false → folders_of (put ns n (Some w)) ≡ folders_of ns
content_folders ns n v w is dv dw = folders_put ns n (Some w) ∙ put_self (folders_of ns) n (folder (Some w)) (ap (λ (o : Option Node). folder o) is ∙ (not_folder v dv ∙ sym (not_folder w dw)))

truncated_folders : (t : Tree) (h fd : ℕ) (o : Option OpenFile) → IsWellFormed t → h < hart_count → file_at t h fd ≡ o → is_open_file t o ≡ true → folders_of (truncated t o).nodes ≡ folders_of t.nodes
truncated_folders t h fd None k lt is place = refl
truncated_folders t h fd (Some f) k lt is place =
    let v : Node = node_at t f.number in
    let inode_type = file_type v.kind place in
    content_folders t.nodes f.number v (record v { kind = emptied v.kind }) (open_node t h fd f k lt is) inode_type (emptied_type v.kind inode_type)

written_folders : (t : Tree) (h fd : ℕ) (b : List ℕ) (o : Option OpenFile) → IsWellFormed t → h < hart_count → file_at t h fd ≡ o → folders_of (written t o b).nodes ≡ folders_of t.nodes
written_folders t h fd b None k lt is = refl
written_folders t h fd b (Some f) k lt is =
    let v : Node = node_at t f.number in
    let there = open_node t h fd f k lt is in
    elim (either (is_directory v.kind)) [
      | inl y ↦
          let same : record v { kind = written_kind v.kind f.offset b } ≡ v = ap (λ (x : NodeKind). record { count = v.count; kind = x }) (written_dir v.kind f.offset b y) in
          ap (λ (g : ℕ → Option Node). folders_of g) (put_self t.nodes f.number (Some (record v { kind = written_kind v.kind f.offset b })) (there ∙ ap (λ (z : Node). Some z) (sym same)))
      | inr y ↦ content_folders t.nodes f.number v (record v { kind = written_kind v.kind f.offset b }) there y (type_written v.kind f.offset b y)
    ]

pub moved_nodes : (t : Tree) (o : Option ℕ) (by : ℕ) → (moved t o by).nodes ≡ t.nodes
moved_nodes t None by = refl
moved_nodes t (Some id) by = refl

wrote_folders : (t : Tree) (h fd : ℕ) (b : List ℕ) → IsWellFormed t → h < hart_count → folders_of (wrote t h fd b).nodes ≡ folders_of t.nodes
wrote_folders t h fd [] k lt = refl
wrote_folders t h fd (b ∷ bs) k lt = ap (λ (g : ℕ → Option Node). folders_of g) (moved_nodes (written t (file_at t h fd) (b ∷ bs)) (t.fds h fd) (length (b ∷ bs))) ∙ written_folders t h fd (b ∷ bs) (file_at t h fd) k lt refl

held_nodes : (t : Tree) (h : ℕ) (r : Option ℕ) → (held t h r).nodes ≡ t.nodes
held_nodes t h None = refl
held_nodes t h (Some n) = refl

dir_nodes : (t : Tree) (h : ℕ) (r : Option ℕ) → (at_dir t h r).nodes ≡ t.nodes
dir_nodes t h None = refl
dir_nodes t h (Some n) = refl

pub file_nodes : (t : Tree) (h id n flags : ℕ) → (with_file t h id n flags).nodes ≡ t.nodes
file_nodes t h id n flags = elim (either (has_room (t.fds h))) [ inl y ↦ rw y refl | inr y ↦ rw y refl ]

opened_nodes : (t : Tree) (h id flags new : ℕ) (r : Option ℕ) → (opened_at t h id flags r new).nodes ≡ t.nodes
opened_nodes t h id flags new None = refl
opened_nodes t h id flags new (Some n) = file_nodes t h id n flags

held_folders : (t : Tree) (h : ℕ) (o : Option Hold) (f : Node → Node) → IsWellFormed t → h < hart_count → t.holds h ≡ o → ((v : Node) → (f v).kind ≡ v.kind) → folders_of (at_hold t o f).nodes ≡ folders_of t.nodes
held_folders t h None f k lt is same = refl
held_folders t h (Some o) f k lt is same =
    let two = there_map t.nodes o.number false (k.holds h o lt is) in
    counted_folders t.nodes o.number (node_at t o.number) (f (node_at t o.number)) two.0 (same (node_at t o.number)) two.1

entered_change : (m : Bool) (t : Tree) (h new : ℕ) (par : Option (ℕ × Name)) (o : Option Hold) → LiveParent t par → enter_refusal t par ≡ None → Change (folders_of t.nodes) (folders_of (drop_hold (enter_hold t par o) h).nodes) true m par new
entered_change m t h new None o live ref = Same refl
entered_change m t h new (Some q) None live ref = Same refl
entered_change m t h new (Some q) (Some o) live ref =
    let good = live q refl in
    Entered q.0 o.number q.1 (all_slots (t.nodes q.0)) refl refl (folder_live (t.nodes q.0) good) (absent_slot t q.0 q.1 good (none_taken (look t.nodes q.0 q.1) ref)) (entered_folders t.nodes q.0 o.number q.1 good)

made_change : (t : Tree) (par : Option (ℕ × Name)) (n : ℕ) → LiveParent t par → mkdir_refusal t par ≡ None → IsNewNode t n → Change (folders_of t.nodes) (folders_of (made t par n).nodes) true true par n
made_change t None n live ref new = Same refl
made_change t (Some q) n live ref new =
    let ns = t.nodes in
    let d : ℕ = q.0 in
    let e : Name = q.1 in
    let good = live q refl in
    let ss = all_slots (ns d) in
    let F = folders_of ns in
    let v : Node = new_directory n d in
    let ns2 = with_new ns d e n v in
    let F1 : Folders = put F d (Some (first_free ss (record { name = e; number = n }))) in
    let nd = new_apart ns d n good new.unused in
    let F2 : folders_of ns2 ≡ put F1 n (Some (Dots n d [])) = new_folders ns d n e v good in
    let two : folder (ns2 d) ≡ Some (first_free ss (record { name = e; number = n })) = ap (λ (G : Folders). G d) F2 ∙ (put_other F1 n (Some (Dots n d [])) d (λ r. nd (sym r)) ∙ put_same F d (Some (first_free ss (record { name = e; number = n })))) in
    let live2 : live_directory (ns2 d) ≡ true = (folder_some (ns2 d) (first_free ss (record { name = e; number = n })) two).0 in
    let F3 : folders_of (with_directory ns d e n) ≡ folders_of ns2 = folders_put ns2 d (Some (raised (node_or (ns2 d)))) ∙ put_self (folders_of ns2) d (folder (Some (raised (node_or (ns2 d))))) (raised_folder (ns2 d) live2) in
    Made d e ss refl refl refl (folder_live (ns d) good) (absent_slot t d e good (none_taken (look t.nodes d e) (or_first _ _ ref))) (ap (λ (z : Option Node). folder z) new.unused) (F3 ∙ F2)

opened_in_change : (m : Bool) (t : Tree) (h id flags n d : ℕ) (e : Name) (r : Option ℕ) → live_directory (t.nodes d) ≡ true → look t.nodes d e ≡ r → (r ≡ None → IsNewNode t n) → Change (folders_of t.nodes) (folders_of (opened_in t h id flags d e r n).nodes) true m (Some (d, e)) n
opened_in_change m t h id flags n d e (Some j) good is new = same_nodes t.nodes _ true m (Some (d, e)) n (file_nodes t h id j flags)
opened_in_change m t h id flags n d e None good is new =
    let ns = t.nodes in
    let F = folders_of ns in
    let ss = all_slots (ns d) in
    let w = new refl in
    let t2 : Tree = record t { nodes = with_new ns d e n new_file } in
    let F1 : Folders = put F d (Some (first_free ss (record { name = e; number = n }))) in
    let out : F1 n ≡ folder (Some new_file) = put_other F d (Some (first_free ss (record { name = e; number = n }))) n (new_apart ns d n good w.unused) ∙ ap (λ (z : Option Node). folder z) w.unused in
    let F2 : folders_of t2.nodes ≡ F1 = new_folders ns d n e new_file good ∙ put_self F1 n (folder (Some new_file)) out in
    Entered d n e ss refl refl (folder_live (ns d) good) (absent_slot t d e good is) (ap (λ (g : ℕ → Option Node). folders_of g) (file_nodes t2 h id n flags) ∙ F2)

opened_new_change : (m : Bool) (t : Tree) (h id flags n : ℕ) (par : Option (ℕ × Name)) → LiveParent t par → (is_absent t par ≡ true → IsNewNode t n) → Change (folders_of t.nodes) (folders_of (opened_new t h id flags par n).nodes) true m par n
opened_new_change m t h id flags n None live new = Same refl
opened_new_change m t h id flags n (Some q) live new = opened_in_change m t h id flags n q.0 q.1 (look t.nodes q.0 q.1) (live q refl) refl (λ e. new (ap (λ (r : Option ℕ). is_nothing r) e))

-- a name is removed
gone_change : (m : Bool) (t : Tree) (d n new : ℕ) (e : Name) → IsWellFormed t → live_directory (t.nodes d) ≡ true → same_name e dot ≡ false → same_name e dotdot ≡ false → look t.nodes d e ≡ Some n → not_empty (node_at t n).kind ≡ None
    → Change (folders_of t.nodes) (folders_of (without t.nodes d e n (is_directory (node_at t n).kind))) true m (Some (d, e)) new
gone_change m t d n new e k good a b found bare =
    let ns = t.nodes in
    let first : first_slot (all_slots (ns d)) e ≡ Some n = sym (look_in ns d e good) ∙ found in
    let g = can_go t d n e k good a b found first bare in
    let dir : Bool = is_directory (node_at t n).kind in
    let F = folders_of ns in
    let C = links_in ns in
    let R = raises t.holds in
    let ss = all_slots (ns d) in
    let is : F d ≡ Some ss = folder_live (ns d) good in
    let some = entry_found F C R t.ninodes k.depth d n ss e k.forest is a b first in
    let at_n : put ns d (Some (less dir e (node_or (ns d)))) n ≡ ns n = put_other ns d (Some (less dir e (node_or (ns d)))) n (λ q. g.apart (sym q)) in
    let low : folder (Some (lowered (node_or (put ns d (Some (less dir e (node_or (ns d)))) n)))) ≡ folder (Some (lowered (node_at t n))) = ap (λ (o : Option Node). folder (Some (lowered (node_or o)))) at_n in
    let cd = folder_links (ns d) good in
    let ld = links_node (ns d) in
    let once = (k.forest.directory d ss is).once in
    let kept : (count : ℕ) → count ≡ (less dir e (node_or (ns d))).count → 1 ≤ count → folder (Some (less dir e (node_or (ns d)))) ≡ Some (cleared ss e) = (λ count same pos. less_folder (ns d) dir e good (subst (λ (z : ℕ). nat_lt 0 z ≡ true) same (positive count pos))) in
    elim (plain_or (F n)) [
      | inl plain ↦
          let file : dir ≡ false = type_file (ns n) (linked_live (ns n) (entry_linked F C R t.ninodes k.depth d n ss k.forest is some)) plain in
          let same : (less dir e (node_or (ns d))).count ≡ (node_or (ns d)).count = ap (λ (z : Bool). if z then (node_or (ns d)).count - 1 else (node_or (ns d)).count) file in
          let f1 : folder (Some (less dir e (node_or (ns d)))) ≡ Some (cleared ss e) = kept (node_or (ns d)).count (sym same) (omega (arith, ld, cd)) in
          let none : folder (Some (lowered (node_at t n))) ≡ None = not_folder (lowered (node_at t n)) file in
          let G : Folders = put F d (Some (cleared ss e)) in
          let out : G n ≡ None = put_other F d (Some (cleared ss e)) n (λ q. g.apart (sym q)) ∙ plain in
          Cleared d n e ss refl refl is once first plain (without_folders ns d n dir e ∙ (ap (λ (o : Option Slots). put (put F d o) n (folder (Some (lowered (node_or (put ns d (Some (less dir e (node_or (ns d)))) n)))))) f1 ∙ (ap (λ (o : Option Slots). put G n o) (low ∙ none) ∙ put_self G n None out)))
      | inr q ↦
          let isdir : dir ≡ true = type_folder (ns n) q.0 q.1 in
          let more = g.spare isdir in
          let same : (less dir e (node_or (ns d))).count ≡ (node_or (ns d)).count - 1 = ap (λ (z : Bool). if z then (node_or (ns d)).count - 1 else (node_or (ns d)).count) isdir in
          let f1 : folder (Some (less dir e (node_or (ns d)))) ≡ Some (cleared ss e) = kept ((node_or (ns d)).count - 1) (sym same) (omega (arith, more)) in
          let last = g.last isdir in
          let none : folder (Some (lowered (node_at t n))) ≡ None = folder_dead (Some (lowered (node_at t n))) (left_false (nat_lt 0 ((node_at t n).count - 1)) (is_directory (node_at t n).kind) (gone ((node_at t n).count - 1) (omega (arith, last)))) in
          let G : Folders = put F d (Some (cleared ss e)) in
          Removed d n e ss q.0 refl refl g.apart is once first q.1 (k.forest.directory n q.0 q.1).dots (g.empty q.0 q.1)
          (without_folders ns d n dir e ∙ (ap (λ (o : Option Slots). put (put F d o) n (folder (Some (lowered (node_or (put ns d (Some (less dir e (node_or (ns d)))) n)))))) f1 ∙ (ap (λ (o : Option Slots). put G n o) (low ∙ none) ∙ put_turn F d n (Some (cleared ss e)) None g.apart)))
    ]
  where
    left_false : (a b : Bool) → a ≡ false → (a && b) ≡ false
    left_false a b h = grind arith

removed_change : (m : Bool) (t : Tree) (new : ℕ) (par : Option (ℕ × Name)) → IsWellFormed t → LiveParent t par → unlink_refusal t par ≡ None → Change (folders_of t.nodes) (folders_of (removed t par).nodes) true m par new
removed_change m t new None k live ref = Same refl
removed_change m t new (Some q) k live ref = elim (either (same_name q.1 dot || same_name q.1 dotdot)) [
  | inl y ↦ absurd (dotted DotName (same_name q.1 dot || same_name q.1 dotdot) (child_refusal t (look t.nodes q.0 q.1)) y ref)
  | inr y ↦
      let two = or_none (same_name q.1 dot) (same_name q.1 dotdot) y in
      go two.0 two.1 (look t.nodes q.0 q.1) refl (plain DotName (same_name q.1 dot || same_name q.1 dotdot) (child_refusal t (look t.nodes q.0 q.1)) y ref)
]
  where
    go : same_name q.1 dot ≡ false → same_name q.1 dotdot ≡ false → (r : Option ℕ) → look t.nodes q.0 q.1 ≡ r → child_refusal t r ≡ None → Change (folders_of t.nodes) (folders_of (removed_child t q.0 q.1 r).nodes) true m (Some q) new
    go a b None is h = absurd cc
    go a b (Some n) is h = gone_change m t q.0 n new q.1 k (live q refl) a b is h

effect_change : (version : Version) (t : Tree) (h : ℕ) (s : Action) (res : Option ℕ) (par : Option (ℕ × Name)) (new id : ℕ) → IsWellFormed t → h < hart_count → place_of t h s ≡ true → LiveParent t par
    → refusal_with version t h s res par ≡ None → MayChoose t h s par new id → Change (folders_of t.nodes) (folders_of (effect_with version t h s res par new id).nodes) (names_change s) (makes_node t s par) par new
unfolding effect_by refusal_by place_of
effect_change version t h (Open path flags) res par new id k lt place live ref may = elim (either (creates flags)) [
  | inl y ↦ rw y (opened_new_change (true && is_absent t par) t h id flags new par live (λ e. may.node (both (creates flags) (is_absent t par) y e)))
  | inr y ↦ rw y (same_nodes t.nodes _ false (false && is_absent t par) par new (opened_nodes t h id flags new res))
]
  where
    both : (a b : Bool) → a ≡ true → b ≡ true → (a && b) ≡ true
    both a b p q = grind arith
effect_change version t h (Truncate fd) res par new id k lt place live ref may = Same (truncated_folders t h fd (file_at t h fd) k lt refl place)
effect_change version t h (Read fd n) res par new id k lt place live ref may = same_nodes t.nodes _ false false par new (moved_nodes t (t.fds h fd) _)
effect_change version t h (WritePart fd b) res par new id k lt place live ref may = Same (wrote_folders t h fd b k lt)
effect_change version t h (Find old) res par new id k lt place live ref may = same_nodes t.nodes _ false false par new (held_nodes t h res)
effect_change version t h Bump res par new id k lt place live ref may = Same (held_folders t h (t.holds h) raised k lt refl (λ v. refl))
effect_change version t h (Enter name) res par new id k lt place live ref may = entered_change false t h new par (t.holds h) live ref
effect_change version t h Unbump res par new id k lt place live ref may = Same (held_folders t h (t.holds h) lowered k lt refl (λ v. refl))
effect_change version t h (Unlink path) res par new id k lt place live ref may = removed_change false t new par k live ref
effect_change version t h (Mkdir path) res par new id k lt place live ref may = made_change t par new live ref (may.node refl)
effect_change version t h (Chdir path) res par new id k lt place live ref may = same_nodes t.nodes _ false false par new (dir_nodes t h res)
effect_change version t h (Dup fd) res par new id k lt place live ref may = Same refl
effect_change version t h (Close fd) res par new id k lt place live ref may = Same refl
effect_change version t h (Fstat fd) res par new id k lt place live ref may = Same refl
effect_change version t h (Inherit child) res par new id k lt place live ref may = Same refl

pub refused_folders : (t : Tree) (h : ℕ) (s : Action) → folders_of (refused t h s).nodes ≡ folders_of t.nodes
refused_folders t h Bump = settle_folders (drop_hold t h)
refused_folders t h (Open path flags) = refl
refused_folders t h (Truncate fd) = refl
refused_folders t h (Read fd n) = refl
refused_folders t h (WritePart fd b) = refl
refused_folders t h (Find old) = refl
refused_folders t h (Enter new) = refl
refused_folders t h Unbump = refl
refused_folders t h (Unlink path) = refl
refused_folders t h (Mkdir path) = refl
refused_folders t h (Chdir path) = refl
refused_folders t h (Dup fd) = refl
refused_folders t h (Close fd) = refl
refused_folders t h (Fstat fd) = refl
refused_folders t h (Inherit child) = refl

-- what a step does to the live directories
pub step_change : (version : Version) (t t' : Tree) (h : ℕ) (s : Action) (res : Option ℕ) (par : Option (ℕ × Name)) (a : StepAnswer) (new id : ℕ) → IsWellFormed t → IsFound t res par → StepWith version t h s res par a new id t' → Change (folders_of t.nodes) (folders_of t'.nodes) (names_change s) (makes_node t s par) par new
step_change version t t' h s res par a new id k found = go a
  where
    done : refusal_with version t h s res par ≡ None → MayChoose t h s par new id → t' ≡ settle (effect_with version t h s res par new id) → IsInPlace t h s
        → Change (folders_of t.nodes) (folders_of t'.nodes) (names_change s) (makes_node t s par) par new
    done ref may is place =
        let two = in_place t h s place in
        let u : Tree = effect_with version t h s res par new id in
        let e : folders_of t'.nodes ≡ folders_of u.nodes = ap (λ (z : Tree). folders_of z.nodes) is ∙ settle_folders u in
        subst (λ (G : Folders). Change (folders_of t.nodes) G (names_change s) (makes_node t s par) par new) (sym e)
        (effect_change version t h s res par new id k two.0 two.1 found.directory ref may)

    go : (a : StepAnswer) → StepWith version t h s res par a new id t' → Change (folders_of t.nodes) (folders_of t'.nodes) (names_change s) (makes_node t s par) par new
    go (Failed c) o = Same (ap (λ (z : Tree). folders_of z.nodes) o.1 ∙ refused_folders t h s)
    go (Opened fd j f) o = done o.0 o.2 o.3 o.4
    go (Bytes b) o = done o.0 o.2 o.3 o.4
    go (Status x) o = done o.0 o.2 o.3 o.4
    go (NewFd fd) o = done o.0 o.2 o.3 o.4
    go Done o = done o.0 o.2 o.3 o.4
    go (NoRoom f) o = done o.0 o.2 o.3 o.4
