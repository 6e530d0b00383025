-- What well-formedness says of a name that is found.
use Rattle.image_versions.specs.declared.version.Version.{Version}
use Rattle.tree_laws.proofs.Vocabulary.{◌≡◌, ◌≢◌, ℕ, ◌+◌, ◌<◌, ◌≤◌, true, false, inl, inr, refl, sym, ◌∙◌, ap, subst, arith, List, [], ◌∷◌, drop, Option, Some, None, Node, hart_count, root, Name, Tree, same_name, dot, dotdot, live_directory, is_live, all_slots, is_absolute, first_slot, look, follow, parent_from, parent_of, resolve, parent, start_of, elements, node_or, Slots, Folders, folder, folders_of, links_in, up_in, past, count_in, mentions, raises, IsForest, IsWellFormed}
use Rattle.tree_laws.proofs.Basics.{either, same_or, first_dots, first_dot, first_dotdot, first_counts, mentions_part, mentions_two, plain_or, folder_live, linked_live, live_some, look_in, look_good, first_found, follow_end, parent_here, parent_bad, parent_step, parent_stop}

pub look_folder : (ns : ℕ → Option Node) (d : ℕ) (e : Name) (r : Option ℕ) → live_directory (ns d) ≡ true → look ns d e ≡ r → (folder (ns d) ≡ Some (all_slots (ns d))) × (first_slot (all_slots (ns d)) e ≡ r)
look_folder ns d e r good h = (folder_live (ns d) good, sym (look_in ns d e good) ∙ h)

-- a name other than "." and ".." is an entry
pub entry_found : (F : Folders) (C R : ℕ → ℕ) (N : ℕ) (D : ℕ → ℕ) (d n : ℕ) (ss : Slots) (e : Name) → IsForest F C R N D → F d ≡ Some ss → same_name e dot ≡ false → same_name e dotdot ≡ false → first_slot ss e ≡ Some n
    → 1 ≤ count_in (past (F d)) n
entry_found F C R N D d n ss e f is a b found =
    let k = f.directory d ss is in
    let later : first_slot (drop 2 ss) e ≡ Some n = sym (first_dots d (up_in ss) (drop 2 ss) e a b) ∙ (ap (λ (z : Slots). first_slot z e) (sym k.dots) ∙ found) in
    let c = first_counts (drop 2 ss) e n later in
    let p : count_in (past (F d)) n ≡ count_in (drop 2 ss) n = ap (λ (o : Option Slots). count_in (past o) n) is in
    omega (arith, c.1, p)

-- the one place of a directory
pub entry_up : (F : Folders) (C R : ℕ → ℕ) (N : ℕ) (D : ℕ → ℕ) (d n : ℕ) (ss ns : Slots) → IsForest F C R N D → F d ≡ Some ss → F n ≡ Some ns → 1 ≤ count_in (past (F d)) n → (n ≢ root) × (up_in ns ≡ d)
entry_up F C R N D d n ss ns f is nis some =
    let k = f.directory d ss is in
    let j = f.directory n ns nis in
    let part : count_in (past (F d)) n ≤ mentions F N n = mentions_part F N d n k.within in
    let n1 : n ≢ root = (λ q. absurd (let z = (j.rooted q).1 in let z' : mentions F N n ≡ 0 = subst (λ (x : ℕ). mentions F N x ≡ 0) (sym q) z in omega (arith, z', part, some))) in (
      n1,
      elim (same_or (up_in ns) d) [
        | inl e ↦ e
        | inr ne ↦ absurd (
            let p = j.place n1 in
            let u = lives F C R N D (up_in ns) f j.above in
            let two : count_in (past (F (up_in ns))) n + count_in (past (F d)) n ≤ mentions F N n = mentions_two F N (up_in ns) d n u k.within ne in
            let a = p.0 in
            let b = p.1 in
            omega (arith, two, a, b, some))
      ],
    )
  where
    lives : (F : Folders) (C R : ℕ → ℕ) (N : ℕ) (D : ℕ → ℕ) (x : ℕ) → IsForest F C R N D → F x ≢ None → x < N
    lives F C R N D x f nn = elim (plain_or (F x)) [ inl e ↦ absurd (nn e) | inr e ↦ (f.directory x e.0 e.1).within ]

-- no directory has an entry for itself
pub entry_apart : (F : Folders) (C R : ℕ → ℕ) (N : ℕ) (D : ℕ → ℕ) (d n : ℕ) (ss : Slots) → IsForest F C R N D → F d ≡ Some ss → 1 ≤ count_in (past (F d)) n → d ≢ n
entry_apart F C R N D d n ss f is some = λ q.
    let two = entry_up F C R N D d d ss ss f is is (subst (λ (z : ℕ). 1 ≤ count_in (past (F d)) z) (sym q) some) in
    let k = f.directory d ss is in
    let p : D (up_in ss) < D d = (k.place two.0).2 in
    let e : D (up_in ss) ≡ D d = ap D two.1 in
    absurd (omega (arith, p, e))

-- an entry is live
pub entry_linked : (F : Folders) (C R : ℕ → ℕ) (N : ℕ) (D : ℕ → ℕ) (d n : ℕ) (ss : Slots) → IsForest F C R N D → F d ≡ Some ss → 1 ≤ count_in (past (F d)) n → 1 ≤ C n
entry_linked F C R N D d n ss f is some =
    let k = f.directory d ss is in
    let part : count_in (past (F d)) n ≤ mentions F N n = mentions_part F N d n k.within in
    elim (plain_or (F n)) [
      | inl e ↦ let o = f.other n e in omega (arith, o, part, some)
      | inr e ↦ let o = (f.directory n e.0 e.1).counted in omega (arith, o)
    ]

pub folder_linked : (F : Folders) (C R : ℕ → ℕ) (N : ℕ) (D : ℕ → ℕ) (d : ℕ) → IsForest F C R N D → F d ≢ None → 1 ≤ C d
folder_linked F C R N D d f nn = elim (plain_or (F d)) [
  | inl e ↦ absurd (nn e)
  | inr e ↦ let o = (f.directory d e.0 e.1).counted in omega (arith, o)
]

-- whatever a lookup finds is live
pub found_linked : (F : Folders) (C R : ℕ → ℕ) (N : ℕ) (D : ℕ → ℕ) (d n : ℕ) (ss : Slots) (e : Name) → IsForest F C R N D → F d ≡ Some ss → first_slot ss e ≡ Some n → 1 ≤ C n
found_linked F C R N D d n ss e f is found =
    let k = f.directory d ss is in
    elim (either (same_name e dot)) [
      | inl a ↦
          let q : Some n ≡ Some d = sym found ∙ (ap (λ (z : Slots). first_slot z e) k.dots ∙ first_dot d (up_in ss) (drop 2 ss) e a) in
          let same : d ≡ n = cc in
          subst (λ (z : ℕ). 1 ≤ C z) same (folder_linked F C R N D d f (λ z. absurd (cc (z, is))))
      | inr a ↦ elim (either (same_name e dotdot)) [
        | inl b ↦
            let q : Some n ≡ Some (up_in ss) = sym found ∙ (ap (λ (z : Slots). first_slot z e) k.dots ∙ first_dotdot d (up_in ss) (drop 2 ss) e b) in
            let same : up_in ss ≡ n = cc in
            subst (λ (z : ℕ). 1 ≤ C z) same (folder_linked F C R N D (up_in ss) f k.above)
        | inr b ↦ entry_linked F C R N D d n ss f is (entry_found F C R N D d n ss e f is a b found)
      ]
    ]

pub look_live : (t : Tree) (d n : ℕ) (e : Name) → IsWellFormed t → look t.nodes d e ≡ Some n → is_live (t.nodes n) ≡ true
look_live t d n e k h =
    let good = look_good t.nodes d e n h in
    let two = look_folder t.nodes d e (Some n) good h in
    linked_live (t.nodes n) (found_linked (folders_of t.nodes) (links_in t.nodes) (raises t.holds) t.ninodes k.depth d n (all_slots (t.nodes d)) e k.forest two.0 two.1)

-- the node is in the map
abbrev pub InMap : (ℕ → Option Node) → ℕ → Type 0
InMap ns n = ns n ≡ Some (node_or (ns n))

pub in_map : (ns : ℕ → Option Node) (n : ℕ) (v : Node) → ns n ≡ Some v → InMap ns n
in_map ns n v h = subst (λ (o : Option Node). o ≡ Some (node_or o)) (sym h) refl

follow_map : (t : Tree) (s n : ℕ) (w : List Name) → IsWellFormed t → InMap t.nodes s → follow t.nodes s w ≡ Some n → InMap t.nodes n
follow_map t s n [] k start h = let q : Some n ≡ Some s = sym h ∙ follow_end t.nodes s in let same : s ≡ n = cc in subst (λ (z : ℕ). InMap t.nodes z) same start
follow_map t s n (a ∷ w) k start h =
    let f = first_found t.nodes s n a w h in
    follow_map t f.0 n w k (live_some (t.nodes f.0) (look_live t s f.0 a k f.1)) f.2

root_map : (t : Tree) → IsWellFormed t → InMap t.nodes root
root_map t k = live_some (t.nodes root) (linked_live (t.nodes root) (folder_linked (folders_of t.nodes) (links_in t.nodes) (raises t.holds) t.ninodes k.depth root k.forest k.forest.rooted))

pub start_map : (t : Tree) (h : ℕ) (path : List ℕ) → h < hart_count → IsWellFormed t → InMap t.nodes (start_of t h path)
start_map t h path lt k = elim (either (is_absolute path)) [
  | inl y ↦ rw y (root_map t k)
  | inr y ↦ rw y (let th = k.directories h lt in in_map t.nodes (t.cwd h) th.node th.is)
]

pub resolve_map : (version : Version) (t : Tree) (h n : ℕ) (path : List ℕ) → h < hart_count → IsWellFormed t → resolve version t h path ≡ Some n → InMap t.nodes n
resolve_map version t h n path lt k r = follow_map t (start_of t h path) n (elements version path) k (start_map t h path lt k) r

parent_from_live : (ns : ℕ → Option Node) (s : ℕ) (e : Name) (w : List Name) (q : ℕ × Name) → parent_from ns s e w ≡ Some q → live_directory (ns q.0) ≡ true
parent_from_live ns s e [] q h = elim (either (live_directory (ns s))) [
  | inl y ↦
      let z : Some q ≡ Some (s, e) = sym h ∙ parent_here ns s e y in
      let same : (s, e) ≡ q = cc in
      subst (λ (p : ℕ × Name). live_directory (ns p.0) ≡ true) same y
  | inr y ↦ absurd (let z : None ≡ Some q = sym (parent_bad ns s e [] y) ∙ h in cc)
]
parent_from_live ns s e (a ∷ w) q h = go (look ns s e) refl (λ y p. parent_from_live ns y a w q p)
  where
    go : (r : Option ℕ) → look ns s e ≡ r → ((y : ℕ) → parent_from ns y a w ≡ Some q → live_directory (ns q.0) ≡ true) → live_directory (ns q.0) ≡ true
    go None is ih = absurd (let z : None ≡ Some q = sym (parent_stop ns s e a w is) ∙ h in cc)
    go (Some y) is ih = ih y (sym (parent_step ns s y e a w is) ∙ h)

parent_of_live : (ns : ℕ → Option Node) (s : ℕ) (w : List Name) (q : ℕ × Name) → parent_of ns s w ≡ Some q → live_directory (ns q.0) ≡ true
unfolding parent_of
parent_of_live ns s [] q h = absurd cc
parent_of_live ns s (e ∷ w) q h = parent_from_live ns s e w q h

-- a path's parent is a live directory
pub parent_live : (version : Version) (t : Tree) (h : ℕ) (path : List ℕ) (q : ℕ × Name) → parent version t h path ≡ Some q → live_directory (t.nodes q.0) ≡ true
parent_live version t h path q is = parent_of_live t.nodes (start_of t h path) (elements version path) q is
