-- What each part of a tree may become.
use Rattle.tree_laws.proofs.Vocabulary.{◌≡◌, ◌≢◌, ℕ, ◌+◌, ◌<◌, ◌≤◌, Bool, true, false, ◌&&◌, ◌==◌, ◌⊎◌, inl, inr, refl, sym, ◌∙◌, ap, subst, arith, Option, Some, None, nat_lt, Node, NodeKind, Directory, OpenFile, Hold, hart_count, descriptor_count, Name, Tree, put, is_directory, slots_of, live_directory, all_slots, first_slot, look, node_or, with_nodes, first_free, entered, new_file, Slots, Folders, folder, links_of, folders_of, links_in, one_if, raised_at, raises, IsForest, IsThere, IsWellFormed}
use Rattle.tree_laws.proofs.Maps.{eq_self, eq_not, put_is, put_same, put_other, and_true}
use Rattle.tree_laws.proofs.Sums.{sum_changed, sum_part, one_yes, one_no}
use Rattle.tree_laws.proofs.Forest.{entered_forest, recounted_forest, apart}
use Rattle.tree_laws.proofs.Nodes.{folder_live, folder_dead, some_node, everywhere, folders_put, put_self}

abbrev pub InRange : (ℕ → Option Node) → ℕ → Type 0
InRange ns below = (n : ℕ) (v : Node) → ns n ≡ Some v → (1 ≤ n) × (n < below)

-- a node that is there stays there, and stays a directory or none
abbrev pub Keeps : (ℕ → Option Node) → (ℕ → Option Node) → Type 0
Keeps ns ns' = (n : ℕ) (b : Bool) → IsThere ns n b → IsThere ns' n b

pub range_put : (ns : ℕ → Option Node) (n : ℕ) (w : Node) (N : ℕ) → InRange ns N → 1 ≤ n → n < N → InRange (put ns n (Some w)) N
range_put ns n w N r low high = λ k v is. elim (put_is ns n (Some w) k) [
  | inl p ↦ subst (λ (z : ℕ). (1 ≤ z) × (z < N)) (sym p.0) (low, high)
  | inr p ↦ r k v (sym p.1 ∙ is)
]

pub keeps_put : (ns : ℕ → Option Node) (n : ℕ) (w : Node) → ((v : Node) → ns n ≡ Some v → is_directory w.kind ≡ is_directory v.kind) → Keeps ns (put ns n (Some w))
keeps_put ns n w same = λ k b th. elim (put_is ns n (Some w) k) [
  | inl p ↦ record { node = w; is = p.1; inode_type = same th.node (subst (λ (z : ℕ). ns z ≡ Some th.node) p.0 th.is) ∙ th.inode_type }
  | inr p ↦ record { node = th.node; is = p.1 ∙ th.is; inode_type = th.inode_type }
]

pub keeps_new : (ns : ℕ → Option Node) (n : ℕ) (w : Node) → ns n ≡ None → Keeps ns (put ns n (Some w))
keeps_new ns n w none = keeps_put ns n w (λ v is. absurd (cc (none, is)))

pub keeps_on : (a b c : ℕ → Option Node) → Keeps a b → Keeps b c → Keeps a c
keeps_on a b c p q = λ n s th. q n s (p n s th)

-- nodes and holds change
pub well_held : (t : Tree) (ns : ℕ → Option Node) (hs : ℕ → Option Hold) (D : ℕ → ℕ) → IsWellFormed t → Keeps t.nodes ns → InRange ns t.ninodes → IsForest (folders_of ns) (links_in ns) (raises hs) t.ninodes D
    → ((h : ℕ) (o : Hold) → h < hart_count → hs h ≡ Some o → IsThere t.nodes o.number false) → IsWellFormed (record t { nodes = ns; holds = hs })
well_held t ns hs D k keeps range forest holds = record {
  range = range;
  depth = D;
  forest = forest;
  holds = λ h o lt is. keeps o.number false (holds h o lt is);
  descriptors = λ h i id lh li is.
      let th = k.descriptors h i id lh li is in
      let there = keeps th.file.number (is_directory th.node.kind) (record { node = th.node; is = th.there; inode_type = refl }) in
      record { file = th.file; is = th.is; node = there.node; there = there.is };
  directories = λ h lt. keeps (t.cwd h) true (k.directories h lt);
}

pub well_nodes : (t : Tree) (ns : ℕ → Option Node) (D : ℕ → ℕ) → IsWellFormed t → Keeps t.nodes ns → InRange ns t.ninodes → IsForest (folders_of ns) (links_in ns) (raises t.holds) t.ninodes D → IsWellFormed (with_nodes t ns)
well_nodes t ns D k keeps range forest = well_held t ns t.holds D k keeps range forest k.holds

pub well_cwd : (t : Tree) (cwd : ℕ → ℕ) → IsWellFormed t → ((h : ℕ) → h < hart_count → IsThere t.nodes (cwd h) true) → IsWellFormed (record t { cwd = cwd })
well_cwd t cwd k all = record { range = k.range; depth = k.depth; forest = k.forest; holds = k.holds; descriptors = λ h i id lh li is. let th = k.descriptors h i id lh li is in record { file = th.file; is = th.is; node = th.node; there = th.there }; directories = all }

pub well_files : (t : Tree) (files : ℕ → Option OpenFile) (fds : ℕ → ℕ → Option ℕ) → IsWellFormed t
    → ((h i id : ℕ) → h < hart_count → i < descriptor_count → fds h i ≡ Some id → (f : OpenFile) × (files id ≡ Some f) × (v : Node) × (t.nodes f.number ≡ Some v)) → IsWellFormed (record t { files = files; fds = fds })
well_files t files fds k all = record {
  range = k.range;
  depth = k.depth;
  forest = k.forest;
  holds = k.holds;
  descriptors = λ h i id lh li is. let th = all h i id lh li is in record { file = th.0; is = th.1; node = th.2; there = th.3 };
  directories = k.directories;
}

both_false : (a b : Bool) → b ≡ false → (a && b) ≡ false
both_false a b h = grind arith

both_true : (a b : Bool) → a ≡ true → b ≡ true → (a && b) ≡ true
both_true a b p q = grind arith

pub not_folder : (v : Node) → is_directory v.kind ≡ false → folder (Some v) ≡ None
not_folder v h = folder_dead (Some v) (both_false (nat_lt 0 v.count) (is_directory v.kind) h)

abbrev pub Forested : Tree → (ℕ → Option Node) → (ℕ → ℕ) → Type 0
Forested t ns D = IsForest (folders_of ns) (links_in ns) (raises t.holds) t.ninodes D

-- the content of one node changes, which is no directory
pub well_content : (t : Tree) (n : ℕ) (v w : Node) → IsWellFormed t → t.nodes n ≡ Some v → w.count ≡ v.count → is_directory v.kind ≡ false → is_directory w.kind ≡ false → IsWellFormed (with_nodes t (put t.nodes n (Some w)))
well_content t n v w k is count dv dw =
    let ns = put t.nodes n (Some w) in
    let r = k.range n v is in
    let none : folder (t.nodes n) ≡ folder (Some w) = ap (λ (o : Option Node). folder o) is ∙ (not_folder v dv ∙ sym (not_folder w dw)) in
    let F : folders_of ns ≡ folders_of t.nodes = folders_put t.nodes n (Some w) ∙ put_self (folders_of t.nodes) n (folder (Some w)) none in
    let C : links_in ns ≡ links_in t.nodes = everywhere (links_in ns) (links_in t.nodes) (λ j. elim (put_is t.nodes n (Some w) j) [
      | inl p ↦ ap (λ (o : Option Node). links_of o) p.1 ∙ (count ∙ subst (λ (z : ℕ). v.count ≡ links_of (t.nodes z)) (sym p.0) (sym (ap (λ (o : Option Node). links_of o) is)))
      | inr p ↦ ap (λ (o : Option Node). links_of o) p.1
    ]) in
    well_nodes t ns k.depth k
    (keeps_put t.nodes n w (λ u uis. dw ∙ sym (let e : Some v ≡ Some u = sym is ∙ uis in let same : v ≡ u = cc in subst (λ (z : Node). is_directory z.kind ≡ false) same dv)))
    (range_put t.nodes n w t.ninodes k.range r.0 r.1)
    (subst (λ (G : Folders). IsForest G (links_in ns) (raises t.holds) t.ninodes k.depth) (sym F) (subst (λ (c : ℕ → ℕ). IsForest (folders_of t.nodes) c (raises t.holds) t.ninodes k.depth) (sym C) k.forest))

-- nothing changes
pub well_same : (t : Tree) (n : ℕ) (v : Node) → IsWellFormed t → t.nodes n ≡ Some v → IsWellFormed (with_nodes t (put t.nodes n (Some v)))
well_same t n v k is = subst (λ (f : ℕ → Option Node). IsWellFormed (with_nodes t f)) (sym (put_self t.nodes n (Some v) is)) k

-- Raised holds.

pub raises_put : (hs : ℕ → Option Hold) (h n : ℕ) (v : Option Hold) → h < hart_count → raises (put hs h v) n + raised_at (hs h) n ≡ raises hs n + raised_at v n
unfolding raises
raises_put hs h n v lt =
    let s = sum_changed hart_count h (λ g. raised_at (hs g) n) (λ g. raised_at (put hs h v g) n) lt (λ g ne. ap (λ (o : Option Hold). raised_at o n) (put_other hs h v g ne)) in
    let here : raised_at (put hs h v h) n ≡ raised_at v n = ap (λ (o : Option Hold). raised_at o n) (put_same hs h v) in
    omega (arith, s, here)

pub raises_part : (hs : ℕ → Option Hold) (h n : ℕ) → h < hart_count → raised_at (hs h) n ≤ raises hs n
unfolding raises
raises_part hs h n lt = sum_part hart_count h (λ g. raised_at (hs g) n) lt

pub not_raised : (o : Hold) (n : ℕ) → o.raised ≡ false → raised_at (Some o) n ≡ 0
not_raised o n h = one_no _ (left o.raised (o.number == n) h)
  where
    left : (a b : Bool) → a ≡ false → (a && b) ≡ false
    left a b p = grind arith

pub is_raised : (o : Hold) (n : ℕ) → o.raised ≡ true → raised_at (Some o) n ≡ one_if (o.number == n)
is_raised o n h = ap (λ (b : Bool). one_if b) (left o.raised (o.number == n) h)
  where
    left : (a b : Bool) → a ≡ true → (a && b) ≡ b
    left a b p = grind arith

-- the count of a node that is no directory changes
pub counted_folders : (ns : ℕ → Option Node) (n : ℕ) (v w : Node) → ns n ≡ Some v → w.kind ≡ v.kind → is_directory v.kind ≡ false → folders_of (put ns n (Some w)) ≡ folders_of ns
counted_folders ns n v w is kind dv =
    let none : folder (ns n) ≡ folder (Some w) = ap (λ (o : Option Node). folder o) is ∙ (not_folder v dv ∙ sym (not_folder w (ap (λ (z : NodeKind). is_directory z) kind ∙ dv))) in
    folders_put ns n (Some w) ∙ put_self (folders_of ns) n (folder (Some w)) none

pub well_counted : (t : Tree) (h n : ℕ) (v w : Node) (o : Option Hold) → IsWellFormed t → h < hart_count → t.nodes n ≡ Some v → w.kind ≡ v.kind → is_directory v.kind ≡ false
    → ((k : ℕ) → k ≢ n → raised_at o k ≡ raised_at (t.holds h) k)
    → w.count + raised_at (t.holds h) n ≡ v.count + raised_at o n
    → ((q : Hold) → o ≡ Some q → IsThere t.nodes q.number false)
    → IsWellFormed (record t { nodes = put t.nodes n (Some w); holds = put t.holds h o })
well_counted t h n v w o k lt is kind dv others count there =
    let ns = put t.nodes n (Some w) in
    let hs = put t.holds h o in
    let r = k.range n v is in
    let none : folder (t.nodes n) ≡ None = ap (λ (z : Option Node). folder z) is ∙ not_folder v dv in
    let F : folders_of ns ≡ folders_of t.nodes = counted_folders t.nodes n v w is kind dv in
    let here : links_in t.nodes n ≡ v.count = ap (λ (z : Option Node). links_of z) is in
    let C : (j : ℕ) → ((j ≡ n) × (links_in ns j ≡ w.count)) ⊎ ((j ≢ n) × (links_in ns j ≡ links_in t.nodes j)) = (λ j. elim (put_is t.nodes n (Some w) j) [
      | inl p ↦ inl (p.0, ap (λ (z : Option Node). links_of z) p.1)
      | inr p ↦ inr (p.0, ap (λ (z : Option Node). links_of z) p.1)
    ]) in
    well_held t ns hs k.depth k
    (keeps_put t.nodes n w (λ u uis. ap (λ (z : NodeKind). is_directory z) kind ∙ (let e : Some v ≡ Some u = sym is ∙ uis in let same : v ≡ u = cc in ap (λ (z : Node). is_directory z.kind) same)))
    (range_put t.nodes n w t.ninodes k.range r.0 r.1)
    (subst (λ (G : Folders). IsForest G (links_in ns) (raises hs) t.ninodes k.depth) (sym F)
    (recounted_forest (folders_of t.nodes) (links_in t.nodes) (links_in ns) (raises t.holds) (raises hs) t.ninodes k.depth k.forest
    (λ j js jis. elim (C j) [
      | inl p ↦ absurd (let z : folder (t.nodes j) ≡ None = subst (λ (x : ℕ). folder (t.nodes x) ≡ None) (sym p.0) none in cc (z, jis))
      | inr p ↦ (p.1, (let a = raises_put t.holds h j o lt in let b = others j p.0 in omega (arith, a, b)))
    ])
    (λ j jis. elim (C j) [
      | inl p ↦ subst (λ (z : ℕ). links_in ns z + raises t.holds z ≡ links_in t.nodes z + raises hs z) (sym p.0)
          (let a = raises_put t.holds h n o lt in let b : links_in ns n ≡ w.count = subst (λ (z : ℕ). links_in ns z ≡ w.count) p.0 p.1 in omega (arith, a, b, here, count))
      | inr p ↦ let a = raises_put t.holds h j o lt in let b = others j p.0 in let c = p.1 in omega (arith, a, b, c)
    ])))
    (λ g q gt gis. elim (put_is t.holds h o g) [
      | inl p ↦ there q (sym p.1 ∙ gis)
      | inr p ↦ k.holds g q gt (sym p.1 ∙ gis)
    ])

-- Entering.

abbrev pub with_name : Node → Name → ℕ → Node
with_name v e n = record v { kind = Directory (first_free (slots_of v.kind) (record { name = e; number = n })) }

-- the directory with the new slot
pub named_folder : (ns : ℕ → Option Node) (d n : ℕ) (e : Name) → live_directory (ns d) ≡ true → folder (Some (with_name (node_or (ns d)) e n)) ≡ Some (first_free (all_slots (ns d)) (record { name = e; number = n }))
named_folder ns d n e good = go (ns d) good
  where
    go : (o : Option Node) → live_directory o ≡ true → folder (Some (with_name (node_or o) e n)) ≡ Some (first_free (all_slots o) (record { name = e; number = n }))
    go None h = absurd cc
    go (Some v) h = folder_live (Some (with_name v e n)) (both_true (nat_lt 0 v.count) true (and_true _ _ h).0 refl)

pub entered_folders : (ns : ℕ → Option Node) (d n : ℕ) (e : Name) → live_directory (ns d) ≡ true → folders_of (put ns d (Some (with_name (node_or (ns d)) e n))) ≡ put (folders_of ns) d (Some (first_free (all_slots (ns d)) (record { name = e; number = n })))
entered_folders ns d n e good = folders_put ns d (Some (with_name (node_or (ns d)) e n)) ∙ ap (λ (o : Option Slots). put (folders_of ns) d o) (named_folder ns d n e good)

pub entered_links : (ns : ℕ → Option Node) (d n : ℕ) (e : Name) → live_directory (ns d) ≡ true → links_in (put ns d (Some (with_name (node_or (ns d)) e n))) ≡ links_in ns
entered_links ns d n e good = everywhere (links_in (put ns d (Some (with_name (node_or (ns d)) e n)))) (links_in ns) (λ j. elim (put_is ns d (Some (with_name (node_or (ns d)) e n)) j) [
  | inl p ↦ ap (λ (z : Option Node). links_of z) p.1 ∙ subst (λ (z : ℕ). (node_or (ns d)).count ≡ links_of (ns z)) (sym p.0) (sym (ap (λ (z : Option Node). links_of z) (some_node (ns d) good)))
  | inr p ↦ ap (λ (z : Option Node). links_of z) p.1
])

type_of : (ns : ℕ → Option Node) (d : ℕ) (v : Node) → live_directory (ns d) ≡ true → ns d ≡ Some v → is_directory v.kind ≡ true
type_of ns d v good is = (and_true _ _ (subst (λ (o : Option Node). live_directory o ≡ true) is good)).1

pub entered_keeps : (ns : ℕ → Option Node) (d n : ℕ) (e : Name) → live_directory (ns d) ≡ true → Keeps ns (put ns d (Some (with_name (node_or (ns d)) e n)))
entered_keeps ns d n e good = keeps_put ns d (with_name (node_or (ns d)) e n) (λ v is. sym (type_of ns d v good is))

pub entered_range : (ns : ℕ → Option Node) (d n N : ℕ) (e : Name) → live_directory (ns d) ≡ true → InRange ns N → InRange (put ns d (Some (with_name (node_or (ns d)) e n))) N
entered_range ns d n N e good r = let two = r d (node_or (ns d)) (some_node (ns d) good) in range_put ns d (with_name (node_or (ns d)) e n) N r two.0 two.1

-- a link's name is entered, and the raised hold goes
pub well_entered : (t : Tree) (h d : ℕ) (e : Name) (o : Hold) → IsWellFormed t → h < hart_count → live_directory (t.nodes d) ≡ true → look t.nodes d e ≡ None → first_slot (all_slots (t.nodes d)) e ≡ None → t.holds h ≡ Some o → o.raised ≡ true
    → IsWellFormed (record (entered t d e o.number) { holds = put t.holds h None })
well_entered t h d e o k lt good absent none held up =
    let ns = put t.nodes d (Some (with_name (node_or (t.nodes d)) e o.number)) in
    let hs = put t.holds h None in
    let th = k.holds h o lt held in
    let plain : folder (t.nodes o.number) ≡ None = ap (λ (z : Option Node). folder z) th.is ∙ not_folder th.node th.inode_type in
    let R : (j : ℕ) → raises hs j + one_if (o.number == j) ≡ raises t.holds j = (λ j. let a = raises_put t.holds h j None lt in let b : raised_at (t.holds h) j ≡ one_if (o.number == j) = ap (λ (z : Option Hold). raised_at z j) held ∙ is_raised o j up in omega (arith, a, b)) in
    well_held t ns hs k.depth k (entered_keeps t.nodes d o.number e good) (entered_range t.nodes d o.number t.ninodes e good k.range)
    (subst (λ (G : Folders). IsForest G (links_in ns) (raises hs) t.ninodes k.depth) (sym (entered_folders t.nodes d o.number e good))
    (subst (λ (C : ℕ → ℕ). IsForest (put (folders_of t.nodes) d (Some (first_free (all_slots (t.nodes d)) (record { name = e; number = o.number })))) C (raises hs) t.ninodes k.depth) (sym (entered_links t.nodes d o.number e good))
    (entered_forest (folders_of t.nodes) (links_in t.nodes) (links_in t.nodes) (raises t.holds) (raises hs) t.ninodes k.depth d (all_slots (t.nodes d)) (record { name = e; number = o.number }) k.forest (folder_live (t.nodes d) good) none plain
    (λ j js jis. (refl, (let a = R j in let ne : one_if (o.number == j) ≡ 0 = one_no _ (eq_not o.number j (apart (folders_of t.nodes) o.number j js plain jis)) in omega (arith, a, ne))))
    (λ j jis. let a = R j in omega (arith, a)))))
    (λ g q gt gis. elim (put_is t.holds h None g) [
      | inl p ↦ absurd (let z : None ≡ Some q = sym p.1 ∙ gis in cc)
      | inr p ↦ k.holds g q gt (sym p.1 ∙ gis)
    ])

-- Making.

abbrev pub with_new : (ℕ → Option Node) → ℕ → Name → ℕ → Node → ℕ → Option Node
with_new ns d e n v = put (put ns d (Some (with_name (node_or (ns d)) e n))) n (Some v)

pub new_apart : (ns : ℕ → Option Node) (d n : ℕ) → live_directory (ns d) ≡ true → ns n ≡ None → n ≢ d
new_apart ns d n good none = λ q. absurd (let z : live_directory (ns n) ≡ true = subst (λ (x : ℕ). live_directory (ns x) ≡ true) (sym q) good in let y : live_directory (ns n) ≡ false = ap (λ (o : Option Node). live_directory o) none in cc (z, y))

pub new_keeps : (ns : ℕ → Option Node) (d n : ℕ) (e : Name) (v : Node) → live_directory (ns d) ≡ true → ns n ≡ None → Keeps ns (with_new ns d e n v)
new_keeps ns d n e v good none =
    let ns1 = put ns d (Some (with_name (node_or (ns d)) e n)) in
    keeps_on ns ns1 (put ns1 n (Some v)) (entered_keeps ns d n e good) (keeps_new ns1 n v (put_other ns d (Some (with_name (node_or (ns d)) e n)) n (new_apart ns d n good none) ∙ none))

pub new_range : (ns : ℕ → Option Node) (d n N : ℕ) (e : Name) (v : Node) → live_directory (ns d) ≡ true → 1 ≤ n → n < N → InRange ns N → InRange (with_new ns d e n v) N
new_range ns d n N e v good low high r =
    let ns1 = put ns d (Some (with_name (node_or (ns d)) e n)) in
    range_put ns1 n v N (entered_range ns d n N e good r) low high

pub new_links : (ns : ℕ → Option Node) (d n : ℕ) (e : Name) (v : Node) → live_directory (ns d) ≡ true → ns n ≡ None → v.count ≡ 1 → (j : ℕ) → links_in (with_new ns d e n v) j ≡ links_in ns j + one_if (n == j)
new_links ns d n e v good none one j =
    let ns1 = put ns d (Some (with_name (node_or (ns d)) e n)) in
    elim (put_is ns1 n (Some v) j) [
      | inl p ↦
          let a : links_in (with_new ns d e n v) j ≡ v.count = ap (λ (z : Option Node). links_of z) p.1 in
          let b : links_in ns j ≡ 0 = subst (λ (z : ℕ). links_in ns z ≡ 0) (sym p.0) (ap (λ (z : Option Node). links_of z) none) in
          let c : one_if (n == j) ≡ 1 = one_yes (n == j) (subst (λ (z : ℕ). (n == z) ≡ true) (sym p.0) (eq_self n)) in
          omega (arith, a, b, c, one)
      | inr p ↦
          let a : links_in (with_new ns d e n v) j ≡ links_in ns1 j = ap (λ (z : Option Node). links_of z) p.1 in
          let b : links_in ns1 j ≡ links_in ns j = ap (λ (C : ℕ → ℕ). C j) (entered_links ns d n e good) in
          let c : one_if (n == j) ≡ 0 = one_no (n == j) (eq_not n j (λ q. p.0 (sym q))) in
          omega (arith, a, b, c)
    ]

pub new_folders : (ns : ℕ → Option Node) (d n : ℕ) (e : Name) (v : Node) → live_directory (ns d) ≡ true → folders_of (with_new ns d e n v) ≡ put (put (folders_of ns) d (Some (first_free (all_slots (ns d)) (record { name = e; number = n })))) n (folder (Some v))
new_folders ns d n e v good =
    let ns1 = put ns d (Some (with_name (node_or (ns d)) e n)) in
    folders_put ns1 n (Some v) ∙ ap (λ (G : Folders). put G n (folder (Some v))) (entered_folders ns d n e good)

-- the forest with a file's name entered at a new number
pub file_forest : (t : Tree) (d n : ℕ) (e : Name) (C : ℕ → ℕ) → IsWellFormed t → live_directory (t.nodes d) ≡ true → first_slot (all_slots (t.nodes d)) e ≡ None → t.nodes n ≡ None → (k : IsWellFormed t)
    → ((j : ℕ) → C j ≡ links_in t.nodes j + one_if (n == j))
    → IsForest (put (folders_of t.nodes) d (Some (first_free (all_slots (t.nodes d)) (record { name = e; number = n })))) C (raises t.holds) t.ninodes k.depth
file_forest t d n e C kk good none new k count =
    let plain : folder (t.nodes n) ≡ None = ap (λ (z : Option Node). folder z) new in
    entered_forest (folders_of t.nodes) (links_in t.nodes) C (raises t.holds) (raises t.holds) t.ninodes k.depth d (all_slots (t.nodes d)) (record { name = e; number = n }) k.forest (folder_live (t.nodes d) good) none plain
    (λ j js jis. (count j ∙ (let ne : one_if (n == j) ≡ 0 = one_no _ (eq_not n j (apart (folders_of t.nodes) n j js plain jis)) in omega (arith, ne)), refl))
    (λ j jis. let a = count j in omega (arith, a))

-- a file is made
pub well_file : (t : Tree) (d n : ℕ) (e : Name) → IsWellFormed t → live_directory (t.nodes d) ≡ true → first_slot (all_slots (t.nodes d)) e ≡ None → t.nodes n ≡ None → 1 ≤ n → n < t.ninodes → IsWellFormed (with_nodes t (with_new t.nodes d e n new_file))
well_file t d n e k good none new low high =
    let ns = t.nodes in
    let ns2 = with_new ns d e n new_file in
    let F1 : Folders = put (folders_of ns) d (Some (first_free (all_slots (ns d)) (record { name = e; number = n }))) in
    let out : F1 n ≡ folder (Some new_file) = put_other (folders_of ns) d (Some (first_free (all_slots (ns d)) (record { name = e; number = n }))) n (new_apart ns d n good new) ∙ ap (λ (z : Option Node). folder z) new in
    let F : folders_of ns2 ≡ F1 = new_folders ns d n e new_file good ∙ put_self F1 n (folder (Some new_file)) out in
    well_nodes t ns2 k.depth k (new_keeps ns d n e new_file good new) (new_range ns d n t.ninodes e new_file good low high k.range)
    (subst (λ (G : Folders). IsForest G (links_in ns2) (raises t.holds) t.ninodes k.depth) (sym F) (file_forest t d n e (links_in ns2) k good none new k (new_links ns d n e new_file good new refl)))
