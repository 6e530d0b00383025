-- Nodes as the forest sees them, and what settling leaves.
use Rattle.tree_laws.proofs.Vocabulary.{◌≡◌, ◌≢◌, ℕ, ◌<◌, ◌≤◌, Bool, true, false, ◌||◌, ◌==◌, ◌⊎◌, inl, inr, refl, sym, ◌∙◌, ap, subst, arith, Option, Some, None, nat_lt, nat_tests, Node, OpenFile, Hold, hart_count, descriptor_count, Tree, put, any_below, live_directory, is_live, all_slots, fd_names, file_names, hold_names, is_named, settle, node_or, Slots, Folders, folder, links_of, folders_of, links_in, raises, IsForest, IsWellFormed}
use Rattle.tree_laws.proofs.Maps.{either, same_or, eq_self, put_is, put_same, put_other, and_true, or_left, or_right, any_at}

pub folder_live : (v : Option Node) → live_directory v ≡ true → folder v ≡ Some (all_slots v)
folder_live v h = rw h refl

pub folder_dead : (v : Option Node) → live_directory v ≡ false → folder v ≡ None
folder_dead v h = rw h refl

pub folder_some : (v : Option Node) (ss : Slots) → folder v ≡ Some ss → (live_directory v ≡ true) × (all_slots v ≡ ss)
folder_some v ss h = elim (either (live_directory v)) [
  | inl y ↦ (y, (let q : Some (all_slots v) ≡ Some ss = sym (folder_live v y) ∙ h in cc))
  | inr y ↦ absurd (let q : None ≡ Some ss = sym (folder_dead v y) ∙ h in cc)
]

pub folder_none : (v : Option Node) → folder v ≡ None → live_directory v ≡ false
folder_none v h = elim (either (live_directory v)) [
  | inl y ↦ absurd (let q : Some (all_slots v) ≡ None = sym (folder_live v y) ∙ h in cc)
  | inr y ↦ y
]

pub live_is : (v : Option Node) → live_directory v ≡ true → is_live v ≡ true
live_is None h = absurd cc
live_is (Some v) h = (and_true _ _ h).0

pub some_node : (o : Option Node) → live_directory o ≡ true → o ≡ Some (node_or o)
some_node None h = absurd cc
some_node (Some v) h = refl

pub folder_links : (o : Option Node) → live_directory o ≡ true → 1 ≤ links_of o
folder_links None h = absurd cc
folder_links (Some v) h = let l : nat_lt 0 v.count ≡ true = (and_true _ _ h).0 in grind (arith, nat_tests)

pub linked_live : (o : Option Node) → 1 ≤ links_of o → is_live o ≡ true
linked_live None h = absurd (omega (arith, h))
linked_live (Some v) h = grind (arith, nat_tests)

pub dead_links : (o : Option Node) → is_live o ≡ false → links_of o ≡ 0
dead_links None h = refl
dead_links (Some v) h = grind (arith, nat_tests)

pub live_some : (o : Option Node) → is_live o ≡ true → o ≡ Some (node_or o)
live_some None h = absurd cc
live_some (Some v) h = refl

pub no_node : (o : Option Node) → is_live o ≡ false → live_directory o ≡ false
no_node o h = elim (either (live_directory o)) [ inr y ↦ y | inl y ↦ absurd (let a : is_live o ≡ true = live_is o y in cc (a, h)) ]

-- functions that agree everywhere
pub everywhere : {A : Type 0} → (f g : ℕ → A) → ((k : ℕ) → f k ≡ g k) → f ≡ g
everywhere f g h = λ i k. h k i

pub map_put : {A B : Type 0} → (f : A → B) (ns : ℕ → A) (d : ℕ) (v : A) → (λ (k : ℕ). f (put ns d v k)) ≡ put (λ (k : ℕ). f (ns k)) d (f v)
map_put f ns d v = everywhere (λ k. f (put ns d v k)) (put (λ k. f (ns k)) d (f v)) (λ k. elim (put_is ns d v k) [
  | inl w ↦ ap f w.1 ∙ subst (λ (z : ℕ). f v ≡ put (λ (x : ℕ). f (ns x)) d (f v) z) (sym w.0) (sym (put_same (λ (x : ℕ). f (ns x)) d (f v)))
  | inr w ↦ ap f w.1 ∙ sym (put_other (λ (x : ℕ). f (ns x)) d (f v) k w.0)
])

pub folders_put : (ns : ℕ → Option Node) (d : ℕ) (v : Option Node) → folders_of (put ns d v) ≡ put (folders_of ns) d (folder v)
folders_put ns d v = map_put (λ (o : Option Node). folder o) ns d v

-- the same folders
pub put_self : {A : Type 0} → (f : ℕ → A) (d : ℕ) (v : A) → f d ≡ v → put f d v ≡ f
put_self f d v h = everywhere (put f d v) f (λ k. elim (put_is f d v k) [
  | inl w ↦ w.1 ∙ (sym h ∙ ap f (sym w.0))
  | inr w ↦ w.1
])

-- Settling.

or_split : (a b : Bool) → (a || b) ≡ false → a ≡ false
or_split a b h = grind arith

pub settle_at : (t : Tree) (n : ℕ) → ((settle t).nodes n ≡ t.nodes n) ⊎ (((settle t).nodes n ≡ None) × (is_live (t.nodes n) ≡ false))
unfolding settle
settle_at t n = elim (either (is_live (t.nodes n) || is_named t n)) [
  | inl y ↦ inl (rw y refl)
  | inr y ↦ inr (rw y refl, or_split (is_live (t.nodes n)) (is_named t n) y)
]

settle_named : (t : Tree) (n : ℕ) → is_named t n ≡ true → (settle t).nodes n ≡ t.nodes n
unfolding settle
settle_named t n h = rw (or_right (is_live (t.nodes n)) (is_named t n) h) refl

pub settle_folders : (t : Tree) → folders_of (settle t).nodes ≡ folders_of t.nodes
settle_folders t = everywhere (folders_of (settle t).nodes) (folders_of t.nodes) (λ n. elim (settle_at t n) [
  | inl e ↦ ap (λ (o : Option Node). folder o) e
  | inr e ↦ ap (λ (o : Option Node). folder o) e.0 ∙ sym (folder_dead (t.nodes n) (no_node (t.nodes n) e.1))
])

pub settle_links : (t : Tree) → links_in (settle t).nodes ≡ links_in t.nodes
settle_links t = everywhere (links_in (settle t).nodes) (links_in t.nodes) (λ n. elim (settle_at t n) [
  | inl e ↦ ap (λ (o : Option Node). links_of o) e
  | inr e ↦ ap (λ (o : Option Node). links_of o) e.0 ∙ sym (dead_links (t.nodes n) e.1)
])

pub settle_rest : (t : Tree) → ((settle t).ninodes ≡ t.ninodes) × ((settle t).files ≡ t.files) × ((settle t).cwd ≡ t.cwd) × ((settle t).fds ≡ t.fds) × ((settle t).holds ≡ t.holds)
unfolding settle
settle_rest t = (refl, refl, refl, refl, refl)

abbrev hart_names : Tree → ℕ → ℕ → Bool
hart_names t n h = (t.cwd h == n) || (hold_names (t.holds h) n || any_below descriptor_count (λ i. fd_names t (t.fds h i) n))

named_by : (t : Tree) (n h : ℕ) → h < hart_count → hart_names t n h ≡ true → is_named t n ≡ true
unfolding is_named
named_by t n h lt is = any_at hart_count (λ h. hart_names t n h) h lt is

pub cwd_named : (t : Tree) (h : ℕ) → h < hart_count → is_named t (t.cwd h) ≡ true
cwd_named t h lt = named_by t (t.cwd h) h lt (or_left _ _ (eq_self (t.cwd h)))

pub hold_named : (t : Tree) (h : ℕ) (o : Hold) → h < hart_count → t.holds h ≡ Some o → is_named t o.number ≡ true
hold_named t h o lt is = named_by t o.number h lt (or_right _ _ (or_left _ _ (ap (λ (z : Option Hold). hold_names z o.number) is ∙ eq_self o.number)))

pub file_named : (t : Tree) (h i id : ℕ) (f : OpenFile) → h < hart_count → i < descriptor_count → t.fds h i ≡ Some id → t.files id ≡ Some f → is_named t f.number ≡ true
file_named t h i id f lh li is there = named_by t f.number h lh
    (or_right _ _ (or_right _ _ (any_at descriptor_count (λ i. fd_names t (t.fds h i) f.number) i li
    (ap (λ (z : Option ℕ). fd_names t z f.number) is ∙ (ap (λ (z : Option OpenFile). file_names z f.number) there ∙ eq_self f.number)))))

pub settled_well : (t : Tree) → IsWellFormed t → IsWellFormed (settle t)
unfolding settle
settled_well t k = record {
  range = λ n v is. elim (settle_at t n) [
    | inl e ↦ k.range n v (sym e ∙ is)
    | inr e ↦ absurd (let q : None ≡ Some v = sym e.0 ∙ is in cc)
  ];
  depth = k.depth;
  forest = subst (λ (F : Folders). IsForest F (links_in (settle t).nodes) (raises t.holds) t.ninodes k.depth) (sym (settle_folders t))
      (subst (λ (C : ℕ → ℕ). IsForest (folders_of t.nodes) C (raises t.holds) t.ninodes k.depth) (sym (settle_links t)) k.forest);
  holds = λ h o lt is. let th = k.holds h o lt is in record { node = th.node; is = settle_named t o.number (hold_named t h o lt is) ∙ th.is; inode_type = th.inode_type };
  descriptors = λ h i id lh li is. let th = k.descriptors h i id lh li is in record { file = th.file; is = th.is; node = th.node; there = settle_named t th.file.number (file_named t h i id th.file lh li is th.is) ∙ th.there };
  directories = λ h lt. let th = k.directories h lt in record { node = th.node; is = settle_named t (t.cwd h) (cwd_named t h lt) ∙ th.is; inode_type = th.inode_type };
}

-- A dead node that nothing names is removed.
pub well_gone : (t : Tree) (i : ℕ) → IsWellFormed t → is_live (t.nodes i) ≡ false → is_named t i ≡ false → IsWellFormed (record t { nodes = put t.nodes i None })
well_gone t i k dead unnamed = record {
  range = λ n v is. k.range n v (sym (stays n v is) ∙ is);
  depth = k.depth;
  forest = subst (λ (F : Folders). IsForest F (links_in (put t.nodes i None)) (raises t.holds) t.ninodes k.depth) (sym folders)
      (subst (λ (C : ℕ → ℕ). IsForest (folders_of t.nodes) C (raises t.holds) t.ninodes k.depth) (sym links) k.forest);
  holds = λ h o lt is. let th = k.holds h o lt is in record { node = th.node; is = other o.number (λ q. named o.number q (hold_named t h o lt is)) ∙ th.is; inode_type = th.inode_type };
  descriptors = λ h j id lh lj is. let th = k.descriptors h j id lh lj is in record { file = th.file; is = th.is; node = th.node; there = other th.file.number (λ q. named th.file.number q (file_named t h j id th.file lh lj is th.is)) ∙ th.there };
  directories = λ h lt. let th = k.directories h lt in record { node = th.node; is = other (t.cwd h) (λ q. named (t.cwd h) q (cwd_named t h lt)) ∙ th.is; inode_type = th.inode_type };
}
  where
    folders : folders_of (put t.nodes i None) ≡ folders_of t.nodes
    folders = folders_put t.nodes i None ∙ put_self (folders_of t.nodes) i (folder None) (folder_dead (t.nodes i) (no_node (t.nodes i) dead))

    links : links_in (put t.nodes i None) ≡ links_in t.nodes
    links = map_put (λ (o : Option Node). links_of o) t.nodes i None ∙ put_self (links_in t.nodes) i 0 (dead_links (t.nodes i) dead)

    other : (n : ℕ) → n ≢ i → put t.nodes i None n ≡ t.nodes n
    other n ne = put_other t.nodes i None n ne

    named : (n : ℕ) → n ≡ i → is_named t n ≡ true → ⊥
    named n q is = let a = subst (λ (z : ℕ). is_named t z ≡ true) q is in absurd (cc (a, unnamed))

    stays : (n : ℕ) (v : Node) → put t.nodes i None n ≡ Some v → put t.nodes i None n ≡ t.nodes n
    stays n v is = elim (same_or n i) [
      | inl q ↦ absurd (let a : put t.nodes i None n ≡ None = ap (put t.nodes i None) q ∙ put_same t.nodes i None in cc (a, is))
      | inr ne ↦ other n ne
    ]
