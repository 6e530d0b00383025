-- The slots of live directories, and the table of nodes.
use Rattle.image_tree.proofs.Vocabulary.{◌≡◌, ◌↔◌, ◌∙◌, ap, sym, refl, subst, ℕ, ◌+◌, ◌<◌, ◌≤◌, Bool, true, false, not, IsTrue, List, [], ◌∷◌, ◌++◌, length, get_or, arith, length-append, ⊎_elim, Option, None, ◌&&◌, nat_lt, get_or_past, get_or_append_left, get_or_at, false≢true, false_from_ne_true, cases_lt, lt-ltb, and_parts, Dinode, Dirent, sizes_of, inode_of, is_free, is_directory, is_live, is_node, is_live_directory, slots_in, slot_numbers, AreGoodSlots, IsDotDot, IsNodeTable, Layout, IsLayout}
use Rattle.image_tree.proofs.Nodes.{both_from, directory_is, directory_from, node_is}

-- ---- the table of nodes

pub no_node_zero : (disk : List (List ℕ)) → is_node disk 0 ≡ false
unfolding is_node
no_node_zero disk = refl

pub flags-one : (disk : List (List ℕ)) (before after : List Bool) → before ≡ [] → after ≡ before ++ false ∷ []
    → (length after ≡ 1) × ((k : ℕ) → k < 1 → get_or after k false ≡ is_node disk k)
flags-one disk before after none e =
    let is : after ≡ false ∷ [] = e ∙ ap (λ (xs : List Bool). xs ++ false ∷ []) none in (
      ap length is,
      λ k l.
          let z : k ≡ 0 = omega arith in
          ap (λ (xs : List Bool). get_or xs k false) is ∙ ap (λ (n : ℕ). get_or (false ∷ []) n false) z ∙ sym (no_node_zero disk) ∙ ap (is_node disk) (sym z),
    )

lt_test : (m n : ℕ) → m < n → nat_lt m n ≡ true
lt_test m n h = lt-ltb m n h

pub node_flag : (disk : List (List ℕ)) (layout : Layout) (i : ℕ) (d : Dinode) → IsLayout disk layout → 1 ≤ i → i < layout.sizes.ninodes → d ≡ inode_of disk i
    → not (is_free d) ≡ is_node disk i
unfolding is_node
node_flag disk layout i d h low bound e =
    let a : nat_lt 0 i ≡ true = lt_test 0 i low in
    let b : nat_lt i (sizes_of disk).ninodes ≡ true = lt_test i (sizes_of disk).ninodes (rw (← h.sizes) bound) in
    rw (a, b, e) refl

pub flags-more : (disk : List (List ℕ)) (layout : Layout) (i : ℕ) (d : Dinode) (flag : Bool) (before after : List Bool) → IsLayout disk layout → 1 ≤ i
    → i < layout.sizes.ninodes → d ≡ inode_of disk i → flag ≡ not (is_free d) → length before ≡ i
    → ((k : ℕ) → k < i → get_or before k false ≡ is_node disk k) → after ≡ before ++ flag ∷ []
    → (length after ≡ i + 1) × ((k : ℕ) → k < i + 1 → get_or after k false ≡ is_node disk k)
flags-more disk layout i d flag before after h low bound e f l says is = (
  ap length is ∙ length-append before (flag ∷ []) ∙ ap (λ (n : ℕ). n + 1) l,
  λ k q.
      ap (λ (xs : List Bool). get_or xs k false) is
      ∙ ⊎_elim
      (λ (p : k < i). get_or_append_left before (flag ∷ []) false k (omega arith) ∙ says k p)
      (λ (p : i ≤ k).
      let z : k ≡ i = omega arith in
      get_or_at before flag [] false k (omega arith) ∙ f ∙ node_flag disk layout i d h low bound e ∙ ap (is_node disk) (sym z))
      (cases_lt k i),
)

pub node_table_is : (disk : List (List ℕ)) (layout : Layout) (i : ℕ) (nodes : List Bool) → IsLayout disk layout → layout.sizes.ninodes ≡ i → length nodes ≡ i
    → ((k : ℕ) → k < i → get_or nodes k false ≡ is_node disk k) → IsNodeTable disk nodes
node_table_is disk layout i nodes h all l says = record {
  says = λ k.
      ⊎_elim
      (λ (p : k < i). says k p)
      (λ (p : i ≤ k).
      get_or_past nodes k false (omega arith)
      ∙ sym (false_from_ne_true (is_node disk k) (λ t. let b = (node_is disk k t).bound in let s = h.sizes in let n : layout.sizes.ninodes ≡ (sizes_of disk).ninodes = rw s refl in absurd (omega arith))))
      (cases_lt k i);
}

-- ---- slots

pub few_slots : (slots : List (Option Dirent)) → length slots < 2 → IsDotDot (get_or slots 1 None) → ⊥
few_slots slots h is = subst IsDotDot (get_or_past slots 1 None (omega arith)) is

good_slots_same : (p q : ℕ → Bool) (i : ℕ) (slots : List (Option Dirent)) → ((n : ℕ) → p n ≡ q n) → AreGoodSlots p i slots → AreGoodSlots q i slots
good_slots_same p q i slots same h = record {
  first = h.first;
  second = h.second;
  entries = h.entries;
  nodes = λ k d l. sym (same (get_or (slot_numbers slots) k d)) ∙ h.nodes k d l;
  names = h.names;
}

pub no_directory : (disk : List (List ℕ)) (i : ℕ) (d : Dinode) → d ≡ inode_of disk i → (is_directory d && is_live d) ≡ false → is_live_directory disk i ≡ true → ⊥
no_directory disk i d e not t =
    let is = directory_is disk i t in
    false≢true (sym not ∙ rw e (both_from (is_directory (inode_of disk i)) (is_live (inode_of disk i)) is.directory is.live))

pub slots_told : (disk : List (List ℕ)) (layout : Layout) (i : ℕ) (d : Dinode) (nodes : List Bool) (slots : List (Option Dirent)) (told : Bool)
    → IsLayout disk layout → 1 ≤ i → i < layout.sizes.ninodes → d ≡ inode_of disk i → (is_directory d && is_live d) ≡ true
    → IsNodeTable disk nodes → slots ≡ slots_in layout.version disk i
    → (IsTrue told ↔ AreGoodSlots (λ n. get_or nodes n false) i slots)
    → IsTrue told ↔ (is_live_directory disk i ≡ true → AreGoodSlots (is_node disk) i (slots_in layout.version disk i))
slots_told disk layout i d nodes slots told h low bound e is table same says = (
  λ yes _. subst (AreGoodSlots (is_node disk) i) same (good_slots_same (λ n. get_or nodes n false) (is_node disk) i slots table.says (says.0 yes)),
  λ good.
      let parts = and_parts (is_directory d) (is_live d) is in
      let live : is_live_directory disk i ≡ true =
      directory_from disk i (record { low = low; bound = rw (← h.sizes) bound; directory = rw e at parts.0; live = rw e at parts.1 }) in
      says.1 (good_slots_same (is_node disk) (λ n. get_or nodes n false) i slots (λ n. sym (table.says n)) (subst (AreGoodSlots (is_node disk) i) (sym same) (good live))),
)
