-- An image stays well formed when a node without a name is freed.
use Rattle.image_tree.proofs.Vocabulary.{Version, ◌≡◌, ◌≢◌, inl, inr, ℕ, zero, suc, ◌-◌, ◌/◌, ◌<◌, ◌≤◌, ◌==◌, nat_lt, ◌&&◌, not, ℤ, pos, ◌≤ℤ◌, ◌<ℤ◌, Bool, true, false, if◌then◌else◌, List, [], ◌∷◌, ◌++◌, length, get_or, slice_index_or, drop, filter, Option, Some, None, refl, sym, ◌∙◌, ap, subst, arith, Contains, All, cases_eq, cases_lt, and_parts, ltb-true, false≢true, ne_eqb, get_or_default, Super, Dinode, Dirent, dirent_len_of, sizes_of, IsOnce, gathered, times, inode_of, is_number, is_free, is_directory, is_live, is_node, is_live_directory, numbers_of, block_number, numbers_by, named_by, is_block, slots_of, last, slots_in, slot_numbers, number_in, up, names_of, further_names_of, proper_names_of, children_of, Reaches, IsGoodType, IsData, is_marked, IsGoodSize, AreGoodSlots, IsOneTree, IsGoodCount, HasMarks, HasGoodTypes, HasRoot, HasGoodNumbers, NamesOnce, HasGoodSizes, HasGoodSlots, HasGoodCounts, IsWellFormed, is_orphan, IsFreed, FreedNodesLeaveImages, NodeKind, Node, at_rest, kind_of, count_of, node_of, first_nodes, tree_in}
use Rattle.image_tree.proofs.Nodes.{node_is, directory_is}
use Rattle.image_tree.proofs.NumberLists.{All-nil, numbers_by_free}
use Rattle.image_tree.proofs.Contents.{pick, not_free, InRange, ranged, used_good, node_good, live_good, numbers_same, slots_same, kind_same}
use Rattle.image_tree.proofs.Apart.{apart, fewer_once}
use Rattle.image_tree.proofs.Unnamed.{no_directory, no_root, unnamed}

never_and : (a b : Bool) → (a && (false && b)) ≡ false
never_and true b = refl
never_and false b = refl

-- what must hold of an inode in range alone
guarded : (a t x y : Bool) → (t ≡ true → x ≡ y) → ((a && t) && x) ≡ ((a && t) && y)
guarded true true x y h = h refl
guarded true false x y h = refl
guarded false t x y h = refl

no_and : (a : Bool) → (a && false) ≡ false
no_and true = refl
no_and false = refl

abbrev a_node : NodeKind → Dinode → Node
a_node k x = record { count = count_of x.nlink; kind = k }

kept_block : (b : ℕ) → b ≢ 0 → is_block b ≡ true
kept_block b ne = ap not (ne_eqb b 0 ne)

pub filter_keeps : (p : ℕ → Bool) (x : ℕ) (xs : List ℕ) → p x ≡ true → filter p (x ∷ xs) ≡ x ∷ filter p xs
filter_keeps p x xs h = rw h refl

pub filter_drops : (p : ℕ → Bool) (x : ℕ) (xs : List ℕ) → p x ≡ false → filter p (x ∷ xs) ≡ filter p xs
filter_drops p x xs h = rw h refl

-- a number of a list that isn't 0 is among its blocks
kept_at : (b : ℕ) (xs : List ℕ) → b ≢ 0 → (k : ℕ) → k < length xs → get_or xs k b ≡ b → Contains (filter is_block xs) b
kept_at b [] ne k l e = absurd (omega (arith, l))
kept_at b (x ∷ xs) ne zero l e =
    subst (λ (ys : List ℕ). Contains ys b) (sym (filter_keeps is_block x xs (kept_block x (λ z. ne (sym e ∙ z))))) (0, omega arith, e)
kept_at b (x ∷ xs) ne (suc k) l e =
    let rest = kept_at b xs ne k (omega (arith, l)) e in
    pick (is_block x) (λ t. is_block x ≡ t → Contains (filter is_block (x ∷ xs)) b)
    (λ _ y. subst (λ (ys : List ℕ). Contains ys b) (sym (filter_keeps is_block x xs y)) (suc rest.0, (let m = rest.1 in omega (arith, m)), rest.2))
    (λ _ y. subst (λ (ys : List ℕ). Contains ys b) (sym (filter_drops is_block x xs y)) rest) refl

kept_has : (b : ℕ) (xs : List ℕ) → b ≢ 0 → Contains xs b → Contains (filter is_block xs) b
kept_has b xs ne has = kept_at b xs ne has.0 has.1 has.2

module _ (v : Version) (d e : List (List ℕ)) (i : ℕ) (orphan : is_orphan d i ≡ true) (f : IsFreed v d e i) (well : IsWellFormed v d) where
  good_counts_d : HasGoodCounts v d
  good_counts_d = well.1

  one_tree_d : IsOneTree v d
  one_tree_d = (let tree = well.0 in tree.1)

  slots_d : HasGoodSlots v d
  slots_d = (let tree = well.0 in let slot = tree.0 in slot.1)

  sizes_d : HasGoodSizes v d
  sizes_d = (let tree = well.0 in let slot = tree.0 in let size = slot.0 in size.1)

  marks_d : HasMarks d
  marks_d = (let tree = well.0 in let slot = tree.0 in let size = slot.0 in let mark = size.0 in mark.1)

  once_d : NamesOnce d
  once_d = (let tree = well.0 in let slot = tree.0 in let size = slot.0 in let mark = size.0 in let one = mark.0 in one.1)

  numbers_d : HasGoodNumbers d
  numbers_d = (let tree = well.0 in let slot = tree.0 in let size = slot.0 in let mark = size.0 in let one = mark.0 in let range = one.0 in range.1)

  root_d : HasRoot d
  root_d = (let tree = well.0 in let slot = tree.0 in let size = slot.0 in let mark = size.0 in let one = mark.0 in let range = one.0 in let root_ = range.0 in root_.1)

  types_d : HasGoodTypes d
  types_d = (let tree = well.0 in let slot = tree.0 in let size = slot.0 in let mark = size.0 in let one = mark.0 in let range = one.0 in let root_ = range.0 in let type_ = root_.0 in type_.1)

  two_inodes : 2 ≤ (sizes_of d).ninodes
  two_inodes = (let tree = well.0 in let slot = tree.0 in let size = slot.0 in let mark = size.0 in let one = mark.0 in let range = one.0 in let root_ = range.0 in let type_ = root_.0 in let log = type_.0 in let a = log.0 in let b = a.0 in b.1.1.few_inodes)

  is_node_i : is_node d i ≡ true
  is_node_i = (and_parts (is_node d i) (not (is_live (inode_of d i))) orphan).0

  dead : is_live (inode_of d i) ≡ false
  dead = not_free (is_live (inode_of d i)) (and_parts (is_node d i) (not (is_live (inode_of d i))) orphan).1

  range_i : InRange (sizes_of d) i
  unfolding is_node
  range_i = (ranged (sizes_of d) i (not (is_free (inode_of d i))) is_node_i).0

  no_live : is_live_directory d i ≡ false
  no_live = no_directory v d i is_node_i dead slots_d one_tree_d good_counts_d

  not_root : 1 ≢ i
  not_root = no_root v d i is_node_i dead slots_d one_tree_d good_counts_d

  ninodes_same : (sizes_of e).ninodes ≡ (sizes_of d).ninodes
  ninodes_same = ap (λ (z : Super). z.ninodes) f.sizes

  high_in : (j : ℕ) → j < (sizes_of e).ninodes → j < (sizes_of d).ninodes
  high_in j lt = (let h = ninodes_same in omega (arith, h, lt))

  free_i : is_free (inode_of e i) ≡ true
  free_i = ap (λ (k : ℤ). is_number 0 k) f.kind

  gone : is_node e i ≡ false
  unfolding is_node
  gone = ap (λ (t : Bool). (nat_lt 0 i && nat_lt i (sizes_of e).ninodes) && not t) free_i ∙ no_and (nat_lt 0 i && nat_lt i (sizes_of e).ninodes)

  node_other : (j : ℕ) → j ≢ i → is_node e j ≡ is_node d j
  unfolding is_node
  node_other j ne =
      ap (λ (z : Super). (nat_lt 0 j && nat_lt j z.ninodes) && not (is_free (inode_of e j))) f.sizes
      ∙ guarded (nat_lt 0 j) (nat_lt j (sizes_of d).ninodes) (not (is_free (inode_of e j))) (not (is_free (inode_of d j)))
      (λ t. ap (λ (x : Dinode). not (is_free x)) (f.inodes j ne (ltb-true j (sizes_of d).ninodes t)))

  -- a remaining node is another one than the freed one, and was a node before
  left : (j : ℕ) → is_node e j ≡ true → (j ≢ i) × (is_node d j ≡ true)
  left j is =
      let ne : j ≢ i = (λ q. false≢true (sym gone ∙ ap (is_node e) (sym q) ∙ is)) in
      (ne, sym (node_other j ne) ∙ is)

  live_gone : is_live_directory e i ≡ false
  unfolding is_live_directory
  live_gone =
      ap (λ (k : ℤ). (nat_lt 0 i && nat_lt i (sizes_of e).ninodes) && (is_number 1 k && is_live (inode_of e i))) f.kind
      ∙ never_and (nat_lt 0 i && nat_lt i (sizes_of e).ninodes) (is_live (inode_of e i))

  live_other : (j : ℕ) → j ≢ i → is_live_directory e j ≡ is_live_directory d j
  unfolding is_live_directory
  live_other j ne =
      ap (λ (z : Super). (nat_lt 0 j && nat_lt j z.ninodes) && (is_directory (inode_of e j) && is_live (inode_of e j))) f.sizes
      ∙ guarded (nat_lt 0 j) (nat_lt j (sizes_of d).ninodes) (is_directory (inode_of e j) && is_live (inode_of e j)) (is_directory (inode_of d j) && is_live (inode_of d j))
      (λ t. ap (λ (x : Dinode). is_directory x && is_live x) (f.inodes j ne (ltb-true j (sizes_of d).ninodes t)))

  live_same : (j : ℕ) → is_live_directory e j ≡ is_live_directory d j
  live_same j = elim (cases_eq j i) [
    | inl q ↦ ap (is_live_directory e) q ∙ live_gone ∙ sym no_live ∙ ap (is_live_directory d) (sym q)
    | inr ne ↦ live_other j ne
  ]

  -- ---- the blocks that are named

  pub by_same : (j : ℕ) → InRange (sizes_of d) j → j ≢ i → numbers_by e j ≡ numbers_by d j
  unfolding numbers_by
  by_same j range ne =
      ap (λ (x : Dinode). if is_free x then [] else numbers_of e x) (f.inodes j ne range.high)
      ∙ pick (is_free (inode_of d j)) (λ t. is_free (inode_of d j) ≡ t → (if t then [] else numbers_of e (inode_of d j)) ≡ (if t then [] else numbers_of d (inode_of d j)))
      (λ _ _. refl) (λ _ isnt. numbers_same d e f.contents (inode_of d j) (used_good d numbers_d j range isnt)) refl

  by_gone : numbers_by e i ≡ []
  by_gone = numbers_by_free e i (inode_of e i) refl free_i

  -- no other inode names a block of the one that is freed
  not_its : (j b : ℕ) → InRange (sizes_of d) j → j ≢ i → b ≢ 0 → Contains (numbers_by d j) b → All (λ c. c ≢ 0 → c ≢ b) (numbers_by d i)
  not_its j b range ne some has = λ k z lt nz is.
      let it : Contains (numbers_by d i) b = (k, lt, get_or_default (numbers_by d i) k b z lt ∙ is) in
      let here : Contains (named_by d j) b = kept_has b (numbers_by d j) some has in
      let there : Contains (named_by d i) b = kept_has b (numbers_by d i) some it in
      let hj = range.high in let hi = range_i.high in
      elim (cases_lt i j) [
        | inl lower ↦ apart (named_by d) (last d) i j b once_d range_i.low lower (omega (arith, hj)) there here
        | inr higher ↦ apart (named_by d) (last d) j i b once_d range.low (omega (arith, higher, ne)) (omega (arith, hi)) here there
      ]

  range : (j : ℕ) → 1 ≤ j → j < (sizes_of e).ninodes → InRange (sizes_of d) j
  range j lo hi = record { low = lo; high = high_in j hi }

  pub orphan_gone : is_orphan e i ≡ false
  orphan_gone = ap (λ (t : Bool). t && not (is_live (inode_of e i))) gone

  pub orphan_other : (j : ℕ) → j ≢ i → j < (sizes_of d).ninodes → is_orphan e j ≡ is_orphan d j
  orphan_other j ne lt =
      ap (λ (t : Bool). t && not (is_live (inode_of e j))) (node_other j ne)
      ∙ ap (λ (x : Dinode). is_node d j && not (is_live x)) (f.inodes j ne lt)

  -- ---- the checks

  types : HasGoodTypes e
  types j lo hi = elim (cases_eq j i) [
    | inl q ↦
        let zero_ : (pos 0 ≤ℤ pos 0) × (pos 0 ≤ℤ pos 3) × (pos 0 ≢ pos 0 → pos 0 ≤ℤ (inode_of e i).nlink) = (omega arith, omega arith, λ n. absurd (n refl)) in
        subst (λ (k : ℕ). IsGoodType (inode_of e k)) (sym q)
        (subst (λ (k : ℤ). (pos 0 ≤ℤ k) × (k ≤ℤ pos 3) × (k ≢ pos 0 → pos 0 ≤ℤ (inode_of e i).nlink)) (sym f.kind) zero_)
    | inr ne ↦ subst IsGoodType (sym (f.inodes j ne (high_in j hi))) (types_d j lo (high_in j hi))
  ]

  root : HasRoot e
  root = subst (λ (x : Dinode). (x.kind ≡ pos 1) × (pos 0 <ℤ x.nlink)) (sym (f.inodes 1 not_root (let t = two_inodes in omega (arith, t)))) root_d

  named : HasGoodNumbers e
  named j lo hi = subst (λ (z : Super). All (λ b. b ≢ 0 → IsData z b) (numbers_by e j)) (sym f.sizes)
      (elim (cases_eq j i) [
        | inl q ↦ subst (λ (l : List ℕ). All (λ b. b ≢ 0 → IsData (sizes_of d) b) l) (sym (ap (numbers_by e) q ∙ by_gone)) (All-nil (λ b. b ≢ 0 → IsData (sizes_of d) b))
        | inr ne ↦ subst (λ (l : List ℕ). All (λ b. b ≢ 0 → IsData (sizes_of d) b) l) (sym (by_same j (range j lo hi) ne)) (numbers_d j lo (high_in j hi))
      ])

  once : NamesOnce e
  once = subst (λ (z : Super). IsOnce (gathered (named_by e) (z.ninodes - 1))) (sym f.sizes)
      (fewer_once (named_by d) (named_by e) i (ap (filter is_block) by_gone) (last d)
      (λ k lo hi ne. ap (filter is_block) (by_same k (record { low = lo; high = (let t = two_inodes in omega (arith, lo, hi, t)) }) ne)) once_d)

  marks : HasMarks e
  marks = record {
    front = λ b le.
        let z = ap (λ (z : Super). z.bmapstart) f.sizes in
        let low : b ≤ (sizes_of d).bmapstart = omega (arith, z, le) in
        f.kept b (λ k w lt nz is. absurd (let l = (numbers_d i range_i.low range_i.high k w lt nz).0 in omega (arith, l, low, is))) ∙ marks_d.front b low;
    named = λ j lo hi. elim (cases_eq j i) [
      | inl q ↦ subst (λ (l : List ℕ). All (λ b. b ≢ 0 → is_marked e b ≡ true) l) (sym (ap (numbers_by e) q ∙ by_gone)) (All-nil (λ b. b ≢ 0 → is_marked e b ≡ true))
      | inr ne ↦
          subst (λ (l : List ℕ). All (λ b. b ≢ 0 → is_marked e b ≡ true) l) (sym (by_same j (range j lo hi) ne))
          (λ k w lt nz.
          f.kept (slice_index_or (numbers_by d j) k w)
          (not_its j (slice_index_or (numbers_by d j) k w) (range j lo hi) ne nz (k, lt, get_or_default (numbers_by d j) k (slice_index_or (numbers_by d j) k w) w lt))
          ∙ marks_d.named j lo (high_in j hi) k w lt nz)
    ];
  }

  sizes : HasGoodSizes v e
  sizes j is =
      let was = left j is in
      let old = sizes_d j was.1 in
      subst (λ (x : Dinode). IsGoodSize v e x) (sym (f.inodes j was.0 (node_is d j was.1).bound))
      (record { fits = old.fits; named = λ k lt. subst (λ (l : List ℕ). block_number l k ≢ 0) (sym (numbers_same d e f.contents (inode_of d j) (node_good d numbers_d j was.1))) (old.named k lt) })

  slots_in_same : (j : ℕ) → slots_in v e j ≡ slots_in v d j
  unfolding slots_in
  slots_in_same j =
      ap (λ (t : Bool). if t then slots_of v e (inode_of e j) else []) (live_same j)
      ∙ pick (is_live_directory d j) (λ t. is_live_directory d j ≡ t → (if t then slots_of v e (inode_of e j) else []) ≡ (if t then slots_of v d (inode_of d j) else []))
      (λ _ is.
      let ne : j ≢ i = (λ q. false≢true (sym no_live ∙ ap (is_live_directory d) (sym q) ∙ is)) in
      ap (λ (x : Dinode). slots_of v e x) (f.inodes j ne (directory_is d j is).bound) ∙ slots_same v d e f.contents (inode_of d j) (live_good d numbers_d j is) ((inode_of d j).size / dirent_len_of v)) (λ _ _. refl) refl

  all_slots : slots_in v e ≡ slots_in v d
  all_slots = λ j i. slots_in_same i j

  ups : up v e ≡ up v d
  ups = λ j i. number_in (slice_index_or (all_slots j i) 1 None)

  all_names : names_of v e ≡ names_of v d
  all_names = λ j i. times i (gathered (λ n. slot_numbers (all_slots j n)) ((f.sizes j).ninodes - 1))

  all_further : further_names_of v e ≡ further_names_of v d
  all_further = λ j i. times i (gathered (λ n. slot_numbers (drop 2 (all_slots j n))) ((f.sizes j).ninodes - 1))

  all_proper : proper_names_of v e ≡ proper_names_of v d
  all_proper = λ j i. times i (gathered (λ n. filter (λ m. ups j m == n) (slot_numbers (drop 2 (all_slots j n)))) ((f.sizes j).ninodes - 1))

  all_children : children_of v e ≡ children_of v d
  all_children = λ j i. times i (gathered (λ n. filter (λ m. not (m == n)) (ups j n ∷ [])) ((f.sizes j).ninodes - 1))

  good_slots : HasGoodSlots v e
  good_slots j is =
      let live : is_live_directory d j ≡ true = sym (live_same j) ∙ is in
      let old = slots_d j live in
      let others = unnamed v d i is_node_i dead slots_d one_tree_d good_counts_d j live in
      subst (λ (l : List (Option Dirent)). AreGoodSlots (is_node e) j l) (sym (slots_in_same j)) (record {
        first = old.first;
        second = old.second;
        entries = old.entries;
        nodes = λ k w lt. node_other (slice_index_or (slot_numbers (slots_in v d j)) k w) (others k w lt) ∙ old.nodes k w lt;
        names = old.names;
      })

  one_tree : IsOneTree v e
  one_tree = record {
    root = ap (λ (g : ℕ → ℕ). g 1) ups ∙ one_tree_d.root;
    root_unnamed = ap (λ (g : ℕ → ℕ). g 1) all_further ∙ one_tree_d.root_unnamed;
    named = λ j is ne. ap (λ (g : ℕ → ℕ). g j) all_further ∙ one_tree_d.named j (sym (live_same j) ∙ is) ne;
    proper = λ j is ne. ap (λ (g : ℕ → ℕ). g j) all_proper ∙ one_tree_d.proper j (sym (live_same j) ∙ is) ne;
    reaches = λ j is. subst (λ (g : ℕ → ℕ). Reaches g j) (sym ups) (one_tree_d.reaches j (sym (live_same j) ∙ is));
  }

  good_counts : HasGoodCounts v e
  good_counts j is =
      let was = left j is in
      subst (λ (x : Dinode). IsGoodCount x (names_of v e j) (further_names_of v e j) (children_of v e j)) (sym (f.inodes j was.0 (node_is d j was.1).bound))
      (subst (λ (g : ℕ → ℕ). IsGoodCount (inode_of d j) (g j) (further_names_of v e j) (children_of v e j)) (sym all_names)
      (subst (λ (g : ℕ → ℕ). IsGoodCount (inode_of d j) (names_of v d j) (g j) (children_of v e j)) (sym all_further)
      (subst (λ (g : ℕ → ℕ). IsGoodCount (inode_of d j) (names_of v d j) (further_names_of v d j) (g j)) (sym all_children)
      (good_counts_d j was.1))))

  pub well_formed : IsWellFormed v e
  well_formed = (((((((((f.good, types), root), named), once), marks), sizes), good_slots), one_tree), good_counts)

  -- ---- the tree

  node_same : (j : ℕ) → node_of v e j ≡ node_of v d j
  unfolding node_of
  node_same j = elim (cases_eq j i) [
    | inl q ↦
        ap (λ (t : Bool). if t && is_live (inode_of e j) then Some (a_node (kind_of v e (inode_of e j)) (inode_of e j)) else None) (ap (is_node e) q ∙ gone)
        ∙ sym (ap (λ (t : Bool). if t then Some (a_node (kind_of v d (inode_of d j)) (inode_of d j)) else None)
        (ap (λ (t : Bool). is_node d j && t) (ap (λ (k : ℕ). is_live (inode_of d k)) q ∙ dead) ∙ no_and (is_node d j)))
    | inr ne ↦
        ap (λ (t : Bool). if t && is_live (inode_of e j) then Some (a_node (kind_of v e (inode_of e j)) (inode_of e j)) else None) (node_other j ne)
        ∙ pick (is_node d j) (λ t. is_node d j ≡ t → (if t && is_live (inode_of e j) then Some (a_node (kind_of v e (inode_of e j)) (inode_of e j)) else None)
        ≡ (if t && is_live (inode_of d j) then Some (a_node (kind_of v d (inode_of d j)) (inode_of d j)) else None))
        (λ _ is.
        ap (λ (x : Dinode). if is_live x then Some (a_node (kind_of v e x) x) else None) (f.inodes j ne (node_is d j is).bound)
        ∙ ap (λ (k : NodeKind). if is_live (inode_of d j) then Some (a_node k (inode_of d j)) else None) (kind_same v d e f.contents (inode_of d j) (node_good d numbers_d j is)))
        (λ _ _. refl) refl
  ]

  nodes_same : (n : ℕ) → first_nodes v e n ≡ first_nodes v d n
  unfolding first_nodes
  nodes_same zero = refl
  nodes_same (suc n) = ap (λ (l : List (Option Node)). l ++ node_of v e n ∷ []) (nodes_same n) ∙ ap (λ (o : Option Node). first_nodes v d n ++ o ∷ []) (node_same n)

  pub tree_same : tree_in v e ≡ tree_in v d
  tree_same =
      let nodes : first_nodes v e (sizes_of e).ninodes ≡ first_nodes v d (sizes_of d).ninodes = ap (λ (z : Super). first_nodes v e z.ninodes) f.sizes ∙ nodes_same (sizes_of d).ninodes in
      ap at_rest nodes

pub freed_nodes_leave_images : FreedNodesLeaveImages
freed_nodes_leave_images v old new i orphan freed well = (well_formed v old new i orphan freed well, tree_same v old new i orphan freed well)
