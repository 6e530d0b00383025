-- The checks see only the recovered blocks outside the log.
use Rattle.image_tree.proofs.Vocabulary.{Version, ◌≡◌, ◌≢◌, inl, inr, ℕ, zero, suc, ◌+◌, ◌-◌, ◌/◌, ◌%◌, ◌<◌, ◌≤◌, ◌==◌, nat_lt, ◌&&◌, not, ℤ, pos, negsuc, ◌<ℤ◌, Bool, true, false, if◌then◌else◌, List, [], ◌∷◌, ◌++◌, length, slice_index, slice_index_or, take, drop, filter, Option, Some, None, map, refl, sym, ◌∙◌, ap, subst, arith, length-append, All, cases_eq, cases_lt, and_parts, eqb-true, ltb-true, get_or_append_left, get_or_past, Super, Dinode, Dirent, bit_of, numbers_in, dinode_at, dirent_at, inodes_per_block, dirents_per_block_of, dirent_len_of, recovered, sizes_of, IsOutsideLog, IsOnce, gathered, times, inode_of, is_number, is_free, is_directory, is_live, is_node, is_live_directory, direct, numbers_of, block_number, content_block, numbers_by, named_by, is_block, front_blocks, content_of, blocks_for, slot_at, first_slots, slots_of, slots_in, slot_numbers, number_in, up, names_of, further_names_of, proper_names_of, children_of, Reaches, IsGoodType, IsData, is_marked, IsGoodSize, AreGoodSlots, IsOneTree, IsGoodCount, HasMarks, HasGoodTypes, HasRoot, HasGoodNumbers, NamesOnce, HasGoodSizes, HasGoodSlots, HasGoodCounts, IsWellFormed, UpToLog, IsViewOf, ChecksSeeRecovered, TreesSeeRecovered, NodeKind, Directory, File, Device, Node, at_rest, slot_of, is_file, kind_of, count_of, node_of, first_nodes, tree_in}

pub pick : (t : Bool) (P : Bool → Type 0) → (t ≡ true → P true) → (t ≡ false → P false) → P t
pick true P yes_ no_ = yes_ refl
pick false P yes_ no_ = no_ refl

-- each number of a list is 0 or passes; so does a number past its end
pub number_at : (P : ℕ → Type 0) (xs : List ℕ) → All (λ b. b ≢ 0 → P b) xs → P 0 → (k : ℕ) → P (slice_index xs k)
number_at P xs all none k = elim (cases_lt k (length xs)) [
  | inl lt ↦ elim (cases_eq (slice_index xs k) 0) [ inl e ↦ subst P (sym e) none | inr ne ↦ all k 0 lt ne ]
  | inr le ↦ subst P (sym (get_or_past xs k 0 le)) none
]

pub All-front : {A : Type 0} (P : A → Type 0) (xs ys : List A) → All P (xs ++ ys) → All P xs
All-front P xs ys h = λ k d l. subst P (get_or_append_left xs ys d k l) (h k d (omega (arith, length-append xs ys)))

gathered_same : (f g : ℕ → List ℕ) (n : ℕ) → ((i : ℕ) → 1 ≤ i → i ≤ n → f i ≡ g i) → gathered f n ≡ gathered g n
unfolding gathered
gathered_same f g zero same = refl
gathered_same f g (suc n) same =
    ap (λ (l : List ℕ). l ++ f (suc n)) (gathered_same f g n (λ i lo hi. same i lo (omega (arith, hi))))
    ∙ ap (λ (l : List ℕ). gathered g n ++ l) (same (suc n) (omega arith) (omega arith))

pub kind_used : (k : ℤ) → is_number 1 k ≡ true → is_number 0 k ≡ false
kind_used (pos m) is = ap (λ (n : ℕ). n == 0) (eqb-true m 1 is)
kind_used (negsuc m) is = refl

not_free : (t : Bool) → not t ≡ true → t ≡ false
not_free true e = absurd (cc e)
not_free false e = refl

-- inode i can be used
pub record InRange (s : Super) (i : ℕ) : Type 0 where
  pub low : 1 ≤ i
  pub high : i < s.ninodes

pub ranged : (s : Super) (i : ℕ) (t : Bool) → ((nat_lt 0 i && nat_lt i s.ninodes) && t) ≡ true → InRange s i × (t ≡ true)
ranged s i t is =
    let outer = and_parts (nat_lt 0 i && nat_lt i s.ninodes) t is in
    let inner = and_parts (nat_lt 0 i) (nat_lt i s.ninodes) outer.0 in
    (record { low = (let a = ltb-true 0 i inner.0 in omega (arith, a)); high = ltb-true i s.ninodes inner.1 }, outer.1)

abbrev a_node : NodeKind → Dinode → Node
a_node k x = record { count = count_of x.nlink; kind = k }

module _ (v : Version) (d e : List (List ℕ)) (view : IsViewOf v d e) (well : IsWellFormed v d) where
  same_at : (b : ℕ) → IsOutsideLog (sizes_of d) b → recovered e b ≡ recovered d b
  same_at b out = view.same b out

  log : UpToLog v d
  log = (let a = well.0 in let b = a.0 in let c = b.0 in let f = c.0 in let g = f.0 in let h = g.0 in let i = h.0 in let j = i.0 in j.0)

  good_numbers : HasGoodNumbers d
  good_numbers = (let a = well.0 in let b = a.0 in let c = b.0 in let f = c.0 in let g = f.0 in let h = g.0 in h.1)

  behind : ((sizes_of d).logstart + (sizes_of d).nlog ≤ (sizes_of d).inodestart) × (2 ≤ (sizes_of d).logstart) × ((sizes_of d).inodestart ≤ (sizes_of d).bmapstart)
  behind = (let a = log.0 in let b = a.0 in let good = b.1.1 in (good.log, good.logstart, (let h = good.inodes in omega (arith, h))))

  from_inodes : (b : ℕ) → (sizes_of d).inodestart ≤ b → IsOutsideLog (sizes_of d) b
  from_inodes b le = inr (let h = behind.0 in omega (arith, h, le))

  zero_outside : IsOutsideLog (sizes_of d) 0
  zero_outside = inl (let h = behind.1 in omega (arith, h))

  data_outside : (b : ℕ) → IsData (sizes_of d) b → IsOutsideLog (sizes_of d) b
  data_outside b is = from_inodes b (let h = behind.2 in omega (arith, h, is.0))

  ninodes_same : (sizes_of e).ninodes ≡ (sizes_of d).ninodes
  ninodes_same = ap (λ (z : Super). z.ninodes) view.sizes

  high_in : (i : ℕ) → i < (sizes_of e).ninodes → i < (sizes_of d).ninodes
  high_in i lt = (let h = ninodes_same in omega (arith, h, lt))

  pub inode_same : (i : ℕ) → inode_of e i ≡ inode_of d i
  unfolding inode_of
  inode_same i =
      ap (λ (z : Super). dinode_at (i % inodes_per_block) (recovered e (z.inodestart + i / inodes_per_block))) view.sizes
      ∙ ap (λ (bytes : List ℕ). dinode_at (i % inodes_per_block) bytes) (same_at ((sizes_of d).inodestart + i / inodes_per_block) (from_inodes ((sizes_of d).inodestart + i / inodes_per_block) (omega arith)))

  pub node_same : (i : ℕ) → is_node e i ≡ is_node d i
  unfolding is_node
  node_same i =
      ap (λ (z : Super). (nat_lt 0 i && nat_lt i z.ninodes) && not (is_free (inode_of e i))) view.sizes
      ∙ ap (λ (x : Dinode). (nat_lt 0 i && nat_lt i (sizes_of d).ninodes) && not (is_free x)) (inode_same i)

  pub live_same : (i : ℕ) → is_live_directory e i ≡ is_live_directory d i
  unfolding is_live_directory
  live_same i =
      ap (λ (z : Super). (nat_lt 0 i && nat_lt i z.ninodes) && (is_directory (inode_of e i) && is_live (inode_of e i))) view.sizes
      ∙ ap (λ (x : Dinode). (nat_lt 0 i && nat_lt i (sizes_of d).ninodes) && (is_directory x && is_live x)) (inode_same i)

  -- the numbers of an inode in use are good
  pub Good : Dinode → Type 0
  Good x = All (λ b. b ≢ 0 → IsData (sizes_of d) b) (numbers_of d x)

  used_good : (i : ℕ) → InRange (sizes_of d) i → is_free (inode_of d i) ≡ false → Good (inode_of d i)
  unfolding Good numbers_by
  used_good i range isnt =
      subst (λ (t : Bool). All (λ b. b ≢ 0 → IsData (sizes_of d) b) (if t then [] else numbers_of d (inode_of d i))) isnt (good_numbers i range.low range.high)

  node_good : (i : ℕ) → is_node d i ≡ true → Good (inode_of d i)
  unfolding is_node
  node_good i is = let r = ranged (sizes_of d) i (not (is_free (inode_of d i))) is in used_good i r.0 (not_free (is_free (inode_of d i)) r.1)

  live_good : (i : ℕ) → is_live_directory d i ≡ true → Good (inode_of d i)
  unfolding is_live_directory
  live_good i is =
      let r = ranged (sizes_of d) i (is_directory (inode_of d i) && is_live (inode_of d i)) is in
      used_good i r.0 (kind_used (inode_of d i).kind (and_parts (is_directory (inode_of d i)) (is_live (inode_of d i)) r.1).0)

  module _ (x : Dinode) (good : Good x) where
    outside_at : (k : ℕ) → IsOutsideLog (sizes_of d) (slice_index (numbers_of d x) k)
    unfolding Good
    outside_at k = number_at (IsOutsideLog (sizes_of d)) (numbers_of d x) (λ k z lt ne. data_outside (slice_index_or (numbers_of d x) k z) (good k z lt ne)) zero_outside k

    addr_at : IsOutsideLog (sizes_of d) (slice_index x.addrs direct)
    unfolding Good numbers_of
    addr_at = number_at (IsOutsideLog (sizes_of d)) x.addrs
        (All-front (λ b. b ≢ 0 → IsOutsideLog (sizes_of d) b) x.addrs _ (λ k z lt ne. data_outside (slice_index_or (numbers_of d x) k z) (good k z lt ne))) zero_outside direct

    pub numbers_same : numbers_of e x ≡ numbers_of d x
    unfolding numbers_of
    numbers_same = ap (λ (bytes : List ℕ). x.addrs ++ (if slice_index x.addrs direct == 0 then [] else numbers_in bytes)) (same_at (slice_index x.addrs direct) addr_at)

    pub content_same : (k : ℕ) → content_block e x k ≡ content_block d x k
    unfolding content_block
    content_same k =
        ap (λ (l : List ℕ). recovered e (block_number l k)) numbers_same
        ∙ same_at (block_number (numbers_of d x) k) (outside_at (if nat_lt k direct then k else k + 1))

    slot_same : (n : ℕ) → slot_at v e x n ≡ slot_at v d x n
    unfolding slot_at
    slot_same n = ap (λ (bytes : List ℕ). dirent_at v (n % dirents_per_block_of v) bytes) (content_same (n / dirents_per_block_of v))

    pub slots_same : (n : ℕ) → first_slots v e x n ≡ first_slots v d x n
    unfolding first_slots
    slots_same zero = refl
    slots_same (suc n) = ap (λ (l : List (Option Dirent)). l ++ slot_at v e x n ∷ []) (slots_same n) ∙ ap (λ (o : Option Dirent). first_slots v d x n ++ o ∷ []) (slot_same n)

    pub front_same : (n : ℕ) → front_blocks e x n ≡ front_blocks d x n
    unfolding front_blocks
    front_same zero = refl
    front_same (suc n) = ap (λ (l : List ℕ). l ++ content_block e x n) (front_same n) ∙ ap (λ (l : List ℕ). front_blocks d x n ++ l) (content_same n)

  by_same : (i : ℕ) → InRange (sizes_of d) i → numbers_by e i ≡ numbers_by d i
  unfolding numbers_by
  by_same i range =
      ap (λ (x : Dinode). if is_free x then [] else numbers_of e x) (inode_same i)
      ∙ pick (is_free (inode_of d i)) (λ t. is_free (inode_of d i) ≡ t → (if t then [] else numbers_of e (inode_of d i)) ≡ (if t then [] else numbers_of d (inode_of d i)))
      (λ _ _. refl) (λ _ isnt. numbers_same (inode_of d i) (used_good i range isnt)) refl

  slots_in_same : (i : ℕ) → slots_in v e i ≡ slots_in v d i
  unfolding slots_in
  slots_in_same i =
      ap (λ (t : Bool). if t then slots_of v e (inode_of e i) else []) (live_same i)
      ∙ pick (is_live_directory d i) (λ t. is_live_directory d i ≡ t → (if t then slots_of v e (inode_of e i) else []) ≡ (if t then slots_of v d (inode_of d i) else []))
      (λ _ is. ap (λ (x : Dinode). slots_of v e x) (inode_same i) ∙ slots_same (inode_of d i) (live_good i is) ((inode_of d i).size / dirent_len_of v)) (λ _ _. refl) refl

  nodes : is_node e ≡ is_node d
  nodes = λ j i. node_same i j

  slots : slots_in v e ≡ slots_in v d
  slots = λ j i. slots_in_same i j

  ups : up v e ≡ up v d
  ups = λ j i. number_in (slice_index_or (slots j i) 1 None)

  all_names : names_of v e ≡ names_of v d
  all_names = λ j i. times i (gathered (λ n. slot_numbers (slots j n)) ((view.sizes j).ninodes - 1))

  all_further : further_names_of v e ≡ further_names_of v d
  all_further = λ j i. times i (gathered (λ n. slot_numbers (drop 2 (slots j n))) ((view.sizes j).ninodes - 1))

  all_proper : proper_names_of v e ≡ proper_names_of v d
  all_proper = λ j i. times i (gathered (λ n. filter (λ m. ups j m == n) (slot_numbers (drop 2 (slots j n)))) ((view.sizes j).ninodes - 1))

  all_children : children_of v e ≡ children_of v d
  all_children = λ j i. times i (gathered (λ n. filter (λ m. not (m == n)) (ups j n ∷ [])) ((view.sizes j).ninodes - 1))

  marked : is_marked e ≡ is_marked d
  marked = λ j b. bit_of ((ap (λ (z : Super). recovered e z.bmapstart) view.sizes ∙ same_at (sizes_of d).bmapstart (from_inodes (sizes_of d).bmapstart behind.2)) j) b

  types : HasGoodTypes d → HasGoodTypes e
  types h i lo hi = subst IsGoodType (sym (inode_same i)) (h i lo (high_in i hi))

  root : HasRoot d → HasRoot e
  root h = subst (λ (x : Dinode). (x.kind ≡ pos 1) × (pos 0 <ℤ x.nlink)) (sym (inode_same 1)) h

  range : (i : ℕ) → 1 ≤ i → i < (sizes_of e).ninodes → InRange (sizes_of d) i
  range i lo hi = record { low = lo; high = high_in i hi }

  named : HasGoodNumbers d → HasGoodNumbers e
  named h i lo hi =
      subst (λ (z : Super). All (λ b. b ≢ 0 → IsData z b) (numbers_by e i)) (sym view.sizes)
      (subst (λ (l : List ℕ). All (λ b. b ≢ 0 → IsData (sizes_of d) b) l) (sym (by_same i (range i lo hi))) (h i lo (high_in i hi)))

  once : NamesOnce d → NamesOnce e
  once h = subst (λ (l : List ℕ). IsOnce l)
      (sym (ap (λ (z : Super). gathered (named_by e) (z.ninodes - 1)) view.sizes
      ∙ gathered_same (named_by e) (named_by d) ((sizes_of d).ninodes - 1)
      (λ i lo hi. ap (λ (l : List ℕ). filter is_block l) (by_same i (record { low = lo; high = omega (arith, lo, hi) }))))) h

  marks : HasMarks d → HasMarks e
  marks h = record {
    front = λ b le. ap (λ (f : ℕ → Bool). f b) marked ∙ h.front b (let z = ap (λ (z : Super). z.bmapstart) view.sizes in omega (arith, z, le));
    named = λ i lo hi.
        subst (λ (f : ℕ → Bool). All (λ b. b ≢ 0 → f b ≡ true) (numbers_by e i)) (sym marked)
        (subst (λ (l : List ℕ). All (λ b. b ≢ 0 → is_marked d b ≡ true) l) (sym (by_same i (range i lo hi))) (h.named i lo (high_in i hi)));
  }

  sizes : HasGoodSizes v d → HasGoodSizes v e
  sizes h i is =
      let node : is_node d i ≡ true = sym (node_same i) ∙ is in
      let old = h i node in
      subst (λ (x : Dinode). IsGoodSize v e x) (sym (inode_same i))
      (record { fits = old.fits; named = λ k lt. subst (λ (l : List ℕ). block_number l k ≢ 0) (sym (numbers_same (inode_of d i) (node_good i node))) (old.named k lt) })

  good_slots : HasGoodSlots v d → HasGoodSlots v e
  good_slots h i is =
      subst (λ (f : ℕ → Bool). AreGoodSlots f i (slots_in v e i)) (sym nodes)
      (subst (λ (l : List (Option Dirent)). AreGoodSlots (is_node d) i l) (sym (slots_in_same i)) (h i (sym (live_same i) ∙ is)))

  one_tree : IsOneTree v d → IsOneTree v e
  one_tree h = record {
    root = ap (λ (f : ℕ → ℕ). f 1) ups ∙ h.root;
    root_unnamed = ap (λ (f : ℕ → ℕ). f 1) all_further ∙ h.root_unnamed;
    named = λ i is ne. ap (λ (f : ℕ → ℕ). f i) all_further ∙ h.named i (sym (live_same i) ∙ is) ne;
    proper = λ i is ne. ap (λ (f : ℕ → ℕ). f i) all_proper ∙ h.proper i (sym (live_same i) ∙ is) ne;
    reaches = λ i is. subst (λ (f : ℕ → ℕ). Reaches f i) (sym ups) (h.reaches i (sym (live_same i) ∙ is));
  }

  good_counts : HasGoodCounts v d → HasGoodCounts v e
  good_counts h i is =
      subst (λ (x : Dinode). IsGoodCount x (names_of v e i) (further_names_of v e i) (children_of v e i)) (sym (inode_same i))
      (subst (λ (f : ℕ → ℕ). IsGoodCount (inode_of d i) (f i) (further_names_of v e i) (children_of v e i)) (sym all_names)
      (subst (λ (f : ℕ → ℕ). IsGoodCount (inode_of d i) (names_of v d i) (f i) (children_of v e i)) (sym all_further)
      (subst (λ (f : ℕ → ℕ). IsGoodCount (inode_of d i) (names_of v d i) (further_names_of v d i) (f i)) (sym all_children)
      (h i (sym (node_same i) ∙ is)))))

  pub transfers : IsWellFormed v e
  transfers =
      (let tree = well.0 in let slot = tree.0 in let size = slot.0 in let mark = size.0 in let one = mark.0 in let range = one.0 in let root_ = range.0 in let type_ = root_.0 in
      (((((((((view.good, types type_.1), root root_.1), named range.1), once one.1), marks mark.1), sizes size.1), good_slots slot.1), one_tree tree.1), good_counts well.1))

  -- ---- the tree

  kind_same : (x : Dinode) → Good x → kind_of v e x ≡ kind_of v d x
  unfolding kind_of
  kind_same x good =
      ap (λ (l : List (Option Dirent)). if is_directory x then Directory (map slot_of l) else (if is_file x then File (content_of e x) else Device x.major x.minor x.size)) (slots_same x good (x.size / dirent_len_of v))
      ∙ ap (λ (l : List ℕ). if is_directory x then Directory (map slot_of (slots_of v d x)) else (if is_file x then File (take x.size l) else Device x.major x.minor x.size)) (front_same x good (blocks_for x.size))

  node_of_same : (i : ℕ) → node_of v e i ≡ node_of v d i
  unfolding node_of
  node_of_same i =
      ap (λ (t : Bool). if t && is_live (inode_of e i) then Some (a_node (kind_of v e (inode_of e i)) (inode_of e i)) else None) (node_same i)
      ∙ pick (is_node d i) (λ t. is_node d i ≡ t → (if t && is_live (inode_of e i) then Some (a_node (kind_of v e (inode_of e i)) (inode_of e i)) else None)
      ≡ (if t && is_live (inode_of d i) then Some (a_node (kind_of v d (inode_of d i)) (inode_of d i)) else None))
      (λ _ is.
      ap (λ (x : Dinode). if is_live x then Some (a_node (kind_of v e x) x) else None) (inode_same i)
      ∙ ap (λ (k : NodeKind). if is_live (inode_of d i) then Some (a_node (k) (inode_of d i)) else None) (kind_same (inode_of d i) (node_good i is)))
      (λ _ _. refl) refl

  nodes_same : (n : ℕ) → first_nodes v e n ≡ first_nodes v d n
  unfolding first_nodes
  nodes_same zero = refl
  nodes_same (suc n) = ap (λ (l : List (Option Node)). l ++ node_of v e n ∷ []) (nodes_same n) ∙ ap (λ (o : Option Node). first_nodes v d n ++ o ∷ []) (node_of_same n)

  pub tree_same : tree_in v e ≡ tree_in v d
  tree_same =
      let nodes : first_nodes v e (sizes_of e).ninodes ≡ first_nodes v d (sizes_of d).ninodes = ap (λ (z : Super). first_nodes v e z.ninodes) view.sizes ∙ nodes_same (sizes_of d).ninodes in
      ap at_rest nodes

pub trees_see_recovered : TreesSeeRecovered
trees_see_recovered v old new view well = tree_same v old new view well

pub checks_see_recovered : ChecksSeeRecovered
checks_see_recovered v old new view well = transfers v old new view well
