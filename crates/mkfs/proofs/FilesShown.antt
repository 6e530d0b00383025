-- What the disk of an image shows of the root and the files.
use Rattle.fs_layout.specs.Widths.{block_len}
use Rattle.mkfs.proofs.Vocabulary.{Version, dirent_len_of, dirents_per_block_of, ◌≡◌, ℕ, zero, suc, ◌+◌, ◌-◌, ◌*◌, ◌/◌, ◌%◌, ◌^◌, ◌<◌, ◌≤◌, pos, List, [], ◌∷◌, ◌++◌, length, take, drop, map, replicate, get_or, Some, refl, sym, ap, subst, ◌∙◌, arith, All, take-add, take_all, take_at, take-take, map_more, length-map, Dinode, Dirent, Free, Super, IsName, dirent_at, sizes_of, inode_of, content_block, front_blocks, content_of, slot_at, first_slots, slots_of, blocks_for, root_size, data_start, Node, padded, whole, inode_for, root_content, root_node, file_node, nodes_with, blocks_before, CanBeMade, HasGoodNames}
use Rattle.image_versions.proofs.Places.{in_their_content}
use Rattle.mkfs.proofs.RootSizes.{most-slots}
use Rattle.mkfs.proofs.Wanted.{root_long}
use Rattle.mkfs.proofs.Basics.{all_entries, good-entries, length-all, root-bytes, entry-there, Shows, free_inode}
use Rattle.mkfs.proofs.ShownInodes.{inode-shown, file-at}

-- ---- inodes

-- an inode with the kind and size of a node, and one name
pub record IsInodeOf (d : Dinode) (node : Node) : Type 0 where
  pub kind : d.kind ≡ node.kind
  pub count : d.nlink ≡ pos 1
  pub size : d.size ≡ length node.content

has-fields : (first : ℕ) (node : Node) → IsInodeOf (inode_for first node) node
unfolding inode_for
has-fields first node = record { kind = refl; count = refl; size = refl }

shown-inode : (disk : List (List ℕ)) (size ninodes : ℕ) (nodes : List Node) (j : ℕ) (n : Node) → Shows disk size ninodes nodes → j < length nodes
    → IsInodeOf (inode_of disk (j + 1)) (get_or nodes j n)
shown-inode disk size ninodes nodes j n h l =
    let node : Node = get_or nodes j n in
    subst (λ (d : Dinode). IsInodeOf d node) (sym (inode-shown disk size ninodes nodes j n h l)) (has-fields (data_start ninodes + blocks_before j nodes) node)

-- ---- a file's bytes

-- the blocks of a node's content
abbrev HasContent : List (List ℕ) → Dinode → List ℕ → Type 0
HasContent disk d content = (k : ℕ) → block_len * k < length content → content_block disk d k ≡ take block_len (drop (block_len * k) (whole content))

front-are : (disk : List (List ℕ)) (d : Dinode) (content : List ℕ) (n : ℕ) → n ≤ blocks_for (length content) → HasContent disk d content
    → front_blocks disk d n ≡ take (block_len * n) (whole content)
unfolding front_blocks
front-are disk d content zero h at = refl
front-are disk d content (suc n) h at =
    let bytes : List ℕ = whole content in
    let count : block_len * n + block_len ≡ block_len * suc n = omega arith in
    ap (λ (xs : List ℕ). xs ++ content_block disk d n) (front-are disk d content n (omega arith) at)
    ∙ ap (λ (xs : List ℕ). take (block_len * n) bytes ++ xs) (at n (omega arith))
    ∙ sym (take-add (block_len * n) block_len bytes)
    ∙ ap (λ (k : ℕ). take k bytes) count

take-whole : (bytes : List ℕ) → take (length bytes) (whole bytes) ≡ bytes
unfolding whole padded
take-whole bytes = take_at bytes (replicate (block_len * blocks_for (length bytes) - length bytes) 0) (length bytes) refl

content-is : (disk : List (List ℕ)) (d : Dinode) (content : List ℕ) → d.size ≡ length content → HasContent disk d content → content_of disk d ≡ content
content-is disk d content size at =
    let n : ℕ = blocks_for (length content) in
    let same : n ≤ n = omega arith in
    ap (λ (k : ℕ). take k (front_blocks disk d (blocks_for k))) size
    ∙ ap (take (length content)) (front-are disk d content n same at)
    ∙ take-take (length content) (block_len * n) (whole content) (omega arith)
    ∙ take-whole content

-- ---- the root's slots

first-are : (v : Version) (disk : List (List ℕ)) (d : Dinode) (entries : List Dirent) (n : ℕ) → n ≤ length entries
    → ((s : ℕ) → s < length entries → slot_at v disk d s ≡ Some (get_or entries s Free)) → first_slots v disk d n ≡ map Some (take n entries)
unfolding first_slots
first-are v disk d entries zero h at = refl
first-are v disk d entries (suc n) h at =
    let count : n + 1 ≡ suc n = omega arith in
    ap (λ xs. xs ++ slot_at v disk d n ∷ []) (first-are v disk d entries n (omega arith) at)
    ∙ ap (λ x. map Some (take n entries) ++ x ∷ []) (at n (omega arith))
    ∙ sym (map_more Some entries n Free (omega arith))
    ∙ ap (λ (k : ℕ). map Some (take k entries)) count

slot-there : (v : Version) (disk : List (List ℕ)) (d : Dinode) (names : List (List ℕ)) (s : ℕ) → 2 + length names < 2 ^ 16 → All (IsName v) names
    → HasContent disk d (root_content v names) → length (root_content v names) ≡ root_size v (length names) → s < length (all_entries v names)
    → slot_at v disk d s ≡ Some (get_or (all_entries v names) s Free)
unfolding slot_at whole padded
slot-there v disk d names s few good at long l =
    let root : List ℕ = root_content v names in
    let rest : List ℕ = replicate (block_len * blocks_for (length root) - length root) 0 in
    let block : ℕ = s / dirents_per_block_of v in
    let below : s < root_size v (length names) / dirent_len_of v = subst (λ (n : ℕ). s < n) (length-all v names) l in
    let within : block_len * block < length root = subst (λ (n : ℕ). block_len * block < n) (sym long) (in_their_content v s (root_size v (length names)) below).1 in
    ap (dirent_at v (s % dirents_per_block_of v)) (at block within ∙ ap (λ (xs : List ℕ). take block_len (drop (block_len * block) (xs ++ rest))) (root-bytes v names few good))
    ∙ entry-there v (all_entries v names) s Free rest (good-entries v names few good) l

slots-are : (v : Version) (disk : List (List ℕ)) (d : Dinode) (names : List (List ℕ)) → 2 + length names < 2 ^ 16 → All (IsName v) names
    → HasContent disk d (root_content v names) → length (root_content v names) ≡ root_size v (length names) → d.size ≡ length (root_content v names)
    → slots_of v disk d ≡ map Some (all_entries v names)
slots-are v disk d names few good at long size =
    let entries : List Dirent = all_entries v names in
    let count : d.size / dirent_len_of v ≡ length entries = ap (λ (n : ℕ). n / dirent_len_of v) (size ∙ long) ∙ sym (length-all v names) in
    let same : length entries ≤ length entries = omega arith in
    ap (first_slots v disk d) count
    ∙ first-are v disk d entries (length entries) same (λ s l. slot-there v disk d names s few good at long l)
    ∙ ap (map Some) (take_all (length entries) entries same)

-- ---- all of it

pub record ShowsFiles (v : Version) (disk : List (List ℕ)) (ninodes : ℕ) (names contents : List (List ℕ)) : Type 0 where
  pub good : HasGoodNames v names
  pub many : length names ≡ length contents
  pub count : (sizes_of disk).ninodes ≡ ninodes
  pub room : 1 + length contents < ninodes
  pub root : IsInodeOf (inode_of disk 1) (root_node (root_content v names))
  pub slots : slots_of v disk (inode_of disk 1) ≡ map Some (all_entries v names)
  -- file j is inode j + 2
  pub file : (j : ℕ) → j < length contents → IsInodeOf (inode_of disk (j + 2)) (file_node (get_or contents j []))
  pub content : (j : ℕ) → j < length contents → content_of disk (inode_of disk (j + 2)) ≡ get_or contents j []
  pub free : (i : ℕ) → 1 + length contents < i → i < ninodes → inode_of disk i ≡ free_inode

pub shown_files : (v : Version) (disk : List (List ℕ)) (size ninodes : ℕ) (names contents : List (List ℕ)) → Shows disk size ninodes (nodes_with (root_content v names) contents)
    → length names ≡ length contents → CanBeMade v size ninodes names contents → ShowsFiles v disk ninodes names contents
shown_files v disk size ninodes names contents h many can =
    let nodes : List Node = nodes_with (root_content v names) contents in
    let none : Node = root_node [] in
    let long : length (map file_node contents) ≡ length contents = length-map contents file_node in
    let few : 2 + length names < 2 ^ 16 = omega (arith, many, can.0.0.1.few, most-slots v) in
    let each : All (IsName v) names = λ i d l. (can.0.0.0.1.each i d l).0 in
    let root : IsInodeOf (inode_of disk 1) (root_node (root_content v names)) = shown-inode disk size ninodes nodes 0 none h (omega arith) in
    let size_is = root_long v size ninodes names contents many can ∙ ap (root_size v) (sym many) in
    let is : (j : ℕ) → j < length contents → get_or nodes (suc j) none ≡ file_node (get_or contents j []) = λ j l. file-at contents j none (omega arith) in
    let place : (j : ℕ) → suc j + 1 ≡ j + 2 = λ j. omega arith in
    let file : (j : ℕ) → j < length contents → IsInodeOf (inode_of disk (j + 2)) (file_node (get_or contents j [])) =
    λ j l.
    subst (IsInodeOf (inode_of disk (j + 2))) (is j l)
    (subst (λ (i : ℕ). IsInodeOf (inode_of disk i) (get_or nodes (suc j) none)) (place j) (shown-inode disk size ninodes nodes (suc j) none h (omega arith))) in
    record {
      good = can.0.0.0.1;
      many = many;
      count = ap (λ (s : Super). s.ninodes) h.sizes;
      room = omega (arith, can.0.1, can.0.0.0.0.some_inodes);
      root = root;
      slots = slots-are v disk (inode_of disk 1) names few each (λ k l. h.content 0 k none (omega arith) l) size_is root.size;
      file = file;
      content = λ j l.
          content-is disk (inode_of disk (j + 2)) (get_or contents j []) (file j l).size
          (subst (λ (node : Node). HasContent disk (inode_of disk (j + 2)) node.content) (is j l)
          (subst (λ (i : ℕ). HasContent disk (inode_of disk i) (get_or nodes (suc j) none).content) (place j) (λ k m. h.content (suc j) k none (omega arith) m)));
      free = λ i low bound. h.free i (omega arith) bound;
    }
