-- What a disk that shows its nodes has as inodes, and which blocks they name.
use Rattle.mkfs.proofs.Vocabulary.{◌≡◌, ◌≢◌, ℕ, zero, suc, ◌+◌, ◌-◌, ◌<◌, ◌≤◌, pos, false, ◌⊎◌, inl, inr, List, [], length, get_or, map, ap, ◌∙◌, sym, refl, subst, ⊎_elim, arith, All, cases_lt, get_or-map, length-map, sum_by_more_le, All-nil, Super, Dinode, sizes_of, inode_of, is_free, numbers_by, numbers_by_node, numbers_by_free, data_start, Node, root_node, file_node, nodes_with, inode_for, used_by, blocks_before, blocks_of_node}
use Rattle.mkfs.proofs.Basics.{Shows, IsRange, free_inode, All-range}
use Rattle.mkfs.proofs.NodeNumbers.{inode-in}

-- ---- the inodes

pub inode-shown : (disk : List (List ℕ)) (size ninodes : ℕ) (nodes : List Node) (j : ℕ) (n : Node) → Shows disk size ninodes nodes → j < length nodes
    → inode_of disk (j + 1) ≡ inode_for (data_start ninodes + blocks_before j nodes) (get_or nodes j n)
inode-shown disk size ninodes nodes j n shows l =
    shows.inode j free_inode l ∙ inode-in (data_start ninodes) nodes j n free_inode l

-- each inode is a node's, or free
pub by-place : (P : ℕ → Type 0) (count ninodes : ℕ) → ((j : ℕ) → j < count → P (j + 1)) → ((i : ℕ) → count < i → i < ninodes → P i)
    → (i : ℕ) → 1 ≤ i → i < ninodes → P i
by-place P count ninodes node free i low high =
    ⊎_elim
    (λ (l : count < i). free i l high)
    (λ (l : i ≤ count). let is : i - 1 + 1 ≡ i = omega arith in subst P is (node (i - 1) (omega arith)))
    (cases_lt count i)

-- so what holds of the inode of each node, and of a free one, holds of each
pub at-inodes : (P : Dinode → Type 0) (disk : List (List ℕ)) (size ninodes : ℕ) (nodes : List Node) (n : Node) → Shows disk size ninodes nodes
    → ((j : ℕ) → j < length nodes → P (inode_for (data_start ninodes + blocks_before j nodes) (get_or nodes j n))) → P free_inode
    → (i : ℕ) → 1 ≤ i → i < (sizes_of disk).ninodes → P (inode_of disk i)
at-inodes P disk size ninodes nodes n shows node free i low high =
    let same : (sizes_of disk).ninodes ≡ ninodes = ap (λ (s : Super). s.ninodes) shows.sizes in
    by-place (λ k. P (inode_of disk k)) (length nodes) ninodes
    (λ j l. subst P (sym (inode-shown disk size ninodes nodes j n shows l)) (node j l))
    (λ k l m. subst P (sym (shows.free k l m)) free)
    i low (omega (arith, same))

-- ---- the root, and files

-- a directory or a file
pub record IsKind (node : Node) : Type 0 where
  pub kind : (node.kind ≡ pos 1) ⊎ (node.kind ≡ pos 2)

pub file-at : (contents : List (List ℕ)) (j : ℕ) (n : Node) → j < length (map file_node contents)
    → get_or (map file_node contents) j n ≡ file_node (get_or contents j [])
file-at contents j n l = get_or-map file_node contents j [] n (omega (arith, length-map contents file_node))

pub are-kinds : (root : List ℕ) (contents : List (List ℕ)) → All IsKind (nodes_with root contents)
are-kinds root contents zero n l = record { kind = inl refl }
are-kinds root contents (suc j) n l =
    let is : get_or (map file_node contents) j n ≡ file_node (get_or contents j []) = file-at contents j n (omega arith) in
    subst IsKind (sym is) (record { kind = inr refl })

pub used-kind : (first : ℕ) (node : Node) → IsKind node → is_free (inode_for first node) ≡ false
unfolding inode_for
used-kind first node h =
    ⊎_elim
    (λ (e : node.kind ≡ pos 1). rw e refl)
    (λ (e : node.kind ≡ pos 2). rw e refl)
    h.kind

-- ---- the blocks that they name

-- no node's blocks end after the last one that is used
pub blocks-within : (first : ℕ) (nodes : List Node) (j : ℕ) (n : Node) → j < length nodes
    → first + blocks_before j nodes + blocks_of_node (get_or nodes j n) ≤ used_by first nodes
blocks-within first nodes j n l = omega (arith, sum_by_more_le blocks_of_node nodes j n l)

-- the numbers of a node's inode are the range of its blocks
pub numbers-shown : (disk : List (List ℕ)) (size ninodes : ℕ) (nodes : List Node) (j : ℕ) (n : Node) → Shows disk size ninodes nodes → All IsKind nodes → j < length nodes
    → IsRange (numbers_by disk (j + 1)) (data_start ninodes + blocks_before j nodes) (blocks_of_node (get_or nodes j n))
numbers-shown disk size ninodes nodes j n shows kinds l =
    let first : ℕ = data_start ninodes + blocks_before j nodes in
    let node : Node = get_or nodes j n in
    let used : is_free (inode_of disk (j + 1)) ≡ false = ap is_free (inode-shown disk size ninodes nodes j n shows l) ∙ used-kind first node (kinds j n l) in
    let same = numbers_by_node disk (j + 1) used in
    let range = shows.numbers j n l in
    record { zeros = range.zeros; is = same ∙ range.is }

pub numbers-free : (disk : List (List ℕ)) (size ninodes : ℕ) (nodes : List Node) (i : ℕ) → Shows disk size ninodes nodes → length nodes < i → i < ninodes
    → numbers_by disk i ≡ []
numbers-free disk size ninodes nodes i shows l m = numbers_by_free disk i free_inode (sym (shows.free i l m)) refl

-- each number that is named is that of a block that is used
pub All-named : (Q : ℕ → Type 0) (disk : List (List ℕ)) (size ninodes : ℕ) (nodes : List Node) → Shows disk size ninodes nodes → All IsKind nodes
    → ((b : ℕ) → data_start ninodes ≤ b → b < used_by (data_start ninodes) nodes → Q b)
    → (i : ℕ) → 1 ≤ i → i < (sizes_of disk).ninodes → All (λ b. b ≢ 0 → Q b) (numbers_by disk i)
All-named Q disk size ninodes nodes shows kinds h i low high =
    let P : ℕ → Type 0 = λ b. b ≢ 0 → Q b in
    let n : Node = root_node [] in
    let same : (sizes_of disk).ninodes ≡ ninodes = ap (λ (s : Super). s.ninodes) shows.sizes in
    by-place (λ k. All P (numbers_by disk k)) (length nodes) ninodes
    (λ j l.
    let within = blocks-within (data_start ninodes) nodes j n l in
    All-range Q (numbers_by disk (j + 1)) (data_start ninodes + blocks_before j nodes) (blocks_of_node (get_or nodes j n))
    (numbers-shown disk size ninodes nodes j n shows kinds l)
    (λ b from to. h b (omega arith) (omega (arith, within))))
    (λ k l m. subst (All P) (sym (numbers-free disk size ninodes nodes k shows l m)) (All-nil P))
    i low (omega (arith, same))
