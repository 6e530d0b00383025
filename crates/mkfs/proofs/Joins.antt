-- The parts of an image, as they are appended.
use Rattle.fs_layout.specs.Widths.{block_len, inode_len, inodes_per_block}
use Rattle.mkfs.proofs.Vocabulary.{Version, ◌≡◌, ℕ, ◌+◌, ◌-◌, ◌*◌, suc, List, [], ◌∷◌, ◌++◌, length, map, replicate, sum_by, ap, ◌∙◌, sym, refl, arith, append_assoc, flat_map, sum_by-cons, spell_dinode, spell_super, node_blocks, file_blocks, inode_blocks, data_start, super_for, Node, padded, front, inode_for, inodes_from, inode_table, bitmap, data_from, used_by, image_with, nodes_with, root_node, file_node, blocks_of_node}

pub sum-files : (contents : List (List ℕ)) → sum_by blocks_of_node (map file_node contents) ≡ file_blocks contents
sum-files [] = refl
sum-files (content ∷ contents) =
    sum_by-cons blocks_of_node (file_node content) (map file_node contents)
    ∙ ap (λ (n : ℕ). node_blocks (length content) + n) (sum-files contents)
    ∙ sym (sum_by-cons (λ (bytes : List ℕ). node_blocks (length bytes)) content contents)

pub used-parts : (first : ℕ) (root : List ℕ) (contents : List (List ℕ))
    → first + node_blocks (length root) + file_blocks contents ≡ used_by first (nodes_with root contents)
used-parts first root contents =
    let all = sum_by-cons blocks_of_node (root_node root) (map file_node contents) in
    let files = sum-files contents in
    let n : ℕ = node_blocks (length root) in
    let sum : sum_by blocks_of_node (nodes_with root contents) ≡ n + file_blocks contents = all ∙ ap (λ (k : ℕ). n + k) files in
    let regroup : (a b c : ℕ) → a + b + c ≡ a + (b + c) = λ a b c. omega arith in
    regroup first n (file_blocks contents) ∙ ap (λ (k : ℕ). first + k) (sym sum)

pub front-parts : (v : Version) (old : List ℕ) (size ninodes : ℕ)
    → ((old ++ replicate block_len 0) ++ padded block_len (spell_super (super_for v size ninodes))) ++ replicate 31744 0 ≡ old ++ front v size ninodes
unfolding front
front-parts v old size ninodes =
    let a : List ℕ = replicate block_len 0 in
    let b : List ℕ = padded block_len (spell_super (super_for v size ninodes)) in
    let c : List ℕ = replicate 31744 0 in
    ap (λ (xs : List ℕ). xs ++ c) (append_assoc old a b) ∙ append_assoc old (a ++ b) c

pub table-parts : (old : List ℕ) (ninodes first k : ℕ) (node : Node) (nodes : List Node)
    → k ≡ inode_len * (inodes_per_block * inode_blocks ninodes - (2 + length nodes))
    → (((old ++ replicate inode_len 0) ++ spell_dinode (inode_for first node)) ++ flat_map spell_dinode (inodes_from (first + blocks_of_node node) nodes)) ++ replicate k 0
    ≡ old ++ inode_table ninodes first (node ∷ nodes)
unfolding inode_table
table-parts old ninodes first k node nodes h =
    let a : List ℕ = replicate inode_len 0 in
    let b : List ℕ = spell_dinode (inode_for first node) in
    let c : List ℕ = flat_map spell_dinode (inodes_from (first + blocks_of_node node) nodes) in
    let count : 2 + length nodes ≡ 1 + suc (length nodes) = omega arith in
    ap (λ (xs : List ℕ). (xs ++ c) ++ replicate k 0) (append_assoc old a b)
    ∙ ap (λ (xs : List ℕ). xs ++ replicate k 0) (append_assoc old (a ++ b) c ∙ ap (λ (xs : List ℕ). old ++ xs) (append_assoc a b c))
    ∙ append_assoc old (a ++ (b ++ c)) (replicate k 0)
    ∙ ap (λ (n : ℕ). old ++ ((a ++ (b ++ c)) ++ replicate n 0)) (h ∙ ap (λ (n : ℕ). inode_len * (inodes_per_block * inode_blocks ninodes - n)) count)

pub image-parts : (v : Version) (old : List ℕ) (size ninodes used : ℕ) (nodes : List Node) → used ≡ used_by (data_start ninodes) nodes
    → ((((old ++ front v size ninodes) ++ inode_table ninodes (data_start ninodes) nodes) ++ bitmap used) ++ data_from (data_start ninodes) nodes) ++ replicate (block_len * (size - used)) 0
    ≡ old ++ image_with v size ninodes nodes
unfolding image_with
image-parts v old size ninodes used nodes h =
    let a : List ℕ = front v size ninodes in
    let b : List ℕ = inode_table ninodes (data_start ninodes) nodes in
    let d : List ℕ = data_from (data_start ninodes) nodes in
    let c : ℕ → List ℕ = λ n. bitmap n in
    let e : ℕ → List ℕ = λ n. replicate (block_len * (size - n)) 0 in
    ap (λ (n : ℕ). ((((old ++ a) ++ b) ++ c n) ++ d) ++ e n) h
    ∙ ap (λ (xs : List ℕ). ((xs ++ c (used_by (data_start ninodes) nodes)) ++ d) ++ e (used_by (data_start ninodes) nodes)) (append_assoc old a b)
    ∙ ap (λ (xs : List ℕ). (xs ++ d) ++ e (used_by (data_start ninodes) nodes)) (append_assoc old (a ++ b) (c (used_by (data_start ninodes) nodes)))
    ∙ ap (λ (xs : List ℕ). xs ++ e (used_by (data_start ninodes) nodes)) (append_assoc old ((a ++ b) ++ c (used_by (data_start ninodes) nodes)) d)
    ∙ append_assoc old (((a ++ b) ++ c (used_by (data_start ninodes) nodes)) ++ d) (e (used_by (data_start ninodes) nodes))
