-- The checks of block numbers pass: each is a data block's, none is named twice, and their bits are set.
use Rattle.mkfs.proofs.Vocabulary.{◌≡◌, ℕ, zero, suc, ◌+◌, ◌-◌, ◌<◌, ◌≤◌, true, List, [], ◌++◌, length, get_or, filter, ap, ◌∙◌, sym, refl, subst, arith, All, range_with_len, lt-ltb, append-nil, sum_by_more, Super, sizes_of, named_by, numbers_by, is_block, last, IsOnce, gathered, IsData, HasGoodNumbers, NamesOnce, HasMarks, is_marked, data_start, Node, root_node, used_by, blocks_before, blocks_of_node}
use Rattle.mkfs.proofs.Basics.{Fits, range-append, range-once, blocks-of-range, Shows}
use Rattle.mkfs.proofs.ShownInodes.{IsKind, numbers-shown, numbers-free, All-named}

pub has_numbers : (disk : List (List ℕ)) (size ninodes : ℕ) (nodes : List Node) → Shows disk size ninodes nodes → All IsKind nodes → Fits size ninodes nodes → HasGoodNumbers disk
has_numbers disk size ninodes nodes shows kinds fits =
    All-named (IsData (sizes_of disk)) disk size ninodes nodes shows kinds
    (λ b low high. subst (λ (s : Super). IsData s b) (sym shows.sizes) (omega arith, omega (arith, fits.room)))

-- ---- no block is named twice

named-shown : (disk : List (List ℕ)) (size ninodes : ℕ) (nodes : List Node) (j : ℕ) (n : Node) → Shows disk size ninodes nodes → All IsKind nodes → j < length nodes
    → named_by disk (j + 1) ≡ range_with_len (data_start ninodes + blocks_before j nodes) (blocks_of_node (get_or nodes j n))
named-shown disk size ninodes nodes j n shows kinds l =
    blocks-of-range (numbers_by disk (j + 1)) (data_start ninodes + blocks_before j nodes) (blocks_of_node (get_or nodes j n)) (omega arith)
    (numbers-shown disk size ninodes nodes j n shows kinds l)

-- the first inodes name the first blocks of the data, in order
gathered-shown : (disk : List (List ℕ)) (size ninodes : ℕ) (nodes : List Node) (j : ℕ) → Shows disk size ninodes nodes → All IsKind nodes → j ≤ length nodes
    → gathered (named_by disk) j ≡ range_with_len (data_start ninodes) (blocks_before j nodes)
unfolding gathered
gathered-shown disk size ninodes nodes zero shows kinds h = refl
gathered-shown disk size ninodes nodes (suc j) shows kinds h =
    let n : Node = root_node [] in
    let first : ℕ = data_start ninodes in
    let before : ℕ = blocks_before j nodes in
    let count : ℕ = blocks_of_node (get_or nodes j n) in
    let next : suc j ≡ j + 1 = omega arith in
    let sum : before + count ≡ blocks_before (suc j) nodes = sym (sum_by_more blocks_of_node nodes j n h) ∙ ap (λ (k : ℕ). blocks_before k nodes) (sym next) in
    ap (λ (xs : List ℕ). xs ++ named_by disk (suc j)) (gathered-shown disk size ninodes nodes j shows kinds (omega arith))
    ∙ ap (λ (k : ℕ). range_with_len first before ++ named_by disk k) next
    ∙ ap (λ (xs : List ℕ). range_with_len first before ++ xs) (named-shown disk size ninodes nodes j n shows kinds h)
    ∙ range-append first before count
    ∙ ap (range_with_len first) sum

-- and the free ones none
gathered-free : (disk : List (List ℕ)) (size ninodes : ℕ) (nodes : List Node) (k : ℕ) → Shows disk size ninodes nodes → length nodes + k < ninodes
    → gathered (named_by disk) (length nodes + k) ≡ gathered (named_by disk) (length nodes)
unfolding gathered
gathered-free disk size ninodes nodes zero shows h = let same : length nodes + 0 ≡ length nodes = omega arith in ap (gathered (named_by disk)) same
gathered-free disk size ninodes nodes (suc k) shows h =
    let next : length nodes + suc k ≡ suc (length nodes + k) = omega arith in
    let none = numbers-free disk size ninodes nodes (suc (length nodes + k)) shows (omega arith) (omega arith) in
    ap (gathered (named_by disk)) next
    ∙ ap (λ (xs : List ℕ). gathered (named_by disk) (length nodes + k) ++ filter is_block xs) none
    ∙ append-nil (gathered (named_by disk) (length nodes + k))
    ∙ gathered-free disk size ninodes nodes k shows (omega arith)

pub names_once : (disk : List (List ℕ)) (size ninodes : ℕ) (nodes : List Node) → Shows disk size ninodes nodes → All IsKind nodes → Fits size ninodes nodes → NamesOnce disk
names_once disk size ninodes nodes shows kinds fits =
    let same : (sizes_of disk).ninodes ≡ ninodes = ap (λ (s : Super). s.ninodes) shows.sizes in
    let end : last disk ≡ length nodes + (ninodes - 1 - length nodes) = omega (arith, same, fits.inodes) in
    let all = ap (gathered (named_by disk)) end
    ∙ gathered-free disk size ninodes nodes (ninodes - 1 - length nodes) shows (omega (arith, fits.inodes))
    ∙ gathered-shown disk size ninodes nodes (length nodes) shows kinds (omega arith) in
    subst IsOnce (sym all) (range-once (data_start ninodes) (blocks_before (length nodes) nodes))

-- ---- the bits

pub has_marks : (disk : List (List ℕ)) (size ninodes : ℕ) (nodes : List Node) → Shows disk size ninodes nodes → All IsKind nodes → Fits size ninodes nodes → HasMarks disk
has_marks disk size ninodes nodes shows kinds fits =
    let used : ℕ = used_by (data_start ninodes) nodes in
    let start : (sizes_of disk).bmapstart + 1 ≡ data_start ninodes = ap (λ (s : Super). s.bmapstart + 1) shows.sizes in
    let marked : (b : ℕ) → b < used → is_marked disk b ≡ true = (λ b l. shows.bits b (omega (arith, fits.room, fits.few)) ∙ lt-ltb b used l) in
    record {
      front = λ b l. marked b (omega (arith, start));
      named = All-named (λ b. is_marked disk b ≡ true) disk size ninodes nodes shows kinds (λ b low high. marked b high);
    }
