-- The numbers of a node's blocks, as its inode and the block of its numbers have them.
use Rattle.image_versions.specs.Shared.{addresses, direct, numbers_per_block}
use Rattle.image_versions.specs.Shared.{largest_size}
use Rattle.mkfs.proofs.Vocabulary.{Version, ◌≡◌, ℕ, zero, suc, ◌+◌, ◌-◌, ◌<◌, ◌≤◌, ◌^◌, eqb, min, Bool, false, cond, List, [], ◌∷◌, ◌++◌, length, take, replicate, get_or, ap, ◌∙◌, sym, ⊎_elim, arith, append_assoc, All, range_with_len, cases_lt, ne_eqb, append-nil, get_or-append_right, get_or_append_left, get_or-replicate, length-range_with_len, get_or-range_with_len, sum_by-cons, sum_by_more_le, Dinode, numbers_in, spell_numbers, recovered, numbers_in-spell, inode_of, numbers_of, blocks_for, data_start, Node, padded, inode_for, inodes_from, blocks_before, blocks_of_node}
use Rattle.mkfs.proofs.Basics.{length-padded, Fits, blocks-small, blocks-large, disk_of, IsRange, range-append}
use Rattle.mkfs.proofs.Records.{IsNode, all-append, all-range, all-zeros}
use Rattle.mkfs.proofs.NodeInodes.{inode-is}
use Rattle.mkfs.proofs.NodeBlocks.{node-block, block-of-numbers}

-- ---- the inode

pub inode-in : (first : ℕ) (nodes : List Node) (j : ℕ) (n : Node) (d : Dinode) → j < length nodes
    → get_or (inodes_from first nodes) j d ≡ inode_for (first + blocks_before j nodes) (get_or nodes j n)
inode-in first [] j n d h = absurd (omega arith)
inode-in first (node ∷ nodes) zero n d h = let e : first ≡ first + 0 = omega arith in ap (λ (i : ℕ). inode_for i node) e
inode-in first (node ∷ nodes) (suc j) n d h =
    let count : ℕ = blocks_of_node node in
    let place : first + count + blocks_before j nodes ≡ first + blocks_before (suc j) (node ∷ nodes) = omega (arith, sum_by-cons blocks_of_node node (take j nodes)) in
    inode-in (first + count) nodes j n d (omega arith) ∙ ap (λ (i : ℕ). inode_for i (get_or nodes j n)) place

pub inode-for-there : (v : Version) (size ninodes : ℕ) (nodes : List Node) (j : ℕ) (n : Node) → ninodes ≤ 65535 → Fits size ninodes nodes → All IsNode nodes → j < length nodes
    → inode_of (disk_of v size ninodes nodes) (j + 1) ≡ inode_for (data_start ninodes + blocks_before j nodes) (get_or nodes j n)
inode-for-there v size ninodes nodes j n few h all l =
    let d : Dinode = inode_for 0 n in
    inode-is v size ninodes nodes j d few h all l ∙ inode-in (data_start ninodes) nodes j n d l

-- ---- its addresses

-- the address of the indirect block, if there is one
twelfth : (first n : ℕ) → addresses ≤ n → get_or (padded addresses (range_with_len first (min n addresses))) direct 0 ≡ first + direct
unfolding padded
twelfth first n h =
    let numbers : List ℕ = range_with_len first (min n addresses) in
    let long : direct < length numbers = omega (arith, length-range_with_len first (min n addresses)) in
    get_or_append_left numbers (replicate (addresses - length numbers) 0) 0 direct long
    ∙ get_or-range_with_len first (min n addresses) direct 0 (omega arith)

no-twelfth : (first n : ℕ) → n ≤ direct → get_or (padded addresses (range_with_len first (min n addresses))) direct 0 ≡ 0
unfolding padded
no-twelfth first n h =
    let numbers : List ℕ = range_with_len first (min n addresses) in
    let count : ℕ = addresses - length numbers in
    let none : ℕ = 0 in
    let long : length numbers ≡ min n addresses = length-range_with_len first (min n addresses) in
    get_or-append_right numbers (replicate count 0) (min n addresses) direct 0 long (omega arith)
    ∙ get_or-replicate count (direct - min n addresses) none none (omega (arith, long))

addrs-small : (first n : ℕ) → n ≤ direct → padded addresses (range_with_len first (min n addresses)) ≡ range_with_len first n ++ replicate (addresses - n) 0
unfolding padded
addrs-small first n h =
    let count : min n addresses ≡ n = omega arith in
    ap (λ (i : ℕ). range_with_len first i ++ replicate (addresses - length (range_with_len first i)) 0) count
    ∙ ap (λ (i : ℕ). range_with_len first n ++ replicate (addresses - i) 0) (length-range_with_len first n)

addrs-large : (first n : ℕ) → addresses ≤ n → padded addresses (range_with_len first (min n addresses)) ≡ range_with_len first addresses
unfolding padded
addrs-large first n h =
    let count : min n addresses ≡ addresses = omega arith in
    ap (λ (i : ℕ). range_with_len first i ++ replicate (addresses - length (range_with_len first i)) 0) count
    ∙ ap (λ (i : ℕ). range_with_len first addresses ++ replicate (addresses - i) 0) (length-range_with_len first addresses)
    ∙ append-nil (range_with_len first addresses)

-- ---- the numbers of a node with at most twelve blocks, and of one with more

-- the numbers in the block at this address, if there is one
abbrev behind : List (List ℕ) → ℕ → List ℕ
behind disk address = cond (eqb address 0) [] (numbers_in (recovered disk address))

few-numbers : (disk : List (List ℕ)) (first : ℕ) (node : Node) → blocks_of_node node ≤ direct
    → numbers_of disk (inode_for first node) ≡ range_with_len first (blocks_of_node node) ++ replicate (addresses - blocks_of_node node) 0
unfolding numbers_of inode_for
few-numbers disk first node h =
    let n : ℕ = blocks_of_node node in
    let addrs : List ℕ = padded addresses (range_with_len first (min n addresses)) in
    ap (λ (a : ℕ). addrs ++ behind disk a) (no-twelfth first n h) ∙ append-nil addrs ∙ addrs-small first n h

many-numbers : (disk : List (List ℕ)) (first : ℕ) (node : Node) → addresses ≤ blocks_of_node node
    → numbers_in (recovered disk (first + direct)) ≡ padded numbers_per_block (range_with_len (first + addresses) (blocks_of_node node - addresses))
    → numbers_of disk (inode_for first node) ≡ range_with_len first (blocks_of_node node) ++ replicate (256 - (blocks_of_node node - addresses)) 0
unfolding numbers_of inode_for padded
many-numbers disk first node h there =
    let n : ℕ = blocks_of_node node in
    let addrs : List ℕ = padded addresses (range_with_len first (min n addresses)) in
    let further : List ℕ = range_with_len (first + addresses) (n - addresses) in
    let zeros : ℕ → List ℕ = λ k. replicate (256 - k) 0 in
    let not : eqb (first + direct) 0 ≡ false = ne_eqb (first + direct) 0 (λ e. omega arith) in
    let all : addresses + (n - addresses) ≡ n = omega arith in
    ap (λ (a : ℕ). addrs ++ behind disk a) (twelfth first n h)
    ∙ ap (λ (b : Bool). addrs ++ cond b [] (numbers_in (recovered disk (first + direct)))) not
    ∙ ap (λ (xs : List ℕ). addrs ++ xs) there
    ∙ ap (λ (xs : List ℕ). xs ++ (further ++ zeros (length further))) (addrs-large first n h)
    ∙ sym (append_assoc (range_with_len first addresses) further (zeros (length further)))
    ∙ ap (λ (xs : List ℕ). xs ++ zeros (length further)) (range-append first addresses (n - addresses) ∙ ap (range_with_len first) all)
    ∙ ap (λ (k : ℕ). range_with_len first n ++ zeros k) (length-range_with_len (first + addresses) (n - addresses))

-- what was spelled in the block of the numbers is read
read-numbers : (first count : ℕ) → first + count < 2 ^ 32 → count ≤ numbers_per_block
    → numbers_in (spell_numbers (padded numbers_per_block (range_with_len first count))) ≡ padded numbers_per_block (range_with_len first count)
unfolding padded
read-numbers first count h few =
    let numbers : List ℕ = range_with_len first count in
    let long : length numbers ≤ numbers_per_block = omega (arith, length-range_with_len first count) in
    let zeros : ℕ = numbers_per_block - length numbers in
    numbers_in-spell (padded numbers_per_block numbers) (length-padded numbers_per_block numbers long) (all-append numbers (replicate zeros 0) (all-range first count h) (all-zeros zeros))

-- ---- in an image

pub numbers-there : (v : Version) (size ninodes : ℕ) (nodes : List Node) (j : ℕ) (n : Node) → ninodes ≤ 65535 → Fits size ninodes nodes → All IsNode nodes → j < length nodes
    → IsRange (numbers_of (disk_of v size ninodes nodes) (inode_of (disk_of v size ninodes nodes) (j + 1)))
    (data_start ninodes + blocks_before j nodes) (blocks_of_node (get_or nodes j n))
numbers-there v size ninodes nodes j n few h all l =
    let disk : List (List ℕ) = disk_of v size ninodes nodes in
    let first : ℕ = data_start ninodes + blocks_before j nodes in
    let node : Node = get_or nodes j n in
    let bytes : ℕ = length node.content in
    let count : ℕ = blocks_of_node node in
    let most : bytes ≤ largest_size = h.contents j n l in
    let room : first + count ≤ size = omega (arith, h.room, sum_by_more_le blocks_of_node nodes j n l) in
    let inode = inode-for-there v size ninodes nodes j n few h all l in
    ⊎_elim
    (λ (more : 12288 < bytes).
    let blocks : count ≡ blocks_for bytes + 1 = blocks-large bytes more in
    let many : addresses ≤ count = omega (arith, blocks) in
    let rest : blocks_for bytes - direct ≡ count - addresses = omega (arith, blocks) in
    let within : direct < count = omega (arith, many) in
    let there : numbers_in (recovered disk (first + direct)) ≡ padded numbers_per_block (range_with_len (first + addresses) (count - addresses)) =
    ap numbers_in (node-block v size ninodes nodes j direct n few h l within ∙ block-of-numbers first node.content more most)
    ∙ ap (λ (k : ℕ). numbers_in (spell_numbers (padded numbers_per_block (range_with_len (first + addresses) k)))) rest
    ∙ read-numbers (first + addresses) (count - addresses) (omega (arith, room, h.few)) (omega (arith, blocks)) in
    let is : IsRange (numbers_of disk (inode_of disk (j + 1))) first count =
    record { zeros = numbers_per_block - (count - addresses); is = ap (numbers_of disk) inode ∙ many-numbers disk first node many there } in
    is)
    (λ (less : bytes ≤ 12288).
    let blocks : count ≡ blocks_for bytes = blocks-small bytes less in
    let some : count ≤ direct = omega (arith, blocks) in
    let is : IsRange (numbers_of disk (inode_of disk (j + 1))) first count =
    record { zeros = addresses - count; is = ap (numbers_of disk) inode ∙ few-numbers disk first node some } in
    is)
    (cases_lt 12288 bytes)
