-- The content of a node, block by block, as the image shows it.
use Rattle.image_versions.specs.Shared.{direct}
use Rattle.fs_layout.specs.Widths.{block_len}
use Rattle.mkfs.proofs.Vocabulary.{Version, ◌≡◌, ℕ, ◌+◌, ◌*◌, ◌<◌, ◌≤◌, List, length, take, drop, get_or, ap, ◌∙◌, ⊎_elim, arith, All, cases_lt, recovered, inode_of, numbers_of, block_number, content_block, data_start, node_blocks, Node, whole, blocks_before, blocks_of_node}
use Rattle.mkfs.proofs.Basics.{Fits, blocks-small, blocks-large, disk_of, in-range}
use Rattle.mkfs.proofs.Records.{IsNode}
use Rattle.mkfs.proofs.NodeBlocks.{node-block, place, place-below, place-behind, block-of-content}
use Rattle.mkfs.proofs.NodeNumbers.{numbers-there}

-- a block of the content is one of the node's
pub place-within : (size k : ℕ) → block_len * k < size → place k < node_blocks size
place-within size k h =
    ⊎_elim
    (λ (more : 12288 < size).
    ⊎_elim
    (λ (low : k < direct). omega (arith, place-below k low, blocks-large size more))
    (λ (high : direct ≤ k). omega (arith, place-behind k high, blocks-large size more))
    (cases_lt k direct))
    (λ (less : size ≤ 12288).
    let low : k < direct = omega arith in
    omega (arith, place-below k low, blocks-small size less))
    (cases_lt 12288 size)

-- the number of a block of the content
pub block_number-there : (v : Version) (size ninodes : ℕ) (nodes : List Node) (j k : ℕ) (n : Node) → ninodes ≤ 65535 → Fits size ninodes nodes → All IsNode nodes → j < length nodes
    → block_len * k < length (get_or nodes j n).content
    → block_number (numbers_of (disk_of v size ninodes nodes) (inode_of (disk_of v size ninodes nodes) (j + 1))) k ≡ data_start ninodes + blocks_before j nodes + place k
block_number-there v size ninodes nodes j k n few h all l in_content =
    let disk : List (List ℕ) = disk_of v size ninodes nodes in
    let node : Node = get_or nodes j n in
    in-range (numbers_of disk (inode_of disk (j + 1))) (data_start ninodes + blocks_before j nodes) (blocks_of_node node) (place k)
    (numbers-there v size ninodes nodes j n few h all l) (place-within (length node.content) k in_content)

pub content-there : (v : Version) (size ninodes : ℕ) (nodes : List Node) (j k : ℕ) (n : Node) → ninodes ≤ 65535 → Fits size ninodes nodes → All IsNode nodes → j < length nodes
    → block_len * k < length (get_or nodes j n).content
    → content_block (disk_of v size ninodes nodes) (inode_of (disk_of v size ninodes nodes) (j + 1)) k ≡ take block_len (drop (block_len * k) (whole (get_or nodes j n).content))
unfolding content_block
content-there v size ninodes nodes j k n few h all l in_content =
    let disk : List (List ℕ) = disk_of v size ninodes nodes in
    let first : ℕ = data_start ninodes + blocks_before j nodes in
    let node : Node = get_or nodes j n in
    ap (recovered disk) (block_number-there v size ninodes nodes j k n few h all l in_content)
    ∙ node-block v size ninodes nodes j (place k) n few h l (place-within (length node.content) k in_content)
    ∙ block-of-content first node.content k in_content (h.contents j n l)
