-- Of an image that can be made the checks up to that of sizes pass.
use Rattle.mkfs.proofs.Vocabulary.{Version, magic_of, u32_at, block_at, ◌≡◌, ℕ, ◌≤◌, List, length, arith, All, UpToShort, UpToLog, UpToRoot, UpToMarks, UpToSizes, Node, nodes_with, root_content, CanBeMade}
use Rattle.mkfs.proofs.Basics.{Fits, Shows}
use Rattle.mkfs.proofs.Wanted.{fits, root_long}
use Rattle.mkfs.proofs.ShownInodes.{IsKind, are-kinds}
use Rattle.mkfs.proofs.FrontChecks.{has_super, has_blocks, has_log, has_types, has_root}
use Rattle.mkfs.proofs.NumberChecks.{has_numbers, names_once, has_marks}
use Rattle.mkfs.proofs.SizeChecks.{HasSlots, have-slots, has_sizes}

up_to_log : (v : Version) (disk : List (List ℕ)) (size ninodes : ℕ) (nodes : List Node) → u32_at (block_at disk 1) 0 ≡ magic_of v → Shows disk size ninodes nodes → 2 ≤ ninodes → ninodes ≤ 65535 → Fits size ninodes nodes
    → UpToLog v disk
up_to_log v disk size ninodes nodes magic shows some few fit =
    let short : UpToShort disk = omega (arith, shows.long, fit.room) in
    (((short, has_super v disk size ninodes nodes magic shows some few fit), has_blocks disk size ninodes nodes shows), has_log disk size ninodes nodes shows)

pub up_to_sizes : (v : Version) (disk : List (List ℕ)) (size ninodes : ℕ) (names contents : List (List ℕ)) → length names ≡ length contents → CanBeMade v size ninodes names contents
    → u32_at (block_at disk 1) 0 ≡ magic_of v → Shows disk size ninodes (nodes_with (root_content v names) contents) → UpToSizes v disk
up_to_sizes v disk size ninodes names contents many can magic shows =
    let root : List ℕ = root_content v names in
    let nodes : List Node = nodes_with root contents in
    let fit : Fits size ninodes nodes = fits v size ninodes names contents many can in
    let kinds : All IsKind nodes = are-kinds root contents in
    let slots : All (HasSlots v) nodes = have-slots v root contents (length contents) (root_long v size ninodes names contents many can) in
    let log : UpToLog v disk = up_to_log v disk size ninodes nodes magic shows can.0.0.0.0.some_inodes can.0.0.0.0.few_inodes fit in
    let root_there : UpToRoot v disk = ((log, has_types disk size ninodes nodes shows kinds), has_root disk size ninodes root contents shows) in
    let marks : UpToMarks v disk =
    (((root_there, has_numbers disk size ninodes nodes shows kinds fit), names_once disk size ninodes nodes shows kinds fit), has_marks disk size ninodes nodes shows kinds fit) in
    (marks, has_sizes v disk size ninodes nodes shows fit.contents slots)
