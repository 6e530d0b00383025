use Rattle.std.proofs.Common.{◌≡◌, ◌∙◌, ap, ℕ, List, length, min, rules, w16, SFits}
use Rattle.image_versions.specs.Shared.{addresses}
use Rattle.fs_layout.proofs.Vocabulary.{to_z-of_z}
use Rattle.migration.specs.Vocabulary.{Dinode, node_blocks, padded, range_with_len}
use Rattle.migration.specs.Nodes.{Node, node_of}
use Rattle.migration.specs.Image.{inode_for}
use Rattle.migration.proofs.parts.inode_for.Goals as goal

abbrev fields : Node → ℕ → List ℕ → Dinode
fields node size addrs = record { kind = node.kind; major = node.major; minor = node.minor; nlink = node.nlink; size = size; addrs = addrs }

-- the fields as they are written
same : (node : Node) (first n size : ℕ) (addrs : List ℕ) → size ≡ length node.content → n ≡ node_blocks size
    → addrs ≡ padded addresses (range_with_len first (min n addresses)) → fields node size addrs ≡ inode_for first node
unfolding inode_for
same node first n size addrs e f h =
    ap (λ (k : ℕ). fields node k addrs) e
    ∙ ap (fields node (length node.content)) (h ∙ ap (λ (k : ℕ). padded addresses (range_with_len first (min k addresses))) (f ∙ ap node_blocks e))

pub returns : goal.returns
returns c =
    let node : Node = node_of c.args.node.now in
    let kind : SFits w16 c.args.node.now.kind = search rules in
    let major : SFits w16 c.args.node.now.major = search rules in
    let minor : SFits w16 c.args.node.now.minor = search rules in
    let nlink : SFits w16 c.args.node.now.nlink = search rules in
    simp to_z-of_z
    (same node c.args.first c.node_blocks.result (length c.as_slice-content.result.now) c.addresses.result
    (ap (λ (bytes : List ℕ). length bytes) c.as_slice-content.ensures.value) c.node_blocks.ensures.value c.addresses.ensures)
