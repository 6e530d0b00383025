use Rattle.image_versions.specs.Shared.{addresses}
use Rattle.mkfs.proofs.Lemmas.{◌≡◌, List, ℕ, ℤ, pos, sym, ap, ◌∙◌, length, min, rules, w16, SFits, to_z-of_z, range_with_len, Dinode, node_blocks, inode_for, padded}
use Rattle.mkfs.proofs.parts.inode_for.Goals as goal

abbrev fields : ℤ → ℕ → List ℕ → Dinode
fields kind size addrs = record { kind = kind; major = pos 0; minor = pos 0; nlink = pos 1; size = size; addrs = addrs }

-- the fields as they are written
same : (kind : ℤ) (first n size : ℕ) (addrs content : List ℕ) → length content ≡ size → n ≡ node_blocks size
    → addrs ≡ padded addresses (range_with_len first (min n addresses)) → fields kind size addrs ≡ inode_for first (record { kind = kind; content = content })
unfolding inode_for
same kind first n size addrs content e f h =
    let blocks = h ∙ ap (λ (k : ℕ). padded addresses (range_with_len first (min k addresses))) (f ∙ ap node_blocks (sym e)) in
    ap (λ (k : ℕ). fields kind k addrs) (sym e) ∙ ap (fields kind (length content)) blocks

pub returns : goal.returns
returns c =
    λ content e.
    let fits : SFits w16 c.args.kind = search rules in
    simp to_z-of_z (same c.args.kind c.args.first c.node_blocks.result c.args.size c.addresses.result content e c.node_blocks.ensures.value c.addresses.ensures)
