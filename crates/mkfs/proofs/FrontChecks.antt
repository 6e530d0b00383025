-- The first checks pass: of the superblock and the log, of types, of the root.
use Rattle.mkfs.proofs.Vocabulary.{Version, magic_of, u32_at, block_at, ◌≡◌, ℕ, ◌+◌, ◌<◌, ◌≤◌, pos, List, [], length, get_or, ap, sym, refl, subst, ⊎_elim, arith, rules, All, ◌<ℤ◌, All-nil, Super, Dinode, sizes_of, IsOnce, IsGoodSuper, IsGoodType, HasSuper, HasGoodLog, HasGoodTypes, HasRoot, once_nil, data_start, super_for, Node, root_node, nodes_with, inode_for, blocks_before}
use Rattle.mkfs.proofs.Basics.{Shows, free_inode, Fits}
use Rattle.mkfs.proofs.ShownInodes.{IsKind, at-inodes, inode-shown}

-- ---- the superblock

good-super : (v : Version) (size ninodes : ℕ) (nodes : List Node) → 2 ≤ ninodes → ninodes ≤ 65535 → Fits size ninodes nodes → IsGoodSuper (super_for v size ninodes)
good-super v size ninodes nodes some few fits = record {
  size = fits.few;
  logstart = omega arith;
  nlog = omega arith;
  log = omega arith;
  few_inodes = some;
  many_inodes = few;
  inodes = omega arith;
  bitmap = omega (arith, fits.room);
}

pub has_super : (v : Version) (disk : List (List ℕ)) (size ninodes : ℕ) (nodes : List Node) → u32_at (block_at disk 1) 0 ≡ magic_of v
    → Shows disk size ninodes nodes → 2 ≤ ninodes → ninodes ≤ 65535 → Fits size ninodes nodes
    → HasSuper v disk
has_super v disk size ninodes nodes magic shows some few fits =
    (magic, subst IsGoodSuper (sym shows.sizes) (good-super (sizes_of disk).version size ninodes nodes some few fits))

pub has_blocks : (disk : List (List ℕ)) (size ninodes : ℕ) (nodes : List Node) → Shows disk size ninodes nodes → (sizes_of disk).size ≤ length disk
has_blocks disk size ninodes nodes shows =
    let same : (sizes_of disk).size ≡ size = ap (λ (s : Super). s.size) shows.sizes in
    omega (arith, same, shows.long)

-- ---- the log

pub has_log : (disk : List (List ℕ)) (size ninodes : ℕ) (nodes : List Node) → Shows disk size ninodes nodes → HasGoodLog disk
has_log disk size ninodes nodes shows =
    let P : ℕ → Type 0 = λ b. ((sizes_of disk).inodestart ≤ b) × (b < (sizes_of disk).size) in
    record {
      count = omega (arith, shows.count);
      room = omega (arith, shows.count);
      within = subst (All P) (sym shows.empty) (All-nil P);
      once = subst IsOnce (sym shows.empty) once_nil;
    }

-- ---- types

good-kind : (first : ℕ) (node : Node) → IsKind node → IsGoodType (inode_for first node)
unfolding inode_for
good-kind first node h =
    ⊎_elim
    (λ (e : node.kind ≡ pos 1). rw e (search rules, search rules, λ n. search rules))
    (λ (e : node.kind ≡ pos 2). rw e (search rules, search rules, λ n. search rules))
    h.kind

free-kind : IsGoodType free_inode
free-kind = (search rules, search rules, λ n. absurd (n refl))

pub has_types : (disk : List (List ℕ)) (size ninodes : ℕ) (nodes : List Node) → Shows disk size ninodes nodes → All IsKind nodes → HasGoodTypes disk
has_types disk size ninodes nodes shows kinds =
    let n : Node = root_node [] in
    at-inodes IsGoodType disk size ninodes nodes n shows
    (λ j l. good-kind (data_start ninodes + blocks_before j nodes) (get_or nodes j n) (kinds j n l))
    free-kind

-- ---- the root

IsRoot : Dinode → Type 0
IsRoot d = (d.kind ≡ pos 1) × (pos 0 <ℤ d.nlink)

root-kind : (first : ℕ) (root : List ℕ) → IsRoot (inode_for first (root_node root))
unfolding IsRoot inode_for
root-kind first root = (refl, search rules)

pub has_root : (disk : List (List ℕ)) (size ninodes : ℕ) (root : List ℕ) (contents : List (List ℕ)) → Shows disk size ninodes (nodes_with root contents) → HasRoot disk
unfolding IsRoot
has_root disk size ninodes root contents shows =
    let nodes : List Node = nodes_with root contents in
    let is = inode-shown disk size ninodes nodes 0 (root_node []) shows (omega arith) in
    subst IsRoot (sym is) (root-kind (data_start ninodes + blocks_before 0 nodes) root)
