-- Apart from its inodes, the blocks of a new image are those of an image of files with the same contents.
use Rattle.std.proofs.Common.{◌≡◌, ◌∙◌, sym, refl, ap, subst, arith, ℕ, suc, ◌+◌, ◌-◌, ◌*◌, ◌<◌, ◌≤◌, ◌⊎◌, inl, ⊎_elim, List, [], ◌∷◌, ◌++◌, length, take, drop, replicate, append_assoc, length-append, length-drop}
use Rattle.std.proofs.lemmas.List.{drop-append-le, drop-drop, drop_at, get_or_past, take-append-le}
use Rattle.std.proofs.lemmas.List.Elements.{All-cons, All-nil}
use Rattle.std.proofs.lemmas.Bool.{cases_lt}
use Rattle.fs_layout.specs.Widths.{block_len, inode_len, inodes_per_block}
use Rattle.block_device.specs.Blocks.{block_at}
use Rattle.block_device.specs.BlockLaws.{get_or-blocks_of, length-blocks_of}
use Rattle.image_versions.specs.declared.version.Version.{Version}
use Rattle.fs_layout.specs.declared.superblock.Super.{Super}
use Rattle.fs_layout.proofs.Inodes.{length-spell_dinode}
use Rattle.fs_layout.proofs.RecoveredDisk.{logged-same, recovered-empty, sizes_of-same}
use Rattle.image_tree.specs.Vocabulary.{logged, recovered}
use Rattle.mkfs.specs.Image.{data_from as files_from, image_with as image_of_files, inode_table as table_of_files}
use Rattle.mkfs.specs.Layout.{bitmap_start, super_for}
use Rattle.mkfs.proofs.Lengths.{length-front, length-image as length-of_files, length-table as length-table_of_files, length-zeros}
use Rattle.mkfs.proofs.Pieces.{AreLong, length-records}
use Rattle.mkfs.proofs.Places.{disk_of, log-empty, sizes-there}
use Rattle.migration.specs.Vocabulary.{Dinode, bitmap, blocks_of, data_start, flat_map, front, inode_blocks, sizes_of, spell_dinode}
use Rattle.migration.specs.Nodes.{Node}
use Rattle.migration.specs.Image.{blocks_of_node, data_from, image_with, inode_for, inode_table, inodes_from, used_by}
use Rattle.migration.proofs.Steps.{length-addrs}
use Rattle.migration.proofs.PlainNodes.{IsLaid, data-same, plain-count, plains, plains-fit, used-same}

-- the disk of a new image, and that of the files
abbrev pub new_disk : Version → ℕ → ℕ → List Node → List (List ℕ)
new_disk v size ninodes nodes = blocks_of (image_with v size ninodes nodes)

abbrev pub files_disk : Version → ℕ → ℕ → List Node → List (List ℕ)
files_disk v size ninodes nodes = disk_of v size ninodes (plains nodes)

-- ---- the inodes' bytes

pub count-inodes : (first : ℕ) (nodes : List Node) → length (inodes_from first nodes) ≡ length nodes
count-inodes first [] = refl
count-inodes first (node ∷ nodes) = ap suc (count-inodes (first + blocks_of_node node) nodes)

pub long-inodes : (first : ℕ) (nodes : List Node) → AreLong spell_dinode inode_len (inodes_from first nodes)
long-inodes first [] = All-nil (λ (d : Dinode). length (spell_dinode d) ≡ inode_len)
long-inodes first (node ∷ nodes) =
    let behind : ℕ = first + blocks_of_node node in
    All-cons (λ (d : Dinode). length (spell_dinode d) ≡ inode_len) (inode_for first node) (inodes_from behind nodes)
    (length-spell_dinode (inode_for first node) (length-addrs first node)) (long-inodes behind nodes)

pub length-inodes : (first : ℕ) (nodes : List Node) → length (flat_map spell_dinode (inodes_from first nodes)) ≡ inode_len * length nodes
length-inodes first nodes = length-records spell_dinode inode_len (inodes_from first nodes) (long-inodes first nodes) ∙ ap (λ (n : ℕ). inode_len * n) (count-inodes first nodes)

length-table : (ninodes first : ℕ) (nodes : List Node) → 1 + length nodes ≤ inodes_per_block * inode_blocks ninodes
    → length (inode_table ninodes first nodes) ≡ block_len * inode_blocks ninodes
unfolding inode_table
length-table ninodes first nodes h =
    let some : List ℕ = flat_map spell_dinode (inodes_from first nodes) in
    let free : ℕ = inode_len * (inodes_per_block * inode_blocks ninodes - (1 + length nodes)) in
    omega (arith, length-append (replicate inode_len 0 ++ some) (replicate free 0), length-append (replicate inode_len 0) some, length-inodes first nodes, length-zeros inode_len, length-zeros free)

-- ---- blocks beside a part that is exchanged

block-before : (a rest : List ℕ) (k : ℕ) → block_len * k + block_len ≤ length a → take block_len (drop (block_len * k) (a ++ rest)) ≡ take block_len (drop (block_len * k) a)
block-before a rest k h =
    ap (take block_len) (drop-append-le (block_len * k) a rest (omega arith))
    ∙ take-append-le block_len (drop (block_len * k) a) rest (omega (arith, length-drop (block_len * k) a))

block-behind : (a rest : List ℕ) (n k : ℕ) → length a ≡ block_len * n → take block_len (drop (block_len * (n + k)) (a ++ rest)) ≡ take block_len (drop (block_len * k) rest)
block-behind a rest n k h =
    let place : block_len * (n + k) ≡ block_len * n + block_len * k = omega arith in
    ap (λ (i : ℕ). take block_len (drop i (a ++ rest))) place
    ∙ ap (take block_len) (sym (drop-drop (block_len * k) (block_len * n) (a ++ rest)) ∙ ap (drop (block_len * k)) (drop_at a rest (block_len * n) h))

block-beside : (f t s r : List ℕ) (n m b : ℕ) → length f ≡ block_len * n → length t ≡ block_len * m → length s ≡ block_len * m → (b < n) ⊎ (n + m ≤ b)
    → take block_len (drop (block_len * b) (f ++ (t ++ r))) ≡ take block_len (drop (block_len * b) (f ++ (s ++ r)))
block-beside f t s r n m b lf lt ls where_ =
    ⊎_elim
    (λ (before : b < n).
    let within : block_len * b + block_len ≤ length f = omega (arith, lf) in
    block-before f (t ++ r) b within ∙ sym (block-before f (s ++ r) b within))
    (λ (past : n + m ≤ b).
    let k : ℕ = b - (n + m) in
    let place : n + m + k ≡ b = omega arith in
    let one : length (f ++ t) ≡ block_len * (n + m) = omega (arith, length-append f t, lf, lt) in
    let two : length (f ++ s) ≡ block_len * (n + m) = omega (arith, length-append f s, lf, ls) in
    subst (λ (c : ℕ). take block_len (drop (block_len * c) (f ++ (t ++ r))) ≡ take block_len (drop (block_len * c) (f ++ (s ++ r)))) place
    (ap (λ (xs : List ℕ). take block_len (drop (block_len * (n + m + k)) xs)) (sym (append_assoc f t r))
    ∙ block-behind (f ++ t) r (n + m) k one
    ∙ sym (block-behind (f ++ s) r (n + m) k two)
    ∙ ap (λ (xs : List ℕ). take block_len (drop (block_len * (n + m + k)) xs)) (append_assoc f s r)))
    where_

-- ---- of the image

regroup : (f t b d e : List ℕ) → (((f ++ t) ++ b) ++ d) ++ e ≡ f ++ (t ++ (b ++ (d ++ e)))
regroup f t b d e = simp append_assoc

-- the part after the inodes
behind : ℕ → ℕ → List Node → List ℕ
behind size first nodes = bitmap (used_by first nodes) ++ (data_from first nodes ++ replicate (block_len * (size - used_by first nodes)) 0)

new-split : (v : Version) (size ninodes : ℕ) (nodes : List Node)
    → image_with v size ninodes nodes ≡ front v size ninodes ++ (inode_table ninodes (data_start ninodes) nodes ++ behind size (data_start ninodes) nodes)
unfolding image_with behind
new-split v size ninodes nodes =
    let first : ℕ = data_start ninodes in
    regroup (front v size ninodes) (inode_table ninodes first nodes) (bitmap (used_by first nodes)) (data_from first nodes)
    (replicate (block_len * (size - used_by first nodes)) 0)

files-split : (v : Version) (size ninodes : ℕ) (nodes : List Node)
    → image_of_files v size ninodes (plains nodes)
    ≡ front v size ninodes ++ (table_of_files ninodes (data_start ninodes) (plains nodes) ++ behind size (data_start ninodes) nodes)
unfolding image_of_files behind
files-split v size ninodes nodes =
    let first : ℕ = data_start ninodes in
    let f : List ℕ = front v size ninodes in
    let t : List ℕ = table_of_files ninodes first (plains nodes) in
    ap (λ (n : ℕ). (((f ++ t) ++ bitmap n) ++ files_from first (plains nodes)) ++ replicate (block_len * (size - n)) 0) (used-same first nodes)
    ∙ ap (λ (xs : List ℕ). (((f ++ t) ++ bitmap (used_by first nodes)) ++ xs) ++ replicate (block_len * (size - used_by first nodes)) 0) (data-same first nodes)
    ∙ regroup f t (bitmap (used_by first nodes)) (data_from first nodes) (replicate (block_len * (size - used_by first nodes)) 0)

module _ (v : Version) (size ninodes : ℕ) (nodes : List Node) (h : IsLaid size ninodes nodes) where
  long-new-table : length (inode_table ninodes (data_start ninodes) nodes) ≡ block_len * inode_blocks ninodes
  long-new-table = length-table ninodes (data_start ninodes) nodes (omega (arith, h.count))

  long-files-table : length (table_of_files ninodes (data_start ninodes) (plains nodes)) ≡ block_len * inode_blocks ninodes
  long-files-table = length-table_of_files ninodes (data_start ninodes) (plains nodes) (omega (arith, h.count, plain-count nodes))

  length-new : length (image_with v size ninodes nodes) ≡ block_len * size
  length-new =
      let f : List ℕ = front v size ninodes in
      let t : List ℕ = inode_table ninodes (data_start ninodes) nodes in
      let s : List ℕ = table_of_files ninodes (data_start ninodes) (plains nodes) in
      let r : List ℕ = behind size (data_start ninodes) nodes in
      let same : length (f ++ (t ++ r)) ≡ length (f ++ (s ++ r)) =
      omega (arith, length-append f (t ++ r), length-append t r, length-append f (s ++ r), length-append s r, long-new-table, long-files-table) in
      ap (λ (xs : List ℕ). length xs) (new-split v size ninodes nodes)
      ∙ same
      ∙ ap (λ (xs : List ℕ). length xs) (sym (files-split v size ninodes nodes))
      ∙ length-of_files v size ninodes (plains nodes) (plains-fit size ninodes nodes h)

  pub length-disk : length (new_disk v size ninodes nodes) ≡ size
  length-disk = omega (arith, length-blocks_of (image_with v size ninodes nodes), length-new, h.few)

  pub block-new : (b : ℕ) → b < size → block_at (new_disk v size ninodes nodes) b ≡ take block_len (drop (block_len * b) (image_with v size ninodes nodes))
  block-new b l = get_or-blocks_of (image_with v size ninodes nodes) [] b (omega (arith, length-disk))

  length-files : length (files_disk v size ninodes nodes) ≡ size
  length-files =
      omega (arith, length-blocks_of (image_of_files v size ninodes (plains nodes)), length-of_files v size ninodes (plains nodes) (plains-fit size ninodes nodes h), h.few)

  -- before the inodes, and from the bitmap on
  abbrev pub IsBeside : ℕ → Type 0
  IsBeside b = (b < 33) ⊎ (bitmap_start ninodes ≤ b)

  pub block-same : (b : ℕ) → IsBeside b → block_at (new_disk v size ninodes nodes) b ≡ block_at (files_disk v size ninodes nodes) b
  block-same b beside =
      ⊎_elim
      (λ (l : b < size).
      block-new b l
      ∙ ap (λ (xs : List ℕ). take block_len (drop (block_len * b) xs)) (new-split v size ninodes nodes)
      ∙ block-beside (front v size ninodes) (inode_table ninodes (data_start ninodes) nodes) (table_of_files ninodes (data_start ninodes) (plains nodes))
      (behind size (data_start ninodes) nodes) 33 (inode_blocks ninodes) b (omega (arith, length-front v size ninodes)) long-new-table long-files-table beside
      ∙ ap (λ (xs : List ℕ). take block_len (drop (block_len * b) xs)) (sym (files-split v size ninodes nodes))
      ∙ sym (get_or-blocks_of (image_of_files v size ninodes (plains nodes)) [] b (omega (arith, length-files))))
      (λ (m : size ≤ b).
      get_or_past (new_disk v size ninodes nodes) b [] (omega (arith, length-disk))
      ∙ sym (get_or_past (files_disk v size ninodes nodes) b [] (omega (arith, length-files))))
      (cases_lt b size)

  pub sizes-same : sizes_of (new_disk v size ninodes nodes) ≡ sizes_of (files_disk v size ninodes nodes)
  sizes-same = sizes_of-same (files_disk v size ninodes nodes) (new_disk v size ninodes nodes) (block-same 1 (inl (omega arith)))

  pub sizes-new : sizes_of (new_disk v size ninodes nodes) ≡ super_for v size ninodes
  sizes-new = sizes-same ∙ sizes-there v size ninodes (plains nodes) h.many (plains-fit size ninodes nodes h)

  pub head-same : block_at (new_disk v size ninodes nodes) (sizes_of (new_disk v size ninodes nodes)).logstart
      ≡ block_at (files_disk v size ninodes nodes) (sizes_of (files_disk v size ninodes nodes)).logstart
  head-same =
      let files : sizes_of (files_disk v size ninodes nodes) ≡ super_for v size ninodes = sizes-there v size ninodes (plains nodes) h.many (plains-fit size ninodes nodes h) in
      ap (λ (s : Super). block_at (new_disk v size ninodes nodes) s.logstart) sizes-new
      ∙ block-same 2 (inl (omega arith))
      ∙ ap (λ (s : Super). block_at (files_disk v size ninodes nodes) s.logstart) (sym files)

  pub log-none : logged (new_disk v size ninodes nodes) ≡ []
  log-none =
      logged-same (files_disk v size ninodes nodes) (new_disk v size ninodes nodes) head-same
      ∙ log-empty v size ninodes (plains nodes) h.many (plains-fit size ninodes nodes h)

  pub recovered-new : (b : ℕ) → recovered (new_disk v size ninodes nodes) b ≡ block_at (new_disk v size ninodes nodes) b
  recovered-new b = recovered-empty (new_disk v size ninodes nodes) b log-none

  pub recovered-same : (b : ℕ) → IsBeside b → recovered (new_disk v size ninodes nodes) b ≡ recovered (files_disk v size ninodes nodes) b
  recovered-same b beside =
      recovered-new b
      ∙ block-same b beside
      ∙ sym (recovered-empty (files_disk v size ninodes nodes) b (log-empty v size ninodes (plains nodes) h.many (plains-fit size ninodes nodes h)))
