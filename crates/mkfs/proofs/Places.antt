-- The places of the parts of an image, and what each has.
use Rattle.image_versions.specs.Shared.{most_disk_blocks}
use Rattle.fs_layout.specs.Widths.{block_len}
use Rattle.mkfs.proofs.Vocabulary.{Version, ◌≡◌, ℕ, ◌-◌, ◌*◌, ◌<◌, ◌≤◌, true, eqb, List, [], ◌++◌, length, take, drop, replicate, ap, ◌∙◌, sym, refl, arith, append_assoc, length-append, eqb-true, take_at, drop_at, take-append-le, take-replicate, blocks_of, block_at, get_or-blocks_of, length-blocks_of, Super, magic_of, u32_at, u32s_at, super_fields, spell_super, IsSuper, sizes_of, log_head_at, log_count, logged, recovered, super_of-spell, data_start, super_for, Node, padded, front, inode_table, bitmap, data_from, used_by, image_with}
use Rattle.mkfs.proofs.Padding.{length-padded}
use Rattle.mkfs.proofs.Lengths.{Fits, length-image, length-zeros, length-super}
use Rattle.image_tree.proofs.SuperAndLog.{some_from}

-- the disk of an image
abbrev pub disk_of : Version → ℕ → ℕ → List Node → List (List ℕ)
disk_of v size ninodes nodes = blocks_of (image_with v size ninodes nodes)

pub length-disk : (v : Version) (size ninodes : ℕ) (nodes : List Node) → Fits size ninodes nodes → length (disk_of v size ninodes nodes) ≡ size
length-disk v size ninodes nodes h = omega (arith, length-blocks_of (image_with v size ninodes nodes), length-image v size ninodes nodes h, h.few)

pub block-at : (v : Version) (size ninodes : ℕ) (nodes : List Node) (b : ℕ) → Fits size ninodes nodes → b < size
    → block_at (disk_of v size ninodes nodes) b ≡ take block_len (drop (block_len * b) (image_with v size ninodes nodes))
block-at v size ninodes nodes b h l = get_or-blocks_of (image_with v size ninodes nodes) [] b (omega (arith, length-disk v size ninodes nodes h))

regroup : (z s l t b d f : List ℕ) → ((((((z ++ s) ++ l) ++ t) ++ b) ++ d) ++ f) ≡ z ++ (s ++ (l ++ (t ++ (b ++ (d ++ f)))))
regroup z s l t b d f = simp append_assoc

-- the superblock's block
super_block : Version → ℕ → ℕ → List ℕ
super_block v size ninodes = padded block_len (spell_super (super_for v size ninodes))

-- what follows the log
behind : ℕ → ℕ → List Node → List ℕ
behind size ninodes nodes =
    inode_table ninodes (data_start ninodes) nodes
    ++ (bitmap (used_by (data_start ninodes) nodes) ++ (data_from (data_start ninodes) nodes ++ replicate (block_len * (size - used_by (data_start ninodes) nodes)) 0))

split : (v : Version) (size ninodes : ℕ) (nodes : List Node)
    → image_with v size ninodes nodes ≡ replicate block_len 0 ++ (super_block v size ninodes ++ (replicate 31744 0 ++ behind size ninodes nodes))
unfolding image_with front super_block behind
split v size ninodes nodes =
    regroup (replicate block_len 0) (padded block_len (spell_super (super_for v size ninodes))) (replicate 31744 0) (inode_table ninodes (data_start ninodes) nodes)
    (bitmap (used_by (data_start ninodes) nodes)) (data_from (data_start ninodes) nodes) (replicate (block_len * (size - used_by (data_start ninodes) nodes)) 0)

length-super_block : (v : Version) (size ninodes : ℕ) → length (super_block v size ninodes) ≡ block_len
unfolding super_block
length-super_block v size ninodes = length-padded block_len (spell_super (super_for v size ninodes)) (omega (arith, length-super v size ninodes))

-- ---- the superblock

block-one : (v : Version) (size ninodes : ℕ) (nodes : List Node) → Fits size ninodes nodes → block_at (disk_of v size ninodes nodes) 1 ≡ super_block v size ninodes
block-one v size ninodes nodes h =
    let rest : List ℕ = replicate 31744 0 ++ behind size ninodes nodes in
    let within : 1 < size = omega (arith, h.room) in
    block-at v size ninodes nodes 1 h within
    ∙ ap (λ (xs : List ℕ). take block_len (drop block_len xs)) (split v size ninodes nodes)
    ∙ ap (take block_len) (drop_at (replicate block_len 0) (super_block v size ninodes ++ rest) block_len (length-zeros block_len))
    ∙ take_at (super_block v size ninodes) rest block_len (length-super_block v size ninodes)

-- it can be read back
super-read : (v : Version) (size ninodes : ℕ) → size ≤ most_disk_blocks → ninodes ≤ 65535
    → (eqb (u32_at (super_block v size ninodes) 0) (magic_of v) ≡ true) × (super_fields (super_block v size ninodes) ≡ super_for v size ninodes)
unfolding super_block padded
super-read v size ninodes h n =
    let s : Super = super_for v size ninodes in
    let rest : List ℕ = replicate (block_len - length (spell_super s)) 0 in
    let small : IsSuper s = (omega arith, (omega arith, (omega arith, (omega arith, (omega arith, (omega arith, (omega arith, tt))))))) in
    some_from (eqb (u32_at (spell_super s ++ rest) 0) (magic_of v)) (super_fields (spell_super s ++ rest)) s (super_of-spell s rest small)

pub magic-there : (v : Version) (size ninodes : ℕ) (nodes : List Node) → ninodes ≤ 65535 → Fits size ninodes nodes
    → u32_at (block_at (disk_of v size ninodes nodes) 1) 0 ≡ magic_of v
magic-there v size ninodes nodes n h =
    ap (λ (block : List ℕ). u32_at block 0) (block-one v size ninodes nodes h)
    ∙ eqb-true (u32_at (super_block v size ninodes) 0) (magic_of v) (super-read v size ninodes h.few n).0

pub sizes-there : (v : Version) (size ninodes : ℕ) (nodes : List Node) → ninodes ≤ 65535 → Fits size ninodes nodes → sizes_of (disk_of v size ninodes nodes) ≡ super_for v size ninodes
unfolding sizes_of
sizes-there v size ninodes nodes n h = ap super_fields (block-one v size ninodes nodes h) ∙ (super-read v size ninodes h.few n).1

-- ---- the log, which is empty

block-two : (v : Version) (size ninodes : ℕ) (nodes : List Node) → Fits size ninodes nodes → block_at (disk_of v size ninodes nodes) 2 ≡ replicate block_len 0
block-two v size ninodes nodes h =
    let a : List ℕ = replicate block_len 0 in
    let s : List ℕ = super_block v size ninodes in
    let log : List ℕ = replicate 31744 0 in
    let rest : List ℕ = behind size ninodes nodes in
    let within : 2 < size = omega (arith, h.room) in
    let two : length (a ++ s) ≡ 2048 = omega (arith, length-append a s, length-zeros block_len, length-super_block v size ninodes) in
    block-at v size ninodes nodes 2 h within
    ∙ ap (λ (xs : List ℕ). take block_len (drop 2048 xs)) (split v size ninodes nodes ∙ sym (append_assoc a s (log ++ rest)))
    ∙ ap (take block_len) (drop_at (a ++ s) (log ++ rest) 2048 two)
    ∙ take-append-le block_len log rest (omega (arith, length-zeros 31744))
    ∙ (let none : ℕ = 0 in take-replicate block_len 31744 none (omega arith))

zero-head : u32_at (replicate block_len 0) 0 ≡ 0
unfolding u32_at
zero-head = refl

no-numbers : (block : List ℕ) → u32s_at 0 block 4 ≡ []
unfolding u32s_at
no-numbers block = refl

head-there : (v : Version) (size ninodes : ℕ) (nodes : List Node) → ninodes ≤ 65535 → Fits size ninodes nodes
    → log_head_at (disk_of v size ninodes nodes) ≡ replicate block_len 0
head-there v size ninodes nodes n h =
    ap (λ (s : Super). block_at (disk_of v size ninodes nodes) s.logstart) (sizes-there v size ninodes nodes n h) ∙ block-two v size ninodes nodes h

pub count-there : (v : Version) (size ninodes : ℕ) (nodes : List Node) → ninodes ≤ 65535 → Fits size ninodes nodes → log_count (disk_of v size ninodes nodes) ≡ 0
count-there v size ninodes nodes n h = ap (λ (block : List ℕ). u32_at block 0) (head-there v size ninodes nodes n h) ∙ zero-head

pub log-empty : (v : Version) (size ninodes : ℕ) (nodes : List Node) → ninodes ≤ 65535 → Fits size ninodes nodes → logged (disk_of v size ninodes nodes) ≡ []
unfolding logged
log-empty v size ninodes nodes n h =
    ap (λ (block : List ℕ). u32s_at (u32_at block 0) block 4) (head-there v size ninodes nodes n h)
    ∙ ap (λ (k : ℕ). u32s_at k (replicate block_len 0) 4) zero-head ∙ no-numbers (replicate block_len 0)

-- so recovery leaves each block as it is there
pub recovered-there : (v : Version) (size ninodes : ℕ) (nodes : List Node) (b : ℕ) → ninodes ≤ 65535 → Fits size ninodes nodes
    → recovered (disk_of v size ninodes nodes) b ≡ block_at (disk_of v size ninodes nodes) b
unfolding recovered
recovered-there v size ninodes nodes b n h = rw (log-empty v size ninodes nodes n h) refl
