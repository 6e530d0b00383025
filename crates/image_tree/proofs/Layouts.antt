-- What a layout that passed the checks keeps in range.
use Rattle.image_versions.specs.Shared.{most_disk_blocks}
use Rattle.image_tree.proofs.Vocabulary.{◌≡◌, ℕ, ◌+◌, ◌/◌, ◌%◌, ◌<◌, ◌≤◌, cond, ltb, List, length, Some, None, refl, ap, ◌∙◌, ⊎_elim, arith, cases_lt, nat_tests, option_map_or, dinode_at, length-u32s_at, Layout, block_at, place_of, logged, log_count, sizes_of, recovered, inode_of, IsLayout, ◌-◌, inodes_per_block}

pub length-logged : (disk : List (List ℕ)) → length (logged disk) ≡ log_count disk
unfolding logged
length-logged disk = length-u32s_at (log_count disk) (block_at disk (sizes_of disk).logstart) 4

-- a block's place is below any bound that the block and the log's blocks are below
pub place_below : (logstart b i n m : ℕ) → b < m → logstart + 1 + n ≤ m → option_map_or (λ k. logstart + 1 + k) (cond (ltb i n) (Some i) None) b < m
place_below logstart b i n m low high =
    ⊎_elim
    (λ (h : i < n). grind (arith, nat_tests))
    (λ (h : n ≤ i). grind (arith, nat_tests))
    (cases_lt i n)

-- the numbers of a layout in order
pub record InOrder (disk : List (List ℕ)) (layout : Layout) : Type 0 where
  pub log : layout.sizes.logstart + 1 + length layout.head.blocks.items ≤ layout.sizes.inodestart
  pub inodes : layout.sizes.inodestart + (layout.sizes.ninodes + (inodes_per_block - 1)) / inodes_per_block ≤ layout.sizes.bmapstart
  pub bitmap : layout.sizes.bmapstart < layout.sizes.size
  pub size : layout.sizes.size ≤ length disk
  pub small : layout.sizes.size ≤ most_disk_blocks
  pub two : 2 ≤ layout.sizes.ninodes

pub in_order : (disk : List (List ℕ)) (layout : Layout) → IsLayout disk layout → InOrder disk layout
in_order disk layout h =
    let good = h.good.0.0.1.1 in
    let size = h.good.0.1 in
    let log = h.good.1 in
    let count : length layout.head.blocks.items ≡ log_count disk = ap length h.blocks ∙ length-logged disk in
    rw h.sizes record {
      log = omega (arith, count, log.count, good.log, good.nlog);
      inodes = good.inodes;
      bitmap = omega arith;
      size = size;
      small = good.size;
      two = good.few_inodes;
    }

pub place_within : (disk : List (List ℕ)) (layout : Layout) (b : ℕ) → IsLayout disk layout → b < length disk
    → place_of layout.sizes.logstart layout.head.blocks.items b < length disk
place_within disk layout b h low =
    let o = in_order disk layout h in
    place_below layout.sizes.logstart b _ (length layout.head.blocks.items) (length disk) low (omega arith)

-- the words of the specification at a layout
pub recovered_at : (disk : List (List ℕ)) (layout : Layout) (b : ℕ) → IsLayout disk layout
    → recovered disk b ≡ block_at disk (place_of layout.sizes.logstart layout.head.blocks.items b)
unfolding recovered
recovered_at disk layout b h = rw (h.sizes, h.blocks) refl

pub inode_at : (disk : List (List ℕ)) (layout : Layout) (i : ℕ) → IsLayout disk layout
    → inode_of disk i ≡ dinode_at (i % inodes_per_block) (recovered disk (layout.sizes.inodestart + i / inodes_per_block))
unfolding inode_of
inode_at disk layout i h = rw h.sizes refl
