-- A part of the content of an inode that holds its node: what its blocks have of it, and how long that is.
use Rattle.inodes_on_blocks.proofs.Vocabulary.{◌≡◌, ◌≢◌, ⊎_elim, ℕ, ℤ, ◌+◌, ◌-◌, ◌*◌, ◌/◌, ◌<◌, ◌≤◌, Bool, cond, false, List, [], length, take, drop, Some, None, refl, sym, ◌∙◌, ap, subst, arith, cases_lt, lt-ltb, le-ltb, length-drop, none-some, Dinode, IsBytes, block_len, largest_size, is_free, content_block, blocks_for, numbers_of, block_number, HoldsAt, blocks_between, end_of, front, NoDriver, Node, Device, no_driver, seen_of, World, log_of, disk_of, inode_in, Shows, most_blocks, Version, content, Super}
use Rattle.std.proofs.lemmas.List.{length-take}
use Rattle.inode_machine.specs.Exec.{part_of}
use Rattle.inode_machine.specs.World as above
use Rattle.inodes_on_blocks.proofs.Basics.{data_place, block_data, block_seen, seen_sizes}
use Rattle.inodes_on_blocks.proofs.ContentParts.{with_bytes, read_all, up_to}
use Rattle.inodes_on_blocks.proofs.ContentReads.{filled_from}
use Rattle.inodes_on_blocks.proofs.NodeBytes.{all_whole, node_bytes}

-- how many blocks have bytes between two offsets
pub many_between : (from upto : ℕ) → from < upto → blocks_between from upto ≡ ((upto - 1) / block_len + 1) - from / block_len
many_between from upto lt = ap (λ (b : Bool). cond b (((upto - 1) / block_len + 1) - from / block_len) 0) (lt-ltb from upto lt)

pub none_there : (from upto : ℕ) → upto ≤ from → blocks_between from upto ≡ 0
none_there from upto le = ap (λ (b : Bool). cond b (((upto - 1) / block_len + 1) - from / block_len) 0) (le-ltb from upto le)

few_between : (from upto : ℕ) → upto ≤ largest_size → blocks_between from upto ≤ most_blocks
few_between from upto small =
    ⊎_elim
    (λ (lt : from < upto). let many = many_between from upto lt in omega (arith, many, small))
    (λ (le : upto ≤ from). let none = none_there from upto le in omega (arith, none))
    (cases_lt from upto)

-- and each of these begins before the second one
within_between : (from upto q : ℕ) → q < blocks_between from upto → block_len * (from / block_len + q) < upto
within_between from upto q below =
    ⊎_elim
    (λ (lt : from < upto). let many = many_between from upto lt in omega (arith, many, below, lt))
    (λ (le : upto ≤ from). let none = none_there from upto le in absurd (omega (arith, none, below)))
    (cases_lt from upto)

-- what has no driver is a device
not_device : (v : Node) → no_driver v.kind ≡ None → (major minor : ℤ) (size : ℕ) → v.kind ≢ Device major minor size
not_device v plain major minor size e = none-some NoDriver (sym plain ∙ ap no_driver e)

module _ (v : World) (g : above.World) (shows : Shows v g) (n : ℕ) (node : Node) (holds : HoldsAt (disk_of (log_of v)) v.owner n (Some node)) (used : is_free (inode_in (log_of v) n) ≡ false) (plain : no_driver node.kind ≡ None) (offset count : ℕ) where
  abbrev disk : List (List ℕ)
  disk = disk_of (log_of v)

  abbrev version : Version
  version = (log_of v).sizes.version

  abbrev d : Dinode
  d = inode_in (log_of v) n

  abbrev pub block : ℕ → List ℕ
  block k = content_block disk d k

  abbrev all : List ℕ
  all = front block (blocks_for d.size)

  small : d.size ≤ largest_size
  small = (holds.room used).limit

  block_is : (k : ℕ) → block_len * k < d.size → block k ≡ seen_of (log_of v) (block_number (numbers_of disk d) k)
  block_is k below = sym (block_seen v g shows n (Some node) holds used k below)

  whole : (k : ℕ) → block_len * k < d.size → length (block k) ≡ block_len
  whole k below =
      let at = data_place v g shows (block_number (numbers_of disk d) k) (block_data v g shows n (Some node) holds used k below) in
      let small_ = at.1 in
      let sized = shows.blocks.seen.sized in
      ap length (block_is k below) ∙ shows.blocks.seen.whole (block_number (numbers_of disk d) k) (omega (arith, small_, sized)) at.0

  fits : (k : ℕ) → block_len * k < d.size → IsBytes (block k)
  fits k below =
      let at = data_place v g shows (block_number (numbers_of disk d) k) (block_data v g shows n (Some node) holds used k below) in
      let small_ = at.1 in
      let sized = shows.blocks.seen.sized in
      subst IsBytes (sym (block_is k below)) (shows.bytes (block_number (numbers_of disk d) k) (omega (arith, small_, sized)) at.0)

  content_is : take d.size all ≡ content version node.kind
  content_is = node_bytes disk v.owner n node holds used whole fits (not_device node plain) ∙ ap (λ (z : Super). content z.version node.kind) (seen_sizes v g shows)

  -- it ends at the size
  pub ends_within : end_of d offset count ≤ d.size
  ends_within = omega arith

  -- What the blocks have between the offset and its end is the node's part.
  pub part_read : filled_from block (blocks_between offset (end_of d offset count)) offset (end_of d offset count) (with_bytes []) ≡ with_bytes (part_of version (Some node) offset count)
  part_read =
      let ends = ends_within in
      let limit = small in
      read_all block (blocks_for d.size) (all_whole disk v.owner n node holds used whole fits) (blocks_between offset (end_of d offset count)) offset (end_of d offset count) (with_bytes []) refl refl (omega (arith, ends))
      ∙ ap with_bytes
      (ap (λ (upto : ℕ). drop offset (take upto all)) (omega (arith, limit))
      ∙ up_to offset count d.size all
      ∙ ap (λ (xs : List ℕ). take count (drop offset xs)) content_is)

  -- and with it a file's offset is no further than a content may be long
  pub part_short : offset ≤ largest_size → offset + length (part_of version (Some node) offset count) ≤ largest_size
  part_short within =
      let limit = small in
      let long = length-take d.size all in
      let same : length (take d.size all) ≡ length (content version node.kind) = ap length content_is in
      let rest = length-drop offset (content version node.kind) in
      let part = length-take count (drop offset (content version node.kind)) in
      omega (arith, limit, long, same, rest, part, within)

  pub few_blocks : blocks_between offset (end_of d offset count) ≤ most_blocks
  few_blocks = let ends = ends_within in let limit = small in few_between offset (end_of d offset count) (omega (arith, ends, limit))

  pub blocks_within : (q : ℕ) → q < blocks_between offset (end_of d offset count) → block_len * (offset / block_len + q) < d.size
  blocks_within q below = let here = within_between offset (end_of d offset count) q below in let ends = ends_within in omega (arith, here, ends)
