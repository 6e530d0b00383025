-- The blocks of the content of an inode that holds its node: the place of each one's number, and what is seen of it.
use Rattle.inodes_on_blocks.proofs.Vocabulary.{◌≡◌, ◌≢◌, inr, ℕ, zero, suc, ◌+◌, ◌-◌, ◌*◌, ◌<◌, ◌≤◌, ◌==◌, nat_lt, Bool, true, false, List, [], ◌++◌, length, refl, sym, ◌∙◌, ap, subst, arith, Option, slice_index, if◌then◌else◌, nat_tests, get_or_append_left, get_or-append_right, get_or_past, Dinode, Super, u32s_at, numbers_in, IsOutsideLog, recovered, sizes_of, block_len, IsData, inode_of, is_free, numbers_of, indirect_numbers, block_number, content_block, numbers_by_node, HoldsAt, IsOwned, seen_in, Node, seen_of, World, log_of, disk_of, inode_in, Shows, addresses, direct}
use Rattle.std.proofs.Common.{All}
use Rattle.inodes_on_blocks.proofs.ImageNodes.{at_index}
use Rattle.inodes_on_blocks.proofs.SeenDisks.{good_seen}
use Rattle.inode_machine.specs.World as above
use Rattle.inodes_on_blocks.proofs.Loading.{block_shown}

u32s_long : (n : ℕ) (bytes : List ℕ) (at : ℕ) → length (u32s_at n bytes at) ≡ n
unfolding u32s_at
u32s_long zero bytes at = refl
u32s_long (suc n) bytes at = ap suc (u32s_long n bytes (at + 4))

-- an inode has thirteen numbers
long : (disk : List (List ℕ)) (i : ℕ) → length (inode_of disk i).addrs ≡ addresses
unfolding inode_of
long disk i = u32s_long addresses _ 12

front : (k : ℕ) → k < direct → nat_lt k direct ≡ true
front k lt = grind (arith, nat_tests)

behind : (k : ℕ) → direct ≤ k → nat_lt k direct ≡ false
behind k le = grind (arith, nat_tests)

-- the numbers of the first blocks are in the inode itself
pub direct_number : (disk : List (List ℕ)) (i k : ℕ) → k < direct → block_number (numbers_of disk (inode_of disk i)) k ≡ slice_index (inode_of disk i).addrs k
unfolding numbers_of
direct_number disk i k lt =
    let thirteen = long disk i in
    ap (λ (b : Bool). slice_index ((inode_of disk i).addrs ++ indirect_numbers disk (inode_of disk i)) (if b then k else k + 1)) (front k lt)
    ∙ get_or_append_left (inode_of disk i).addrs (indirect_numbers disk (inode_of disk i)) 0 k (omega (arith, lt, thirteen))

-- the seen disk has the sizes that the log has
pub seen_sizes : (r : World) (g : above.World) → Shows r g → sizes_of (disk_of (log_of r)) ≡ (log_of r).sizes
seen_sizes r g shows = (good_seen (log_of r).sizes (seen_in (log_of r).contents (log_of r).seats) (length (log_of r).contents) shows.blocks.seen).sizes_are

module _ (v : World) (g : above.World) (shows : Shows v g) where
  abbrev disk : List (List ℕ)
  disk = disk_of (log_of v)

  -- a data block is outside the log
  pub data_place : (b : ℕ) → IsData (sizes_of disk) b → IsOutsideLog (log_of v).sizes b × (b < (log_of v).sizes.size)
  data_place b is =
      let at : IsData (log_of v).sizes b = subst (λ (s : Super). IsData s b) (seen_sizes v g shows) is in
      let s = shows.blocks.seen.good in
      let log = s.log in
      let inodes = s.inodes in
      let past = at.0 in
      (inr (omega (arith, log, inodes, past)), at.1)

  module _ (i : ℕ) (o : Option Node) (holds : HoldsAt disk v.owner i o) (used : is_free (inode_in (log_of v) i) ≡ false) where
    abbrev d : Dinode
    d = inode_in (log_of v) i

    -- what it names are data blocks
    pub named_data : (p : ℕ) → slice_index (numbers_of disk d) p ≢ 0 → IsData (sizes_of disk) (slice_index (numbers_of disk d) p)
    named_data p ne = (at_index (λ b. IsOwned disk v.owner i b) (numbers_of disk d) p (subst (λ (ns : List ℕ). All (λ b. b ≢ 0 → IsOwned disk v.owner i b) ns) (numbers_by_node disk i used) holds.blocks.owned) ne).block

    pub block_data : (k : ℕ) → block_len * k < d.size → IsData (sizes_of disk) (block_number (numbers_of disk d) k)
    block_data k below = named_data (if nat_lt k direct then k else k + 1) ((holds.room used).there k below)

    -- block k of its content, as it is seen
    pub block_seen : (k : ℕ) → block_len * k < d.size → seen_of (log_of v) (block_number (numbers_of disk d) k) ≡ content_block disk d k
    unfolding content_block
    block_seen k below =
        let place = data_place (block_number (numbers_of disk d) k) (block_data k below) in
        sym (block_shown v g shows (block_number (numbers_of disk d) k) place.1 place.0)

    -- ---- the place of its number

    -- the indirect block is one of those that it names
    pub table_data : slice_index d.addrs direct ≢ 0 → IsData (sizes_of disk) (slice_index d.addrs direct)
    unfolding numbers_of
    table_data ne =
        let thirteen = long disk i in
        let is : slice_index (numbers_of disk d) direct ≡ slice_index d.addrs direct = get_or_append_left d.addrs (indirect_numbers disk d) 0 direct (omega (arith, thirteen)) in
        subst (λ (b : ℕ). IsData (sizes_of disk) b) is (named_data direct (λ e. ne (sym is ∙ e)))

    -- of all others in the indirect block, which is there
    pub table_number : (k : ℕ) → direct ≤ k → block_len * k < d.size
        → (slice_index d.addrs direct ≢ 0) × (block_number (numbers_of disk d) k ≡ slice_index (numbers_in (seen_of (log_of v) (slice_index d.addrs direct))) (k - direct))
    unfolding numbers_of
    table_number k le below = by (slice_index d.addrs direct == 0) refl
      where
        number_is : block_number (numbers_of disk d) k ≡ slice_index (indirect_numbers disk d) (k - direct)
        number_is =
            let thirteen = long disk i in
            ap (λ (b : Bool). slice_index (d.addrs ++ indirect_numbers disk d) (if b then k else k + 1)) (behind k le)
            ∙ get_or-append_right d.addrs (indirect_numbers disk d) (length d.addrs) (k + 1) 0 refl (omega (arith, le, thirteen))
            ∙ ap (slice_index (indirect_numbers disk d)) (omega (arith, le, thirteen))

        by : (b : Bool) → (slice_index d.addrs direct == 0) ≡ b → (slice_index d.addrs direct ≢ 0) × (block_number (numbers_of disk d) k ≡ slice_index (numbers_in (seen_of (log_of v) (slice_index d.addrs direct))) (k - direct))
        by true e =
            absurd ((holds.room used).there k below (number_is ∙ ap (λ (b : Bool). slice_index (if b then [] else numbers_in (recovered disk (slice_index d.addrs direct))) (k - direct)) e ∙ get_or_past [] (k - direct) 0 (omega arith)))
        by false e =
            let ne : slice_index d.addrs direct ≢ 0 = λ z. (let q : true ≡ false = sym (ap (λ (n : ℕ). n == 0) z) ∙ e in cc) in
            let place = data_place (slice_index d.addrs direct) (table_data ne) in (
              ne,
              number_is ∙ ap (λ (b : Bool). slice_index (if b then [] else numbers_in (recovered disk (slice_index d.addrs direct))) (k - direct)) e
                  ∙ ap (λ (bytes : List ℕ). slice_index (numbers_in bytes) (k - direct)) (block_shown v g shows (slice_index d.addrs direct) place.1 place.0),
            )
