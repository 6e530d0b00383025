-- A block of a locked inode's content stays, while others step: where it is, and what is seen of it.
use Rattle.inodes_on_blocks.proofs.Vocabulary.{◌≡◌, ◌≢◌, ℕ, ◌+◌, ◌-◌, ◌*◌, ◌<◌, ◌≤◌, nat_lt, false, List, sym, ◌∙◌, ap, subst, Option, slice_index, get_or, if◌then◌else◌, Dinode, numbers_in, IsOutsideLog, recovered, block_len, is_free, numbers_of, numbers_by, block_number, content_block, HoldsAt, numbers_by_node, Node, seen_of, World, log_of, disk_of, inode_in, Shows, KeepsInode, direct}
use Rattle.std.proofs.Common.{All}
use Rattle.inodes_on_blocks.proofs.HeldFrames.{numbers_kept, untouched}
use Rattle.inodes_on_blocks.proofs.ImageNodes.{at_index}
use Rattle.inode_machine.specs.World as above
use Rattle.inodes_on_blocks.proofs.ContentBlocks.{data_place, block_data, block_seen, table_data, table_number}

-- a block of the disk, outside the log
abbrev pub IsThere : World → ℕ → Type 0
IsThere v b = IsOutsideLog (log_of v).sizes b × (b < (log_of v).sizes.size)

-- Block k of inode d's content as it was at w, in a later world. Its number has the same place, and its bytes are
-- seen as they were.
pub record BlockStays (w v : World) (d : Dinode) (k : ℕ) : Type 0 where
  pub place : IsThere v (block_number (numbers_of (disk_of (log_of w)) d) k)
  pub seen : seen_of (log_of v) (block_number (numbers_of (disk_of (log_of w)) d) k) ≡ content_block (disk_of (log_of w)) d k
  pub table : direct ≤ k → IsThere v (slice_index d.addrs direct) × (block_number (numbers_of (disk_of (log_of w)) d) k ≡ slice_index (numbers_in (seen_of (log_of v) (slice_index d.addrs direct))) (k - direct))

module _ (h i : ℕ) (w v : World) (keeps : KeepsInode h i w v) (o : Option Node) (holds : HoldsAt (disk_of (log_of w)) w.owner i o) (used : is_free (inode_in (log_of w) i) ≡ false) where
  abbrev d : Dinode
  d = inode_in (log_of w) i

  abbrev was : List (List ℕ)
  was = disk_of (log_of w)

  abbrev now : List (List ℕ)
  now = disk_of (log_of v)

  pub same_inode : inode_in (log_of v) i ≡ d
  same_inode = keeps.untouched.inode

  pub holds_now : HoldsAt now v.owner i o
  holds_now = untouched was now w.owner v.owner i o keeps.untouched holds

  pub used_now : is_free (inode_in (log_of v) i) ≡ false
  used_now = ap is_free same_inode ∙ used

  same_blocks : All (λ b. b ≢ 0 → recovered now b ≡ recovered was b) (numbers_of was d)
  same_blocks =
      subst (λ (ns : List ℕ). All (λ b. b ≢ 0 → recovered now b ≡ recovered was b) ns) (numbers_by_node was i used)
      (λ p z l ne. let own = holds.blocks.owned p z l ne in (keeps.untouched.blocks (get_or (numbers_by was i) p z) own.block own.owner_is).0)

  pub same_numbers : numbers_of now d ≡ numbers_of was d
  same_numbers = numbers_kept was now d same_blocks

  -- block k of the content
  pub content_stays : (k : ℕ) → block_len * k < d.size → content_block now d k ≡ content_block was d k
  unfolding content_block
  content_stays k below =
      ap (λ (ns : List ℕ). recovered now (block_number ns k)) same_numbers
      ∙ at_index (λ b. recovered now b ≡ recovered was b) (numbers_of was d) (if nat_lt k direct then k else k + 1) same_blocks ((holds.room used).there k below)

  module _ (g : above.World) (shows : Shows v g) where
    -- as code finds it now
    record Found (x : Dinode) (k : ℕ) : Type 0 where
      place : IsThere v (block_number (numbers_of now x) k)
      seen : seen_of (log_of v) (block_number (numbers_of now x) k) ≡ content_block now x k
      table : direct ≤ k → IsThere v (slice_index x.addrs direct) × (block_number (numbers_of now x) k ≡ slice_index (numbers_in (seen_of (log_of v) (slice_index x.addrs direct))) (k - direct))

    found : (k : ℕ) → block_len * k < d.size → Found d k
    found k below =
        let small : block_len * k < (inode_in (log_of v) i).size = subst (λ (x : Dinode). block_len * k < x.size) (sym same_inode) below in
        subst (λ (x : Dinode). Found x k) same_inode (record {
          place = data_place v g shows (block_number (numbers_of now (inode_in (log_of v) i)) k) (block_data v g shows i o holds_now used_now k small);
          seen = block_seen v g shows i o holds_now used_now k small;
          table = λ le.
              let t = table_number v g shows i o holds_now used_now k le small in (
                data_place v g shows (slice_index (inode_in (log_of v) i).addrs direct)
                    (table_data v g shows i o holds_now used_now t.0),
                t.1,
              );
        })

    pub block_stays : (k : ℕ) → block_len * k < d.size → BlockStays w v d k
    block_stays k below =
        let f = found k below in
        let e : block_number (numbers_of now d) k ≡ block_number (numbers_of was d) k = ap (λ (ns : List ℕ). block_number ns k) same_numbers in
        record {
          place = subst (IsThere v) e f.place;
          seen = ap (seen_of (log_of v)) (sym e) ∙ f.seen ∙ content_stays k below;
          table = λ le. let t = f.table le in (t.0, sym e ∙ t.1);
        }
