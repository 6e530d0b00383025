-- An inode's record put by the hart that has its lock: what the hart has of its own then.
use Rattle.inodes_on_blocks.proofs.Vocabulary.{◌≡◌, ◌≢◌, inr, ℕ, ◌+◌, ◌/◌, ◌%◌, ◌<◌, ◌≤◌, true, false, List, length, Option, Some, None, sym, ◌∙◌, ap, subst, arith, is_some, Super, Dinode, dinode_at, IsDinode, recovered, sizes_of, has, HasRoom, IsHome, Node, hart_count, IsData, IsGoodSuper, inode_of, HoldsAt, NamesOwned, IsInodePut, lock_holder, LogPart, put_block, seen_of, inode_block, with_dinode, if_kept, Idle, World, log_of, tables_of, disk_of, inode_in, owners_of, in_hand, HasBuffer, KeepsInode, Kept, Same, Carry, IsLoaded, InHand, IsThrough, CanPut, PutLeaves, Shows, block_len, inodes_per_block}
use Rattle.inodes_on_blocks.proofs.HeldFrames.{untouched}
use Rattle.inodes_on_blocks.proofs.HeldPuts.{inode_is}
use Rattle.inodes_on_blocks.proofs.SeenDisks.{good_seen}
use Rattle.inode_machine.specs.World as above
use Rattle.inodes_on_blocks.proofs.Layer.{held_back}
use Rattle.inodes_on_blocks.proofs.Putting.{after, same_put, shows_put, lock_range}
use Rattle.inodes_on_blocks.proofs.RecordPuts.{record_put, quiet_leaves}
use Rattle.inodes_on_blocks.proofs.Recorded.{put_hand}
use Rattle.inodes_on_blocks.proofs.Records.{placed_dinode, stored_long, stored_bytes}
use Rattle.inodes_on_blocks.proofs.OpenFiles.{OpenStays, open_then}

-- an inode's block may be recorded
pub inode_home : (l : LogPart) (n : ℕ) → IsGoodSuper l.sizes → l.sizes.size ≤ length l.contents → n < l.sizes.ninodes → IsHome l.contents l.sizes (inode_block l.sizes.inodestart n)
inode_home l n good sized bound =
    let start = good.logstart in
    let long = good.nlog in
    let log = good.log in
    let inodes = good.inodes in
    let bitmap = good.bitmap in
    record {
      outside = inr (omega (arith, log));
      no_super = λ e. absurd (omega (arith, start, long, log, e));
      within = omega (arith, inodes, bitmap, sized, bound);
      front = omega arith;
      sized = omega (arith, inodes, bitmap, bound);
    }

-- what is seen of an inode is one
pub seen_dinode : (r : World) (g : above.World) → Shows r g → (n : ℕ) → n < (log_of r).sizes.ninodes → IsDinode (inode_in (log_of r) n)
unfolding inode_of
seen_dinode r g shows n bound =
    let good = good_seen (log_of r).sizes (seen_of (log_of r)) (length (log_of r).contents) shows.blocks.seen in
    let home = inode_home (log_of r) n shows.blocks.seen.good shows.blocks.seen.sized bound in
    let same : (sizes_of (disk_of (log_of r))).inodestart + n / inodes_per_block ≡ (log_of r).sizes.inodestart + n / inodes_per_block = ap (λ (s : Super). s.inodestart + n / inodes_per_block) good.sizes_are in
    subst (λ (bytes : List ℕ). IsDinode (dinode_at (n % inodes_per_block) bytes)) (sym (ap (recovered (disk_of (log_of r))) same ∙ good.blocks ((log_of r).sizes.inodestart + n / inodes_per_block) home.within home.outside))
    (placed_dinode (n % inodes_per_block) (seen_of (log_of r) ((log_of r).sizes.inodestart + n / inodes_per_block)) (shows.bytes ((log_of r).sizes.inodestart + n / inodes_per_block) home.within home.outside))

-- ---- a hart before it puts a record

-- of each inode but n whose lock it has
abbrev pub AllBut : ℕ → ℕ → Carry → World → above.World → Type 0
AllBut n h c r g = (i : ℕ) → i ≢ n → lock_holder i (tables_of r) ≡ Some h → InHand h i (c i) r g

-- what the hart knows of its inodes lasts while the others step, and while it takes buffers
abbrev pub LastsInHand : ℕ → (World → above.World → Type 0) → Type 0
LastsInHand h This =
    (v w : World) (g u : above.World) → (log_of w).sizes ≡ (log_of v).sizes → ((i : ℕ) → lock_holder i (tables_of v) ≡ Some h → KeepsInode h i v w) → ((i : ℕ) → lock_holder i (tables_of w) ≡ Some h → lock_holder i (tables_of v) ≡ Some h)
    → Kept h g u → (((g.desks h).lender ≡ None → ⊥) → Idle h g) → This v g → This w u

-- a hart without a buffer, before it puts a record
pub record Ready (sizes : Super) (h : ℕ) (This : World → above.World → Type 0) (r : World) (g : above.World) : Type 0 where
  pub free : in_hand h r ≡ 0
  pub taken : (b : ℕ) → r.taken b ≢ Some h
  pub through : IsThrough h r
  pub lent : ((g.desks h).lender ≡ None → ⊥) → Idle h g
  pub this : This r g
  pub at : (log_of r).sizes ≡ sizes

-- what it has taken
pub untaken : (h : ℕ) (v w : World) → ((b : ℕ) → if_kept (w.taken b) h (seen_of (log_of w) b) ≡ if_kept (v.taken b) h (seen_of (log_of v) b)) → ((b : ℕ) → v.taken b ≢ Some h) → (b : ℕ) → w.taken b ≢ Some h
untaken h v w same none b e = none b (held_back (w.taken b) (v.taken b) h (seen_of (log_of w) b) (seen_of (log_of v) b) (same b) e).0

-- the block of an inode
abbrev pub place_in : ℕ → World → ℕ
place_in n r = inode_block (log_of r).sizes.inodestart n

-- with its buffer in hand, and room, it may be put with this record in it
pub can_record : (h n : ℕ) (d : Dinode) (bytes : List ℕ) (r : World) (g : above.World) → h < hart_count → Shows r g → g.lock n ≡ Some h → (g.desks h).joined ≡ true → IsDinode d → HasBuffer h (place_in n r) bytes r
    → (has (log_of r).group (place_in n r) ≡ false → HasRoom (log_of r).members h)
    → CanPut h (place_in n r) (with_dinode n d (seen_of (log_of r) (place_in n r))) (log_of r) × (length (seen_of (log_of r) (place_in n r)) ≡ block_len)
can_record h n d bytes r g lt shows mine joined is buffer room =
    let range = lock_range n h r g shows mine in
    let home = inode_home (log_of r) n shows.blocks.seen.good shows.blocks.seen.sized range.1 in
    let long : length (seen_of (log_of r) (place_in n r)) ≡ block_len =
    shows.blocks.seen.whole (place_in n r) home.within home.outside in (
      record {
        holder = buffer.holder;
        valid = ap (λ (o : Option (List ℕ)). is_some o) buffer.has;
        joined = sym (shows.members h lt) ∙ joined;
        runs = shows.runs;
        home = home;
        room = room;
        long = stored_long n d (seen_of (log_of r) (place_in n r)) is long;
        are = stored_bytes n d (seen_of (log_of r) (place_in n r)) (shows.bytes (place_in n r) home.within home.outside);
      },
      long,
    )

-- ---- and after it

module _ (h n : ℕ) (d : Dinode) (c : Carry) (r : World) (g : above.World) (shows : Shows r g) (mine : g.lock n ≡ Some h) (joined : (g.desks h).joined ≡ true) (is : IsDinode d)
    (can : CanPut h (place_in n r) (with_dinode n d (seen_of (log_of r) (place_in n r))) (log_of r)) (long : length (seen_of (log_of r) (place_in n r)) ≡ block_len) where
  range : (1 ≤ n) × (n < (log_of r).sizes.ninodes)
  range = lock_range n h r g shows mine

  abbrev stored : List ℕ
  stored = with_dinode n d (seen_of (log_of r) (place_in n r))

  leaves : PutLeaves h n r (put_block h (place_in n r) (Some stored) (log_of r)) (owners_of r)
  leaves = quiet_leaves h n d r g shows range.1 is can long

  abbrev pub then_ : World
  then_ = after h (place_in n r) n stored r g shows mine joined can (owners_of r)

  pub is_put : IsInodePut (disk_of (log_of r)) (disk_of (log_of then_)) n d
  is_put = record_put h n d r g shows range.1 is can long

  pub shows_then : Shows then_ g
  shows_then = shows_put h (place_in n r) n stored r g shows mine joined can (owners_of r) leaves

  pub same_then : (other : ℕ) → other ≢ h → Same other r then_
  same_then = same_put h (place_in n r) n stored r g shows mine joined can (owners_of r) leaves

  pub inode_then : inode_in (log_of then_) n ≡ d
  inode_then = inode_is (disk_of (log_of r)) (disk_of (log_of then_)) n d is_put

  -- the hart's other inodes, in a world above that has them as they were
  pub others_then : AllBut n h c r g → (u : above.World) → ((i : ℕ) → i ≢ n → u.disk i ≡ g.disk i) → ((i : ℕ) → u.keeper i ≡ g.keeper i) → ((i : ℕ) → OpenStays h i g u) → AllBut n h c then_ u
  others_then all u disk keeper opens i ne e =
      let was = all i ne e in
      let there = lock_range i h r g shows (shows.tables.places.holders i ∙ e) in
      let bound = subst (λ (s : Super). i < s.ninodes) (sym (good_seen (log_of r).sizes (seen_of (log_of r)) (length (log_of r).contents) shows.blocks.seen).sizes_are) there.1 in
      let left = leaves.inodes i there.0 bound ne in
      record {
        keeps = keeper i ∙ was.keeps;
        loaded_is =
            subst (λ (v : Option Node). IsLoaded (log_of then_).sizes.version (c i) v (inode_in (log_of then_) i)) (sym (disk i ne))
            (subst (λ (f : Dinode). IsLoaded (log_of then_).sizes.version (c i) (g.disk i) f) (sym left.inode) was.loaded_is);
        holds =
            subst (λ (o : Option Node). HoldsAt (disk_of (log_of then_)) r.owner i o) (sym (disk i ne))
            (untouched (disk_of (log_of r)) (disk_of (log_of then_)) r.owner r.owner i (g.disk i) left was.holds);
        opened = open_then h i (c i) g u (opens i) was.opened;
      }

  pub none_then : in_hand h r ≡ 1 → in_hand h then_ ≡ 0
  none_then one = let back = (put_hand h (place_in n r) stored (log_of r).seats can.holder).count in omega (arith, back, one)

  pub named_then : (numbers : List ℕ) → NamesOwned (disk_of (log_of r)) r.owner n numbers → NamesOwned (disk_of (log_of then_)) r.owner n numbers
  named_then numbers named b block own = named b (subst (λ (s : Super). IsData s b) is_put.block.sizes block) own
