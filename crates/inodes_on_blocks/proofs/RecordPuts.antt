-- An inode's record is put by the hart that has its lock, in its transaction, if it has taken no block.
use Rattle.inodes_on_blocks.proofs.Vocabulary.{◌≡◌, ◌≢◌, inl, inr, ℕ, ◌+◌, ◌/◌, ◌%◌, ◌<◌, ◌≤◌, Bool, true, false, List, length, Option, Some, None, refl, sym, ◌∙◌, ap, subst, arith, if◌then◌else◌, nat_lt, none-some, Super, Dinode, dinode_at, IsDinode, recovered, sizes_of, Node, either, same_or, eq_not, put_other, IsData, IsPut, IsInodePut, LeavesOthers, LogPart, put_block, seen_of, inode_block, with_dinode, stores_one, with_record, is_dead, if_kept, is_hart, loaded, is_joined, Owners, is_named, named_of, inode_put, owners_put, World, log_of, tables_of, disk_of, owners_of, CanPut, PutLeaves, Shows, if_joined, on_blocks, IsRunning, IsIndexOf, block_len, inodes_per_block}
use Rattle.inodes_on_blocks.proofs.HeldPuts.{inode_leaves}
use Rattle.inodes_on_blocks.proofs.RunningBlocks.{node_any}
use Rattle.inodes_on_blocks.proofs.SeenDisks.{good_seen}
use Rattle.inode_machine.specs.World as above
use Rattle.inodes_on_blocks.specs.ShownTables as tables
use Rattle.inodes_on_blocks.proofs.News.{put_node, locked_old}
use Rattle.inodes_on_blocks.proofs.Recorded.{disk_put, put_bytes, old_bytes, seen_put_other}
use Rattle.inodes_on_blocks.proofs.Putting.{not_loaded, lock_range}

-- ---- whose the blocks are then

not_hart : (o : Option ℕ) (h : ℕ) → o ≢ Some h → is_hart o h ≡ false
not_hart None h ne = refl
not_hart (Some g) h ne = eq_not g h (λ e. ne (ap (λ (z : ℕ). Some z) e))

-- a hart that has taken nothing changes nothing of it, but by the bitmap
module _ (lock : ℕ → Option ℕ) (h : ℕ) (new : List (List ℕ)) (o : Owners) (none : (c : ℕ) → o.taken c ≢ Some h) where
  unnamed : (c : ℕ) → is_named lock h new o c ≡ false
  unnamed c = rw (not_hart (o.taken c) h (none c)) refl

  inode_put_same : inode_put lock h new o ≡ o
  inode_put_same = λ z. record {
    owner = λ c. ap (λ (t : Bool). if t then named_of lock h new c else o.owner c) (unnamed c) z;
    left = λ c. ap (λ (t : Bool). if t then false else o.left c) (unnamed c) z;
    taken = λ c. ap (λ (t : Bool). if t then None else o.taken c) (unnamed c) z;
  }

  pub quiet_owners : (bitmap b : ℕ) (old : List (List ℕ)) → b ≢ bitmap → owners_put lock h bitmap b old new o ≡ o
  quiet_owners bitmap b old ne = elim (either (nat_lt b bitmap)) [
    | inl low ↦ rw (eq_not b bitmap ne, low) inode_put_same
    | inr high ↦ rw (eq_not b bitmap ne, high) refl
  ]

-- ---- the put

module _ (h n : ℕ) (d : Dinode) (r : World) (g : above.World) (shows : Shows r g) (bound : n < (log_of r).sizes.ninodes) (is : IsDinode d) where
  abbrev l : LogPart
  l = log_of r

  abbrev b : ℕ
  b = inode_block l.sizes.inodestart n

  -- the block with the record
  abbrev pub stored : List ℕ
  stored = with_dinode n d (seen_of l b)

  here : sizes_of (disk_of l) ≡ l.sizes
  here = (good_seen l.sizes (seen_of l) (length l.contents) shows.blocks.seen).sizes_are

  within : n < (sizes_of (disk_of l)).ninodes
  within = subst (λ (s : Super). n < s.ninodes) (sym here) bound

  module _ (can : CanPut h b stored l) (long : length (seen_of l b) ≡ block_len) where
    abbrev now : LogPart
    now = put_block h b (Some stored) l

    -- that record, and its neighbours as they were
    pub record_put : IsInodePut (disk_of l) (disk_of now) n d
    record_put =
        let one = stores_one n d (seen_of l b) is long in
        let same : b ≡ (sizes_of (disk_of l)).inodestart + n / inodes_per_block =
        ap (λ (s : Super). s.inodestart + n / inodes_per_block) (sym here) in
        let new_ : recovered (disk_of now) b ≡ stored = put_bytes h b stored r.state shows.whole shows.blocks.seen can in
        let old_ : recovered (disk_of l) b ≡ seen_of l b = old_bytes h b stored r.state shows.whole shows.blocks.seen can in
        record {
          block = subst (λ (c : ℕ). IsPut (disk_of l) (disk_of now) c) same (disk_put h b stored r.state shows.whole shows.blocks.seen can);
          this = subst (λ (c : ℕ). dinode_at (n % inodes_per_block) (recovered (disk_of now) c) ≡ d) same
              (ap (dinode_at (n % inodes_per_block)) new_ ∙ one.0);
          others = λ q lt ne. subst (λ (c : ℕ). dinode_at q (recovered (disk_of now) c) ≡ dinode_at q (recovered (disk_of l) c)) same (ap (dinode_at q) new_ ∙ one.1 q lt ne ∙ sym (ap (dinode_at q) old_));
        }

    pub leaves_others : LeavesOthers (disk_of l) (disk_of now) r.owner r.owner n
    leaves_others = inode_leaves (disk_of l) (disk_of now) r.owner n d shows.blocks.running.front within record_put

    -- what a hart has taken is a data block
    pub taken_stays : (k c : ℕ) → if_kept (r.taken c) k (seen_of now c) ≡ if_kept (r.taken c) k (seen_of l c)
    taken_stays k c = by (r.taken c) refl
      where
        by : (t : Option ℕ) → r.taken c ≡ t → if_kept t k (seen_of now c) ≡ if_kept t k (seen_of l c)
        by None e = refl
        by (Some j) e =
            let past = (shows.taken c j e).3.0 in
            let low = shows.blocks.seen.good.inodes in
            ap (λ (x : List ℕ). if_kept (Some j) k x)
            (seen_put_other h b stored r.state shows.whole shows.blocks.seen can c (λ q. absurd (omega (arith, past, low, bound, q))))

    pub quiet_leaves : PutLeaves h n r now (owners_of r)
    quiet_leaves = record {
      inodes = leaves_others.inodes;
      bits = leaves_others.bits shows.blocks.running.bits;
      no_others = leaves_others.no_others r.left shows.blocks.running.no_others;
      owners = λ c block. subst (λ (s : Super). r.owner c < s.ninodes) (sym record_put.block.sizes) (shows.blocks.running.owners c (subst (λ (s : Super). IsData s c) record_put.block.sizes block));
      shown = shows.taken;
      others = λ k ne c. taken_stays k c;
    }

-- ---- the node above

-- an inode that is being changed may have any node above
pub node_then : (h n : ℕ) (r : World) (g : above.World) (v : Option Node) → Shows r g → g.lock n ≡ Some h → (g.desks h).joined ≡ true → Shows r (with_record g n v)
node_then h n r g v shows mine joined = record {
  whole = shows.whole;
  runs = shows.runs;
  size = shows.size;
  tables = record { sound = t.sound; places = record { counts = t.places.counts; holders = t.places.holders; loads = t.places.loads }; files = t.files; desks = t.desks; lenders = t.lenders; range = t.range };
  members = shows.members;
  blocks = record {
    seen = shows.blocks.seen;
    running = subst (λ (nodes : ℕ → Option Node). IsRunning (disk_of (log_of r)) nodes r.owner r.left (λ i. if_joined g.desks (g.lock i)) (is_joined (log_of r).members)) (sym (put_node r.new g.disk n v (locked_old r g shows n h mine)))
        (node_any (disk_of (log_of r)) (on_blocks r.new g.disk) r.owner r.left (λ i. if_joined g.desks (g.lock i)) (is_joined (log_of r).members) shows.blocks.running n h v
        (ap (if_joined g.desks) mine ∙ ap (λ (b : Bool). if b then Some h else None) joined) at.0
        (subst (λ (s : Super). n < s.ninodes) (sym (good_seen (log_of r).sizes (seen_of (log_of r)) (length (log_of r).contents) shows.blocks.seen).sizes_are) at.1));
  };
  bytes = shows.bytes;
  taken = shows.taken;
  commit = shows.commit;
  news = shows.news;
  loads = record {
    seen = shows.loads.seen;
    dead = λ m some free loose dead. elim (same_or m n) [
      | inl q ↦ absurd (none-some h (sym free ∙ ap g.lock q ∙ mine))
      | inr ne ↦ shows.loads.dead m some free loose (ap is_dead (sym (put_other g.disk n v m ne)) ∙ dead)
    ];
    typed = λ m e. elim (same_or m n) [
      | inl q ↦ not_loaded m h (tables_of r) g shows.tables (sym (shows.tables.places.holders m) ∙ ap g.lock q ∙ mine)
      | inr ne ↦ shows.loads.typed m (sym (put_other g.disk n v m ne) ∙ e)
    ];
    indexed = λ m d e. elim (same_or m n) [
      | inl q ↦ absurd (none-some d (sym (not_loaded m h (tables_of r) g shows.tables (sym (shows.tables.places.holders m) ∙ ap g.lock q ∙ mine)) ∙ e))
      | inr ne ↦ subst (IsIndexOf (log_of r).sizes.version d.index) (sym (put_other g.disk n v m ne)) (shows.loads.indexed m d e)
    ];
  };
  offsets = shows.offsets;
}
  where
    t : tables.Shows (tables_of r) g (loaded (tables_of r))
    t = shows.tables

    at : (1 ≤ n) × (n < (log_of r).sizes.ninodes)
    at = lock_range n h r g shows mine
