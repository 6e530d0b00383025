-- What a hart has while buffers are in its hand.
use Rattle.std.specs.Prelude.{◌≡◌, ◌≢◌, ℕ, suc, List, Some, slice_get}
use Rattle.inodes_on_blocks.specs.Vocabulary.{count_of, is_held_by, holder_of, kept, lock_holder, Both, seen_of, if_kept, Inv}
use Rattle.inode_machine.specs.World as above
use Rattle.inodes_on_blocks.specs.Basics.{World, log_of, tables_of, Shows, undertaken, KeepsGroup, KeepsInode, Kept, buffer_in}

-- how many it has
abbrev pub in_hand : ℕ → World → ℕ
in_hand h w = count_of (is_held_by h) (log_of w).seats

-- block b's buffer is in its hand, valid, with these bytes
pub record HasBuffer (h b : ℕ) (bytes : List ℕ) (w : World) : Type 0 where
  pub holder : holder_of b (log_of w).seats ≡ Some h
  pub has : kept b (log_of w).seats ≡ Some bytes

-- Nothing of the hart's changed but block b's buffer. Its locks and what those inodes hold stay, and its other
-- buffers, transaction, commit and new inodes.
pub record SameBut (h b : ℕ) (v w : World) : Type 0 where
  pub inodes : (i : ℕ) → lock_holder i (tables_of v) ≡ Some h → KeepsInode h i v w
  pub no_more : (i : ℕ) → lock_holder i (tables_of w) ≡ Some h → lock_holder i (tables_of v) ≡ Some h
  pub buffers : (k : ℕ) → k ≢ b
      → if_kept (holder_of k (log_of w).seats) h (buffer_in (log_of w) k)
      ≡ if_kept (holder_of k (log_of v).seats) h (buffer_in (log_of v) k)
  pub member : slice_get (log_of w).members h ≡ slice_get (log_of v).members h
  pub group : KeepsGroup h (log_of v) (log_of w)
  pub taken : (k : ℕ) → if_kept (w.taken k) h (seen_of (log_of w) k) ≡ if_kept (v.taken k) h (seen_of (log_of v) k)
  pub begun : undertaken h w ≡ undertaken h v
  pub sizes : (log_of w).sizes ≡ (log_of v).sizes

-- How a hart goes on after a block's buffer came into its hand, from w: what it knows of v.
pub record IsFetched (h b : ℕ) (Stage : above.World → Type 0) (w v : Both World above.World) : Type 0 where
  pub since : SameBut h b w.real v.real
  pub kept : Kept h w.seen v.seen
  pub shows : Shows v.real v.seen
  pub inv : Inv v.seen
  pub stage : Stage v.seen
  pub count : in_hand h v.real ≡ suc (in_hand h w.real)
  -- its bytes are those that are seen of the block
  pub buffer : HasBuffer h b (seen_of (log_of v.real) b) v.real

-- the same if it was given back as it was
pub record PutBack (h b : ℕ) (Stage : above.World → Type 0) (w v : Both World above.World) : Type 0 where
  pub since : SameBut h b w.real v.real
  pub kept : Kept h w.seen v.seen
  pub shows : Shows v.real v.seen
  pub inv : Inv v.seen
  pub stage : Stage v.seen
  pub count : in_hand h w.real ≡ suc (in_hand h v.real)
