-- A block recorded for an inode that the hart is changing: the others have theirs, and what is shown stays.
use Rattle.inodes_on_blocks.proofs.Vocabulary.{◌≡◌, ◌≢◌, ℕ, ◌<◌, ◌≤◌, Bool, true, List, length, Option, Some, None, refl, sym, ◌∙◌, ap, subst, inl, inr, if◌then◌else◌, false, slice_get, none-some, same_Some, Super, sizes_of, same_or, is_free, IsRunning, TablesState, place_of, lock_holder, holder_in, holder_at, references_in, references_at, found, InsideFits, PlaceFits, Inode, SlotState, LogPart, put_block, Own, seen_of, is_hart, loaded, loaded_in, loaded_at, loaded_of, is_joined, AreOnBlocks, Owners, World, log_of, tables_of, disk_of, inode_in, untyped, Shows, if_joined, ghost_of, on_blocks, Same, commit_in, undertaken, CanPut, PutLeaves, Loaded}
use Rattle.inodes_on_blocks.proofs.SeenDisks.{good_seen}
use Rattle.inodes_on_blocks.proofs.HeldFrames.{untouched}
use Rattle.fs_machine.proofs.Places.{Found}
use Rattle.fs_machine.proofs.Locking.{slot_at}
use Rattle.inode_machine.specs.World as above
use Rattle.inodes_on_blocks.specs.ShownTables as tables
use Rattle.inodes_on_blocks.proofs.Committing.{is_member, nobody_commits, commit_none}
use Rattle.inodes_on_blocks.proofs.Groups.{put_grows}
use Rattle.inodes_on_blocks.proofs.Hands.{same_view}
use Rattle.inodes_on_blocks.proofs.News.{untyped_less}
use Rattle.inodes_on_blocks.proofs.Recorded.{whole_put, own_put, seen_then, good_then, bytes_then, members_joined}

-- ---- inodes in memory

referred_at : (n p : ℕ) (t : TablesState) → place_of n t.entries ≡ Some p → 0 < references_in t.entries (place_of n t.entries)
referred_at n p t q =
    let f = found n t.entries p q in
    subst (λ (z : ℕ). 0 < z) (sym (ap (references_in t.entries) q ∙ ap references_at f.there)) f.referenced

-- an inode whose lock is out is referred to
lock_referred : (n k : ℕ) (t : TablesState) → lock_holder n t ≡ Some k → 0 < references_in t.entries (place_of n t.entries)
lock_referred n k t e = at (place_of n t.entries) refl
  where
    at : (o : Option ℕ) → place_of n t.entries ≡ o → 0 < references_in t.entries (place_of n t.entries)
    at None q = absurd (none-some k (sym (ap (holder_in t.locks) q) ∙ e))
    at (Some p) q = referred_at n p t q

-- one of which something is loaded is too
load_referred : (n : ℕ) (d : Loaded) (t : TablesState) → loaded t n ≡ Some d → 0 < references_in t.entries (place_of n t.entries)
load_referred n d t e = at (place_of n t.entries) refl
  where
    at : (o : Option ℕ) → place_of n t.entries ≡ o → 0 < references_in t.entries (place_of n t.entries)
    at None q = absurd (none-some d (sym (ap (loaded_in t.locks) q) ∙ e))
    at (Some p) q = referred_at n p t q

-- of one whose lock is out nothing is
pub not_loaded : (n k : ℕ) (t : TablesState) (g : above.World) → tables.Shows t g (loaded t) → lock_holder n t ≡ Some k → loaded t n ≡ None
not_loaded n k t g shows e = at (place_of n t.entries) refl
  where
    at : (o : Option ℕ) → place_of n t.entries ≡ o → loaded t n ≡ None
    at None q = ap (loaded_in t.locks) q
    at (Some p) q = by_slot (slot_at t.entries t.locks p f.entry shows.sound.inodes f.there)
      where
        f : Found n t.entries p
        f = found n t.entries p q

        by_inside : (s : SlotState Inode) → slice_get t.locks p ≡ Some s → (x : Option Inode) → s.inside ≡ x → InsideFits f.entry s.holder x → loaded t n ≡ None
        by_inside s there None z fits = ap (loaded_in t.locks) q ∙ ap loaded_at there ∙ ap loaded_of z
        by_inside s there (Some v) z fits = absurd (none-some k (sym fits.0 ∙ sym (ap holder_at there) ∙ sym (ap (holder_in t.locks) q) ∙ e))

        by_slot : (s : SlotState Inode) × (slice_get t.locks p ≡ Some s) × PlaceFits p f.entry s → loaded t n ≡ None
        by_slot at = by_inside at.0 at.1 at.0.inside refl at.2.1

referred_range : (n : ℕ) (r : World) (g : above.World) → Shows r g → 0 < references_in (tables_of r).entries (place_of n (tables_of r).entries) → (1 ≤ n) × (n < (log_of r).sizes.ninodes)
referred_range n r g shows some =
    let at = shows.tables.range n (subst (λ (z : ℕ). 0 < z) (sym (shows.tables.places.counts n)) some) in
    (at.0, subst (λ (z : ℕ). n < z) shows.size at.1)

-- who is locked is an inode
pub lock_range : (n k : ℕ) (r : World) (g : above.World) → Shows r g → g.lock n ≡ Some k → (1 ≤ n) × (n < (log_of r).sizes.ninodes)
lock_range n k r g shows e = referred_range n r g shows (lock_referred n k (tables_of r) (sym (shows.tables.places.holders n) ∙ e))

-- and one of which something is loaded
pub load_range : (n : ℕ) (d : Loaded) (r : World) (g : above.World) → Shows r g → loaded (tables_of r) n ≡ Some d → (1 ≤ n) × (n < (log_of r).sizes.ninodes)
load_range n d r g shows e = referred_range n r g shows (load_referred n d (tables_of r) e)

-- ---- a put

module _ (h b i : ℕ) (bytes : List ℕ) (r : World) (g : above.World) (shows : Shows r g) (mine : g.lock i ≡ Some h) (joined : (g.desks h).joined ≡ true) (can : CanPut h b bytes (log_of r)) (o : Owners) where
  abbrev l : LogPart
  l = log_of r

  abbrev now : LogPart
  now = put_block h b (Some bytes) l

  -- the world after it
  abbrev pub after : World
  after = record { state = record (r.state) { log = now }; owner = o.owner; left = o.left; taken = o.taken; commits = r.commits; new = untyped now r.new }

  range : (j : ℕ) → 0 < references_in (tables_of r).entries (place_of j (tables_of r).entries) → (1 ≤ j) × (j < (sizes_of (disk_of l)).ninodes)
  range j some =
      let at = referred_range j r g shows some in
      (at.0, subst (λ (s : Super). j < s.ninodes) (sym (good_seen l.sizes (seen_of l) (length l.contents) shows.blocks.seen).sizes_are) at.1)

  -- a new inode's record is free still: it isn't this one, whose lock is out
  still_free : PutLeaves h i r now o → (n k : ℕ) → r.new n ≡ Some k → is_free (inode_in now n) ≡ true
  still_free leaves n k e =
      let is = shows.news n k e in
      let within : n < (sizes_of (disk_of l)).ninodes = subst (λ (s : Super). n < s.ninodes) (sym (good_seen l.sizes (seen_of l) (length l.contents) shows.blocks.seen).sizes_are) is.bound in
      ap is_free (leaves.inodes n is.low within (λ q. none-some h (sym is.unlocked ∙ ap g.lock q ∙ mine))).inode ∙ is.free

  -- so it is new still
  new_stays : PutLeaves h i r now o → untyped now r.new ≡ r.new
  new_stays leaves = λ z n. each n (r.new n) refl z
    where
      each : (n : ℕ) (t : Option ℕ) → r.new n ≡ t → untyped now r.new n ≡ r.new n
      each n None e = at (is_free (inode_in now n))
        where
          at : (b : Bool) → (if b then r.new n else None) ≡ r.new n
          at true = refl
          at false = sym e
      each n (Some k) e = ap (λ (b : Bool). if b then r.new n else None) (still_free leaves n k e)

  pub put_begun : PutLeaves h i r now o → (k : ℕ) → undertaken k after ≡ undertaken k r
  put_begun leaves k = λ z. (
    commit_none k r.commits (commit_in now) (commit_in l) (nobody_commits h r g shows (is_member l.members h can.joined)) z,
    λ n. is_hart (new_stays leaves z n) k,
  )

  pub same_put : PutLeaves h i r now o → (k : ℕ) → k ≢ h → Same k r after
  same_put leaves k ne =
      let own = own_put h b bytes r.state shows.whole shows.blocks.seen can k ne in
      record {
        inodes = λ j e.
            let at = range j (lock_referred j k (tables_of r) e) in
            record { lock = e; untouched = leaves.inodes j at.0 at.1 (λ q. ne (same_Some k h (sym e ∙ ap (λ (n : ℕ). lock_holder n (tables_of r)) q ∙ sym (shows.tables.places.holders i) ∙ mine))) };
        no_more = λ j e. e;
        buffers = λ c. same_view k c l now (λ z. (own z).buffers c) refl;
        held = ap (λ (x : Own). x.count) own;
        member = ap (λ (x : Own). x.member) own;
        group = λ c j m e. put_grows l.group b c e;
        sizes = refl;
        taken = leaves.others k ne;
        begun = put_begun leaves k;
      }

  changes : if_joined g.desks (g.lock i) ≡ Some h
  changes = ap (if_joined g.desks) mine ∙ ap (λ (t : Bool). if t then Some h else None) joined

  blocks_there : PutLeaves h i r now o → AreOnBlocks now.contents now.seats now.sizes now.members (ghost_of o.owner o.left (on_blocks r.new g.disk) g.lock g.desks)
  blocks_there leaves =
      let good = good_then h b bytes r.state shows.whole shows.blocks.seen can in
      let was = good_seen l.sizes (seen_of l) (length l.contents) shows.blocks.seen in
      let old : IsRunning (disk_of l) (on_blocks r.new g.disk) r.owner r.left (λ j. if_joined g.desks (g.lock j)) (is_joined l.members) = shows.blocks.running in
      record {
        seen = seen_then h b bytes r.state shows.whole shows.blocks.seen can;
        running = record {
          front = good.good;
          whole = good.whole;
          range = λ j v node. subst (λ (s : Super). (1 ≤ j) × (j < s.ninodes)) (was.sizes_are ∙ sym good.sizes_are) (old.range j v node);
          inodes = λ j low bound none.
              let within : j < (sizes_of (disk_of l)).ninodes = subst (λ (s : Super). j < s.ninodes) (good.sizes_are ∙ sym was.sizes_are) bound in
              untouched (disk_of l) (disk_of now) r.owner o.owner j (on_blocks r.new g.disk j)
              (leaves.inodes j low within (λ q. none-some h (sym none ∙ ap (λ (n : ℕ). if_joined g.desks (g.lock n)) q ∙ changes))) (old.inodes j low within none);
          bits = leaves.bits;
          no_others = leaves.no_others;
          owners = leaves.owners;
          changes = λ j k is. members_joined l.group b l.members h k ∙ old.changes j k is;
        };
      }

  blocks_then : PutLeaves h i r now o → AreOnBlocks now.contents now.seats now.sizes now.members (ghost_of o.owner o.left (on_blocks (untyped now r.new) g.disk) g.lock g.desks)
  blocks_then leaves = subst (λ (f : ℕ → Option ℕ). AreOnBlocks now.contents now.seats now.sizes now.members (ghost_of o.owner o.left (on_blocks f g.disk) g.lock g.desks)) (sym (new_stays leaves)) (blocks_there leaves)

  -- what is shown, the inode being changed still
  pub shows_put : PutLeaves h i r now o → Shows after g
  shows_put leaves = record {
    whole = whole_put h b bytes r.state shows.whole shows.blocks.seen can;
    runs = shows.runs;
    size = shows.size;
    tables = shows.tables;
    members = λ k lt. shows.members k lt ∙ sym (members_joined l.group b l.members h k);
    blocks = blocks_then leaves;
    bytes = bytes_then h b bytes r.state shows.whole shows.blocks.seen can shows.bytes;
    taken = leaves.shown;
    commit = shows.commit;
    news = λ n k e.
        let was = untyped_less now r.new n k e in
        let is = shows.news n k was in
        record { low = is.low; bound = is.bound; free = still_free leaves n k was; unlocked = is.unlocked; kept = is.kept; joined = members_joined l.group b l.members h k ∙ is.joined; unloaded = is.unloaded };
    loads = record {
      seen = λ n d e. elim (same_or n i) [
        | inl q ↦ absurd (none-some d (sym (not_loaded n h (tables_of r) g shows.tables (ap (λ (m : ℕ). lock_holder m (tables_of r)) q ∙ sym (shows.tables.places.holders i) ∙ mine)) ∙ e))
        | inr ne ↦ let at = range n (load_referred n d (tables_of r) e) in shows.loads.seen n d e ∙ sym (leaves.inodes n at.0 at.1 ne).inode
      ];
      dead = shows.loads.dead;
      typed = shows.loads.typed;
      indexed = shows.loads.indexed;
    };
    offsets = shows.offsets;
  }
