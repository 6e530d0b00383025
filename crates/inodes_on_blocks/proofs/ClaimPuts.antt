-- An inode claimed, and its record put with a type: what is shown of both.
use Rattle.inodes_on_blocks.proofs.Vocabulary.{◌≡◌, ◌≢◌, inl, inr, ℕ, ◌+◌, ◌<◌, ◌≤◌, Bool, true, false, ◌&&◌, ◌==◌, List, length, Option, Some, None, refl, sym, ◌∙◌, ap, subst, arith, if◌then◌else◌, zero, suc, replicate, ◌^◌, w16, FitsSigned, AllByRecursion, IsSome, none-some, same_Some, Dinode, Super, IsDinode, sizes_of, Node, put, hart_count, same_or, eq_not, put_same, put_other, is_free, is_number, HoldsAt, IsRecord, IsInodePut, IsRunning, is_held_by, holder_of, kept, has, HasRoom, IsHome, Put, IsGoodSeen, Owners, TablesState, lock_holder, LogPart, put_block, Own, seen_of, new_record, inode_block, with_dinode, InodeType, OfDirectory, OfFile, OfDevice, is_nothing, blank, claimed, counted_up, is_hart, if_kept, Inv, Idle, one_refs, opens_slots, loaded, kind_of, is_joined, AreOnBlocks, World, log_of, tables_of, disk_of, inode_in, owners_of, untyped, owners_after, Shows, IsNew, if_joined, ghost_of, on_blocks, unless_new, Same, Kept, Carry, IsLoaded, commit_in, Base, IsMade, CanPut, PutLeaves, IsIndexOf, addresses, block_len, version_in}
use Rattle.inodes_on_blocks.proofs.Basics.{untouched, inode_is, good_seen, is_member, nobody_commits, commit_none, put_grows, same_view, AllInHand, hands_marked, hart_is, held_back, in_hand_then, is_here, kept_disk, tables_left, SameCode, new_holds, new_kept, old_node, unkept_old, open_alike, open_then, lock_range, load_range, whole_put, own_put, seen_then, good_then, bytes_then, members_joined, put_hand, record_put, quiet_leaves, quiet_owners, inode_home, untaken, stored_long, stored_bytes, with_tables, unlocked_holds}
use Rattle.buffer_cache.specs.Lists.{count_of}
use Rattle.inode_machine.specs.World as above
use Rattle.inode_machine.specs.Exec as above_exec
use Rattle.inode_machine.specs.Rules as rules
use Rattle.inodes_on_blocks.specs.ShownTables as tables
use Rattle.inodes_on_blocks.proofs.StatSteps.{in_use}

-- ---- the claim

-- of an inode that has no reference, and whose record is free
module _ (h : ℕ) (lt : h < hart_count) (inode_type : InodeType) (v : World) (g : above.World) (shows : Shows v g) (inv : Inv g) (n : ℕ) (low : 1 ≤ n) (bound : n < (log_of v).sizes.ninodes) (free : is_free (inode_in (log_of v) n) ≡ true) (zero : g.refs n ≡ 0) where
  nobody : g.keeper n ≡ None
  nobody = at (g.keeper n) refl
    where
      at : (o : Option ℕ) → g.keeper n ≡ o → o ≡ None
      at None e = refl
      at (Some k) e =
          let kept = inv.kept n k e in
          let all = one_refs g k n inv kept.0 in
          absurd (elim kept.1 [ inl o ↦ (let some = opens_slots g k n inv o in omega (arith, all, some, zero)) | inr some ↦ omega (arith, all, some, zero) ])

  unlocked : g.lock n ≡ None
  unlocked = at (g.lock n) refl
    where
      at : (o : Option ℕ) → g.lock n ≡ o → o ≡ None
      at None e = refl
      at (Some k) e = absurd (none-some k (sym nobody ∙ inv.keeps n k e))

  unclaimed : v.new n ≡ None
  unclaimed = unkept_old v g shows n nobody

  -- it has no node
  empty : g.disk n ≡ None
  empty = at (g.disk n) (unlocked_holds h lt v g shows n unlocked unclaimed low (subst (λ (k : ℕ). n < k) (sym shows.size) bound)).inode
    where
      at : (o : Option Node) → IsRecord (version_in (disk_of (log_of v))) (inode_in (log_of v) n) o → o ≡ None
      at None r = refl
      at (Some x) r = absurd (let z : false ≡ true = sym (in_use (version_in (disk_of (log_of v))) (inode_in (log_of v) n) x r) ∙ free in cc z)

  pub free_above : above_exec.is_free g n ≡ true
  free_above = λ z. is_nothing (empty z) && (zero z == 0)

  module _ (joined : (g.desks h).joined ≡ true) (u : TablesState) (after : tables.Shows u (counted_up h n g) (loaded (tables_of v))) where
    abbrev pub claimed_below : World
    claimed_below = record (with_tables v u) { new = put v.new n (Some h) }

    abbrev node : Option Node
    node = Some (blank inode_type)

    tables_then : tables.Shows u (claimed h inode_type g n) (loaded (tables_of v))
    tables_then = record { sound = after.sound; places = record { counts = after.places.counts; holders = after.places.holders; loads = after.places.loads }; files = after.files; desks = after.desks; lenders = after.lenders; range = after.range }

    nodes_same : on_blocks (put v.new n (Some h)) (put g.disk n node) ≡ on_blocks v.new g.disk
    nodes_same = λ z m. each m z
      where
        each : (m : ℕ) → on_blocks (put v.new n (Some h)) (put g.disk n node) m ≡ on_blocks v.new g.disk m
        each m = elim (same_or m n) [
          | inl q ↦ ap (λ (o : Option ℕ). unless_new o (put g.disk n node m)) (ap (put v.new n (Some h)) q ∙ put_same v.new n (Some h)) ∙ sym (ap (on_blocks v.new g.disk) q ∙ old_node v.new g.disk n unclaimed ∙ empty)
          | inr ne ↦ λ y. unless_new (put_other v.new n (Some h) m ne y) (put_other g.disk n node m ne y)
        ]

    is_new : IsNew n h (log_of v) g.lock (put g.keeper n (Some h)) (loaded u)
    is_new = record { low = low; bound = bound; free = free; unlocked = unlocked; kept = put_same g.keeper n (Some h); joined = sym (shows.members h lt) ∙ joined; unloaded = sym (after.places.loads n) ∙ shows.loads.typed n empty }

    news_then : (m k : ℕ) → put v.new n (Some h) m ≡ Some k → IsNew m k (log_of v) g.lock (put g.keeper n (Some h)) (loaded u)
    news_then m k e = elim (same_or m n) [
      | inl q ↦
          let here : h ≡ k = same_Some h k (sym (ap (put v.new n (Some h)) q ∙ put_same v.new n (Some h)) ∙ e) in
          subst (λ (x : ℕ × ℕ). IsNew x.0 x.1 (log_of v) g.lock (put g.keeper n (Some h)) (loaded u)) (λ z. (sym q z, here z)) is_new
      | inr ne ↦
          let is = shows.news m k (sym (put_other v.new n (Some h) m ne) ∙ e) in
          new_kept m k (log_of v) g.lock g.keeper g.lock (put g.keeper n (Some h)) (loaded (tables_of v)) (loaded u) is.unlocked (put_other g.keeper n (Some h) m ne ∙ is.kept) (sym (after.places.loads m) ∙ is.unloaded) is
    ]

    pub claimed_shows : Shows claimed_below (claimed h inode_type g n)
    claimed_shows = record {
      whole = shows.whole;
      runs = shows.runs;
      size = shows.size;
      tables = record { sound = after.sound; places = record { counts = after.places.counts; holders = after.places.holders; loads = λ i. refl }; files = after.files; desks = after.desks; lenders = after.lenders; range = after.range };
      members = shows.members;
      blocks = subst (λ (nodes : ℕ → Option Node). AreOnBlocks (log_of v).contents (log_of v).seats (log_of v).sizes (log_of v).members (ghost_of v.owner v.left nodes g.lock g.desks)) (sym nodes_same) shows.blocks;
      news = news_then;
      bytes = shows.bytes;
      taken = shows.taken;
      commit = shows.commit;
      loads = record {
        seen = λ i d e. shows.loads.seen i d (after.places.loads i ∙ e);
        dead = λ i some loose lax dead. elim (same_or i n) [
          | inl q ↦ absurd (none-some h (sym lax ∙ ap (put g.keeper n (Some h)) q ∙ put_same g.keeper n (Some h)))
          | inr ne ↦ subst IsSome (after.places.loads i) (shows.loads.dead i (subst (λ (k : ℕ). 0 < k) (put_other g.refs n (g.refs n + 1) i ne) some) loose (sym (put_other g.keeper n (Some h) i ne) ∙ lax) (ap above_exec.is_dead (sym (put_other g.disk n node i ne)) ∙ dead))
        ];
        typed = λ i e. elim (same_or i n) [
          | inl q ↦ absurd (none-some (blank inode_type) (sym e ∙ ap (put g.disk n node) q ∙ put_same g.disk n node))
          | inr ne ↦ sym (after.places.loads i) ∙ shows.loads.typed i (sym (put_other g.disk n node i ne) ∙ e)
        ];
        indexed = λ i d e. elim (same_or i n) [
          | inl q ↦ absurd (none-some d (sym (ap (loaded (tables_of v)) q ∙ shows.loads.typed n empty) ∙ after.places.loads i ∙ e))
          | inr ne ↦ subst (IsIndexOf (log_of v).sizes.version d.index) (sym (put_other g.disk n node i ne)) (shows.loads.indexed i d (after.places.loads i ∙ e))
        ];
      };
      offsets = shows.offsets;
    }

    pub claimed_same : (other : ℕ) → other ≢ h → Same other v claimed_below
    claimed_same other ne =
        let s = tables_left h v u g (claimed h inode_type g n) (loaded (tables_of v)) (loaded (tables_of v)) shows.tables tables_then (λ i. inl refl) other ne in
        record {
          inodes = λ i e. record { lock = (s.inodes i e).lock; untouched = (s.inodes i e).untouched };
          no_more = s.no_more;
          buffers = λ b. refl;
          held = refl;
          member = refl;
          group = λ b k m e. e;
          sizes = refl;
          taken = λ b. refl;
          begun = λ z. (if_kept v.commits other (commit_in (log_of v)), λ m. each m z);
        }
      where
        each : (m : ℕ) → is_hart (put v.new n (Some h) m) other ≡ is_hart (v.new m) other
        each m = elim (same_or m n) [
          | inl q ↦ ap (λ (o : Option ℕ). is_hart o other) (ap (put v.new n (Some h)) q ∙ put_same v.new n (Some h)) ∙ eq_not h other (λ e. ne (sym e)) ∙ sym (ap (λ (o : Option ℕ). is_hart o other) (ap v.new q ∙ unclaimed))
          | inr apart ↦ ap (λ (o : Option ℕ). is_hart o other) (put_other v.new n (Some h) m apart)
        ]

    -- the hart's inodes are others
    pub claimed_hands : (c : Carry) → AllInHand h c v g → AllInHand h c claimed_below (claimed h inode_type g n)
    claimed_hands c all i e =
        let mine : g.lock i ≡ Some h = after.places.holders i ∙ e in
        let ne : i ≢ n = (λ q. none-some h (sym unlocked ∙ ap g.lock (sym q) ∙ mine)) in
        let was = all i (sym (shows.tables.places.holders i) ∙ mine) in
        record {
          keeps = put_other g.keeper n (Some h) i ne ∙ was.keeps;
          loaded_is = subst (λ (o : Option Node). IsLoaded (log_of v).sizes.version (c i) o (inode_in (log_of v) i)) (sym (put_other g.disk n node i ne)) was.loaded_is;
          holds = subst (λ (o : Option Node). HoldsAt (disk_of (log_of v)) v.owner i o) (sym (put_other g.disk n node i ne)) was.holds;
          opened = open_then h i (c i) g (claimed h inode_type g n) (open_alike h i g (claimed h inode_type g n) refl refl) was.opened;
        }

-- ---- what the hart has between the claim and the put

pub record HasClaimed (h n : ℕ) (inode_type : InodeType) (c : Carry) (r : World) (g : above.World) : Type 0 where
  pub new : r.new n ≡ Some h
  pub only : (m : ℕ) → m ≢ n → r.new m ≢ Some h
  pub commits : r.commits ≢ Some h
  pub taken : (b : ℕ) → r.taken b ≢ Some h
  pub keeps : g.keeper n ≡ Some h
  pub node : g.disk n ≡ Some (blank inode_type)
  pub hands : AllInHand h c r g
  pub free : (g.desks h).lender ≡ None

-- the same if the world above differs for the proof alone
pub claimed_marked : (h n : ℕ) (inode_type : InodeType) (c : Carry) (r : World) (g u : above.World) → SameCode g u → HasClaimed h n inode_type c r g → HasClaimed h n inode_type c r u
claimed_marked h n inode_type c r g u s is = record {
  new = is.new;
  only = is.only;
  commits = is.commits;
  taken = is.taken;
  keeps = (λ z. s.keeper z n) ∙ is.keeps;
  node = (λ z. s.disk z n) ∙ is.node;
  hands = hands_marked h r g u c s is.hands;
  free = (s.desks h).lender ∙ is.free;
}

-- it lasts while the others step
pub claimed_then : (h n : ℕ) (inode_type : InodeType) (c : Carry) (v w : World) (g u : above.World) → Same h v w → Kept h g u → HasClaimed h n inode_type c v g → HasClaimed h n inode_type c w u
claimed_then h n inode_type c v w g u same kept is =
    let lent : ((g.desks h).lender ≡ None → ⊥) → Idle h g = (λ some. absurd (some is.free)) in
    let now = kept_disk h n g u kept lent is.keeps in
    record {
      new = hart_is (w.new n) h ((λ z. (same.begun z).1 n) ∙ is_here (v.new n) h is.new);
      only = λ m ne e. is.only m ne (hart_is (v.new m) h (sym (λ z. (same.begun z).1 m) ∙ is_here (w.new m) h e));
      commits = λ e. is.commits (held_commit e);
      taken = untaken h v w same.taken is.taken;
      keeps = now.0;
      node = now.1 ∙ is.node;
      hands = in_hand_then h c v w g u same.sizes same.inodes same.no_more kept lent is.hands;
      free = ap (λ (o : rules.Own). o.desk.lender) (kept.same is.free) ∙ is.free;
    }
  where
    held_commit : w.commits ≡ Some h → v.commits ≡ Some h
    held_commit e = (held_back w.commits v.commits h (commit_in (log_of w)) (commit_in (log_of v)) (λ z. (same.begun z).0) e).0

-- ---- the put

none_large : (k : ℕ) → AllByRecursion (λ b. b < 2 ^ 32) (replicate k 0)
none_large zero = tt
none_large (suc k) = (omega arith, none_large k)

kind_fits : (inode_type : InodeType) → FitsSigned w16 (kind_of inode_type)
kind_fits OfDirectory = omega arith
kind_fits OfFile = omega arith
kind_fits (OfDevice major) = omega arith

has_kind : (inode_type : InodeType) → is_number 0 (kind_of inode_type) ≡ false
has_kind OfDirectory = refl
has_kind OfFile = refl
has_kind (OfDevice major) = refl

new_fits : (inode_type : InodeType) → IsDinode (new_record (kind_of inode_type))
new_fits inode_type = record { kind = kind_fits inode_type; major = omega arith; minor = omega arith; nlink = omega arith; size = omega arith; thirteen = refl; addrs = none_large addresses }

module _ (h : ℕ) (n : ℕ) (inode_type : InodeType) (c : Carry) (r : World) (g : above.World) (shows : Shows r g) (claims : HasClaimed h n inode_type c r g) where
  abbrev l : LogPart
  l = log_of r

  abbrev b : ℕ
  b = inode_block l.sizes.inodestart n

  is : IsNew n h l g.lock g.keeper (loaded (tables_of r))
  is = shows.news n h claims.new

  abbrev put_record : Dinode
  put_record = new_record (kind_of inode_type)

  abbrev pub stored : List ℕ
  stored = with_dinode n put_record (seen_of l b)

  home : IsHome l.contents l.sizes b
  home = inode_home l n shows.blocks.seen.good shows.blocks.seen.sized is.bound

  long : length (seen_of l b) ≡ block_len
  long = shows.blocks.seen.whole b home.within home.outside

  fits : IsDinode put_record
  fits = new_fits inode_type

  -- the block may be put, if its buffer is in hand and there is room
  pub can_put_new : holder_of b l.seats ≡ Some h → IsSome (kept b l.seats) → (has l.group b ≡ false → HasRoom l.members h) → CanPut h b stored l
  can_put_new holder valid room = record {
    holder = holder;
    valid = valid;
    joined = is.joined;
    runs = shows.runs;
    home = home;
    room = room;
    long = stored_long n put_record (seen_of l b) fits long;
    are = stored_bytes n put_record (seen_of l b) (shows.bytes b home.within home.outside);
  }

  was : sizes_of (disk_of l) ≡ l.sizes
  was = (good_seen l.sizes (seen_of l) (length l.contents) shows.blocks.seen).sizes_are

  within : (m : ℕ) → m < l.sizes.ninodes → m < (sizes_of (disk_of l)).ninodes
  within m bound = subst (λ (s : Super). m < s.ninodes) (sym was) bound

  module _ (can : CanPut h b stored l) where
    abbrev now : LogPart
    now = put_block h b (Some stored) l

    leaves : PutLeaves h n r now (owners_of r)
    leaves = quiet_leaves h n put_record r g shows is.bound fits can long

    put_is : IsInodePut (disk_of l) (disk_of now) n put_record
    put_is = record_put h n put_record r g shows is.bound fits can long

    held : HoldsAt (disk_of l) r.owner n None
    held =
        subst (λ (v : Option Node). HoldsAt (disk_of l) r.owner n v) (ap (λ (o : Option ℕ). unless_new o (g.disk n)) claims.new)
        (shows.blocks.running.inodes n is.low (within n is.bound) (ap (if_joined g.desks) is.unlocked))

    -- it holds what it is above
    holds : IsMade inode_type → HoldsAt (disk_of now) r.owner n (Some (blank inode_type))
    holds made = new_holds (disk_of l) (disk_of now) r.owner n inode_type shows.blocks.running.front (within n is.bound) made is.free held put_is

    abbrev new : ℕ → Option ℕ
    new = untyped now r.new

    -- and isn't new, as the others are still
    none_new : new n ≡ None
    none_new = ap (λ (t : Bool). if t then r.new n else None) (ap is_free (inode_is (disk_of l) (disk_of now) n put_record put_is) ∙ has_kind inode_type)

    other_record : (m : ℕ) → m ≢ n → (k : ℕ) → r.new m ≡ Some k → is_free (inode_in now m) ≡ true
    other_record m ne k e = let z = shows.news m k e in ap is_free (leaves.inodes m z.low (within m z.bound) ne).inode ∙ z.free

    other_new : (m : ℕ) → m ≢ n → new m ≡ r.new m
    other_new m ne = at (r.new m) refl
      where
        at : (t : Option ℕ) → r.new m ≡ t → new m ≡ r.new m
        at None e = by (is_free (inode_in now m))
          where
            by : (t : Bool) → (if t then r.new m else None) ≡ r.new m
            by true = refl
            by false = sym e
        at (Some k) e = ap (λ (t : Bool). if t then r.new m else None) (other_record m ne k e)

    node_here : on_blocks new g.disk n ≡ Some (blank inode_type)
    node_here = old_node new g.disk n none_new ∙ claims.node

    node_other : (m : ℕ) → m ≢ n → on_blocks new g.disk m ≡ on_blocks r.new g.disk m
    node_other m ne = ap (λ (o : Option ℕ). unless_new o (g.disk m)) (other_new m ne)

    -- the world after it, with these owners
    abbrev pub put_with : Owners → World
    put_with o = record { state = record (r.state) { log = now }; owner = o.owner; left = o.left; taken = o.taken; commits = r.commits; new = new }

    abbrev pub put_then : World
    put_then = put_with (owners_of r)

    good : IsGoodSeen l.sizes (seen_of now) (length l.contents)
    good = good_then h b stored r.state shows.whole shows.blocks.seen can

    blocks_then : IsMade inode_type → AreOnBlocks now.contents now.seats now.sizes now.members (ghost_of r.owner r.left (on_blocks new g.disk) g.lock g.desks)
    blocks_then made =
        let before : IsRunning (disk_of l) (on_blocks r.new g.disk) r.owner r.left (λ j. if_joined g.desks (g.lock j)) (is_joined l.members) = shows.blocks.running in
        record {
          seen = seen_then h b stored r.state shows.whole shows.blocks.seen can;
          running = record {
            front = good.good;
            whole = good.whole;
            range = λ j v node. elim (same_or j n) [
              | inl q ↦ subst (λ (k : ℕ). (1 ≤ k) × (k < (sizes_of (disk_of now)).ninodes)) (sym q) (is.low, subst (λ (s : Super). n < s.ninodes) (sym good.sizes_are) is.bound)
              | inr ne ↦ subst (λ (s : Super). (1 ≤ j) × (j < s.ninodes)) (was ∙ sym good.sizes_are) (before.range j v (sym (node_other j ne) ∙ node))
            ];
            inodes = λ j low bound none. elim (same_or j n) [
              | inl q ↦ subst (λ (k : ℕ). HoldsAt (disk_of now) r.owner k (on_blocks new g.disk k)) (sym q) (subst (λ (v : Option Node). HoldsAt (disk_of now) r.owner n v) (sym node_here) (holds made))
              | inr ne ↦
                  let inside : j < (sizes_of (disk_of l)).ninodes = subst (λ (s : Super). j < s.ninodes) (good.sizes_are ∙ sym was) bound in
                  subst (λ (v : Option Node). HoldsAt (disk_of now) r.owner j v) (sym (node_other j ne))
                  (untouched (disk_of l) (disk_of now) r.owner r.owner j (on_blocks r.new g.disk j) (leaves.inodes j low inside ne) (before.inodes j low inside none))
            ];
            bits = leaves.bits;
            no_others = leaves.no_others;
            owners = leaves.owners;
            changes = λ j k e. members_joined l.group b l.members h k ∙ before.changes j k e;
          };
        }

    pub put_shows : IsMade inode_type → Shows put_then g
    put_shows made = record {
      whole = whole_put h b stored r.state shows.whole shows.blocks.seen can;
      runs = shows.runs;
      size = shows.size;
      tables = shows.tables;
      members = λ k lt. shows.members k lt ∙ sym (members_joined l.group b l.members h k);
      blocks = blocks_then made;
      news = λ m k e. elim (same_or m n) [
        | inl q ↦ absurd (none-some k (sym (ap new q ∙ none_new) ∙ e))
        | inr ne ↦
            let then_ = sym (other_new m ne) ∙ e in
            let z = shows.news m k then_ in
            record { low = z.low; bound = z.bound; free = other_record m ne k then_; unlocked = z.unlocked; kept = z.kept; joined = members_joined l.group b l.members h k ∙ z.joined; unloaded = z.unloaded }
      ];
      bytes = bytes_then h b stored r.state shows.whole shows.blocks.seen can shows.bytes;
      taken = shows.taken;
      commit = shows.commit;
      loads = record {
        seen = λ m d e. elim (same_or m n) [
          | inl q ↦ absurd (none-some d (sym (ap (loaded (tables_of r)) q ∙ is.unloaded) ∙ e))
          | inr ne ↦ let at = load_range m d r g shows e in shows.loads.seen m d e ∙ sym (leaves.inodes m at.0 (within m at.1) ne).inode
        ];
        dead = shows.loads.dead;
        typed = shows.loads.typed;
        indexed = shows.loads.indexed;
      };
      offsets = shows.offsets;
    }

    pub put_same_others : (k : ℕ) → k ≢ h → Same k r put_then
    put_same_others k ne =
        let own = own_put h b stored r.state shows.whole shows.blocks.seen can k ne in
        record {
          inodes = λ j e.
              let mine : g.lock j ≡ Some k = shows.tables.places.holders j ∙ e in
              let at = lock_range j k r g shows mine in
              record { lock = e; untouched = leaves.inodes j at.0 (within j at.1) (λ q. none-some k (sym is.unlocked ∙ ap g.lock (sym q) ∙ mine)) };
          no_more = λ j e. e;
          buffers = λ a. same_view k a l now (λ z. (own z).buffers a) refl;
          held = ap (λ (x : Own). x.count) own;
          member = ap (λ (x : Own). x.member) own;
          group = λ a j m e. put_grows l.group b a e;
          sizes = refl;
          taken = leaves.others k ne;
          begun = λ z. (commit_none k r.commits (commit_in now) (commit_in l) (nobody_commits h r g shows (is_member l.members h can.joined)) z, λ m. each m z);
        }
      where
        each : (m : ℕ) → is_hart (new m) k ≡ is_hart (r.new m) k
        each m = elim (same_or m n) [
          | inl q ↦ ap (λ (o : Option ℕ). is_hart o k) (ap new q ∙ none_new) ∙ sym (ap (λ (o : Option ℕ). is_hart o k) (ap r.new q ∙ claims.new) ∙ eq_not h k (λ e. ne (sym e)))
          | inr apart ↦ ap (λ (o : Option ℕ). is_hart o k) (other_new m apart)
        ]

    -- the hart has what it had before it took the inode
    pub put_base : count_of (is_held_by h) l.seats ≡ 1 → Base h put_then g c
    put_base one = record {
      free = let back = (put_hand h b stored l.seats can.holder).count in omega (arith, back, one);
      taken = claims.taken;
      through = record {
        commits = claims.commits;
        new = λ m e. elim (same_or m n) [ inl q ↦ none-some h (sym (ap new q ∙ none_new) ∙ e) | inr ne ↦ claims.only m ne (sym (other_new m ne) ∙ e) ];
      };
      inodes = λ i e.
          let had = claims.hands i e in
          let mine : g.lock i ≡ Some h = shows.tables.places.holders i ∙ e in
          let at = lock_range i h r g shows mine in
          let left = leaves.inodes i at.0 (within i at.1) (λ q. none-some h (sym is.unlocked ∙ ap g.lock (sym q) ∙ mine)) in
          record {
            keeps = had.keeps;
            loaded_is = subst (λ (f : Dinode). IsLoaded l.sizes.version (c i) (g.disk i) f) (sym left.inode) had.loaded_is;
            holds = untouched (disk_of l) (disk_of now) r.owner r.owner i (g.disk i) left had.holds;
            opened = had.opened;
          };
      lent = λ some. absurd (some claims.free);
    }

    -- whose the blocks are doesn't change: it has taken none
    pub put_owners : owners_after h (Put b (Some stored)) r (record (r.state) { log = now }) ≡ owners_of r
    put_owners =
        let inodes = shows.blocks.seen.good.inodes in
        let bound = is.bound in
        quiet_owners (λ i. lock_holder i (tables_of r)) h (disk_of now) (owners_of r) claims.taken l.sizes.bmapstart b (disk_of l) (λ e. absurd (omega (arith, inodes, bound, e)))
