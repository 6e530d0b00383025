-- What a hart has of an inode that it is changing, block by block, until it puts the record. With the blocks that it
-- has taken, the inode is laid out for a node.
use Rattle.inodes_on_blocks.proofs.Vocabulary.{◌≡◌, ◌≢◌, inl, inr, ℕ, ◌<◌, ◌==◌, Bool, true, false, List, length, Option, Some, None, is_some, refl, sym, ◌∙◌, ap, subst, if◌then◌else◌, Dinode, Super, recovered, sizes_of, IsData, numbers_of, HoldsAt, NamesOwned, IsUntouched, IsLaidOut, Node, either, lock_holder, seen_of, if_kept, is_hart, Idle, World, log_of, tables_of, disk_of, inode_in, owners_of, world_with, SameBut, KeepsInode, Kept, undertaken, IsThrough, Same, Carry, IsLoaded, InHand, Base, PutLeaves, log_with, owners_with, Shows}
use Rattle.inodes_on_blocks.proofs.Basics.{untouched, untouched_change, laid_before, good_seen, data_place, hart_is, held_back, kept_disk, hand_then, lent_then, through_then, through_put, block_shown, lock_range}
use Rattle.inode_machine.specs.World as above
use Rattle.inodes_on_blocks.proofs.PutLaws.{behind}

-- ---- whose the blocks are

-- with what the hart has taken as inode n's
abbrev pub owner_with : ℕ → ℕ → World → ℕ → ℕ
owner_with h n r b = if is_hart (r.taken b) h then n else r.owner b

-- the part of it that stays while others step, and while it takes buffers
pub record LeftTo (h : ℕ) (v w : World) : Type 0 where
  pub inodes : (i : ℕ) → lock_holder i (tables_of v) ≡ Some h → KeepsInode h i v w
  pub no_more : (i : ℕ) → lock_holder i (tables_of w) ≡ Some h → lock_holder i (tables_of v) ≡ Some h
  pub taken : (b : ℕ) → if_kept (w.taken b) h (seen_of (log_of w) b) ≡ if_kept (v.taken b) h (seen_of (log_of v) b)
  pub sizes : (log_of w).sizes ≡ (log_of v).sizes
  pub begun : undertaken h w ≡ undertaken h v

pub left_same : (h : ℕ) (v w : World) → Same h v w → LeftTo h v w
left_same h v w s = record { inodes = s.inodes; no_more = s.no_more; taken = s.taken; sizes = s.sizes; begun = s.begun }

pub left_but : (h b : ℕ) (v w : World) → SameBut h b v w → LeftTo h v w
left_but h b v w s = record { inodes = s.inodes; no_more = s.no_more; taken = s.taken; sizes = s.sizes; begun = s.begun }

-- ---- it lasts

is_taken : {A : Type 0} (o : Option ℕ) (h : ℕ) (x : A) → is_some (if_kept o h x) ≡ is_hart o h
is_taken None h x = refl
is_taken {A} (Some g) h x = by (g == h)
  where
    by : (b : Bool) → is_some {T = A} (if b then Some x else None) ≡ b
    by true = refl
    by false = refl

module _ (h n : ℕ) (v w : World) (g u : above.World) (shows : Shows v g) (shows_then : Shows w u) (left : LeftTo h v w) (keeps : KeepsInode h n v w) where
  abbrev was : List (List ℕ)
  was = disk_of (log_of v)

  abbrev now : List (List ℕ)
  now = disk_of (log_of w)

  still : (b : ℕ) → is_hart (w.taken b) h ≡ is_hart (v.taken b) h
  still b = sym (is_taken (w.taken b) h (seen_of (log_of w) b)) ∙ ap (λ (o : Option (List ℕ)). is_some o) (left.taken b) ∙ is_taken (v.taken b) h (seen_of (log_of v) b)

  -- the bytes of what it has taken
  bytes_stay : (b : ℕ) → IsData (sizes_of was) b → v.taken b ≡ Some h → recovered now b ≡ recovered was b
  bytes_stay b block taken =
      let back = held_back (v.taken b) (w.taken b) h (seen_of (log_of v) b) (seen_of (log_of w) b) (sym (left.taken b)) taken in
      let there = data_place v g shows b block in
      let here = data_place w u shows_then b (subst (λ (s : Super). IsData s b) (sym keeps.untouched.sizes) block) in
      block_shown w u shows_then b here.1 here.0 ∙ back.1 ∙ sym (block_shown v g shows b there.1 there.0)

  pub stays_with : IsUntouched was now (owner_with h n v) (owner_with h n w) n
  stays_with = record {
    sizes = keeps.untouched.sizes;
    inode = keeps.untouched.inode;
    blocks = λ b block own. elim (either (is_hart (v.taken b) h)) [
      | inl mine ↦ (bytes_stay b block (hart_is (v.taken b) h mine), ap (λ (t : Bool). if t then n else w.owner b) (still b ∙ mine))
      | inr apart ↦
          let same = keeps.untouched.blocks b block (sym (ap (λ (t : Bool). if t then n else v.owner b) apart) ∙ own) in
          (same.0, ap (λ (t : Bool). if t then n else w.owner b) (still b ∙ apart) ∙ same.1)
    ];
    alone = λ b block own. elim (either (is_hart (v.taken b) h)) [
      | inl mine ↦ ap (λ (t : Bool). if t then n else v.owner b) mine
      | inr apart ↦ ap (λ (t : Bool). if t then n else v.owner b) apart ∙ keeps.untouched.alone b block (sym (ap (λ (t : Bool). if t then n else w.owner b) (still b ∙ apart)) ∙ own)
    ];
  }

-- ---- an inode that a hart is changing

-- Its lock is the hart's, and above it is what it was. With what the hart has taken, and this record, it is laid out
-- for this node, and names all that is its own. The hart's other inodes are as before.
pub record Changing (h n : ℕ) (c : Carry) (o : Option Node) (d : Dinode) (x : Node) (r : World) (g : above.World) : Type 0 where
  pub others : (i : ℕ) → i ≢ n → lock_holder i (tables_of r) ≡ Some h → InHand h i (c i) r g
  pub lock : lock_holder n (tables_of r) ≡ Some h
  pub keeps : g.keeper n ≡ Some h
  pub was : g.disk n ≡ o
  pub through : IsThrough h r
  pub lent : ((g.desks h).lender ≡ None → ⊥) → Idle h g
  pub laid : IsLaidOut (disk_of (log_of r)) (owner_with h n r) n d x
  pub named : NamesOwned (disk_of (log_of r)) (owner_with h n r) n (numbers_of (disk_of (log_of r)) d)

-- If the hart has taken nothing, an inode that holds its node is so.
pub changing_start : (h n : ℕ) (c : Carry) (x : Node) (r : World) (g : above.World) → Base h r g c → lock_holder n (tables_of r) ≡ Some h → g.disk n ≡ Some x → Changing h n c (Some x) (inode_in (log_of r) n) x r g
changing_start h n c x r g base mine is =
    let hand = base.inodes n mine in
    let own : owner_with h n r ≡ r.owner = (λ z k. none_own k z) in
    let laid = laid_before (disk_of (log_of r)) (owner_with h n r) n x
    (subst (λ (f : ℕ → ℕ). HoldsAt (disk_of (log_of r)) f n (Some x)) (sym own) (subst (λ (v : Option Node). HoldsAt (disk_of (log_of r)) r.owner n v) is hand.holds)) in
    record { others = λ i ne e. base.inodes i e; lock = mine; keeps = hand.keeps; was = is; through = base.through; lent = base.lent; laid = laid.0; named = laid.1 }
  where
    none_own : (k : ℕ) → owner_with h n r k ≡ r.owner k
    none_own k = elim (either (is_hart (r.taken k) h)) [
      | inl mine ↦ absurd (base.taken k (hart_is (r.taken k) h mine))
      | inr apart ↦ ap (λ (t : Bool). if t then n else r.owner k) apart
    ]

-- it lasts while others step
pub changing_then : (h n : ℕ) (c : Carry) (o : Option Node) (d : Dinode) (x : Node) (v w : World) (g u : above.World) → Shows v g → Shows w u → LeftTo h v w → Kept h g u → Changing h n c o d x v g → Changing h n c o d x w u
changing_then h n c o d x v w g u shows shows_then left kept is =
    let stays = left.inodes n is.lock in
    let mine = stays_with h n v w g u shows shows_then left stays in
    let becomes = untouched_change (disk_of (log_of v)) (disk_of (log_of w)) (owner_with h n v) (owner_with h n w) n d x mine is.laid in
    record {
      others = λ i ne e. let before = left.no_more i e in hand_then h i (c i) v w g u left.sizes (left.inodes i before) kept is.lent (is.others i ne before);
      lock = stays.lock;
      keeps = (kept_disk h n g u kept is.lent is.keeps).0;
      was = (kept_disk h n g u kept is.lent is.keeps).1 ∙ is.was;
      through = through_then h v w left.begun is.through;
      lent = lent_then h g u kept is.lent;
      laid = becomes.laid;
      named = subst (NamesOwned (disk_of (log_of w)) (owner_with h n w) n) (sym becomes.numbers) (becomes.named (numbers_of (disk_of (log_of v)) d) is.named);
    }

-- so do the numbers that it names
pub numbers_stay : (h n : ℕ) (c : Carry) (o : Option Node) (d : Dinode) (x : Node) (v w : World) (g u : above.World) → Shows v g → Shows w u → LeftTo h v w → Changing h n c o d x v g
    → numbers_of (disk_of (log_of w)) d ≡ numbers_of (disk_of (log_of v)) d
numbers_stay h n c o d x v w g u shows shows_then left is =
    (untouched_change (disk_of (log_of v)) (disk_of (log_of w)) (owner_with h n v) (owner_with h n w) n d x (stays_with h n v w g u shows shows_then left (left.inodes n is.lock)) is.laid).numbers

-- and a block that is the inode's, or taken
pub stays_own : (h n b : ℕ) (c : Carry) (o : Option Node) (d : Dinode) (x : Node) (v w : World) (g u : above.World) → Shows v g → Shows w u → LeftTo h v w → Changing h n c o d x v g → IsData (sizes_of (disk_of (log_of v))) b
    → owner_with h n v b ≡ n → owner_with h n w b ≡ n
stays_own h n b c o d x v w g u shows shows_then left is block own = ((stays_with h n v w g u shows shows_then left (left.inodes n is.lock)).blocks b block own).1

-- ---- a put for it

module _ (h n b : ℕ) (bytes : List ℕ) (r : World) (g : above.World) (shows : Shows r g) (leaves : PutLeaves h n r (log_with h b bytes r) (owners_with h b bytes r)) where
  abbrev then_ : World
  then_ = world_with h b bytes r

  -- the hart's other inodes are as they were
  pub others_put : (c : Carry) → ((i : ℕ) → i ≢ n → lock_holder i (tables_of r) ≡ Some h → InHand h i (c i) r g) → (i : ℕ) → i ≢ n → lock_holder i (tables_of then_) ≡ Some h → InHand h i (c i) then_ g
  others_put c all i ne e =
      let was = all i ne e in
      let there = lock_range i h r g shows (shows.tables.places.holders i ∙ e) in
      let bound = subst (λ (s : Super). i < s.ninodes) (sym (good_seen (log_of r).sizes (seen_of (log_of r)) (length (log_of r).contents) shows.blocks.seen).sizes_are) there.1 in
      let left = leaves.inodes i there.0 bound ne in
      record {
        keeps = was.keeps;
        loaded_is = subst (λ (f : Dinode). IsLoaded (log_of r).sizes.version (c i) (g.disk i) f) (sym left.inode) was.loaded_is;
        holds = untouched (disk_of (log_of r)) (disk_of (log_of then_)) r.owner then_.owner i (g.disk i) left was.holds;
        opened = was.opened;
      }

  -- if it is laid out for another node then
  pub changed_put : (c : Carry) (o : Option Node) (d e : Dinode) (x y : Node) → Changing h n c o d x r g → IsLaidOut (disk_of (log_of then_)) (owner_with h n then_) n e y → NamesOwned (disk_of (log_of then_)) (owner_with h n then_) n (numbers_of (disk_of (log_of then_)) e)
      → Changing h n c o e y then_ g
  changed_put c o d e x y is laid named = record { others = others_put c is.others; lock = is.lock; keeps = is.keeps; was = is.was; through = through_put h r then_ (log_of then_) refl refl is.through; lent = is.lent; laid = laid; named = named }

-- whose the blocks are doesn't change if a block after the bitmap is put
pub data_owners : (h b : ℕ) (bytes : List ℕ) (r : World) → (log_of r).sizes.bmapstart < b → owners_with h b bytes r ≡ owners_of r
data_owners h b bytes r past = behind (λ i. lock_holder i (tables_of r)) h (log_of r).sizes.bmapstart b (disk_of (log_of r)) (disk_of (log_with h b bytes r)) (owners_of r) past
