-- The record put of an inode that a hart is changing. What it has taken and the record names is the inode's then,
-- which holds its node.
use Rattle.inodes_on_blocks.proofs.Vocabulary.{◌≡◌, ◌≢◌, inl, inr, ℕ, ◌<◌, ◌≤◌, Bool, true, false, List, length, Option, Some, None, refl, sym, ◌∙◌, ap, subst, arith, if◌then◌else◌, none-some, Dinode, Super, IsDinode, sizes_of, IsData, HoldsAt, IsInodePut, Node, put, either, same_or, put_same, put_other, lock_holder, seen_of, inode_block, is_hart, World, log_of, tables_of, disk_of, inode_in, owners_of, world_with, in_hand, NothingMore, Had, Has, Carry, IsLoaded, IsOpened, InHand, Base, Owners, is_named, inode_put, CanPut, IsChanging, PutLeaves, log_with, owners_with, Shows}
use Rattle.inodes_on_blocks.proofs.Basics.{inode_is, node_held, good_seen, hart_is, is_here, through_put, open_same, open_then, lock_range, shows_put, record_put, node_then, put_hand}
use Rattle.fs_machine.specs.InMemory.{IndexState, Loaded}
use Rattle.inode_machine.specs.World as above
use Rattle.inodes_on_blocks.specs.Indexes.{IsIndexOf}
use Rattle.inode_machine.specs.Exec as above_exec
use Rattle.inodes_on_blocks.specs.Recording.{with_record}
use Rattle.inodes_on_blocks.proofs.Changing.{owner_with, Changing, others_put}
use Rattle.inodes_on_blocks.proofs.PutLaws.{before, naming_puts_leave}

-- an inode that holds a node does so for owners that are the same of the data blocks
holds_on : (disk : List (List ℕ)) (owner owner' : ℕ → ℕ) (i : ℕ) (v : Option Node) → ((b : ℕ) → IsData (sizes_of disk) b → owner' b ≡ owner b) → HoldsAt disk owner i v → HoldsAt disk owner' i v
holds_on disk owner owner' i v same held = record {
  inode = held.inode;
  content = held.content;
  room = held.room;
  blocks = record {
    owned = λ p z lt ne. let own = held.blocks.owned p z lt ne in record { block = own.block; owner_is = same _ own.block ∙ own.owner_is };
    once = held.blocks.once;
    named = λ b block own. held.blocks.named b block (sym (same b block) ∙ own);
  };
}

module _ (h n : ℕ) (c : Carry) (o : Option Node) (d : Dinode) (x : Node) (r : World) (g : above.World) (shows : Shows r g) (changing : Changing h n c o d x r g) (is : IsChanging h n g) (fits : IsDinode d)
    (can : CanPut h (inode_block (log_of r).sizes.inodestart n) (with_record n d r) (log_of r)) where
  abbrev b : ℕ
  b = inode_block (log_of r).sizes.inodestart n

  abbrev then_ : World
  then_ = world_with h b (with_record n d r) r

  range : (1 ≤ n) × (n < (log_of r).sizes.ninodes)
  range = lock_range n h r g shows is.lock

  here : sizes_of (disk_of (log_of r)) ≡ (log_of r).sizes
  here = (good_seen (log_of r).sizes (seen_of (log_of r)) (length (log_of r).contents) shows.blocks.seen).sizes_are

  other_nodes : (j : ℕ) → j ≢ n → g.lock j ≡ Some h → HoldsAt (disk_of (log_of r)) r.owner j (g.disk j)
  other_nodes j ne e = (changing.others j ne (sym (shows.tables.places.holders j) ∙ e)).holds

  pub naming_leaves : PutLeaves h n r (log_with h b (with_record n d r) r) (owners_with h b (with_record n d r) r)
  naming_leaves = (naming_puts_leave h n d r g shows is fits other_nodes can).0

  put_is : IsInodePut (disk_of (log_of r)) (disk_of (log_of then_)) n d
  put_is = record_put h n d r g shows range.1 fits can (shows.blocks.seen.whole b can.home.within can.home.outside)

  -- with what it had taken as its own
  holds_with : HoldsAt (disk_of (log_of then_)) (owner_with h n r) n (Some x)
  holds_with =
      node_held (disk_of (log_of r)) (disk_of (log_of then_)) (owner_with h n r) n d x shows.blocks.running.front (subst (λ (s : Super). n < s.ninodes) (sym here) range.1) put_is changing.laid changing.named

  named_then : (k : ℕ) → r.taken k ≡ Some h → (then_.owner k ≡ n) × (then_.taken k ≡ None)
  named_then k taken =
      let shown = shows.taken k h taken in
      let block : IsData (sizes_of (disk_of (log_of then_))) k = subst (λ (s : Super). IsData s k) (sym (put_is.block.sizes ∙ here)) shown.3 in
      (naming_puts_leave h n d r g shows is fits other_nodes can).1 k taken (holds_with.blocks.named k block (ap (λ (t : Bool). if t then n else r.owner k) (is_here (r.taken k) h taken)))

  -- of another block nothing changes
  abbrev owners_then : Owners
  owners_then = inode_put (λ i. lock_holder i (tables_of r)) h (disk_of (log_of then_)) (owners_of r)

  owners_are : owners_with h b (with_record n d r) r ≡ owners_then
  owners_are =
      let inodes = shows.blocks.seen.good.inodes in
      let bound = range.1 in
      before (λ i. lock_holder i (tables_of r)) h (log_of r).sizes.bmapstart b (disk_of (log_of r)) (disk_of (log_of then_)) (owners_of r) (omega (arith, inodes, bound))

  unnamed_then : (k : ℕ) → is_hart (r.taken k) h ≡ false → (then_.owner k ≡ r.owner k) × (then_.taken k ≡ r.taken k)
  unnamed_then k apart =
      subst (λ (z : Owners). (z.owner k ≡ r.owner k) × (z.taken k ≡ r.taken k)) (sym owners_are)
      (let no : is_named (λ i. lock_holder i (tables_of r)) h (disk_of (log_of then_)) (owners_of r) k ≡ false = rw apart refl in (rw no refl, rw no refl))

  owner_then : (k : ℕ) → then_.owner k ≡ owner_with h n r k
  owner_then k = elim (either (is_hart (r.taken k) h)) [
    | inl mine ↦ (named_then k (hart_is (r.taken k) h mine)).0 ∙ sym (ap (λ (t : Bool). if t then n else r.owner k) mine)
    | inr apart ↦ (unnamed_then k apart).0 ∙ sym (ap (λ (t : Bool). if t then n else r.owner k) apart)
  ]

  -- it holds its node, and the hart has taken nothing more
  pub holds_then : HoldsAt (disk_of (log_of then_)) then_.owner n (Some x)
  holds_then = holds_on (disk_of (log_of then_)) (owner_with h n r) then_.owner n (Some x) (λ k block. owner_then k) holds_with

  pub none_taken : (k : ℕ) → then_.taken k ≢ Some h
  none_taken k e = elim (either (is_hart (r.taken k) h)) [
    | inl mine ↦ none-some h (sym (named_then k (hart_is (r.taken k) h mine)).1 ∙ e)
    | inr apart ↦ let z : false ≡ true = sym apart ∙ is_here (r.taken k) h (sym (unnamed_then k apart).1 ∙ e) in cc
  ]

  pub inode_then : inode_in (log_of then_) n ≡ d
  inode_then = inode_is (disk_of (log_of r)) (disk_of (log_of then_)) n d put_is

  pub naming_shows : Shows then_ g
  naming_shows = shows_put h b n (with_record n d r) r g shows is.lock is.joined can (owners_with h b (with_record n d r) r) naming_leaves

  -- and so above: the inode is that node then
  abbrev seen_then : above.World
  seen_then = above_exec.with_record g n (Some x)

  pub shows_both : Shows then_ seen_then
  shows_both = node_then h n then_ g (Some x) naming_shows is.lock is.joined

  pub base_then : (index : IndexState) → IsIndexOf (log_of r).sizes.version index (Some x) → in_hand h r ≡ 1 → (g.desks h).lender ≡ None → Base h then_ seen_then (put c n (Has (record { inode = d; index = index }) NothingMore))
  base_then index right one free = record {
    free = let back = (put_hand h b (with_record n d r) (log_of r).seats can.holder).count in omega (arith, back, one);
    taken = none_taken;
    through = through_put h r then_ (log_of then_) refl refl changing.through;
    inodes = λ i e. elim (same_or i n) [
      | inl q ↦ subst (λ (j : ℕ). InHand h j (put c n (Has loads NothingMore) j) then_ seen_then) (sym q) this
      | inr ne ↦ subst (λ (z : Had). InHand h i z then_ seen_then) (sym (put_other c n (Has loads NothingMore) i ne)) (other i ne (others_put h n b (with_record n d r) r g shows naming_leaves c changing.others i ne e))
    ];
    lent = λ some. absurd (some free);
  }
    where
      loads : Loaded
      loads = record { inode = d; index = index }

      this : InHand h n (put c n (Has loads NothingMore) n) then_ seen_then
      this = record {
        keeps = changing.keeps;
        loaded_is =
            subst (λ (z : Had). IsLoaded (log_of then_).sizes.version z (put g.disk n (Some x) n) (inode_in (log_of then_) n)) (sym (put_same c n (Has loads NothingMore)))
            (sym inode_then, (λ z. none-some x (sym z ∙ put_same g.disk n (Some x))), tt, subst (IsIndexOf (log_of r).sizes.version index) (sym (put_same g.disk n (Some x))) right);
        holds = subst (λ (v : Option Node). HoldsAt (disk_of (log_of then_)) then_.owner n v) (sym (put_same g.disk n (Some x))) holds_then;
        opened = subst (λ (z : Had). IsOpened h n z seen_then) (sym (put_same c n (Has loads NothingMore))) tt;
      }

      other : (i : ℕ) → i ≢ n → InHand h i (c i) then_ g → InHand h i (c i) then_ seen_then
      other i ne was = record {
        keeps = was.keeps;
        loaded_is = subst (λ (v : Option Node). IsLoaded (log_of then_).sizes.version (c i) v (inode_in (log_of then_) i)) (sym (put_other g.disk n (Some x) i ne)) was.loaded_is;
        holds = subst (λ (v : Option Node). HoldsAt (disk_of (log_of then_)) then_.owner i v) (sym (put_other g.disk n (Some x) i ne)) was.holds;
        opened = open_then h i (c i) g seen_then (open_same h i g) was.opened;
      }
