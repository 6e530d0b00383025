-- The blocks of a locked inode's content, read one after the other. What is read is the content as it was when the
-- lock was taken.
use Rattle.inodes_on_blocks.proofs.Vocabulary.{◌≡◌, ℕ, zero, suc, ◌+◌, ◌*◌, ◌/◌, ◌<◌, false, List, Option, Some, None, sym, ◌∙◌, ap, subst, arith, Dinode, Super, block_len, is_free, content_block, HoldsAt, Node, hart_count, Do, bind, unmarked, Machine, Laws, P, Wp, Both, joined, Stable, bind-assoc, lock_holder, Put, BlockInHand, FilledMemory, filled_with, next_block, part_of, fetch_block, read_blocks, read_part, World, log_of, tables_of, disk_of, inode_in, KeepsInode, Same, Kept, below, Labels, labelled, Keeps, in_hand}
use Rattle.inode_machine.specs.World as above
use Rattle.inodes_on_blocks.proofs.Basics.{kept_then, same_inode, holds_now, used_now, content_stays, below_laws}
use Rattle.inodes_on_blocks.proofs.ContentFetch.{s-touch}

-- the memory with the parts of this number of blocks
unfoldable pub filled_from : (ℕ → List ℕ) → ℕ → (from upto : ℕ) → FilledMemory → FilledMemory
filled_from content zero from upto m = m
filled_from content (suc n) from upto m = filled_from content n (next_block from) upto (filled_with m (part_of from upto (content (from / block_len))))

-- six steps a block
unfoldable pub touches : ℕ → ℕ → ℕ
touches zero j = j
touches (suc n) j = suc (suc (suc (suc (suc (suc (touches n j))))))

pub touches_are : (n j : ℕ) → touches n j ≡ 6 * n + j
unfolding touches
touches_are zero j = omega arith
touches_are (suc n) j = let more = touches_are n j in omega (arith, more)

module _ (sizes : Super) (l : Labels) (laws : Laws (labelled sizes.version l)) (keeps : Keeps l) (h : ℕ) (lt : h < hart_count) (B : List l.Step → Type 0) {A : Type 0} (Q : A → List l.Step → Both World above.World → Type 0) (G : List l.Step → above.World → Type 0)
    (stable : Stable (labelled sizes.version l) (below sizes) laws (below_laws sizes l keeps) h B G) (i : ℕ) (o : Option Node) (k : FilledMemory → P (joined (labelled sizes.version l) (below sizes)) A) (j : ℕ) (w : Both World above.World)
    (holds : HoldsAt (disk_of (log_of w.real)) w.real.owner i o) (used : is_free (inode_in (log_of w.real) i) ≡ false) (mine : lock_holder i (tables_of w.real) ≡ Some h) (none : in_hand h w.real ≡ 0) where
  abbrev W : Type 0
  W = Both World above.World

  abbrev M : Machine
  M = joined (labelled sizes.version l) (below sizes)

  abbrev d : Dinode
  d = inode_in (log_of w.real) i

  abbrev content : ℕ → List ℕ
  content q = content_block (disk_of (log_of w.real)) d q

  pub s-reads : (n from upto : ℕ) (m : FilledMemory) (u : W) (es : List l.Step) → Same h w.real u.real → Kept h w.seen u.seen → G es u.seen → ((q : ℕ) → q < n → block_len * (from / block_len + q) < d.size)
      → ((v : W) (fs : List l.Step) → Same h w.real v.real → Kept h w.seen v.seen → G fs v.seen → Wp M h B Q (k (filled_from content n from upto m)) j fs v)
      → Wp M h B Q (bind (read_blocks n d from upto m) k) (touches n j) es u
  unfolding read_blocks touches filled_from
  s-reads zero from upto m u es same kept stage within rest = rest u es same kept stage
  s-reads (suc n) from upto m u es same kept stage within rest =
      subst (λ (p : P M A). Wp M h B Q p (touches (suc n) j) es u) (sym (bind-assoc (fetch_block d at) (read_part (read_blocks n d (next_block from) upto) from upto m) k))
      (subst (λ (x : Dinode). Wp M h B Q (bind (fetch_block x at) (λ f. Do (Put f.number None) unmarked (λ _. g f))) (touches (suc n) j) es u) inode
      (s-touch sizes l laws keeps h lt B Q G stable i at o g (touches n j) u (holds_now h i w.real u.real stays o holds used) (used_now h i w.real u.real stays o holds used) stays.lock
      (subst (λ (x : Dinode). block_len * at < x.size) (sym inode) first) (same.held ∙ none)
      (λ v fs t.
      subst (λ (x : List ℕ). Wp M h B Q (bind (read_blocks n d (next_block from) upto (filled_with m (part_of from upto x))) k) (touches n j) fs v)
      (sym (ap (λ (x : Dinode). content_block (disk_of (log_of u.real)) x at) inode ∙ content_stays h i w.real u.real stays o holds used at first))
      (s-reads n (next_block from) upto (filled_with m (part_of from upto (content at))) v fs ((below_laws sizes l keeps).trans h w.real u.real v.real same t.same) (kept_then h w.seen u.seen v.seen kept t.kept) t.stage
      (λ q lt_q. let b = within (q + 1) (omega (arith, lt_q)) in omega (arith, b)) rest))
      es stage))
    where
      at : ℕ
      at = from / block_len

      stays : KeepsInode h i w.real u.real
      stays = same.inodes i mine

      inode : inode_in (log_of u.real) i ≡ d
      inode = same_inode h i w.real u.real stays o holds used

      first : block_len * at < d.size
      first = let b = within 0 (omega arith) in omega (arith, b)

      g : BlockInHand → P M A
      g f = bind (read_blocks n d (next_block from) upto (filled_with m (part_of from upto f.bytes))) k
