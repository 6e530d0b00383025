-- A locked directory searched, by its index and then its other blocks, one after the other. What is found is what its
-- content had when the lock was taken.
use Rattle.inodes_on_blocks.proofs.Vocabulary.{◌≡◌, ℕ, zero, suc, ◌+◌, ◌-◌, ◌*◌, ◌<◌, false, List, Option, Some, None, sym, ◌∙◌, ap, subst, arith, Found, Aim, block_count, found_in, look_at, search_from, Dinode, Super, block_len, is_free, content_block, HoldsAt, Node, hart_count, Do, bind, unmarked, Machine, Laws, P, Wp, Both, joined, Stable, bind-assoc, Wp-more, lock_holder, Put, BlockInHand, fetch_block, World, log_of, tables_of, disk_of, inode_in, KeepsInode, Same, Kept, below, Labels, labelled, Keeps, in_hand}
use Rattle.directory.proofs.Indexed.{else_searched, searched}
use Rattle.directory.proofs.Indexed.{searched_from}
use Rattle.directory.specs.Indexes.{first_of, raised}
use Rattle.directory.specs.Programs.{Searched, or_next, search}
use Rattle.fs_machine.specs.InMemory.{IndexState, Loaded}
use Rattle.inode_machine.specs.World as above
use Rattle.inodes_on_blocks.proofs.Basics.{kept_then, same_inode, holds_now, used_now, content_stays, below_laws}
use Rattle.inodes_on_blocks.proofs.ContentFetch.{s-touch}
use Rattle.inodes_on_blocks.proofs.ContentReads.{touches, touches_are}

module _ (sizes : Super) (l : Labels) (laws : Laws (labelled sizes.version l)) (keeps : Keeps l) (h : ℕ) (lt : h < hart_count) (B : List l.Step → Type 0) {A : Type 0} (Q : A → List l.Step → Both World above.World → Type 0) (G : List l.Step → above.World → Type 0)
    (stable : Stable (labelled sizes.version l) (below sizes) laws (below_laws sizes l keeps) h B G) (i : ℕ) (o : Option Node) (aim : Aim) (g : Searched → P (joined (labelled sizes.version l) (below sizes)) A) (j : ℕ) (w : Both World above.World)
    (holds : HoldsAt (disk_of (log_of w.real)) w.real.owner i o) (used : is_free (inode_in (log_of w.real) i) ≡ false) (mine : lock_holder i (tables_of w.real) ≡ Some h) (none : in_hand h w.real ≡ 0) where
  abbrev W : Type 0
  W = Both World above.World

  abbrev M : Machine
  M = joined (labelled sizes.version l) (below sizes)

  abbrev d : Dinode
  d = inode_in (log_of w.real) i

  abbrev content : ℕ → List ℕ
  content q = content_block (disk_of (log_of w.real)) d q

  -- how it goes on with what was found
  abbrev Rest : Searched → Type 0
  Rest found = (v : W) (fs : List l.Step) → Same h w.real v.real → Kept h w.seen v.seen → G fs v.seen → Wp M h B Q (g found) j fs v

  -- what was sought was found, or it is looked for after that
  by : (n : ℕ) (v : W) (fs : List l.Step) → Same h w.real v.real → Kept h w.seen v.seen → G fs v.seen → (here : Option Found) (x : IndexState) (behind : IndexState → Searched) (next : IndexState → P M Searched) → Rest (else_searched here x behind)
      → (Rest (behind x) → Wp M h B Q (bind (next x) g) (touches n j) fs v) → Wp M h B Q (bind (or_next here x next) g) (touches n j) fs v
  by n v fs same kept stage (Some f) x behind next rest goes = Wp-more M h (g (record { found = Some f; index = x })) B Q j (touches n j) fs v (let more = touches_are n j in omega (arith, more)) (rest v fs same kept stage)
  by n v fs same kept stage None x behind next rest goes = goes rest

  -- n blocks from block k on
  s-blocks : (n k : ℕ) (x : IndexState) (u : W) (es : List l.Step) → Same h w.real u.real → Kept h w.seen u.seen → G es u.seen → ((q : ℕ) → q < n → block_len * (k + q) < d.size)
      → Rest (searched_from sizes.version n aim d content k x) → Wp M h B Q (bind (search_from sizes.version n aim d k x) g) (touches n j) es u
  unfolding search_from touches searched_from
  s-blocks zero k x u es same kept stage within rest = rest u es same kept stage
  s-blocks (suc n) k x u es same kept stage within rest =
      subst (λ (p : P M A). Wp M h B Q p (touches (suc n) j) es u) (sym (bind-assoc (fetch_block d k) (look_at sizes.version aim d k x (search_from sizes.version n aim d (k + 1))) g))
      (subst (λ (y : Dinode). Wp M h B Q (bind (fetch_block y k) (λ f. Do (Put f.number None) unmarked (λ _. next f))) (touches (suc n) j) es u) inode
      (s-touch sizes l laws keeps h lt B Q G stable i k o next (touches n j) u (holds_now h i w.real u.real stays o holds used) (used_now h i w.real u.real stays o holds used) stays.lock
      (subst (λ (y : Dinode). block_len * k < y.size) (sym inode) first) (same.held ∙ none)
      (λ v fs t.
      subst (λ (bytes : List ℕ). Wp M h B Q (bind (or_next (found_in sizes.version aim d k bytes) (raised sizes.version d k bytes x) (search_from sizes.version n aim d (k + 1))) g) (touches n j) fs v)
      (sym (ap (λ (y : Dinode). content_block (disk_of (log_of u.real)) y k) inode ∙ content_stays h i w.real u.real stays o holds used k first))
      (let same_v = (below_laws sizes l keeps).trans h w.real u.real v.real same t.same in
      let kept_v = kept_then h w.seen u.seen v.seen kept t.kept in
      by n v fs same_v kept_v t.stage (found_in sizes.version aim d k (content k)) (raised sizes.version d k (content k) x) (searched_from sizes.version n aim d content (k + 1)) (search_from sizes.version n aim d (k + 1)) rest
      (λ behind. s-blocks n (k + 1) (raised sizes.version d k (content k) x) v fs same_v kept_v t.stage (λ q lt_q. let b = within (q + 1) (omega (arith, lt_q)) in omega (arith, b)) behind)))
      es stage))
    where
      stays : KeepsInode h i w.real u.real
      stays = same.inodes i mine

      inode : inode_in (log_of u.real) i ≡ d
      inode = same_inode h i w.real u.real stays o holds used

      first : block_len * k < d.size
      first = let b = within 0 (omega arith) in omega (arith, b)

      next : BlockInHand → P M A
      next f = bind (or_next (found_in sizes.version aim d k f.bytes) (raised sizes.version d k f.bytes x) (search_from sizes.version n aim d (k + 1))) g

  -- the inode as it was when the lock was taken, with an index
  abbrev with_it : IndexState → Loaded
  with_it x = record { inode = d; index = x }

  -- all of it
  pub s-search : (x : IndexState) (u : W) (es : List l.Step) → Same h w.real u.real → Kept h w.seen u.seen → G es u.seen → ((q : ℕ) → q < block_count sizes.version d → block_len * q < d.size) → Rest (searched sizes.version aim (with_it x) content)
      → Wp M h B Q (bind (search sizes.version aim (with_it x)) g) (touches (block_count sizes.version d) j) es u
  s-search x u es same kept stage within rest =
      by (block_count sizes.version d) u es same kept stage (first_of sizes.version aim d x) x (searched_from sizes.version (block_count sizes.version d - x.blocks) aim d content x.blocks) (search_from sizes.version (block_count sizes.version d - x.blocks) aim d x.blocks) rest
      (λ behind.
      Wp-more M h (bind (search_from sizes.version (block_count sizes.version d - x.blocks) aim d x.blocks x) g) B Q (touches (block_count sizes.version d - x.blocks) j) (touches (block_count sizes.version d) j) es u
      (let few = touches_are (block_count sizes.version d - x.blocks) j in let all = touches_are (block_count sizes.version d) j in omega (arith, few, all))
      (s-blocks (block_count sizes.version d - x.blocks) x.blocks x u es same kept stage (λ q low. within (x.blocks + q) (omega (arith, low))) behind))
