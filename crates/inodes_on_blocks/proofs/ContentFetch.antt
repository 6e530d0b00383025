-- A block of a locked inode's content is taken as code takes it: after a touch of the indirect block, if its number
-- is there.
use Rattle.inodes_on_blocks.proofs.Vocabulary.{◌≡◌, ℕ, suc, ◌-◌, ◌*◌, ◌<◌, ◌≤◌, nat_lt, Bool, true, false, List, Option, Some, None, refl, sym, ◌∙◌, ap, subst, arith, slice_index, if◌then◌else◌, nat_tests, Dinode, Super, numbers_in, block_len, is_free, numbers_of, block_number, content_block, HoldsAt, Node, hart_count, Do, bind, unmarked, Machine, Laws, P, Wp, Both, joined, Stable, bind-assoc, Wp-more, lock_holder, fetch, seen_of, Put, Direct, InTable, BlockInHand, give_fetched, fetch_number, fetch_named, fetch_at, fetch_block, Inv, World, log_of, tables_of, disk_of, inode_in, Shows, Same, Kept, below, Labels, labelled, Keeps, in_hand, IsFetched, direct}
use Rattle.inode_machine.specs.World as above
use Rattle.inodes_on_blocks.proofs.Basics.{kept_same, kept_then, direct_number, block_stays, but_same, but_then, s-fetch, s-back, below_laws, empty_hand, same_again}

-- A block of the content was looked at and given back as it was. The hart has nothing in hand again, and nothing of
-- its own changed.
pub record Touched (h : ℕ) (Stage : above.World → Type 0) (w v : Both World above.World) : Type 0 where
  pub same : Same h w.real v.real
  pub kept : Kept h w.seen v.seen
  pub shows : Shows v.real v.seen
  pub inv : Inv v.seen
  pub stage : Stage v.seen

pub either_place : (k : ℕ) (X : Type 0) → (k < direct → nat_lt k direct ≡ true → X) → (direct ≤ k → nat_lt k direct ≡ false → X) → X
either_place k X near far = by (nat_lt k direct) refl
  where
    by : (b : Bool) → nat_lt k direct ≡ b → X
    by true e = near (grind (arith, nat_tests, e)) e
    by false e = far (grind (arith, nat_tests, e)) e

module _ (sizes : Super) (l : Labels) (laws : Laws (labelled sizes.version l)) (keeps : Keeps l) (h : ℕ) (lt : h < hart_count) (B : List l.Step → Type 0) where
  abbrev W : Type 0
  W = Both World above.World

  abbrev M : Machine
  M = joined (labelled sizes.version l) (below sizes)

  module _ {A : Type 0} (Q : A → List l.Step → W → Type 0) (G : List l.Step → above.World → Type 0) (stable : Stable (labelled sizes.version l) (below sizes) laws (below_laws sizes l keeps) h B G)
      (i k : ℕ) (o : Option Node) (f : BlockInHand → P M A) (n : ℕ) (w : W) (holds : HoldsAt (disk_of (log_of w.real)) w.real.owner i o) (used : is_free (inode_in (log_of w.real) i) ≡ false)
      (mine : lock_holder i (tables_of w.real) ≡ Some h) (within : block_len * k < (inode_in (log_of w.real) i).size) (none : in_hand h w.real ≡ 0) where
    abbrev d : Dinode
    d = inode_in (log_of w.real) i

    abbrev b : ℕ
    b = block_number (numbers_of (disk_of (log_of w.real)) d) k

    abbrev bytes : List ℕ
    bytes = content_block (disk_of (log_of w.real)) d k

    abbrev Rest : Type 0
    Rest = (v : W) (fs : List l.Step) → IsFetched h b (G fs) w v → Wp M h B Q (f (record { number = b; bytes = bytes })) n fs v

    -- a world in which the hart has nothing in hand again
    record Since (u : W) : Type 0 where
      same : Same h w.real u.real
      kept : Kept h w.seen u.seen

    -- the block itself, whose number is known
    fetches : Rest → (u : W) (es : List l.Step) → G es u.seen → Since u → (x : ℕ) → x ≡ b → Wp M h B Q (bind (fetch_number x) f) (suc (suc n)) es u
    fetches rest u es stage since x is =
        subst (λ (y : ℕ). Wp M h B Q (bind (fetch_number y) f) (suc (suc n)) es u) (sym is)
        (subst (λ (p : P M A). Wp M h B Q p (suc (suc n)) es u) (sym (bind-assoc (fetch b) (give_fetched b) f))
        (s-fetch sizes l laws keeps h lt B Q G stable b (λ x. f (record { number = b; bytes = x })) n es u stage (let zero_ = none in let held = since.same.held in omega (arith, zero_, held))
        (λ v fs here. (block_stays h i w.real v.real (((below_laws sizes l keeps).trans h w.real u.real v.real since.same here.same).inodes i mine) o holds used v.seen here.shows k within).place)
        (empty_hand h b u.real (since.same.held ∙ none))
        (λ v fs got.
        let now = but_then h b w.real u.real v.real (but_same h b w.real u.real since.same) got.since in
        subst (λ (x : List ℕ). Wp M h B Q (f (record { number = b; bytes = x })) n fs v) (sym (block_stays h i w.real v.real (now.inodes i mine) o holds used v.seen got.shows k within).seen)
        (rest v fs (record {
          since = now;
          kept = kept_then h w.seen u.seen v.seen since.kept got.kept;
          shows = got.shows;
          inv = got.inv;
          stage = got.stage;
          count = got.count ∙ ap suc since.same.held;
          buffer = got.buffer;
        })))))

    -- through the indirect block
    through : Rest → (es : List l.Step) → G es w.seen → direct ≤ k → Wp M h B Q (bind (fetch_at d (InTable (k - direct))) f) (suc (suc (suc (suc (suc n))))) es w
    through rest es stage far =
        subst (λ (p : P M A). Wp M h B Q p (suc (suc (suc (suc (suc n))))) es w)
        (sym (bind-assoc (fetch t) (fetch_named t (k - direct)) f))
        (s-fetch sizes l laws keeps h lt B Q G stable t (λ x. bind (fetch_named t (k - direct) x) f) (suc (suc (suc n))) es w stage (let zero_ = none in omega (arith, zero_))
        (λ v fs here. ((block_stays h i w.real v.real (here.same.inodes i mine) o holds used v.seen here.shows k within).table far).0)
        (empty_hand h t w.real none)
        (λ u gs got.
        let at = (block_stays h i w.real u.real (got.since.inodes i mine) o holds used u.seen got.shows k within).table far in
        s-back sizes l laws keeps h lt B Q G stable t (λ _. bind (fetch_number (slice_index (numbers_in (seen_of (log_of u.real) t)) (k - direct))) f) (suc (suc n)) gs u got.stage got.buffer.holder at.0.0
        (λ v fs back.
        let same = same_again h t w.real v.real (but_then h t w.real u.real v.real got.since back.since) none (let up = got.count in let down = back.count in let zero_ = none in omega (arith, up, down, zero_)) in
        fetches rest v fs back.stage (record { same = same; kept = kept_then h w.seen u.seen v.seen got.kept back.kept }) (slice_index (numbers_in (seen_of (log_of u.real) t)) (k - direct)) (sym at.1))))
      where
        t : ℕ
        t = slice_index d.addrs direct

    -- A hart that has the inode's lock, and nothing in hand, goes on with the block in hand; its bytes are those of
    -- the content.
    pub s-content : Rest → (es : List l.Step) → G es w.seen → Wp M h B Q (bind (fetch_block d k) f) (suc (suc (suc (suc (suc n))))) es w
    s-content rest es stage =
        either_place k (Wp M h B Q (bind (fetch_block d k) f) (suc (suc (suc (suc (suc n))))) es w)
        (λ near e.
        subst (λ (t : Bool). Wp M h B Q (bind (fetch_at d (if t then Direct k else InTable (k - direct))) f) (suc (suc (suc (suc (suc n))))) es w) (sym e)
        (Wp-more M h (bind (fetch_number (slice_index d.addrs k)) f) B Q (suc (suc n)) (suc (suc (suc (suc (suc n))))) es w (omega arith)
        (fetches rest w es stage (record { same = (below_laws sizes l keeps).same h w.real; kept = kept_same h w.seen }) (slice_index d.addrs k) (sym (direct_number (disk_of (log_of w.real)) i k near)))))
        (λ far e. subst (λ (t : Bool). Wp M h B Q (bind (fetch_at d (if t then Direct k else InTable (k - direct))) f) (suc (suc (suc (suc (suc n))))) es w) (sym e) (through rest es stage far))

module _ (sizes : Super) (l : Labels) (laws : Laws (labelled sizes.version l)) (keeps : Keeps l) (h : ℕ) (lt : h < hart_count) (B : List l.Step → Type 0) {A : Type 0} (Q : A → List l.Step → Both World above.World → Type 0) (G : List l.Step → above.World → Type 0)
    (stable : Stable (labelled sizes.version l) (below sizes) laws (below_laws sizes l keeps) h B G) (i k : ℕ) (o : Option Node) (g : BlockInHand → P (joined (labelled sizes.version l) (below sizes)) A) (n : ℕ) (w : Both World above.World)
    (holds : HoldsAt (disk_of (log_of w.real)) w.real.owner i o) (used : is_free (inode_in (log_of w.real) i) ≡ false)
    (mine : lock_holder i (tables_of w.real) ≡ Some h) (within : block_len * k < (inode_in (log_of w.real) i).size) (none : in_hand h w.real ≡ 0) where
  -- A block of the content is taken, looked at, and given back as it was.
  pub s-touch : ((v : Both World above.World) (fs : List l.Step) → Touched h (G fs) w v
      → Wp (joined (labelled sizes.version l) (below sizes)) h B Q (g (record { number = block_number (numbers_of (disk_of (log_of w.real)) (inode_in (log_of w.real) i)) k; bytes = content_block (disk_of (log_of w.real)) (inode_in (log_of w.real) i) k })) n fs v)
      → (es : List l.Step) → G es w.seen
      → Wp (joined (labelled sizes.version l) (below sizes)) h B Q (bind (fetch_block (inode_in (log_of w.real) i) k) (λ x. Do (Put x.number None) unmarked (λ _. g x))) (suc (suc (suc (suc (suc (suc n)))))) es w
  s-touch rest es stage =
      s-content sizes l laws keeps h lt B Q G stable i k o (λ x. Do (Put x.number None) unmarked (λ _. g x)) (suc n) w holds used mine within none
      (λ u gs got.
      s-back sizes l laws keeps h lt B Q G stable b (λ _. g (record { number = b; bytes = content_block (disk_of (log_of w.real)) (inode_in (log_of w.real) i) k })) n gs u got.stage got.buffer.holder
      (block_stays h i w.real u.real (got.since.inodes i mine) o holds used u.seen got.shows k within).place.0
      (λ v fs back.
      rest v fs (record {
        same = same_again h b w.real v.real (but_then h b w.real u.real v.real got.since back.since) none (let up = got.count in let down = back.count in let zero_ = none in omega (arith, up, down, zero_));
        kept = kept_then h w.seen u.seen v.seen got.kept back.kept;
        shows = back.shows;
        inv = back.inv;
        stage = back.stage;
      })))
      es stage
    where
      b : ℕ
      b = block_number (numbers_of (disk_of (log_of w.real)) (inode_in (log_of w.real) i)) k
