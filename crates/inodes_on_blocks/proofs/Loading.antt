-- An inode whose lock a hart has is loaded: its record is the one that is seen.
use Rattle.inodes_on_blocks.proofs.Vocabulary.{◌≡◌, ◌≢◌, inr, ℕ, suc, ◌+◌, ◌/◌, ◌%◌, ◌<◌, List, Option, Some, None, length, refl, sym, ◌∙◌, ap, subst, arith, option_and_then, SeatState, is_held_by, has_block, holder_of, seat_of, seen_in, first_counted, Dinode, Super, dinode_at, IsOutsideLog, recovered, inodes_per_block, seat_in, inode_of, IsGoodSeen, hart_count, eq_self, eq_not, bind, Machine, Laws, P, Wp, Both, joined, Stable, bind-assoc, Wp-more, lock_holder, fetch, seen_of, if_kept, inode_block, give_back, load_unless, World, log_of, tables_of, disk_of, inode_in, Shows, Same, Kept, Carry, Stands, below, buffer_in, Labels, labelled, Keeps, in_hand, SameBut, Loaded, unindexed, unwrap_or}
use Rattle.buffer_cache.specs.Seats.{is_number}
use Rattle.inodes_on_blocks.proofs.SeenDisks.{good_seen}
use Rattle.inode_machine.specs.World as above
use Rattle.inode_table.specs.Programs.{place_of}
use Rattle.inodes_on_blocks.proofs.Alone.{kept_same, kept_then}
use Rattle.inodes_on_blocks.proofs.Fetching.{but_then, s-fetch, s-back}
use Rattle.inodes_on_blocks.proofs.Layer.{below_laws}

-- ---- an inode in its block

module _ (v : World) (g : above.World) (shows : Shows v g) where
  abbrev l_sizes : Super
  l_sizes = (log_of v).sizes

  good : IsGoodSeen l_sizes (seen_in (log_of v).contents (log_of v).seats) (length (log_of v).contents)
  good = good_seen l_sizes (seen_in (log_of v).contents (log_of v).seats) (length (log_of v).contents) shows.blocks.seen

  -- a block outside the log is on the seen disk as it is seen
  pub block_shown : (b : ℕ) → b < l_sizes.size → IsOutsideLog l_sizes b → recovered (disk_of (log_of v)) b ≡ seen_of (log_of v) b
  block_shown b small out = good.blocks b (let all = shows.blocks.seen.sized in omega (arith, all, small)) out

  -- the block of an inode
  pub inode_place : (n : ℕ) → n < l_sizes.ninodes → IsOutsideLog l_sizes (inode_block l_sizes.inodestart n) × (inode_block l_sizes.inodestart n < l_sizes.size)
  inode_place n low =
      let s = shows.blocks.seen.good in
      let log = s.log in
      let inodes = s.inodes in
      let bitmap = s.bitmap in
      (inr (omega (arith, log)), omega (arith, inodes, bitmap, low))

  -- what code reads there is the inode as it is seen
  pub inode_read : (n : ℕ) → n < l_sizes.ninodes → dinode_at (place_of n) (seen_of (log_of v) (inode_block l_sizes.inodestart n)) ≡ inode_in (log_of v) n
  unfolding inode_of
  inode_read n low =
      let place = inode_place n low in
      ap (dinode_at (place_of n)) (sym (block_shown (inode_block l_sizes.inodestart n) place.1 place.0))
      ∙ ap (λ (s : Super). dinode_at (n % inodes_per_block) (recovered (disk_of (log_of v)) (s.inodestart + n / inodes_per_block))) (sym good.sizes_are)

-- ---- a hart without a buffer in hand

pub empty_hand : (h b : ℕ) (v : World) → in_hand h v ≡ 0 → holder_of b (log_of v).seats ≢ Some h
empty_hand h b v none out =
    let s = seat_in h b (log_of v).seats (seat_of b (log_of v).seats) refl out in
    let is : s.0.holder ≡ Some h = sym (ap (λ (o : Option SeatState). option_and_then (λ (x : SeatState). x.holder) o) s.1) ∙ out in
    let some = first_counted (is_held_by h) (has_block b) (log_of v).seats s.0 s.1 (ap (is_number h) is ∙ eq_self h) in
    absurd (omega (arith, some, none))

not_kept : {A : Type 0} (h : ℕ) (o : Option ℕ) (x : A) → o ≢ Some h → if_kept o h x ≡ None
not_kept h None x ne = refl
not_kept {A} h (Some g) x ne = rw (eq_not g h (λ e. ne (ap (λ (z : ℕ). Some z) e))) refl

-- what was taken and given back changed nothing of it
pub same_again : (h b : ℕ) (v w : World) → SameBut h b v w → in_hand h v ≡ 0 → in_hand h w ≡ 0 → Same h v w
same_again h b v w s before after = record {
  inodes = s.inodes;
  no_more = s.no_more;
  buffers = λ k.
      not_kept h (holder_of k (log_of w).seats) (buffer_in (log_of w) k) (empty_hand h k w after)
      ∙ sym (not_kept h (holder_of k (log_of v).seats) (buffer_in (log_of v) k) (empty_hand h k v before));
  held = after ∙ sym before;
  member = s.member;
  group = s.group;
  sizes = s.sizes;
  taken = s.taken;
  begun = s.begun;
}

-- ---- the load

module _ (sizes : Super) (l : Labels) (laws : Laws (labelled sizes.version l)) (keeps : Keeps l) (h : ℕ) (lt : h < hart_count) (B : List l.Step → Type 0) where
  abbrev W : Type 0
  W = Both World above.World

  abbrev M : Machine
  M = joined (labelled sizes.version l) (below sizes)

  module _ {A : Type 0} (Q : A → List l.Step → W → Type 0) (G : List l.Step → above.World → Type 0) (stable : Stable (labelled sizes.version l) (below sizes) laws (below_laws sizes l keeps) h B G) where
    -- A hart that has an inode's lock goes on with what was loaded of it, or with its record, whose names aren't
    -- indexed.
    pub s-load : (n : ℕ) (content : Option Loaded) (c : Carry) (k : Loaded → P M A) (j : ℕ) (es : List l.Step) (w : W) → G es w.seen → Stands sizes h w.real w.seen c → lock_holder n (tables_of w.real) ≡ Some h → n < sizes.ninodes
        → ((v : W) (fs : List l.Step) → Same h w.real v.real → Kept h w.seen v.seen → G fs v.seen → Stands sizes h v.real v.seen c → Wp M h B Q (k (unwrap_or content (unindexed (inode_in (log_of w.real) n)))) j fs v)
        → Wp M h B Q (bind (load_unless sizes.inodestart n content) k) (suc (suc (suc j))) es w
    s-load n (Some d) c k j es w stage stands mine low rest =
        Wp-more M h (k d) B Q j (suc (suc (suc j))) es w (omega arith) (rest w es ((below_laws sizes l keeps).same h w.real) (kept_same h w.seen) stage stands)
    s-load n None c k j es w stage stands mine low rest =
        subst (λ (p : P M A). Wp M h B Q p (suc (suc (suc j))) es w) (sym (bind-assoc (fetch b) (give_back b n) k))
        (s-fetch sizes l laws keeps h lt B Q G stable b (λ bytes. bind (give_back b n bytes) k) (suc j) es w stage (let none = stands.0.free in omega (arith, none))
        (λ v fs here. place v.real v.seen here.shows (here.same.sizes ∙ stands.1)) (empty_hand h b w.real stands.0.free)
        (λ u gs got.
        let at : (log_of u.real).sizes ≡ sizes = got.since.sizes ∙ stands.1 in
        let record_is : dinode_at (place_of n) (seen_of (log_of u.real) b) ≡ inode_in (log_of w.real) n = read u.real u.seen got.shows at ∙ (got.since.inodes n mine).untouched.inode in
        s-back sizes l laws keeps h lt B Q G stable b (λ _. k (unindexed (dinode_at (place_of n) (seen_of (log_of u.real) b)))) j gs u got.stage got.buffer.holder (place u.real u.seen got.shows at).0
        (λ v fs back.
        let same = same_again h b w.real v.real (but_then h b w.real u.real v.real got.since back.since) stands.0.free (let up = got.count in let down = back.count in let none = stands.0.free in omega (arith, up, down, none)) in
        let kept = kept_then h w.seen u.seen v.seen got.kept back.kept in
        subst (λ (x : Dinode). Wp M h B Q (k (unindexed x)) j fs v) (sym record_is)
        (rest v fs same kept back.stage ((below_laws sizes l keeps).base h w.real v.real w.seen v.seen c same kept stands)))))
      where
        b : ℕ
        b = inode_block sizes.inodestart n

        place : (v : World) (g : above.World) → Shows v g → (log_of v).sizes ≡ sizes → IsOutsideLog (log_of v).sizes b × (b < (log_of v).sizes.size)
        place v g shows at =
            subst (λ (s : Super). IsOutsideLog (log_of v).sizes (inode_block s.inodestart n) × (inode_block s.inodestart n < (log_of v).sizes.size)) at
            (inode_place v g shows n (subst (λ (s : Super). n < s.ninodes) (sym at) low))

        read : (v : World) (g : above.World) → Shows v g → (log_of v).sizes ≡ sizes → dinode_at (place_of n) (seen_of (log_of v) b) ≡ inode_in (log_of v) n
        read v g shows at =
            subst (λ (s : Super). dinode_at (place_of n) (seen_of (log_of v) (inode_block s.inodestart n)) ≡ inode_in (log_of v) n) at
            (inode_read v g shows n (subst (λ (s : Super). n < s.ninodes) (sym at) low))
