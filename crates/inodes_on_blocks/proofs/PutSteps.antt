-- A block put between two operations above, recorded, and a block of an inode given back: nothing of it is seen above.
use Rattle.inodes_on_blocks.proofs.Vocabulary.{◌≡◌, ◌≢◌, ℕ, zero, suc, ◌-◌, ◌/◌, ◌%◌, ◌^◌, ◌<◌, ◌≤◌, true, false, List, [], ◌∷◌, length, length-set, Option, Some, None, bit_and, inl, inr, refl, sym, ◌∙◌, ap, subst, arith, is_some, slice_index, slice_set, and_le_l, option_map, option_and_then, Super, IsBytes, sizes_of, IsOutsideLog, SeatState, has_block, holder_of, kept, seat_of, with_seat, with_content, with_pin, without_holder, given_back as seats_given_back, has, HasRoom, IsHome, seat_given_back, hart_count, put, same_or, eq_self, put_same, put_other, IsData, IsBitPut, IsGivenBack, Do, bind, unmarked, Machine, Laws, P, Wp, Both, joined, Stable, Here, s-silent, bind-assoc, lock_holder, Outside, Passes, fetch, seen_of, Put, count_first, without_bit, free_block, clear_bit, if_kept, Inv, World, log_of, tables_of, disk_of, Shows, below, Labels, labelled, Keeps, in_hand, SameBut, IsFetched, CanPut, PutLeaves, IsChanging, log_with, owners_with, world_with, KeepsRoom, GaveBlock, Gave}
use Rattle.buffer_cache.specs.Lists.{count_of}
use Rattle.inodes_on_blocks.proofs.Basics.{before_bits, other_inode, given_back, good_seen, kept_then, same_view, below_laws, untouched_then, but_same, but_then, buffer_then, buffer_seen, s-fetch, put_hand, lock_range, put_begun, bitmaps_put_bits}
use Rattle.fs_machine.specs.Steps as steps
use Rattle.fs_machine.specs.Premises as premises
use Rattle.inode_machine.specs.World as above
use Rattle.inodes_on_blocks.proofs.OwnerPuts.{owner_given, taken_given, taken_seen}
use Rattle.inodes_on_blocks.proofs.PutLaws.{recorded_puts_keep, cleared_bits_leave}

-- ---- bytes

pub set_bytes : (xs : List ℕ) (k x : ℕ) → x < 256 → IsBytes xs → IsBytes (slice_set xs k x)
set_bytes [] k x small are i = are i
set_bytes (y ∷ xs) zero x small are zero = small
set_bytes (y ∷ xs) zero x small are (suc i) = are (suc i)
set_bytes (y ∷ xs) (suc k) x small are zero = are 0
set_bytes (y ∷ xs) (suc k) x small are (suc i) = set_bytes xs k x small (λ j. are (suc j)) i

without_bytes : (b : ℕ) (block : List ℕ) → IsBytes block → IsBytes (without_bit b block)
unfolding without_bit
without_bytes b block are =
    let less = and_le_l (slice_index block (b / 8)) (255 - 2 ^ (b % 8)) in
    let small = are (b / 8) in
    set_bytes block (b / 8) (bit_and (slice_index block (b / 8)) (255 - 2 ^ (b % 8))) (omega (arith, less, small)) are

without_long : (b : ℕ) (block : List ℕ) → length (without_bit b block) ≡ length block
unfolding without_bit
without_long b block = length-set block (b / 8) (bit_and (slice_index block (b / 8)) (255 - 2 ^ (b % 8)))

-- ---- a buffer that was put is in nobody's hand

pub put_back : (b : ℕ) (bytes : List ℕ) (ss : List SeatState) → count_of (has_block b) ss ≤ 1 → holder_of b (seats_given_back b (with_seat b (with_content bytes) (with_seat b (with_pin true) ss))) ≡ None
put_back b bytes ss once =
    let pinned = with_seat b (with_pin true) ss in
    let same = count_first (has_block b) (has_block b) (with_content bytes) pinned (λ x e. refl) ∙ count_first (has_block b) (has_block b) (with_pin true) ss (λ x e. refl) in
    ap (λ (o : Option SeatState). option_and_then (λ (x : SeatState). x.holder) o) (seat_given_back b (with_seat b (with_content bytes) pinned) (subst (λ (z : ℕ). z ≤ 1) (sym same) once))
    ∙ none (seat_of b (with_seat b (with_content bytes) pinned))
  where
    none : (o : Option SeatState) → option_and_then (λ (x : SeatState). x.holder) (option_map without_holder o) ≡ None
    none None = refl
    none (Some x) = refl

-- ---- what a put of the bitmap leaves to the hart itself

module _ (h n b : ℕ) (r : World) (g : above.World) (shows : Shows r g) (is : IsChanging h n g) (block : IsData (log_of r).sizes b) (small : b < (log_of r).sizes.size) (own : r.owner b ≡ n) where
  abbrev at : ℕ
  at = (log_of r).sizes.bmapstart

  abbrev bytes : List ℕ
  bytes = without_bit b (seen_of (log_of r) at)

  here : sizes_of (disk_of (log_of r)) ≡ (log_of r).sizes
  here = (good_seen (log_of r).sizes (seen_of (log_of r)) (length (log_of r).contents) shows.blocks.seen).sizes_are

  data_block : IsData (sizes_of (disk_of (log_of r))) b
  data_block = subst (λ (s : Super). IsData s b) (sym here) block

  range : (1 ≤ n) × (n < (log_of r).sizes.ninodes)
  range = lock_range n h r g shows is.lock

  module _ (can : CanPut h at bytes (log_of r)) where
    bit : IsBitPut (disk_of (log_of r)) (disk_of (log_with h at bytes r)) b false
    bit = (bitmaps_put_bits h b r g shows small).1 can

    pub clear_leaves : PutLeaves h n r (log_with h at bytes r) (owners_with h at bytes r)
    clear_leaves = cleared_bits_leave h b n bytes r g shows is can data_block own bit

    abbrev then_ : World
    then_ = world_with h at bytes r

    owner_then : (c : ℕ) → IsData (sizes_of (disk_of (log_of r))) c → then_.owner c ≡ put r.owner b 0 c
    owner_then c is_data = rw (eq_self at) (owner_given h n r g shows bytes can b range.0 data_block own bit c is_data)

    taken_then : (c : ℕ) → then_.taken c ≡ r.taken c
    taken_then c = rw (eq_self at) (taken_given h n r g shows bytes can b range.0 data_block own bit c)

    given : IsGivenBack (disk_of (log_of r)) (disk_of (log_of then_)) r.owner n b
    given = given_back (disk_of (log_of r)) (disk_of (log_of then_)) r.owner n b shows.blocks.running.front (λ z. let low = range.0 in absurd (omega (arith, z, low))) data_block own bit

    pub cleared : GaveBlock h n b r then_
    cleared = record {
      inodes = λ i ne e.
          let there = lock_range i h r g shows (shows.tables.places.holders i ∙ e) in
          record { lock = e; untouched = clear_leaves.inodes i there.0 (subst (λ (s : Super). i < s.ninodes) (sym here) there.1) ne };
      lock = sym (shows.tables.places.holders n) ∙ is.lock;
      no_more = λ i e. e;
      sizes = refl;
      inode =
          let before = before_bits (disk_of (log_of r)) n shows.blocks.running.front (subst (λ (s : Super). n < s.ninodes) (sym here) range.1) in
          other_inode (disk_of (log_of r)) (disk_of (log_of then_)) (sizes_of (disk_of (log_of r))).bmapstart bit.block n (λ e. absurd (omega (arith, before, e)));
      clear = bit.bits b ∙ (rw (eq_self b) refl);
      free = owner_then b data_block ∙ put_same r.owner b 0;
      owned = λ c ne is_data mine. owner_then c (subst (λ (s : Super). IsData s c) (sym here) is_data) ∙ put_other r.owner b 0 c ne ∙ mine;
      content = λ c is_data mine. elim (same_or c b) [
        | inl e ↦
            let freed : 0 ≡ n = sym (ap then_.owner e ∙ owner_then b data_block ∙ put_same r.owner b 0) ∙ mine in let low = range.0 in absurd (omega (arith, freed, low))
        | inr ne ↦ (
          sym (owner_then c (subst (λ (s : Super). IsData s c) (sym here) is_data) ∙ put_other r.owner b 0 c ne) ∙ mine,
          bit.block.others c (λ e. let past = (subst (λ (s : Super). IsData s c) (sym here) is_data).0 in absurd (omega (arith, e, past))),
        )
      ];
      named = λ numbers named c is_data mine.
          given.named numbers named c is_data (sym (owner_then c (subst (λ (s : Super). IsData s c) bit.block.sizes is_data)) ∙ mine);
      buffers = λ k ne. same_view h k (log_of r) (log_of then_) ((put_hand h at bytes (log_of r).seats can.holder).others k ne) refl;
      back = put_back at bytes (log_of r).seats (shows.whole.cache.once at);
      taken = λ c. ap (λ (t : Option ℕ). if_kept t h (seen_of (log_of then_) c)) (taken_then c) ∙ taken_seen h n r g shows bytes can h c;
      begun = put_begun h at n bytes r g shows is.lock is.joined can (owners_with h at bytes r) clear_leaves h;
    }

-- after what the others did, and a buffer taken
gave_then : (h n b : ℕ) (v u w : World) (g : above.World) → Shows u g → lock_holder n (tables_of v) ≡ Some h → SameBut h (log_of v).sizes.bmapstart v u → GaveBlock h n b u w → GaveBlock h n b v w
gave_then h n b v u w g shows mine p q =
    let this = (p.inodes n mine).untouched in
    let old : sizes_of (disk_of (log_of v)) ≡ (log_of v).sizes = sym this.sizes ∙ (good_seen (log_of u).sizes (seen_of (log_of u)) (length (log_of u).contents) shows.blocks.seen).sizes_are ∙ p.sizes in
    record {
      inodes = λ i ne e.
          let x = p.inodes i e in
          let y = q.inodes i ne x.lock in
          record { lock = y.lock; untouched = untouched_then (disk_of (log_of v)) (disk_of (log_of u)) (disk_of (log_of w)) v.owner u.owner w.owner i x.untouched y.untouched };
      lock = q.lock;
      no_more = λ i e. p.no_more i (q.no_more i e);
      sizes = q.sizes ∙ p.sizes;
      inode = q.inode ∙ this.inode;
      clear = q.clear;
      free = q.free;
      owned = λ c ne is_data own.
          q.owned c ne (subst (λ (s : Super). IsData s c) (sym p.sizes) is_data) (this.blocks c (subst (λ (s : Super). IsData s c) (sym old) is_data) own).1;
      content = λ c is_data own.
          let there : IsData (sizes_of (disk_of (log_of v))) c = subst (λ (s : Super). IsData s c) (sym old) is_data in
          let now = q.content c (subst (λ (s : Super). IsData s c) (sym p.sizes) is_data) own in
          let was = this.alone c there now.0 in
          (was, now.1 ∙ (this.blocks c there was).0);
      named = λ numbers all.
          q.named numbers (λ c is_data own. let here = subst (λ (s : Super). IsData s c) this.sizes is_data in all c here (this.alone c here own));
      buffers = λ k ne. q.buffers k (λ e. ne (e ∙ ap (λ (s : Super). s.bmapstart) p.sizes)) ∙ p.buffers k ne;
      back = ap (λ (s : Super). holder_of s.bmapstart (log_of w).seats) (sym p.sizes) ∙ q.back;
      taken = λ c. q.taken c ∙ p.taken c;
      begun = q.begun ∙ p.begun;
    }

-- the bitmap may be recorded
pub bitmap_home : (r : World) (g : above.World) → Shows r g → IsHome (log_of r).contents (log_of r).sizes (log_of r).sizes.bmapstart
bitmap_home r g shows =
    let good = shows.blocks.seen.good in
    let start = good.logstart in
    let long = good.nlog in
    let log = good.log in
    let inodes = good.inodes in
    let bitmap = good.bitmap in
    let all = shows.blocks.seen.sized in
    record {
      outside = inr (omega (arith, log, inodes));
      no_super = λ e. absurd (omega (arith, start, long, log, inodes, e));
      within = omega (arith, bitmap, all);
      front = omega (arith, inodes);
      sized = omega (arith, bitmap);
    }

-- ---- the rules

module _ (sizes : Super) (l : Labels) (laws : Laws (labelled sizes.version l)) (keeps : Keeps l) (h : ℕ) (lt : h < hart_count) (B : List l.Step → Type 0) where
  abbrev W : Type 0
  W = Both World above.World

  abbrev M : Machine
  M = joined (labelled sizes.version l) (below sizes)

  module _ {A : Type 0} (Q : A → List l.Step → W → Type 0) (G : List l.Step → above.World → Type 0) (stable : Stable (labelled sizes.version l) (below sizes) laws (below_laws sizes l keeps) h B G) where
    abbrev IsHere : W → W → List l.Step → Type 0
    IsHere w v fs = Here (labelled sizes.version l) (below sizes) laws (below_laws sizes l keeps) h B G w v fs

    -- what holds at a put: it may be made, and what it leaves
    pub record Putting (n b : ℕ) (bytes : List ℕ) (k : Unit {0} → P M A) (j : ℕ) (fs : List l.Step) (v : W) : Type 0 where
      pub changing : IsChanging h n v.seen
      pub can : CanPut h b bytes (log_of v.real)
      pub leaves : PutLeaves h n v.real (log_with h b bytes v.real) (owners_with h b bytes v.real)
      pub goes_on : Shows (world_with h b bytes v.real) v.seen → in_hand h v.real ≡ suc (in_hand h (world_with h b bytes v.real)) → Wp M h B Q (k tt) j fs (record { real = world_with h b bytes v.real; seen = v.seen })

    -- A hart that is changing inode n puts a block for it.
    pub s-put : (n b : ℕ) (bytes : List ℕ) (k : Unit {0} → P M A) (j : ℕ) (es : List l.Step) (w : W) → G es w.seen → ((v : W) (fs : List l.Step) → IsHere w v fs → Putting n b bytes k j fs v)
        → Wp M h B Q (Do (Put b (Some bytes)) unmarked k) (suc j) es w
    unfolding steps.exec premises.MayWait premises.Honest
    s-put n b bytes k j es w stage rule =
        s-silent (labelled sizes.version l) (below sizes) laws (below_laws sizes l keeps) h B (Put b (Some bytes)) k Q G j es w stable stage
        (λ v fs here.
        let p = rule v fs here in
        let law = (λ (x : Outside). recorded_puts_keep h b n bytes v.real v.seen x here.shows p.changing p.can p.leaves) in
        ((law Passes).0, λ x t. ((law x).1.0, (law x).1.1, p.goes_on (law x).1.0 (put_hand h b bytes (log_of v.real).seats p.can.holder).count)))

    module _ (n : ℕ) (changing : (fs : List l.Step) (g : above.World) → G fs g → Inv g → IsChanging h n g) (b : ℕ) (block : IsData sizes b) (Knows Then : World → Type 0) (room : KeepsRoom h sizes.bmapstart Knows Then) where
      abbrev bitmap : ℕ
      bitmap = sizes.bmapstart

      -- the bitmap is fetched, and at u goes back without the bit
      gives : (k : Unit {0} → P M A) (j : ℕ) (w v u : W) (fs gs : List l.Step) → (log_of w.real).sizes ≡ sizes → lock_holder n (tables_of w.real) ≡ Some h → w.real.owner b ≡ n → Knows w.real
          → IsFetched h bitmap (G fs) w v → IsHere v u gs → ((x : W) → Gave h n b (G gs) w x → Then x.real → Wp M h B Q (k tt) j gs x)
          → Putting n bitmap (without_bit b (seen_of (log_of v.real) bitmap)) k j gs u
      gives k j w v u fs gs at mine own knows got here rest =
          let old = seen_of (log_of v.real) bitmap in
          let since : SameBut h bitmap w.real u.real = but_then h bitmap w.real v.real u.real got.since (but_same h bitmap v.real u.real here.same) in
          let where_ : bitmap ≡ (log_of u.real).sizes.bmapstart = ap (λ (s : Super). s.bmapstart) (sym (since.sizes ∙ at)) in
          let buffer = buffer_then h bitmap old v.real u.real (here.same.buffers bitmap) got.buffer in
          let bytes : seen_of (log_of u.real) (log_of u.real).sizes.bmapstart ≡ old = ap (seen_of (log_of u.real)) (sym where_) ∙ buffer_seen h bitmap old u.real buffer in
          let knows_there : Knows u.real = room.gives.lasts v.real u.real here.same (room.gives.fetched bitmap w.real v.real got.since knows) in
          subst (λ (q : ℕ × List ℕ). Putting n q.0 q.1 k j gs u) (λ z. (sym where_ z, without_bit b (bytes z)))
          (there (subst (λ (c : ℕ). holder_of c (log_of u.real).seats ≡ Some h) where_ buffer.holder) (ap (λ (o : Option (List ℕ)). is_some o) (subst (λ (c : ℕ). kept c (log_of u.real).seats ≡ Some old) where_ buffer.has))
          (subst (λ (c : ℕ). has (log_of u.real).group c ≡ false → HasRoom (log_of u.real).members h) where_ (room.gives.room u.real knows_there (sym (here.shows.members h lt) ∙ (changing gs u.seen here.stage here.inv).joined))) since knows_there where_)
        where
          there : (holder_of (log_of u.real).sizes.bmapstart (log_of u.real).seats ≡ Some h) → (is_some (kept (log_of u.real).sizes.bmapstart (log_of u.real).seats) ≡ true) → (has (log_of u.real).group (log_of u.real).sizes.bmapstart ≡ false → HasRoom (log_of u.real).members h)
              → SameBut h bitmap w.real u.real → Knows u.real → bitmap ≡ (log_of u.real).sizes.bmapstart
              → Putting n (log_of u.real).sizes.bmapstart (without_bit b (seen_of (log_of u.real) (log_of u.real).sizes.bmapstart)) k j gs u
          there holder valid fits since knows_there where_ =
              let r = u.real in
              let size : (log_of r).sizes ≡ sizes = since.sizes ∙ at in
              let is = changing gs u.seen here.stage here.inv in
              let home = bitmap_home r u.seen here.shows in
              let this = (since.inodes n mine).untouched in
              let here_ : sizes_of (disk_of (log_of r)) ≡ sizes = (good_seen (log_of r).sizes (seen_of (log_of r)) (length (log_of r).contents) here.shows.blocks.seen).sizes_are ∙ size in
              let block_there : IsData (log_of r).sizes b = subst (λ (s : Super). IsData s b) (sym size) block in
              let own_there : r.owner b ≡ n = (this.blocks b (subst (λ (s : Super). IsData s b) (sym here_ ∙ this.sizes) block) own).1 in
              let can : CanPut h (log_of r).sizes.bmapstart (without_bit b (seen_of (log_of r) (log_of r).sizes.bmapstart)) (log_of r) = record {
                holder = holder;
                valid = valid;
                joined = sym (here.shows.members h lt) ∙ is.joined;
                runs = here.shows.runs;
                home = home;
                room = fits;
                long = without_long b (seen_of (log_of r) (log_of r).sizes.bmapstart) ∙ here.shows.blocks.seen.whole (log_of r).sizes.bmapstart home.within home.outside;
                are = without_bytes b (seen_of (log_of r) (log_of r).sizes.bmapstart) (here.shows.bytes (log_of r).sizes.bmapstart home.within home.outside);
              } in
              let now = cleared h n b r u.seen here.shows is block_there block_there.1 own_there can in
              record {
                changing = is;
                can = can;
                leaves = clear_leaves h n b r u.seen here.shows is block_there block_there.1 own_there can;
                goes_on = λ shows count.
                    rest (record { real = world_with h (log_of r).sizes.bmapstart (without_bit b (seen_of (log_of r) (log_of r).sizes.bmapstart)) r; seen = u.seen })
                    (record {
                      since = gave_then h n b w.real r (world_with h (log_of r).sizes.bmapstart (without_bit b (seen_of (log_of r) (log_of r).sizes.bmapstart)) r) u.seen here.shows mine
                          (subst (λ (s : Super). SameBut h s.bmapstart w.real r) (sym at) since) now;
                      kept = kept_then h w.seen v.seen u.seen got.kept here.kept;
                      shows = shows;
                      inv = here.inv;
                      stage = here.stage;
                      held = let up = got.count in let same = here.same.held in omega (arith, up, same, count);
                    })
                    (subst (λ (c : ℕ). Then (world_with h c (without_bit b (seen_of (log_of r) (log_of r).sizes.bmapstart)) r)) where_ (room.put (without_bit b (seen_of (log_of r) (log_of r).sizes.bmapstart)) r knows_there));
              }

      -- Inode n's block b is given back: its bit is clear, and it is nobody's.
      pub s-give : (k : Unit {0} → P M A) (j : ℕ) (es : List l.Step) (w : W) → G es w.seen → in_hand h w.real ≤ 1 → holder_of bitmap (log_of w.real).seats ≢ Some h → (log_of w.real).sizes ≡ sizes
          → lock_holder n (tables_of w.real) ≡ Some h → w.real.owner b ≡ n → Knows w.real → ((x : W) (gs : List l.Step) → Gave h n b (G gs) w x → Then x.real → Wp M h B Q (k tt) j gs x)
          → Wp M h B Q (bind (free_block bitmap b) k) (suc (suc (suc j))) es w
      s-give k j es w stage few free at mine own knows rest =
          subst (λ (p : P M A). Wp M h B Q p (suc (suc (suc j))) es w) (sym (bind-assoc (fetch bitmap) (clear_bit bitmap b) k))
          (s-fetch sizes l laws keeps h lt B Q G stable bitmap (λ bytes. bind (clear_bit bitmap b bytes) k) (suc j) es w stage few
          (λ v fs here.
          let home = bitmap_home v.real v.seen here.shows in
          subst (λ (s : Super). IsOutsideLog (log_of v.real).sizes s.bmapstart × (s.bmapstart < (log_of v.real).sizes.size)) (here.same.sizes ∙ at) (home.outside, home.sized)) free
          (λ v fs got.
          s-put n bitmap (without_bit b (seen_of (log_of v.real) bitmap)) (λ _. k tt) j fs v got.stage
          (λ u gs here. gives (λ _. k tt) j w v u fs gs at mine own knows got here (λ x gave known. rest x gs gave known))))
