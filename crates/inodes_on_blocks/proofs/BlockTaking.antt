-- A block taken for an inode that a hart is changing. Its bit is set, and it is filled with zeros; or the bitmap has
-- none. Nothing of it is seen above.
use Rattle.inodes_on_blocks.proofs.Vocabulary.{◌≡◌, ◌≢◌, ⊎_elim, ℕ, suc, ◌<◌, ◌≤◌, Bool, true, false, not, List, ◌∷◌, length, length-append, Option, Some, None, refl, sym, ◌∙◌, ap, subst, arith, slice_index, cases_lt, get_or_append_left, length-replicate, Dinode, Super, bit_of, IsBytes, IsOutsideLog, recovered, sizes_of, holder_of, IsData, numbers_of, indirect_numbers, IsOwned, NamesOwned, IsLaidOut, IsSpare, Node, hart_count, Do, bind, unmarked, Machine, Laws, P, Wp, Both, joined, Stable, bind-assoc, Wp-more, fetch, seen_of, Put, marked_by, zeros, first_clear_below, give_zeros, zero_found, take_first, take_block, FirstIs, first_is, if_kept, Inv, World, log_of, disk_of, world_with, KeepsRoom, in_hand, IsFetched, Kept, Carry, buffer_in, below, Labels, labelled, Keeps, IsChanging, Shows, addresses, block_len, direct}
use Rattle.inodes_on_blocks.proofs.Basics.{spare_put, at_index, good_seen, kept_then, marks_are_bits, s-fetch, s-back, below_laws, held_back, through_put}
use Rattle.inode_machine.specs.World as above
use Rattle.inodes_on_blocks.proofs.Changing.{owner_with, Changing, left_but, changing_then, others_put}
use Rattle.inodes_on_blocks.proofs.DataPuts.{data_home}
use Rattle.inodes_on_blocks.proofs.OwnPuts.{IsOwnPut, s-own}
use Rattle.inodes_on_blocks.proofs.PutSteps.{bitmap_home}
use Rattle.inodes_on_blocks.proofs.SlotPuts.{zero_bytes}
use Rattle.inodes_on_blocks.proofs.Taking.{HasSpare, spare_stays}
use Rattle.inodes_on_blocks.proofs.TakingSteps.{MarkedFor, s-mark}

-- ---- numbers

-- the number of the indirect block follows the first twelve
pub table_place : (disk : List (List ℕ)) (d : Dinode) → length d.addrs ≡ addresses → (slice_index (numbers_of disk d) direct ≡ slice_index d.addrs direct) × (direct < length (numbers_of disk d))
unfolding numbers_of
table_place disk d long = (get_or_append_left d.addrs (indirect_numbers disk d) 0 direct (omega (arith, long)), omega (arith, long, length-append d.addrs (indirect_numbers disk d)))

-- the first clear bit is that of a data block
free_data : (r : World) (g : above.World) → Shows r g → (b : ℕ) → b < (log_of r).sizes.size → bit_of (seen_of (log_of r) (log_of r).sizes.bmapstart) b ≡ false → IsData (log_of r).sizes b
free_data r g shows b small clear =
    let here = (good_seen (log_of r).sizes (seen_of (log_of r)) (length (log_of r).contents) shows.blocks.seen).sizes_are in
    ⊎_elim (λ (past : (log_of r).sizes.bmapstart < b). (past, small))
    (λ (low : b ≤ (log_of r).sizes.bmapstart).
    absurd (let q : false ≡ true = sym clear ∙ sym (marks_are_bits r g shows b) ∙ shows.blocks.running.bits.front b (subst (λ (s : Super). b ≤ s.bmapstart) (sym here) low) in cc))
    (cases_lt (log_of r).sizes.bmapstart b)

zeros_long : length zeros ≡ block_len
unfolding zeros
zeros_long = length-replicate {A = ℕ} block_len 0

zeros_bytes : IsBytes zeros
unfolding zeros
zeros_bytes = zero_bytes block_len

-- ---- the result

-- Block b was taken, from w on: it is the inode's, of zeros, and no record names it yet. A buffer of block t in hand
-- is there still.
pub record Took (h n b t : ℕ) (Stage : above.World → Type 0) (c : Carry) (o : Option Node) (d : Dinode) (x : Node) (Then : World → Type 0) (w z : Both World above.World) : Type 0 where
  pub spare : HasSpare h n b c o d x z.real z.seen
  pub zeros_are : recovered (disk_of (log_of z.real)) b ≡ zeros
  pub kept : Kept h w.seen z.seen
  pub shows : Shows z.real z.seen
  pub inv : Inv z.seen
  pub stage : Stage z.seen
  pub sizes_same : (log_of z.real).sizes ≡ (log_of w.real).sizes
  pub buffer : if_kept (holder_of t (log_of z.real).seats) h (buffer_in (log_of z.real) t) ≡ if_kept (holder_of t (log_of w.real).seats) h (buffer_in (log_of w.real) t)
  pub count : in_hand h z.real ≡ in_hand h w.real
  pub known : Then z.real

-- none was
pub record TookNone (h n t : ℕ) (Stage : above.World → Type 0) (c : Carry) (o : Option Node) (d : Dinode) (x : Node) (Then : World → Type 0) (w z : Both World above.World) : Type 0 where
  pub changing : Changing h n c o d x z.real z.seen
  pub kept : Kept h w.seen z.seen
  pub shows : Shows z.real z.seen
  pub inv : Inv z.seen
  pub stage : Stage z.seen
  pub sizes_same : (log_of z.real).sizes ≡ (log_of w.real).sizes
  pub buffer : if_kept (holder_of t (log_of z.real).seats) h (buffer_in (log_of z.real) t) ≡ if_kept (holder_of t (log_of w.real).seats) h (buffer_in (log_of w.real) t)
  pub count : in_hand h z.real ≡ in_hand h w.real
  pub known : Then z.real

-- zeros in the block that was taken
zero_then : (h n b : ℕ) (old : List ℕ) (c : Carry) (o : Option Node) (d : Dinode) (x : Node) (r : World) (g : above.World) → Shows r g → HasSpare h n b c o d x r g → IsOwnPut h n b old zeros r
    → HasSpare h n b c o d x (world_with h b zeros r) g × (recovered (disk_of (log_of (world_with h b zeros r))) b ≡ zeros)
zero_then h n b old c o d x r g shows is made =
    let then_ = world_with h b zeros r in
    let becomes = spare_put (disk_of (log_of r)) (disk_of (log_of then_)) (owner_with h n r) n b d x is.laid is.spare made.put in (
      record {
        others = others_put h n b zeros r g shows made.leaves c is.others;
        lock = is.lock;
        keeps = is.keeps;
        was = is.was;
        through = through_put h r then_ (log_of then_) refl refl is.through;
        lent = is.lent;
        laid = subst (λ (f : ℕ → ℕ). IsLaidOut (disk_of (log_of then_)) f n d x) (sym made.owners) becomes.laid;
        spare = subst (λ (f : ℕ → ℕ). IsSpare (disk_of (log_of then_)) f n d b) (sym made.owners) (becomes.spare b is.spare);
        named = subst (λ (f : ℕ → ℕ). NamesOwned (disk_of (log_of then_)) f n (b ∷ numbers_of (disk_of (log_of then_)) d)) (sym made.owners)
            (subst (λ (ns : List ℕ). NamesOwned (disk_of (log_of then_)) (owner_with h n r) n (b ∷ ns)) (sym becomes.numbers) (becomes.named (b ∷ numbers_of (disk_of (log_of r)) d) is.named));
        taken = (λ z. made.taken z b) ∙ is.taken;
      },
      made.now,
    )

module _ (sizes : Super) (l : Labels) (laws : Laws (labelled sizes.version l)) (keeps : Keeps l) (h : ℕ) (lt : h < hart_count) (B : List l.Step → Type 0) where
  abbrev W : Type 0
  W = Both World above.World

  abbrev M : Machine
  M = joined (labelled sizes.version l) (below sizes)

  module _ {A : Type 0} (Q : A → List l.Step → W → Type 0) (G : List l.Step → above.World → Type 0) (stable : Stable (labelled sizes.version l) (below sizes) laws (below_laws sizes l keeps) h B G)
      (n : ℕ) (changes : (fs : List l.Step) (g : above.World) → G fs g → Inv g → IsChanging h n g) (c : Carry) (o : Option Node) (d : Dinode) (x : Node) (long : length d.addrs ≡ addresses)
      (Knows : World → Type 0) (Then : ℕ → World → Type 0) (room : KeepsRoom h sizes.bmapstart Knows Knows) (more : (b : ℕ) → KeepsRoom h b Knows (Then b)) where
    abbrev bitmap : ℕ
    bitmap = sizes.bmapstart

    -- the indirect block
    abbrev t : ℕ
    t = slice_index d.addrs direct

    table_past : (r : World) (g : above.World) → Shows r g → Changing h n c o d x r g → (log_of r).sizes ≡ sizes → t ≢ bitmap
    table_past r g shows changing at e =
        let here : sizes_of (disk_of (log_of r)) ≡ sizes = (good_seen (log_of r).sizes (seen_of (log_of r)) (length (log_of r).contents) shows.blocks.seen).sizes_are ∙ at in
        let is = (table_place (disk_of (log_of r)) d long).0 in
        let some : slice_index (numbers_of (disk_of (log_of r)) d) direct ≢ 0 =
        (λ z. let good = shows.blocks.seen.good in let start = good.logstart in let log = good.log in let inodes = good.inodes in let same : (log_of r).sizes.bmapstart ≡ sizes.bmapstart = ap (λ (s : Super). s.bmapstart) at in absurd (omega (arith, start, log, inodes, same, e, is, z))) in
        let own = at_index (IsOwned (disk_of (log_of r)) (owner_with h n r) n) (numbers_of (disk_of (log_of r)) d) direct changing.laid.owned some in
        let past = (subst (λ (s : Super). IsData s (slice_index (numbers_of (disk_of (log_of r)) d) direct)) here own.block).0 in
        absurd (omega (arith, past, is, e))

    -- the block that was taken is another one
    table_apart : (b : ℕ) (r : World) (g : above.World) → HasSpare h n b c o d x r g → b ≢ t
    table_apart b r g is e = let place = table_place (disk_of (log_of r)) d long in is.spare.unnamed direct 0 place.1 (place.0 ∙ sym e)

    module _ (k : Option ℕ → P M A) (j : ℕ) (w : W) (few : in_hand h w.real ≤ 1) (alone : (q : ℕ) → q ≢ t → holder_of q (log_of w.real).seats ≢ Some h) (at : (log_of w.real).sizes ≡ sizes) (shows_w : Shows w.real w.seen)
        (changing : Changing h n c o d x w.real w.seen) (knows : Knows w.real)
        (none : (z : W) (gs : List l.Step) → TookNone h n t (G gs) c o d x Knows w z → Wp M h B Q (k None) j gs z) (some : (b : ℕ) (z : W) (gs : List l.Step) → Took h n b t (G gs) c o d x (Then b) w z → Wp M h B Q (k (Some b)) j gs z) where
      apart : t ≢ bitmap
      apart = table_past w.real w.seen shows_w changing at

      -- the bitmap is in hand at v
      module _ (v : W) (fs : List l.Step) (got : IsFetched h bitmap (G fs) w v) where
        abbrev old : List ℕ
        old = seen_of (log_of v.real) bitmap

        at_v : (log_of v.real).sizes ≡ sizes
        at_v = got.since.sizes ∙ at

        changing_v : Changing h n c o d x v.real v.seen
        changing_v = changing_then h n c o d x w.real v.real w.seen v.seen shows_w got.shows (left_but h bitmap w.real v.real got.since) got.kept changing

        knows_v : Knows v.real
        knows_v = room.gives.fetched bitmap w.real v.real got.since knows

        -- no bit is clear
        takes_none : Wp M h B Q (Do (Put bitmap None) unmarked (λ _. k None)) (suc (suc (suc (suc j)))) fs v
        takes_none =
            s-back sizes l laws keeps h lt B Q G stable bitmap (λ _. k None) (suc (suc (suc j))) fs v got.stage got.buffer.holder (let home = bitmap_home v.real v.seen got.shows in subst (λ (s : Super). IsOutsideLog (log_of v.real).sizes s.bmapstart) at_v home.outside)
            (λ z gs back.
            Wp-more M h (k None) B Q j (suc (suc (suc j))) gs z (omega arith)
            (none z gs (record {
              changing = changing_then h n c o d x v.real z.real v.seen z.seen got.shows back.shows (left_but h bitmap v.real z.real back.since) back.kept changing_v;
              kept = kept_then h w.seen v.seen z.seen got.kept back.kept;
              shows = back.shows;
              inv = back.inv;
              stage = back.stage;
              sizes_same = back.since.sizes ∙ got.since.sizes;
              buffer = back.since.buffers t apart ∙ got.since.buffers t apart;
              count = (let up = got.count in let down = back.count in omega (arith, up, down));
              known = room.gives.fetched bitmap v.real z.real back.since knows_v;
            })))

        -- the bit of b is set at z, and the block is filled with zeros
        module _ (b : ℕ) (block : IsData sizes b) where
          zeroes : (z : W) (gs : List l.Step) → MarkedFor h n b bitmap (G gs) c o d x Knows v z → Wp M h B Q (bind (bind (fetch b) (give_zeros b)) k) (suc (suc (suc j))) gs z
          zeroes z gs marked =
              let sized : (log_of z.real).sizes ≡ sizes = marked.sizes_same ∙ at_v in
              let past = block.0 in
              let b_apart : b ≢ bitmap = (λ e. absurd (omega (arith, past, e))) in
              let t_apart = table_apart b z.real z.seen marked.spare in
              subst (λ (p : P M A). Wp M h B Q p (suc (suc (suc j))) gs z) (sym (bind-assoc (fetch b) (give_zeros b) k))
              (s-fetch sizes l laws keeps h lt B Q G stable b (λ bytes. bind (give_zeros b bytes) k) (suc j) gs z marked.stage (let up = got.count in let down = marked.count in omega (arith, up, down, few))
              (λ u hs here. let home = data_home u.real u.seen here.shows b (subst (λ (s : Super). IsData s b) (sym (here.same.sizes ∙ sized)) block) in (home.outside, home.sized))
              (λ e. alone b t_apart (held_back (holder_of b (log_of z.real).seats) (holder_of b (log_of w.real).seats) h (buffer_in (log_of z.real) b) (buffer_in (log_of w.real) b) (marked.buffers b b_apart ∙ got.since.buffers b b_apart) e).0)
              (λ u hs got_b.
              s-own sizes l laws keeps h lt B Q G stable n changes (HasSpare h n b c o d x) (λ r g. HasSpare h n b c o d x r g × (recovered (disk_of (log_of r)) b ≡ zeros)) (spare_stays h n b c o d x)
              b (seen_of (log_of u.real) b) zeros block zeros_long zeros_bytes (λ r g is. is.spare.owned.owner_is) (λ r g shows is made. zero_then h n b (seen_of (log_of u.real) b) c o d x r g shows is made) Knows (Then b) (more b)
              (λ _. k (Some b)) j hs u got_b.stage got_b.shows (spare_stays h n b c o d x z.real u.real z.seen u.seen marked.shows got_b.shows (left_but h b z.real u.real got_b.since) got_b.kept marked.spare) got_b.buffer (got_b.since.sizes ∙ sized)
              ((more b).gives.fetched b z.real u.real got_b.since marked.known)
              (λ y is done.
              some b y is (record {
                spare = done.after.0;
                zeros_are = done.after.1;
                kept = kept_then h w.seen u.seen y.seen (kept_then h w.seen z.seen u.seen (kept_then h w.seen v.seen z.seen got.kept marked.kept) got_b.kept) done.kept;
                shows = done.shows;
                inv = done.inv;
                stage = done.stage;
                sizes_same = done.sizes_same ∙ got_b.since.sizes ∙ marked.sizes_same ∙ got.since.sizes;
                buffer = done.buffers t (λ e. t_apart (sym e)) ∙ got_b.since.buffers t (λ e. t_apart (sym e)) ∙ marked.buffers t apart ∙ got.since.buffers t apart;
                count = (let a = got.count in let b = marked.count in let c = got_b.count in let d = done.count in omega (arith, a, b, c, d));
                known = done.known;
              }))))

        -- by the first clear bit
        takes : (found : Option ℕ) → FirstIs (λ q. not (bit_of old q)) sizes.size found → Wp M h B Q (bind (Do (Put bitmap (marked_by old found)) unmarked (λ _. zero_found found)) k) (suc (suc (suc (suc j)))) fs v
        takes None first = takes_none
        takes (Some b) first =
            let clear : bit_of old b ≡ false = off (bit_of old b) first.1 in
            let bits : bit_of (seen_of (log_of v.real) (log_of v.real).sizes.bmapstart) b ≡ false = subst (λ (s : Super). bit_of (seen_of (log_of v.real) s.bmapstart) b ≡ false) (sym at_v) clear in
            let block : IsData sizes b = subst (λ (s : Super). IsData s b) at_v (free_data v.real v.seen got.shows b (subst (λ (s : Super). b < s.size) (sym at_v) first.0) bits) in
            s-mark sizes l laws keeps h lt B Q G stable n changes c o d x b old block clear Knows Knows room (λ _. bind (bind (fetch b) (give_zeros b)) k) (suc (suc (suc j))) fs v got.stage got.shows changing_v got.buffer at_v knows_v
            (λ z gs marked. zeroes b block z gs marked)
          where
            off : (v : Bool) → not v ≡ true → v ≡ false
            off false e = refl
            off true e = absurd (let q : false ≡ true = e in cc)

      pub s-take : (es : List l.Step) → G es w.seen → Wp M h B Q (bind (take_block bitmap sizes.size) k) (suc (suc (suc (suc (suc (suc j)))))) es w
      unfolding first_clear_below
      s-take es stage =
          subst (λ (p : P M A). Wp M h B Q p (suc (suc (suc (suc (suc (suc j)))))) es w) (sym (bind-assoc (fetch bitmap) (take_first bitmap sizes.size) k))
          (s-fetch sizes l laws keeps h lt B Q G stable bitmap (λ bytes. bind (take_first bitmap sizes.size bytes) k) (suc (suc (suc (suc j)))) es w stage few
          (λ v fs here.
          let home = bitmap_home v.real v.seen here.shows in
          subst (λ (s : Super). IsOutsideLog (log_of v.real).sizes s.bmapstart × (s.bmapstart < (log_of v.real).sizes.size)) (here.same.sizes ∙ at) (home.outside, home.sized))
          (alone bitmap (λ e. apart (sym e)))
          (λ v fs got. takes v fs got (first_clear_below sizes.size (seen_of (log_of v.real) bitmap)) (first_is (λ q. not (bit_of (seen_of (log_of v.real) bitmap) q)) sizes.size)))
