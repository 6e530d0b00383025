-- A block of the content of an inode that a hart is changing: found by its number, or taken if it is missing, and
-- named. Nothing of it is seen above.
use Rattle.inodes_on_blocks.proofs.Vocabulary.{get_or-set_other, get_or-set_same, inr, ◌≡◌, ◌≢◌, ℕ, suc, ◌+◌, ◌-◌, ◌^◌, ◌<◌, ◌≤◌, ◌==◌, Bool, true, false, List, length, Option, Some, None, refl, sym, ◌∙◌, ap, subst, arith, if◌then◌else◌, slice_index, Dinode, Super, IsBytes, numbers_in, IsDinode, IsOutsideLog, sizes_of, holder_of, given_back, IsData, numbers_of, block_number, IsOwned, Node, hart_count, eq_is, Do, bind, unmarked, Machine, Laws, P, Wp, Both, joined, Stable, bind-assoc, Wp-more, with_seats, fetch, seen_of, Put, Direct, InTable, Located, table_of, with_address, take_one, located, name_direct, name_in_table, look_up, locate_in_table, with_table, locate_at, locate, Spent, size, with_number as with_block, most_recorded, Inv, World, log_of, disk_of, KeepsRoom, in_hand, IsFetched, Carry, below, buffer_in, Labels, labelled, Keeps, IsChanging, Shows, addresses, block_len, direct, most_blocks}
use Rattle.inodes_on_blocks.proofs.Basics.{at_index, good_seen, HasBlocks, extra, extra_there, number_again, number_more, number_before, number_stays, extra_missing, cost_more, cost_both, named_room, block_room, buffer_then, with_buffers, s-fetch, s-back, back_hand, same_view, below_laws, held_back, block_shown, empty_hand, has_number}
use Rattle.inode_data.specs.Writing.{with_number}
use Rattle.inode_machine.specs.Budget as budget
use Rattle.inode_machine.specs.World as above
use Rattle.inodes_on_blocks.proofs.BlockTaking.{Took, TookNone, table_place, s-take}
use Rattle.inodes_on_blocks.proofs.Changing.{owner_with, Changing, left_but, changing_then, numbers_stay}
use Rattle.inodes_on_blocks.proofs.ContentFetch.{either_place}
use Rattle.inodes_on_blocks.proofs.DataPuts.{data_home}
use Rattle.inodes_on_blocks.proofs.NumberPuts.{sized, addressed_fits, direct_place, direct_then, far_index, far_place, number_bytes, number_long, number_then, table_then}
use Rattle.inodes_on_blocks.proofs.OwnPuts.{s-own}
use Rattle.inodes_on_blocks.proofs.Taking.{HasSpare, spare_stays}

-- What holds of a hart that is changing inode n, between two blocks: with nothing in hand.
pub record Between (sizes : Super) (h n : ℕ) (Stage : above.World → Type 0) (c : Carry) (o : Option Node) (d : Dinode) (x : Node) (Knows : World → Type 0) (w : Both World above.World) : Type 0 where
  pub changing : Changing h n c o d x w.real w.seen
  pub shows : Shows w.real w.seen
  pub stage : Stage w.seen
  pub none : in_hand h w.real ≡ 0
  pub at : (log_of w.real).sizes ≡ sizes
  pub known : Knows w.real

-- a record as the program has it: of this size
abbrev pub Fits : ℕ → Dinode → Type 0
Fits size d = IsDinode d × (d.size ≡ size)

-- block k is there, by this number, and what was recorded with it is no more than this; or there is none
abbrev pub IsFound : (far : Bool) (k z most : ℕ) → List ℕ → Dinode → List (List ℕ) → Option ℕ → Type 0
IsFound far k z most bs d disk None = length bs ≤ most
IsFound far k z most bs d disk (Some b) = (b ≢ 0) × (block_number (numbers_of disk (sized z d)) k ≡ b) × (length (with_block bs b) + extra far (with_block bs b) (table_of d) ≤ suc most)

-- How it goes on at v with what was found: the record d of this size names it.
pub record Found (sizes : Super) (h n : ℕ) (Stage : above.World → Type 0) (c : Carry) (o : Option Node) (x : Node) (s : Spent) (far : Bool) (k z was most : ℕ) (l : Located) (v : Both World above.World) : Type 0 where
  pub after : List ℕ
  pub between : Between sizes h n Stage c o (sized z l.inode) x (HasBlocks sizes h s after) v
  pub fits : Fits was l.inode
  pub is : IsFound far k z most after l.inode (disk_of (log_of v.real)) l.number

-- of a hart with one buffer in hand
only_hand : (h t : ℕ) (v : World) → in_hand h v ≡ 1 → holder_of t (log_of v).seats ≡ Some h → (q : ℕ) → q ≢ t → holder_of q (log_of v).seats ≢ Some h
only_hand h t v one out q ne also =
    let back = back_hand h t (log_of v).seats out in
    let then_ = with_buffers v (given_back t (log_of v).seats) in
    let none : in_hand h then_ ≡ 0 = let count = back.count in omega (arith, count, one) in
    empty_hand h q then_ none
    (held_back (holder_of q (log_of v).seats) (holder_of q (log_of then_).seats) h (buffer_in (log_of v) q) (buffer_in (log_of then_) q) (sym (same_view h q (log_of v) (with_seats (log_of v) (given_back t (log_of v).seats)) (back.others q ne) refl)) also).0

-- a data block's number fits
small_block : (r : World) (g : above.World) → Shows r g → (b : ℕ) → IsData (sizes_of (disk_of (log_of r))) b → b < 2 ^ 32
small_block r g shows b block =
    let here = (good_seen (log_of r).sizes (seen_of (log_of r)) (length (log_of r).contents) shows.blocks.seen).sizes_are in
    let few = shows.blocks.seen.good.size in
    let low = (subst (λ (q : Super). IsData q b) here block).1 in
    omega (arith, few, low)

-- ---- the program

abbrev pub look_steps : ℕ → ℕ
look_steps j = suc (suc (suc (suc (suc (suc (suc (suc (suc j))))))))

abbrev pub take_steps : ℕ → ℕ
take_steps j = suc (suc (suc (suc (suc (suc j)))))

abbrev pub locate_steps : Bool → ℕ → ℕ
locate_steps true j = take_steps (look_steps j)
locate_steps false j = take_steps j

module _ (sizes : Super) (l : Labels) (laws : Laws (labelled sizes.version l)) (keeps : Keeps l) (h : ℕ) (lt : h < hart_count) (B : List l.Step → Type 0) where
  abbrev W : Type 0
  W = Both World above.World

  abbrev M : Machine
  M = joined (labelled sizes.version l) (below sizes)

  module _ {A : Type 0} (Q : A → List l.Step → W → Type 0) (G : List l.Step → above.World → Type 0) (stable : Stable (labelled sizes.version l) (below sizes) laws (below_laws sizes l keeps) h B G)
      (n : ℕ) (changes : (fs : List l.Step) (g : above.World) → G fs g → Inv g → IsChanging h n g) (c : Carry) (o : Option Node) (x : Node) (s : Spent) (bitmap : s.bitmap ≡ true) (far : Bool) (k z was most : ℕ) (small : size s + most < most_recorded)
      (f : Located → P M A) (j : ℕ) (rest : (a : Located) (v : W) (fs : List l.Step) → Found sizes h n (G fs) c o x s far k z was most a v → Wp M h B Q (f a) j fs v) where
    abbrev In : Dinode → List ℕ → List l.Step → W → Type 0
    In d bs fs v = Between sizes h n (G fs) c o (sized z d) x (HasBlocks sizes h s bs) v

    bits_room : (bs : List ℕ) → length bs ≤ most → KeepsRoom h sizes.bmapstart (HasBlocks sizes h s bs) (HasBlocks sizes h s bs)
    bits_room bs few = named_room sizes h sizes.bmapstart s bs (inr (bitmap, refl)) (omega (arith, small, few))

    more_room : (bs : List ℕ) → length bs ≤ most → (b : ℕ) → KeepsRoom h b (HasBlocks sizes h s bs) (HasBlocks sizes h s (with_block bs b))
    more_room bs few b = block_room sizes h b s bs (λ _. omega (arith, small, few))

    -- ---- in the indirect block

    module _ (d : Dinode) (fits : Fits was d) (bs : List ℕ) (is_far : far ≡ true) (some : table_of d ≢ 0) (past : direct ≤ k) (low : k < most_blocks) (cost : length bs + extra true bs (table_of d) ≤ most) where
      abbrev t : ℕ
      t = table_of d

      abbrev i : ℕ
      i = k - direct

      few : length bs ≤ most
      few = omega (arith, cost)

      -- it is the inode's
      table_owned : (r : World) (g : above.World) → Changing h n c o (sized z d) x r g → IsOwned (disk_of (log_of r)) (owner_with h n r) n t
      table_owned r g changing =
          let place = table_place (disk_of (log_of r)) (sized z d) fits.0.thirteen in
          subst (λ (q : ℕ). IsOwned (disk_of (log_of r)) (owner_with h n r) n q) place.0
          (at_index (IsOwned (disk_of (log_of r)) (owner_with h n r) n) (numbers_of (disk_of (log_of r)) (sized z d)) direct changing.laid.owned (λ e. some (sym place.0 ∙ e)))

      table_data : (r : World) (g : above.World) → Shows r g → Changing h n c o (sized z d) x r g → (log_of r).sizes ≡ sizes → IsData sizes t
      table_data r g shows changing at =
          subst (λ (q : Super). IsData q t) ((good_seen (log_of r).sizes (seen_of (log_of r)) (length (log_of r).contents) shows.blocks.seen).sizes_are ∙ at) (table_owned r g changing).block

      -- its buffer is in hand at v
      module _ (w : W) (es : List l.Step) (start : In d bs es w) (v : W) (fs : List l.Step) (got : IsFetched h t (G fs) w v) where
        abbrev bytes : List ℕ
        bytes = seen_of (log_of v.real) t

        at_v : (log_of v.real).sizes ≡ sizes
        at_v = got.since.sizes ∙ start.at

        changing_v : Changing h n c o (sized z d) x v.real v.seen
        changing_v = changing_then h n c o (sized z d) x w.real v.real w.seen v.seen start.shows got.shows (left_but h t w.real v.real got.since) got.kept start.changing

        block : IsData sizes t
        block = table_data v.real v.seen got.shows changing_v at_v

        outside : (r : World) (g : above.World) → Shows r g → (log_of r).sizes ≡ sizes → IsOutsideLog (log_of r).sizes t
        outside r g shows at = (data_home r g shows t (subst (λ (q : Super). IsData q t) (sym at) block)).outside

        one : in_hand h v.real ≡ 1
        one = got.count ∙ ap suc start.none

        whole : (length bytes ≡ block_len) × IsBytes bytes
        whole =
            let home = data_home v.real v.seen got.shows t (subst (λ (q : Super). IsData q t) (sym at_v) block) in
            (got.shows.blocks.seen.whole t home.within home.outside, got.shows.bytes t home.within home.outside)

        knows_v : HasBlocks sizes h s bs v.real
        knows_v = (bits_room bs few).gives.fetched t w.real v.real got.since start.known

        -- the number is there
        there : slice_index (numbers_in bytes) i ≢ 0 → Wp M h B Q (Do (Put t None) unmarked (λ _. f (record { inode = d; number = Some (slice_index (numbers_in bytes) i) }))) (suc (take_steps j)) fs v
        there is =
            s-back sizes l laws keeps h lt B Q G stable t (λ _. f (record { inode = d; number = Some (slice_index (numbers_in bytes) i) })) (take_steps j) fs v got.stage got.buffer.holder (outside v.real v.seen got.shows at_v)
            (λ u gs back.
            let left = left_but h t v.real u.real back.since in
            let home = data_home v.real v.seen got.shows t (subst (λ (q : Super). IsData q t) (sym at_v) block) in
            Wp-more M h (f (record { inode = d; number = Some (slice_index (numbers_in bytes) i) })) B Q j (take_steps j) gs u (omega arith)
            (rest (record { inode = d; number = Some (slice_index (numbers_in bytes) i) }) u gs (record {
              after = bs;
              between = record {
                changing = changing_then h n c o (sized z d) x v.real u.real v.seen u.seen got.shows back.shows left back.kept changing_v;
                shows = back.shows;
                stage = back.stage;
                none = (let down = back.count in omega (arith, down, one));
                at = back.since.sizes ∙ at_v;
                known = (bits_room bs few).gives.fetched t v.real u.real back.since knows_v;
              };
              fits = fits;
              is = (
                is,
                ap (λ (ns : List ℕ). block_number ns k) (numbers_stay h n c o (sized z d) x v.real u.real v.seen u.seen got.shows back.shows left changing_v)
                    ∙ far_place (disk_of (log_of v.real)) (sized z d) k fits.0.thirteen some past
                    ∙ ap (λ (q : List ℕ). slice_index (numbers_in q) i) (block_shown v.real v.seen got.shows t home.sized home.outside),
                (let more = cost_more far bs (slice_index (numbers_in bytes) i) t in let same : extra far bs t ≡ extra true bs t = ap (λ (q : Bool). extra q bs t) is_far in omega (arith, more, same, cost)),
              );
            })))

        -- a block is taken for it, and its number put there
        puts : (b : ℕ) (u : W) (gs : List l.Step) → slice_index (numbers_in bytes) i ≡ 0 → Took h n b t (G gs) c o (sized z d) x (HasBlocks sizes h s (with_block bs b)) v u
            → Wp M h B Q (Do (Put t (Some (with_number i b bytes))) unmarked (λ _. f (record { inode = d; number = Some b }))) (suc j) gs u
        puts b u gs free took =
            let buffer = buffer_then h t bytes v.real u.real took.buffer got.buffer in
            let tiny = small_block u.real u.seen took.shows b took.spare.spare.owned.block in
            s-own sizes l laws keeps h lt B Q G stable n changes (HasSpare h n b c o (sized z d) x) (λ r g. Changing h n c o (sized z d) x r g × (slice_index (numbers_of (disk_of (log_of r)) (sized z d)) (addresses + i) ≡ b)) (spare_stays h n b c o (sized z d) x)
            t bytes (with_number i b bytes) block (number_long i b bytes (omega (arith, low, past)) whole.0) (number_bytes i b bytes whole.1) own
            (λ r g shows is made. number_then h n b c o (sized z d) x r g is fits.0.thirteen shows i bytes some (omega (arith, low, past)) whole.0 tiny free made)
            (HasBlocks sizes h s (with_block bs b)) (HasBlocks sizes h s (with_block (with_block bs b) t)) (block_room sizes h t s (with_block bs b) room)
            (λ _. f (record { inode = d; number = Some b })) j gs u took.stage took.shows took.spare buffer (took.sizes_same ∙ at_v) took.known
            (λ y hs done.
            rest (record { inode = d; number = Some b }) y hs (record {
              after = with_block (with_block bs b) t;
              between = record {
                changing = done.after.0;
                shows = done.shows;
                stage = done.stage;
                none = (let down = done.count in let held = took.count in omega (arith, down, held, one));
                at = done.sizes_same ∙ took.sizes_same ∙ at_v;
                known = done.known;
              };
              fits = fits;
              is = (
                (λ e. absurd (let low_b = took.spare.spare.owned.block.0 in omega (arith, e, low_b))),
                far_index (numbers_of (disk_of (log_of y.real)) (sized z d)) k past ∙ done.after.1,
                costs,
              );
            }))
          where
            own : (r : World) (g : above.World) → HasSpare h n b c o (sized z d) x r g → owner_with h n r t ≡ n
            own r g is =
                let place = table_place (disk_of (log_of r)) (sized z d) fits.0.thirteen in
                ap (owner_with h n r) (sym place.0) ∙ (at_index (IsOwned (disk_of (log_of r)) (owner_with h n r) n) (numbers_of (disk_of (log_of r)) (sized z d)) direct is.laid.owned (λ e. some (sym place.0 ∙ e))).owner_is

            room : budget.has (with_block bs b) t ≡ false → size s + length (with_block bs b) < most_recorded
            room isnt = let one_ = extra_missing bs t (number_before bs b t isnt) in let a = number_more bs b in omega (arith, one_, a, cost, small)

            costs : length (with_block (with_block (with_block bs b) t) b) + extra far (with_block (with_block (with_block bs b) t) b) t ≤ suc most
            costs =
                let same = number_again (with_block (with_block bs b) t) b (number_stays (with_block bs b) t b (has_number bs b)) in
                let both = cost_both bs b t some in
                subst (λ (q : Bool). length (with_block (with_block (with_block bs b) t) b) + extra q (with_block (with_block (with_block bs b) t) b) t ≤ suc most) (sym is_far)
                (subst (λ (q : List ℕ). length q + extra true q t ≤ suc most) (sym same) (omega (arith, both, cost)))

        -- none is free
        lacks : (u : W) (gs : List l.Step) → TookNone h n t (G gs) c o (sized z d) x (HasBlocks sizes h s bs) v u → Wp M h B Q (Do (Put t None) unmarked (λ _. f (record { inode = d; number = None }))) (suc j) gs u
        lacks u gs took =
            let buffer = buffer_then h t bytes v.real u.real took.buffer got.buffer in
            s-back sizes l laws keeps h lt B Q G stable t (λ _. f (record { inode = d; number = None })) j gs u took.stage buffer.holder (outside u.real u.seen took.shows (took.sizes_same ∙ at_v))
            (λ y hs back.
            rest (record { inode = d; number = None }) y hs (record {
              after = bs;
              between = record {
                changing = changing_then h n c o (sized z d) x u.real y.real u.seen y.seen took.shows back.shows (left_but h t u.real y.real back.since) back.kept took.changing;
                shows = back.shows;
                stage = back.stage;
                none = (let down = back.count in let held = took.count in omega (arith, down, held, one));
                at = back.since.sizes ∙ took.sizes_same ∙ at_v;
                known = (bits_room bs few).gives.fetched t u.real y.real back.since took.known;
              };
              fits = fits;
              is = few;
            }))

        looks : (q : Bool) → (slice_index (numbers_in bytes) i == 0) ≡ q
            → Wp M h B Q (bind (if q then bind (take_one sizes) (name_in_table i d t bytes) else Do (Put t None) unmarked (λ _. located d (Some (slice_index (numbers_in bytes) i)))) f) (suc (take_steps j)) fs v
        looks false isnt = there (λ e. (let z : true ≡ false = sym (ap (λ (q : ℕ). q == 0) e) ∙ isnt in cc))
        looks true is =
            subst (λ (p : P M A). Wp M h B Q p (suc (take_steps j)) fs v) (sym (bind-assoc (take_one sizes) (name_in_table i d t bytes) f))
            (s-take sizes l laws keeps h lt B Q G stable n changes c o (sized z d) x fits.0.thirteen (HasBlocks sizes h s bs) (λ b. HasBlocks sizes h s (with_block bs b)) (bits_room bs few) (more_room bs few)
            (λ a. bind (name_in_table i d t bytes a) f) (suc j) v (omega (arith, one)) (only_hand h t v.real one got.buffer.holder) at_v got.shows changing_v knows_v
            (λ u gs took. lacks u gs took) (λ b u gs took. puts b u gs (eq_is (slice_index (numbers_in bytes) i) 0 is) took) fs got.stage)

      -- the number at its place of the indirect block
      s-look : (w : W) (es : List l.Step) → In d bs es w → (y : ℕ) → y ≡ t → Wp M h B Q (bind (bind (fetch y) (look_up sizes i d y)) f) (look_steps j) es w
      s-look w es start y is =
          subst (λ (q : ℕ). Wp M h B Q (bind (bind (fetch q) (look_up sizes i d q)) f) (look_steps j) es w) (sym is)
          (subst (λ (p : P M A). Wp M h B Q p (look_steps j) es w) (sym (bind-assoc (fetch t) (look_up sizes i d t) f))
          (s-fetch sizes l laws keeps h lt B Q G stable t (λ bytes. bind (look_up sizes i d t bytes) f) (suc (take_steps j)) es w start.stage (let none = start.none in omega (arith, none))
          (λ v fs here. let home = data_home v.real v.seen here.shows t (subst (λ (q : Super). IsData q t) (sym (here.same.sizes ∙ start.at)) (table_data w.real w.seen start.shows start.changing start.at)) in (home.outside, home.sized))
          (empty_hand h t w.real start.none)
          (λ v fs got. looks w es start v fs got (slice_index (numbers_in (seen_of (log_of v.real) t)) i == 0) refl)))

    -- ---- wherever it is

    module _ (d : Dinode) (fits : Fits was d) (bs : List ℕ) (low : k < most_blocks) (cost : length bs + extra far bs (table_of d) ≤ most) (w : W) (es : List l.Step) (start : In d bs es w) where
      fewer : length bs ≤ most
      fewer = omega (arith, cost)

      -- a block is taken
      takes : (g : Option ℕ → P M A) (m : ℕ) → ((u : W) (gs : List l.Step) → TookNone h n (table_of d) (G gs) c o (sized z d) x (HasBlocks sizes h s bs) w u → Wp M h B Q (g None) m gs u)
          → ((b : ℕ) (u : W) (gs : List l.Step) → Took h n b (table_of d) (G gs) c o (sized z d) x (HasBlocks sizes h s (with_block bs b)) w u → Wp M h B Q (g (Some b)) m gs u)
          → Wp M h B Q (bind (take_one sizes) g) (take_steps m) es w
      takes g m none some =
          s-take sizes l laws keeps h lt B Q G stable n changes c o (sized z d) x fits.0.thirteen (HasBlocks sizes h s bs) (λ b. HasBlocks sizes h s (with_block bs b)) (bits_room bs fewer) (more_room bs fewer)
          g m w (let zero_ = start.none in omega (arith, zero_)) (λ q ne. empty_hand h q w.real start.none) start.at start.shows start.changing start.known none some es start.stage

      lacking : (u : W) (gs : List l.Step) → TookNone h n (table_of d) (G gs) c o (sized z d) x (HasBlocks sizes h s bs) w u → Wp M h B Q (f (record { inode = d; number = None })) j gs u
      lacking u gs took =
          rest (record { inode = d; number = None }) u gs (record {
            after = bs;
            between = record { changing = took.changing; shows = took.shows; stage = took.stage; none = took.count ∙ start.none; at = took.sizes_same ∙ start.at; known = took.known };
            fits = fits;
            is = fewer;
          })

      -- among the inode's own numbers
      module _ (near : k < direct) where
        direct_there : slice_index d.addrs k ≢ 0 → Wp M h B Q (f (record { inode = d; number = Some (slice_index d.addrs k) })) j es w
        direct_there is =
            rest (record { inode = d; number = Some (slice_index d.addrs k) }) w es (record {
              after = bs;
              between = start;
              fits = fits;
              is = (is, direct_place (disk_of (log_of w.real)) (sized z d) k fits.0.thirteen near, (let more = cost_more far bs (slice_index d.addrs k) (table_of d) in omega (arith, more, cost)));
            })

        named : slice_index d.addrs k ≡ 0 → (b : ℕ) (u : W) (gs : List l.Step) → Took h n b (table_of d) (G gs) c o (sized z d) x (HasBlocks sizes h s (with_block bs b)) w u
            → Wp M h B Q (f (record { inode = with_address k b d; number = Some b })) j gs u
        named free b u gs took =
            let names = direct_then h n b c o (sized z d) x u.real u.seen took.spare fits.0.thirteen k near free in
            rest (record { inode = with_address k b d; number = Some b }) u gs (record {
              after = with_block bs b;
              between = record { changing = names.0; shows = took.shows; stage = took.stage; none = took.count ∙ start.none; at = took.sizes_same ∙ start.at; known = took.known };
              fits = (addressed_fits k b d (small_block u.real u.seen took.shows b took.spare.spare.owned.block) fits.0, fits.1);
              is = (
                (λ e. absurd (let low_b = took.spare.spare.owned.block.0 in omega (arith, e, low_b))),
                names.1,
                subst (λ (q : List ℕ). length q + extra far q (table_of (with_address k b d)) ≤ suc most) (sym (number_again (with_block bs b) b (has_number bs b)))
                    (subst (λ (q : ℕ). length (with_block bs b) + extra far (with_block bs b) q ≤ suc most) (sym (get_or-set_other d.addrs k direct b 0 (λ e. absurd (omega (arith, e, near)))))
                    (let more = cost_more far bs b (table_of d) in omega (arith, more, cost))),
              );
            })

        own : (q : Bool) → (slice_index d.addrs k == 0) ≡ q → Wp M h B Q (bind (if q then bind (take_one sizes) (name_direct k d) else located d (Some (slice_index d.addrs k))) f) (take_steps j) es w
        own false isnt = Wp-more M h (f (record { inode = d; number = Some (slice_index d.addrs k) })) B Q j (take_steps j) es w (omega arith) (direct_there (λ e. (let z : true ≡ false = sym (ap (λ (q : ℕ). q == 0) e) ∙ isnt in cc)))
        own true is =
            subst (λ (p : P M A). Wp M h B Q p (take_steps j) es w) (sym (bind-assoc (take_one sizes) (name_direct k d) f))
            (takes (λ a. bind (name_direct k d a) f) j lacking (named (eq_is (slice_index d.addrs k) 0 is)))

      -- in the indirect block, which may be missing
      module _ (past : direct ≤ k) (is_far : far ≡ true) where
        cost_far : length bs + extra true bs (table_of d) ≤ most
        cost_far = subst (λ (q : Bool). length bs + extra q bs (table_of d) ≤ most) is_far cost

        -- it was taken
        with_new : table_of d ≡ 0 → (b : ℕ) (u : W) (gs : List l.Step) → Took h n b (table_of d) (G gs) c o (sized z d) x (HasBlocks sizes h s (with_block bs b)) w u
            → Wp M h B Q (bind (with_table sizes (k - direct) d (Some b)) f) (look_steps j) gs u
        with_new free b u gs took =
            let here : table_of (with_address direct b d) ≡ b = get_or-set_same d.addrs direct b 0 (let thirteen = fits.0.thirteen in omega (arith, thirteen)) in
            let low_b = took.spare.spare.owned.block.0 in
            let some : table_of (with_address direct b d) ≢ 0 = (λ e. absurd (omega (arith, here, e, low_b))) in
            let one : extra true bs (table_of d) ≡ 1 = ap (extra true bs) free in
            let none : extra true (with_block bs b) (table_of (with_address direct b d)) ≡ 0 = extra_there true (with_block bs b) (table_of (with_address direct b d)) some (ap (budget.has (with_block bs b)) here ∙ has_number bs b) in
            s-look (with_address direct b d) (addressed_fits direct b d (small_block u.real u.seen took.shows b took.spare.spare.owned.block) fits.0, fits.1) (with_block bs b) is_far some past low
            (let a = number_more bs b in omega (arith, cost_far, one, none, a)) u gs
            (record {
              changing = table_then h n b c o (sized z d) x u.real u.seen took.spare fits.0.thirteen free took.zeros_are;
              shows = took.shows;
              stage = took.stage;
              none = took.count ∙ start.none;
              at = took.sizes_same ∙ start.at;
              known = took.known;
            })
            b (sym here)

        lists : (q : Bool) → (table_of d == 0) ≡ q → Wp M h B Q (bind (if q then bind (take_one sizes) (with_table sizes (k - direct) d) else locate_in_table sizes (k - direct) d) f) (take_steps (look_steps j)) es w
        lists false isnt =
            Wp-more M h (bind (locate_in_table sizes (k - direct) d) f) B Q (look_steps j) (take_steps (look_steps j)) es w (omega arith)
            (s-look d fits bs is_far (λ e. (let z : true ≡ false = sym (ap (λ (q : ℕ). q == 0) e) ∙ isnt in cc)) past low cost_far w es start (table_of d) refl)
        lists true is =
            subst (λ (p : P M A). Wp M h B Q p (take_steps (look_steps j)) es w) (sym (bind-assoc (take_one sizes) (with_table sizes (k - direct) d) f))
            (takes (λ a. bind (with_table sizes (k - direct) d a) f) (look_steps j)
            (λ u gs took. Wp-more M h (f (record { inode = d; number = None })) B Q j (look_steps j) gs u (omega arith) (lacking u gs took)) (with_new (eq_is (table_of d) 0 is)))

      -- Block k: if it is missing it is taken, and an indirect block before it.
      pub s-locate : (far ≡ false → k < direct) → Wp M h B Q (bind (locate sizes d k) f) (locate_steps far j) es w
      s-locate near =
          either_place k (Wp M h B Q (bind (locate sizes d k) f) (locate_steps far j) es w)
          (λ close e.
          subst (λ (q : Bool). Wp M h B Q (bind (locate_at sizes d (if q then Direct k else InTable (k - direct))) f) (locate_steps far j) es w) (sym e)
          (Wp-more M h (bind (locate_at sizes d (Direct k)) f) B Q (take_steps j) (locate_steps far j) es w (enough far) (own close (slice_index d.addrs k == 0) refl)))
          (λ past e.
          subst (λ (q : Bool). Wp M h B Q (bind (locate_at sizes d (if q then Direct k else InTable (k - direct))) f) (locate_steps far j) es w) (sym e)
          (distant past far refl))
        where
          enough : (q : Bool) → take_steps j ≤ locate_steps q j
          enough true = omega arith
          enough false = omega arith

          distant : direct ≤ k → (q : Bool) → far ≡ q
              → Wp M h B Q (bind (locate_at sizes d (InTable (k - direct))) f) (locate_steps far j) es w
          distant past true is = subst (λ (q : Bool). Wp M h B Q (bind (locate_at sizes d (InTable (k - direct))) f) (locate_steps q j) es w) (sym is) (lists past is (table_of d == 0) refl)
          distant past false is = absurd (let close = near is in omega (arith, close, past))
