-- The bit of a block set for an inode that a hart is changing. Nothing of it is seen above, and the block is spare
-- then.
use Rattle.inodes_on_blocks.proofs.Vocabulary.{◌≡◌, ◌≢◌, ℕ, zero, suc, ◌^◌, ◌/◌, ◌%◌, ◌<◌, true, false, List, length, length-set, Option, Some, is_some, bit_or, refl, sym, ◌∙◌, ap, subst, arith, slice_index, or_of_8, Dinode, Super, bit_of, IsBytes, sizes_of, holder_of, kept, has, HasRoom, IsData, is_marked, Node, hart_count, Do, unmarked, Machine, Laws, P, Wp, Both, joined, Stable, Here, seen_of, Put, with_bit, if_kept, Inv, World, log_of, disk_of, world_with, KeepsRoom, in_hand, HasBuffer, Kept, Carry, buffer_in, below, Labels, labelled, Keeps, CanPut, IsChanging, log_with, Shows}
use Rattle.inodes_on_blocks.proofs.Basics.{good_seen, marks_are_bits, buffer_then, buffer_seen, same_view, below_laws, put_hand}
use Rattle.inode_machine.specs.World as above
use Rattle.inodes_on_blocks.proofs.Changing.{Changing, left_same, changing_then}
use Rattle.inodes_on_blocks.proofs.PutSteps.{Putting, set_bytes, bitmap_home, s-put}
use Rattle.inodes_on_blocks.proofs.Taking.{HasSpare, take_leaves, spare_then}

-- ---- bytes

small_power : (k : ℕ) → k < 8 → 2 ^ k < 256
small_power zero lt = omega arith
small_power (suc zero) lt = omega arith
small_power (suc (suc zero)) lt = omega arith
small_power (suc (suc (suc zero))) lt = omega arith
small_power (suc (suc (suc (suc zero)))) lt = omega arith
small_power (suc (suc (suc (suc (suc zero))))) lt = omega arith
small_power (suc (suc (suc (suc (suc (suc zero)))))) lt = omega arith
small_power (suc (suc (suc (suc (suc (suc (suc zero))))))) lt = omega arith
small_power (suc (suc (suc (suc (suc (suc (suc (suc k)))))))) lt = absurd (omega (arith, lt))

with_bytes : (b : ℕ) (block : List ℕ) → IsBytes block → IsBytes (with_bit b block)
unfolding with_bit
with_bytes b block are =
    set_bytes block (b / 8) (bit_or (slice_index block (b / 8)) (2 ^ (b % 8))) (or_of_8 (slice_index block (b / 8)) (2 ^ (b % 8)) (are (b / 8)) (small_power (b % 8) (omega arith))) are

with_long : (b : ℕ) (block : List ℕ) → length (with_bit b block) ≡ length block
unfolding with_bit
with_long b block = length-set block (b / 8) (bit_or (slice_index block (b / 8)) (2 ^ (b % 8)))

-- ---- the put

-- how a hart goes on after it has set the bit of block b
pub record MarkedFor (h n b bitmap : ℕ) (Stage : above.World → Type 0) (c : Carry) (o : Option Node) (d : Dinode) (x : Node) (Then : World → Type 0) (v z : Both World above.World) : Type 0 where
  pub spare : HasSpare h n b c o d x z.real z.seen
  pub kept : Kept h v.seen z.seen
  pub shows : Shows z.real z.seen
  pub inv : Inv z.seen
  pub stage : Stage z.seen
  pub sizes_same : (log_of z.real).sizes ≡ (log_of v.real).sizes
  pub buffers : (k : ℕ) → k ≢ bitmap → if_kept (holder_of k (log_of z.real).seats) h (buffer_in (log_of z.real) k) ≡ if_kept (holder_of k (log_of v.real).seats) h (buffer_in (log_of v.real) k)
  pub count : in_hand h v.real ≡ suc (in_hand h z.real)
  pub known : Then z.real

module _ (sizes : Super) (l : Labels) (laws : Laws (labelled sizes.version l)) (keeps : Keeps l) (h : ℕ) (lt : h < hart_count) (B : List l.Step → Type 0) where
  abbrev W : Type 0
  W = Both World above.World

  abbrev M : Machine
  M = joined (labelled sizes.version l) (below sizes)

  module _ {A : Type 0} (Q : A → List l.Step → W → Type 0) (G : List l.Step → above.World → Type 0) (stable : Stable (labelled sizes.version l) (below sizes) laws (below_laws sizes l keeps) h B G)
      (n : ℕ) (changes : (fs : List l.Step) (g : above.World) → G fs g → Inv g → IsChanging h n g) (c : Carry) (o : Option Node) (d : Dinode) (x : Node) (b : ℕ) (old : List ℕ) (block : IsData sizes b) (clear : bit_of old b ≡ false)
      (Knows Then : World → Type 0) (room : KeepsRoom h sizes.bmapstart Knows Then) where
    abbrev bitmap : ℕ
    bitmap = sizes.bmapstart

    -- the bit is set
    pub s-mark : (k : Unit {0} → P M A) (j : ℕ) (fs : List l.Step) (v : W) → G fs v.seen → Shows v.real v.seen → Changing h n c o d x v.real v.seen → HasBuffer h bitmap old v.real → (log_of v.real).sizes ≡ sizes → Knows v.real
        → ((z : W) (gs : List l.Step) → MarkedFor h n b bitmap (G gs) c o d x Then v z → Wp M h B Q (k tt) j gs z) → Wp M h B Q (Do (Put bitmap (Some (with_bit b old))) unmarked k) (suc j) fs v
    s-mark k j fs v stage shows changing buffer at knows rest =
        s-put sizes l laws keeps h lt B Q G stable n bitmap (with_bit b old) k j fs v stage
        (λ u gs here.
        let r = u.real in
        let where_ : bitmap ≡ (log_of r).sizes.bmapstart = ap (λ (s : Super). s.bmapstart) (sym (here.same.sizes ∙ at)) in
        let buffer_there = buffer_then h bitmap old v.real r (here.same.buffers bitmap) buffer in
        let bytes : seen_of (log_of r) (log_of r).sizes.bmapstart ≡ old = ap (seen_of (log_of r)) (sym where_) ∙ buffer_seen h bitmap old r buffer_there in
        let knows_there = room.gives.lasts v.real r here.same knows in
        subst (λ (q : ℕ × List ℕ). Putting sizes l laws keeps h lt B Q G stable n q.0 q.1 k j gs u) (λ z. (sym where_ z, with_bit b (bytes z)))
        (there u gs here where_ bytes (subst (λ (q : ℕ). holder_of q (log_of r).seats ≡ Some h) where_ buffer_there.holder)
        (ap (λ (z : Option (List ℕ)). is_some z) (subst (λ (q : ℕ). kept q (log_of r).seats ≡ Some old) where_ buffer_there.has)) knows_there))
      where
        there : (u : W) (gs : List l.Step) → Here (labelled sizes.version l) (below sizes) laws (below_laws sizes l keeps) h B G v u gs → bitmap ≡ (log_of u.real).sizes.bmapstart → seen_of (log_of u.real) (log_of u.real).sizes.bmapstart ≡ old
            → holder_of (log_of u.real).sizes.bmapstart (log_of u.real).seats ≡ Some h → is_some (kept (log_of u.real).sizes.bmapstart (log_of u.real).seats) ≡ true → Knows u.real
            → Putting sizes l laws keeps h lt B Q G stable n (log_of u.real).sizes.bmapstart (with_bit b (seen_of (log_of u.real) (log_of u.real).sizes.bmapstart)) k j gs u
        there u gs here where_ bytes holder valid knows_there =
            let r = u.real in
            let g = u.seen in
            let is = changes gs g here.stage here.inv in
            let home = bitmap_home r g here.shows in
            let sized : (log_of r).sizes ≡ sizes = here.same.sizes ∙ at in
            let disk_sizes : sizes_of (disk_of (log_of r)) ≡ sizes = (good_seen (log_of r).sizes (seen_of (log_of r)) (length (log_of r).contents) here.shows.blocks.seen).sizes_are ∙ sized in
            let changing_there = changing_then h n c o d x v.real r v.seen g shows here.shows (left_same h v.real r here.same) here.kept changing in
            let joined_ = sym (here.shows.members h lt) ∙ is.joined in
            let can : CanPut h (log_of r).sizes.bmapstart (with_bit b (seen_of (log_of r) (log_of r).sizes.bmapstart)) (log_of r) = record {
              holder = holder;
              valid = valid;
              joined = joined_;
              runs = here.shows.runs;
              home = home;
              room = subst (λ (q : ℕ). has (log_of r).group q ≡ false → HasRoom (log_of r).members h) where_ (room.gives.room r knows_there joined_);
              long = with_long b (seen_of (log_of r) (log_of r).sizes.bmapstart) ∙ here.shows.blocks.seen.whole (log_of r).sizes.bmapstart home.within home.outside;
              are = with_bytes b (seen_of (log_of r) (log_of r).sizes.bmapstart) (here.shows.bytes (log_of r).sizes.bmapstart home.within home.outside);
            } in
            let unset : is_marked (disk_of (log_of r)) b ≡ false = marks_are_bits r g here.shows b ∙ ap (λ (q : List ℕ). bit_of q b) bytes ∙ clear in
            let data_block : IsData (sizes_of (disk_of (log_of r))) b = subst (λ (s : Super). IsData s b) (sym disk_sizes) block in
            let small : b < (log_of r).sizes.size = subst (λ (s : Super). b < s.size) (sym sized) block.1 in
            let put_bytes = with_bit b (seen_of (log_of r) (log_of r).sizes.bmapstart) in
            record {
              changing = is;
              can = can;
              leaves = take_leaves h n b c o d x r g here.shows changing_there is data_block small unset can;
              goes_on = λ shows_then count.
                  rest (record { real = world_with h (log_of r).sizes.bmapstart put_bytes r; seen = g }) gs (record {
                    spare = spare_then h n b c o d x r g here.shows changing_there is data_block small unset can;
                    kept = here.kept;
                    shows = shows_then;
                    inv = here.inv;
                    stage = here.stage;
                    sizes_same = here.same.sizes;
                    buffers = λ q ne. same_view h q (log_of r) (log_with h (log_of r).sizes.bmapstart put_bytes r) ((put_hand h (log_of r).sizes.bmapstart put_bytes (log_of r).seats holder).others q (λ e. ne (e ∙ sym where_))) refl ∙ here.same.buffers q;
                    count = sym here.same.held ∙ count;
                    known = subst (λ (q : ℕ). Then (world_with h q put_bytes r)) where_ (room.put put_bytes r knows_there);
                  });
            }
