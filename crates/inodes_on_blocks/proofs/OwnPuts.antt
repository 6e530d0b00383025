-- A block put for an inode that a hart is changing: what is known of the inode after the put, from what was before.
use Rattle.inodes_on_blocks.proofs.Vocabulary.{◌≡◌, ◌≢◌, ℕ, suc, ◌<◌, List, length, Option, Some, is_some, refl, sym, ◌∙◌, ap, subst, if◌then◌else◌, Super, IsBytes, recovered, sizes_of, holder_of, IsData, IsPut, hart_count, Do, unmarked, Machine, Laws, P, Wp, Both, joined, Stable, seen_of, Put, if_kept, is_hart, Inv, World, log_of, disk_of, world_with, KeepsRoom, in_hand, HasBuffer, Kept, buffer_in, below, Labels, labelled, Keeps, CanPut, IsChanging, PutLeaves, log_with, owners_with, Shows, block_len}
use Rattle.inodes_on_blocks.proofs.Basics.{good_seen, buffer_then, buffer_seen, same_view, below_laws, disk_put, put_bytes, old_bytes, put_hand}
use Rattle.inode_machine.specs.World as above
use Rattle.inodes_on_blocks.proofs.Changing.{owner_with, LeftTo, left_same, data_owners}
use Rattle.inodes_on_blocks.proofs.DataPuts.{data_home, own_or_taken}
use Rattle.inodes_on_blocks.proofs.PutLaws.{data_puts_leave}
use Rattle.inodes_on_blocks.proofs.PutSteps.{s-put}

-- What such a put makes of the disk: the block alone is other, and whose the blocks are stays. It could be put with
-- any bytes.
pub record IsOwnPut (h n b : ℕ) (old bytes : List ℕ) (r : World) : Type 0 where
  pub leaves : PutLeaves h n r (log_with h b bytes r) (owners_with h b bytes r)
  pub put : IsPut (disk_of (log_of r)) (disk_of (log_with h b bytes r)) b
  pub was : recovered (disk_of (log_of r)) b ≡ old
  pub now : recovered (disk_of (log_with h b bytes r)) b ≡ bytes
  pub owners : owner_with h n (world_with h b bytes r) ≡ owner_with h n r
  pub taken : (world_with h b bytes r).taken ≡ r.taken
  pub any : (others : List ℕ) → length others ≡ block_len → IsBytes others → (mid : List (List ℕ)) × IsPut (disk_of (log_of r)) mid b × (recovered mid b ≡ others)

-- How a hart goes on after it put block b, from v.
pub record PutOn (h b : ℕ) (Stage : above.World → Type 0) (After : World → above.World → Type 0) (Then : World → Type 0) (v x : Both World above.World) : Type 0 where
  pub after : After x.real x.seen
  pub kept : Kept h v.seen x.seen
  pub shows : Shows x.real x.seen
  pub inv : Inv x.seen
  pub stage : Stage x.seen
  pub sizes_same : (log_of x.real).sizes ≡ (log_of v.real).sizes
  pub buffers : (k : ℕ) → k ≢ b → if_kept (holder_of k (log_of x.real).seats) h (buffer_in (log_of x.real) k) ≡ if_kept (holder_of k (log_of v.real).seats) h (buffer_in (log_of v.real) k)
  pub count : in_hand h v.real ≡ suc (in_hand h x.real)
  pub known : Then x.real

own_put : (h n b : ℕ) (old bytes : List ℕ) (r : World) (g : above.World) → Shows r g → IsChanging h n g → CanPut h b bytes (log_of r) → IsData (sizes_of (disk_of (log_of r))) b → owner_with h n r b ≡ n → (log_of r).sizes.bmapstart < b
    → recovered (disk_of (log_of r)) b ≡ old → IsOwnPut h n b old bytes r
own_put h n b old bytes r g shows is can block own past was = record {
  leaves = data_puts_leave h b n bytes r g shows is can block (own_or_taken h n b r own);
  put = disk_put h b bytes r.state shows.whole shows.blocks.seen can;
  was = was;
  now = put_bytes h b bytes r.state shows.whole shows.blocks.seen can;
  owners = let same = data_owners h b bytes r past in (λ z k. if is_hart ((same z).taken k) h then n else (same z).owner k);
  taken = let same = data_owners h b bytes r past in (λ z. (same z).taken);
  any = λ others long are.
      let may : CanPut h b others (log_of r) = record { holder = can.holder; valid = can.valid; joined = can.joined; runs = can.runs; home = can.home; room = can.room; long = long; are = are } in
      (disk_of (log_with h b others r), disk_put h b others r.state shows.whole shows.blocks.seen may, put_bytes h b others r.state shows.whole shows.blocks.seen may);
}

module _ (sizes : Super) (l : Labels) (laws : Laws (labelled sizes.version l)) (keeps : Keeps l) (h : ℕ) (lt : h < hart_count) (B : List l.Step → Type 0) where
  abbrev W : Type 0
  W = Both World above.World

  abbrev M : Machine
  M = joined (labelled sizes.version l) (below sizes)

  module _ {A : Type 0} (Q : A → List l.Step → W → Type 0) (G : List l.Step → above.World → Type 0) (stable : Stable (labelled sizes.version l) (below sizes) laws (below_laws sizes l keeps) h B G)
      (n : ℕ) (changes : (fs : List l.Step) (g : above.World) → G fs g → Inv g → IsChanging h n g) (Before After : World → above.World → Type 0)
      (lasts : (v w : World) (g u : above.World) → Shows v g → Shows w u → LeftTo h v w → Kept h g u → Before v g → Before w u)
      (b : ℕ) (old bytes : List ℕ) (block : IsData sizes b) (long : length bytes ≡ block_len) (are : IsBytes bytes) (own : (r : World) (g : above.World) → Before r g → owner_with h n r b ≡ n)
      (makes : (r : World) (g : above.World) → Shows r g → Before r g → IsOwnPut h n b old bytes r → After (world_with h b bytes r) g)
      (Knows Then : World → Type 0) (room : KeepsRoom h b Knows Then) where
    pub s-own : (k : Unit {0} → P M A) (j : ℕ) (fs : List l.Step) (v : W) → G fs v.seen → Shows v.real v.seen → Before v.real v.seen → HasBuffer h b old v.real → (log_of v.real).sizes ≡ sizes → Knows v.real
        → ((z : W) (gs : List l.Step) → PutOn h b (G gs) After Then v z → Wp M h B Q (k tt) j gs z) → Wp M h B Q (Do (Put b (Some bytes)) unmarked k) (suc j) fs v
    s-own k j fs v stage shows before buffer at knows rest =
        s-put sizes l laws keeps h lt B Q G stable n b bytes k j fs v stage
        (λ u gs here.
        let r = u.real in
        let g = u.seen in
        let is = changes gs g here.stage here.inv in
        let sized : (log_of r).sizes ≡ sizes = here.same.sizes ∙ at in
        let there = lasts v.real r v.seen g shows here.shows (left_same h v.real r here.same) here.kept before in
        let disk_sizes : sizes_of (disk_of (log_of r)) ≡ sizes = (good_seen (log_of r).sizes (seen_of (log_of r)) (length (log_of r).contents) here.shows.blocks.seen).sizes_are ∙ sized in
        let buffer_there = buffer_then h b old v.real r (here.same.buffers b) buffer in
        let knows_there = room.gives.lasts v.real r here.same knows in
        let joined_ = sym (here.shows.members h lt) ∙ is.joined in
        let can : CanPut h b bytes (log_of r) = record {
          holder = buffer_there.holder;
          valid = ap (λ (z : Option (List ℕ)). is_some z) buffer_there.has;
          joined = joined_;
          runs = here.shows.runs;
          home = data_home r g here.shows b (subst (λ (s : Super). IsData s b) (sym sized) block);
          room = room.gives.room r knows_there joined_;
          long = long;
          are = are;
        } in
        let made = own_put h n b old bytes r g here.shows is can (subst (λ (s : Super). IsData s b) (sym disk_sizes) block) (own r g there) (subst (λ (s : Super). s.bmapstart < b) (sym sized) block.0)
        (old_bytes h b bytes r.state here.shows.whole here.shows.blocks.seen can ∙ buffer_seen h b old r buffer_there) in
        record {
          changing = is;
          can = can;
          leaves = made.leaves;
          goes_on = λ shows_then count.
              rest (record { real = world_with h b bytes r; seen = g }) gs (record {
                after = makes r g here.shows there made;
                kept = here.kept;
                shows = shows_then;
                inv = here.inv;
                stage = here.stage;
                sizes_same = here.same.sizes;
                buffers = λ q ne. same_view h q (log_of r) (log_with h b bytes r) ((put_hand h b bytes (log_of r).seats can.holder).others q ne) refl ∙ here.same.buffers q;
                count = sym here.same.held ∙ count;
                known = room.put bytes r knows_there;
              });
        })
