-- A block put for an inode that a hart is changing, which the inode has or the hart has taken. Nothing of it is seen
-- above.
use Rattle.inodes_on_blocks.proofs.Vocabulary.{◌≡◌, ◌≢◌, ◌⊎◌, inl, inr, ℕ, suc, ◌<◌, Bool, List, length, Option, Some, None, is_some, refl, sym, ◌∙◌, ap, subst, arith, if◌then◌else◌, Dinode, Super, IsBytes, recovered, sizes_of, holder_of, IsHome, IsData, numbers_of, NamesOwned, IsPut, IsLaidOut, Becomes, Node, hart_count, either, Do, unmarked, Machine, Laws, P, Wp, Both, joined, Stable, seen_of, Put, if_kept, is_hart, Inv, World, log_of, disk_of, owners_of, world_with, KeepsRoom, in_hand, HasBuffer, Kept, Carry, buffer_in, below, Labels, labelled, Keeps, CanPut, IsChanging, log_with, owners_with, Shows, block_len}
use Rattle.inodes_on_blocks.proofs.Basics.{good_seen, buffer_then, buffer_seen, same_view, below_laws, hart_is, disk_put, put_bytes, old_bytes, put_hand}
use Rattle.inode_machine.specs.World as above
use Rattle.inodes_on_blocks.proofs.Changing.{owner_with, Changing, left_same, changing_then, numbers_stay, stays_own, changed_put, data_owners}
use Rattle.inodes_on_blocks.proofs.PutLaws.{data_puts_leave}
use Rattle.inodes_on_blocks.proofs.PutSteps.{put_back, s-put}

-- a data block may be recorded
pub data_home : (r : World) (g : above.World) → Shows r g → (b : ℕ) → IsData (log_of r).sizes b → IsHome (log_of r).contents (log_of r).sizes b
data_home r g shows b block =
    let good = shows.blocks.seen.good in
    let start = good.logstart in
    let long = good.nlog in
    let log = good.log in
    let inodes = good.inodes in
    let all = shows.blocks.seen.sized in
    let past = block.0 in
    let small = block.1 in
    record {
      outside = inr (omega (arith, log, inodes, past));
      no_super = λ e. absurd (omega (arith, start, long, log, inodes, past, e));
      within = omega (arith, small, all);
      front = omega (arith, inodes, past);
      sized = small;
    }

-- the inode's, or taken
pub own_or_taken : (h n b : ℕ) (r : World) → owner_with h n r b ≡ n → (r.owner b ≡ n) ⊎ (r.taken b ≡ Some h)
own_or_taken h n b r own = elim (either (is_hart (r.taken b) h)) [
  | inl mine ↦ inr (hart_is (r.taken b) h mine)
  | inr apart ↦ inl (sym (ap (λ (t : Bool). if t then n else r.owner b) apart) ∙ own)
]

-- How a hart goes on after it put a block for inode n: the inode is laid out for this node then.
pub record PutFor (h n b : ℕ) (Stage : above.World → Type 0) (c : Carry) (o : Option Node) (e : Dinode) (y : Node) (Then : World → Type 0) (v x : Both World above.World) : Type 0 where
  pub changing : Changing h n c o e y x.real x.seen
  pub kept : Kept h v.seen x.seen
  pub shows : Shows x.real x.seen
  pub inv : Inv x.seen
  pub stage : Stage x.seen
  pub sizes_same : (log_of x.real).sizes ≡ (log_of v.real).sizes
  pub buffers : (k : ℕ) → k ≢ b → if_kept (holder_of k (log_of x.real).seats) h (buffer_in (log_of x.real) k) ≡ if_kept (holder_of k (log_of v.real).seats) h (buffer_in (log_of v.real) k)
  pub back : holder_of b (log_of x.real).seats ≡ None
  pub count : in_hand h v.real ≡ suc (in_hand h x.real)
  pub known : Then x.real

module _ (sizes : Super) (l : Labels) (laws : Laws (labelled sizes.version l)) (keeps : Keeps l) (h : ℕ) (lt : h < hart_count) (B : List l.Step → Type 0) where
  abbrev W : Type 0
  W = Both World above.World

  abbrev M : Machine
  M = joined (labelled sizes.version l) (below sizes)

  module _ {A : Type 0} (Q : A → List l.Step → W → Type 0) (G : List l.Step → above.World → Type 0) (stable : Stable (labelled sizes.version l) (below sizes) laws (below_laws sizes l keeps) h B G)
      (n : ℕ) (changes : (fs : List l.Step) (g : above.World) → G fs g → Inv g → IsChanging h n g) (c : Carry) (o : Option Node) (d e : Dinode) (x y : Node) (b : ℕ) (old bytes numbers : List ℕ) (block : IsData sizes b)
      (long : length bytes ≡ block_len) (are : IsBytes bytes)
      -- what such a put makes of it
      (makes : (disk new : List (List ℕ)) (owner : ℕ → ℕ) → sizes_of disk ≡ sizes → IsLaidOut disk owner n d x → numbers_of disk d ≡ numbers → recovered disk b ≡ old → IsPut disk new b → recovered new b ≡ bytes → Becomes disk new owner owner n d e y)
      (Knows Then : World → Type 0) (room : KeepsRoom h b Knows Then) where
    pub s-data : (k : Unit {0} → P M A) (j : ℕ) (fs : List l.Step) (v : W) → G fs v.seen → Shows v.real v.seen → Changing h n c o d x v.real v.seen → numbers_of (disk_of (log_of v.real)) d ≡ numbers → HasBuffer h b old v.real → (log_of v.real).sizes ≡ sizes → owner_with h n v.real b ≡ n → Knows v.real
        → ((z : W) (gs : List l.Step) → PutFor h n b (G gs) c o e y Then v z → Wp M h B Q (k tt) j gs z) → Wp M h B Q (Do (Put b (Some bytes)) unmarked k) (suc j) fs v
    s-data k j fs v stage shows changing names buffer at own knows rest =
        s-put sizes l laws keeps h lt B Q G stable n b bytes k j fs v stage
        (λ u gs here.
        let r = u.real in
        let g = u.seen in
        let is = changes gs g here.stage here.inv in
        let sized : (log_of r).sizes ≡ sizes = here.same.sizes ∙ at in
        let there = changing_then h n c o d x v.real r v.seen g shows here.shows (left_same h v.real r here.same) here.kept changing in
        let disk_sizes : sizes_of (disk_of (log_of r)) ≡ sizes = (good_seen (log_of r).sizes (seen_of (log_of r)) (length (log_of r).contents) here.shows.blocks.seen).sizes_are ∙ sized in
        let was_sizes : sizes_of (disk_of (log_of v.real)) ≡ sizes = (good_seen (log_of v.real).sizes (seen_of (log_of v.real)) (length (log_of v.real).contents) shows.blocks.seen).sizes_are ∙ at in
        let own_there : owner_with h n r b ≡ n = stays_own h n b c o d x v.real r v.seen g shows here.shows (left_same h v.real r here.same) changing (subst (λ (s : Super). IsData s b) (sym was_sizes) block) own in
        let buffer_there = buffer_then h b old v.real r (here.same.buffers b) buffer in
        let data_block : IsData (sizes_of (disk_of (log_of r))) b = subst (λ (s : Super). IsData s b) (sym disk_sizes) block in
        let can : CanPut h b bytes (log_of r) = record {
          holder = buffer_there.holder;
          valid = ap (λ (z : Option (List ℕ)). is_some z) buffer_there.has;
          joined = sym (here.shows.members h lt) ∙ is.joined;
          runs = here.shows.runs;
          home = data_home r g here.shows b (subst (λ (s : Super). IsData s b) (sym sized) block);
          room = room.gives.room r (room.gives.lasts v.real r here.same knows) (sym (here.shows.members h lt) ∙ is.joined);
          long = long;
          are = are;
        } in
        let leaves = data_puts_leave h b n bytes r g here.shows is can data_block (own_or_taken h n b r own_there) in
        let put_is = disk_put h b bytes r.state here.shows.whole here.shows.blocks.seen can in
        let past : (log_of r).sizes.bmapstart < b = subst (λ (s : Super). s.bmapstart < b) (sym sized) block.0 in
        let same_owners : owners_with h b bytes r ≡ owners_of r = data_owners h b bytes r past in
        let mine : owner_with h n (world_with h b bytes r) ≡ owner_with h n r = (λ z k. if is_hart ((same_owners z).taken k) h then n else (same_owners z).owner k) in
        let becomes = makes (disk_of (log_of r)) (disk_of (log_with h b bytes r)) (owner_with h n r) disk_sizes there.laid
        (numbers_stay h n c o d x v.real r v.seen g shows here.shows (left_same h v.real r here.same) changing ∙ names)
        (old_bytes h b bytes r.state here.shows.whole here.shows.blocks.seen can ∙ buffer_seen h b old r buffer_there) put_is (put_bytes h b bytes r.state here.shows.whole here.shows.blocks.seen can) in
        record {
          changing = is;
          can = can;
          leaves = leaves;
          goes_on = λ shows_then count.
              rest (record { real = world_with h b bytes r; seen = g }) gs (record {
                changing = changed_put h n b bytes r g here.shows leaves c o d e x y there
                    (subst (λ (f : ℕ → ℕ). IsLaidOut (disk_of (log_with h b bytes r)) f n e y) (sym mine) becomes.laid)
                    (subst (λ (f : ℕ → ℕ). NamesOwned (disk_of (log_with h b bytes r)) f n (numbers_of (disk_of (log_with h b bytes r)) e)) (sym mine)
                    (subst (NamesOwned (disk_of (log_with h b bytes r)) (owner_with h n r) n) (sym becomes.numbers) (becomes.named (numbers_of (disk_of (log_of r)) d) there.named)));
                kept = here.kept;
                shows = shows_then;
                inv = here.inv;
                stage = here.stage;
                sizes_same = here.same.sizes;
                buffers = λ q ne. same_view h q (log_of r) (log_with h b bytes r) ((put_hand h b bytes (log_of r).seats can.holder).others q ne) refl ∙ here.same.buffers q;
                back = put_back b bytes (log_of r).seats (here.shows.whole.cache.once b);
                count = sym here.same.held ∙ count;
                known = room.put bytes r (room.gives.lasts v.real r here.same knows);
              });
        })
