-- A hart that is changing the inode writes a part of a content into its next block, which is found or taken for it.
-- Nothing of it is seen above.
use Rattle.inodes_on_blocks.proofs.Vocabulary.{◌≡◌, ◌≢◌, ℕ, suc, ◌+◌, ◌-◌, ◌%◌, ◌<◌, ◌≤◌, nat_lt, Bool, true, false, List, length, length-take, Option, Some, None, sym, ◌∙◌, ap, subst, arith, if◌then◌else◌, Dinode, Super, IsBytes, length-overwrite, IsData, numbers_of, block_number, IsOwned, NamesOwned, IsLaidOut, Becomes, Node, hart_count, bind, Machine, Laws, P, Wp, Both, joined, Stable, bind-assoc, Wp-more, fetch, seen_of, Located, table_of, WriteResult, front_of, with_part, put_part, write_in, write_located, locate, Spent, size, with_number as with_block, most_recorded, Inv, World, log_of, disk_of, KeepsRoom, world_with, Kept, Carry, below, Labels, labelled, Keeps, IsChanging, log_with, Shows, block_len, direct, most_blocks}
use Rattle.inodes_on_blocks.proofs.Basics.{at_index, good_seen, HasBlocks, extra, number_new, block_room, s-fetch, below_laws, empty_hand, overwrite_bytes, take_bytes}
use Rattle.inode_machine.specs.World as above
use Rattle.inodes_on_blocks.proofs.Changing.{owner_with, LeftTo, Changing, left_but, changing_then, changed_put, numbers_stay}
use Rattle.inodes_on_blocks.proofs.DataPuts.{data_home}
use Rattle.inodes_on_blocks.proofs.LocateSteps.{Between, Fits, Found, locate_steps, s-locate}
use Rattle.inodes_on_blocks.proofs.NumberPuts.{sized}
use Rattle.inodes_on_blocks.proofs.OwnPuts.{IsOwnPut, s-own}

-- ---- bytes

part_fits : (at : ℕ) (bytes : List ℕ) → at % block_len + length (front_of at bytes) ≤ block_len
part_fits at bytes = let part = length-take (block_len - at % block_len) bytes in omega (arith, part)

part_long : (at : ℕ) (bytes block : List ℕ) → length block ≡ block_len → length (with_part at bytes block) ≡ block_len
part_long at bytes block long = length-overwrite block (front_of at bytes) (at % block_len) (let fits = part_fits at bytes in omega (arith, long, fits)) ∙ long

part_bytes : (at : ℕ) (bytes block : List ℕ) → IsBytes bytes → IsBytes block → IsBytes (with_part at bytes block)
part_bytes at bytes block are old =
    overwrite_bytes block (front_of at bytes) (at % block_len) old (take_bytes (block_len - at % block_len) bytes are)

-- What such a put makes of the inode, whose block k it is: it is laid out for node y then, with size e.
abbrev pub MakesPart : Super → (h n k z e at : ℕ) → List ℕ → Carry → Option Node → (x y : Node) → Type 0
MakesPart sizes h n k z e at bytes c o x y =
    (d : Dinode) (b : ℕ) (old : List ℕ) (r : World) (g : above.World) → (log_of r).sizes ≡ sizes → Shows r g → Changing h n c o (sized z d) x r g → b ≢ 0 → block_number (numbers_of (disk_of (log_of r)) (sized z d)) k ≡ b → length old ≡ block_len → IsBytes old
    → IsOwnPut h n b old (with_part at bytes old) r
    → Becomes (disk_of (log_of r)) (disk_of (log_with h b (with_part at bytes old) r)) (owner_with h n r) (owner_with h n r) n (sized z d) (sized e d) y

module _ (sizes : Super) (l : Labels) (laws : Laws (labelled sizes.version l)) (keeps : Keeps l) (h : ℕ) (lt : h < hart_count) (B : List l.Step → Type 0) where
  abbrev W : Type 0
  W = Both World above.World

  abbrev M : Machine
  M = joined (labelled sizes.version l) (below sizes)

  module _ {A : Type 0} (Q : A → List l.Step → W → Type 0) (G : List l.Step → above.World → Type 0) (stable : Stable (labelled sizes.version l) (below sizes) laws (below_laws sizes l keeps) h B G)
      (n : ℕ) (changes : (fs : List l.Step) (g : above.World) → G fs g → Inv g → IsChanging h n g) (c : Carry) (o : Option Node) (x y : Node) (s : Spent) (bitmap : s.bitmap ≡ true) (far : Bool) (k z e was most : ℕ) (small : size s + most < most_recorded)
      (at : ℕ) (bytes : List ℕ) (are : IsBytes bytes) (makes : MakesPart sizes h n k z e at bytes c o x y) (more : Dinode → P M WriteResult) (f : WriteResult → P M A) (j : ℕ)
      -- how it goes on: no block was free, or the part was written
      (lacks : (d : Dinode) (bs : List ℕ) (v : W) (fs : List l.Step) → Between sizes h n (G fs) c o (sized z d) x (HasBlocks sizes h s bs) v → Fits was d → length bs ≤ most → Wp M h B Q (f (record { inode = d; upto = at })) j fs v)
      (goes : (d : Dinode) (bs : List ℕ) (v : W) (fs : List l.Step) → Between sizes h n (G fs) c o (sized e d) y (HasBlocks sizes h s bs) v → Fits was d → length bs + extra far bs (table_of d) ≤ suc most → Wp M h B Q (bind (more d) f) j fs v) where
    abbrev rest : Located → P M A
    rest a = bind (write_located more at bytes a) f

    -- the block is there
    module _ (d : Dinode) (fits : Fits was d) (b : ℕ) (bs : List ℕ) (some : b ≢ 0) (cost : length (with_block bs b) + extra far (with_block bs b) (table_of d) ≤ suc most)
        (v : W) (fs : List l.Step) (there : Between sizes h n (G fs) c o (sized z d) x (HasBlocks sizes h s bs) v) (number : block_number (numbers_of (disk_of (log_of v.real)) (sized z d)) k ≡ b) where
      -- what is known until the put
      abbrev Known : World → above.World → Type 0
      Known r g = Changing h n c o (sized z d) x r g × (block_number (numbers_of (disk_of (log_of r)) (sized z d)) k ≡ b) × ((log_of r).sizes ≡ sizes)

      known_stays : (u w : World) (g i : above.World) → Shows u g → Shows w i → LeftTo h u w → Kept h g i → Known u g → Known w i
      known_stays u w g i shows shows_then left kept is = (
        changing_then h n c o (sized z d) x u w g i shows shows_then left kept is.0,
        ap (λ (ns : List ℕ). block_number ns k) (numbers_stay h n c o (sized z d) x u w g i shows shows_then left is.0) ∙ is.1,
        left.sizes ∙ is.2,
      )

      owned : (r : World) (g : above.World) → Known r g → IsOwned (disk_of (log_of r)) (owner_with h n r) n b
      owned r g is =
          subst (λ (q : ℕ). IsOwned (disk_of (log_of r)) (owner_with h n r) n q) is.1
          (at_index (IsOwned (disk_of (log_of r)) (owner_with h n r) n) (numbers_of (disk_of (log_of r)) (sized z d)) (if nat_lt k direct then k else k + 1) is.0.laid.owned (λ q. some (sym is.1 ∙ q)))

      block : IsData sizes b
      block =
          subst (λ (q : Super). IsData q b) ((good_seen (log_of v.real).sizes (seen_of (log_of v.real)) (length (log_of v.real).contents) there.shows.blocks.seen).sizes_are ∙ there.at)
          (owned v.real v.seen (there.changing, number, there.at)).block

      room : KeepsRoom h b (HasBlocks sizes h s bs) (HasBlocks sizes h s (with_block bs b))
      room = block_room sizes h b s bs (λ isnt. let new = number_new bs b isnt in omega (arith, new, cost, small))

      put_then : (old : List ℕ) → length old ≡ block_len → IsBytes old → (r : World) (g : above.World) → Shows r g → Known r g → IsOwnPut h n b old (with_part at bytes old) r → Changing h n c o (sized e d) y (world_with h b (with_part at bytes old) r) g
      put_then old long bytes_are r g shows is made =
          let now = with_part at bytes old in
          let becomes = makes d b old r g is.2 shows is.0 some is.1 long bytes_are made in
          changed_put h n b now r g shows made.leaves c o (sized z d) (sized e d) x y is.0
          (subst (λ (q : ℕ → ℕ). IsLaidOut (disk_of (log_with h b now r)) q n (sized e d) y) (sym made.owners) becomes.laid)
          (subst (λ (q : ℕ → ℕ). NamesOwned (disk_of (log_with h b now r)) q n (numbers_of (disk_of (log_with h b now r)) (sized e d))) (sym made.owners)
          (subst (NamesOwned (disk_of (log_with h b now r)) (owner_with h n r) n) (sym becomes.numbers) (becomes.named (numbers_of (disk_of (log_of r)) (sized z d)) is.0.named)))

      writes : Wp M h B Q (bind (bind (fetch b) (put_part (more d) b at bytes)) f) (suc (suc (suc j))) fs v
      writes =
          subst (λ (p : P M A). Wp M h B Q p (suc (suc (suc j))) fs v) (sym (bind-assoc (fetch b) (put_part (more d) b at bytes) f))
          (s-fetch sizes l laws keeps h lt B Q G stable b (λ old. bind (put_part (more d) b at bytes old) f) (suc j) fs v there.stage (let none = there.none in omega (arith, none))
          (λ u gs here. let home = data_home u.real u.seen here.shows b (subst (λ (q : Super). IsData q b) (sym (here.same.sizes ∙ there.at)) block) in (home.outside, home.sized)) (empty_hand h b v.real there.none)
          (λ u gs got.
          let sized_ = got.since.sizes ∙ there.at in
          let home = data_home u.real u.seen got.shows b (subst (λ (q : Super). IsData q b) (sym sized_) block) in
          let old = seen_of (log_of u.real) b in
          let long : length old ≡ block_len = got.shows.blocks.seen.whole b home.within home.outside in
          s-own sizes l laws keeps h lt B Q G stable n changes Known (λ r g. Changing h n c o (sized e d) y r g) known_stays b old (with_part at bytes old) block (part_long at bytes old long) (part_bytes at bytes old are (got.shows.bytes b home.within home.outside))
          (λ r g is. (owned r g is).owner_is) (λ r g shows is made. put_then old long (got.shows.bytes b home.within home.outside) r g shows is made) (HasBlocks sizes h s bs) (HasBlocks sizes h s (with_block bs b)) room
          (λ _. bind (more d) f) j gs u got.stage got.shows (known_stays v.real u.real v.seen u.seen there.shows got.shows (left_but h b v.real u.real got.since) got.kept (there.changing, number, there.at)) got.buffer sized_ (room.gives.fetched b v.real u.real got.since there.known)
          (λ w hs done.
          goes d (with_block bs b) w hs
          (record {
            changing = done.after;
            shows = done.shows;
            stage = done.stage;
            none = (let up = got.count in let down = done.count in let zero_ = there.none in omega (arith, up, down, zero_));
            at = done.sizes_same ∙ sized_;
            known = done.known;
          })
          fits cost)))

    -- it was found, or there is none
    found : (d : Dinode) (number : Option ℕ) (v : W) (fs : List l.Step) → Found sizes h n (G fs) c o x s far k z was most (record { inode = d; number = number }) v → Wp M h B Q (bind (write_in more at bytes d number) f) (suc (suc (suc j))) fs v
    found d None v fs is = Wp-more M h (f (record { inode = d; upto = at })) B Q j (suc (suc (suc j))) fs v (omega arith) (lacks d is.after v fs is.between is.fits is.is)
    found d (Some b) v fs is = writes d is.fits b is.after is.is.0 is.is.2 v fs is.between is.is.1

    pub s-part : (d : Dinode) (fits : Fits was d) (bs : List ℕ) (low : k < most_blocks) (cost : length bs + extra far bs (table_of d) ≤ most) (w : W) (es : List l.Step) → Between sizes h n (G es) c o (sized z d) x (HasBlocks sizes h s bs) w → (far ≡ false → k < direct)
        → Wp M h B Q (bind (bind (locate sizes d k) (write_located more at bytes)) f) (locate_steps far (suc (suc (suc j)))) es w
    s-part d fits bs low cost w es start near =
        subst (λ (p : P M A). Wp M h B Q p (locate_steps far (suc (suc (suc j)))) es w) (sym (bind-assoc (locate sizes d k) (write_located more at bytes) f))
        (s-locate sizes l laws keeps h lt B Q G stable n changes c o x s bitmap far k z was most small rest (suc (suc (suc j))) (λ a v fs is. found a.inode a.number v fs is) d fits bs low cost w es start near)
