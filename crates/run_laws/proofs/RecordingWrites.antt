-- What the programs record that write: two blocks for each block that they write to, beside the bitmap and the inode's record.
use Rattle.run_laws.proofs.Vocabulary.{◌≡◌, ◌⊎◌, ⊎_elim, inl, inr, ◌<◌, ◌≤◌, ◌+◌, ◌-◌, ◌*◌, ◌/◌, ℕ, zero, suc, ◌==◌, nat_lt, Bool, true, false, if◌then◌else◌, List, length, Option, Some, None, refl, sym, ap, ◌∙◌, subst, arith, slice_index, cases_lt, Used, Dinode, IndexState, Loaded, no_index, Super, spell_dirent, numbers_in, block_len, Cause, Name, Ret, Do, bind, unmarked, marked_by, first_clear_below, give_zeros, take_first, zero_found, slot_for, Unused, first_of, found_in, look_at, most_slots, index_raised, search, slot_count, with_entry, fetch, read_unless, Put, Address, Direct, InTable, Located, address, table_of, blocks_between, fetch_block, direct, most_blocks, WriteResult, front_of, grown, locate, locate_at, located, look_up, name_direct, name_in_table, put_part, store_written, take_one, with_address, with_table, write_blocks, write_in, write_located, write_part, store, Spent, size, with_bitmap, with_contents, with_record, EntryResult, Wrote, Enter, Fill, IsSpent, dots, enter, enter_in, entered_to, fill, filled_to, look_last, put_grown, search_full, seek_free, seek_full, Acts, acts, Carry, NoMore, loaded_in, record_in, with_index, give_written, refused_in, write_file, write_unless, many_between, none_there, record_spent, AreAtMostTen, dirent_len_of, dirents_per_block_of, new_directory_size_of, name_len_of, ◌%◌, Version}
use Rattle.std.proofs.Common.{drop}
use Rattle.image_versions.proofs.Places.{in_range, in_their_blocks, inside, new_fits}
use Rattle.inode_machine.specs.World as above
use Rattle.inodes_on_blocks.specs.Handlers.{P}
use Rattle.run_laws.proofs.Recording.{Covers, Has, Recorded, StaysSmall, Within, covers_again, covers_more, covers_named, covers_other}
use Rattle.run_laws.proofs.Recording.{either_way, ended, ended_with, from, has_still, put_has, put_on, quiet, small_bind, small_of, small_to, then_, upto}
use Rattle.run_laws.proofs.RecordingParts.{emptied, no_block, no_next, no_search, puts_named, stores_inode}
use Rattle.run_laws.proofs.SearchEnds.{dots_spelled, spelled}

-- ---- how many blocks

-- a slot's bytes are in one
slot_block : (version : Version) (slot : ℕ) → blocks_between (dirent_len_of version * slot) (dirent_len_of version * slot + dirent_len_of version) ≤ 1
slot_block version slot =
    let wide = (in_range version).2 in
    let many = many_between (dirent_len_of version * slot) (dirent_len_of version * slot + dirent_len_of version) (omega (arith, wide)) in
    let lies = in_their_blocks version slot in
    let within = inside version (slot % dirents_per_block_of version) lies.0 in
    omega (arith, wide, many, lies.1, within)

-- so are those of a new directory's two
dots_block : (version : Version) → blocks_between 0 (0 + new_directory_size_of version) ≡ 1
dots_block version =
    let wide = (in_range version).2 in
    let fits = (new_fits version).0 in
    let many = many_between 0 (0 + new_directory_size_of version) (omega (arith, wide)) in
    omega (arith, wide, fits, many)

-- and a piece's are in four
piece_blocks : (at upto : ℕ) → upto ≤ at + 3072 → blocks_between at upto ≤ 4
piece_blocks at upto short =
    ⊎_elim
    (λ (less : at < upto). let many = many_between at upto less in omega (arith, many, short, less))
    (λ (le : upto ≤ at). let none = none_there at upto le in omega (arith, none))
    (cases_lt at upto)

more_contents : (j k : ℕ) (s : Spent) → j ≤ k → NoMore (with_contents j s) (with_contents k s)
more_contents j k s le l = omega (arith, le)

no_contents : (k : ℕ) (s : Spent) → NoMore s (with_contents k s)
no_contents k s l = omega arith

twice : (j k n : ℕ) (s : Spent) → j + k ≤ n → NoMore (with_contents j (with_contents k s)) (with_contents n s)
twice j k n s le l = omega (arith, le)

module _ (sizes : Super) where
  -- a block comes into hand
  same_fetch : (b : ℕ) (o : Recorded) → AreAtMostTen o → StaysSmall o (fetch b) (λ a u. u ≡ o)
  same_fetch b o small = (small, λ _ a. read a)
    where
      read : (a : Option (List ℕ)) → StaysSmall o (read_unless b a) (λ x u. u ≡ o)
      read (Some bytes) = refl
      read None = (small, λ _ bytes. refl)

  after_fetch : {A : Type 0} (b : ℕ) (f : List ℕ → P A) (Q : A → Recorded → Type 0) (o : Recorded) → AreAtMostTen o
      → ((bytes : List ℕ) → StaysSmall o (f bytes) Q) → StaysSmall o (bind (fetch b) f) Q
  after_fetch b f Q o small rest =
      small_bind (fetch b) f (λ a u. u ≡ o) Q o (same_fetch b o small) (λ a u same. subst (λ (z : Recorded). StaysSmall z (f a) Q) (sym same) (rest a))

  -- ---- a block taken

  -- what was recorded still is
  abbrev Keeps : Recorded → Recorded → Type 0
  Keeps o u = (b : ℕ) → Has sizes b o → Has sizes b u

  abbrev CoversTaken : Spent → Option ℕ → Recorded → Type 0
  CoversTaken s None u = Covers sizes u s
  CoversTaken s (Some b) u = Covers sizes u (with_contents 1 s) × Has sizes b u

  abbrev IsTaken : Spent → Recorded → Option ℕ → Recorded → Type 0
  IsTaken s o r u = Keeps o u × CoversTaken s r u

  module _ (s : Spent) (bitmap : IsSpent sizes s sizes.bmapstart) (few : size s + 1 ≤ 10) where
    small_at : (o : Recorded) → Covers sizes o s → AreAtMostTen o
    small_at o covers = small_of sizes o s covers (omega (arith, few))

    takes_one : (o : Recorded) → Covers sizes o s → StaysSmall o (take_one sizes) (IsTaken s o)
    takes_one o covers =
        after_fetch sizes.bmapstart (take_first sizes.bmapstart sizes.size) (IsTaken s o) o (small_at o covers)
        (λ bytes. first bytes (first_clear_below sizes.size bytes))
      where
        zeros : (b : ℕ) → StaysSmall (put_on sizes sizes.bmapstart o) (zero_found (Some b)) (IsTaken s o)
        zeros b =
            let u : Recorded = put_on sizes sizes.bmapstart o in
            let known : Covers sizes u s = covers_named sizes sizes.bmapstart s o bitmap covers in
            after_fetch b (give_zeros b) (IsTaken s o) u (small_at u known)
            (λ old. (
              small_at u known,
              λ _ a. (
                λ c had. has_still sizes b c u (has_still sizes sizes.bmapstart c o had),
                (covers_other sizes b s u known, put_has sizes b u),
              ),
            ))

        first : (bytes : List ℕ) (found : Option ℕ)
            → StaysSmall o (Do (Put sizes.bmapstart (marked_by bytes found)) unmarked (λ _. zero_found found)) (IsTaken s o)
        first bytes None = (small_at o covers, λ _ a. (λ c had. had, covers))
        first bytes (Some b) = (small_at o covers, λ _ a. zeros b)

  -- ---- a block located

  -- Either it has been recorded already, or there is still one to spend.
  abbrev IsLocated : Spent → Spent → Option ℕ → Recorded → Type 0
  IsLocated full less None u = Covers sizes u full
  IsLocated full less (Some b) u = (Covers sizes u full × Has sizes b u) ⊎ Covers sizes u less

  located_upto : (f l g m : Spent) (n : Option ℕ) (u : Recorded) → NoMore f g → NoMore l m → IsLocated f l n u → IsLocated g m n u
  located_upto f l g m None u a b at = covers_more sizes f g u a at
  located_upto f l g m (Some n) u a b (inl at) = inl (covers_more sizes f g u a at.0, at.1)
  located_upto f l g m (Some n) u a b (inr at) = inr (covers_more sizes l m u b at)

  -- one of the inode's own
  locates_direct : (s : Spent) → IsSpent sizes s sizes.bmapstart → size s + 1 ≤ 10 → (i : ℕ) (d : Dinode) (o : Recorded) → Covers sizes o s
      → StaysSmall o (locate_at sizes d (Direct i)) (λ l u. IsLocated (with_contents 1 s) s l.number u)
  locates_direct s bitmap few i d o covers = by (slice_index d.addrs i == 0)
    where
      Q : Located → Recorded → Type 0
      Q l u = IsLocated (with_contents 1 s) s l.number u

      named : (r : Option ℕ) (u : Recorded) → IsTaken s o r u → StaysSmall u (name_direct i d r) Q
      named None u is = covers_more sizes s (with_contents 1 s) u (no_contents 1 s) is.1
      named (Some b) u is = inl is.1

      by : (missing : Bool)
          → StaysSmall o (if missing then bind (take_one sizes) (name_direct i d) else located d (Some (slice_index d.addrs i))) Q
      by true = small_bind (take_one sizes) (name_direct i d) (IsTaken s o) Q o (takes_one s bitmap few o covers) named
      by false = inr covers

  -- a block whose number is in the indirect block: to find it costs what it costs to record
  looks_up : (s full less : Spent) → IsSpent sizes s sizes.bmapstart → size s + 1 ≤ 10 → NoMore s full → NoMore s less
      → (i : ℕ) (d : Dinode) (table : ℕ) (bytes : List ℕ) (o : Recorded) → Covers sizes o s
      → ((u : Recorded) → Keeps o u → Covers sizes u (with_contents 1 s) → Covers sizes (put_on sizes table u) full)
      → StaysSmall o (look_up sizes i d table bytes) (λ l u. IsLocated full less l.number u)
  looks_up s full less bitmap few more as_many i d table bytes o covers cost = by (slice_index (numbers_in bytes) i == 0)
    where
      Q : Located → Recorded → Type 0
      Q l u = IsLocated full less l.number u

      named : (r : Option ℕ) (u : Recorded) → IsTaken s o r u → StaysSmall u (name_in_table i d table bytes r) Q
      named None u is = (small_of sizes u s is.1 (omega (arith, few)), λ _ a. covers_more sizes s full u more is.1)
      named (Some b) u is = (
        small_of sizes u (with_contents 1 s) is.1.0 (omega (arith, few)),
        λ _ a. inl (cost u is.0 is.1.0, has_still sizes table b u is.1.1),
      )

      by : (missing : Bool)
          → StaysSmall o (if missing then bind (take_one sizes) (name_in_table i d table bytes) else Do (Put table None) unmarked (λ _. located d (Some (slice_index (numbers_in bytes) i)))) Q
      by true = small_bind (take_one sizes) (name_in_table i d table bytes) (IsTaken s o) Q o (takes_one s bitmap few o covers) named
      by false = (small_of sizes o s covers (omega (arith, few)), λ _ a. inr (covers_more sizes s less o as_many covers))

  module _ (s : Spent) (bitmap : IsSpent sizes s sizes.bmapstart) (few : size s + 2 ≤ 10) where
    abbrev IsAt : Located → Recorded → Type 0
    IsAt l u = IsLocated (with_contents 2 s) (with_contents 1 s) l.number u

    small_with : (o : Recorded) (j : ℕ) → j ≤ 2 → Covers sizes o (with_contents j s) → AreAtMostTen o
    small_with o j le covers = small_of sizes o (with_contents j s) covers (omega (arith, few, le))

    -- the indirect block was taken just before
    tables : (i : ℕ) (d : Dinode) (o : Recorded) (r : Option ℕ) (u : Recorded) → IsTaken s o r u → StaysSmall u (with_table sizes i d r) IsAt
    tables i d o None u is = covers_more sizes s (with_contents 2 s) u (no_contents 2 s) is.1
    tables i d o (Some table) u is =
        after_fetch table (look_up sizes i (with_address direct table d) table) IsAt u (small_with u 1 (omega arith) is.1.0)
        (λ bytes. looks_up (with_contents 1 s) (with_contents 2 s) (with_contents 1 s) bitmap (omega (arith, few)) (more_contents 1 2 s (omega arith))
        (λ l. omega arith) i (with_address direct table d) table bytes u is.1.0
        (λ v keeps covers. covers_again sizes table (with_contents 2 s) v (keeps table is.1.1)
        (covers_more sizes (with_contents 1 (with_contents 1 s)) (with_contents 2 s) v (twice 1 1 2 s (omega arith)) covers)))

    locates_at : (d : Dinode) (a : Address) (o : Recorded) → Covers sizes o s → StaysSmall o (locate_at sizes d a) IsAt
    locates_at d (Direct i) o covers =
        small_to (locate_at sizes d (Direct i)) (λ l u. IsLocated (with_contents 1 s) s l.number u) IsAt o
        (locates_direct s bitmap (omega (arith, few)) i d o covers)
        (λ l u at. located_upto (with_contents 1 s) s (with_contents 2 s) (with_contents 1 s) l.number u (more_contents 1 2 s (omega arith)) (no_contents 1 s) at)
    locates_at d (InTable i) o covers = by (table_of d == 0)
      where
        found : (bytes : List ℕ) → StaysSmall o (look_up sizes i d (table_of d) bytes) IsAt
        found bytes =
            looks_up s (with_contents 2 s) (with_contents 1 s) bitmap (omega (arith, few)) (no_contents 2 s) (no_contents 1 s) i d (table_of d) bytes o covers
            (λ v keeps known. covers_more sizes (with_contents 1 (with_contents 1 s)) (with_contents 2 s) (put_on sizes (table_of d) v) (twice 1 1 2 s (omega arith))
            (covers_other sizes (table_of d) (with_contents 1 s) v known))

        by : (missing : Bool)
            → StaysSmall o (if missing then bind (take_one sizes) (with_table sizes i d) else bind (fetch (table_of d)) (look_up sizes i d (table_of d))) IsAt
        by true = small_bind (take_one sizes) (with_table sizes i d) (IsTaken s o) IsAt o (takes_one s bitmap (omega (arith, few)) o covers) (tables i d o)
        by false = after_fetch (table_of d) (look_up sizes i d (table_of d)) IsAt o (small_of sizes o s covers (omega (arith, few))) found

  -- ---- blocks written

  -- a block that was located is written, and then the ones after it
  writes_at : (full less t : Spent) → size full ≤ 10 → NoMore less full → NoMore full t → NoMore (with_contents 1 less) full
      → (more : Dinode → P WriteResult) → ((x : Dinode) → Within sizes full (more x) t)
      → (at : ℕ) (bytes : List ℕ) (x : Dinode) (n : Option ℕ) (u : Recorded) → IsLocated full less n u
      → StaysSmall u (write_in more at bytes x n) (λ w v. Covers sizes v t)
  writes_at full less t few small up one more rest at bytes x None u is = covers_more sizes full t u up is
  writes_at full less t few small up one more rest at bytes x (Some b) u is =
      after_fetch b (put_part (more x) b at bytes) (λ w v. Covers sizes v t) u (small_of sizes u full (covers is) few)
      (λ block. (small_of sizes u full (covers is) few, λ _ a. (rest x).stays (put_on sizes b u) (put is)))
    where
      covers : (Covers sizes u full × Has sizes b u) ⊎ Covers sizes u less → Covers sizes u full
      covers (inl p) = p.0
      covers (inr p) = covers_more sizes less full u small p

      put : (Covers sizes u full × Has sizes b u) ⊎ Covers sizes u less → Covers sizes (put_on sizes b u) full
      put (inl p) = covers_again sizes b full u p.1 p.0
      put (inr p) = covers_more sizes (with_contents 1 less) full (put_on sizes b u) one (covers_other sizes b less u p)

  writes_blocks : (k : ℕ) (at : ℕ) (bytes : List ℕ) (d : Dinode) (s : Spent) → IsSpent sizes s sizes.bmapstart → size s + 2 * k ≤ 10
      → Within sizes s (write_blocks k sizes at bytes d) (with_contents (2 * k) s)
  unfolding write_blocks
  writes_blocks zero at bytes d s bitmap few = ended_with sizes (no_contents 0 s)
  writes_blocks (suc k) at bytes d s bitmap few = record {
    stays = λ o covers.
        small_bind (locate sizes d (at / block_len)) (write_located more at bytes) (λ l u. IsLocated (with_contents 2 s) (with_contents 1 s) l.number u)
        (λ w v. Covers sizes v (with_contents (2 * suc k) s)) o (locates_at s bitmap (omega (arith, few)) d (address (at / block_len)) o covers)
        (λ l u is. writes_at (with_contents 2 s) (with_contents 1 s) (with_contents (2 * suc k) s) (omega (arith, few)) (more_contents 1 2 s (omega arith))
        (more_contents 2 (2 * suc k) s (omega arith)) (twice 1 1 2 s (omega arith)) more
        (rest (λ to bs x. writes_blocks k to bs x (with_contents 2 s) bitmap (omega (arith, few)))) at bytes l.inode l.number u is);
  }
    where
      more : Dinode → P WriteResult
      more = write_blocks k sizes (at + length (front_of at bytes)) (drop (length (front_of at bytes)) bytes)

      rest : ((to : ℕ) (bs : List ℕ) (x : Dinode) → Within sizes (with_contents 2 s) (write_blocks k sizes to bs x) (with_contents (2 * k) (with_contents 2 s)))
          → (x : Dinode) → Within sizes (with_contents 2 s) (more x) (with_contents (2 * suc k) s)
      rest again x =
          upto sizes (more x) (twice (2 * k) 2 (2 * suc k) s (omega arith))
          (again (at + length (front_of at bytes)) (drop (length (front_of at bytes)) bytes) x)

  -- two blocks for each of n at most
  writes_few : (k n : ℕ) (at : ℕ) (bytes : List ℕ) (d : Dinode) (s : Spent) → IsSpent sizes s sizes.bmapstart → k ≤ n → size s + 2 * n ≤ 10
      → Within sizes s (write_blocks k sizes at bytes d) (with_contents (2 * n) s)
  writes_few k n at bytes d s bitmap le few =
      upto sizes (write_blocks k sizes at bytes d) (more_contents (2 * k) (2 * n) s (omega (arith, le)))
      (writes_blocks k at bytes d s bitmap (omega (arith, le, few)))

  -- the first block alone
  writes_first : (bytes : List ℕ) (d : Dinode) (s : Spent) → IsSpent sizes s sizes.bmapstart → size s + 1 ≤ 10
      → Within sizes s (write_blocks 1 sizes 0 bytes d) (with_contents 1 s)
  unfolding write_blocks
  writes_first bytes d s bitmap few = record {
    stays = λ o covers.
        small_bind (locate_at sizes d (Direct 0)) (write_located more 0 bytes) (λ l u. IsLocated (with_contents 1 s) s l.number u)
        (λ w v. Covers sizes v (with_contents 1 s)) o (locates_direct s bitmap few 0 d o covers)
        (λ l u is. writes_at (with_contents 1 s) s (with_contents 1 s) (omega (arith, few)) (no_contents 1 s) (λ l. omega arith) (λ l. omega arith) more
        (λ x. ended sizes) 0 bytes l.inode l.number u is);
  }
    where
      more : Dinode → P WriteResult
      more = write_blocks 0 sizes (0 + length (front_of 0 bytes)) (drop (length (front_of 0 bytes)) bytes)

  -- ---- a name entered, and the two of a new directory

  module _ (op : above.Op) (m : above.Answer op → Option above.Mark) (n : ℕ) (c : Carry) (k : ℕ) (s : Spent) where
    abbrev with_both : Spent
    with_both = with_contents k (with_record n (with_bitmap s))

    grows : (outside : above.Outside) (answer : above.Answer op) (x : IndexState) (w : WriteResult) → size (with_contents k (with_record n (with_bitmap s))) ≤ 10
        → Within sizes with_both (put_grown op outside m answer sizes n c x w) with_both
    grows outside answer x w few =
        puts_named sizes with_both few op outside m answer n (record { inode = grown w; index = x }) c (record_spent sizes n (with_contents k (with_bitmap s)))

  module _ (s : Spent) (few : size s ≤ 10) where
    no_full : (mark : Option Acts) (n : ℕ) (d : Dinode) (k : ℕ) (x : IndexState) → Within sizes s (search_full sizes.version mark n d k x) s
    unfolding search_full
    no_full mark zero d k x =
        then_ sizes (fetch_block d k) (look_last sizes.version mark d k x) (no_block sizes s few d k) (λ f. quiet sizes few (λ a o. refl) (λ a. ended sizes))
    no_full mark (suc n) d k x =
        then_ sizes (fetch_block d k) (look_at sizes.version Unused d k x (search_full sizes.version mark n d (k + 1))) (no_block sizes s few d k)
        (λ f. quiet sizes few (λ a o. refl)
        (λ a. no_next sizes s few (found_in sizes.version Unused d k f.bytes) (index_raised sizes.version d k f.bytes x) (search_full sizes.version mark n d (k + 1))
        (no_full mark n d (k + 1))))

    no_seek : (mark : Option Acts) (l : Loaded) → Within sizes s (seek_free sizes.version mark l) s
    no_seek mark l =
        either_way sizes (nat_lt (slot_count sizes.version l.inode) (most_slots sizes.version)) (search sizes.version Unused l) (seek_full sizes.version mark l)
        (no_search sizes s few Unused l)
        (no_next sizes s few (first_of sizes.version Unused l.inode l.index) l.index
        (search_full sizes.version mark (most_blocks - 1 - l.index.blocks) l.inode l.index.blocks)
        (no_full mark (most_blocks - 1 - l.index.blocks) l.inode l.index.blocks))

  pub enters : (d : ℕ) (e : Name) (n : ℕ) (c : Carry) (m : EntryResult → Option above.Mark) (s : Spent) → length e ≤ name_len_of sizes.version
      → size (with_record d (with_bitmap (with_contents 2 s))) ≤ 10
      → Within sizes s (enter sizes d e n c m) (with_record d (with_bitmap (with_contents 2 s)))
  enters d e n c m s short few =
      from sizes (emptied sizes d s)
      (then_ sizes (seek_free sizes.version (acts (Enter d e n) above.Room m) (loaded_in c d))
      (λ o. enter_in sizes d e n c m o.index (slot_for sizes.version (record_in c d) o.found))
      (no_seek b less (acts (Enter d e n) above.Room m) (loaded_in c d)) (λ o. entered o.index (slot_for sizes.version (record_in c d) o.found)))
    where
      b : Spent
      b = with_record d (with_bitmap s)

      less : size (with_record d (with_bitmap s)) ≤ 10
      less = omega (arith, few)

      bytes : List ℕ
      bytes = spell_dirent sizes.version (Used n e)

      put : (x : IndexState) (slot : ℕ) (w : WriteResult) → Within sizes (with_contents 2 b) (entered_to sizes d e n c m x slot w) (with_contents 2 b)
      put x slot w =
          let y : IndexState = with_entry sizes.version slot (spell_dirent sizes.version (Used n e)) x in
          either_way sizes (w.upto == dirent_len_of sizes.version * (slot + 1)) (put_grown (Enter d e n) above.Room m above.InPlace sizes d c y w)
          (put_grown (Enter d e n) (above.RoomFor 0) m above.NoBlock sizes d c x w)
          (grows (Enter d e n) m d c 2 s above.Room above.InPlace y w few) (grows (Enter d e n) m d c 2 s (above.RoomFor 0) above.NoBlock x w few)

      count : (slot : ℕ) → blocks_between (dirent_len_of sizes.version * slot) (dirent_len_of sizes.version * slot + length (spell_dirent sizes.version (Used n e))) ≤ 1
      count slot = subst (λ (k : ℕ). blocks_between (dirent_len_of sizes.version * slot) (dirent_len_of sizes.version * slot + k) ≤ 1)
          (sym (spelled sizes.version n e short)) (slot_block sizes.version slot)

      entered : (x : IndexState) (slot : ℕ) → Within sizes b (enter_in sizes d e n c m x slot) (with_contents 2 b)
      entered x slot =
          either_way sizes (nat_lt slot (most_slots sizes.version))
          (bind (write_blocks (blocks_between (dirent_len_of sizes.version * slot) (dirent_len_of sizes.version * slot + length bytes)) sizes (dirent_len_of sizes.version * slot) bytes (record_in c d)) (entered_to sizes d e n c m x slot))
          (Ret (record { answer = above.NoSlot; carry = with_index c d x }))
          (then_ sizes (write_blocks (blocks_between (dirent_len_of sizes.version * slot) (dirent_len_of sizes.version * slot + length bytes)) sizes (dirent_len_of sizes.version * slot) bytes (record_in c d)) (entered_to sizes d e n c m x slot)
          (writes_few (blocks_between (dirent_len_of sizes.version * slot) (dirent_len_of sizes.version * slot + length bytes)) 1 (dirent_len_of sizes.version * slot) bytes (record_in c d) b (inr (refl, refl)) (count slot) (omega (arith, few)))
          (λ w. put x slot w))
          (ended_with sizes (no_contents 2 b))

  pub fills : (n d : ℕ) (c : Carry) (m : Bool → Option above.Mark) (s : Spent) → size (with_record n (with_bitmap (with_contents 1 s))) ≤ 10
      → Within sizes s (fill sizes n d c m) (with_record n (with_bitmap (with_contents 1 s)))
  fills n d c m s few =
      from sizes (emptied sizes n s)
      (then_ sizes (write_blocks (blocks_between 0 (0 + length (dots sizes.version n d))) sizes 0 (dots sizes.version n d) (record_in c n)) (filled_to sizes n d c m)
      (subst (λ (k : ℕ). Within sizes b (write_blocks k sizes 0 (dots sizes.version n d) (record_in c n)) (with_contents 1 b)) (sym one)
      (writes_first (dots sizes.version n d) (record_in c n) b (inr (refl, refl)) (omega (arith, few))))
      (λ w. put w))
    where
      b : Spent
      b = with_record n (with_bitmap s)

      one : blocks_between 0 (0 + length (dots sizes.version n d)) ≡ 1
      one = ap (λ (k : ℕ). blocks_between 0 (0 + k)) (dots_spelled sizes.version n d) ∙ dots_block sizes.version

      put : (w : WriteResult) → Within sizes (with_contents 1 b) (filled_to sizes n d c m w) (with_contents 1 b)
      put w =
          either_way sizes (w.upto == new_directory_size_of sizes.version) (put_grown (Fill n d) above.Room m true sizes n c no_index w) (put_grown (Fill n d) (above.RoomFor 0) m false sizes n c no_index w)
          (grows (Fill n d) m n c 1 s above.Room true no_index w few) (grows (Fill n d) m n c 1 s (above.RoomFor 0) false no_index w few)

  -- ---- a piece of a file

  -- By the text each block may come with an indirect block of its own.
  pub writes_piece : (fd n offset : ℕ) (bytes : List ℕ) (c : Carry) (m : Wrote → Option above.Mark) (s : Spent) → length bytes ≤ 3072
      → size (with_record n (with_bitmap (with_contents 8 s))) ≤ 10
      → Within sizes s (write_file sizes fd n offset bytes c m) (with_record n (with_bitmap (with_contents 8 s)))
  writes_piece fd n offset bytes c m s short few = unless (refused_in (record_in c n) offset bytes)
    where
      b : Spent
      b = with_record n (with_bitmap s)

      d : Dinode
      d = record_in c n

      count : ℕ
      count = blocks_between offset (offset + length bytes)

      all : NoMore s (with_record n (with_bitmap (with_contents 8 s)))
      all l = let x = emptied sizes n s l in omega (arith, x)

      stored : (w : WriteResult) → Within sizes (with_contents 8 b) (store_written sizes n w) (with_contents 8 b)
      stored w =
          then_ sizes (store sizes.inodestart n (grown w)) (λ _. Ret (record { inode = grown w; upto = w.upto }))
          (stores_inode sizes (with_contents 8 b) few n (grown w) (record_spent sizes n (with_contents 8 (with_bitmap s)))) (λ _. ended sizes)

      unless : (o : Option Cause) → Within sizes s (write_unless sizes fd n offset bytes m c o) (with_contents 8 b)
      unless (Some why) = from sizes all (quiet sizes few (λ a o. refl) (λ a. ended sizes))
      unless None =
          from sizes (emptied sizes n s)
          (then_ sizes (write_part sizes n d offset bytes) (give_written fd n offset bytes m c)
          (then_ sizes (write_blocks count sizes offset bytes d) (store_written sizes n)
          (writes_few count 4 offset bytes d b (inr (refl, refl)) (piece_blocks offset (offset + length bytes) (omega (arith, short))) (omega (arith, few))) stored)
          (λ w. quiet sizes few (λ a o. refl) (λ a. ended sizes)))
