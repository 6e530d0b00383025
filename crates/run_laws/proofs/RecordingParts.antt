-- What the programs of most operations record: what the operations spend.
use Rattle.run_laws.proofs.Vocabulary.{◌≤◌, inr, ℕ, zero, suc, ◌+◌, ◌/◌, ◌==◌, Bool, true, false, not, ◌-◌, pos, List, [], ◌∷◌, Option, Some, None, refl, arith, is_some, slice_index, take, Dinode, IndexState, Loaded, Super, numbers_in, block_len, dirents_per_block_of, Name, same_name, AfterLeave, Commits, Ret, bind, Handover, LockedState, Locks, ClaimedState as ClaimResult, Claims, HasNoPlace as NoPlace, NoInode, fetch, read_unless, commit_unless, commits, most_writes, after_leave, free_block, clear_bit, inode_blocks, give_back, inode_block, load_unless, put_inode, store as store_inode, address, table_of, free_numbers, free_table, free_in_table, free_indirect, freed, without_content, FilledMemory, blocks_between, end_of, fetch_at, fetch_block, fetch_named, fetch_number, filled_with, give_fetched, next_block, part_of, read_blocks, read_from, read_part, direct, Address, Direct, InTable, Aim, Named, block_count, found_in, is_directory, is_live_directory, look_at, lookup, or_next, search, search_from, with_slot, Found, Searched, cleared, first_of, index_raised, Spent, size, with_bitmap, with_contents, with_record, AtEntries, AtName, AtNothing, Query, Sight, InodeType, IsSpent, empty, free, give_content, file_locked, give_read, read_file, with_file, Apart, Carry, Emptied, Finds, Had, Has, NothingMore, Opened, claim_at, claim_from, claim_in, clear, clear_in, clear_slot, put_named, slot_found, slot_of, learned, looked, number_found, search_entries, seen_record, stat_file, stat_loaded, stat_locked, take_inode, put_record, index_in, record_in, NoMore, bitmap_no_more, record_no_more, record_spent, kind_of}
use Rattle.group_log.specs.declared.log.AfterLeave.TheVariants.{Free}
use Rattle.fs_machine.specs.Inodes.{Refuses}
use Rattle.directory.specs.Programs.{Entry}
use Rattle.inode_machine.specs.World as above
use Rattle.inodes_on_blocks.specs.Files.{lock_file, lock_open}
use Rattle.inodes_on_blocks.specs.Handlers.{P}
use Rattle.inodes_on_blocks.specs.Storing.{store}
use Rattle.run_laws.proofs.Recording.{Within, either_way, ended, ended_with, from, quiet, records, records_one, then_}

one_more : (s : Spent) → NoMore s (with_contents 1 s)
one_more s l = omega arith

module _ (sizes : Super) where
  -- ---- what records nothing

  module _ (s : Spent) (few : size s ≤ 10) where
    abbrev pub Nothing : {A : Type 0} → P A → Type 0
    Nothing p = Within sizes s p s

    pub no_fetch : (b : ℕ) → Nothing (fetch b)
    no_fetch b = quiet sizes few (λ a o. refl) read
      where
        read : (o : Option (List ℕ)) → Nothing (read_unless b o)
        read (Some bytes) = ended sizes
        read None = quiet sizes few (λ a o. refl) (λ bytes. ended sizes)

    pub no_load : (inodestart n : ℕ) (content : Option Loaded) → Nothing (load_unless inodestart n content)
    no_load inodestart n (Some l) = ended sizes
    no_load inodestart n None =
        then_ sizes (fetch (inode_block inodestart n)) (give_back (inode_block inodestart n) n) (no_fetch (inode_block inodestart n))
        (λ bytes. quiet sizes few (λ a o. refl) (λ a. ended sizes))

    no_number : (b : ℕ) → Nothing (fetch_number b)
    no_number b = then_ sizes (fetch b) (give_fetched b) (no_fetch b) (λ bytes. ended sizes)

    no_at : (d : Dinode) (a : Address) → Nothing (fetch_at d a)
    no_at d (Direct i) = no_number (slice_index d.addrs i)
    no_at d (InTable i) =
        then_ sizes (fetch (table_of d)) (fetch_named (table_of d) i) (no_fetch (table_of d))
        (λ bytes. quiet sizes few (λ a o. refl) (λ a. no_number (slice_index (numbers_in bytes) i)))

    pub no_block : (d : Dinode) (k : ℕ) → Nothing (fetch_block d k)
    no_block d k = no_at d (address k)

    pub no_next : (o : Option Found) (x : IndexState) (next : IndexState → P Searched) → ((y : IndexState) → Nothing (next y)) → Nothing (or_next o x next)
    no_next (Some f) x next rec = ended sizes
    no_next None x next rec = rec x

    no_blocks : (n : ℕ) (aim : Aim) (d : Dinode) (k : ℕ) (x : IndexState) → Nothing (search_from sizes.version n aim d k x)
    unfolding search_from
    no_blocks zero aim d k x = ended sizes
    no_blocks (suc n) aim d k x =
        then_ sizes (fetch_block d k) (look_at sizes.version aim d k x (search_from sizes.version n aim d (k + 1))) (no_block d k)
        (λ f. quiet sizes few (λ a o. refl)
        (λ a. no_next (found_in sizes.version aim d k f.bytes) (index_raised sizes.version d k f.bytes x) (search_from sizes.version n aim d (k + 1))
        (no_blocks n aim d (k + 1))))

    pub no_search : (aim : Aim) (l : Loaded) → Nothing (search sizes.version aim l)
    no_search aim l =
        no_next (first_of sizes.version aim l.inode l.index) l.index
        (search_from sizes.version (block_count sizes.version l.inode - l.index.blocks) aim l.inode l.index.blocks)
        (no_blocks (block_count sizes.version l.inode - l.index.blocks) aim l.inode l.index.blocks)

    -- the slot of a name sought
    no_sought : (l : Loaded) (e : Name) → Nothing (bind (search sizes.version (Named e) l) slot_found)
    no_sought l e = then_ sizes (search sizes.version (Named e) l) slot_found (no_search (Named e) l) (λ o. ended sizes)

    no_slot_of : (had : Had) (e : Name) → Nothing (slot_of sizes.version had e)
    no_slot_of Apart e = ended sizes
    no_slot_of (Has l NothingMore) e = no_sought l e
    no_slot_of (Has l (Finds name k)) e =
        either_way sizes (same_name name e) (Ret (k, l.index)) (bind (search sizes.version (Named e) l) slot_found) (ended sizes) (no_sought l e)
    no_slot_of (Has l (Opened fd offset)) e = no_sought l e
    no_slot_of Emptied e = ended sizes

    no_looked : (looking : Query) (c : Carry) (n : ℕ) (l : Loaded) → Nothing (looked sizes.version looking c n l)
    no_looked AtNothing c n l = ended sizes
    no_looked (AtName e) c n l =
        then_ sizes (lookup sizes.version e l) (λ o. seen_record c n (record l { index = o.index }) (learned e o.found) (number_found o.found) true)
        (either_way sizes (is_live_directory l.inode) (search sizes.version (Named e) l) (Ret (record { found = None; index = l.index })) (no_search (Named e) l)
        (ended sizes))
        (λ o. ended sizes)
    no_looked AtEntries c n l =
        then_ sizes (search_entries sizes.version l) (λ o. seen_record c n (record l { index = o.index }) NothingMore None (not (is_some o.found)))
        (either_way sizes (is_directory l.inode) (search sizes.version Entry l) (Ret (record { found = None; index = l.index })) (no_search Entry l) (ended sizes))
        (λ o. ended sizes)

    no_stat : (c : Carry) (a : LockedState) → Nothing (stat_locked sizes c a)
    no_stat c (Refuses why) = ended sizes
    no_stat c (Locks f content) =
        then_ sizes (load_unless sizes.inodestart f.number content) (stat_loaded c f.number) (no_load sizes.inodestart f.number content)
        (λ d. ended sizes)

    no_file : (fd : ℕ) (c : Carry) (a : LockedState) → Nothing (file_locked sizes fd c a)
    no_file fd c (Refuses why) = ended sizes
    no_file fd c (Locks f content) =
        then_ sizes (load_unless sizes.inodestart f.number content) (with_file (above.LocksIt f.number f.offset) c fd f.number f.offset)
        (no_load sizes.inodestart f.number content) (λ d. ended sizes)

    no_read : (n : ℕ) (d : Dinode) (at upto : ℕ) (m : FilledMemory) → Nothing (read_blocks n d at upto m)
    unfolding read_blocks
    no_read zero d at upto m = ended sizes
    no_read (suc n) d at upto m =
        then_ sizes (fetch_block d (at / block_len)) (read_part (read_blocks n d (next_block at) upto) at upto m) (no_block d (at / block_len))
        (λ f. quiet sizes few (λ a o. refl) (λ a. no_read n d (next_block at) upto (filled_with m (part_of at upto f.bytes))))

    no_more_writes : (p : P (Unit {0})) (b : Bool) → Nothing p → Nothing (commit_unless p b)
    no_more_writes p true rec = ended sizes
    no_more_writes p false rec = rec

    no_writes : (n : ℕ) → Nothing (commits n)
    no_writes zero = ended sizes
    no_writes (suc n) = quiet sizes few (λ a o. refl) (λ b. no_more_writes (commits n) b (no_writes n))

    pub no_commit : (a : AfterLeave) → Nothing (after_leave a)
    no_commit Free = ended sizes
    no_commit Commits = no_writes most_writes

    -- ---- operations that record nothing

    pub takes : (n : ℕ) (looking : Query) (c : Carry) (m : Sight → Option above.Mark) → Nothing (take_inode sizes n looking c m)
    takes n looking c m =
        quiet sizes few (λ a o. refl)
        (λ content. then_ sizes (load_unless sizes.inodestart n content) (looked sizes.version looking c n) (no_load sizes.inodestart n content)
        (λ d. no_looked looking c n d))

    -- ---- what records blocks that s names

    module _ (bitmap : IsSpent sizes s sizes.bmapstart) where
      frees : (b : ℕ) → Nothing (free_block sizes.bmapstart b)
      frees b =
          then_ sizes (fetch sizes.bmapstart) (clear_bit sizes.bmapstart b) (no_fetch sizes.bmapstart)
          (λ bytes. records sizes few bitmap (λ a. ended sizes))

      frees_numbers : {A : Type 0} (bs : List ℕ) (after : P A) → Nothing after → Nothing (free_numbers sizes.bmapstart bs after)
      frees_numbers [] after rec = rec
      frees_numbers (b ∷ bs) after rec =
          either_way sizes (b == 0) (free_numbers sizes.bmapstart bs after)
          (bind (free_block sizes.bmapstart b) (λ _. free_numbers sizes.bmapstart bs after)) (frees_numbers bs after rec)
          (then_ sizes (free_block sizes.bmapstart b) (λ _. free_numbers sizes.bmapstart bs after) (frees b) (λ a. frees_numbers bs after rec))

      frees_table : {A : Type 0} (table : ℕ) (after : P A) → Nothing after → Nothing (free_indirect sizes.bmapstart table after)
      frees_table table after rec =
          either_way sizes (table == 0) after (bind (fetch table) (free_in_table sizes.bmapstart table after)) rec
          (then_ sizes (fetch table) (free_in_table sizes.bmapstart table after) (no_fetch table)
          (λ bytes. frees_numbers (numbers_in bytes) (free_table sizes.bmapstart table after)
          (quiet sizes few (λ a o. refl) (λ a. then_ sizes (free_block sizes.bmapstart table) (λ _. after) (frees table) (λ _. rec)))))

      gives_content : {A : Type 0} (d : Dinode) (after : P A) → Nothing after → Nothing (give_content sizes d after)
      gives_content d after rec =
          frees_numbers (take direct d.addrs) (free_indirect sizes.bmapstart (table_of d) after) (frees_table (table_of d) after rec)

    -- an inode's record
    puts_record : (op : above.Op) (m : above.Answer op → Option above.Mark) (answer : above.Answer op) (n : ℕ) (d : Dinode) (had : Had) (c : Carry)
        → IsSpent sizes s (inode_block sizes.inodestart n)
        → Nothing (bind (fetch (inode_block sizes.inodestart n)) (put_record op m answer (inode_block sizes.inodestart n) n d had c))
    puts_record op m answer n d had c is =
        then_ sizes (fetch (inode_block sizes.inodestart n)) (put_record op m answer (inode_block sizes.inodestart n) n d had c)
        (no_fetch (inode_block sizes.inodestart n)) (λ bytes. records sizes few is (λ a. ended sizes))

    pub puts_named : (op : above.Op) (outside : above.Outside) (m : above.Answer op → Option above.Mark) (answer : above.Answer op) (n : ℕ) (l : Loaded)
        (c : Carry) → IsSpent sizes s (inode_block sizes.inodestart n)
        → Nothing (bind (fetch (inode_block sizes.inodestart n)) (put_named op outside m answer (inode_block sizes.inodestart n) n l c))
    puts_named op outside m answer n l c is =
        then_ sizes (fetch (inode_block sizes.inodestart n)) (put_named op outside m answer (inode_block sizes.inodestart n) n l c)
        (no_fetch (inode_block sizes.inodestart n)) (λ bytes. records sizes few is (λ a. ended sizes))

    pub stores_inode : (n : ℕ) (d : Dinode) → IsSpent sizes s (inode_block sizes.inodestart n) → Nothing (store_inode sizes.inodestart n d)
    stores_inode n d is =
        then_ sizes (fetch (inode_block sizes.inodestart n)) (put_inode (inode_block sizes.inodestart n) n d)
        (no_fetch (inode_block sizes.inodestart n)) (λ bytes. records sizes few is (λ a. ended sizes))

    -- a block looked through, and the record of a new inode in it, whose number isn't known before: a block more
    claimed_more : (inode_type : InodeType) (c : Carry) (b : ℕ) (bytes : List ℕ) (more : P (Handover above.ClaimResult Carry)) (a : ClaimResult)
        → Within sizes s more (with_contents 1 s) → Within sizes s (claim_in more (kind_of inode_type) b bytes c a) (with_contents 1 s)
    claimed_more inode_type c b bytes more (Claims i) rec = records_one sizes few (λ _. ended sizes)
    claimed_more inode_type c b bytes more NoPlace rec = quiet sizes few (λ a o. refl) (λ _. ended_with sizes (one_more s))
    claimed_more inode_type c b bytes more NoInode rec = rec

    pub claims : (inode_type : InodeType) (c : Carry) (m : above.ClaimResult → Option above.Mark) (n q : ℕ)
        → Within sizes s (claim_from n sizes inode_type c m q) (with_contents 1 s)
    unfolding claim_from
    claims inode_type c m zero q = ended_with sizes (one_more s)
    claims inode_type c m (suc n) q =
        let more : P (Handover above.ClaimResult Carry) = claim_from n sizes inode_type c m (q + 1) in
        let b : ℕ = sizes.inodestart + q in
        then_ sizes (fetch b) (claim_at more sizes inode_type c m n q b) (no_fetch b)
        (λ bytes. quiet sizes few (λ a o. refl) (λ a. claimed_more inode_type c b bytes more a (claims inode_type c m n (q + 1))))

  -- ---- operations that record

  pub emptied : (n : ℕ) (s : Spent) → NoMore s (with_record n (with_bitmap s))
  emptied n s l = let x = bitmap_no_more s l in let y = record_no_more n (with_bitmap s) l in omega (arith, x, y)

  module _ (n : ℕ) (c : Carry) (s : Spent) where
    abbrev both : Spent
    both = with_record n (with_bitmap s)

    pub frees_inode : (m : Unit {0} → Option above.Mark) → size (with_record n (with_bitmap s)) ≤ 10
        → Within sizes s (free sizes n c m) (with_record n (with_bitmap s))
    frees_inode m few =
        let d : Dinode = without_content (record_in c n) in
        let at : ℕ = inode_block sizes.inodestart n in
        let last : P (Handover (Unit {0}) Carry) = bind (fetch at) (put_record (above.Op.Free n) m (tt {0}) at n (freed d) Emptied c) in
        let is = record_spent sizes n (with_bitmap s) in
        from sizes (emptied n s)
        (gives_content both few (inr (refl, refl)) (record_in c n) (bind (store_inode sizes.inodestart n d) (λ _. last))
        (then_ sizes (store_inode sizes.inodestart n d) (λ _. last) (stores_inode both few n d is)
        (λ a. puts_record both few (above.Op.Free n) m (tt {0}) n (freed d) Emptied c is)))

    pub empties : (m : Unit {0} → Option above.Mark) → size (with_record n (with_bitmap s)) ≤ 10
        → Within sizes s (empty sizes n c m) (with_record n (with_bitmap s))
    empties m few =
        let d : Dinode = without_content (record_in c n) in
        let at : ℕ = inode_block sizes.inodestart n in
        let had : Had = Has (record { inode = d; index = index_in c n }) NothingMore in
        let last : P (Handover (Unit {0}) Carry) = bind (fetch at) (put_record (above.Op.Empty n) m (tt {0}) at n d had c) in
        let is = record_spent sizes n (with_bitmap s) in
        from sizes (emptied n s)
        (gives_content both few (inr (refl, refl)) (record_in c n) last
        (puts_record both few (above.Op.Empty n) m (tt {0}) n d had c is))

    pub stores : (count : ℕ) (m : Unit {0} → Option above.Mark) → size (with_record n s) ≤ 10
        → Within sizes s (store sizes n count c m) (with_record n s)
    stores count m few =
        let d : Dinode = record (record_in c n) { nlink = pos count } in
        let had : Had = Has (record { inode = d; index = index_in c n }) NothingMore in
        from sizes (record_no_more n s)
        (puts_record (with_record n s) few (above.Op.Store n count) m (tt {0}) n d had c (record_spent sizes n s))

    pub clears : (e : Name) (m : Unit {0} → Option above.Mark) → size (with_record n (with_contents 1 s)) ≤ 10
        → Within sizes s (clear sizes n e c m) (with_record n (with_contents 1 s))
    clears e m few =
        let r : Spent = with_record n (with_contents 1 s) in
        let t : Spent = with_record n s in
        let less : size (with_record n s) ≤ 10 = omega (arith, few) in
        from sizes (record_no_more n s)
        (then_ sizes (slot_of sizes.version (c n) e) (clear_slot sizes n e c m) (no_slot_of t less (c n) e)
        (λ at. then_ sizes (fetch_block (record_in c n) (at.0 / dirents_per_block_of sizes.version)) (clear_in sizes n e c m at)
        (no_block t less (record_in c n) (at.0 / dirents_per_block_of sizes.version))
        (λ f. records_one sizes less
        (λ a. puts_named r few (above.Op.Clear n e) above.Room m (tt {0}) n (record { inode = with_slot sizes.version at.0 (record_in c n); index = cleared at.0 at.1 }) c
        (record_spent sizes n (with_contents 1 s))))))

  module _ (s : Spent) (few : size s ≤ 10) where
    pub stats : (fd : ℕ) (c : Carry) (m : above.Answer (above.Op.StatFile fd) → Option above.Mark) → Within sizes s (stat_file sizes fd c m) s
    stats fd c m = quiet sizes few (λ a o. refl) (λ a. no_stat s few c a)

    pub locks_file : (fd : ℕ) (c : Carry) (m : above.LockResult → Option above.Mark) → Within sizes s (lock_file sizes fd c m) s
    locks_file fd c m = quiet sizes few (λ a o. refl) (λ a. no_file s few fd c a)

    pub locks_open : (fd n : ℕ) (c : Carry) (m : ℕ × ℕ → Option above.Mark) → Within sizes s (lock_open sizes fd n c m) s
    locks_open fd n c m =
        quiet sizes few (λ a o. refl)
        (λ a. then_ sizes (load_unless sizes.inodestart a.0.number a.1) (with_file (a.0.number, a.0.offset) c fd a.0.number a.0.offset)
        (no_load s few sizes.inodestart a.0.number a.1) (λ d. ended sizes))

    pub reads_file : (fd n offset count : ℕ) (c : Carry) (m : List ℕ → Option above.Mark) → Within sizes s (read_file fd n offset count c m) s
    reads_file fd n offset count c m =
        let d : Dinode = record_in c n in
        then_ sizes (read_from d offset count []) (give_read fd n offset count m c)
        (no_read s few (blocks_between offset (end_of d offset count)) d offset (end_of d offset count) (record { count = 0; bytes = [] }))
        (λ f. quiet sizes few (λ a o. refl) (λ a. ended sizes))

    pub claims_inode : (inode_type : InodeType) (c : Carry) (m : above.ClaimResult → Option above.Mark)
        → Within sizes s (claim_from (inode_blocks sizes.ninodes) sizes inode_type c m 0) (with_contents 1 s)
    claims_inode inode_type c m = claims s few inode_type c m (inode_blocks sizes.ninodes) 0
