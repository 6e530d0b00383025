-- What the programs of operations record, by their text.
use Rattle.inodes_on_blocks.proofs.Vocabulary.{◌≡◌, inl, inr, ℕ, zero, suc, ◌+◌, ◌-◌, ◌/◌, ◌==◌, Bool, true, false, not, pos, List, [], ◌∷◌, Option, Some, None, refl, arith, if◌then◌else◌, is_some, slice_index, take, Dinode, Super, numbers_in, block_len, dirents_per_block_of, Name, same_name, AfterLeave, Commits, Ret, Do, bind, Handover, LockedState, Refuses, Locks, LogPart, ClaimResult, Claims, NoPlace, NoInode, fetch, read_unless, commit_unless, commits, most_writes, after_leave, free_block, clear_bit, inode_blocks, give_back, inode_block, load_unless, put_inode, store_inode, address, table_of, free_numbers, free_table, free_in_table, free_indirect, freed, without_content, FilledMemory, blocks_between, end_of, fetch_at, fetch_block, fetch_named, fetch_number, filled_with, give_fetched, next_block, part_of, read_blocks, read_from, read_part, direct, Address, Direct, InTable, Aim, Named, block_count, found_in, look_at, search_from, with_slot, Found, Spent, unspent, with_bitmap, with_contents, with_inode as with_record, Query, AtNothing, AtName, AtEntries, InodeType, used, Accounts, IsSpent, Carry, Had, Apart, Has, Emptied, NothingMore, Finds, Opened, give_content, file_locked, give_read, learned, looked, number_found, search_entries, seen_record, stat_loaded, stat_locked, kind_of, claim_at, claim_from, claim_in, clear, clear_in, clear_slot, put_named, slot_found, put_record, record_in, NoMore, Records, ProgramsSpend}
use Rattle.group_log.specs.declared.log.AfterLeave.TheVariants.{Free}
use Rattle.directory.specs.Indexes.{cleared, first_of, raised}
use Rattle.directory.specs.Programs.{Entry, Searched, is_directory, is_live_directory, lookup, or_next, search}
use Rattle.fs_machine.specs.InMemory.{IndexState, Loaded}
use Rattle.inode_machine.specs.World as above
use Rattle.inodes_on_blocks.specs.Handlers.{P}
use Rattle.inodes_on_blocks.specs.Files.{with_file}
use Rattle.inodes_on_blocks.specs.Naming.{slot_of}
use Rattle.inodes_on_blocks.specs.Storing.{recorded_in}
use Rattle.inodes_on_blocks.proofs.Basics.{transactions_have_room, record_spent}

-- ---- amounts

same : (s : Spent) → NoMore s s
same s l = omega arith

-- what holds of accounts holds of the amounts
by_accounts : (s t : Spent) → ((h : ℕ) (l : LogPart) → Accounts h l s → Accounts h l t) → NoMore s t
by_accounts s t more l = more 0 (record l { members = Some (used l s) ∷ [] }) (λ k e. let q : used l s ≡ k = cc e in omega (arith, q)) (used l s) refl

pub record_no_more : (n : ℕ) (s : Spent) → NoMore s (with_record n s)
record_no_more n s = by_accounts s (with_record n s) (λ h l known. (transactions_have_room h l).record_more n s known)

pub bitmap_no_more : (s : Spent) → NoMore s (with_bitmap s)
bitmap_no_more s = by_accounts s (with_bitmap s) (λ h l known. (transactions_have_room h l).bitmap_more s known)

one_more : (s : Spent) → NoMore s (with_contents 1 s)
one_more s l = omega arith

-- ---- programs

module _ (sizes : Super) where
  pub records_from : {A : Type 0} (p : P A) (s t u : Spent) → NoMore s t → Records sizes t p u → Records sizes s p u
  records_from (Ret a) s t u less rec = λ l. let x = less l in let y = rec l in omega (arith, x, y)
  records_from (Do op m k) s t u less rec = (rec.0, (λ l. let x = less l in let y = rec.1 l in omega (arith, x, y)), rec.2)

  pub records_bind : {A B : Type 0} (p : P A) (k : A → P B) (s t u : Spent) → Records sizes s p t → ((a : A) → Records sizes t (k a) u) → Records sizes s (bind p k) u
  records_bind (Ret a) k s t u rec then_ = records_from (k a) s t u rec (then_ a)
  records_bind (Do op m j) k s t u rec then_ = (rec.0, rec.1, λ a. let step = rec.2 a in (step.0, step.1, records_bind (j a) k step.0 t u step.2 then_))

  pub records_if : {A : Type 0} (b : Bool) (p q : P A) (s t : Spent) → Records sizes s p t → Records sizes s q t → Records sizes s (if b then p else q) t
  records_if true p q s t yes_ no_ = yes_
  records_if false p q s t yes_ no_ = no_

  -- ---- what records nothing

  module _ (s : Spent) where
    abbrev Nothing : {A : Type 0} → P A → Type 0
    Nothing p = Records sizes s p s

    pub no_fetch : (b : ℕ) → Nothing (fetch b)
    no_fetch b = (s, same s, λ o. (s, refl, read o))
      where
        read : (o : Option (List ℕ)) → Nothing (read_unless b o)
        read (Some bytes) = same s
        read None = (s, same s, λ bytes. (s, refl, same s))

    pub no_load : (inodestart n : ℕ) (content : Option Loaded) → Nothing (load_unless inodestart n content)
    no_load inodestart n (Some d) = same s
    no_load inodestart n None = records_bind (fetch (inode_block inodestart n)) (give_back (inode_block inodestart n) n) s s s (no_fetch (inode_block inodestart n)) (λ bytes. (s, same s, λ a. (s, refl, same s)))

    no_number : (b : ℕ) → Nothing (fetch_number b)
    no_number b = records_bind (fetch b) (give_fetched b) s s s (no_fetch b) (λ bytes. same s)

    no_at : (d : Dinode) (a : Address) → Nothing (fetch_at d a)
    no_at d (Direct i) = no_number (slice_index d.addrs i)
    no_at d (InTable i) = records_bind (fetch (table_of d)) (fetch_named (table_of d) i) s s s (no_fetch (table_of d)) (λ bytes. (s, same s, λ a. (s, refl, no_number (slice_index (numbers_in bytes) i))))

    pub no_block : (d : Dinode) (k : ℕ) → Nothing (fetch_block d k)
    no_block d k = no_at d (address k)

    no_next : (o : Option Found) (x : IndexState) (next : IndexState → P Searched) → ((y : IndexState) → Nothing (next y)) → Nothing (or_next o x next)
    no_next (Some f) x next rec = same s
    no_next None x next rec = rec x

    no_blocks : (n : ℕ) (aim : Aim) (d : Dinode) (k : ℕ) (x : IndexState) → Nothing (search_from sizes.version n aim d k x)
    unfolding search_from
    no_blocks zero aim d k x = same s
    no_blocks (suc n) aim d k x =
        records_bind (fetch_block d k) (look_at sizes.version aim d k x (search_from sizes.version n aim d (k + 1))) s s s (no_block d k)
        (λ f. (s, same s, λ a. (s, refl, no_next (found_in sizes.version aim d k f.bytes) (raised sizes.version d k f.bytes x) (search_from sizes.version n aim d (k + 1)) (no_blocks n aim d (k + 1)))))

    no_search : (aim : Aim) (x : Loaded) → Nothing (search sizes.version aim x)
    no_search aim x =
        no_next (first_of sizes.version aim x.inode x.index) x.index (search_from sizes.version (block_count sizes.version x.inode - x.index.blocks) aim x.inode x.index.blocks) (no_blocks (block_count sizes.version x.inode - x.index.blocks) aim x.inode x.index.blocks)

    no_slot : (o : Searched) → Nothing (slot_found o)
    no_slot o = same s

    -- the slot of a name sought
    no_sought : (x : Loaded) (e : Name) → Nothing (bind (search sizes.version (Named e) x) slot_found)
    no_sought x e = records_bind (search sizes.version (Named e) x) slot_found s s s (no_search (Named e) x) no_slot

    no_slot_of : (had : Had) (e : Name) → Nothing (slot_of sizes.version had e)
    no_slot_of Apart e = same s
    no_slot_of (Has d NothingMore) e = no_sought d e
    no_slot_of (Has d (Finds name k)) e = records_if (same_name name e) (Ret (k, d.index)) (bind (search sizes.version (Named e) d) slot_found) s s (same s) (no_sought d e)
    no_slot_of (Has d (Opened fd offset)) e = no_sought d e
    no_slot_of Emptied e = same s

    no_looked : (looking : Query) (c : Carry) (n : ℕ) (x : Loaded) → Nothing (looked sizes.version looking c n x)
    no_looked AtNothing c n x = same s
    no_looked (AtName e) c n x =
        records_bind (lookup sizes.version e x) (λ o. seen_record c n (record { inode = x.inode; index = o.index }) (learned e o.found) (number_found o.found) true) s s s
        (records_if (is_live_directory x.inode) (search sizes.version (Named e) x) (Ret (record { found = None; index = x.index })) s s (no_search (Named e) x) (same s)) (λ o. same s)
    no_looked AtEntries c n x =
        records_bind (search_entries sizes.version x) (λ o. seen_record c n (record { inode = x.inode; index = o.index }) NothingMore None (not (is_some o.found))) s s s
        (records_if (is_directory x.inode) (search sizes.version Entry x) (Ret (record { found = None; index = x.index })) s s (no_search Entry x) (same s)) (λ o. same s)

    no_stat : (c : Carry) (a : LockedState) → Nothing (stat_locked sizes c a)
    no_stat c (Refuses why) = same s
    no_stat c (Locks f content) = records_bind (load_unless sizes.inodestart f.number content) (stat_loaded c f.number) s s s (no_load sizes.inodestart f.number content) (λ d. same s)

    no_file : (fd : ℕ) (c : Carry) (a : LockedState) → Nothing (file_locked sizes fd c a)
    no_file fd c (Refuses why) = same s
    no_file fd c (Locks f content) = records_bind (load_unless sizes.inodestart f.number content) (with_file (above.LocksIt f.number f.offset) c fd f.number f.offset) s s s (no_load sizes.inodestart f.number content) (λ d. same s)

    no_read : (n : ℕ) (d : Dinode) (from upto : ℕ) (m : FilledMemory) → Nothing (read_blocks n d from upto m)
    unfolding read_blocks
    no_read zero d from upto m = same s
    no_read (suc n) d from upto m =
        records_bind (fetch_block d (from / block_len)) (read_part (read_blocks n d (next_block from) upto) from upto m) s s s (no_block d (from / block_len))
        (λ f. (s, same s, λ a. (s, refl, no_read n d (next_block from) upto (filled_with m (part_of from upto f.bytes)))))

    no_more_writes : (p : P (Unit {0})) (b : Bool) → Nothing p → Nothing (commit_unless p b)
    no_more_writes p true rec = same s
    no_more_writes p false rec = rec

    no_writes : (n : ℕ) → Nothing (commits n)
    no_writes zero = same s
    no_writes (suc n) = (s, same s, λ b. (s, refl, no_more_writes (commits n) b (no_writes n)))

    no_leave : (a : AfterLeave) → Nothing (after_leave a)
    no_leave Free = same s
    no_leave Commits = no_writes most_writes

  -- ---- what records blocks that s names

  module _ (s : Spent) where
    module _ (bitmap : IsSpent sizes s sizes.bmapstart) where
      frees : (b : ℕ) → Records sizes s (free_block sizes.bmapstart b) s
      frees b = records_bind (fetch sizes.bmapstart) (clear_bit sizes.bmapstart b) s s s (no_fetch s sizes.bmapstart) (λ bytes. (s, same s, λ a. (s, inl (bitmap, refl), same s)))

      pub frees_numbers : {A : Type 0} (bs : List ℕ) (after : P A) (t : Spent) → Records sizes s after t → Records sizes s (free_numbers sizes.bmapstart bs after) t
      frees_numbers [] after t rec = rec
      frees_numbers (b ∷ bs) after t rec =
          records_if (b == 0) (free_numbers sizes.bmapstart bs after) (bind (free_block sizes.bmapstart b) (λ _. free_numbers sizes.bmapstart bs after)) s t (frees_numbers bs after t rec)
          (records_bind (free_block sizes.bmapstart b) (λ _. free_numbers sizes.bmapstart bs after) s s t (frees b) (λ a. frees_numbers bs after t rec))

      frees_table : {A : Type 0} (table : ℕ) (after : P A) (t : Spent) → Records sizes s after t → Records sizes s (free_indirect sizes.bmapstart table after) t
      frees_table table after t rec =
          records_if (table == 0) after (bind (fetch table) (free_in_table sizes.bmapstart table after)) s t rec
          (records_bind (fetch table) (free_in_table sizes.bmapstart table after) s s t (no_fetch s table)
          (λ bytes. frees_numbers (numbers_in bytes) (free_table sizes.bmapstart table after) t
          (s, same s, λ a. (s, refl, records_bind (free_block sizes.bmapstart table) (λ _. after) s s t (frees table) (λ _. rec)))))

      pub gives_content : {A : Type 0} (d : Dinode) (after : P A) (t : Spent) → Records sizes s after t → Records sizes s (give_content sizes d after) t
      gives_content d after t rec = frees_numbers (take direct d.addrs) (free_indirect sizes.bmapstart (table_of d) after) t (frees_table (table_of d) after t rec)

    -- an inode's record
    pub puts_record : (op : above.Op) (m : above.Answer op → Option above.Mark) (answer : above.Answer op) (n : ℕ) (d : Dinode) (had : Had) (c : Carry) → IsSpent sizes s (inode_block sizes.inodestart n)
        → Records sizes s (bind (fetch (inode_block sizes.inodestart n)) (put_record op m answer (inode_block sizes.inodestart n) n d had c)) s
    puts_record op m answer n d had c is =
        records_bind (fetch (inode_block sizes.inodestart n)) (put_record op m answer (inode_block sizes.inodestart n) n d had c) s s s (no_fetch s (inode_block sizes.inodestart n)) (λ bytes. (s, same s, λ a. (s, inl (is, refl), same s)))

    puts_named : (n : ℕ) (e : Name) (x : Loaded) (c : Carry) (m : Unit {0} → Option above.Mark) → IsSpent sizes s (inode_block sizes.inodestart n)
        → Records sizes s (bind (fetch (inode_block sizes.inodestart n)) (put_named (above.Clear n e) above.Room m (tt {0}) (inode_block sizes.inodestart n) n x c)) s
    puts_named n e x c m is =
        records_bind (fetch (inode_block sizes.inodestart n)) (put_named (above.Clear n e) above.Room m (tt {0}) (inode_block sizes.inodestart n) n x c) s s s (no_fetch s (inode_block sizes.inodestart n)) (λ bytes. (s, same s, λ a. (s, inl (is, refl), same s)))

    pub stores_inode : (n : ℕ) (d : Dinode) → IsSpent sizes s (inode_block sizes.inodestart n) → Records sizes s (store_inode sizes.inodestart n d) s
    stores_inode n d is =
        records_bind (fetch (inode_block sizes.inodestart n)) (put_inode (inode_block sizes.inodestart n) n d) s s s (no_fetch s (inode_block sizes.inodestart n)) (λ bytes. (s, same s, λ a. (s, inl (is, refl), same s)))

  -- a block looked through, and the record of a new inode in it, whose number isn't known before: a block more
  claimed_more : (s : Spent) (inode_type : InodeType) (c : Carry) (b : ℕ) (bytes : List ℕ) (more : P (Handover above.ClaimResult Carry)) (a : ClaimResult) → Records sizes s more (with_contents 1 s) → Records sizes s (claim_in more (kind_of inode_type) b bytes c a) (with_contents 1 s)
  claimed_more s inode_type c b bytes more (Claims i) rec = (s, same s, λ _. (with_contents 1 s, inr refl, same (with_contents 1 s)))
  claimed_more s inode_type c b bytes more NoPlace rec = (s, same s, λ _. (s, refl, one_more s))
  claimed_more s inode_type c b bytes more NoInode rec = rec

  claims : (s : Spent) (inode_type : InodeType) (c : Carry) (m : above.ClaimResult → Option above.Mark) (n q : ℕ) → Records sizes s (claim_from n sizes inode_type c m q) (with_contents 1 s)
  unfolding claim_from
  claims s inode_type c m zero q = one_more s
  claims s inode_type c m (suc n) q =
      let more : P (Handover above.ClaimResult Carry) = claim_from n sizes inode_type c m (q + 1) in
      let b : ℕ = sizes.inodestart + q in
      records_bind (fetch b) (claim_at more sizes inode_type c m n q b) s s (with_contents 1 s) (no_fetch s b) (λ bytes. (s, same s, λ a. (s, refl, claimed_more s inode_type c b bytes more a (claims s inode_type c m n (q + 1)))))

  emptied : (n : ℕ) (s : Spent) → NoMore s (with_record n (with_bitmap s))
  emptied n s l = let x = bitmap_no_more s l in let y = record_no_more n (with_bitmap s) l in omega (arith, x, y)

  pub programs_spend : ProgramsSpend sizes
  programs_spend = record {
    take = λ n looking c m s. (s, same s, λ content. (s, refl, records_bind (load_unless sizes.inodestart n content) (looked sizes.version looking c n) s s s (no_load s sizes.inodestart n content) (λ d. no_looked s looking c n d)));
    give = λ n c m s. (s, same s, λ a. (s, refl, same s));
    up_start = λ absolute c m s. (s, same s, λ a. (s, refl, same s));
    up = λ n c m s. (s, same s, λ a. (s, refl, same s));
    walk_down = λ n c m s. (s, same s, λ a. (s, refl, same s));
    down = λ n c m s. (s, same s, λ a. (s, refl, same s));
    forget = λ n c m s. (s, same s, λ a. (s, refl, same s));
    free = λ n c m s.
        let d : Dinode = without_content (record_in c n) in
        let at : ℕ = inode_block sizes.inodestart n in
        let last : P (Handover (Unit {0}) Carry) = bind (fetch at) (put_record (above.Free n) m (tt {0}) at n (freed d) Emptied c) in
        let r : Spent = with_record n (with_bitmap s) in
        let is = record_spent sizes n (with_bitmap s) in
        records_from (give_content sizes (record_in c n) (bind (store_inode sizes.inodestart n d) (λ _. last))) s r r (emptied n s)
        (gives_content r (inr (refl, refl)) (record_in c n) (bind (store_inode sizes.inodestart n d) (λ _. last)) r
        (records_bind (store_inode sizes.inodestart n d) (λ _. last) r r r (stores_inode r n d is) (λ a. puts_record r (above.Free n) m (tt {0}) n (freed d) Emptied c is)));
    claim = λ inode_type c m s. claims s inode_type c m (inode_blocks sizes.ninodes) 0;
    clear = λ n e c m s.
        let r : Spent = with_record n (with_contents 1 s) in
        let t : Spent = with_record n s in
        records_from (clear sizes n e c m) s t r (record_no_more n s)
        (records_bind (slot_of sizes.version (c n) e) (clear_slot sizes n e c m) t t r (no_slot_of t (c n) e)
        (λ at. records_bind (fetch_block (record_in c n) (at.0 / dirents_per_block_of sizes.version)) (clear_in sizes n e c m at) t t r (no_block t (record_in c n) (at.0 / dirents_per_block_of sizes.version))
        (λ f. (t, same t, λ a. (r, inr refl, puts_named r n e (record { inode = with_slot sizes.version at.0 (record_in c n); index = cleared at.0 at.1 }) c m (record_spent sizes n (with_contents 1 s)))))));
    store = λ n count c m s.
        let d : Dinode = record (record_in c n) { nlink = pos count } in
        let at : ℕ = inode_block sizes.inodestart n in
        let r : Spent = with_record n s in
        records_from (bind (fetch at) (put_record (above.Store n count) m (tt {0}) at n d (Has (recorded_in c n d) NothingMore) c)) s r r (record_no_more n s)
        (puts_record r (above.Store n count) m (tt {0}) n d (Has (recorded_in c n d) NothingMore) c (record_spent sizes n s));
    empty = λ n c m s.
        let d : Dinode = without_content (record_in c n) in
        let at : ℕ = inode_block sizes.inodestart n in
        let last : P (Handover (Unit {0}) Carry) = bind (fetch at) (put_record (above.Empty n) m (tt {0}) at n d (Has (recorded_in c n d) NothingMore) c) in
        let r : Spent = with_record n (with_bitmap s) in
        records_from (give_content sizes (record_in c n) last) s r r (emptied n s)
        (gives_content r (inr (refl, refl)) (record_in c n) last r (puts_record r (above.Empty n) m (tt {0}) n d (Has (recorded_in c n d) NothingMore) c (record_spent sizes n (with_bitmap s))));
    slot = λ c m s. (s, same s, λ a. (s, refl, same s));
    install = λ f inode_type c m s. (s, same s, λ a. (s, refl, same s));
    stat_file = λ fd c m s. (s, same s, λ a. (s, refl, no_stat s c a));
    lock_file = λ fd c m s. (s, same s, λ a. (s, refl, no_file s fd c a));
    lock_open = λ fd n c m s. (
      s,
      same s,
      λ a. (s, refl, records_bind (load_unless sizes.inodestart a.0.number a.1) (with_file (a.0.number, a.0.offset) c fd a.0.number a.0.offset) s s s (no_load s sizes.inodestart a.0.number a.1) (λ d. same s)),
    );
    read_file = λ fd n offset count c m s.
        let d : Dinode = record_in c n in
        records_bind (read_from d offset count []) (give_read fd n offset count m c) s s s
        (no_read s (blocks_between offset (end_of d offset count)) d offset (end_of d offset count) (record { count = 0; bytes = [] })) (λ f. (s, same s, λ a. (s, refl, same s)));
    check_file = λ fd c m s. (s, same s, λ a. (s, refl, same s));
    join_file = λ fd c m s. (s, same s, λ a. (unspent, refl, same unspent));
    double = λ fd c m s. (s, same s, λ a. (s, refl, same s));
    close = λ fd c m s. (s, same s, λ a. (s, refl, same s));
    settle = λ n c m s. (s, same s, λ a. (s, refl, same s));
    lend = λ child from c m s. (s, same s, λ a. (s, refl, same s));
    lend_directory = λ child c m s. (s, same s, λ a. (s, refl, same s));
    release = λ child c m s. (s, same s, λ a. (s, refl, same s));
    join = λ c m s. (s, same s, λ a. (unspent, refl, same unspent));
    leave = λ c m s. (s, same s, λ a. (s, refl, records_bind (after_leave a) (λ b. Ret (record { answer = b; carry = c })) s s s (no_leave s a) (λ b. same s)));
    say = λ c m s. (s, same s, λ a. (s, refl, same s));
  }
