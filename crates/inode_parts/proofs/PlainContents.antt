-- Contents written and directories searched: without marks the programs are the code's.
use Rattle.image_versions.proofs.Places.{in_range, take_blocks, whole_blocks}
use Rattle.inode_data.specs.Widths.{most_blocks}
use Rattle.inode_parts.proofs.Vocabulary.{◌≡◌, ℕ, zero, suc, ◌+◌, ◌-◌, ◌/◌, ◌≤◌, ◌==◌, nat_lt, Bool, true, false, if◌then◌else◌, List, length, drop, Option, Some, None, refl, ◌∙◌, ap, arith, slice_index, nat_tests, Dinode, Super, numbers_in, block_len, Ret, Do, bind, plain, unmarked, plain-bind, fetch, marked_by, first_clear_below, give_zeros, take_first, zero_found, Address, Direct, InTable, address, table_of, fetch_block, direct, WriteResult, front_of, locate, locate_at, locate_in_table, located, look_up, name_direct, name_in_table, put_part, take_one, with_address, with_table, write_blocks, write_in, write_located, Found, Aim, Unused, block_count, found_in, look_at, or_next, search, search_from, slot_count, look_last, search_full, seek_free, seek_full, Acts, IndexState, Loaded, Searched, few_known, first_of, raised, most_slots, Version, dirents_per_block_of}
use Rattle.std.proofs.Math.Nat.{mul-le-mul_right}
use Rattle.fs_machine.specs.Machines as code
use Rattle.fs_machine.specs.Steps as steps
use Rattle.inode_data.specs.Writing.{with_part}
use Rattle.inodes_on_blocks.specs.Handlers.{P}
use Rattle.inode_parts.proofs.Plain.{plain_block, plain_fetch}

-- one program after the other
pub then_plain : {A B : Type 0} (p : P A) (q : code.P A) (f : A → P B) (g : A → code.P B) → plain p ≡ q → ((a : A) → plain (f a) ≡ g a) → plain (bind p f) ≡ bind q g
then_plain p q f g same each = plain-bind p f ∙ (λ i. bind (same i) (λ a. each a i))

-- what was found, or what comes then
pub plain_or_next : (o : Option Found) (x : IndexState) (p : IndexState → P Searched) (q : IndexState → code.P Searched) → ((x : IndexState) → plain (p x) ≡ q x) → plain (or_next o x p) ≡ or_next o x q
plain_or_next (Some f) x p q same = refl
plain_or_next None x p q same = same x

plain_search_from : (v : Version) (n : ℕ) (aim : Aim) (d : Dinode) (k : ℕ) (x : IndexState) → plain (search_from {M = Acts} v n aim d k x) ≡ search_from v n aim d k x
unfolding search_from
plain_search_from v zero aim d k x = refl
plain_search_from v (suc n) aim d k x =
    then_plain (fetch_block d k) (fetch_block d k) (look_at v aim d k x (search_from v n aim d (k + 1))) (look_at v aim d k x (search_from v n aim d (k + 1))) (plain_block d k)
    (λ f. λ i. Do (steps.Put f.number None) unmarked (λ _. plain_or_next (found_in v aim d k f.bytes) (raised v d k f.bytes x) (search_from v n aim d (k + 1)) (search_from v n aim d (k + 1)) (plain_search_from v n aim d (k + 1)) i))

pub plain_search : (v : Version) (aim : Aim) (l : Loaded) → plain (search {M = Acts} v aim l) ≡ search v aim l
plain_search v aim l =
    let b : ℕ = l.index.blocks in
    plain_or_next (first_of v aim l.inode l.index) l.index (search_from v (block_count v l.inode - b) aim l.inode b) (search_from v (block_count v l.inode - b) aim l.inode b) (plain_search_from v (block_count v l.inode - b) aim l.inode b)

-- ---- a block taken

plain_zeros : (o : Option ℕ) → plain (zero_found {M = Acts} o) ≡ zero_found o
plain_zeros None = refl
plain_zeros (Some b) = then_plain (fetch b) (fetch b) (give_zeros b) (give_zeros b) (plain_fetch b) (λ old. refl)

plain_take : (sizes : Super) → plain (take_one {M = Acts} sizes) ≡ take_one sizes
plain_take sizes =
    then_plain (fetch sizes.bmapstart) (fetch sizes.bmapstart) (take_first sizes.bmapstart sizes.size) (take_first sizes.bmapstart sizes.size) (plain_fetch sizes.bmapstart)
    (λ bits i. Do (steps.Put sizes.bmapstart (marked_by bits (first_clear_below sizes.size bits))) unmarked (λ _. plain_zeros (first_clear_below sizes.size bits) i))

-- ---- a block of a content found, or taken

plain_direct : (i : ℕ) (d : Dinode) (o : Option ℕ) → plain (name_direct {M = Acts} i d o) ≡ name_direct i d o
plain_direct i d None = refl
plain_direct i d (Some b) = refl

plain_listed : (i : ℕ) (d : Dinode) (table : ℕ) (bytes : List ℕ) (o : Option ℕ) → plain (name_in_table {M = Acts} i d table bytes o) ≡ name_in_table i d table bytes o
plain_listed i d table bytes None = refl
plain_listed i d table bytes (Some b) = refl

plain_look_up : (sizes : Super) (i : ℕ) (d : Dinode) (table : ℕ) (bytes : List ℕ) → plain (look_up {M = Acts} sizes i d table bytes) ≡ look_up sizes i d table bytes
plain_look_up sizes i d table bytes = by (slice_index (numbers_in bytes) i == 0)
  where
    by : (b : Bool) → plain (if b then bind (take_one {M = Acts} sizes) (name_in_table i d table bytes) else Do (steps.Put table None) unmarked (λ _. located d (Some (slice_index (numbers_in bytes) i))))
        ≡ (if b then bind (take_one sizes) (name_in_table i d table bytes) else Do (steps.Put table None) unmarked (λ _. located d (Some (slice_index (numbers_in bytes) i))))
    by true = then_plain (take_one sizes) (take_one sizes) (name_in_table i d table bytes) (name_in_table i d table bytes) (plain_take sizes) (plain_listed i d table bytes)
    by false = refl

plain_with_table : (sizes : Super) (i : ℕ) (d : Dinode) (o : Option ℕ) → plain (with_table {M = Acts} sizes i d o) ≡ with_table sizes i d o
plain_with_table sizes i d None = refl
plain_with_table sizes i d (Some table) =
    then_plain (fetch table) (fetch table) (look_up sizes i (with_address direct table d) table) (look_up sizes i (with_address direct table d) table) (plain_fetch table) (plain_look_up sizes i (with_address direct table d) table)

plain_locate : (sizes : Super) (d : Dinode) (a : Address) → plain (locate_at {M = Acts} sizes d a) ≡ locate_at sizes d a
plain_locate sizes d (Direct i) = by (slice_index d.addrs i == 0)
  where
    by : (b : Bool) → plain (if b then bind (take_one {M = Acts} sizes) (name_direct i d) else located d (Some (slice_index d.addrs i))) ≡ (if b then bind (take_one sizes) (name_direct i d) else located d (Some (slice_index d.addrs i)))
    by true = then_plain (take_one sizes) (take_one sizes) (name_direct i d) (name_direct i d) (plain_take sizes) (plain_direct i d)
    by false = refl
plain_locate sizes d (InTable i) = by (table_of d == 0)
  where
    by : (b : Bool) → plain (if b then bind (take_one {M = Acts} sizes) (with_table sizes i d) else locate_in_table sizes i d) ≡ (if b then bind (take_one sizes) (with_table sizes i d) else locate_in_table sizes i d)
    by true = then_plain (take_one sizes) (take_one sizes) (with_table sizes i d) (with_table sizes i d) (plain_take sizes) (plain_with_table sizes i d)
    by false = then_plain (fetch (table_of d)) (fetch (table_of d)) (look_up sizes i d (table_of d)) (look_up sizes i d (table_of d)) (plain_fetch (table_of d)) (plain_look_up sizes i d (table_of d))

-- ---- a content written

plain_in : (more : Dinode → P WriteResult) (rest : Dinode → code.P WriteResult) → ((d : Dinode) → plain (more d) ≡ rest d) → (at : ℕ) (bytes : List ℕ) (d : Dinode) (o : Option ℕ) → plain (write_in more at bytes d o) ≡ write_in rest at bytes d o
plain_in more rest same at bytes d None = refl
plain_in more rest same at bytes d (Some b) =
    then_plain (fetch b) (fetch b) (put_part (more d) b at bytes) (put_part (rest d) b at bytes) (plain_fetch b) (λ old i. Do (steps.Put b (Some (with_part at bytes old))) unmarked (λ _. same d i))

pub plain_writes : (n : ℕ) (sizes : Super) (at : ℕ) (bytes : List ℕ) (d : Dinode) → plain (write_blocks {M = Acts} n sizes at bytes d) ≡ write_blocks n sizes at bytes d
unfolding write_blocks
plain_writes zero sizes at bytes d = refl
plain_writes (suc n) sizes at bytes d =
    then_plain (locate sizes d (at / block_len)) (locate sizes d (at / block_len)) (write_located (write_blocks n sizes (at + length (front_of at bytes)) (drop (length (front_of at bytes)) bytes)) at bytes)
    (write_located (write_blocks n sizes (at + length (front_of at bytes)) (drop (length (front_of at bytes)) bytes)) at bytes) (plain_locate sizes d (address (at / block_len)))
    (λ l. plain_in (write_blocks n sizes (at + length (front_of at bytes)) (drop (length (front_of at bytes)) bytes)) (write_blocks n sizes (at + length (front_of at bytes)) (drop (length (front_of at bytes)) bytes))
    (plain_writes n sizes (at + length (front_of at bytes)) (drop (length (front_of at bytes)) bytes)) at bytes l.inode l.number)

-- ---- a free slot sought

abbrev answers : Option Found → IndexState → code.P Searched
answers o x = Ret (record { found = o; index = x })

plain_last : (o : Option Found) (x : IndexState) → answers o x ≡ or_next o x (answers None)
plain_last None x = refl
plain_last (Some f) x = refl

plain_full : (v : Version) (mark : Option Acts) (n : ℕ) (d : Dinode) (k : ℕ) (x : IndexState) → plain (search_full v mark n d k x) ≡ search_from v (suc n) Unused d k x
unfolding search_full search_from
plain_full v mark zero d k x =
    then_plain (fetch_block d k) (fetch_block d k) (look_last v mark d k x) (look_at v Unused d k x (search_from v zero Unused d (k + 1))) (plain_block d k)
    (λ f i. Do (steps.Put f.number None) unmarked (λ _. plain_last (found_in v Unused d k f.bytes) (raised v d k f.bytes x) i))
plain_full v mark (suc n) d k x =
    then_plain (fetch_block d k) (fetch_block d k) (look_at v Unused d k x (search_full v mark n d (k + 1))) (look_at v Unused d k x (search_from v (suc n) Unused d (k + 1))) (plain_block d k)
    (λ f i. Do (steps.Put f.number None) unmarked (λ _. plain_or_next (found_in v Unused d k f.bytes) (raised v d k f.bytes x) (search_full v mark n d (k + 1)) (search_from v (suc n) Unused d (k + 1)) (plain_full v mark n d (k + 1)) i))

-- a directory with all its slots has all blocks that a content may have
pub blocks_full : (v : Version) (d : Dinode) → slot_count v d ≡ most_slots v → block_count v d ≡ most_blocks
blocks_full v d full =
    let last = (whole_blocks v).0 (most_blocks - 1) (omega arith) in
    let more = (take_blocks v (most_slots v) (most_blocks - 1)).1 (omega (arith, in_range v, last)) in
    let most = (whole_blocks v).1 (most_slots v) (omega arith) in
    ap (λ (n : ℕ). (n + (dirents_per_block_of v - 1)) / dirents_per_block_of v) full ∙ omega (arith, more, most)

-- and if the index has none free it has two blocks at most
pub blocks_few : (v : Version) (l : Loaded) → slot_count v l.inode ≡ most_slots v → first_of v Unused l.inode l.index ≡ None → l.index.blocks ≤ 2
blocks_few v l full none = omega (arith, few_known v l full none, mul-le-mul_right l.index.blocks (in_range v).4)

module _ (v : Version) (mark : Option Acts) (l : Loaded) (full : slot_count v l.inode ≡ most_slots v) where
  abbrev b : ℕ
  b = l.index.blocks

  plain_seek_full : (o : Option Found) → first_of v Unused l.inode l.index ≡ o
      → plain (or_next o l.index (search_full v mark (most_blocks - 1 - b) l.inode b)) ≡ or_next o l.index (search_from v (block_count v l.inode - b) Unused l.inode b)
  plain_seek_full (Some f) is = refl
  plain_seek_full None is =
      let few : b ≤ 2 = blocks_few v l full is in
      let all : suc (most_blocks - 1 - b) ≡ block_count v l.inode - b = omega (arith, few, blocks_full v l.inode full) in
      plain_full v mark (most_blocks - 1 - b) l.inode b l.index ∙ ap (λ (n : ℕ). search_from v n Unused l.inode b l.index) all

pub plain_seek : (v : Version) (mark : Option Acts) (l : Loaded) → plain (seek_free v mark l) ≡ search v Unused l
plain_seek v mark l = by (nat_lt (slot_count v l.inode) (most_slots v)) refl
  where
    by : (b : Bool) → nat_lt (slot_count v l.inode) (most_slots v) ≡ b
        → plain (if b then search v Unused l else seek_full v mark l) ≡ search v Unused l
    by true room = plain_search v Unused l
    by false full =
        let many : most_slots v ≤ slot_count v l.inode = grind (arith, nat_tests, full) in
        plain_seek_full v mark l (omega (arith, many)) (first_of v Unused l.inode l.index) refl
