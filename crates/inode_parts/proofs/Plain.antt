-- Programs that several operations have in them: without marks they are the code's.
use Rattle.inode_parts.proofs.Vocabulary.{◌≡◌, ℕ, ◌==◌, Bool, true, false, if◌then◌else◌, List, [], ◌∷◌, Option, Some, None, refl, ◌∙◌, slice_index, take, Dinode, Loaded, Super, numbers_in, Prog, Do, bind, plain, unmarked, bind-assoc, plain-bind, fetch, read_unless, clear_bit, free_block, inode_block, give_back, load_unless, put_inode, store_inode, address, table_of, free_numbers, free_table, free_in_table, free_indirect, fetch_at, fetch_block, fetch_named, fetch_number, give_fetched, direct, Address, Direct, InTable, give_content, Acts}
use Rattle.fs_machine.specs.Steps as steps
use Rattle.inodes_on_blocks.specs.Handlers.{P}

pub plain_fetch : (b : ℕ) → plain (fetch {M = Acts} b) ≡ fetch b
plain_fetch b = λ i. Do (steps.Get b) unmarked (λ content. read content i)
  where
    read : (content : Option (List ℕ)) → plain (read_unless {M = Acts} b content) ≡ read_unless b content
    read None = refl
    read (Some bytes) = refl

pub plain_load : (inodestart n : ℕ) (content : Option Loaded) → plain (load_unless {M = Acts} inodestart n content) ≡ load_unless inodestart n content
plain_load inodestart n (Some l) = refl
plain_load inodestart n None =
    plain-bind (fetch {M = Acts} (inode_block inodestart n)) (give_back (inode_block inodestart n) n)
    ∙ (λ i. bind (plain_fetch (inode_block inodestart n) i) (λ block. plain (give_back {M = Acts} (inode_block inodestart n) n block)))

pub plain_store : (inodestart n : ℕ) (d : Dinode) → plain (store_inode {M = Acts} inodestart n d) ≡ store_inode inodestart n d
plain_store inodestart n d =
    plain-bind (fetch {M = Acts} (inode_block inodestart n)) (put_inode (inode_block inodestart n) n d)
    ∙ (λ i. bind (plain_fetch (inode_block inodestart n) i) (λ block. plain (put_inode {M = Acts} (inode_block inodestart n) n d block)))

-- ---- blocks of contents

plain_number : (b : ℕ) → plain (fetch_number {M = Acts} b) ≡ fetch_number b
plain_number b = plain-bind (fetch {M = Acts} b) (give_fetched b) ∙ (λ i. bind (plain_fetch b i) (give_fetched b))

plain_at : (d : Dinode) (a : Address) → plain (fetch_at {M = Acts} d a) ≡ fetch_at d a
plain_at d (Direct i) = plain_number (slice_index d.addrs i)
plain_at d (InTable i) =
    plain-bind (fetch {M = Acts} (table_of d)) (fetch_named (table_of d) i)
    ∙ (λ j. bind (plain_fetch (table_of d) j) (λ bytes. Do (steps.Put (table_of d) None) unmarked (λ _. plain_number (slice_index (numbers_in bytes) i) j)))

pub plain_block : (d : Dinode) (k : ℕ) → plain (fetch_block {M = Acts} d k) ≡ fetch_block d k
plain_block d k = plain_at d (address k)

-- ---- contents given back

plain_free_block : (at b : ℕ) → plain (free_block {M = Acts} at b) ≡ free_block at b
plain_free_block at b =
    plain-bind (fetch {M = Acts} at) (clear_bit at b) ∙ (λ i. bind (plain_fetch at i) (λ bitmap. plain (clear_bit {M = Acts} at b bitmap)))

plain_numbers : {B : Type 0} (at : ℕ) (bs : List ℕ) (after : P B) → plain (free_numbers at bs after) ≡ free_numbers at bs (plain after)
plain_numbers at [] after = refl
plain_numbers at (b ∷ bs) after = by (b == 0) (plain_numbers at bs after)
  where
    by : (z : Bool) → plain (free_numbers at bs after) ≡ free_numbers at bs (plain after)
        → plain (if z then free_numbers at bs after else bind (free_block at b) (λ _. free_numbers at bs after)) ≡ (if z then free_numbers at bs (plain after) else bind (free_block at b) (λ _. free_numbers at bs (plain after)))
    by true rest = rest
    by false rest = plain-bind (free_block at b) (λ _. free_numbers at bs after) ∙ (λ i. bind (plain_free_block at b i) (λ _. rest i))

plain_table : {B : Type 0} (at table : ℕ) (after : P B) → plain (free_table at table after) ≡ free_table at table (plain after)
plain_table at table after =
    λ i. Do (steps.Put table None) unmarked (λ _. (plain-bind (free_block at table) (λ _. after) ∙ (λ j. bind (plain_free_block at table j) (λ _. plain after))) i)

plain_indirect : {B : Type 0} (at table : ℕ) (after : P B) → plain (free_indirect at table after) ≡ free_indirect at table (plain after)
plain_indirect at table after = by (table == 0)
  where
    in_table : (bytes : List ℕ) → plain (free_in_table at table after bytes) ≡ free_in_table at table (plain after) bytes
    in_table bytes = plain_numbers at (numbers_in bytes) (free_table at table after) ∙ (λ i. free_numbers at (numbers_in bytes) (plain_table at table after i))

    by : (z : Bool) → plain (if z then after else bind (fetch table) (free_in_table at table after)) ≡ (if z then plain after else bind (fetch table) (free_in_table at table (plain after)))
    by true = refl
    by false = plain-bind (fetch table) (free_in_table at table after) ∙ (λ i. bind (plain_fetch table i) (λ bytes. in_table bytes i))

-- what follows goes on after them
numbers_bind : {M B C : Type 0} (at : ℕ) (bs : List ℕ) (after : Prog steps.Op steps.Answer M B) (k : B → Prog steps.Op steps.Answer M C) → bind (free_numbers at bs after) k ≡ free_numbers at bs (bind after k)
numbers_bind {M} {B} {C} at [] after k = refl
numbers_bind {M} {B} {C} at (b ∷ bs) after k = by (b == 0) (numbers_bind at bs after k)
  where
    by : (z : Bool) → bind (free_numbers at bs after) k ≡ free_numbers at bs (bind after k)
        → bind (if z then free_numbers at bs after else bind (free_block at b) (λ _. free_numbers at bs after)) k ≡ (if z then free_numbers at bs (bind after k) else bind (free_block at b) (λ _. free_numbers at bs (bind after k)))
    by true rest = rest
    by false rest = bind-assoc (free_block at b) (λ _. free_numbers at bs after) k ∙ (λ i. bind (free_block at b) (λ _. rest i))

indirect_bind : {M B C : Type 0} (at table : ℕ) (after : Prog steps.Op steps.Answer M B) (k : B → Prog steps.Op steps.Answer M C) → bind (free_indirect at table after) k ≡ free_indirect at table (bind after k)
indirect_bind {M} {B} {C} at table after k = by (table == 0)
  where
    last : bind (free_table at table after) k ≡ free_table at table (bind after k)
    last = λ i. Do (steps.Put table None) unmarked (λ _. bind-assoc (free_block at table) (λ _. after) k i)

    in_table : (bytes : List ℕ) → bind (free_in_table at table after bytes) k ≡ free_in_table at table (bind after k) bytes
    in_table bytes = numbers_bind at (numbers_in bytes) (free_table at table after) k ∙ (λ i. free_numbers at (numbers_in bytes) (last i))

    by : (z : Bool) → bind (if z then after else bind (fetch table) (free_in_table at table after)) k ≡ (if z then bind after k else bind (fetch table) (free_in_table at table (bind after k)))
    by true = refl
    by false = bind-assoc (fetch table) (free_in_table at table after) k ∙ (λ i. bind (fetch table) (λ bytes. in_table bytes i))

module _ (sizes : Super) where
  -- all blocks of a record given back, whoever does it
  abbrev pub emptied : {M B : Type 0} → Dinode → Prog steps.Op steps.Answer M B → Prog steps.Op steps.Answer M B
  emptied d after = free_numbers sizes.bmapstart (take direct d.addrs) (free_indirect sizes.bmapstart (table_of d) after)

  pub plain_content : {B : Type 0} (d : Dinode) (after : P B) → plain (give_content sizes d after) ≡ emptied d (plain after)
  plain_content d after =
      plain_numbers sizes.bmapstart (take direct d.addrs) (free_indirect sizes.bmapstart (table_of d) after)
      ∙ (λ i. free_numbers sizes.bmapstart (take direct d.addrs) (plain_indirect sizes.bmapstart (table_of d) after i))

  pub content_bind : {M B C : Type 0} (d : Dinode) (after : Prog steps.Op steps.Answer M B) (k : B → Prog steps.Op steps.Answer M C) → bind (emptied d after) k ≡ emptied d (bind after k)
  content_bind d after k =
      numbers_bind sizes.bmapstart (take direct d.addrs) (free_indirect sizes.bmapstart (table_of d) after) k
      ∙ (λ i. free_numbers sizes.bmapstart (take direct d.addrs) (indirect_bind sizes.bmapstart (table_of d) after k i))
