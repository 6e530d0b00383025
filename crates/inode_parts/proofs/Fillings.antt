-- Bytes read into memory: whatever was there before, the same are read, and after them it stays.
use Rattle.inode_parts.proofs.Vocabulary.{◌≡◌, ℕ, zero, suc, ◌+◌, ◌/◌, List, ◌++◌, length, drop, None, sym, ◌∙◌, ap, append_assoc, length-append, drop-append-add, take-append_seam, drop-drop, Dinode, overwrite, block_len, Do, bind, plain, unmarked, bind-assoc, plain-bind, FetchedBlock, FilledMemory, fetch_block, filled_with, next_block, part_of, read_blocks, read_part}
use Rattle.fs_machine.specs.Machines as code
use Rattle.fs_machine.specs.Steps as steps
use Rattle.inodes_on_blocks.specs.Handlers.{P}
use Rattle.inode_parts.proofs.Plain.{plain_block}

module _ (buffer : List ℕ) where
  -- these at its front
  abbrev pub within : List ℕ → FilledMemory
  within b = record { count = length b; bytes = b ++ drop (length b) buffer }

  within_next : (b part : List ℕ) → filled_with (within b) part ≡ within (b ++ part)
  within_next b part = λ i. record { count = sym (length-append b part) i; bytes = bytes i }
    where
      bytes : overwrite (b ++ drop (length b) buffer) (length b) part ≡ (b ++ part) ++ drop (length (b ++ part)) buffer
      bytes =
          (λ i. take-append_seam b (drop (length b) buffer) i ++ (part ++ drop-append-add b (drop (length b) buffer) (length part) i))
          ∙ (λ i. b ++ (part ++ drop-drop (length part) (length b) buffer i))
          ∙ sym (append_assoc b part (drop (length b + length part) buffer))
          ∙ (λ i. (b ++ part) ++ drop (sym (length-append b part) i) buffer)

-- whatever the memory, what comes then is the same if it is by the bytes
module _ {A : Type 0} (x y : List ℕ) (f : FilledMemory → P A) (g : FilledMemory → code.P A) (same : (b : List ℕ) → plain (f (within x b)) ≡ g (within y b)) where
  pub blocks_same : (n : ℕ) (d : Dinode) (from upto : ℕ) (b : List ℕ) → plain (bind (read_blocks n d from upto (within x b)) f) ≡ bind (read_blocks n d from upto (within y b)) g
  unfolding read_blocks
  blocks_same zero d from upto b = same b
  blocks_same (suc n) d from upto b =
      ap plain (bind-assoc (fetch_block d (from / block_len)) (read_part (read_blocks n d (next_block from) upto) from upto (within x b)) f)
      ∙ plain-bind (fetch_block d (from / block_len)) (λ t. bind (read_part (read_blocks n d (next_block from) upto) from upto (within x b) t) f)
      ∙ (λ i. bind (plain_block d (from / block_len) i) (λ t. part (λ p. blocks_same n d (next_block from) upto (b ++ p)) t i))
      ∙ sym (bind-assoc (fetch_block d (from / block_len)) (read_part (read_blocks n d (next_block from) upto) from upto (within y b)) g)
    where
      Goes : List ℕ → Type 0
      Goes p = plain (bind (read_blocks n d (next_block from) upto (within x (b ++ p))) f) ≡ bind (read_blocks n d (next_block from) upto (within y (b ++ p))) g

      more : (p : List ℕ) → Goes p → plain (bind (read_blocks n d (next_block from) upto (filled_with (within x b) p)) f) ≡ bind (read_blocks n d (next_block from) upto (filled_with (within y b) p)) g
      more p goes =
          ap (λ (m : FilledMemory). plain (bind (read_blocks n d (next_block from) upto m) f)) (within_next x b p)
          ∙ goes
          ∙ ap (λ (m : FilledMemory). bind (read_blocks n d (next_block from) upto m) g) (sym (within_next y b p))

      part : ((p : List ℕ) → Goes p) → (t : FetchedBlock)
          → plain (bind (read_part (read_blocks n d (next_block from) upto) from upto (within x b) t) f) ≡ bind (read_part (read_blocks n d (next_block from) upto) from upto (within y b) t) g
      part all t = λ i. Do (steps.Put t.number None) unmarked (λ _. more (part_of from upto t.bytes) (all (part_of from upto t.bytes)) i)

-- at each end these are at its front
module _ {A : Type 0} (y : List ℕ) (f g : FilledMemory → code.P A) (same : (b : List ℕ) → f (within y b) ≡ g (within y b)) where
  pub blocks_fill : (n : ℕ) (d : Dinode) (from upto : ℕ) (b : List ℕ) → bind (read_blocks n d from upto (within y b)) f ≡ bind (read_blocks n d from upto (within y b)) g
  unfolding read_blocks
  blocks_fill zero d from upto b = same b
  blocks_fill (suc n) d from upto b =
      bind-assoc (fetch_block d (from / block_len)) (read_part (read_blocks n d (next_block from) upto) from upto (within y b)) f
      ∙ (λ i. bind (fetch_block d (from / block_len)) (λ t. Do (steps.Put t.number None) unmarked (λ _. more (part_of from upto t.bytes) (blocks_fill n d (next_block from) upto (b ++ part_of from upto t.bytes)) i)))
      ∙ sym (bind-assoc (fetch_block d (from / block_len)) (read_part (read_blocks n d (next_block from) upto) from upto (within y b)) g)
    where
      more : (p : List ℕ) → bind (read_blocks n d (next_block from) upto (within y (b ++ p))) f ≡ bind (read_blocks n d (next_block from) upto (within y (b ++ p))) g
          → bind (read_blocks n d (next_block from) upto (filled_with (within y b) p)) f ≡ bind (read_blocks n d (next_block from) upto (filled_with (within y b) p)) g
      more p goes =
          ap (λ (m : FilledMemory). bind (read_blocks n d (next_block from) upto m) f) (within_next y b p)
          ∙ goes
          ∙ ap (λ (m : FilledMemory). bind (read_blocks n d (next_block from) upto m) g) (sym (within_next y b p))
