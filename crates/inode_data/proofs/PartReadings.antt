-- The blocks of a read.
use Rattle.inode_data.proofs.Vocabulary.{◌≡◌, ◌≢◌, ℕ, zero, suc, ◌-◌, ◌/◌, List, refl, ap, arith, Dinode, block_len, bind, P, FetchedBlock, FilledMemory, blocks_between, end_of, fetch_block, next_block, read_blocks, read_from, read_part, filled_to}

pub next_read : (left : ℕ) (d : Dinode) (from upto : ℕ) (m : FilledMemory) (p : P FetchedBlock) → left ≢ 0 → p ≡ fetch_block d (from / block_len)
    → bind p (read_part (read_blocks (left - 1) d (next_block from) upto) from upto m) ≡ read_blocks left d from upto m
unfolding read_blocks
next_read zero d from upto m p some e = absurd (some refl)
next_read (suc n) d from upto m p some e =
    let less : suc n - 1 ≡ n = omega arith in
    rw less (ap (λ (q : P FetchedBlock). bind q (read_part (read_blocks n d (next_block from) upto) from upto m)) e)

-- the whole read
pub whole_read : (d : Dinode) (offset n left upto : ℕ) (bytes : List ℕ) → upto ≡ end_of d offset n → left ≡ blocks_between offset upto
    → let p : P FilledMemory = read_blocks left d offset upto (filled_to 0 bytes) in p ≡ read_from d offset n bytes
whole_read d offset n left upto bytes e f = rw (f, e) refl
