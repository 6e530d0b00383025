-- The blocks of a writing.
use Rattle.inode_data.proofs.Vocabulary.{◌≡◌, ◌≢◌, ℕ, zero, suc, ◌+◌, ◌-◌, ◌/◌, List, None, length, drop, refl, ap, sym, ◌∙◌, arith, drop-drop, block_len, Dinode, bind, bind-assoc, P, store, blocks_between, WriteResult, grown, locate, write_located, write_blocks, write_part, Located, Hand, store_left, StoreInode, after_location, blocks_behind, bytes_left, give_written, next_count, stored, write_rest, written_so, IsPast, Writing}

none_left : (n : ℕ) (w : Writing) (d : Dinode) (bytes : List ℕ) → n ≡ 0 → bind (write_blocks n w.sizes w.at (bytes_left w bytes) d) (stored w) ≡ stored w (written_so d w)
unfolding write_blocks
none_left n w d bytes e = rw e refl

-- there is no next one
pub ends_there : (w : Writing) (d : Dinode) (bytes : List ℕ) → w.left ≡ 0 → write_rest w d bytes ≡ stored w (written_so d w)
ends_there w d bytes e = none_left w.left w d bytes e

located_so : (n : ℕ) (w : Writing) (d : Dinode) (bytes : List ℕ) (p : P Located) → n ≢ 0 → p ≡ locate w.sizes d (w.at / block_len)
    → bind p (after_location (record w { left = n - 1 }) bytes) ≡ bind (write_blocks n w.sizes w.at (bytes_left w bytes) d) (stored w)
unfolding write_blocks
located_so zero w d bytes p some e = absurd (some refl)
located_so (suc n) w d bytes p some e =
    let less : suc n - 1 ≡ n = omega arith in
    rw less
    (ap (λ (q : P Located). bind q (after_location (record w { left = n }) bytes)) e
    ∙ sym (bind-assoc (locate w.sizes d (w.at / block_len)) (write_located (blocks_behind (record w { left = n }) bytes) w.at (bytes_left w bytes)) (stored w)))

-- there is one, and it is sought
pub goes_on_so : (w : Writing) (d : Dinode) (bytes : List ℕ) (p : P Located) → w.left ≢ 0 → p ≡ locate w.sizes d (w.at / block_len)
    → bind p (after_location (record w { left = w.left - 1 }) bytes) ≡ write_rest w d bytes
goes_on_so w d bytes p some e = located_so w.left w d bytes p some e

-- the inode is stored with the record that it has grown to
pub stored_so : (w : Writing) (d to : Dinode) (m : StoreInode) (h : Hand) → store_left m h ≡ store w.sizes.inodestart w.number to → to ≡ grown (written_so d w)
    → bind (store_left m h) (give_written (record { inode = to; upto = w.at })) ≡ stored w (written_so d w)
stored_so w d to m h program is =
    ap (λ (p : P (Unit {0})). bind p (give_written (record { inode = to; upto = w.at }))) program
    ∙ ap (λ (e : Dinode). let p : P WriteResult = bind (store w.sizes.inodestart w.number e) (give_written (record { inode = e; upto = w.at })) in p) is

-- if no block was to be had, the inode is stored
pub none_so : (w : Writing) (l : Located) (bytes : List ℕ) → l.number ≡ None → stored w (written_so l.inode w) ≡ after_location w bytes l
none_so w l bytes e = rw e refl

-- the whole writing
pub whole_so : (w : Writing) (bytes : List ℕ) (count : ℕ) (d : Dinode) → w.done ≡ 0 → w.left ≡ blocks_between w.at (w.at + count) → length bytes ≡ count
    → write_rest w d bytes ≡ write_part w.sizes w.number d w.at bytes
whole_so w bytes count d done left e = rw (done, left, e) refl

-- and the writing after the next block
pub past_so : (w next : Writing) (d : Dinode) (bytes : List ℕ) → IsPast w bytes next → write_rest next d bytes ≡ bind (blocks_behind w bytes d) (stored w)
past_so w next d bytes past =
    let rest : drop next.done bytes ≡ drop (next_count w bytes) (bytes_left w bytes) = ap (λ n. drop n bytes) past.done ∙ sym (drop-drop (next_count w bytes) w.done bytes) in
    rw (past.number, past.sizes, past.at, past.left, rest) refl
