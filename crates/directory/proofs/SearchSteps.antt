-- A number of blocks of a directory searched, the next one first.
use Rattle.directory.proofs.Vocabulary.{◌≡◌, ◌≢◌, ℕ, zero, suc, ◌+◌, ◌-◌, refl, ap, ◌∙◌, arith, bind, P, FetchedBlock, fetch_block, Dinode, Version, Aim, IndexState, look_at, search_from}

pub search_some : (v : Version) (aim : Aim) (d : Dinode) (k : ℕ) (x : IndexState) (n : ℕ) (p : P FetchedBlock) → n ≢ 0 → p ≡ fetch_block d k
    → bind p (look_at v aim d k x (search_from v (n - 1) aim d (k + 1))) ≡ search_from v n aim d k x
unfolding search_from
search_some v aim d k x zero p some e = absurd (some refl)
search_some v aim d k x (suc n) p some e =
    let less : suc n - 1 ≡ n = omega arith in
    ap (λ (q : P FetchedBlock). bind q (look_at v aim d k x (search_from v (suc n - 1) aim d (k + 1)))) e
    ∙ ap (λ (m : ℕ). bind (fetch_block d k) (look_at v aim d k x (search_from v m aim d (k + 1)))) less
