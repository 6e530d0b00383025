-- The slots of a directory by their blocks and places there, and one that is put: from the laws of widths.
use Rattle.std.proofs.Common.{◌≡◌, ◌≢◌, suc, ◌⊎◌, sym, ap, ◌∙◌, arith, ⊎_elim}
use Rattle.std.specs.Prelude.{ℕ, max, ◌+◌, ◌*◌, ◌/◌, ◌%◌, ◌<◌, ◌≤◌}
use Rattle.std.proofs.Math.Nat.{mul-suc}
use Rattle.std.proofs.lemmas.Bool.{cases_lt}
use Rattle.image_versions.specs.declared.version.Version.{Version}
use Rattle.image_versions.specs.Shared.{block_len}
use Rattle.image_versions.specs.Versions.{dirent_len_of, dirents_per_block_of}
use Rattle.image_versions.proofs.Places.{in_range, in_their_blocks, inside, lie_apart}

-- a slot's block and its place there say which slot it is
pub are_places : (v : Version) (s q : ℕ) → s / dirents_per_block_of v ≡ q / dirents_per_block_of v
    → s % dirents_per_block_of v ≡ q % dirents_per_block_of v → s ≡ q
are_places v s q block place =
    let same : dirent_len_of v * s ≡ dirent_len_of v * q =
    (in_their_blocks v s).1
    ∙ ap (λ (b : ℕ). block_len * b + dirent_len_of v * (s % dirents_per_block_of v)) block
    ∙ ap (λ (p : ℕ). block_len * (q / dirents_per_block_of v) + dirent_len_of v * p) place
    ∙ sym (in_their_blocks v q).1 in
    let wide : 16 ≤ dirent_len_of v = (in_range v).2 in
    ⊎_elim
    (λ (less : s < q). absurd (let a = lie_apart v s q less in omega (arith, a, wide, same)))
    (λ (le : q ≤ s).
    ⊎_elim
    (λ (less : q < s). absurd (let a = lie_apart v q s less in omega (arith, a, wide, same)))
    (λ (ge : s ≤ q). omega (arith, le, ge))
    (cases_lt q s))
    (cases_lt s q)

-- more slots take no fewer bytes
more_bytes : (v : Version) (p q : ℕ) → p ≤ q → dirent_len_of v * p ≤ dirent_len_of v * q
more_bytes v p q le =
    ⊎_elim
    (λ (less : p < q). let a = lie_apart v p q less in omega (arith, a))
    (λ (ge : q ≤ p).
    let same : p ≡ q = omega (arith, le, ge) in
    let e : dirent_len_of v * p ≡ dirent_len_of v * q = ap (λ (n : ℕ). dirent_len_of v * n) same in
    omega (arith, e))
    (cases_lt p q)

-- One slot is put among the first n, or after them. Then there are as many bytes as slots, and those that weren't there
-- before are in the slot's own block.
pub one_grows : (v : Version) (n s : ℕ) → s ≤ n
    → (max (dirent_len_of v * n) (dirent_len_of v * suc s) ≡ dirent_len_of v * max n (suc s))
    × ((k : ℕ) → block_len * k < max (dirent_len_of v * n) (dirent_len_of v * suc s) → k ≢ s / dirents_per_block_of v
    → block_len * k < dirent_len_of v * n)
one_grows v n s past =
    ⊎_elim
    (λ (last : n < suc s).
    let is : n ≡ s = omega (arith, last, past) in
    let grows : dirent_len_of v * n ≤ dirent_len_of v * suc s = more_bytes v n (suc s) (omega (arith, last)) in
    let wide : max (dirent_len_of v * n) (dirent_len_of v * suc s) ≡ dirent_len_of v * suc s = omega (arith, grows) in
    let count : max n (suc s) ≡ suc s = omega (arith, last) in (
      wide ∙ ap (λ (m : ℕ). dirent_len_of v * m) (sym count),
      λ k low apart.
          let one = mul-suc (dirent_len_of v) s in
          let at = (in_their_blocks v s).1 in
          let place = inside v (s % dirents_per_block_of v) (in_their_blocks v s).0 in
          let bytes : dirent_len_of v * n ≡ dirent_len_of v * s = ap (λ (m : ℕ). dirent_len_of v * m) is in
          omega (arith, low, wide, one, at, place, bytes, apart),
    ))
    (λ (among : suc s ≤ n).
    let grows : dirent_len_of v * suc s ≤ dirent_len_of v * n = more_bytes v (suc s) n among in
    let wide : max (dirent_len_of v * n) (dirent_len_of v * suc s) ≡ dirent_len_of v * n = omega (arith, grows) in
    let count : max n (suc s) ≡ n = omega (arith, among) in
    (wide ∙ ap (λ (m : ℕ). dirent_len_of v * m) (sym count), λ k low apart. omega (arith, low, wide)))
    (cases_lt n (suc s))
