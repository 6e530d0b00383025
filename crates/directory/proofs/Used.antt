-- The first used slot from a place on.
use Rattle.directory.proofs.Vocabulary.{Version, ◌≡◌, ℕ, ◌<◌, ◌≤◌, true, false, ◌&&◌, nat_le, List, Some, None, sym, arith, ⊎_elim, cases_lt, le-leb, lt-leb, and_left, and_right, and_from, dirent_at, first_used, is_used, this_below, none_below}

module _ (v : Version) (block : List ℕ) (from : ℕ) where
  -- none up to here
  abbrev NoneUsed : ℕ → Type 0
  NoneUsed n = (k : ℕ) → from ≤ k → k < n → is_used (dirent_at v k block) ≡ false

  passes_none : (n : ℕ) → NoneUsed n → (k : ℕ) → k < n → (nat_le from k && is_used (dirent_at v k block)) ≡ false
  passes_none n none k h =
      ⊎_elim
      (λ (low : k < from). and_left (nat_le from k) (is_used (dirent_at v k block)) (lt-leb from k low))
      (λ (high : from ≤ k). and_right (nat_le from k) (is_used (dirent_at v k block)) (none k high h))
      (cases_lt k from)

  pub no_used : (limit n : ℕ) → limit ≤ n → ((k : ℕ) → from ≤ k → k < n → is_used (dirent_at v k block) ≡ false) → None ≡ first_used v from limit block
  unfolding first_used
  no_used limit n h none = sym (none_below (λ p. nat_le from p && is_used (dirent_at v p block)) limit (λ k l. passes_none n none k (omega arith)))

  pub used_here : (limit n : ℕ) → n < limit → from ≤ n → is_used (dirent_at v n block) ≡ true → ((k : ℕ) → from ≤ k → k < n → is_used (dirent_at v k block) ≡ false)
      → Some n ≡ first_used v from limit block
  unfolding first_used
  used_here limit n h l is none =
      sym (this_below (λ p. nat_le from p && is_used (dirent_at v p block)) limit n h (and_from (nat_le from n) (is_used (dirent_at v n block)) (le-leb from n l) is) (passes_none n none))
