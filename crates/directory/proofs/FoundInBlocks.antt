-- What is found in the blocks of a directory, one after the other.
use Rattle.directory.proofs.Vocabulary.{◌≡◌, ℕ, ◌+◌, ◌-◌, ◌*◌, ◌<◌, ◌≤◌, nat_le, ◌&&◌, Bool, true, false, List, Option, Some, None, refl, sym, ap, ◌∙◌, arith, ⊎_elim, cases_lt, le-leb, lt-leb, option_map, Dinode, Dirent, dirent_at, first_below, FirstIs, first_is, Found, is_used, first_named, first_free, first_used, Aim, Named, Unused, Entry, slot_count, slots_in, first_in, found_at, found_in, slot_at, is_sought, number_of, IsFirst, dirents_per_block_of, Version, in_block}
use Rattle.directory.proofs.EntryNumbers.{sought-number}

-- ---- the slots of a block

first-same : (p q : ℕ → Bool) (n : ℕ) (o : Option ℕ) → ((k : ℕ) → p k ≡ q k) → FirstIs p n o → FirstIs q n o
first-same p q n None same f = λ k h. sym (same k) ∙ f k h
first-same p q n (Some b) same f = (f.0, sym (same b) ∙ f.1, λ k h. sym (same k) ∙ f.2 k h)

past_two : (v : Version) (k p : ℕ) → nat_le (2 - dirents_per_block_of v * k) p ≡ nat_le 2 (dirents_per_block_of v * k + p)
past_two v k p =
    ⊎_elim
    (λ (low : p < 2 - dirents_per_block_of v * k). lt-leb (2 - dirents_per_block_of v * k) p low
    ∙ sym (lt-leb 2 (dirents_per_block_of v * k + p) (omega arith)))
    (λ (high : 2 - dirents_per_block_of v * k ≤ p). le-leb (2 - dirents_per_block_of v * k) p high
    ∙ sym (le-leb 2 (dirents_per_block_of v * k + p) (omega arith)))
    (cases_lt p (2 - dirents_per_block_of v * k))

-- the first slot of block k that is sought
first-in : (v : Version) (aim : Aim) (k limit : ℕ) (block : List ℕ) → FirstIs (λ p. is_sought aim (dirents_per_block_of v * k + p) (dirent_at v p block)) limit (first_in v aim k limit block)
unfolding first_named first_free first_used
first-in v (Named name) k limit block = first_is (λ p. is_sought (Named name) (dirents_per_block_of v * k + p) (dirent_at v p block)) limit
first-in v Unused k limit block = first_is (λ p. is_sought Unused (dirents_per_block_of v * k + p) (dirent_at v p block)) limit
first-in v Entry k limit block =
    first-same (λ p. nat_le (2 - dirents_per_block_of v * k) p && is_used (dirent_at v p block))
    (λ p. is_sought Entry (dirents_per_block_of v * k + p) (dirent_at v p block)) limit
    (first_below (λ p. nat_le (2 - dirents_per_block_of v * k) p && is_used (dirent_at v p block)) limit) (λ p. ap (λ b. b && is_used (dirent_at v p block)) (past_two v k p))
    (first_is (λ p. nat_le (2 - dirents_per_block_of v * k) p && is_used (dirent_at v p block)) limit)

-- ---- the slots of a directory

-- of the slots from lo up to hi none is sought, or this is the first one
abbrev pub IsBetween : Aim → (ℕ → Option Dirent) → (lo hi : ℕ) → Option Found → Type 0
IsBetween aim slots lo hi None = (s : ℕ) → lo ≤ s → s < hi → is_sought aim s (slots s) ≡ false
IsBetween aim slots lo hi (Some f) =
    (lo ≤ f.slot) × (f.slot < hi) × (is_sought aim f.slot (slots f.slot) ≡ true) × (f.number ≡ number_of (slots f.slot))
    × ((s : ℕ) → lo ≤ s → s < f.slot → is_sought aim s (slots s) ≡ false)

module _ (aim : Aim) (slots : ℕ → Option Dirent) where
  abbrev is_at : ℕ → Bool
  is_at s = is_sought aim s (slots s)

  -- if none is sought before mid
  pub behind_none : (lo mid hi : ℕ) (o : Option Found) → lo ≤ mid → mid ≤ hi → ((s : ℕ) → lo ≤ s → s < mid → is_at s ≡ false) → IsBetween aim slots mid hi o → IsBetween aim slots lo hi o
  behind_none lo mid hi o l h none rest = joins o rest
    where
      below : (s : ℕ) → lo ≤ s → (mid ≤ s → is_at s ≡ false) → is_at s ≡ false
      below s a high = ⊎_elim (none s a) high (cases_lt s mid)

      joins : (o : Option Found) → IsBetween aim slots mid hi o → IsBetween aim slots lo hi o
      joins None f = λ s a b. below s a (λ c. f s c b)
      joins (Some f) g = (omega (arith, g.0), g.1, g.2, g.3, λ s a b. below s a (λ c. g.4 s c b))

  -- if it was found before mid
  pub before_mid : (lo mid hi : ℕ) (f : Found) → mid ≤ hi → IsBetween aim slots lo mid (Some f) → IsBetween aim slots lo hi (Some f)
  before_mid lo mid hi f h g = (g.0, omega (arith, g.1), g.2, g.3, g.4)

  -- if nothing is between
  pub widen : (lo mid hi : ℕ) (o : Option Found) → lo ≤ mid → ((s : ℕ) → lo ≤ s → s < mid → s < hi → ⊥) → IsBetween aim slots mid hi o → IsBetween aim slots lo hi o
  widen lo mid hi None l gap f = λ s a b. ⊎_elim (λ (c : s < mid). absurd (gap s a c b)) (λ (c : mid ≤ s). f s c b) (cases_lt s mid)
  widen lo mid hi (Some f) l gap g =
      (omega (arith, g.0), g.1, g.2, g.3, λ s a b. ⊎_elim (λ (c : s < mid). absurd (gap s a c (omega (arith, g.1)))) (λ (c : mid ≤ s). g.4 s c b) (cases_lt s mid))

  pub first_of_all : (lo hi : ℕ) (o : Option Found) → lo ≡ 0 → IsBetween aim slots lo hi o → IsFirst aim slots hi o
  first_of_all lo hi None e f = λ s h. f s (omega arith) h
  first_of_all lo hi (Some f) e g = (g.1, g.2, g.3, λ s h. g.4 s (omega arith) h)

-- ---- a block of a directory

module _ (v : Version) (content : ℕ → List ℕ) (slots : ℕ → Option Dirent) (count : ℕ) (shown : (s : ℕ) → s < count → slot_at v content s ≡ slots s) where
  pub slot-is : (k p : ℕ) → p < dirents_per_block_of v → dirents_per_block_of v * k + p < count
      → slots (dirents_per_block_of v * k + p) ≡ dirent_at v p (content k)
  slot-is k p h few =
      let here = in_block v k p h in
      let e : slot_at v content (dirents_per_block_of v * k + p) ≡ dirent_at v p (content k) = rw (here.0, here.1) refl in
      sym (shown (dirents_per_block_of v * k + p) few) ∙ e

  module _ (aim : Aim) (k limit : ℕ) (few : limit ≤ dirents_per_block_of v) (within : (p : ℕ) → p < limit
      → dirents_per_block_of v * k + p < count) where
    -- the first slot of the block
    abbrev low : ℕ
    low = dirents_per_block_of v * k

    tested : (s : ℕ) → low ≤ s → s < low + limit → is_at aim slots s ≡ is_sought aim (low + (s - low)) (dirent_at v (s - low) (content k))
    tested s l h =
        let e : s ≡ low + (s - low) = omega arith in
        ap (is_at aim slots) e ∙ ap (is_sought aim (low + (s - low))) (slot-is k (s - low) (omega arith) (within (s - low) (omega arith)))

    block-finds : (o : Option ℕ) → FirstIs (λ p. is_sought aim (low + p) (dirent_at v p (content k))) limit o
        → IsBetween aim slots low (low + limit) (option_map (found_at v k (content k)) o)
    block-finds None f = λ s l h. tested s l h ∙ f (s - low) (omega arith)
    block-finds (Some p) f =
        let there : slots (low + p) ≡ dirent_at v p (content k) = slot-is k p (omega (arith, f.0)) (within p f.0) in (
          omega arith,
          omega (arith, f.0),
          ap (is_sought aim (low + p)) there ∙ f.1,
          sought-number v (content k) p aim (low + p) f.1 ∙ ap number_of (sym there),
          λ s l h. tested s l (omega (arith, f.0)) ∙ f.2 (s - low) (omega arith),
        )

-- what block k has
pub found_in_block : (v : Version) (content : ℕ → List ℕ) (slots : ℕ → Option Dirent) (d : Dinode) → ((s : ℕ) → s < slot_count v d → slot_at v content s ≡ slots s) → (aim : Aim) (k : ℕ)
    → IsBetween aim slots (dirents_per_block_of v * k) (dirents_per_block_of v * k + slots_in v d k) (found_in v aim d k (content k))
unfolding found_in
found_in_block v content slots d shown aim k =
    block-finds v content slots (slot_count v d) shown aim k (slots_in v d k) (omega arith) (λ p h. omega arith) (first_in v aim k (slots_in v d k) (content k)) (first-in v aim k (slots_in v d k) (content k))
