-- Bits that are cleared, one after the other.
use Rattle.image_tree.proofs.Vocabulary.{◌≡◌, ◌≢◌, ◌==◌, inl, inr, ℕ, ◌+◌, ◌<◌, Bool, false, if◌then◌else◌, List, length, get_or, refl, sym, ◌∙◌, ap, subst, arith, All, cases_eq, eq-eqb, ne_eqb, get_or_default, bit_of}

-- the bits of the first i of these numbers are clear, except for 0's; no other bit is changed
pub record ClearedTo (first now numbers : List ℕ) (i : ℕ) : Type 0 where
  pub cleared : (k : ℕ) → k < i → get_or numbers k 0 ≢ 0 → bit_of now (get_or numbers k 0) ≡ false
  pub kept : (b : ℕ) → All (λ c. c ≢ 0 → c ≢ b) numbers → bit_of now b ≡ bit_of first b
  pub fewer : (b : ℕ) → bit_of first b ≡ false → bit_of now b ≡ false

pub cleared_first : (first numbers : List ℕ) → ClearedTo first first numbers 0
cleared_first first numbers = record { cleared = λ k lt. absurd (omega (arith, lt)); kept = λ b all. refl; fewer = λ b none. none }

-- a number 0 has no bit
pub cleared_skip : (first now numbers : List ℕ) (i : ℕ) → get_or numbers i 0 ≡ 0 → ClearedTo first now numbers i → ClearedTo first now numbers (i + 1)
cleared_skip first now numbers i zero_ to = record {
  cleared = λ k lt ne. elim (cases_eq k i) [
    | inl e ↦ absurd (ne (ap (λ (j : ℕ). get_or numbers j 0) e ∙ zero_))
    | inr other ↦ to.cleared k (omega (arith, lt, other)) ne
  ];
  kept = to.kept;
  fewer = to.fewer;
}

pub cleared_more : (first now next numbers : List ℕ) (i b : ℕ) → i < length numbers → b ≡ get_or numbers i 0 → b ≢ 0
    → ((c : ℕ) → bit_of next c ≡ (if c == b then false else bit_of now c)) → ClearedTo first now numbers i → ClearedTo first next numbers (i + 1)
cleared_more first now next numbers i b lt is some bits to =
    let here : (c : ℕ) → c ≡ b → bit_of next c ≡ false = (λ c e. bits c ∙ ap (λ (t : Bool). if t then false else bit_of now c) (eq-eqb c b e)) in
    let there : (c : ℕ) → c ≢ b → bit_of next c ≡ bit_of now c = (λ c ne. bits c ∙ ap (λ (t : Bool). if t then false else bit_of now c) (ne_eqb c b ne)) in
    let never : (c : ℕ) → bit_of now c ≡ false → bit_of next c ≡ false = (λ c none. elim (cases_eq c b) [ inl e ↦ here c e | inr ne ↦ there c ne ∙ none ]) in
    record {
      cleared = λ k l ne. elim (cases_eq k i) [
        | inl e ↦ here (get_or numbers k 0) (ap (λ (j : ℕ). get_or numbers j 0) e ∙ sym is)
        | inr other ↦ never (get_or numbers k 0) (to.cleared k (omega (arith, l, other)) ne)
      ];
      kept = λ c all. there c (λ e. all i 0 lt (λ z. some (is ∙ z)) (sym is ∙ sym e)) ∙ to.kept c all;
      fewer = λ c none. never c (to.fewer c none);
    }

pub cleared_all : (first now numbers : List ℕ) (i : ℕ) → length numbers ≡ i → ClearedTo first now numbers i → All (λ b. b ≢ 0 → bit_of now b ≡ false) numbers
cleared_all first now numbers i end to = λ k z lt ne.
    let same : get_or numbers k z ≡ get_or numbers k 0 = get_or_default numbers k z 0 lt in
    subst (λ (b : ℕ). bit_of now b ≡ false) (sym same) (to.cleared k (omega (arith, lt, end)) (λ e. ne (same ∙ e)))
