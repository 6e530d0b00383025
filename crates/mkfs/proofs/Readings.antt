-- What a typed getter read.
use Rattle.mkfs.proofs.Vocabulary.{◌≡◌, ℕ, true, List, Option, Some, None, Result, Ok, Err, is_some, refl, ParsesUnsigned, ExplainsUnsignedError, HasUnsignedDigitsIfOk, ParseIntError, found_of, one_text, ReadsOne, ArgMatches, HasNumber, number_in}

-- what a u32's text gives
abbrev pub Reads : List ℕ → Result ℕ ParseIntError → Type 0
Reads t r = ParsesUnsigned 32 10 t r × ExplainsUnsignedError 10 t r × HasUnsignedDigitsIfOk t r

pub first_part : (t : List ℕ) (r : Result ℕ ParseIntError) → Reads t r → ParsesUnsigned 32 10 t r
first_part t r g = g.0

module _ {E : Type 0} (G : List ℕ → Result ℕ E → Type 0) (first : (t : List ℕ) (r : Result ℕ E) → G t r → ParsesUnsigned 32 10 t r) where
  pub number_read : (m : ArgMatches) (id : List ℕ) (r : Option ℕ) → ((t : List ℕ) → one_text (found_of m) id ≡ Some t → ReadsOne G t r)
      → HasNumber m id → is_some r ≡ true
  number_read m id (Some v) value h = refl
  number_read m id None value h =
      let reads = value h.text h.there in
      absurd (first h.text (Err reads.0) reads.1 (h.numeral, h.fits))

  pub number_is : (m : ArgMatches) (id : List ℕ) (v : ℕ) → ((t : List ℕ) → one_text (found_of m) id ≡ Some t → ReadsOne G t (Some v))
      → (h : HasNumber m id) → v ≡ number_in h.text
  number_is m id v value h = (first h.text (Ok v) (value h.text h.there)).1
