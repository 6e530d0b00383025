-- What one word of a script says.
use Rattle.std.specs.Prelude.{ℕ, ◌+◌, ◌-◌, ◌*◌, ◌^◌, Bool, ◌&&◌, List, [], ◌∷◌, drop, nat_eq, nat_lt, nat_le, if◌then◌else◌, Option, Some, None, codes}
use Rattle.script.specs.Vocabulary.{option_and_then, starts_with, bytes_eq}

-- ---- digits

abbrev pub is_between : ℕ → ℕ → ℕ → Bool
is_between least most b = nat_le least b && nat_le b most

-- '0' to '9', 'a' to 'f', 'A' to 'F'
abbrev pub digit_of : ℕ → Option ℕ
digit_of b =
    if is_between 48 57 b then Some (b - 48)
    else if is_between 97 102 b then Some (b - 97 + 10)
    else if is_between 65 70 b then Some (b - 65 + 10)
    else None

abbrev pub below : ℕ → ℕ → Option ℕ
below limit n = if nat_lt n limit then Some n else None

abbrev pub digit_in : ℕ → ℕ → Option ℕ
digit_in radix b = option_and_then (below radix) (digit_of b)

-- the number with one more digit, if it fits
abbrev pub with_digit : ℕ → ℕ → ℕ → Option ℕ
with_digit radix value b = option_and_then (λ d. below (2 ^ 32) (value * radix + d)) (digit_in radix b)

-- the number with these further digits, the most significant first
unfoldable pub value_after : ℕ → ℕ → List ℕ → Option ℕ
value_after radix value [] = Some value
value_after radix value (b ∷ bs) = option_and_then (λ v. value_after radix v bs) (with_digit radix value b)

-- at least one digit
abbrev pub digits_in : ℕ → List ℕ → Option ℕ
digits_in radix [] = None
digits_in radix (b ∷ bs) = value_after radix 0 (b ∷ bs)

-- ---- numbers: decimal, or hexadecimal after "0x"

abbrev pub begins_with : List ℕ → List ℕ → Bool
begins_with mark word = starts_with nat_eq word mark

abbrev pub number_in : List ℕ → Option ℕ
number_in word = if begins_with (codes "0x") word then digits_in 16 (drop 2 word) else digits_in 10 word

abbrev pub hart_in : List ℕ → Option ℕ
hart_in word = option_and_then (below (2 ^ 8)) (number_in word)

-- ---- bytes: none for two quotation marks, those in hexadecimal after "hex:", else the word's own; an empty word says nothing

abbrev pub pair_of : ℕ → ℕ → Option ℕ
pair_of high low = option_and_then (λ h. option_and_then (λ l. Some (h * 16 + l)) (digit_in 16 low)) (digit_in 16 high)

abbrev pub byte_of : List ℕ → Option ℕ
byte_of (high ∷ low ∷ []) = pair_of high low
byte_of digits = None

abbrev pub with_first : ℕ → Option (List ℕ) → Option (List ℕ)
with_first b rest = option_and_then (λ bs. Some (b ∷ bs)) rest

-- two digits a byte
unfoldable pub pairs_in : List ℕ → Option (List ℕ)
pairs_in [] = Some []
pairs_in (high ∷ []) = None
pairs_in (high ∷ low ∷ rest) = option_and_then (λ b. with_first b (pairs_in rest)) (pair_of high low)

abbrev pub bytes_in : List ℕ → Option (List ℕ)
bytes_in word =
    if bytes_eq word [] then None
    else if bytes_eq word (codes "\"\"") then Some []
    else if begins_with (codes "hex:") word then pairs_in (drop 4 word)
    else Some word
