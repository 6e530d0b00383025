-- What a path on the command line says.
use Rattle.std.specs.Prelude.{◌≡◌, ℕ, ◌+◌, ◌-◌, ◌*◌, ◌<◌, Bool, ◌&&◌, List, [], ◌∷◌, drop, nat_eq, nat_le, if◌then◌else◌, Option, Some, None, All, codes}
use Rattle.image_reports.specs.Vocabulary.{starts_with}
use Rattle.image_reports.specs.Shown.{shown}

abbrev pub is_between : ℕ → ℕ → ℕ → Bool
is_between least most b = nat_le least b && nat_le b most

-- '0' to '9', 'a' to 'f', 'A' to 'F'
abbrev pub digit_of : ℕ → Option ℕ
digit_of b =
    if is_between 48 57 b then Some (b - 48)
    else if is_between 97 102 b then Some (b - 97 + 10)
    else if is_between 65 70 b then Some (b - 65 + 10)
    else None

abbrev pub both : Option ℕ → Option ℕ → Option ℕ
both (Some high) (Some low) = Some (high * 16 + low)
both (Some high) None = None
both None low = None

abbrev pub pair_of : ℕ → ℕ → Option ℕ
pair_of high low = both (digit_of high) (digit_of low)

abbrev pub with_first : Option ℕ → Option (List ℕ) → Option (List ℕ)
with_first (Some b) (Some bytes) = Some (b ∷ bytes)
with_first (Some b) None = None
with_first None rest = None

-- two digits a byte
unfoldable pub pairs_in : List ℕ → Option (List ℕ)
pairs_in [] = Some []
pairs_in (high ∷ []) = None
pairs_in (high ∷ low ∷ rest) = with_first (pair_of high low) (pairs_in rest)

-- the bytes in digits after "hex:", else the word's own
abbrev pub says : List ℕ → Option (List ℕ)
says word = if starts_with nat_eq word (codes "hex:") then pairs_in (drop 4 word) else Some word

-- a path that begins with '/' is what its printed form says
abbrev pub ReadsShown : Type 0
ReadsShown = (path : List ℕ) → All (λ b. b < 256) path → says (shown (47 ∷ path)) ≡ Some (47 ∷ path)
