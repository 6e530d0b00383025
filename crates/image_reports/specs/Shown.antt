-- How a path is printed.
use Rattle.std.specs.Prelude.{ℕ, ◌+◌, ◌/◌, ◌%◌, Bool, ◌&&◌, nat_lt, if◌then◌else◌, List, [], ◌∷◌, ◌++◌, codes}
use Rattle.image_reports.specs.Vocabulary.{list_all}

-- '0' to '9', 'a' to 'f'
abbrev pub hex_digit : ℕ → ℕ
hex_digit n = if nat_lt n 10 then 48 + n else 87 + n

-- two digits a byte
abbrev pub hex : List ℕ → List ℕ
hex [] = []
hex (b ∷ bs) = hex_digit (b / 16) ∷ hex_digit (b % 16) ∷ hex bs

-- '!' to '~'
abbrev pub is_printed : ℕ → Bool
is_printed b = nat_lt 32 b && nat_lt b 127

abbrev pub are_printed : List ℕ → Bool
are_printed bytes = list_all is_printed bytes

-- as a script writes it; the root's own path is empty
abbrev pub shown : List ℕ → List ℕ
shown [] = codes "/"
shown (b ∷ bs) = if are_printed (b ∷ bs) then b ∷ bs else codes "hex:" ++ hex (b ∷ bs)
