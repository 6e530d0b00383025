-- The name of a directory's element.
use Rattle.std.specs.Prelude.{ℕ, ◌==◌, ◌&&◌, nat_lt, nat_le, not, Bool, IsTrue, List, length}
use Rattle.fs_layout.specs.Vocabulary.{list_all, longest_name, name_len_of, Version}
use Rattle.fs_layout.specs.Widths.{slash}

abbrev pub is_zero : ℕ → Bool
is_zero b = b == 0

-- neither 0 nor '/'
abbrev pub is_name_byte : ℕ → Bool
is_name_byte b = not (b == 0) && not (b == slash)

-- such bytes: at least one, and `most` at most
abbrev pub is_name_within : ℕ → List ℕ → Bool
is_name_within most name = (nat_lt 0 (length name) && nat_le (length name) most) && list_all is_name_byte name

-- a name of this version
abbrev pub is_name : Version → List ℕ → Bool
is_name v name = is_name_within (name_len_of v) name

abbrev pub IsName : Version → List ℕ → Type 0
IsName v name = IsTrue (is_name v name)

-- a name of some version
abbrev pub IsAnyName : List ℕ → Type 0
IsAnyName name = IsTrue (is_name_within longest_name name)
