-- The name of a directory's element.
use Rattle.std.specs.Prelude.{ℕ, ◌==◌, ◌&&◌, nat_lt, nat_le, not, Bool, IsTrue, List, length}
use Rattle.image_versions.specs.declared.version.Version.{Version}
use Rattle.image_versions.specs.Versions.{name_len_of}
use Rattle.path_walk.specs.Vocabulary.{list_all}

abbrev pub slash : ℕ
slash = 47

-- neither 0 nor '/'
abbrev pub is_name_byte : ℕ → Bool
is_name_byte b = not (b == 0) && not (b == slash)

-- such bytes, at least one and not too many
abbrev pub is_name : Version → List ℕ → Bool
is_name version name = (nat_lt 0 (length name) && nat_le (length name) (name_len_of version)) && list_all is_name_byte name

abbrev pub IsName : Version → List ℕ → Type 0
IsName version name = IsTrue (is_name version name)
