-- How many descriptors name each place for an open file.
use Rattle.std.specs.Prelude.{◌≡◌, ℕ, ◌+◌, ◌-◌, ◌<◌, List, length, Option, Some, None, count_by, sum_by, slice_get, slice_index, slice_set}
use Rattle.fs_machine.specs.declared.desk.Desk.{Desk}
use Rattle.fs_machine.specs.Limits.{desk_count, descriptor_count}
use Rattle.fs_machine.specs.Files.{is_at}

-- a descriptor's place is a byte
abbrev pub byte_count : ℕ
byte_count = 256

-- how many descriptors of all harts name this place
abbrev pub named : ℕ → List Desk → ℕ
named p desks = sum_by (λ (d : Desk). count_by (is_at p) d.descriptors) desks

-- for each place so many descriptors name it
pub record AreCounted (counts : List ℕ) (desks : List Desk) : Type 0 where
  pub eight : length desks ≡ desk_count
  pub descriptors : (k : ℕ) (d : Desk) → slice_get desks k ≡ Some d → length d.descriptors ≡ descriptor_count
  pub bytes : length counts ≡ byte_count
  pub counted : (p : ℕ) → p < byte_count → slice_index counts p ≡ named p desks

-- a count after its place lost a name, or got one
abbrev pub one_name_less : Option ℕ → List ℕ → List ℕ
one_name_less None counts = counts
one_name_less (Some p) counts = slice_set counts p (slice_index counts p - 1)

abbrev pub one_name_more : Option ℕ → List ℕ → List ℕ
one_name_more None counts = counts
one_name_more (Some p) counts = slice_set counts p (slice_index counts p + 1)
