-- How often the device has failed after a search.
use Rattle.std.specs.Prelude.{ℕ, ◌+◌, min, Result, Ok, Err}
use Rattle.damage_places.specs.Vocabulary.{most_faults}
use Rattle.damage_places.specs.declared.search_fault.SearchFault.{SearchFault}
use Rattle.damage_places.specs.declared.search_fault.SearchFault.TheVariants.{DeviceFault, NoMemory}

-- once more if its failure is the answer
abbrev pub faults_of_search : SearchFault → ℕ → ℕ
faults_of_search DeviceFault n = min (n + 1) most_faults
faults_of_search NoMemory n = n

abbrev pub faults_with : {T : Type 0} → Result T SearchFault → ℕ → ℕ
faults_with (Ok x) n = n
faults_with (Err e) n = faults_of_search e n
