-- The meaning of an image's tables.
use Rattle.std.specs.Prelude.{◌≡◌, ℕ, List, length}
use Rattle.damage_places.specs.Vocabulary.{Version, HasGoodNumbers, IsUpTable, Tallies, gathered, last, named_in, further_in, proper_in, parent_of, sizes_of}
use Rattle.damage_places.specs.declared.links.Links.{Links}
use Rattle.damage_places.specs.declared.place.Check.{Check}
use Rattle.damage_places.specs.declared.place.Check.TheVariants as checks

pub record IsLinks (v : Version) (disk : List (List ℕ)) (links : Links) : Type 0 where
  pub ups : IsUpTable v disk links.ups.items
  pub names : Tallies links.names.items (gathered (named_in v disk) (last disk))
  pub further : Tallies links.further.items (gathered (further_in v disk) (last disk))
  pub proper : Tallies links.proper.items (gathered (proper_in v disk) (last disk))
  pub children : Tallies links.children.items (gathered (parent_of v disk) (last disk))
  pub names_length : length links.names.items ≡ (sizes_of disk).ninodes
  pub further_length : length links.further.items ≡ (sizes_of disk).ninodes
  pub proper_length : length links.proper.items ≡ (sizes_of disk).ninodes
  pub children_length : length links.children.items ≡ (sizes_of disk).ninodes

-- what a check of inodes asks beforehand
abbrev pub IsReady : Version → List (List ℕ) → Links → Check → Type 0
IsReady v disk links checks.Types = Unit {0}
IsReady v disk links checks.Numbers = Unit {0}
IsReady v disk links checks.Marks = HasGoodNumbers disk
IsReady v disk links checks.Sizes = HasGoodNumbers disk
IsReady v disk links checks.Slots = HasGoodNumbers disk
IsReady v disk links checks.Tree = IsLinks v disk links
IsReady v disk links checks.Counts = IsLinks v disk links
