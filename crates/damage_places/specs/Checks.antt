-- The checks of inodes, at one inode.
use Rattle.std.specs.Prelude.{◌≡◌, ◌≢◌, ℕ, true, List, All}
use Rattle.damage_places.specs.Vocabulary.{Version, sizes_of, inode_of, is_node, is_live_directory, numbers_by, slots_in, up, names_of, further_names_of, proper_names_of, children_of, Reaches, IsGoodType, IsData, is_marked, IsGoodSize, AreGoodSlots, IsGoodCount}
use Rattle.damage_places.specs.declared.place.Check.{Check}
use Rattle.damage_places.specs.declared.place.Check.TheVariants.{Types, Numbers, Marks, Sizes, Slots, Tree, Counts}

-- what the check of the tree asks of a live directory: with this "..", named by so many slots past the first two, so many of them in its ".."
pub record IsPlaced (i parent further own : ℕ) (Reach : Type 0) : Type 0 where
  pub root : i ≡ 1 → parent ≡ 1
  pub root_unnamed : i ≡ 1 → further ≡ 0
  pub named : i ≢ 1 → further ≡ 1
  pub proper : i ≢ 1 → own ≡ 1
  pub reaches : Reach

-- inode i passes this check
abbrev pub Passes : Version → List (List ℕ) → Check → ℕ → Type 0
Passes v disk Types i = IsGoodType (inode_of disk i)
Passes v disk Numbers i = All (λ b. b ≢ 0 → IsData (sizes_of disk) b) (numbers_by disk i)
Passes v disk Marks i = All (λ b. b ≢ 0 → is_marked disk b ≡ true) (numbers_by disk i)
Passes v disk Sizes i = is_node disk i ≡ true → IsGoodSize v disk (inode_of disk i)
Passes v disk Slots i = is_live_directory disk i ≡ true → AreGoodSlots (is_node disk) i (slots_in v disk i)
Passes v disk Tree i =
    is_live_directory disk i ≡ true → IsPlaced i (up v disk i) (further_names_of v disk i) (proper_names_of v disk i) (Reaches (up v disk) i)
Passes v disk Counts i =
    is_node disk i ≡ true → IsGoodCount (inode_of disk i) (names_of v disk i) (further_names_of v disk i) (children_of v disk i)
