-- The group of blocks that are committed together, and who may add to it.
use Rattle.std.specs.Prelude.{ℕ, zero, suc, ◌+◌, ◌-◌, ◌<◌, List, [], ◌∷◌, ◌++◌, Bool, false, Option, Some, None, if◌then◌else◌, ◌==◌, ◌||◌, count_by, is_some}
use Rattle.group_log.specs.declared.limits.TheConstants.{BLOCKS_OF_A_TRANSACTION}

-- one of the numbers is this
abbrev pub has : List ℕ → ℕ → Bool
has [] b = false
has (k ∷ ks) b = (b == k) || has ks b

-- the group with this block, which takes one place, that of its first recording
abbrev pub with_block : List ℕ → ℕ → List ℕ
with_block ks b = if has ks b then ks else ks ++ b ∷ []

-- How many are in a transaction. For each hart there is what its transaction has added to the group, if it is in one.
abbrev pub joined : List (Option ℕ) → ℕ
joined members = count_by is_some members

-- how many blocks they may still add, at BLOCKS_OF_A_TRANSACTION each
abbrev pub rooms : List (Option ℕ) → ℕ
rooms [] = 0
rooms (None ∷ members) = rooms members
rooms (Some k ∷ members) = (BLOCKS_OF_A_TRANSACTION - k) + rooms members

-- the hart is in a transaction that may add a block
abbrev pub HasRoom : List (Option ℕ) → ℕ → Type 0
HasRoom [] hart = ⊥
HasRoom (None ∷ members) zero = ⊥
HasRoom (Some k ∷ members) zero = k < BLOCKS_OF_A_TRANSACTION
HasRoom (None ∷ members) (suc hart) = HasRoom members hart
HasRoom (Some k ∷ members) (suc hart) = HasRoom members hart

-- after it has added one
abbrev pub one_more : List (Option ℕ) → ℕ → List (Option ℕ)
one_more [] hart = []
one_more (None ∷ members) zero = None ∷ members
one_more (Some k ∷ members) zero = Some (k + 1) ∷ members
one_more (None ∷ members) (suc hart) = None ∷ one_more members hart
one_more (Some k ∷ members) (suc hart) = Some k ∷ one_more members hart

-- after it has recorded this block
abbrev pub members_with : List ℕ → ℕ → List (Option ℕ) → ℕ → List (Option ℕ)
members_with group b members hart = if has group b then members else one_more members hart

-- the hart is in a transaction
abbrev pub IsMember : List (Option ℕ) → ℕ → Type 0
IsMember [] hart = ⊥
IsMember (None ∷ members) zero = ⊥
IsMember (Some k ∷ members) zero = Unit {0}
IsMember (m ∷ members) (suc hart) = IsMember members hart
