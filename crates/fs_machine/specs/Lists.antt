-- Lists of places.
use Rattle.std.specs.Prelude.{ℕ, zero, suc, ◌+◌, List, [], ◌∷◌, drop, Option, position, is_some, is_none}
use Rattle.fs_machine.specs.Vocabulary.{option_map}

-- the list with the element at a place changed
abbrev pub change_at : {X : Type 0} → ℕ → (X → X) → List X → List X
change_at k f [] = []
change_at zero f (x ∷ xs) = f x ∷ xs
change_at (suc k) f (x ∷ xs) = x ∷ change_at k f xs

-- the first place that is empty, and the first from here on that isn't
abbrev pub first_empty : {X : Type 0} → List (Option X) → Option ℕ
first_empty xs = position is_none xs

abbrev pub next_full : {X : Type 0} → ℕ → List (Option X) → Option ℕ
next_full from xs = option_map (λ i. from + i) (position is_some (drop from xs))
