-- The first of a list that passes a test, changed, and how many pass.
use Rattle.std.specs.Prelude.{ℕ, ◌+◌, List, [], ◌∷◌, ◌++◌, Bool, if◌then◌else◌, cond}

-- the list with the first that passes changed
abbrev pub change_first : {X : Type 0} → (X → Bool) → (X → X) → List X → List X
change_first p f [] = []
change_first p f (x ∷ xs) = if p x then f x ∷ xs else x ∷ change_first p f xs

-- the list with the first that passes changed and moved to the end
abbrev pub change_to_end : {X : Type 0} → (X → Bool) → (X → X) → List X → List X
change_to_end p f [] = []
change_to_end p f (x ∷ xs) = if p x then xs ++ f x ∷ [] else x ∷ change_to_end p f xs

-- how many pass
abbrev pub count_of : {X : Type 0} → (X → Bool) → List X → ℕ
count_of p [] = 0
count_of p (x ∷ xs) = cond (p x) 1 0 + count_of p xs
