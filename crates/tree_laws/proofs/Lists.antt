-- Places in lists.
use Rattle.tree_laws.proofs.Vocabulary.{◌≡◌, ℕ, zero, suc, ◌<◌, ◌⊎◌, inl, inr, refl, ap, arith, List, [], ◌∷◌, ◌++◌, length, map, Some, None, slice_get}

pub get_left : {A : Type 0} → (xs ys : List A) (i : ℕ) (v : A) → slice_get xs i ≡ Some v → slice_get (xs ++ ys) i ≡ Some v
get_left [] ys i v h = absurd cc
get_left (x ∷ xs) ys zero v h = h
get_left (x ∷ xs) ys (suc i) v h = get_left xs ys i v h

pub get_last : {A : Type 0} → (xs : List A) (x : A) → slice_get (xs ++ x ∷ []) (length xs) ≡ Some x
get_last [] x = refl
get_last (y ∷ xs) x = get_last xs x

-- an element of a list with one more is one of the list, or the new one
pub get_more : {A : Type 0} → (xs : List A) (x : A) (i : ℕ) (v : A) → slice_get (xs ++ x ∷ []) i ≡ Some v → (slice_get xs i ≡ Some v) ⊎ ((i ≡ length xs) × (x ≡ v))
get_more [] x zero v h = inr (refl, (let q : Some x ≡ Some v = h in cc))
get_more [] x (suc i) v h = absurd (let q : None ≡ Some v = h in cc)
get_more (y ∷ xs) x zero v h = inl h
get_more (y ∷ xs) x (suc i) v h = elim (get_more xs x i v h) [
  | inl p ↦ inl p
  | inr p ↦ inr (ap (λ (k : ℕ). suc k) p.0, p.1)
]

pub get_past : {A : Type 0} → (xs : List A) → slice_get xs (length xs) ≡ None
get_past [] = refl
get_past (x ∷ xs) = get_past xs

pub get_map : {A B : Type 0} → (f : A → B) (xs : List A) (i : ℕ) (w : B) → slice_get (map f xs) i ≡ Some w → (v : A) × (slice_get xs i ≡ Some v) × (w ≡ f v)
get_map f [] i w h = absurd (let q : None ≡ Some w = h in cc)
get_map f (x ∷ xs) zero w h = (x, refl, (let q : Some (f x) ≡ Some w = h in cc))
get_map f (x ∷ xs) (suc i) w h = get_map f xs i w h

pub map_get : {A B : Type 0} → (f : A → B) (xs : List A) (i : ℕ) (v : A) → slice_get xs i ≡ Some v → slice_get (map f xs) i ≡ Some (f v)
map_get f [] i v h = absurd (let q : None ≡ Some v = h in cc)
map_get f (x ∷ xs) zero v h = (let q : Some x ≡ Some v = h in let same : x ≡ v = cc in ap (λ (z : _). Some (f z)) same)
map_get f (x ∷ xs) (suc i) v h = map_get f xs i v h

pub map_length : {A B : Type 0} → (f : A → B) (xs : List A) → length (map f xs) ≡ length xs
map_length f [] = refl
map_length f (x ∷ xs) = ap (λ (k : ℕ). suc k) (map_length f xs)

pub more_length : {A : Type 0} → (xs : List A) (x : A) → length (xs ++ x ∷ []) ≡ suc (length xs)
more_length [] x = refl
more_length (y ∷ xs) x = ap (λ (k : ℕ). suc k) (more_length xs x)

pub get_within : {A : Type 0} → (xs : List A) (i : ℕ) (v : A) → slice_get xs i ≡ Some v → i < length xs
get_within [] i v h = absurd (let q : None ≡ Some v = h in cc)
get_within (x ∷ xs) zero v h = omega arith
get_within (x ∷ xs) (suc i) v h = let ih = get_within xs i v h in omega (arith, ih)
