-- What the slots give, slot by slot.
use Rattle.image_tree.proofs.Vocabulary.{◌≡◌, ℕ, ◌+◌, ◌<◌, List, [], ◌∷◌, ◌++◌, length, take, drop, get_or, sym, ap, ◌∙◌, subst, arith, length-append, All, flat_map, take_more, take-append-drop, append-nil, get_or-append-add, flat_map-append}
use Rattle.image_tree.proofs.NumberLists.{All-front}

pub flat_more : {X A : Type 0} (f : X → List A) (xs : List X) (i : ℕ) (d : X) → i < length xs
    → flat_map f (take (i + 1) xs) ≡ flat_map f (take i xs) ++ f (get_or xs i d)
flat_more f xs i d h =
    ap (flat_map f) (take_more xs i d h) ∙ flat_map-append f (take i xs) (get_or xs i d ∷ [])
    ∙ ap (λ ys. flat_map f (take i xs) ++ ys) (append-nil (f (get_or xs i d)))

pub flat_split : {X A : Type 0} (f : X → List A) (xs : List X) (i : ℕ) → flat_map f xs ≡ flat_map f (take i xs) ++ flat_map f (drop i xs)
flat_split f xs i = ap (flat_map f) (sym (take-append-drop i xs)) ∙ flat_map-append f (take i xs) (drop i xs)

pub All-last : {A : Type 0} (P : A → Type 0) (xs ys : List A) → All P (xs ++ ys) → All P ys
All-last P xs ys h = λ k d l. subst P (get_or-append-add xs ys k d) (h (length xs + k) d (omega (arith, length-append xs ys)))

-- what holds of all that the slots give holds of what one gives
pub All-at : {X A : Type 0} (P : A → Type 0) (f : X → List A) (xs : List X) (i : ℕ) (x : X) → i < length xs → x ≡ get_or xs i x
    → All P (flat_map f xs) → All P (f x)
All-at P f xs i x h is all =
    let front : All P (flat_map f (take (i + 1) xs)) = All-front P _ (flat_map f (drop (i + 1) xs)) (subst (All P) (flat_split f xs (i + 1)) all) in
    subst (λ y. All P (f y)) (sym is) (All-last P (flat_map f (take i xs)) (f (get_or xs i x)) (subst (All P) (flat_more f xs i x h) front))
