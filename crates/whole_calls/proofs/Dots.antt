-- "." and "..", by their bytes.
use Rattle.whole_calls.proofs.Vocabulary.{◌≡◌, ℕ, suc, Bool, true, false, ◌&&◌, ◌||◌, nat_eq, List, [], ◌∷◌, length, get_or, refl, sym, arith, same_name, is_dots}

by_one : (b : Bool) → ((b && true) || (b && false)) ≡ b
by_one true = refl
by_one false = refl

by_two : (a b : Bool) → ((a && false) || (a && (b && true))) ≡ (a && b)
by_two true true = refl
by_two true false = refl
by_two false b = refl

by_more : (a b : Bool) → ((a && false) || (a && (b && false))) ≡ false
by_more true true = refl
by_more true false = refl
by_more false b = refl

pub one_dots : (name : List ℕ) → length name ≡ 1 → nat_eq (get_or name 0 0) 46 ≡ is_dots name
unfolding same_name
one_dots [] e = absurd (let none : 0 ≡ 1 = e in omega (arith, none))
one_dots (x ∷ []) e = sym (by_one (nat_eq x 46))
one_dots (x ∷ y ∷ more) e = absurd (let two : suc (suc (length more)) ≡ 1 = e in omega (arith, two))

pub two_dots : (name : List ℕ) → length name ≡ 2 → (nat_eq (get_or name 0 0) 46 && nat_eq (get_or name 1 0) 46) ≡ is_dots name
unfolding same_name
two_dots [] e = absurd (let none : 0 ≡ 2 = e in omega (arith, none))
two_dots (x ∷ []) e = absurd (let one : 1 ≡ 2 = e in omega (arith, one))
two_dots (x ∷ y ∷ []) e = sym (by_two (nat_eq x 46) (nat_eq y 46))
two_dots (x ∷ y ∷ z ∷ more) e = absurd (let many : suc (suc (suc (length more))) ≡ 2 = e in omega (arith, many))

pub more_dots : (name : List ℕ) → (length name ≡ 1 → ⊥) → (length name ≡ 2 → ⊥) → false ≡ is_dots name
unfolding same_name
more_dots [] one two = refl
more_dots (x ∷ []) one two = absurd (one refl)
more_dots (x ∷ y ∷ []) one two = absurd (two refl)
more_dots (x ∷ y ∷ z ∷ more) one two = sym (by_more (nat_eq x 46) (nat_eq y 46))
