-- What the calls of the cache do to its buffers, as the log needs it.
use Rattle.group_log.proofs.Vocabulary.{◌≡◌, ◌≢◌, ℕ, ◌+◌, ◌≤◌, List, [], ◌∷◌, ◌++◌, Bool, true, false, cond, refl, sym, ◌∙◌, ap, arith, Option, Some, None, if◌then◌else◌, eqb-true, ne_eqb, option_map, find, change_first, change_to_end, count_of, SeatState, has_block, is_number, seat_of, with_seat, without_holder, given_back}
pub use Rattle.buffer_cache.proofs.Firsts.{pick, count_more, count_same, count_to_end, first_passes}

-- ---- the first that passes, after a change

pub first_changed : {X : Type 0} (p : X → Bool) (f : X → X) (xs : List X) → ((x : X) → p x ≡ true → p (f x) ≡ true) → find p (change_first p f xs) ≡ option_map f (find p xs)
first_changed p f [] keeps = refl
first_changed {X} p f (x ∷ xs) keeps =
    pick (p x) (λ t. p x ≡ t → find p (if t then f x ∷ xs else x ∷ change_first p f xs) ≡ option_map f (if t then Some x else find p xs))
    (λ _ is. ap (λ (t : Bool). if t then Some (f x) else find p xs) (keeps x is))
    (λ _ isnt. ap (λ (t : Bool). if t then Some x else find p (change_first p f xs)) isnt ∙ first_changed p f xs keeps)
    refl

pub first_of_others : {X : Type 0} (q p : X → Bool) (f : X → X) (xs : List X) → ((x : X) → find p xs ≡ Some x → (q x ≡ false) × (q (f x) ≡ false)) → find q (change_first p f xs) ≡ find q xs
first_of_others q p f [] apart = refl
first_of_others {X} q p f (x ∷ xs) apart =
    pick (p x) (λ t. ((y : X) → (if t then Some x else find p xs) ≡ Some y → (q y ≡ false) × (q (f y) ≡ false)) → find q (if t then f x ∷ xs else x ∷ change_first p f xs) ≡ find q (x ∷ xs))
    (λ _ a. let both = a x refl in ap (λ (t : Bool). if t then Some (f x) else find q xs) both.1 ∙ sym (ap (λ (t : Bool). if t then Some x else find q xs) both.0))
    (λ _ a. ap (λ (o : Option X). if q x then Some x else o) (first_of_others q p f xs a))
    apart

none_first : {X : Type 0} (p : X → Bool) (xs : List X) → count_of p xs ≡ 0 → find p xs ≡ None
none_first p [] e = refl
none_first p (x ∷ xs) e =
    pick (p x) (λ t. cond t 1 0 + count_of p xs ≡ 0 → (if t then Some x else find p xs) ≡ None)
    (λ _ more. absurd (omega (arith, more)))
    (λ _ rest. none_first p xs (omega (arith, rest)))
    e

first_pushed : {X : Type 0} (p : X → Bool) (xs : List X) (x : X) → find p xs ≡ None → find p (xs ++ x ∷ []) ≡ (if p x then Some x else None)
first_pushed p [] x e = refl
first_pushed {X} p (y ∷ xs) x e =
    pick (p y) (λ t. (if t then Some y else find p xs) ≡ None → (if t then Some y else find p (xs ++ x ∷ [])) ≡ (if p x then Some x else None))
    (λ _ here. absurd (cc here)) (λ _ none. first_pushed p xs x none) e

pub first_to_end : {X : Type 0} (p : X → Bool) (f : X → X) (xs : List X) → ((x : X) → p x ≡ true → p (f x) ≡ true) → count_of p xs ≤ 1 → find p (change_to_end p f xs) ≡ option_map f (find p xs)
first_to_end p f [] keeps once = refl
first_to_end {X} p f (x ∷ xs) keeps once =
    pick (p x) (λ t. p x ≡ t → cond t 1 0 + count_of p xs ≤ 1 → find p (if t then xs ++ f x ∷ [] else x ∷ change_to_end p f xs) ≡ option_map f (if t then Some x else find p xs))
    (λ _ is one. first_pushed p xs (f x) (none_first p xs (omega (arith, one))) ∙ ap (λ (t : Bool). if t then Some (f x) else None) (keeps x is))
    (λ _ isnt one. ap (λ (t : Bool). if t then Some x else find p (change_to_end p f xs)) isnt ∙ first_to_end p f xs keeps (omega (arith, one)))
    refl once

first_passed_by : {X : Type 0} (q : X → Bool) (xs : List X) (x : X) → q x ≡ false → find q (xs ++ x ∷ []) ≡ find q xs
first_passed_by {X} q [] x isnt = ap (λ (t : Bool). if t then Some x else None) isnt
first_passed_by {X} q (y ∷ xs) x isnt = ap (λ (o : Option X). if q y then Some y else o) (first_passed_by q xs x isnt)

pub others_to_end : {X : Type 0} (q p : X → Bool) (f : X → X) (xs : List X) → ((x : X) → p x ≡ true → (q x ≡ false) × (q (f x) ≡ false)) → find q (change_to_end p f xs) ≡ find q xs
others_to_end q p f [] apart = refl
others_to_end {X} q p f (x ∷ xs) apart =
    pick (p x) (λ t. p x ≡ t → find q (if t then xs ++ f x ∷ [] else x ∷ change_to_end p f xs) ≡ find q (x ∷ xs))
    (λ _ is. first_passed_by q xs (f x) (apart x is).1 ∙ sym (ap (λ (t : Bool). if t then Some x else find q xs) (apart x is).0))
    (λ _ isnt. ap (λ (o : Option X). if q x then Some x else o) (others_to_end q p f xs apart))
    refl

pub changed_twice : {X : Type 0} (p : X → Bool) (f g : X → X) (xs : List X) → ((x : X) → p (f x) ≡ p x) → change_first p g (change_first p f xs) ≡ change_first p (λ x. g (f x)) xs
changed_twice p f g [] same = refl
changed_twice {X} p f g (x ∷ xs) same =
    pick (p x) (λ t. p x ≡ t → change_first p g (if t then f x ∷ xs else x ∷ change_first p f xs) ≡ (if t then g (f x) ∷ xs else x ∷ change_first p (λ x. g (f x)) xs))
    (λ _ is. ap (λ (t : Bool). if t then g (f x) ∷ xs else f x ∷ change_first p g xs) (same x ∙ is))
    (λ _ isnt. ap (λ (t : Bool). if t then g x ∷ change_first p f xs else x ∷ change_first p g (change_first p f xs)) isnt ∙ ap (λ (l : List X). x ∷ l) (changed_twice p f g xs same))
    refl

pub changed_and_ended : {X : Type 0} (p : X → Bool) (f g : X → X) (xs : List X) → ((x : X) → p (f x) ≡ p x) → change_to_end p g (change_first p f xs) ≡ change_to_end p (λ x. g (f x)) xs
changed_and_ended p f g [] same = refl
changed_and_ended {X} p f g (x ∷ xs) same =
    pick (p x) (λ t. p x ≡ t → change_to_end p g (if t then f x ∷ xs else x ∷ change_first p f xs) ≡ (if t then xs ++ g (f x) ∷ [] else x ∷ change_to_end p (λ x. g (f x)) xs))
    (λ _ is. ap (λ (t : Bool). if t then xs ++ g (f x) ∷ [] else f x ∷ change_to_end p g xs) (same x ∙ is))
    (λ _ isnt. ap (λ (t : Bool). if t then change_first p f xs ++ g x ∷ [] else x ∷ change_to_end p g (change_first p f xs)) isnt ∙ ap (λ (l : List X). x ∷ l) (changed_and_ended p f g xs same))
    refl

-- ---- counts

pub count_less : {X : Type 0} (q p : X → Bool) (f : X → X) (xs : List X) (x : X) → find p xs ≡ Some x → q x ≡ true → q (f x) ≡ false → count_of q (change_first p f xs) + 1 ≡ count_of q xs
count_less q p f [] x e was isnt = absurd (cc e)
count_less {X} q p f (y ∷ xs) x e was isnt =
    pick (p y) (λ t. (if t then Some y else find p xs) ≡ Some x → count_of q (if t then f y ∷ xs else y ∷ change_first p f xs) + 1 ≡ cond (q y) 1 0 + count_of q xs)
    (λ _ here.
    let same : y ≡ x = cc here in
    let a : cond (q (f y)) 1 0 ≡ 0 = (let none : ℕ = 0 in let one : ℕ = 1 in ap (λ (t : Bool). cond t one none) (ap (λ (z : X). q (f z)) same ∙ isnt)) in
    let b : cond (q y) 1 0 ≡ 1 = (let none : ℕ = 0 in let one : ℕ = 1 in ap (λ (t : Bool). cond t one none) (ap q same ∙ was)) in
    omega (arith, a, b))
    (λ _ later. let a = count_less q p f xs x later was isnt in omega (arith, a))
    e

-- ---- the buffers of one block and of another

pub of_block : (b : ℕ) (o : Option ℕ) → is_number b o ≡ true → o ≡ Some b
of_block b None e = absurd (cc e)
of_block b (Some k) e = ap Some (eqb-true k b e)

pub of_another : (b k : ℕ) (o : Option ℕ) → o ≡ Some b → k ≢ b → is_number k o ≡ false
of_another b k o e ne = ap (is_number k) e ∙ ne_eqb b k (λ is. ne (sym is))

pub seat_changed : (b : ℕ) (f : SeatState → SeatState) (ss : List SeatState) → ((s : SeatState) → (f s).block ≡ s.block) → seat_of b (with_seat b f ss) ≡ option_map f (seat_of b ss)
seat_changed b f ss same = first_changed (has_block b) f ss (λ s is. ap (is_number b) (same s) ∙ is)

pub seat_of_others : (b k : ℕ) (f : SeatState → SeatState) (ss : List SeatState) → ((s : SeatState) → (f s).block ≡ s.block) → k ≢ b → seat_of k (with_seat b f ss) ≡ seat_of k ss
seat_of_others b k f ss same ne = first_of_others (has_block k) (has_block b) f ss
    (λ s first.
    let is : s.block ≡ Some b = of_block b s.block (first_passes (has_block b) ss s first) in
    (of_another b k s.block is ne, of_another b k (f s).block (same s ∙ is) ne))

pub seat_given_back : (b : ℕ) (ss : List SeatState) → count_of (has_block b) ss ≤ 1 → seat_of b (given_back b ss) ≡ option_map without_holder (seat_of b ss)
seat_given_back b ss once = first_to_end (has_block b) without_holder ss (λ s is. is) once

pub others_given_back : (b k : ℕ) (ss : List SeatState) → k ≢ b → seat_of k (given_back b ss) ≡ seat_of k ss
others_given_back b k ss ne = others_to_end (has_block k) (has_block b) without_holder ss
    (λ s is. let has : s.block ≡ Some b = of_block b s.block is in (of_another b k s.block has ne, of_another b k s.block has ne))
