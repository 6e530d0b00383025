-- The first of a list that passes a test: its place, and what changing it does to counts.
use Rattle.buffer_cache.proofs.Vocabulary.{◌≡◌, ℕ, zero, suc, ◌+◌, ◌<◌, ◌≤◌, List, [], ◌∷◌, ◌++◌, length, get_or, set, Bool, true, false, cond, not, refl, sym, ◌∙◌, ap, subst, arith, Option, Some, None, IsSome, is_some, if◌then◌else◌, nat_lt, nat_tests, position, position_or_len, count_by, find, is_count_by, change_first, change_to_end, count_of}

pub pick : (t : Bool) (P : Bool → Type 0) → (t ≡ true → P true) → (t ≡ false → P false) → P t
pick true P yes_ no_ = yes_ refl
pick false P yes_ no_ = no_ refl

-- the place of the first
pub position_some : {X : Type 0} (p : X → Bool) (xs : List X) (i : ℕ) → position p xs ≡ Some i → (i ≡ position_or_len p xs) × (i < length xs)
position_some p xs i e = tests (position_or_len p xs) (length xs) e
  where
    tests : (a n : ℕ) → cond (nat_lt a n) (Some a) None ≡ Some i → (i ≡ a) × (i < n)
    tests a n e = grind (arith, nat_tests)

position_none : {X : Type 0} (p : X → Bool) (xs : List X) → position p xs ≡ None → length xs ≤ position_or_len p xs
position_none p xs e = tests (position_or_len p xs) (length xs) e
  where
    tests : (a n : ℕ) → cond (nat_lt a n) (Some a) None ≡ None → n ≤ a
    tests a n e = grind (arith, nat_tests)

first_here : {X : Type 0} (p : X → Bool) (xs : List X) (i : ℕ) (d : X) → i ≡ position_or_len p xs → i < length xs → find p xs ≡ Some (get_or xs i d)
first_here p [] i d e lt = absurd (omega arith)
first_here {X} p (x ∷ xs) i d e lt = found (p x) i e lt (λ j f l. first_here p xs j d f l)
  where
    found : (t : Bool) (i : ℕ) → i ≡ cond (not t) (1 + position_or_len p xs) 0 → i < suc (length xs)
        → ((j : ℕ) → j ≡ position_or_len p xs → j < length xs → find p xs ≡ Some (get_or xs j d))
        → (if t then Some x else find p xs) ≡ Some (get_or (x ∷ xs) i d)
    found true zero e lt more = refl
    found true (suc i) e lt more = absurd (omega (arith, e))
    found false zero e lt more = absurd (omega (arith, e))
    found false (suc i) e lt more = more i (omega (arith, e)) (omega (arith, lt))

pub place_first : {X : Type 0} (p : X → Bool) (xs : List X) (i : ℕ) (d : X) → position p xs ≡ Some i → find p xs ≡ Some (get_or xs i d)
place_first p xs i d e = let at = position_some p xs i e in first_here p xs i d at.0 at.1

none_here : {X : Type 0} (p : X → Bool) (xs : List X) → length xs ≤ position_or_len p xs → find p xs ≡ None
none_here p [] le = refl
none_here {X} p (x ∷ xs) le = found (p x) le (λ l. none_here p xs l)
  where
    found : (t : Bool) → suc (length xs) ≤ cond (not t) (1 + position_or_len p xs) 0 → (length xs ≤ position_or_len p xs → find p xs ≡ None) → (if t then Some x else find p xs) ≡ None
    found true le more = absurd (omega (arith, le))
    found false le more = more (omega (arith, le))

pub no_place : {X : Type 0} (p : X → Bool) (xs : List X) → position p xs ≡ None → find p xs ≡ None
no_place p xs e = none_here p xs (position_none p xs e)

change_here : {X : Type 0} (p : X → Bool) (f : X → X) (xs : List X) (i : ℕ) (d y : X) → i ≡ position_or_len p xs → i < length xs → f (get_or xs i d) ≡ y → set xs i y ≡ change_first p f xs
change_here p f [] i d y e lt is = absurd (omega arith)
change_here {X} p f (x ∷ xs) i d y e lt is = found (p x) i e lt is (λ j g l h. change_here p f xs j d y g l h)
  where
    found : (t : Bool) (i : ℕ) → i ≡ cond (not t) (1 + position_or_len p xs) 0 → i < suc (length xs) → f (get_or (x ∷ xs) i d) ≡ y
        → ((j : ℕ) → j ≡ position_or_len p xs → j < length xs → f (get_or xs j d) ≡ y → set xs j y ≡ change_first p f xs)
        → set (x ∷ xs) i y ≡ (if t then f x ∷ xs else x ∷ change_first p f xs)
    found true zero e lt is more = ap (λ (z : X). z ∷ xs) (sym is)
    found true (suc i) e lt is more = absurd (omega (arith, e))
    found false zero e lt is more = absurd (omega (arith, e))
    found false (suc i) e lt is more = ap (λ (l : List X). x ∷ l) (more i (omega (arith, e)) (omega (arith, lt)) is)

pub place_change : {X : Type 0} (p : X → Bool) (f : X → X) (xs : List X) (i : ℕ) (d y : X) → position p xs ≡ Some i → f (get_or xs i d) ≡ y → set xs i y ≡ change_first p f xs
place_change p f xs i d y e is = let at = position_some p xs i e in change_here p f xs i d y at.0 at.1 is

-- lengths
pub length-change_first : {X : Type 0} (p : X → Bool) (f : X → X) (xs : List X) → length (change_first p f xs) ≡ length xs
length-change_first p f [] = refl
length-change_first p f (x ∷ xs) = pick (p x) (λ t. length (if t then f x ∷ xs else x ∷ change_first p f xs) ≡ suc (length xs)) (λ _. refl) (λ _. ap suc (length-change_first p f xs))

length_push : {X : Type 0} (xs : List X) (x : X) → length (xs ++ x ∷ []) ≡ suc (length xs)
length_push [] x = refl
length_push (y ∷ xs) x = ap suc (length_push xs x)

pub length-change_to_end : {X : Type 0} (p : X → Bool) (f : X → X) (xs : List X) → length (change_to_end p f xs) ≡ length xs
length-change_to_end p f [] = refl
length-change_to_end p f (x ∷ xs) = pick (p x) (λ t. length (if t then xs ++ f x ∷ [] else x ∷ change_to_end p f xs) ≡ suc (length xs)) (λ _. length_push xs (f x)) (λ _. ap suc (length-change_to_end p f xs))

-- counts
one_at_most : (t : Bool) → cond t 1 0 ≤ 1
one_at_most true = omega arith
one_at_most false = omega arith

less : (a b : Bool) → (a ≡ true → b ≡ true) → cond a 1 0 ≤ cond b 1 0
less true true k = omega arith
less true false k = absurd (cc (k refl))
less false true k = omega arith
less false false k = omega arith

-- one more at most passes a test
pub count_more : {X : Type 0} (q p : X → Bool) (f : X → X) (xs : List X) → count_of q (change_first p f xs) ≤ count_of q xs + 1
count_more q p f [] = omega arith
count_more q p f (x ∷ xs) =
    let a = one_at_most (q (f x)) in
    let b = count_more q p f xs in
    pick (p x) (λ t. count_of q (if t then f x ∷ xs else x ∷ change_first p f xs) ≤ cond (q x) 1 0 + count_of q xs + 1) (λ _. omega (arith, a)) (λ _. omega (arith, b))

-- none more, if the change makes none pass that didn't
pub count_same : {X : Type 0} (q p : X → Bool) (f : X → X) (xs : List X) → ((x : X) → find p xs ≡ Some x → q (f x) ≡ true → q x ≡ true) → count_of q (change_first p f xs) ≤ count_of q xs
count_same q p f [] keeps = omega arith
count_same {X} q p f (x ∷ xs) keeps =
    pick (p x) (λ t. ((y : X) → (if t then Some x else find p xs) ≡ Some y → q (f y) ≡ true → q y ≡ true) → count_of q (if t then f x ∷ xs else x ∷ change_first p f xs) ≤ cond (q x) 1 0 + count_of q xs)
    (λ _ k. let a = less (q (f x)) (q x) (k x refl) in omega (arith, a))
    (λ _ k. let b = count_same q p f xs k in omega (arith, b))
    keeps

pub count_push : {X : Type 0} (q : X → Bool) (xs : List X) (x : X) → count_of q (xs ++ x ∷ []) ≡ count_of q xs + cond (q x) 1 0
count_push q [] x = omega arith
count_push q (y ∷ xs) x = let a = count_push q xs x in omega (arith, a)

pub count_to_end : {X : Type 0} (q p : X → Bool) (f : X → X) (xs : List X) → ((x : X) → q (f x) ≡ true → q x ≡ true) → count_of q (change_to_end p f xs) ≤ count_of q xs
count_to_end q p f [] keeps = omega arith
count_to_end q p f (x ∷ xs) keeps =
    let a = count_push q xs (f x) in
    let l = less (q (f x)) (q x) (keeps x) in
    let more = count_to_end q p f xs keeps in
    pick (p x) (λ t. count_of q (if t then xs ++ f x ∷ [] else x ∷ change_to_end p f xs) ≤ cond (q x) 1 0 + count_of q xs) (λ _. omega (arith, a, l)) (λ _. omega (arith, more))

-- what is first passes, and is counted
pub first_passes : {X : Type 0} (p : X → Bool) (xs : List X) (x : X) → find p xs ≡ Some x → p x ≡ true
first_passes p [] x e = absurd (cc e)
first_passes {X} p (y ∷ xs) x e =
    pick (p y) (λ t. p y ≡ t → (if t then Some y else find p xs) ≡ Some x → p x ≡ true)
    (λ _ is here. let same : y ≡ x = cc here in ap p (sym same) ∙ is)
    (λ _ isnt here. first_passes p xs x here)
    refl e

pub first_counted : {X : Type 0} (q p : X → Bool) (xs : List X) (x : X) → find p xs ≡ Some x → q x ≡ true → 1 ≤ count_of q xs
first_counted q p [] x e is = absurd (cc e)
first_counted {X} q p (y ∷ xs) x e is =
    pick (p y) (λ t. (if t then Some y else find p xs) ≡ Some x → 1 ≤ cond (q y) 1 0 + count_of q xs)
    (λ _ here. let same : y ≡ x = cc here in let passes : q y ≡ true = ap q same ∙ is in let one : ℕ = 1 in let a : cond (q y) one 0 ≡ one = ap (λ (t : Bool). cond t one 0) passes in omega (arith, a))
    (λ _ here. let a = first_counted q p xs x here is in omega (arith, a))
    e

pub none_counted : {X : Type 0} (p : X → Bool) (xs : List X) → find p xs ≡ None → count_of p xs ≡ 0
none_counted p [] e = refl
none_counted {X} p (y ∷ xs) e =
    pick (p y) (λ t. (if t then Some y else find p xs) ≡ None → cond t 1 0 + count_of p xs ≡ 0)
    (λ _ here. absurd (cc here)) (λ _ here. let a = none_counted p xs here in omega (arith, a)) e

pub none_first : {X : Type 0} (p : X → Bool) (xs : List X) → count_of p xs ≡ 0 → find p xs ≡ None
none_first p [] e = refl
none_first {X} p (y ∷ xs) e =
    pick (p y) (λ t. cond t 1 0 + count_of p xs ≡ 0 → (if t then Some y else find p xs) ≡ None)
    (λ _ zero_. absurd (omega (arith, zero_))) (λ _ zero_. none_first p xs (omega (arith, zero_))) e

-- std's count
pub counted : {X : Type 0} (q : X → Bool) (xs : List X) → count_by q xs ≡ count_of q xs
counted {X} q xs = sym (is_count_by (count_of q) q refl each xs)
  where
    each : (x : X) (xs : List X) → count_of q (x ∷ xs) ≡ cond (q x) (1 + count_of q xs) (count_of q xs)
    each x xs = pick (q x) (λ t. cond t 1 0 + count_of q xs ≡ cond t (1 + count_of q xs) (count_of q xs)) (λ _. refl) (λ _. omega arith)

-- the two counts, over a list that is seen as another
pub counted_in : {X : Type 0} (q : X → Bool) (view xs : List X) (n : ℕ) → n ≡ count_by q view → view ≡ xs → n ≡ count_of q xs
counted_in q view xs n e v = e ∙ counted q view ∙ ap (count_of q) v

first_exists : {X : Type 0} (p : X → Bool) (xs : List X) → position_or_len p xs < length xs → IsSome (find p xs)
first_exists p [] lt = absurd (omega arith)
first_exists {X} p (x ∷ xs) lt = found (p x) lt (λ l. first_exists p xs l)
  where
    found : (t : Bool) → cond (not t) (1 + position_or_len p xs) 0 < suc (length xs) → (position_or_len p xs < length xs → IsSome (find p xs)) → IsSome (if t then Some x else find p xs)
    found true lt more = refl
    found false lt more = more (omega (arith, lt))

-- there is a first exactly if it has a place
pub placed : {X : Type 0} (p : X → Bool) (xs : List X) (b : Bool) → b ≡ is_some (position p xs) → (b ≡ true → IsSome (find p xs)) × (IsSome (find p xs) → b ≡ true)
placed {X} p xs b e = by_place (position p xs) refl e
  where
    by_place : (o : Option ℕ) → position p xs ≡ o → b ≡ is_some o → (b ≡ true → IsSome (find p xs)) × (IsSome (find p xs) → b ≡ true)
    by_place None at is = (
      λ yes. let clash : false ≡ true = sym is ∙ yes in absurd (cc clash),
      λ some. let none : IsSome {T = X} None = subst (λ (o : Option X). IsSome o) (no_place p xs at) some in absurd (cc none),
    )
    by_place (Some i) at is =
        let here = position_some p xs i at in
        (λ _. first_exists p xs (omega (arith, here.0, here.1)), λ _. is)
