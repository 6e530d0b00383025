-- An entry for each event: only its number matters.
use Rattle.run_laws.proofs.Vocabulary.{◌≡◌, ℕ, zero, suc, ◌+◌, min, nat_lt, Bool, true, false, List, [], ◌∷◌, ◌++◌, length, refl, ◌∙◌, ap, arith, length-append, ltb-false, ltb-true, filter-append, Bump, Done, Placed, before}

abbrev pub entry : ℕ → Placed
entry n = record { event = n; call = 0; step = record { hart = 0; new = 0; action = Bump }; answer = Done }

-- those of the first n events
abbrev pub numbered : ℕ → List Placed
numbered zero = []
numbered (suc n) = numbered n ++ entry n ∷ []

one_before : (k n : ℕ) (b : Bool) → nat_lt n k ≡ b → min k n + length (before k (entry n ∷ [])) ≡ min k (suc n)
one_before k n true is = rw is (let lt = ltb-true n k is in omega (arith, lt))
one_before k n false is = rw is (let le = ltb-false n k is in omega (arith, le))

pub before_numbered : (k n : ℕ) → length (before k (numbered n)) ≡ min k n
before_numbered k zero = omega arith
before_numbered k (suc n) =
    ap length (filter-append (λ e. nat_lt e.event k) (numbered n) (entry n ∷ []))
    ∙ length-append (before k (numbered n)) (before k (entry n ∷ []))
    ∙ ap (λ (z : ℕ). z + length (before k (entry n ∷ []))) (before_numbered k n)
    ∙ one_before k n (nat_lt n k) refl

pub long_numbered : (n : ℕ) → length (numbered n) ≡ n
long_numbered zero = refl
long_numbered (suc n) = let a = long_numbered n in length-append (numbered n) (entry n ∷ []) ∙ omega (arith, a)
