-- A line of more words than a command has says nothing.
use Rattle.script.proofs.Vocabulary.{arith, ◌≡◌, ℕ, ◌<◌, Bool, true, false, List, [], ◌∷◌, length, cond, Option, Some, None, refl, ap, bytes_eq, codes, hart_in, Call, Run, Start, line_in, call_in, hart_with_call, with_two, with_one}

either : {A : Type 0} (b : Bool) (x y : Option A) → x ≡ None → y ≡ None → cond b x y ≡ None
either true x y p q = p
either false x y p q = q

nothing_second : {A B C : Type 0} (f : A → B → C) (a : Option A) → with_two f a None ≡ None
nothing_second f None = refl
nothing_second f (Some x) = refl

no_call : (hart a b c d : List ℕ) (more : List (List ℕ)) → hart_with_call (hart ∷ a ∷ b ∷ c ∷ d ∷ more) ≡ None
unfolding call_in
no_call hart a b c d more = nothing_second {A = ℕ} {B = Call} {C = ℕ × Call} (λ h c. (h, c)) (hart_in hart)

pub too_many_words : (words : List (List ℕ)) → 5 < length words → line_in words ≡ None
unfolding line_in
too_many_words [] many = absurd (omega (arith, many))
too_many_words (a ∷ []) many = absurd (omega (arith, many))
too_many_words (a ∷ b ∷ []) many = absurd (omega (arith, many))
too_many_words (a ∷ b ∷ c ∷ []) many = absurd (omega (arith, many))
too_many_words (a ∷ b ∷ c ∷ d ∷ []) many = absurd (omega (arith, many))
too_many_words (a ∷ b ∷ c ∷ d ∷ e ∷ []) many = absurd (omega (arith, many))
too_many_words (a ∷ b ∷ c ∷ d ∷ e ∷ f ∷ more) many =
    either (bytes_eq a (codes "do")) _ _ (ap (with_one (λ x. Run x.0 x.1)) (no_call b c d e f more))
    (either (bytes_eq a (codes "step")) _ _ refl
    (either (bytes_eq a (codes "upto")) _ _ refl
    (either (bytes_eq a (codes "end")) _ _ refl
    (either (bytes_eq a (codes "all")) _ _ refl
    (ap (with_one (λ x. Start x.0 x.1)) (no_call a b c d e (f ∷ more)))))))
