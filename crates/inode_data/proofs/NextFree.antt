-- The next number that isn't 0.
use Rattle.inode_data.proofs.Vocabulary.{◌≡◌, ◌≢◌, ℕ, zero, suc, ◌+◌, ◌-◌, ◌<◌, List, [], ◌∷◌, drop, get_or, Some, None, refl, sym, ap, ◌∙◌, arith, drop-drop, get_or-drop, ne_eqb, bind, P, free_block, free_numbers, IsNext}

none_free : {A : Type 0} (bitmap : ℕ) (numbers : List ℕ) (after : P A) → ((k : ℕ) → get_or numbers k 0 ≡ 0) → free_numbers bitmap numbers after ≡ after
none_free bitmap [] after zeros = refl
none_free bitmap (b ∷ bs) after zeros = rw (zeros 0) (none_free bitmap bs after (λ k. zeros (suc k)))

first_free : {A : Type 0} (bitmap : ℕ) (numbers : List ℕ) (after : P A) (i : ℕ) → get_or numbers i 0 ≢ 0 → ((k : ℕ) → k < i → get_or numbers k 0 ≡ 0)
    → free_numbers bitmap numbers after ≡ bind (free_block bitmap (get_or numbers i 0)) (λ _. free_numbers bitmap (drop (suc i) numbers) after)
first_free bitmap [] after i some zeros = absurd (some refl)
first_free bitmap (b ∷ bs) after zero some zeros = rw (ne_eqb b 0 some) refl
first_free bitmap (b ∷ bs) after (suc i) some zeros = rw (zeros 0 (omega arith)) (first_free bitmap bs after i some (λ k h. zeros (suc k) (omega (arith, h))))

pub none_next : {A : Type 0} (bitmap : ℕ) (numbers : List ℕ) (from : ℕ) (after : P A) → IsNext numbers from None → free_numbers bitmap (drop from numbers) after ≡ after
none_next bitmap numbers from after zeros = none_free bitmap (drop from numbers) after (λ k. get_or-drop from numbers k 0 ∙ zeros (from + k) (omega arith))

pub some_next : {A : Type 0} (bitmap : ℕ) (numbers : List ℕ) (from i : ℕ) (after : P A) → IsNext numbers from (Some i)
    → free_numbers bitmap (drop from numbers) after ≡ bind (free_block bitmap (get_or numbers i 0)) (λ _. free_numbers bitmap (drop (i + 1) numbers) after)
some_next bitmap numbers from i after next =
    let there : from + (i - from) ≡ i = omega (arith, next.0) in
    let at : get_or (drop from numbers) (i - from) 0 ≡ get_or numbers i 0 = get_or-drop from numbers (i - from) 0 ∙ ap (λ n. get_or numbers n 0) there in
    let rest : drop (suc (i - from)) (drop from numbers) ≡ drop (i + 1) numbers = drop-drop (suc (i - from)) from numbers ∙ ap (λ n. drop n numbers) (omega (arith, there)) in
    first_free bitmap (drop from numbers) after (i - from) (λ e. next.1 (sym at ∙ e)) (λ k h. get_or-drop from numbers k 0 ∙ next.2 (from + k) (omega arith) (omega (arith, h, there)))
    ∙ ap (λ (b : ℕ). bind (free_block bitmap b) (λ _. free_numbers bitmap (drop (suc (i - from)) (drop from numbers)) after)) at
    ∙ ap (λ (bs : List ℕ). bind (free_block bitmap (get_or numbers i 0)) (λ _. free_numbers bitmap bs after)) rest
