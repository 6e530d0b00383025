-- Events noted one after the other.
use Rattle.script.proofs.Vocabulary.{◌≡◌, ℕ, ◌+◌, ◌-◌, ◌≤◌, arith, List, [], ◌∷◌, ◌++◌, length, drop, ap, sym, ◌∙◌, length-append, length-drop, append_assoc, append-nil, drop-append-le, drop-drop, drop_all, keep_last, tail, with_events}

kept_again : {T : Type 0} (n : ℕ) (events : List T) (event : T) → keep_last n (keep_last n events ++ event ∷ []) ≡ keep_last n (events ++ event ∷ [])
kept_again n events event =
    let k : ℕ = length events - n in
    let fits : k ≤ length events = omega arith in
    let all : List _ = events ++ event ∷ [] in
    let front : drop k events ++ event ∷ [] ≡ drop k all = sym (drop-append-le k events (event ∷ []) fits) in
    let long : length all ≡ length events + 1 = length-append events (event ∷ []) in
    let left : length (drop k all) ≡ length all - k = length-drop k all in
    let place : k + (length (drop k all) - n) ≡ length all - n = omega (arith, long, left) in
    ap (keep_last n) front ∙ drop-drop _ k all ∙ ap (λ i. drop i all) place

noted : {T : Type 0} (n : ℕ) (seen events : List T) → with_events (tail n (keep_last n seen)) events ≡ tail n (keep_last n (seen ++ events))
noted n seen [] = ap (λ xs. tail n (keep_last n xs)) (sym (append-nil seen))
noted n seen (event ∷ events) =
    ap (λ xs. with_events (tail n xs) events) (kept_again n seen event)
    ∙ noted n (seen ++ event ∷ []) events
    ∙ ap (λ xs. tail n (keep_last n xs)) (append_assoc seen (event ∷ []) events)

pub all_noted : {T : Type 0} (n : ℕ) (events : List T) → with_events (tail n []) events ≡ tail n (keep_last n events)
all_noted {T} n events = ap (λ xs. with_events (tail n xs) events) (sym none) ∙ noted n [] events
  where
    none : keep_last {X = T} n [] ≡ []
    none = drop_all (0 - n) [] (omega arith)
