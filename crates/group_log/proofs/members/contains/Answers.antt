use Rattle.group_log.proofs.Lemmas.{◌≡◌, ◌≢◌, ℕ, ◌<◌, Bool, true, false, List, length, Decides, MatchBool, refl, arith, rules, tests, ◌==◌, HoldsAt, AllWithin, cases_from_any, YieldsList-from_slice, false≢true, same_from_decides, Decides-by_or, Decides-eqb, has}
use Rattle.group_log.proofs.members.contains.Goals as goal

abbrev Has : ℕ → List ℕ → Type 0
Has b xs = (k : ℕ) × (k < length xs) × HoldsAt (λ x. b ≡ x) xs k

Decides-from_cases : (b : ℕ) (r : Bool) (xs : List ℕ) → MatchBool r (Has b xs) (AllWithin (λ x. b ≢ x) xs 0 (length xs)) → Decides r (Has b xs)
Decides-from_cases b true xs h = (λ _. h, λ _. refl)
Decides-from_cases b false xs h = (λ e. absurd (false≢true e), λ w. absurd (h w.0 0 (omega arith) w.1 (w.2 0)))

pub returns : goal.returns
returns c =
    let xs = c.args.group.now in
    let b = c.args.b in
    let by_call = cases_from_any _ _ _ (λ x. b ≡ x) (λ x. b ≢ x) c.any.ensures.ran (YieldsList-from_slice xs cc) (λ x q k. search (rules, tests)) (λ x q k. search (rules, tests)) in
    let by_spec = Decides-by_or (λ k. b == k) (λ k. b ≡ k) (λ l. has l b) (λ k. Decides-eqb b k) refl (λ _ _. refl) xs in
    same_from_decides _ (has xs b) (Decides-from_cases b _ xs by_call) by_spec
