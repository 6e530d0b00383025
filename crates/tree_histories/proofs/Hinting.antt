-- The steps of a list, as a search hears of them.
use Rattle.tree_histories.proofs.Vocabulary.{◌≡◌, ℕ, ◌+◌, ◌<◌, List, [], ◌∷◌, ◌++◌, append-nil, append_assoc, get_or, length, take, take_more, refl, sym, ◌∙◌, ap, arith, Placed, acts_of, Act, Hint, hint_of, hints_after, hints_of, Stand, stand_of, start}
use Rattle.tree_histories.proofs.StandLemmas.{stand_count}

hints_more : (front xs : List Placed) (e : Placed) → hints_after front (xs ++ e ∷ []) ≡ hints_after front xs ++ hint_of (front ++ xs) e ∷ []
unfolding hints_after
hints_more front [] e = ap (λ (z : List Placed). hint_of z e ∷ []) (sym (append-nil front))
hints_more front (x ∷ xs) e =
    ap (λ (z : List Hint). hint_of front x ∷ z)
    (hints_more (front ++ x ∷ []) xs e ∙ ap (λ (z : List Placed). hints_after (front ++ x ∷ []) xs ++ hint_of z e ∷ []) (append_assoc front (x ∷ []) xs))

pub hints_none : hints_of [] ≡ []
unfolding hints_after
hints_none = refl

count_is : (s : Stand) (acts : List Act) → s ≡ stand_of acts → s.count ≡ length acts
count_is s acts is = let n = stand_count start acts in ap (λ (z : Stand). z.count) is ∙ omega arith

-- one entry more
pub hints_next : (list : List Placed) (i : ℕ) (e : Placed) (s : Stand) (hints : List Hint) → i < length list → e ≡ get_or list i e
    → s ≡ stand_of (acts_of e.call (take i list)) → hints ≡ hints_of (take i list)
    → hints ++ record { call = e.call; step = s.count; new = e.step.new; event = e.event } ∷ [] ≡ hints_of (take (i + 1) list)
hints_next list i e s hints lt is stand so_far =
    ap (λ (z : List Hint). z ++ record { call = e.call; step = s.count; new = e.step.new; event = e.event } ∷ []) so_far
    ∙ (ap (λ (n : ℕ). hints_of (take i list) ++ record { call = e.call; step = n; new = e.step.new; event = e.event } ∷ []) (count_is s (acts_of e.call (take i list)) stand)
    ∙ (sym (hints_more [] (take i list) e) ∙ ap hints_of (sym (take_more list i e lt ∙ ap (λ (z : Placed). take i list ++ z ∷ []) (sym is)))))
