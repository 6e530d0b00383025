-- The replies to a hart, up to a place.
use Rattle.locked_world.proofs.Vocabulary.{◌≡◌, ℕ, ◌+◌, ◌<◌, ◌≤◌, List, [], ◌∷◌, ◌++◌, Some, None, length, take, drop, get_or, refl, sym, ap, ◌∙◌, arith, append_assoc, append-nil, length-take, inl, inr, slice_get, slice_get_read, slice_get_cases, slice_get_past, take_more, take-append-drop, Reply, Given, given_to, reply_to}

given_append : (h : ℕ) (xs ys : List Given) → given_to h (xs ++ ys) ≡ given_to h xs ++ given_to h ys
given_append h [] ys = refl
given_append h (x ∷ xs) ys = ap (λ (z : List Reply). reply_to h x ++ z) (given_append h xs ys) ∙ sym (append_assoc (reply_to h x) (given_to h xs) (given_to h ys))

-- the replies up to this place
abbrev pub upto : ℕ → List Given → ℕ → List Reply
upto h gs i = given_to h (take i gs)

pub upto_next : (h : ℕ) (gs : List Given) (i : ℕ) (g : Given) → i < length gs → g ≡ get_or gs i g → upto h gs (i + 1) ≡ upto h gs i ++ reply_to h g
upto_next h gs i g lt is =
    ap (given_to h) (take_more gs i g lt ∙ ap (λ (z : Given). take i gs ++ z ∷ []) (sym is))
    ∙ given_append h (take i gs) (g ∷ [])
    ∙ ap (λ (z : List Reply). upto h gs i ++ z) (append-nil (reply_to h g))

slice_get_mid : (xs : List Reply) (r : Reply) (rest : List Reply) → slice_get ((xs ++ r ∷ []) ++ rest) (length xs) ≡ Some r
slice_get_mid [] r rest = refl
slice_get_mid (x ∷ xs) r rest = slice_get_mid xs r rest

-- this reply comes after those before it
pub reply_stands : (h : ℕ) (gs : List Given) (i : ℕ) (g : Given) (r : Reply) (k : ℕ) → i < length gs → g ≡ get_or gs i g → reply_to h g ≡ r ∷ [] → length (upto h gs i) ≡ k → slice_get (given_to h gs) k ≡ Some r
reply_stands h gs i g r k lt is here at =
    let rest : List Reply = given_to h (drop (i + 1) gs) in
    let whole : given_to h gs ≡ (upto h gs i ++ r ∷ []) ++ rest =
    ap (given_to h) (sym (take-append-drop (i + 1) gs)) ∙ given_append h (take (i + 1) gs) (drop (i + 1) gs) ∙ ap (λ (z : List Reply). z ++ rest) (upto_next h gs i g lt is ∙ ap (λ (z : List Reply). upto h gs i ++ z) here) in
    (λ j. slice_get (whole j) (sym at j)) ∙ slice_get_mid (upto h gs i) r rest

pub taken_length : (rs : List Reply) (k : ℕ) (xs : List Reply) → k ≤ length rs → take k rs ≡ xs → length xs ≡ k
taken_length rs k xs le e = sym (ap length e) ∙ omega (arith, length-take k rs, le)

pub none_some : (r : Reply) → None ≡ Some r → ⊥
none_some r e = cc

pub same_some : (a b : Reply) → Some a ≡ Some b → a ≡ b
same_some a b e = cc

pub seen_at : (rs : List Reply) (k : ℕ) (x : Reply) → k < length rs → x ≡ get_or rs k x → slice_get rs k ≡ Some x
seen_at rs k x lt is = slice_get_read rs (length rs) k x refl lt is

-- a reply that is the next one
pub took : (h : ℕ) (gs : List Given) (i : ℕ) (g : Given) (r : Reply) (rs : List Reply) (k : ℕ) (z : Reply) → i < length gs → g ≡ get_or gs i g → reply_to h g ≡ r ∷ [] → k < length rs → z ≡ get_or rs k z → z ≡ r → take k rs ≡ upto h gs i → take (k + 1) rs ≡ upto h gs (i + 1)
took h gs i g r rs k z lt is here within ez e so_far =
    take_more rs k z within ∙ ap (λ (w : Reply). take k rs ++ w ∷ []) (sym ez) ∙ (λ j. so_far j ++ e j ∷ []) ∙ ap (λ (t : List Reply). upto h gs i ++ t) (sym here) ∙ sym (upto_next h gs i g lt is)

-- one to another hart
pub passed : (h : ℕ) (gs : List Given) (i : ℕ) (g : Given) → i < length gs → g ≡ get_or gs i g → reply_to h g ≡ [] → upto h gs i ≡ upto h gs (i + 1)
passed h gs i g lt is here = sym (append-nil (upto h gs i)) ∙ ap (λ (t : List Reply). upto h gs i ++ t) (sym here) ∙ sym (upto_next h gs i g lt is)

-- past the replies there is none
pub too_many : (rs xs : List Reply) (k : ℕ) → k < length rs → length xs ≡ k → slice_get rs k ≡ slice_get xs k → ⊥
too_many rs xs k lt at e =
    elim (slice_get_cases rs k).1 [
      | inl f ↦ none_some f.0 (sym (slice_get_past xs k (omega (arith, at))) ∙ sym e ∙ f.2)
      | inr f ↦ absurd (omega (arith, f.0, lt))
    ]
