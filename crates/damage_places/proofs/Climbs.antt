-- Going up by "..", step by step.
use Rattle.image_tree.proofs.Vocabulary.{◌≡◌, ◌≢◌, ◌∙◌, ap, sym, refl, ℕ, zero, suc, ◌+◌, ◌-◌, ◌<◌, ◌≤◌, true, eqb, List, [], ◌∷◌, length, get_or, arith, ⊎_elim, AllPairs, list_any, cases_eq, ne_eqb, false≢true, Decides-eqb, length-le_from_distinct_below, IsDistinct-from_AllPairs}
use Rattle.image_tree.specs.Links.{climb, Reaches}

pub climb-none : (f : ℕ → ℕ) (d : ℕ) → climb f 0 d ≡ d
unfolding climb
climb-none f d = refl

climb-more : (f : ℕ → ℕ) (n d : ℕ) → climb f (suc n) d ≡ climb f n (f d)
unfolding climb
climb-more f n d = refl

climb-add : (f : ℕ → ℕ) (m n d : ℕ) → climb f (m + n) d ≡ climb f n (climb f m d)
unfolding climb
climb-add f zero n d = let e : 0 + n ≡ n = omega arith in ap (λ (k : ℕ). climb f k d) e
climb-add f (suc m) n d = let e : suc m + n ≡ suc (m + n) = omega arith in ap (λ (k : ℕ). climb f k d) e ∙ climb-add f m n (f d)

climb-one : (f : ℕ → ℕ) (d : ℕ) → climb f 1 d ≡ f d
climb-one f d = climb-more f 0 d ∙ climb-none f (f d)

-- one step more
pub climb-last : (f : ℕ → ℕ) (n d : ℕ) → climb f (n + 1) d ≡ f (climb f n d)
climb-last f n d = climb-add f n 1 d ∙ climb-one f (climb f n d)

-- the first number of steps that leads to the root
pub record FirstReach (f : ℕ → ℕ) (d m : ℕ) : Type 0 where
  pub there : climb f m d ≡ 1
  pub before : (k : ℕ) → k < m → climb f k d ≢ 1

first_reach : (f : ℕ → ℕ) (n d : ℕ) → climb f n d ≡ 1 → (m : ℕ) × FirstReach f d m
first_reach f zero d h = (0, record { there = h; before = λ k l. absurd (omega arith) })
first_reach f (suc n) d h =
    ⊎_elim
    (λ (e : d ≡ 1). (0, record { there = climb-none f d ∙ e; before = λ k l. absurd (omega arith) }))
    (λ (ne : d ≡ 1 → ⊥).
    let rest = first_reach f n (f d) (sym (climb-more f n d) ∙ h) in (
      suc rest.0,
      record {
        there = climb-more f rest.0 d ∙ rest.1.there;
        before = λ k l e. later f d rest.0 rest.1 ne k l e;
      },
    ))
    (cases_eq d 1)
  where
    later : (f : ℕ → ℕ) (d m : ℕ) → FirstReach f (f d) m → (d ≡ 1 → ⊥) → (k : ℕ) → k < suc m → climb f k d ≡ 1 → ⊥
    later f d m rest ne zero l e = ne (sym (climb-none f d) ∙ e)
    later f d m rest ne (suc k) l e = rest.before k (omega arith) (sym (climb-more f k d) ∙ e)

-- the numbers on the way
path : (ℕ → ℕ) → ℕ → ℕ → List ℕ
path f zero d = []
path f (suc n) d = d ∷ path f n (f d)

length-path : (f : ℕ → ℕ) (n d : ℕ) → length (path f n d) ≡ n
unfolding path
length-path f zero d = refl
length-path f (suc n) d = ap suc (length-path f n (f d))

get_or-path : (f : ℕ → ℕ) (n d k e : ℕ) → k < n → get_or (path f n d) k e ≡ climb f k d
unfolding path climb
get_or-path f zero d k e l = absurd (omega arith)
get_or-path f (suc n) d zero e l = refl
get_or-path f (suc n) d (suc k) e l = get_or-path f n (f d) k e (omega arith)

path_below : (f : ℕ → ℕ) (n d top : ℕ) → ((i : ℕ) → f i < top) → d < top → (q : ℕ) → list_any (eqb q) (path f n d) ≡ true → q < top
unfolding path
path_below f zero d top small low q h = absurd (false≢true h)
path_below f (suc n) d top small low q h =
    ⊎_elim
    (λ (e : q ≡ d). omega arith)
    (λ (ne : q ≡ d → ⊥). path_below f n (f d) top small (small d) q (rw (ne_eqb q d ne) at h))
    (cases_eq q d)

path_apart : (f : ℕ → ℕ) (d m : ℕ) → FirstReach f d m → AllPairs (λ x y. x ≢ y) (path f m d)
path_apart f d m first =
    λ i j e p q same.
    let l = length-path f m d in
    let jm : j < m = omega arith in
    let ij : climb f i d ≡ climb f j d = sym (get_or-path f m d i e (omega arith)) ∙ same ∙ get_or-path f m d j e jm in
    let back : m ≡ j + (m - j) = omega arith in
    let end : climb f (m - j) (climb f j d) ≡ 1 = sym (climb-add f j (m - j) d) ∙ ap (λ (k : ℕ). climb f k d) (sym back) ∙ first.there in
    first.before (i + (m - j)) (omega arith) (climb-add f i (m - j) d ∙ ap (climb f (m - j)) ij ∙ end)

-- a way to the root is no longer than there are numbers
pub reach_within : (f : ℕ → ℕ) (d top : ℕ) → ((i : ℕ) → f i < top) → d < top → Reaches f d → (m : ℕ) × ((m ≤ top) × (climb f m d ≡ 1))
reach_within f d top small low r =
    let first = first_reach f r.steps.0 d r.steps.1 in
    let short = length-le_from_distinct_below (path f first.0 d) top (IsDistinct-from_AllPairs Decides-eqb (path f first.0 d) (path_apart f d first.0 first.1))
    (path_below f first.0 d top small low) in
    (first.0, (omega (arith, length-path f first.0 d), first.1.there))
