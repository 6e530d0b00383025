-- Going up by "..", step by step and by jumps.
use Rattle.image_tree.proofs.Vocabulary.{◌≡◌, ◌≢◌, ◌↔◌, ◌∙◌, ap, sym, refl, ℕ, zero, suc, ◌+◌, ◌-◌, ◌^◌, ◌<◌, ◌≤◌, Bool, true, IsTrue, eqb, List, [], ◌∷◌, length, get_or, map, arith, ⊎_elim, AllPairs, list_any, pow-suc, get_or_past, get_or-map, length-map, cases_eq, cases_lt, ne_eqb, false≢true, Decides-eqb, length-le_from_distinct_below, IsDistinct-from_AllPairs, climb, Reaches}

climb-none : (f : ℕ → ℕ) (d : ℕ) → climb f 0 d ≡ d
unfolding climb
climb-none f d = refl

climb-more : (f : ℕ → ℕ) (n d : ℕ) → climb f (suc n) d ≡ climb f n (f d)
unfolding climb
climb-more f n d = refl

climb-add : (f : ℕ → ℕ) (m n d : ℕ) → climb f (m + n) d ≡ climb f n (climb f m d)
unfolding climb
climb-add f zero n d = let e : 0 + n ≡ n = omega arith in ap (λ (k : ℕ). climb f k d) e
climb-add f (suc m) n d = let e : suc m + n ≡ suc (m + n) = omega arith in ap (λ (k : ℕ). climb f k d) e ∙ climb-add f m n (f d)

climb-one : (f : ℕ → ℕ) (d : ℕ) → climb f 1 d ≡ f d
climb-one f d = climb-more f 0 d ∙ climb-none f (f d)

pub climb-same : (f g : ℕ → ℕ) (n d : ℕ) → ((i : ℕ) → f i ≡ g i) → climb f n d ≡ climb g n d
unfolding climb
climb-same f g zero d h = refl
climb-same f g (suc n) d h = climb-same f g n (f d) h ∙ ap (climb g n) (h d)

-- if the root's ".." is the root, a climb never leaves it
climb-root : (f : ℕ → ℕ) (n : ℕ) → f 1 ≡ 1 → climb f n 1 ≡ 1
unfolding climb
climb-root f zero h = refl
climb-root f (suc n) h = ap (climb f n) h ∙ climb-root f n h

climb-farther : (f : ℕ → ℕ) (m n d : ℕ) → f 1 ≡ 1 → m ≤ n → climb f m d ≡ 1 → climb f n d ≡ 1
climb-farther f m n d root le h =
    let e : n ≡ m + (n - m) = omega arith in
    ap (λ (k : ℕ). climb f k d) e ∙ climb-add f m (n - m) d ∙ ap (climb f (n - m)) h ∙ climb-root f (n - m) root

-- the first number of steps that leads to the root
pub record FirstReach (f : ℕ → ℕ) (d m : ℕ) : Type 0 where
  pub there : climb f m d ≡ 1
  pub before : (k : ℕ) → k < m → climb f k d ≢ 1

first_reach : (f : ℕ → ℕ) (n d : ℕ) → climb f n d ≡ 1 → (m : ℕ) × FirstReach f d m
first_reach f zero d h = (0, record { there = h; before = λ k l. absurd (omega arith) })
first_reach f (suc n) d h =
    ⊎_elim
    (λ (e : d ≡ 1). (0, record { there = climb-none f d ∙ e; before = λ k l. absurd (omega arith) }))
    (λ (ne : d ≡ 1 → ⊥).
    let rest = first_reach f n (f d) (sym (climb-more f n d) ∙ h) in (
      suc rest.0,
      record {
        there = climb-more f rest.0 d ∙ rest.1.there;
        before = λ k l e. later f d rest.0 rest.1 ne k l e;
      },
    ))
    (cases_eq d 1)
  where
    later : (f : ℕ → ℕ) (d m : ℕ) → FirstReach f (f d) m → (d ≡ 1 → ⊥) → (k : ℕ) → k < suc m → climb f k d ≡ 1 → ⊥
    later f d m rest ne zero l e = ne (sym (climb-none f d) ∙ e)
    later f d m rest ne (suc k) l e = rest.before k (omega arith) (sym (climb-more f k d) ∙ e)

-- the numbers on the way
path : (ℕ → ℕ) → ℕ → ℕ → List ℕ
path f zero d = []
path f (suc n) d = d ∷ path f n (f d)

length-path : (f : ℕ → ℕ) (n d : ℕ) → length (path f n d) ≡ n
unfolding path
length-path f zero d = refl
length-path f (suc n) d = ap suc (length-path f n (f d))

get_or-path : (f : ℕ → ℕ) (n d k e : ℕ) → k < n → get_or (path f n d) k e ≡ climb f k d
unfolding path climb
get_or-path f zero d k e l = absurd (omega arith)
get_or-path f (suc n) d zero e l = refl
get_or-path f (suc n) d (suc k) e l = get_or-path f n (f d) k e (omega arith)

path_below : (f : ℕ → ℕ) (n d top : ℕ) → ((i : ℕ) → f i < top) → d < top → (q : ℕ) → list_any (eqb q) (path f n d) ≡ true → q < top
unfolding path
path_below f zero d top small low q h = absurd (false≢true h)
path_below f (suc n) d top small low q h =
    ⊎_elim
    (λ (e : q ≡ d). omega arith)
    (λ (ne : q ≡ d → ⊥). path_below f n (f d) top small (small d) q (rw (ne_eqb q d ne) at h))
    (cases_eq q d)

path_apart : (f : ℕ → ℕ) (d m : ℕ) → FirstReach f d m → AllPairs (λ x y. x ≢ y) (path f m d)
path_apart f d m first =
    λ i j e p q same.
    let l = length-path f m d in
    let jm : j < m = omega arith in
    let ij : climb f i d ≡ climb f j d = sym (get_or-path f m d i e (omega arith)) ∙ same ∙ get_or-path f m d j e jm in
    let back : m ≡ j + (m - j) = omega arith in
    let end : climb f (m - j) (climb f j d) ≡ 1 = sym (climb-add f j (m - j) d) ∙ ap (λ (k : ℕ). climb f k d) (sym back) ∙ first.there in
    first.before (i + (m - j)) (omega arith) (climb-add f i (m - j) d ∙ ap (climb f (m - j)) ij ∙ end)

-- a way to the root has at most as many steps as there are numbers
reach_bound : (f : ℕ → ℕ) (d top : ℕ) → ((i : ℕ) → f i < top) → d < top → f 1 ≡ 1 → Reaches f d → climb f top d ≡ 1
reach_bound f d top small low root r =
    let first = first_reach f r.steps.0 d r.steps.1 in
    let short = length-le_from_distinct_below (path f first.0 d) top (IsDistinct-from_AllPairs Decides-eqb (path f first.0 d) (path_apart f d first.0 first.1))
    (path_below f first.0 d top small low) in
    climb-farther f first.0 top d root (omega (arith, length-path f first.0 d)) first.1.there

-- ---- jumps

-- by inode number: the inode that this number of steps leads to
pub record IsJumpTable (ups : List ℕ) (steps : ℕ) (jumps : List ℕ) : Type 0 where
  pub says : (i : ℕ) → get_or jumps i 0 ≡ climb (λ n. get_or ups n 0) steps i
  pub length : length jumps ≡ length ups

get_or-doubled : (jumps : List ℕ) (i : ℕ) → get_or jumps 0 0 ≡ 0 → get_or (map (λ n. get_or jumps n 0) jumps) i 0 ≡ get_or jumps (get_or jumps i 0) 0
get_or-doubled jumps i none =
    ⊎_elim
    (λ (h : i < length jumps). get_or-map (λ n. get_or jumps n 0) jumps i 0 0 h)
    (λ (h : length jumps ≤ i).
    let f : ℕ → ℕ = λ n. get_or jumps n 0 in
    get_or_past (map f jumps) i 0 (omega (arith, length-map jumps f)) ∙ sym none ∙ ap (λ (k : ℕ). get_or jumps k 0) (sym (get_or_past jumps i 0 h)))
    (cases_lt i (length jumps))

pub jumps_first : (ups jumps : List ℕ) → get_or ups 0 0 ≡ 0 → jumps ≡ map (λ n. get_or ups n 0) ups → IsJumpTable ups (2 ^ 1) jumps
jumps_first ups jumps none e =
    let f : ℕ → ℕ = λ n. get_or ups n 0 in
    record {
      says = λ i.
          ap (λ (xs : List ℕ). get_or xs i 0) e ∙ get_or-doubled ups i none ∙ sym (climb-one f (f i)) ∙ sym (climb-more f 1 i);
      length = ap length e ∙ length-map ups f;
    }

climb-zero : (f : ℕ → ℕ) (n : ℕ) → f 0 ≡ 0 → climb f n 0 ≡ 0
unfolding climb
climb-zero f zero h = refl
climb-zero f (suc n) h = ap (climb f n) h ∙ climb-zero f n h

pub jumps_more : (ups jumps shown twice : List ℕ) (r : ℕ) → get_or ups 0 0 ≡ 0 → IsJumpTable ups (2 ^ r) jumps → shown ≡ jumps → twice ≡ map (λ n. get_or shown n 0) shown
    → IsJumpTable ups (2 ^ (r + 1)) twice
jumps_more ups jumps shown twice r none t same e =
    let f : ℕ → ℕ = λ n. get_or ups n 0 in
    let s : ℕ = 2 ^ r in
    let double : s + s ≡ 2 ^ (r + 1) = let p = pow-suc 2 r in let q : suc r ≡ r + 1 = omega arith in let z : 2 ^ suc r ≡ 2 ^ (r + 1) = ap (λ (k : ℕ). 2 ^ k) q in omega arith in
    let is : twice ≡ map (λ n. get_or jumps n 0) jumps = e ∙ ap (λ (xs : List ℕ). map (λ n. get_or xs n 0) xs) same in
    record {
      says = λ i.
          ap (λ (xs : List ℕ). get_or xs i 0) is ∙ get_or-doubled jumps i (t.says 0 ∙ climb-zero f s none) ∙ t.says (get_or jumps i 0) ∙ ap (climb f s) (t.says i)
          ∙ sym (climb-add f s s i) ∙ ap (λ (k : ℕ). climb f k i) double;
      length = ap length is ∙ length-map jumps (λ n. get_or jumps n 0) ∙ t.length;
    }

-- what the jumps say
pub reach_told : (ups jumps shown : List ℕ) (told : Bool) → get_or ups 1 0 ≡ 1 → ((i : ℕ) → get_or ups i 0 < 65536) → length ups ≤ 65536 → shown ≡ jumps
    → IsJumpTable ups 65536 jumps
    → (IsTrue told ↔ ((i : ℕ) → i < length ups → get_or ups i 0 ≢ 0 → get_or shown i 0 ≡ 1))
    → IsTrue told ↔ ((i : ℕ) → get_or ups i 0 ≢ 0 → Reaches (λ n. get_or ups n 0) i)
reach_told ups jumps shown told root small short same t says = (
  λ yes i ne.
      ⊎_elim
      (λ (h : i < length ups). record { steps = (65536, sym (t.says i) ∙ ap (λ (xs : List ℕ). get_or xs i 0) (sym same) ∙ says.0 yes i h ne) })
      (λ (h : length ups ≤ i). absurd (ne (get_or_past ups i 0 h)))
      (cases_lt i (length ups)),
  λ reach.
      says.1 (λ i h ne.
      ap (λ (xs : List ℕ). get_or xs i 0) same ∙ t.says i ∙ reach_bound (λ n. get_or ups n 0) i 65536 small (omega arith) root (reach i ne)),
)
