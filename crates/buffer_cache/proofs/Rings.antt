-- Rings of linked numbers: one is taken out, and put in after another.
use Rattle.buffer_cache.proofs.Vocabulary.{◌≡◌, ◌≢◌, ℕ, zero, suc, ◌+◌, ◌<◌, ◌≤◌, List, [], ◌∷◌, ◌++◌, length, length-set, get_or, set, Bool, true, cond, refl, sym, ◌∙◌, ap, subst, arith, ◌==◌, inl, inr, Some, range_with_len, cases_lt, nat_tests, get_or-set_same, get_or-set_other, length-range_with_len, count_of, is_same, first_or, IsPath, follow, IsRing}
use Rattle.buffer_cache.proofs.Basics.{pick, counted_at, same_number, range_at, range_within, range_apart}

is_equal : (m n : ℕ) → (m == n) ≡ true → m ≡ n
is_equal m n e = grind (arith, nat_tests)

-- counts of one number
pub count_here : (n : ℕ) (ns : List ℕ) → count_of (is_same n) (n ∷ ns) ≡ 1 + count_of (is_same n) ns
count_here n ns = ap (λ (t : Bool). cond t 1 0 + count_of (is_same n) ns) (same_number n)

pub count_join : (p : ℕ → Bool) (front back : List ℕ) → count_of p (front ++ back) ≡ count_of p front + count_of p back
count_join p [] back = omega arith
count_join p (n ∷ ns) back = let more = count_join p ns back in omega (arith, more)

-- none is this number
pub absent_first : (k n : ℕ) (ns : List ℕ) → count_of (is_same k) (n ∷ ns) ≡ 0 → n ≢ k
absent_first k n ns none e =
    let here = ap (λ (t : Bool). cond t 1 0 + count_of (is_same k) ns) (ap (λ (m : ℕ). m == k) e ∙ same_number k) in
    omega (arith, none, here)

pub absent_rest : (k n : ℕ) (ns : List ℕ) → count_of (is_same k) (n ∷ ns) ≡ 0 → count_of (is_same k) ns ≡ 0
absent_rest k n ns none = omega (arith, none)

-- the parts of a list before and after a counted number
pub record Stands (n : ℕ) (ns : List ℕ) : Type 0 where
  pub front : List ℕ
  pub back : List ℕ
  pub is : ns ≡ front ++ n ∷ back

pub stands : (n : ℕ) (ns : List ℕ) → 1 ≤ count_of (is_same n) ns → Stands n ns
stands n [] some = absurd (omega (arith, some))
stands n (m ∷ ms) some =
    pick (m == n) (λ t. (m == n) ≡ t → 1 ≤ cond t 1 0 + count_of (is_same n) ms → Stands n (m ∷ ms))
    (λ _ e _. record { front = []; back = ms; is = ap (λ (k : ℕ). k ∷ ms) (is_equal m n e) })
    (λ _ _ le. let rest = stands n ms (omega (arith, le)) in record { front = m ∷ rest.front; back = rest.back; is = ap (λ (l : List ℕ). m ∷ l) rest.is })
    refl some

-- paths
first_join : (front back : List ℕ) (b : ℕ) → first_or (front ++ back) b ≡ first_or front (first_or back b)
first_join [] back b = refl
first_join (n ∷ ns) back b = refl

pub path_split : (x y front back : List ℕ) (b : ℕ) → IsPath x y (front ++ back) b → IsPath x y front (first_or back b) × IsPath x y back b
path_split x y [] back b path = (tt, path)
path_split x y (n ∷ ns) back b path =
    let rest = path_split x y ns back b path.2 in
    let P : ℕ → Type 0 = λ m. (get_or x n 0 ≡ m) × (get_or y m 0 ≡ n) in
    let here = subst P (first_join ns back b) (path.0, path.1) in
    ((here.0, here.1, rest.0), rest.1)

pub path_join : (x y front back : List ℕ) (b : ℕ) → IsPath x y front (first_or back b) → IsPath x y back b → IsPath x y (front ++ back) b
path_join x y [] back b one two = two
path_join x y (n ∷ ns) back b one two =
    let P : ℕ → Type 0 = λ m. (get_or x n 0 ≡ m) × (get_or y m 0 ≡ n) in
    let here = subst P (sym (first_join ns back b)) (one.0, one.1) in
    (here.0, here.1, path_join x y ns back b one.2 two)

-- a change elsewhere
pub next_else : (x y ns : List ℕ) (b p v : ℕ) → count_of (is_same p) ns ≡ 0 → IsPath x y ns b → IsPath (set x p v) y ns b
next_else x y [] b p v none path = tt
next_else x y (n ∷ ns) b p v none path = (get_or-set_other x p n v 0 (absent_first p n ns none) ∙ path.0, path.1, next_else x y ns b p v (absent_rest p n ns none) path.2)

first_other : (ns : List ℕ) (b q : ℕ) → count_of (is_same q) ns ≡ 0 → b ≢ q → first_or ns b ≢ q
first_other [] b q none ne = ne
first_other (n ∷ ns) b q none ne = absent_first q n ns none

-- the first one's link back is of no path
pub previous_else : (x y : List ℕ) (n : ℕ) (ns : List ℕ) (b q v : ℕ) → count_of (is_same q) ns ≡ 0 → b ≢ q → IsPath x y (n ∷ ns) b → IsPath x (set y q v) (n ∷ ns) b
previous_else x y n [] b q v none ne path = (path.0, get_or-set_other y q b v 0 ne ∙ path.1, tt)
previous_else x y n (m ∷ ms) b q v none ne path =
    (path.0, get_or-set_other y q m v 0 (absent_first q m ms none) ∙ path.1, previous_else x y m ms b q v (absent_rest q m ms none) ne path.2)

-- the last one
pub last_in : (x y : List ℕ) (n : ℕ) (ns : List ℕ) (b : ℕ) → IsPath x y (n ∷ ns) b → 1 ≤ count_of (is_same (get_or y b 0)) (n ∷ ns)
last_in x y n [] b path = let here = count_here n [] in subst (λ (k : ℕ). 1 ≤ count_of (is_same k) (n ∷ [])) (sym path.1) (omega (arith, here))
last_in x y n (m ∷ ms) b path = let more = last_in x y m ms b path.2 in omega (arith, more)

pub last_split : (x y : List ℕ) (n : ℕ) (ns : List ℕ) (b : ℕ) → IsPath x y (n ∷ ns) b → (front : List ℕ) × (n ∷ ns ≡ front ++ get_or y b 0 ∷ [])
last_split x y n [] b path = ([], ap (λ (k : ℕ). k ∷ []) (sym path.1))
last_split x y n (m ∷ ms) b path = let rest = last_split x y m ms b path.2 in (n ∷ rest.0, ap (λ (l : List ℕ). n ∷ l) rest.1)

-- no number is there twice
abbrev pub AreApart : List ℕ → Type 0
AreApart ns = (k : ℕ) → count_of (is_same k) ns ≤ 1

-- the last one is linked to another number
pub path_to : (x y : List ℕ) (n : ℕ) (ns : List ℕ) (b q : ℕ) → AreApart (n ∷ ns) → count_of (is_same q) ns ≡ 0 → get_or y b 0 < length x → q < length y → IsPath x y (n ∷ ns) b
    → IsPath (set x (get_or y b 0) q) (set y q (get_or y b 0)) (n ∷ ns) q
path_to x y n [] b q apart none lt_x lt_y path =
    let p = get_or y b 0 in
    (ap (λ (k : ℕ). get_or (set x p q) k 0) (sym path.1) ∙ get_or-set_same x p q 0 lt_x, get_or-set_same y q p 0 lt_y ∙ path.1, tt)
path_to x y n (m ∷ ms) b q apart none lt_x lt_y path =
    let p = get_or y b 0 in
    let last = last_in x y m ms b path.2 in
    let few = apart p in
    let other : n ≢ p = λ e. (let here = ap (λ (t : Bool). cond t 1 0 + count_of (is_same p) (m ∷ ms)) (ap (λ (k : ℕ). k == p) e ∙ same_number p) in omega (arith, last, few, here)) in
    let rest : AreApart (m ∷ ms) = λ k. (let a = apart k in omega (arith, a)) in (
      get_or-set_other x p n q 0 other ∙ path.0,
      get_or-set_other y q m p 0 (absent_first q m ms none) ∙ path.1,
      path_to x y m ms b q rest (absent_rest q m ms none) lt_x lt_y path.2,
    )

-- changes of links back: of a number that isn't there, and of what the first is linked to
previous_none : (x y ns : List ℕ) (b q v : ℕ) → count_of (is_same q) ns ≡ 0 → b ≢ q → IsPath x y ns b → IsPath x (set y q v) ns b
previous_none x y [] b q v none ne path = tt
previous_none x y (n ∷ ns) b q v none ne path = previous_else x y n ns b q v (absent_rest q n ns none) ne path

previous_first : (x y ns : List ℕ) (b v : ℕ) → AreApart ns → count_of (is_same b) ns ≡ 0 → IsPath x y ns b → IsPath x (set y (first_or ns b) v) ns b
previous_first x y [] b v apart none path = tt
previous_first x y (n ∷ ns) b v apart none path =
    let here = count_here n ns in
    let few = apart n in
    previous_else x y n ns b n v (omega (arith, here, few)) (λ e. absent_first b n ns none (sym e)) path

-- the number that comes after another one isn't before it
first_absent : (front back : List ℕ) (n b : ℕ) → AreApart (front ++ n ∷ back) → count_of (is_same b) front ≡ 0 → count_of (is_same (first_or back b)) front ≡ 0
first_absent front [] n b apart none = none
first_absent front (m ∷ ms) n b apart none =
    let join = count_join (is_same m) front (n ∷ m ∷ ms) in
    let here = count_here m ms in
    let few = apart m in
    omega (arith, join, here, few)

-- one is taken out
pub taken_out : (x y : List ℕ) (a n : ℕ) (front back : List ℕ) (b : ℕ) → AreApart (a ∷ front ++ n ∷ back) → count_of (is_same b) (front ++ n ∷ back) ≡ 0
    → get_or y n 0 < length x → get_or x n 0 < length y → IsPath x y (a ∷ front ++ n ∷ back) b
    → IsPath (set x (get_or y n 0) (get_or x n 0)) (set y (get_or x n 0) (get_or y n 0)) (a ∷ front ++ back) b
taken_out x y a n front back b apart end lt_x lt_y path =
    subst (λ (m : ℕ). IsPath (set x p m) (set y m p) (a ∷ front ++ back) b) (sym here.0) (path_join (set x p m) (set y m p) (a ∷ front) back b one two)
  where
    p : ℕ
    p = get_or y n 0

    m : ℕ
    m = first_or back b

    split : IsPath x y (a ∷ front) n × IsPath x y (n ∷ back) b
    split = path_split x y (a ∷ front) (n ∷ back) b path

    here : (get_or x n 0 ≡ m) × (get_or y m 0 ≡ n) × IsPath x y back b
    here = split.1

    apart_front : AreApart (a ∷ front)
    apart_front k = let few = apart k in let join = count_join (is_same k) (a ∷ front) (n ∷ back) in omega (arith, few, join)

    apart_back : AreApart back
    apart_back k = let few = apart k in let join = count_join (is_same k) (a ∷ front) (n ∷ back) in omega (arith, few, join)

    apart_rest : AreApart (front ++ n ∷ back)
    apart_rest k = let few = apart k in omega (arith, few)

    end_front : count_of (is_same b) front ≡ 0
    end_front = let join = count_join (is_same b) front (n ∷ back) in omega (arith, end, join)

    end_back : count_of (is_same b) back ≡ 0
    end_back = let join = count_join (is_same b) front (n ∷ back) in omega (arith, end, join)

    before_back : count_of (is_same p) back ≡ 0
    before_back =
        let last = last_in x y a front n split.0 in
        let few = apart p in
        let join = count_join (is_same p) (a ∷ front) (n ∷ back) in
        omega (arith, last, few, join)

    one : IsPath (set x p m) (set y m p) (a ∷ front) m
    one = path_to x y a front n m apart_front (first_absent front back n b apart_rest end_front) lt_x (subst (λ (k : ℕ). k < length y) here.0 lt_y) split.0

    two : IsPath (set x p m) (set y m p) back b
    two = next_else x (set y m p) back b p m before_back (previous_first x y back b p apart_back end_back here.2)

-- all but the first
abbrev pub behind_first : List ℕ → List ℕ
behind_first [] = []
behind_first (n ∷ ns) = ns

-- one is put in after another
pub put_in : (x y front : List ℕ) (h n : ℕ) (back : List ℕ) (b : ℕ) → AreApart (front ++ h ∷ back) → count_of (is_same n) (front ++ h ∷ back) ≡ 0
    → count_of (is_same b) (behind_first (front ++ h ∷ back)) ≡ 0 → b ≢ n → n < length x → n < length y → h < length x → get_or x h 0 < length y → IsPath x y (front ++ h ∷ back) b
    → IsPath (set (set x h n) n (get_or x h 0)) (set (set y n h) (get_or x h 0) n) (front ++ h ∷ n ∷ back) b
put_in x y front h n back b apart absent end other n_x n_y h_x m_y path =
    subst (λ (m : ℕ). IsPath (set (set x h n) n m) (set (set y n h) m n) (front ++ h ∷ n ∷ back) b) (sym here.0)
    (path_join x1 y1 front (h ∷ n ∷ back) b (before front apart absent end split.0) (here_next, here_previous, (there_next, there_previous, behind)))
  where
    m : ℕ
    m = first_or back b

    x1 : List ℕ
    x1 = set (set x h n) n m

    y1 : List ℕ
    y1 = set (set y n h) m n

    split : IsPath x y front h × IsPath x y (h ∷ back) b
    split = path_split x y front (h ∷ back) b path

    here : (get_or x h 0 ≡ m) × (get_or y m 0 ≡ h) × IsPath x y back b
    here = split.1

    apart_back : AreApart (h ∷ back)
    apart_back k = let few = apart k in let join = count_join (is_same k) front (h ∷ back) in omega (arith, few, join)

    absent_back : count_of (is_same n) (h ∷ back) ≡ 0
    absent_back = let join = count_join (is_same n) front (h ∷ back) in omega (arith, absent, join)

    n_h : h ≢ n
    n_h = absent_first n h back absent_back

    m_n : m ≢ n
    m_n = first_other back b n (absent_rest n h back absent_back) other

    h_back : count_of (is_same h) back ≡ 0
    h_back = let few = apart_back h in let at = count_here h back in omega (arith, few, at)

    end_back : (fs : List ℕ) → count_of (is_same b) (behind_first (fs ++ h ∷ back)) ≡ 0 → count_of (is_same b) back ≡ 0
    end_back [] e = e
    end_back (a ∷ fs) e = let join = count_join (is_same b) fs (h ∷ back) in omega (arith, e, join)

    n_back : count_of (is_same n) back ≡ 0
    n_back = absent_rest n h back absent_back

    before : (fs : List ℕ) → AreApart (fs ++ h ∷ back) → count_of (is_same n) (fs ++ h ∷ back) ≡ 0 → count_of (is_same b) (behind_first (fs ++ h ∷ back)) ≡ 0 → IsPath x y fs h → IsPath x1 y1 fs h
    before [] few none e q = tt
    before (a ∷ fs) few none e q =
        let join_n = count_join (is_same n) (a ∷ fs) (h ∷ back) in
        let join_h = count_join (is_same h) (a ∷ fs) (h ∷ back) in
        let join_b = count_join (is_same b) fs (h ∷ back) in
        let at = count_here h back in
        let few_h = few h in
        let rest : AreApart (fs ++ h ∷ back) = λ k. (let all = few k in omega (arith, all)) in
        let b_fs : count_of (is_same b) fs ≡ 0 = omega (arith, e, join_b) in
        let b_hs : count_of (is_same b) (h ∷ back) ≡ 0 = omega (arith, e, join_b) in
        let h_m : h ≢ m = λ same. (first_other back b h h_back (λ eq. absent_first b h back b_hs (sym eq)) (sym same)) in
        next_else (set x h n) y1 (a ∷ fs) h n m (omega (arith, none, join_n))
        (next_else x y1 (a ∷ fs) h h n (omega (arith, few_h, join_h, at))
        (previous_else x (set y n h) a fs h m n (first_absent fs back h b rest b_fs) h_m (previous_else x y a fs h n h (omega (arith, none, join_n)) n_h q)))

    behind : IsPath x1 y1 back b
    behind =
        next_else (set x h n) y1 back b n m n_back
        (next_else x y1 back b h n h_back
        (previous_first x (set y n h) back b n (λ k. (let few = apart_back k in omega (arith, few))) (end_back front end) (previous_none x y back b n h n_back other here.2)))

    here_next : get_or x1 h 0 ≡ n
    here_next = get_or-set_other (set x h n) n h m 0 n_h ∙ get_or-set_same x h n 0 h_x

    here_previous : get_or y1 n 0 ≡ h
    here_previous = get_or-set_other (set y n h) m n n 0 (λ e. m_n (sym e)) ∙ get_or-set_same y n h 0 n_y

    there_next : get_or x1 n 0 ≡ m
    there_next = get_or-set_same (set x h n) n m 0 (let long = length-set x h n in omega (arith, long, n_x))

    there_previous : get_or y1 m 0 ≡ n
    there_previous =
        get_or-set_same (set y n h) m n 0
        (let long = length-set y n h in let lt : m < length y = subst (λ (k : ℕ). k < length y) here.0 m_y in omega (arith, long, lt))

-- rings
count_all : (ns : List ℕ) → count_of (λ _. true) ns ≡ length ns
count_all [] = refl
count_all (n ∷ ns) = let more = count_all ns in omega (arith, more)

followed : (x y : List ℕ) (a : ℕ) (ns : List ℕ) (b : ℕ) → IsPath x y (a ∷ ns) b → follow x a (length ns) ≡ ns
unfolding follow
followed x y a [] b path = refl
followed x y a (n ∷ ns) b path =
    subst (λ (k : ℕ). k ∷ follow x k (length ns) ≡ n ∷ ns) (sym path.0) (ap (λ (l : List ℕ). n ∷ l) (followed x y n ns b path.2))

pub ring_again : (last : ℕ) (x y ns : List ℕ) → IsPath x y (last ∷ ns) last → ((p : ℕ → Bool) → count_of p ns ≡ count_of p (range_with_len 0 last)) → IsRing last x y × (follow x last last ≡ ns)
ring_again last x y ns path each = (
  record {
    path = subst (λ (l : List ℕ). IsPath x y (last ∷ l) last) (sym is) path;
    each = λ p. ap (λ (l : List ℕ). count_of p l) is ∙ each p;
  },
  is,
)
  where
    long : length ns ≡ last
    long = sym (count_all ns) ∙ each (λ _. true) ∙ count_all (range_with_len 0 last) ∙ length-range_with_len 0 last

    is : follow x last last ≡ ns
    is = ap (λ (k : ℕ). follow x last k) (sym long) ∙ followed x y last ns last path

-- the numbers of a ring are those up to the last, each once
pub ring_has : (last : ℕ) (x y : List ℕ) (n : ℕ) → IsRing last x y → n < last → 1 ≤ count_of (is_same n) (follow x last last)
ring_has last x y n ring lt =
    let each = ring.each (is_same n) in
    let at = counted_at (is_same n) (range_with_len 0 last) n n (range_at 0 last n lt ∙ ap (λ (k : ℕ). Some k) (let e : 0 + n ≡ n = omega arith in e)) (same_number n) in
    omega (arith, each, at)

pub ring_within : (last : ℕ) (x y : List ℕ) (n : ℕ) → IsRing last x y → 1 ≤ count_of (is_same n) (follow x last last) → n < last
ring_within last x y n ring some = let each = ring.each (is_same n) in let lt = range_within n 0 last (omega (arith, each, some)) in omega (arith, lt)

pub ring_apart : (last : ℕ) (x y : List ℕ) → IsRing last x y → AreApart (last ∷ follow x last last)
ring_apart last x y ring k =
    let each = ring.each (is_same k) in
    let few = range_apart k 0 last in
    pick (last == k) (λ t. (last == k) ≡ t → cond t 1 0 + count_of (is_same k) (follow x last last) ≤ 1)
    (λ _ e. let here = range_end last k (is_equal last k e) in omega (arith, each, here))
    (λ _ _. omega (arith, each, few))
    refl
  where
    range_end : (a b : ℕ) → a ≡ b → count_of (is_same b) (range_with_len 0 a) ≡ 0
    range_end a b e = elim (cases_lt 0 (count_of (is_same b) (range_with_len 0 a))) [
      | inl some ↦ let lt = range_within b 0 a (omega (arith, some)) in absurd (omega (arith, lt, e))
      | inr none ↦ omega (arith, none)
    ]

first_within : (last : ℕ) (ns : List ℕ) → ((k : ℕ) → 1 ≤ count_of (is_same k) ns → k < suc last) → first_or ns last < suc last
first_within last [] each = omega arith
first_within last (m ∷ ms) each = each m (let here = count_here m ms in omega (arith, here))

-- a ring from which one number was taken out
pub record Unlinked (last : ℕ) (x y : List ℕ) (n : ℕ) (x1 y1 : List ℕ) : Type 0 where
  pub before : get_or y n 0 < suc last
  pub behind : get_or x n 0 < suc last
  pub front : List ℕ
  pub back : List ℕ
  pub was : follow x last last ≡ front ++ n ∷ back
  pub path : IsPath x1 y1 (last ∷ front ++ back) last
  pub apart : AreApart (last ∷ front ++ back)
  pub absent : count_of (is_same n) (last ∷ front ++ back) ≡ 0
  pub within : (k : ℕ) → 1 ≤ count_of (is_same k) (last ∷ front ++ back) → k < suc last

pub unlinked : (last : ℕ) (x y : List ℕ) (n : ℕ) (x1 y1 : List ℕ) → IsRing last x y → length x ≡ suc last → length y ≡ suc last → n < last
    → x1 ≡ set x (get_or y n 0) (get_or x n 0) → y1 ≡ set y (get_or x n 0) (get_or y n 0) → Unlinked last x y n x1 y1
unlinked last x y n x1 y1 ring long_x long_y lt x_is y_is = record {
  before = before_lt;
  behind = behind_lt;
  front = front;
  back = back;
  was = at.is;
  path = subst (λ (w : List ℕ). IsPath w y1 (last ∷ front ++ back) last) (sym x_is) (subst (λ (w : List ℕ). IsPath (set x (get_or y n 0) (get_or x n 0)) w (last ∷ front ++ back) last) (sym y_is)
      (taken_out x y last n front back last apart_all (end last apart_all) (subst (λ (k : ℕ). get_or y n 0 < k) (sym long_x) before_lt) (subst (λ (k : ℕ). get_or x n 0 < k) (sym long_y) behind_lt) path));
  apart = λ k. (let few = apart_all k in let j = join k in omega (arith, few, j));
  absent = let few = apart_all n in let j = join n in let here = count_here n [] in omega (arith, few, j, here);
  within = λ k some. within k (let j = join k in omega (arith, some, j));
}
  where
    at : Stands n (follow x last last)
    at = stands n (follow x last last) (ring_has last x y n ring lt)

    front : List ℕ
    front = at.front

    back : List ℕ
    back = at.back

    apart_all : AreApart (last ∷ front ++ n ∷ back)
    apart_all = subst (λ (l : List ℕ). AreApart (last ∷ l)) at.is (ring_apart last x y ring)

    path : IsPath x y (last ∷ front ++ n ∷ back) last
    path = subst (λ (l : List ℕ). IsPath x y (last ∷ l) last) at.is ring.path

    join : (k : ℕ) → count_of (is_same k) (last ∷ front ++ n ∷ back) ≡ count_of (is_same k) (last ∷ front ++ back) + count_of (is_same k) (n ∷ [])
    join k = let a = count_join (is_same k) front (n ∷ back) in let b = count_join (is_same k) front back in omega (arith, a, b)

    end : (k : ℕ) → AreApart (k ∷ front ++ n ∷ back) → count_of (is_same k) (front ++ n ∷ back) ≡ 0
    end k few = let one = few k in let here = count_here k (front ++ n ∷ back) in omega (arith, one, here)

    within : (k : ℕ) → 1 ≤ count_of (is_same k) (last ∷ front ++ n ∷ back) → k < suc last
    within k some =
        pick (last == k) (λ t. (last == k) ≡ t → 1 ≤ cond t 1 0 + count_of (is_same k) (front ++ n ∷ back) → k < suc last)
        (λ _ e _. let same = is_equal last k e in omega (arith, same))
        (λ _ _ le. let lower = ring_within last x y k ring (subst (λ (l : List ℕ). 1 ≤ count_of (is_same k) l) (sym at.is) (omega (arith, le))) in omega (arith, lower))
        refl some

    split : IsPath x y (last ∷ front) n × IsPath x y (n ∷ back) last
    split = path_split x y (last ∷ front) (n ∷ back) last path

    before_lt : get_or y n 0 < suc last
    before_lt =
        let p = get_or y n 0 in
        let some = last_in x y last front n split.0 in
        let a = count_join (is_same p) (last ∷ front) (n ∷ back) in
        within p (omega (arith, some, a))

    behind_lt : get_or x n 0 < suc last
    behind_lt = subst (λ (k : ℕ). k < suc last) (sym split.1.0) (first_within last back (λ k some. within k (let a = count_join (is_same k) (last ∷ front) (n ∷ back) in omega (arith, some, a))))

-- and into which it is put after another
pub record Linked (last : ℕ) (x1 y1 : List ℕ) (n h : ℕ) (front back : List ℕ) (x2 y2 : List ℕ) : Type 0 where
  pub before : h < suc last
  pub behind : get_or x1 h 0 < suc last
  pub path : IsPath x2 y2 (front ++ h ∷ n ∷ back) last

pub linked : (last : ℕ) (x y : List ℕ) (n : ℕ) (x1 y1 : List ℕ) (h : ℕ) (front back x2 y2 : List ℕ) (out : Unlinked last x y n x1 y1) → last ∷ out.front ++ out.back ≡ front ++ h ∷ back
    → length x1 ≡ suc last → length y1 ≡ suc last → n < last
    → x2 ≡ set (set x1 h n) n (get_or x1 h 0) → y2 ≡ set (set y1 n h) (get_or x1 h 0) n → Linked last x1 y1 n h front back x2 y2
linked last x y n x1 y1 h front back x2 y2 out is long_x long_y lt x_is y_is = record {
  before = before_lt;
  behind = behind_lt;
  path = subst (λ (w : List ℕ). IsPath w y2 (front ++ h ∷ n ∷ back) last) (sym x_is) (subst (λ (w : List ℕ). IsPath (set (set x1 h n) n (get_or x1 h 0)) w (front ++ h ∷ n ∷ back) last) (sym y_is)
      (put_in x1 y1 front h n back last
      (subst AreApart is out.apart)
      (subst (λ (l : List ℕ). count_of (is_same n) l ≡ 0) is out.absent)
      (subst (λ (l : List ℕ). count_of (is_same last) (behind_first l) ≡ 0) is (let few = out.apart last in let here = count_here last (out.front ++ out.back) in omega (arith, few, here)))
      (λ e. omega (arith, e, lt)) (omega (arith, long_x, lt)) (omega (arith, long_y, lt)) (omega (arith, long_x, before_lt)) (omega (arith, long_y, behind_lt)) path));
}
  where
    path : IsPath x1 y1 (front ++ h ∷ back) last
    path = subst (λ (l : List ℕ). IsPath x1 y1 l last) is out.path

    within : (k : ℕ) → 1 ≤ count_of (is_same k) (front ++ h ∷ back) → k < suc last
    within k some = out.within k (subst (λ (l : List ℕ). 1 ≤ count_of (is_same k) l) (sym is) some)

    before_lt : h < suc last
    before_lt = within h (let a = count_join (is_same h) front (h ∷ back) in let b = count_here h back in omega (arith, a, b))

    behind_lt : get_or x1 h 0 < suc last
    behind_lt =
        subst (λ (k : ℕ). k < suc last) (sym (path_split x1 y1 front (h ∷ back) last path).1.0)
        (first_within last back (λ k some. within k (let a = count_join (is_same k) front (h ∷ back) in omega (arith, some, a))))

-- a ring of all numbers in their order
pub record AreInOrder (last : ℕ) (x y : List ℕ) : Type 0 where
  pub next : (k : ℕ) → k < last → get_or x k 0 ≡ k + 1
  pub previous : (k : ℕ) → k < last → get_or y (k + 1) 0 ≡ k
  pub first : get_or x last 0 ≡ 0
  pub last_ : get_or y 0 0 ≡ last

first_range : (a n last : ℕ) → a + n ≡ last → first_or (range_with_len a n) last ≡ a
first_range a zero last e = omega (arith, e)
first_range a (suc n) last e = refl

path_range : (last : ℕ) (x y : List ℕ) (a n : ℕ) → AreInOrder last x y → a + n ≡ last → IsPath x y (range_with_len a n) last
path_range last x y a zero is e = tt
path_range last x y a (suc n) is e =
    let lt : a < last = omega (arith, e) in
    let on : a + 1 + n ≡ last = omega (arith, e) in
    let first = first_range (a + 1) n last on in
    (is.next a lt ∙ sym first, ap (λ (k : ℕ). get_or y k 0) first ∙ is.previous a lt, path_range last x y (a + 1) n is on)

pub ring_made : (last : ℕ) (x y : List ℕ) → AreInOrder last x y → IsRing last x y × (follow x last last ≡ range_with_len 0 last)
ring_made last x y is = ring_again last x y (range_with_len 0 last) path (λ _. refl)
  where
    path : IsPath x y (last ∷ range_with_len 0 last) last
    path =
        let first = first_range 0 last last (omega arith) in
        (is.first ∙ sym first, ap (λ (k : ℕ). get_or y k 0) first ∙ is.last_, path_range last x y 0 last is (omega arith))
