-- A list with one entry more, or one less.
use Rattle.tree_histories.proofs.Vocabulary.{Version, ◌≡◌, ◌≢◌, ℕ, zero, suc, ◌+◌, ◌-◌, ◌<◌, ◌≤◌, ◌==◌, nat_lt, List, [], ◌∷◌, ◌++◌, take, length, get_or, refl, sym, ◌∙◌, ap, subst, inl, inr, arith, Option, Some, None, if◌then◌else◌, slice_get, length_push, take_all, take_more, get_or_from_slice_get, slice_get-get_or, slice_get_within, cases_Bool, nat_tests, Call, Open, Read, Write, Link, Unlink, Mkdir, Chdir, Dup, Fstat, Close, Inherit, Action, Placed, Trace, TracedCall, Tree, Step, piece_count, AllBelong, Belongs, Chain, Rises, act_of, acts_of, Stand, next_from, last_event, left, most}
use Rattle.tree_histories.proofs.StandLemmas.{push_other, push_own}

-- The last event.

pub last_push : (es : List Placed) (x : Placed) → last_event (es ++ x ∷ []) ≡ x.event
unfolding last_event
last_push [] x = refl
last_push (e ∷ []) x = refl
last_push (e ∷ f ∷ es) x = last_push (f ∷ es) x

split_last : (es : List Placed) (e : Placed) → slice_get es (length es - 1) ≡ Some e → es ≡ take (length es - 1) es ++ e ∷ []
split_last es e is =
    let n : ℕ = length es - 1 in
    let lt : n < length es = slice_get_within es n e is in
    let whole : take (n + 1) es ≡ es = take_all (n + 1) es (omega arith) in
    sym whole ∙ (take_more es n e lt ∙ ap (λ x. take n es ++ x ∷ []) (get_or_from_slice_get es n e e is))

pub last_at : (es : List Placed) (e : Placed) → slice_get es (length es - 1) ≡ Some e → e.event ≡ last_event es
last_at es e is = sym (ap last_event (split_last es e is) ∙ last_push (take (length es - 1) es) e)

pub last_none : (es : List Placed) → slice_get es (length es - 1) ≡ None → 0 ≡ last_event es
unfolding last_event
last_none [] is = refl
last_none (e ∷ es) is = absurd (let lt : length (e ∷ es) - 1 < length (e ∷ es) = omega arith in let x : slice_get (e ∷ es) (length (e ∷ es) - 1) ≡ Some (get_or (e ∷ es) (length (e ∷ es) - 1) e) = slice_get-get_or (e ∷ es) (length (e ∷ es) - 1) e lt in cc)

-- Numbers that rise.

pub rises_cons : (lo : ℕ) (e : Placed) (es : List Placed) → lo ≤ e.event → Rises e.event es → Rises lo (e ∷ es)
unfolding Rises
rises_cons lo e es le h = (le, h)

rises_last : (lo : ℕ) (e : Placed) (es : List Placed) → Rises lo (e ∷ es) → lo ≤ last_event (e ∷ es)
unfolding Rises last_event
rises_last lo e [] h = h.0
rises_last lo e (f ∷ es) h = let x : e.event ≤ last_event (f ∷ es) = rises_last e.event f es h.1 in omega (arith, h.0)

rises_more : (lo : ℕ) (es : List Placed) (x : Placed) → Rises lo es → lo ≤ x.event → last_event es ≤ x.event → Rises lo (es ++ x ∷ [])
unfolding Rises last_event
rises_more lo [] x h le last = (le, tt)
rises_more lo (e ∷ []) x h le last = (h.0, (last, tt))
rises_more lo (e ∷ f ∷ es) x h le last = (h.0, rises_more e.event (f ∷ es) x h.1 (let y : e.event ≤ last_event (f ∷ es) = rises_last e.event f es h.1 in omega arith) last)

pub rises_push : (es : List Placed) (x : Placed) → Rises 0 es → last_event es ≤ x.event → Rises 0 (es ++ x ∷ [])
rises_push es x h last = rises_more 0 es x h (omega arith) last

rises_before : (lo : ℕ) (es fs : List Placed) → Rises lo (es ++ fs) → Rises lo es
unfolding Rises
rises_before lo [] fs h = tt
rises_before lo (e ∷ es) fs h = (h.0, rises_before e.event es fs h.1)

pub rises_front : (es : List Placed) (x : Placed) → Rises 0 (es ++ x ∷ []) → Rises 0 es
rises_front es x h = rises_before 0 es (x ∷ []) h

last_before : (lo : ℕ) (es : List Placed) (x : Placed) → Rises lo (es ++ x ∷ []) → last_event es ≤ x.event
unfolding Rises last_event
last_before lo [] x h = omega arith
last_before lo (e ∷ []) x h = h.1.0
last_before lo (e ∷ f ∷ es) x h = last_before e.event (f ∷ es) x h.1

pub last_front : (es : List Placed) (x : Placed) → Rises 0 (es ++ x ∷ []) → last_event es ≤ x.event
last_front es x h = last_before 0 es x h

-- Entries that belong.

pub belong_push : (t : Trace) (es : List Placed) (x : Placed) → AllBelong t es → Belongs t x → AllBelong t (es ++ x ∷ [])
unfolding AllBelong
belong_push t [] x h b = (b, tt)
belong_push t (e ∷ es) x h b = (h.0, belong_push t es x h.1 b)

pub belong_front : (t : Trace) (es : List Placed) (x : Placed) → AllBelong t (es ++ x ∷ []) → AllBelong t es × Belongs t x
unfolding AllBelong
belong_front t [] x h = (tt, h.0)
belong_front t (e ∷ es) x h = (let y : AllBelong t es × Belongs t x = belong_front t es x h.1 in ((h.0, y.0), y.1))

-- Chains.

pub chain_push : (version : Version) (t u v : Tree) (es : List Placed) (x : Placed) → Chain version t es u → Step version u x.step x.answer v → Chain version t (es ++ x ∷ []) v
unfolding Chain
chain_push version t u v [] x h s = (v, subst (λ (w : Tree). Step version w x.step x.answer v) (sym h) s, refl)
chain_push version t u v (e ∷ es) x h s = (h.0, h.1, chain_push version h.0 u v es x h.2 s)

pub chain_split : (version : Version) (t u : Tree) (es fs : List Placed) → Chain version t (es ++ fs) u → (mid : Tree) × Chain version t es mid × Chain version mid fs u
unfolding Chain
chain_split version t u [] fs h = (t, refl, h)
chain_split version t u (e ∷ es) fs h = (let x : (mid : Tree) × Chain version h.0 es mid × Chain version mid fs u = chain_split version h.0 u es fs h.2 in (x.0, (h.0, h.1, x.1), x.2))

pub chain_none : (version : Version) (t : Tree) → Chain version t [] t
unfolding Chain
chain_none version t = refl

pub chain_first : (version : Version) (t u : Tree) (x : Placed) (es : List Placed) → Chain version t (x ∷ es) u → (mid : Tree) × Step version t x.step x.answer mid × Chain version mid es u
unfolding Chain
chain_first version t u x es h = h

-- How many steps may still come.

after_one : (s : Stand) (a : Action) (x : Option Action) → (if s.count == 0 then x else None) ≡ Some a → s.count < 1
after_one s a x h = elim (cases_Bool (s.count == 0)) [
  | inl y ↦ grind (arith, nat_tests)
  | inr y ↦ absurd (let z = rw y at h in cc)
]

pub below_most : (c : Call) (s : Stand) (a : Action) → next_from c s ≡ Some a → s.count < most c
below_most (Open path flags) s a h = elim (cases_Bool (s.count == 0)) [
  | inl y ↦ grind (arith, nat_tests)
  | inr y ↦ elim (cases_Bool (s.count == 1)) [
    | inl z ↦ grind (arith, nat_tests)
    | inr z ↦ absurd (let k = rw (y, z) at h in cc)
  ]
]
below_most (Write fd bytes) s a h = elim (cases_Bool s.failed) [
  | inl y ↦ absurd (let k = rw y at h in cc)
  | inr y ↦ elim (cases_Bool (nat_lt s.count (piece_count bytes))) [
    | inl z ↦ grind (arith, nat_tests)
    | inr z ↦ absurd (let k = rw (y, z) at h in cc)
  ]
]
below_most (Link old new) s a h = elim (cases_Bool (s.count == 0)) [
  | inl y ↦ grind (arith, nat_tests)
  | inr y ↦ elim (cases_Bool (s.count == 1)) [
    | inl z ↦ grind (arith, nat_tests)
    | inr z ↦ elim (cases_Bool (s.count == 2)) [
      | inl w ↦ grind (arith, nat_tests)
      | inr w ↦ elim (cases_Bool (s.count == 3)) [
        | inl v ↦ grind (arith, nat_tests)
        | inr v ↦ absurd (let k = rw (y, z, w, v) at h in cc)
      ]
    ]
  ]
]
below_most (Read fd buffer) s a h = after_one s a _ h
below_most (Unlink path) s a h = after_one s a _ h
below_most (Mkdir path) s a h = after_one s a _ h
below_most (Chdir path) s a h = after_one s a _ h
below_most (Dup fd) s a h = after_one s a _ h
below_most (Fstat fd) s a h = after_one s a _ h
below_most (Close fd) s a h = after_one s a _ h
below_most (Inherit child) s a h = after_one s a _ h

left_same : (i : ℕ) (cs : List TracedCall) (list : List Placed) (x : Placed) → x.call < i → left i cs (list ++ x ∷ []) ≡ left i cs list
unfolding left
left_same i [] list x lt = refl
left_same i (c ∷ cs) list x lt =
    let ne : x.call ≢ i = omega arith in
    rw (push_other i list x ne, left_same (i + 1) cs list x (omega arith)) refl

pub left_less : (k i : ℕ) (cs : List TracedCall) (list : List Placed) (x : Placed) (c : TracedCall) → x.call ≡ i + k → slice_get cs k ≡ Some c → length (acts_of x.call list) < most c.call → left i cs (list ++ x ∷ []) < left i cs list
unfolding left
left_less k i [] list x c e is lt = absurd (let y : k < 0 = slice_get_within [] k c is in omega arith)
left_less zero i (d ∷ ds) list x c e is lt =
    let own : acts_of i (list ++ x ∷ []) ≡ acts_of i list ++ act_of x ∷ [] = push_own i list x (omega arith) in
    let more : length (acts_of i (list ++ x ∷ [])) ≡ length (acts_of i list) + 1 = ap length own ∙ length_push (acts_of i list) (act_of x) in
    let same : left (i + 1) ds (list ++ x ∷ []) ≡ left (i + 1) ds list = left_same (i + 1) ds list x (omega arith) in
    let one : d ≡ c = cc in
    let at : length (acts_of x.call list) ≡ length (acts_of i list) = ap (λ j. length (acts_of j list)) (let z : x.call ≡ i = omega arith in z) in
    let most_is : most d.call ≡ most c.call = ap (λ (y : TracedCall). most y.call) one in
    omega arith
left_less (suc k) i (d ∷ ds) list x c e is lt =
    let ne : x.call ≢ i = omega arith in
    let own : length (acts_of i (list ++ x ∷ [])) ≡ length (acts_of i list) = ap length (push_other i list x ne) in
    let later : left (i + 1) ds (list ++ x ∷ []) < left (i + 1) ds list = left_less k (i + 1) ds list x c (omega arith) is lt in
    omega arith
