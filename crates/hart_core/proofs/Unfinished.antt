-- The calls that aren't finished: one more, and those that end with a reply.
use Rattle.hart_core.proofs.Vocabulary.{◌≡◌, ℕ, ◌+◌, ◌-◌, ◌<◌, ◌≤◌, true, false, List, [], ◌∷◌, ◌++◌, map, length, ◌==◌, get_or, set, refl, sym, ◌∙◌, ap, subst, append_assoc, inl, inr, arith, length-append, Option, Some, None, remove, append-nil, length-map, map-append, nil_from_length, remove-append_right, get_or-append_seam, set-append_seam, cases_Bool, Reply, TracedCall, ends_at, is_nothing, AreUnfinished, unfinished_from}
use Rattle.std.specs.Option.{is_some}

open_first : (n : ℕ) (c : TracedCall) (cs : List TracedCall) → is_nothing c.finished ≡ true → unfinished_from n (c ∷ cs) ≡ n ∷ unfinished_from (n + 1) cs
unfolding unfinished_from
open_first n c cs is = rw is refl

done_first : (n : ℕ) (c : TracedCall) (cs : List TracedCall) → is_nothing c.finished ≡ false → unfinished_from n (c ∷ cs) ≡ unfinished_from (n + 1) cs
unfolding unfinished_from
done_first n c cs is = rw is refl

none_from : (n : ℕ) → unfinished_from n [] ≡ []
unfolding unfinished_from
none_from n = refl

in_both : (n : ℕ) (cs ds : List TracedCall) → unfinished_from n (cs ++ ds) ≡ unfinished_from n cs ++ unfinished_from (n + length cs) ds
in_both n [] ds = rw (none_from n) (ap (λ m. unfinished_from m ds) (omega arith))
in_both n (c ∷ cs) ds = elim (cases_Bool (is_nothing c.finished)) [
  | inl is_open ↦ rw (open_first n c (cs ++ ds) is_open, open_first n c cs is_open, in_both (n + 1) cs ds) (ap (λ m. n ∷ unfinished_from (n + 1) cs ++ unfinished_from m ds) (omega arith))
  | inr done ↦ rw (done_first n c (cs ++ ds) done, done_first n c cs done, in_both (n + 1) cs ds) (ap (λ m. unfinished_from (n + 1) cs ++ unfinished_from m ds) (omega arith))
]

pub no_calls : AreUnfinished [] []
no_calls = sym (none_from 0)

pub one_more : (places : List ℕ) (cs : List TracedCall) (c : TracedCall) → AreUnfinished places cs → is_nothing c.finished ≡ true → AreUnfinished (places ++ length cs ∷ []) (cs ++ c ∷ [])
one_more places cs c are is =
    let last : unfinished_from (0 + length cs) (c ∷ []) ≡ length cs ∷ [] = open_first (0 + length cs) c [] is ∙ ap (λ ps. (0 + length cs) ∷ ps) (none_from (0 + length cs + 1)) ∙ ap (λ n. n ∷ []) (let same : 0 + length cs ≡ length cs = omega arith in same) in
    rw (in_both 0 cs (c ∷ []), last, ← are) refl

-- The first of these calls that isn't finished, if the first of all has this place.
record Next (n : ℕ) (cs : List TracedCall) : Type 0 where
  pub passed : List TracedCall
  pub call : TracedCall
  pub after : List TracedCall
  pub is : cs ≡ passed ++ call ∷ after
  pub none : (m : ℕ) → unfinished_from m passed ≡ []
  pub place : ℕ
  pub at : place ≡ n + length passed
  pub places : unfinished_from n cs ≡ place ∷ unfinished_from (place + 1) after

next : (n : ℕ) (cs : List TracedCall) → 1 ≤ length (unfinished_from n cs) → Next n cs
next n [] some = absurd (let none : length (unfinished_from n []) ≡ 0 = ap length (none_from n) in omega arith)
next n (c ∷ cs) some = elim (cases_Bool (is_nothing c.finished)) [
  | inl is_open ↦ record { passed = []; call = c; after = cs; is = refl; none = none_from; place = n; at = omega arith; places = open_first n c cs is_open }
  | inr done ↦ (
      let x = next (n + 1) cs (subst (λ ps. 1 ≤ length ps) (done_first n c cs done) some) in record {
        passed = c ∷ x.passed;
        call = x.call;
        after = x.after;
        is = ap (λ ds. c ∷ ds) x.is;
        none = λ m. done_first m c x.passed done ∙ x.none (m + 1);
        place = x.place;
        at = (let at = x.at in omega arith);
        places = done_first n c cs done ∙ x.places;
      })
]

pub keeps_finished : (h : ℕ) (r : Reply) (now : ℕ) (c : TracedCall) → is_nothing c.finished ≡ false → ends_at h r now c ≡ c
keeps_finished h r now c done = elim (cases_Bool (c.hart == h)) [
  | inl same ↦ rw (done, same) refl
  | inr other ↦ rw (done, other) refl
]

some_done : (o : Option (ℕ × Reply)) → true ≡ is_some o → is_nothing o ≡ false
some_done None is = is
some_done (Some r) is = refl

some_open : (o : Option (ℕ × Reply)) → false ≡ is_some o → is_nothing o ≡ true
some_open None is = refl
some_open (Some r) is = is

-- What is done to each call leaves those as they are that are finished.
module _ (f : TracedCall → TracedCall) (keeps : (c : TracedCall) → is_nothing c.finished ≡ false → f c ≡ c) where
  keeps_all : (n : ℕ) (cs : List TracedCall) → unfinished_from n cs ≡ [] → map f cs ≡ cs
  keeps_all n [] none = refl
  keeps_all n (c ∷ cs) none = elim (cases_Bool (is_nothing c.finished)) [
    | inl is_open ↦ absurd (let some : n ∷ unfinished_from (n + 1) cs ≡ [] = sym (open_first n c cs is_open) ∙ none in let long = ap length some in omega arith)
    | inr done ↦ (let rest = keeps_all (n + 1) cs (sym (done_first n c cs done) ∙ none) in rw (keeps c done, rest) refl)
  ]

  -- It was done to the calls of the front; the places of those still unfinished there come before those of the rest.
  pub record Ending (whole calls : List TracedCall) (places : List ℕ) (kept : ℕ) : Type 0 where
    pub front : List TracedCall
    pub rest : List TracedCall
    pub whole_is : whole ≡ front ++ rest
    pub calls_is : calls ≡ map f front ++ rest
    pub places_is : places ≡ unfinished_from 0 (map f front) ++ unfinished_from (length front) rest
    pub kept_is : kept ≡ length (unfinished_from 0 (map f front))

  pub starts : (calls : List TracedCall) (places : List ℕ) → AreUnfinished places calls → Ending calls calls places 0
  starts calls places are = record {
    front = [];
    rest = calls;
    whole_is = refl;
    calls_is = refl;
    places_is = are ∙ ap (λ ps. ps ++ unfinished_from 0 calls) (sym (none_from 0));
    kept_is = sym (ap length (none_from 0));
  }

  -- The call at the next place is met.
  pub record Met (whole calls : List TracedCall) (places : List ℕ) (kept : ℕ) : Type 0 where
    pub front : List TracedCall
    pub call : TracedCall
    pub after : List TracedCall
    pub whole_is : whole ≡ front ++ call ∷ after
    pub calls_is : calls ≡ map f front ++ call ∷ after
    pub places_is : places ≡ unfinished_from 0 (map f front) ++ length front ∷ unfinished_from (length front + 1) after
    pub kept_is : kept ≡ length (unfinished_from 0 (map f front))

  pub meets : (whole calls : List TracedCall) (places : List ℕ) (kept : ℕ) → Ending whole calls places kept → kept < length places → Met whole calls places kept
  meets whole calls places kept e more =
      let here = e.kept_is in
      let long : length places ≡ kept + length (unfinished_from (length e.front) e.rest) = ap length e.places_is ∙ length-append (unfinished_from 0 (map f e.front)) (unfinished_from (length e.front) e.rest) ∙ ap (λ n. n + length (unfinished_from (length e.front) e.rest)) (sym e.kept_is) in
      let x = next (length e.front) e.rest (omega arith) in
      let same : map f (e.front ++ x.passed) ≡ map f e.front ++ x.passed = map-append f e.front x.passed ∙ ap (λ cs. map f e.front ++ cs) (keeps_all 0 x.passed (x.none 0)) in
      let left : unfinished_from 0 (map f (e.front ++ x.passed)) ≡ unfinished_from 0 (map f e.front) = ap (unfinished_from 0) same ∙ in_both 0 (map f e.front) x.passed ∙ ap (λ ps. unfinished_from 0 (map f e.front) ++ ps) (x.none (0 + length (map f e.front))) ∙ append-nil (unfinished_from 0 (map f e.front)) in
      let at = x.at in
      let place : x.place ≡ length (e.front ++ x.passed) = omega (arith, length-append e.front x.passed) in record {
        front = e.front ++ x.passed;
        call = x.call;
        after = x.after;
        whole_is = e.whole_is ∙ ap (λ cs. e.front ++ cs) x.is ∙ sym (append_assoc e.front x.passed (x.call ∷ x.after));
        calls_is = e.calls_is ∙ ap (λ cs. map f e.front ++ cs) x.is ∙ sym (append_assoc (map f e.front) x.passed (x.call ∷ x.after)) ∙ ap (λ cs. cs ++ x.call ∷ x.after) (sym same);
        places_is = e.places_is ∙ ap (λ ps. unfinished_from 0 (map f e.front) ++ ps) x.places ∙ ap (λ ps. ps ++ x.place ∷ unfinished_from (x.place + 1) x.after) (sym left) ∙ ap (λ n. unfinished_from 0 (map f (e.front ++ x.passed)) ++ n ∷ unfinished_from (n + 1) x.after) place;
        kept_is = e.kept_is ∙ ap length (sym left);
      }

  module _ (whole calls : List TracedCall) (places : List ℕ) (kept : ℕ) (m : Met whole calls places kept) where
    is_place : (place : ℕ) → place ≡ get_or places kept place → place ≡ length m.front
    is_place place is = is ∙ (λ i. get_or (m.places_is i) (m.kept_is i) place) ∙ get_or-append_seam (unfinished_from 0 (map f m.front)) (length m.front) (unfinished_from (length m.front + 1) m.after) place

    pub is_within : (place : ℕ) → place ≡ get_or places kept place → place < length calls
    is_within place is =
        let long : length calls ≡ length (map f m.front) + length (m.call ∷ m.after) = ap length m.calls_is ∙ length-append (map f m.front) (m.call ∷ m.after) in
        omega (arith, is_place place is, length-map m.front f)

    at_front : (place : ℕ) → place ≡ get_or places kept place → place ≡ length (map f m.front)
    at_front place is = is_place place is ∙ sym (length-map m.front f)

    is_call : (place : ℕ) (c : TracedCall) → place ≡ get_or places kept place → c ≡ get_or calls place c → c ≡ m.call
    is_call place c at is = is ∙ (λ i. get_or (m.calls_is i) (at_front place at i) c) ∙ get_or-append_seam (map f m.front) m.call m.after c

    -- what it was done to
    front_more : map f (m.front ++ m.call ∷ []) ≡ map f m.front ++ f m.call ∷ []
    front_more = map-append f m.front (m.call ∷ [])

    whole_more : whole ≡ (m.front ++ m.call ∷ []) ++ m.after
    whole_more = m.whole_is ∙ sym (append_assoc m.front (m.call ∷ []) m.after)

    calls_more : (place : ℕ) → place ≡ get_or places kept place → set calls place (f m.call) ≡ map f (m.front ++ m.call ∷ []) ++ m.after
    calls_more place at =
        (λ i. set (m.calls_is i) (at_front place at i) (f m.call)) ∙ set-append_seam (map f m.front) m.call m.after (f m.call)
        ∙ sym (append_assoc (map f m.front) (f m.call ∷ []) m.after) ∙ ap (λ cs. cs ++ m.after) (sym front_more)

    long_more : length (m.front ++ m.call ∷ []) ≡ length m.front + 1
    long_more = length-append m.front (m.call ∷ [])

    left_more : unfinished_from 0 (map f (m.front ++ m.call ∷ [])) ≡ unfinished_from 0 (map f m.front) ++ unfinished_from (length m.front) (f m.call ∷ [])
    left_more = ap (unfinished_from 0) front_more ∙ in_both 0 (map f m.front) (f m.call ∷ []) ∙ ap (λ n. unfinished_from 0 (map f m.front) ++ unfinished_from n (f m.call ∷ [])) (let long = length-map m.front f in let same : 0 + length (map f m.front) ≡ length m.front = omega arith in same)

    left_done : is_nothing (f m.call).finished ≡ false → unfinished_from 0 (map f (m.front ++ m.call ∷ [])) ≡ unfinished_from 0 (map f m.front)
    left_done done = left_more ∙ ap (λ ps. unfinished_from 0 (map f m.front) ++ ps) (done_first (length m.front) (f m.call) [] done ∙ none_from (length m.front + 1)) ∙ append-nil (unfinished_from 0 (map f m.front))

    left_open : is_nothing (f m.call).finished ≡ true → unfinished_from 0 (map f (m.front ++ m.call ∷ [])) ≡ unfinished_from 0 (map f m.front) ++ length m.front ∷ []
    left_open is_open = left_more ∙ ap (λ ps. unfinished_from 0 (map f m.front) ++ ps) (open_first (length m.front) (f m.call) [] is_open ∙ ap (λ ps. length m.front ∷ ps) (none_from (length m.front + 1)))

    removed : remove places kept ≡ unfinished_from 0 (map f m.front) ++ unfinished_from (length m.front + 1) m.after
    removed =
        let left = unfinished_from 0 (map f m.front) in
        let right = unfinished_from (length m.front + 1) m.after in
        let none : length left - length left ≡ 0 = omega arith in
        (λ i. remove (m.places_is i) (m.kept_is i)) ∙ remove-append_right left (length m.front ∷ right) (length left) (length left) refl (omega arith) ∙ ap (λ n. left ++ remove (length m.front ∷ right) n) none

    -- it is finished in this step
    ends_one : (place : ℕ) → place ≡ get_or places kept place → is_nothing (f m.call).finished ≡ false → Ending whole (set calls place (f m.call)) (remove places kept) kept
    ends_one place at done = record {
      front = m.front ++ m.call ∷ [];
      rest = m.after;
      whole_is = whole_more;
      calls_is = calls_more place at;
      places_is = removed ∙ sym (λ i. left_done done i ++ unfinished_from (long_more i) m.after);
      kept_is = m.kept_is ∙ ap length (sym (left_done done));
    }

    -- it goes on
    passes_one : (place : ℕ) → place ≡ get_or places kept place → is_nothing (f m.call).finished ≡ true → Ending whole (set calls place (f m.call)) places (kept + 1)
    passes_one place at is_open = record {
      front = m.front ++ m.call ∷ [];
      rest = m.after;
      whole_is = whole_more;
      calls_is = calls_more place at;
      places_is = m.places_is ∙ sym (append_assoc (unfinished_from 0 (map f m.front)) (length m.front ∷ []) (unfinished_from (length m.front + 1) m.after)) ∙ sym (λ i. left_open is_open i ++ unfinished_from (long_more i) m.after);
      kept_is = (let here = m.kept_is in let long = ap length (left_open is_open) in omega (arith, length-append (unfinished_from 0 (map f m.front)) (length m.front ∷ [])));
    }

    -- with the call that the reply made of the one at the place
    pub ends_with : (place : ℕ) (c d : TracedCall) → place ≡ get_or places kept place → c ≡ get_or calls place c → d ≡ f c → true ≡ is_some d.finished → Ending whole (set calls place d) (remove places kept) kept
    ends_with place c d at is made done =
        let same : d ≡ f m.call = made ∙ ap f (is_call place c at is) in
        subst (λ (e : TracedCall). Ending whole (set calls place e) (remove places kept) kept) (sym same) (ends_one place at (subst (λ (e : TracedCall). is_nothing e.finished ≡ false) same (some_done d.finished done)))

    pub passes_with : (place : ℕ) (c d : TracedCall) → place ≡ get_or places kept place → c ≡ get_or calls place c → d ≡ f c → false ≡ is_some d.finished → Ending whole (set calls place d) places (kept + 1)
    passes_with place c d at is made is_open =
        let same : d ≡ f m.call = made ∙ ap f (is_call place c at is) in
        subst (λ (e : TracedCall). Ending whole (set calls place e) places (kept + 1)) (sym same) (passes_one place at (subst (λ (e : TracedCall). is_nothing e.finished ≡ true) same (some_open d.finished is_open)))

  module _ (whole calls : List TracedCall) (places : List ℕ) (kept : ℕ) (e : Ending whole calls places kept) (through : length places ≤ kept) where
    rest_done : unfinished_from (length e.front) e.rest ≡ []
    rest_done =
        let here = e.kept_is in
        let long : length places ≡ length (unfinished_from 0 (map f e.front)) + length (unfinished_from (length e.front) e.rest) = ap length e.places_is ∙ length-append (unfinished_from 0 (map f e.front)) (unfinished_from (length e.front) e.rest) in
        nil_from_length (unfinished_from (length e.front) e.rest) (omega arith)

    pub all_ended : calls ≡ map f whole
    all_ended = e.calls_is ∙ ap (λ cs. map f e.front ++ cs) (sym (keeps_all (length e.front) e.rest rest_done)) ∙ sym (map-append f e.front e.rest) ∙ ap (map f) (sym e.whole_is)

    pub all_left : AreUnfinished places calls
    all_left =
        let long : length e.front ≡ 0 + length (map f e.front) = omega (arith, length-map e.front f) in
        e.places_is ∙ ap (λ n. unfinished_from 0 (map f e.front) ++ unfinished_from n e.rest) long ∙ sym (in_both 0 (map f e.front) e.rest) ∙ ap (unfinished_from 0) (sym e.calls_is)
