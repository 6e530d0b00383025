-- The calls that have to go on, in order.
use Rattle.tree_histories.proofs.Vocabulary.{◌≡◌, ℕ, zero, suc, ◌+◌, ◌<◌, ◌≤◌, List, [], ◌∷◌, ◌++◌, length, get_or, set, refl, sym, ◌∙◌, ap, subst, inl, inr, arith, Option, Some, None, Contains, IsNonDecreasingBy, IsPermutation, get_or-append, cases_eq, cases_lt, get_or-set_other, get_or-set_same, get_or_past, length_push, Contains-push, Contains-permutation, Due, IsDue, IsOrdered, StandsFrom}

-- ---- the order is made

-- it has the ends of the first calls
abbrev pub HasEnds : List (Option ℕ) → ℕ → List Due → Type 0
HasEnds ends n order = (id e : ℕ) → id < n → get_or ends id None ≡ Some e → Contains order (record { id = id; limit = e })

contains_more : (order : List Due) (d x : Due) → Contains order d → Contains (order ++ x ∷ []) d
contains_more order d x has = (has.0, (let lt = has.1 in omega (arith, length_push order x)), get_or-append order (x ∷ []) d has.0 has.1 ∙ has.2)

pub ends_pushed : (ends : List (Option ℕ)) (n l : ℕ) (order : List Due) → HasEnds ends n order → get_or ends n None ≡ Some l → HasEnds ends (n + 1) (order ++ record { id = n; limit = l } ∷ [])
ends_pushed ends n l order has is id e lt at = elim (cases_eq id n) [
  | inl same ↦ (
      let limit : Some l ≡ Some e = sym is ∙ (ap (λ k. get_or ends k None) (sym same) ∙ at) in
      let value : l ≡ e = cc in
      subst (λ (d : Due). Contains (order ++ record { id = n; limit = l } ∷ []) d) (λ i. record { id = sym same i; limit = value i }) (Contains-push order (record { id = n; limit = l }))
      )
  | inr other ↦ contains_more order (record { id = id; limit = e }) (record { id = n; limit = l }) (has id e (omega arith) at)
]

pub ends_passed : (ends : List (Option ℕ)) (n : ℕ) (order : List Due) → HasEnds ends n order → get_or ends n None ≡ None → HasEnds ends (n + 1) order
ends_passed ends n order has is id e lt at = elim (cases_eq id n) [
  | inl same ↦ absurd (let none : None ≡ Some e = sym is ∙ (ap (λ k. get_or ends k None) (sym same) ∙ at) in cc)
  | inr other ↦ has id e (omega arith) at
]

pub in_order : (ends : List (Option ℕ)) (n : ℕ) (pushed order : List Due) → length ends ≤ n → HasEnds ends n pushed → IsPermutation pushed order → IsNonDecreasingBy (λ (d : Due). d.limit) order → IsOrdered ends order 0
in_order ends n pushed order all has same rises = record {
  rises = rises;
  stand = λ id e at. (
      let d : Due = record { id = id; limit = e } in
      let there : Contains order d = Contains-permutation pushed order d same (has id e (within id e at) at) in
      (there.0, omega arith, there.1, there.2)
      );
} where
  within : (id e : ℕ) → get_or ends id None ≡ Some e → id < n
  within id e at = elim (cases_lt id n) [
    | inl lt ↦ lt
    | inr ge ↦ absurd (let none : None ≡ Some e = sym (get_or_past ends id None (omega arith)) ∙ at in cc)
  ]

-- ---- the first of it

-- none is in the order between
abbrev pub NoneStands : List (Option ℕ) → List Due → ℕ → ℕ → Type 0
NoneStands ends order from n = (k : ℕ) (d : Due) → from ≤ k → k < n → get_or order k d ≡ d → get_or ends d.id None ≡ Some d.limit → ⊥

same_at : (order : List Due) (k : ℕ) (d x : Due) → k < length order → get_or order k d ≡ get_or order k x
same_at [] k d x lt = absurd (omega (arith, lt))
same_at (y ∷ ys) zero d x lt = refl
same_at (y ∷ ys) (suc k) d x lt = same_at ys k d x (omega (arith, lt))

pub one_read : (order : List Due) (k : ℕ) (d x : Due) → k < length order → get_or order k d ≡ d → x ≡ get_or order k x → d ≡ x
one_read order k d x lt there here = sym there ∙ same_at order k d x lt ∙ sym here

pub none_more : (ends : List (Option ℕ)) (order : List Due) (from n : ℕ) (x : Due) → n < length order → x ≡ get_or order n x → (get_or ends x.id None ≡ Some x.limit → ⊥) → NoneStands ends order from n → NoneStands ends order from (n + 1)
none_more ends order from n x lt is not none k d le below there at = elim (cases_eq k n) [
  | inl same ↦ (
      let one : d ≡ x = one_read order n d x lt (ap (λ j. get_or order j d) (sym same) ∙ there) is in
      not (subst (λ (y : Due). get_or ends y.id None ≡ Some y.limit) one at)
      )
  | inr other ↦ none k d le (omega arith) there at
]

pub is_due : (ends : List (Option ℕ)) (order : List Due) (from n : ℕ) (x : Due) → IsOrdered ends order from → NoneStands ends order from n → n < length order → x ≡ get_or order n x → get_or ends x.id None ≡ Some x.limit → IsDue ends x
is_due ends order from n x ordered none lt is at = record {
  end = at;
  least = λ id e end. (
      let d : Due = record { id = id; limit = e } in
      let there : StandsFrom from order d = ordered.stand id e end in
      elim (cases_lt there.0 n) [
        | inl below ↦ absurd (none there.0 d there.1 below there.3 end)
        | inr from_n ↦ (
            let le : (get_or order n d).limit ≤ (get_or order there.0 d).limit = ordered.rises n there.0 d (omega arith) there.2 in
            let first : x ≡ get_or order n d = is ∙ same_at order n x d lt in
            let a : x.limit ≡ (get_or order n d).limit = ap (λ (y : Due). y.limit) first in
            let b : (get_or order there.0 d).limit ≡ e = ap (λ (y : Due). y.limit) there.3 in
            omega arith
            )
      ]);
}

none_if : (o : Option ℕ) → ((e : ℕ) → o ≡ Some e → ⊥) → o ≡ None
none_if None not = refl
none_if (Some e) not = absurd (not e refl)

pub none_due : (ends : List (Option ℕ)) (order : List Due) (from n : ℕ) → IsOrdered ends order from → NoneStands ends order from n → length order ≤ n → (id : ℕ) → get_or ends id None ≡ None
none_due ends order from n ordered none all id = none_if (get_or ends id None) (λ e at. (
    let there = ordered.stand id e at in
    let lt = there.2 in
    none there.0 (record { id = id; limit = e }) there.1 (omega arith) there.3 at
    ))

-- ---- a call is through

pub through : (ends : List (Option ℕ)) (order : List Due) (from id : ℕ) → id < length ends → IsOrdered ends order from → IsOrdered (set ends id None) order from
through ends order from id lt ordered = record {
  rises = ordered.rises;
  stand = λ k e at. elim (cases_eq k id) [
    | inl same ↦ absurd (let none : None ≡ Some e = sym (get_or-set_same ends id None None lt) ∙ (ap (λ j. get_or (set ends id None) j None) (sym same) ∙ at) in cc)
    | inr other ↦ ordered.stand k e (sym (get_or-set_other ends id k None None other) ∙ at)
  ];
}

pub moves_on : (ends : List (Option ℕ)) (order : List Due) (from : ℕ) (x : Due) → from < length order → x ≡ get_or order from x → (get_or ends x.id None ≡ Some x.limit → ⊥) → IsOrdered ends order from → IsOrdered ends order (from + 1)
moves_on ends order from x lt is not ordered = record {
  rises = ordered.rises;
  stand = λ id e at. (
      let d : Due = record { id = id; limit = e } in
      let there : StandsFrom from order d = ordered.stand id e at in
      elim (cases_eq there.0 from) [
        | inl same ↦ absurd (
            let one : d ≡ x = one_read order from d x lt (ap (λ j. get_or order j d) (sym same) ∙ there.3) is in
            not (subst (λ (y : Due). get_or ends y.id None ≡ Some y.limit) one at))
        | inr other ↦ (there.0, (let le = there.1 in omega arith), there.2, there.3)
      ]);
}
