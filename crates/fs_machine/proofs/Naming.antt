-- How many descriptors name a place, as descriptors change.
use Rattle.std.proofs.Common.{length-set}
use Rattle.std.proofs.lemmas.Bool.{cases_eq}
use Rattle.std.proofs.lemmas.Grind.{get_or-set_at}
use Rattle.std.proofs.lemmas.List.{get_or-replicate, get_or-set_other}
use Rattle.std.proofs.lemmas.List.Sums.{count_by-le-length, sum_by-cons, sum_by-set}
use Rattle.std.specs.Prelude.{◌*◌, ◌-◌, ◌||◌, count_by}
use Rattle.fs_machine.proofs.Vocabulary.{◌≡◌, ◌≢◌, ℕ, zero, suc, ◌+◌, ◌<◌, ◌≤◌, List, [], ◌∷◌, length, get_or, set, replicate, Bool, true, false, cond, nat_lt, refl, sym, ◌∙◌, ap, subst, arith, inl, inr, Option, Some, None, IfSome, slice_get, slice_get-get_or, slice_get_within, get_or_from_slice_get, same_Some, none-some, nat_tests, Desk, change_at, with_descriptor, list_any}
use Rattle.fs_machine.specs.Files.{is_at, names}
use Rattle.fs_machine.specs.Names.{AreCounted, named, one_name_less, one_name_more}
use Rattle.fs_machine.proofs.Places.{set_change, length-change_at}

abbrev pub no_desk : Desk
no_desk = record { descriptors = []; directory = 0; hand = None }

-- whether a descriptor names a place, as a number
abbrev pub at : ℕ → Option ℕ → ℕ
at p o = cond (is_at p o) 1 0

abbrev names_of : ℕ → Desk → ℕ
names_of p d = count_by (is_at p) d.descriptors

-- a descriptor that names another place than before
named_set : (p hart fd : ℕ) (n : Option ℕ) (desks : List Desk) → hart < length desks → fd < length (get_or desks hart no_desk).descriptors
    → named p (change_at hart (with_descriptor fd n) desks) + at p (get_or (get_or desks hart no_desk).descriptors fd None) ≡ named p desks + at p n
named_set p hart fd n desks lt within =
    let d = get_or desks hart no_desk in
    let to : Desk = with_descriptor fd n d in
    let whole = sum_by-set (names_of p) desks hart to no_desk lt in
    let own = sum_by-set (at p) d.descriptors fd n None within in
    let is : named p (change_at hart (with_descriptor fd n) desks) ≡ named p (set desks hart to) = ap (named p) (sym (set_change hart (with_descriptor fd n) desks no_desk lt)) in
    omega (arith, whole, own, is)

-- there are at most sixteen of a hart
named_le : (p : ℕ) (desks : List Desk) → ((k : ℕ) (d : Desk) → slice_get desks k ≡ Some d → length d.descriptors ≡ 16) → named p desks ≤ 16 * length desks
named_le p [] sized = omega arith
named_le p (d ∷ ds) sized =
    let own = count_by-le-length (is_at p) d.descriptors in
    let long = sized 0 d refl in
    let rest = named_le p ds (λ k e at_k. sized (suc k) e at_k) in
    let both = sum_by-cons (names_of p) d ds in
    omega (arith, own, long, rest, both)

pub named_few : (p : ℕ) (counts : List ℕ) (desks : List Desk) → AreCounted counts desks → named p desks ≤ 128
named_few p counts desks are = let le = named_le p desks are.descriptors in let eight = are.eight in omega (arith, le, eight)

-- whether there is one
any_or : (m n : ℕ) → nat_lt 0 (m + n) ≡ (nat_lt 0 m || nat_lt 0 n)
any_or m n = grind (arith, nat_tests)

is_one : (t : Bool) → nat_lt 0 (cond t 1 0) ≡ t
is_one true = refl
is_one false = refl

any_of : (p : ℕ) (ks : List (Option ℕ)) → nat_lt 0 (count_by (is_at p) ks) ≡ list_any (is_at p) ks
any_of p [] = refl
any_of p (k ∷ ks) =
    ap (nat_lt 0) (sum_by-cons (at p) k ks) ∙ any_or (at p k) (count_by (is_at p) ks)
    ∙ ap (λ (t : Bool). t || nat_lt 0 (count_by (is_at p) ks)) (is_one (is_at p k)) ∙ ap (λ (t : Bool). is_at p k || t) (any_of p ks)

pub named_any : (p : ℕ) (desks : List Desk) → nat_lt 0 (named p desks) ≡ list_any (names p) desks
named_any p [] = refl
named_any p (d ∷ ds) =
    ap (nat_lt 0) (sum_by-cons (names_of p) d ds) ∙ any_or (names_of p d) (named p ds)
    ∙ ap (λ (t : Bool). t || nat_lt 0 (named p ds)) (any_of p d.descriptors) ∙ ap (λ (t : Bool). names p d || t) (named_any p ds)

-- counts after a place lost a name, or got one
one_at : (q p : ℕ) → p ≡ q → at p (Some q) ≡ 1
one_at q p same = grind (arith, nat_tests)

none_at : (q p : ℕ) → p ≢ q → at p (Some q) ≡ 0
none_at q p other = grind (arith, nat_tests)

less_at : (o : Option ℕ) (counts : List ℕ) (p : ℕ) → IfSome o (λ q. q < length counts) → IfSome o (λ q. 0 < get_or counts q 0) → get_or (one_name_less o counts) p 0 + at p o ≡ get_or counts p 0
less_at None counts p within some = omega arith
less_at (Some q) counts p within some =
    elim (cases_eq p q) [
      | inl same ↦ let here = get_or-set_at counts q p (get_or counts q 0 - 1) 0 same within in
          let one = one_at q p same in
          let read = ap (λ (k : ℕ). get_or counts k 0) same in
          omega (arith, here, one, read, some)
      | inr other ↦ let here = get_or-set_other counts q p (get_or counts q 0 - 1) 0 other in let none = none_at q p other in omega (arith, here, none)
    ]

more_at : (o : Option ℕ) (counts : List ℕ) (p : ℕ) → IfSome o (λ q. q < length counts) → get_or (one_name_more o counts) p 0 ≡ get_or counts p 0 + at p o
more_at None counts p within = omega arith
more_at (Some q) counts p within =
    elim (cases_eq p q) [
      | inl same ↦ let here = get_or-set_at counts q p (get_or counts q 0 + 1) 0 same within in
          let one = one_at q p same in
          let read = ap (λ (k : ℕ). get_or counts k 0) same in
          omega (arith, here, one, read)
      | inr other ↦ let here = get_or-set_other counts q p (get_or counts q 0 + 1) 0 other in let none = none_at q p other in omega (arith, here, none)
    ]

length_less : (o : Option ℕ) (counts : List ℕ) → length (one_name_less o counts) ≡ length counts
length_less None counts = refl
length_less (Some q) counts = length-set counts q (get_or counts q 0 - 1)

length_more : (o : Option ℕ) (counts : List ℕ) → length (one_name_more o counts) ≡ length counts
length_more None counts = refl
length_more (Some q) counts = length-set counts q (get_or counts q 0 + 1)

-- a descriptor that names a place is counted there
is_counted : (p hart fd : ℕ) (counts : List ℕ) (desks : List Desk) → AreCounted counts desks → hart < 8 → fd < 16 → p < 256 → get_or (get_or desks hart no_desk).descriptors fd None ≡ Some p → 0 < get_or counts p 0
is_counted p hart fd counts desks are lt within byte is =
    let d = get_or desks hart no_desk in
    let eight = are.eight in
    let there = slice_get-get_or desks hart no_desk (omega (arith, lt, eight)) in
    let long = are.descriptors hart d there in
    let gone = named_set p hart fd None desks (omega (arith, lt, eight)) (omega (arith, long, within)) in
    let one : at p (get_or d.descriptors fd None) ≡ 1 = ap (at p) is ∙ one_at p p refl in
    let counted = are.counted p byte in
    omega (arith, gone, one, counted)

pub some_counted : (hart fd : ℕ) (counts : List ℕ) (desks : List Desk) → AreCounted counts desks → hart < 8 → fd < 16 → (o : Option ℕ) → get_or (get_or desks hart no_desk).descriptors fd None ≡ o
    → IfSome o (λ p. p < 256 → 0 < get_or counts p 0)
some_counted hart fd counts desks are lt within None is = tt
some_counted hart fd counts desks are lt within (Some p) is = λ byte. is_counted p hart fd counts desks are lt within byte is

pub all_counted : (counts : List ℕ) (o : Option ℕ) → IfSome o (λ p. p < 256) → IfSome o (λ p. p < 256 → 0 < get_or counts p 0) → IfSome o (λ p. 0 < get_or counts p 0)
all_counted counts None bytes some = tt
all_counted counts (Some p) bytes some = some bytes

-- there is room for one more
pub has_room : (counts : List ℕ) (desks : List Desk) (o n : Option ℕ) → AreCounted counts desks → IfSome o (λ q. q < 256) → IfSome o (λ q. 0 < get_or counts q 0)
    → IfSome n (λ p. p < 256 → get_or (one_name_less o counts) p 0 < 255)
has_room counts desks o None are bytes some = tt
has_room counts desks o (Some p) are bytes some = λ byte.
    let few = named_few p counts desks are in
    let counted = are.counted p byte in
    let less = less_at o counts p (subst (λ (k : ℕ). IfSome o (λ q. q < k)) (sym are.bytes) bytes) some in
    omega (arith, few, counted, less)

-- the counts stay so
pub counted_set : (hart fd : ℕ) (o n : Option ℕ) (counts : List ℕ) (desks : List Desk) → AreCounted counts desks → hart < 8 → fd < 16 → get_or (get_or desks hart no_desk).descriptors fd None ≡ o
    → IfSome o (λ q. q < 256) → IfSome o (λ q. 0 < get_or counts q 0) → IfSome n (λ q. q < 256)
    → AreCounted (one_name_more n (one_name_less o counts)) (change_at hart (with_descriptor fd n) desks)
counted_set hart fd o n counts desks are lt within is bytes some news =
    let d = get_or desks hart no_desk in
    let eight = are.eight in
    let there = slice_get-get_or desks hart no_desk (omega (arith, lt, eight)) in
    let long = are.descriptors hart d there in
    let own = subst (λ (k : ℕ). IfSome o (λ q. q < k)) (sym are.bytes) bytes in
    let less_long = length_less o counts in
    let new = subst (λ (k : ℕ). IfSome n (λ q. q < k)) (sym (less_long ∙ are.bytes)) news in
    record {
      eight = length-change_at hart (with_descriptor fd n) desks ∙ eight;
      descriptors = sized_set hart fd n desks are.descriptors;
      bytes = length_more n (one_name_less o counts) ∙ less_long ∙ are.bytes;
      counted = λ p byte.
          let moved = named_set p hart fd n desks (omega (arith, lt, eight)) (omega (arith, long, within)) in
          let was : at p (get_or d.descriptors fd None) ≡ at p o = ap (at p) is in
          let less = less_at o counts p own some in
          let more = more_at n (one_name_less o counts) p new in
          let counted = are.counted p byte in
          omega (arith, moved, was, less, more, counted);
    }
  where
    sized_set : (hart fd : ℕ) (n : Option ℕ) (desks : List Desk) → ((k : ℕ) (d : Desk) → slice_get desks k ≡ Some d → length d.descriptors ≡ 16)
        → (k : ℕ) (d : Desk) → slice_get (change_at hart (with_descriptor fd n) desks) k ≡ Some d → length d.descriptors ≡ 16
    sized_set hart fd n [] sized k d e = absurd (none-some d e)
    sized_set zero fd n (x ∷ xs) sized zero d e = ap (λ (w : Desk). length w.descriptors) (sym (same_Some _ _ e)) ∙ length-set x.descriptors fd n ∙ sized 0 x refl
    sized_set zero fd n (x ∷ xs) sized (suc k) d e = sized (suc k) d e
    sized_set (suc hart) fd n (x ∷ xs) sized zero d e = sized zero d e
    sized_set (suc hart) fd n (x ∷ xs) sized (suc k) d e = sized_set hart fd n xs (λ j w at_j. sized (suc j) w at_j) k d e

-- a change of a desk that leaves its descriptors
pub counted_same : (hart : ℕ) (f : Desk → Desk) (counts : List ℕ) (desks : List Desk) → ((d : Desk) → (f d).descriptors ≡ d.descriptors) → AreCounted counts desks → AreCounted counts (change_at hart f desks)
counted_same hart f counts desks same are = record {
  eight = length-change_at hart f desks ∙ are.eight;
  descriptors = sized_same hart desks are.descriptors;
  bytes = are.bytes;
  counted = λ p byte. are.counted p byte ∙ sym (named_same p hart desks);
}
  where
    sized_same : (hart : ℕ) (desks : List Desk) → ((k : ℕ) (d : Desk) → slice_get desks k ≡ Some d → length d.descriptors ≡ 16)
        → (k : ℕ) (d : Desk) → slice_get (change_at hart f desks) k ≡ Some d → length d.descriptors ≡ 16
    sized_same hart [] sized k d e = absurd (none-some d e)
    sized_same zero (x ∷ xs) sized zero d e = ap (λ (w : Desk). length w.descriptors) (sym (same_Some _ _ e)) ∙ ap length (same x) ∙ sized 0 x refl
    sized_same zero (x ∷ xs) sized (suc k) d e = sized (suc k) d e
    sized_same (suc hart) (x ∷ xs) sized zero d e = sized zero d e
    sized_same (suc hart) (x ∷ xs) sized (suc k) d e = sized_same hart xs (λ j w at_j. sized (suc j) w at_j) k d e

    named_same : (p hart : ℕ) (desks : List Desk) → named p (change_at hart f desks) ≡ named p desks
    named_same p hart [] = refl
    named_same p zero (x ∷ xs) =
        let a = sum_by-cons (names_of p) (f x) xs in
        let b = sum_by-cons (names_of p) x xs in
        let one : names_of p (f x) ≡ names_of p x = ap (λ (ks : List (Option ℕ)). count_by (is_at p) ks) (same x) in
        omega (arith, a, b, one)
    named_same p (suc hart) (x ∷ xs) =
        let a = sum_by-cons (names_of p) x (change_at hart f xs) in
        let b = sum_by-cons (names_of p) x xs in
        let rest = named_same p hart xs in
        omega (arith, a, b, rest)

-- nothing is open
pub counted_new : AreCounted (replicate 256 0) (replicate 8 (record { descriptors = replicate 16 None; directory = 1; hand = None }))
counted_new = record {
  eight = refl;
  descriptors = λ k d e. sized k d e;
  bytes = refl;
  counted = λ p byte. get_or-replicate 256 p 0 0 byte;
}
  where
    sized : (k : ℕ) (d : Desk) → slice_get (replicate 8 (record { descriptors = replicate 16 None; directory = 1; hand = None })) k ≡ Some d → length d.descriptors ≡ 16
    sized k d e =
        let desk : Desk = record { descriptors = replicate 16 None; directory = 1; hand = None } in
        let lt = slice_get_within (replicate 8 desk) k d e in
        let is : d ≡ desk = sym (get_or_from_slice_get (replicate 8 desk) k d desk e) ∙ get_or-replicate 8 k desk desk lt in
        ap (λ (w : Desk). length w.descriptors) is
