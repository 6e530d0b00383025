-- An element of a path, in its place there.
use Rattle.image_versions.specs.declared.version.Version.{Version}
use Rattle.image_versions.specs.Versions.{name_len_of}
use Rattle.image_versions.proofs.Places.{in_range}
use Rattle.plain_tree.specs.Code.{with_element}
use Rattle.plain_tree.specs.Tree.{elements}
use Rattle.path_walk.specs.Elements.{IsElement}
use Rattle.path_walk.proofs.Vocabulary.{◌≡◌, ◌≢◌, ℕ, suc, ◌+◌, ◌-◌, ◌<◌, ◌≤◌, min, Bool, true, ◌&&◌, nat_lt, nat_le, not, eqb, List, [], ◌∷◌, length, take, drop, get_or, refl, ap, ◌∙◌, arith, ⊎_elim, slice_range, All, list_all, cases_lt, and_from, not_from_false, ne_eqb, lt-ltb, le-leb, drop-drop, drop_all, take_all, get_or-take, get_or-drop, length-take-le, take-take, All-get_or, length-drop, is_name_byte, Name}

-- bytes that are there are an element
some_element : (version : Version) (bytes : List ℕ) (es : List Name) → 0 < length bytes → with_element version bytes es ≡ take (name_len_of version) bytes ∷ es
some_element version [] es h = absurd (omega arith)
some_element version (x ∷ xs) es h = refl

none_element : (version : Version) (ys : List ℕ) (es : List Name) → with_element version (take 0 ys) es ≡ es
none_element version ys es = refl

all_bytes : (p : ℕ → Bool) (xs : List ℕ) → ((k : ℕ) → k < length xs → p (get_or xs k 0) ≡ true) → list_all p xs ≡ true
all_bytes p [] each = refl
all_bytes p (x ∷ xs) each = and_from (p x) (list_all p xs) (each 0 (omega arith)) (all_bytes p xs (λ k h. each (suc k) (omega arith)))

name_byte : (b : ℕ) → b ≢ 0 → b ≢ 47 → is_name_byte b ≡ true
name_byte b some other =
    and_from (not (eqb b 0)) (not (eqb b 47)) (not_from_false (eqb b 0) (ne_eqb b 0 some)) (not_from_false (eqb b 47) (ne_eqb b 47 other))

-- so many bytes of the path from a place on, none of them 0 or '/'
module _ (version : Version) (path : List ℕ) (at len : ℕ) (some : 0 < len) (within : at + len ≤ length path) where
  rest_at : ℕ
  rest_at = min (at + len + 1) (length path)

  front : take (name_len_of version) (take len (drop at path)) ≡ slice_range path at (at + min len (name_len_of version))
  front =
      ⊎_elim
      (λ (short : len < (name_len_of version)).
      let e : len ≡ at + min len (name_len_of version) - at = omega arith in
      take_all (name_len_of version) (take len (drop at path)) (omega (arith, length-take-le len (drop at path) (omega (arith, length-drop at path)))) ∙ ap (λ (n : ℕ). take n (drop at path)) e)
      (λ (long : (name_len_of version) ≤ len).
      let e : at + min len (name_len_of version) - at ≡ (name_len_of version) = omega arith in
      rw e (take-take (name_len_of version) len (drop at path) long))
      (cases_lt len (name_len_of version))

  behind : elements version (drop (len + 1) (drop at path)) ≡ elements version (drop rest_at path)
  unfolding rest_at
  behind =
      ap (elements version) (drop-drop (len + 1) at path)
      ∙ ⊎_elim
      (λ (more : at + len < length path). let e : at + (len + 1) ≡ rest_at = omega arith in ap (λ (n : ℕ). elements version (drop n path)) e)
      (λ (end : length path ≤ at + len).
      let e : rest_at ≡ length path = omega arith in
      rw (e, drop_all (at + (len + 1)) path (omega arith), drop_all (length path) path (omega arith)) refl)
      (cases_lt (at + len) (length path))

  -- it is the first element from there on
  pub element_here : elements version (drop at path) ≡ with_element version (take len (drop at path)) (elements version (drop (len + 1) (drop at path)))
      → elements version (drop at path) ≡ slice_range path at (at + min len (name_len_of version)) ∷ elements version (drop (min (at + len + 1) (length path)) path)
  unfolding rest_at
  element_here cut =
      let here : 0 < length (take len (drop at path)) = omega (arith, length-take-le len (drop at path) (omega (arith, length-drop at path))) in
      cut ∙ some_element version (take len (drop at path)) (elements version (drop (len + 1) (drop at path))) here
      ∙ ap (λ (e : Name). e ∷ elements version (drop (len + 1) (drop at path))) front ∙ ap (λ (es : List Name). slice_range path at (at + min len (name_len_of version)) ∷ es) behind

  -- and its name is one
  pub is_element : ((k : ℕ) → k < len → get_or (drop at path) k 0 ≢ 47) → All (λ b. b ≢ 0) path
      → IsElement version path (record { start = at; end = at + min len (name_len_of version); rest = min (at + len + 1) (length path) })
  is_element other nonzero =
      let least = (in_range version).0 in
      let n : ℕ = at + min len (name_len_of version) - at in
      let bytes : List ℕ = take n (drop at path) in
      let long : length bytes ≡ n = length-take-le n (drop at path) (omega (arith, length-drop at path)) in
      let each : (k : ℕ) → k < length bytes → is_name_byte (get_or bytes k 0) ≡ true =
      λ k h.
      let here = get_or-take n (drop at path) k 0 (omega arith) in
      let there = get_or-drop at path k 0 in
      name_byte (get_or bytes k 0)
      (λ z. All-get_or (λ b. b ≢ 0) path (at + k) 0 (omega arith) nonzero (omega arith))
      (λ z. other k (omega arith) (omega arith)) in
      record {
        ordered = omega arith;
        within = omega arith;
        rest = omega arith;
        name = and_from (nat_lt 0 (length bytes) && nat_le (length bytes) (name_len_of version)) (list_all is_name_byte bytes)
            (and_from (nat_lt 0 (length bytes)) (nat_le (length bytes) (name_len_of version)) (lt-ltb 0 (length bytes) (omega (arith, long, least))) (le-leb (length bytes) (name_len_of version) (omega (arith, long))))
            (all_bytes is_name_byte bytes each);
      }
