-- The elements of a path, found byte by byte.
use Rattle.plain_tree.proofs.Vocabulary.{◌≡◌, Version, ◌≢◌, ℕ, suc, ◌+◌, ◌<◌, ◌≤◌, true, false, ◌&&◌, List, [], ◌∷◌, ◌++◌, length, take, drop, map, filter, get_or, ◌==◌, refl, sym, ◌∙◌, ap, not, arith, add-one, drop-cons, nat_eq, take_more, drop_all, take_all, nat_tests, Name, pieces, elements, is_empty, same_name, with_element, name_len_of, dotdot, climbs, climbs_in, ◌||◌, ◌-◌}
use Rattle.image_versions.specs.declared.version.Version.TheVariants.{One}
use Rattle.image_versions.proofs.Places.{in_range}
use lib.Pointwise.{pointwise}

other_byte : (x : ℕ) → x ≢ 47 → (x == 47) ≡ false
other_byte x ne = grind (arith, nat_tests)

slash_byte : (x : ℕ) → x ≡ 47 → (x == 47) ≡ true
slash_byte x e = grind (arith, nat_tests)

pieces_other : (acc : List ℕ) (x : ℕ) (xs : List ℕ) → x ≢ 47 → pieces acc (x ∷ xs) ≡ pieces (acc ++ x ∷ []) xs
unfolding pieces
pieces_other acc x xs ne = rw (other_byte x ne)

pieces_slash : (acc : List ℕ) (x : ℕ) (xs : List ℕ) → x ≡ 47 → pieces acc (x ∷ xs) ≡ acc ∷ pieces [] xs
unfolding pieces
pieces_slash acc x xs e = rw (slash_byte x e)

pieces_none : (acc : List ℕ) → pieces acc [] ≡ acc ∷ []
unfolding pieces
pieces_none acc = refl

pub pieces_more : (p : List ℕ) (i : ℕ) → i < length p → get_or p i 0 ≢ 47 → pieces (take (i + 1) p) (drop (i + 1) p) ≡ pieces (take i p) (drop i p)
pieces_more p i h ne = rw (take_more p i 0 h, add-one i, drop-cons p i 0 h) (sym (pieces_other (take i p) (get_or p i 0) (drop (suc i) p) ne))

cut_all : Version → List (List ℕ) → List Name
cut_all v ps = map (λ e. take (name_len_of v) e) (filter (λ e. not (is_empty e)) ps)

front_cut : (v : Version) (w : List ℕ) (ps : List (List ℕ)) → map (λ e. take (name_len_of v) e) (filter (λ e. not (is_empty e)) (w ∷ ps)) ≡ with_element v w (map (λ e. take (name_len_of v) e) (filter (λ e. not (is_empty e)) ps))
front_cut v [] ps = refl
front_cut v (x ∷ xs) ps = refl

pub found_slash : (v : Version) (p : List ℕ) (i : ℕ) → i < length p → get_or p i 0 ≡ 47 → pieces (take i p) (drop i p) ≡ pieces [] p → elements v p ≡ with_element v (take i p) (elements v (drop (i + 1) p))
found_slash v p i h e inv =
    rw (← inv, add-one i, drop-cons p i 0 h, pieces_slash (take i p) (get_or p i 0) (drop (suc i) p) e) (front_cut v (take i p) (pieces [] (drop (suc i) p)))

none_left : (v : Version) (p : List ℕ) (ps : List (List ℕ)) → ps ≡ p ∷ [] → map (λ e. take (name_len_of v) e) (filter (λ e. not (is_empty e)) ps) ≡ with_element v p (elements v [])
unfolding pieces
none_left v [] ps e = rw e refl
none_left v (x ∷ xs) ps e = rw e refl

pub found_end : (v : Version) (p : List ℕ) (i : ℕ) → i ≡ length p → pieces (take i p) (drop i p) ≡ pieces [] p → elements v p ≡ with_element v (take (length p) p) (elements v (drop (length p + 1) p))
found_end v p i e inv =
    let far : length p ≤ length p + 1 = omega arith in
    let near : length p ≤ length p = omega arith in
    let whole : pieces [] p ≡ p ∷ [] = sym inv ∙ (rw (e, drop_all (length p) p near, take_all (length p) p near) (pieces_none p)) in
    rw (drop_all (length p + 1) p far, take_all (length p) p near) (none_left v p (pieces [] p) whole)

pub same_pointwise : (xs ys : List ℕ) → pointwise nat_eq xs ys ≡ same_name xs ys
unfolding same_name
same_pointwise [] [] = refl
same_pointwise [] (y ∷ ys) = refl
same_pointwise (x ∷ xs) [] = refl
same_pointwise (x ∷ xs) (y ∷ ys) = ap (λ b. nat_eq x y && b) (same_pointwise xs ys)

pub no_elements : (v : Version) (xs : List ℕ) → (length xs == 0) ≡ true → elements v xs ≡ []
unfolding pieces
no_elements v [] e = refl
no_elements v (x ∷ xs) e = absurd (grind (arith, nat_tests))

-- ".." is short, and nothing else is cut to it
cut_dotdot : (n : ℕ) (e : List ℕ) → same_name (take (suc (suc (suc n))) e) dotdot ≡ same_name e dotdot
unfolding same_name
cut_dotdot n [] = refl
cut_dotdot n (x ∷ []) = refl
cut_dotdot n (x ∷ y ∷ []) = refl
cut_dotdot n (x ∷ y ∷ z ∷ zs) = refl

name_cut : (v : Version) (e : List ℕ) → same_name (take (name_len_of v) e) dotdot ≡ same_name e dotdot
name_cut v e =
    let long : 14 ≤ name_len_of v = (in_range v).0 in
    let more : name_len_of v ≡ suc (suc (suc (name_len_of v - 3))) = omega arith in
    rw more (cut_dotdot (name_len_of v - 3) e)

-- a path climbs with its elements cut exactly if it climbs with them as they are
cut_climbs : (v : Version) (es : List (List ℕ)) → climbs_in (map (λ e. take (name_len_of v) e) es) ≡ climbs_in es
unfolding climbs_in
cut_climbs v [] = refl
cut_climbs v (e ∷ es) = λ i. name_cut v e i || cut_climbs v es i

pub climbs_the_same : (v : Version) (path : List ℕ) → climbs_in (elements v path) ≡ climbs path
climbs_the_same v path =
    let es : List (List ℕ) = filter (λ e. not (is_empty e)) (pieces [] path) in
    cut_climbs v es ∙ sym (cut_climbs One es)
