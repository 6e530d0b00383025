-- Marks, and lists that have no number twice.
use Rattle.image_tree.proofs.Vocabulary.{◌≡◌, ◌≢◌, ℕ, ◌+◌, ◌<◌, Bool, true, false, List, [], ◌∷◌, ◌++◌, length, get_or, set, take, drop, filter, replicate, refl, sym, ap, ◌∙◌, subst, ⊎_elim, arith, length-append, append_assoc, Contains, append-nil, get_or_append_left, get_or_at, get_or_default, get_or-set_same, get_or-set_other, get_or-replicate, take-append-drop, Contains-push, Contains-push_cases, Contains-append_left, filter_more, filter-append, all_pairs_push, cases_eq, ne_eqb, false≢true, is_block, Marks, IsOnce}

-- a front of a list without repeats has none
pub front_once : {X : Type 0} (xs ys : List X) → IsOnce (xs ++ ys) → IsOnce xs
front_once xs ys h = record {
  apart = λ i j d p q e.
      h.apart i j d p (omega (arith, length-append xs ys))
      (get_or_append_left xs ys d i (omega arith) ∙ e ∙ sym (get_or_append_left xs ys d j q));
}

pub once_nil : {X : Type 0} → IsOnce {X = X} []
once_nil = record { apart = λ i j d p q e. omega arith }

pub push_once : {X : Type 0} (xs : List X) (b : X) → IsOnce xs → (Contains xs b → ⊥) → IsOnce (xs ++ b ∷ [])
push_once xs b h n = record { apart = all_pairs_push (λ x y. x ≢ y) xs b h.apart (λ k d l e. n (k, l, get_or_default xs k b d l ∙ e)) }

pub push_twice : {X : Type 0} (xs : List X) (b : X) → Contains xs b → IsOnce (xs ++ b ∷ []) → ⊥
push_twice xs b (k, l, e) h =
    h.apart k (length xs) b l (omega (arith, length-append xs (b ∷ [])))
    (get_or_append_left xs (b ∷ []) b k l ∙ e ∙ sym (get_or_at xs b [] b (length xs) refl))

pub marks_push : (seen : List Bool) (xs : List ℕ) (b : ℕ) → length seen ≡ 8192 → b < 8192 → Marks seen xs → Marks (set seen b true) (xs ++ b ∷ [])
marks_push seen xs b l s m = record {
  says = λ c q.
      ⊎_elim
      (λ (e : c ≡ b). (
        (λ _. subst (λ (x : ℕ). Contains (xs ++ b ∷ []) x) (sym e) (Contains-push xs b)),
        (λ _. ap (λ (x : ℕ). get_or (set seen b true) x false) e ∙ get_or-set_same seen b true false (omega arith)),
      ))
      (λ (n : c ≡ b → ⊥).
      let same = get_or-set_other seen b c true false n in (
        (λ t. Contains-append_left xs (b ∷ []) c ((m.says c q).0 (sym same ∙ t))),
        (λ i. same ∙ (m.says c q).1 (⊎_elim (λ (y : Contains xs c). y) (λ (e : b ≡ c). absurd (n (sym e))) (Contains-push_cases xs b c i))),
      ))
      (cases_eq c b);
}

pub marks_none : Marks (replicate 8192 false) []
marks_none = record {
  says = λ b q. (
    (λ t. absurd (false≢true (sym (get_or-replicate 8192 b false false q) ∙ t))),
    (λ c. absurd (let l = c.1 in omega arith)),
  );
}

-- what is kept of one more number
pub kept_more : (xs ns : List ℕ) (i : ℕ) → i < length ns
    → xs ++ filter is_block (take (i + 1) ns) ≡ (xs ++ filter is_block (take i ns)) ++ filter is_block (get_or ns i 0 ∷ [])
kept_more xs ns i h =
    ap (λ (ys : List ℕ). xs ++ ys) (filter_more is_block ns i 0 h) ∙ sym (append_assoc xs (filter is_block (take i ns)) (filter is_block (get_or ns i 0 ∷ [])))

-- a repeat in a front is one in the whole
pub twice_front : (xs ns : List ℕ) (i : ℕ) → (IsOnce (xs ++ filter is_block (take i ns)) → ⊥) → IsOnce (xs ++ filter is_block ns) → ⊥
twice_front xs ns i bad h =
    let split : filter is_block ns ≡ filter is_block (take i ns) ++ filter is_block (drop i ns) =
    ap (filter is_block) (sym (take-append-drop i ns)) ∙ filter-append is_block (take i ns) (drop i ns) in
    let whole : xs ++ filter is_block ns ≡ (xs ++ filter is_block (take i ns)) ++ filter is_block (drop i ns) =
    ap (λ (ys : List ℕ). xs ++ ys) split ∙ sym (append_assoc xs (filter is_block (take i ns)) (filter is_block (drop i ns))) in
    bad (front_once _ (filter is_block (drop i ns)) (subst IsOnce whole h))

pub kept_zero : (xs : List ℕ) (b : ℕ) → b ≡ 0 → xs ++ filter is_block (b ∷ []) ≡ xs
kept_zero xs b e = rw e (append-nil xs)

pub kept_other : (xs : List ℕ) (b : ℕ) → b ≢ 0 → xs ++ filter is_block (b ∷ []) ≡ xs ++ b ∷ []
kept_other xs b n = rw (ne_eqb b 0 n) refl

pub false_mark : (seen : List Bool) (xs : List ℕ) (b : ℕ) → b < 8192 → Marks seen xs → get_or seen b false ≡ false → Contains xs b → ⊥
false_mark seen xs b s m f c = false≢true (sym f ∙ (m.says b s).1 c)

pub true_mark : (seen : List Bool) (xs : List ℕ) (b : ℕ) → b < 8192 → Marks seen xs → get_or seen b false ≡ true → Contains xs b
true_mark seen xs b s m t = (m.says b s).0 t
