-- Tables of counts.
use Rattle.image_tree.proofs.Vocabulary.{◌≡◌, ◌≢◌, ◌∙◌, ap, sym, refl, ℕ, ◌+◌, ◌<◌, min, Bool, cond, eqb, List, [], ◌∷◌, ◌++◌, length, get_or, set, replicate, arith, ⊎_elim, get_or-set_same, get_or-set_other, get_or-replicate, length-replicate, fold_push, cases_eq, eq-eqb, ne_eqb, times, Tallies}
use Rattle.std.proofs.lemmas.List.{length-set}

times-push : (i n : ℕ) (xs : List ℕ) → times i (xs ++ n ∷ []) ≡ times i xs + cond (eqb n i) 1 0
times-push i n xs = fold_push (λ a x. a + cond (eqb x i) 1 0) 0 xs n

times-same : (n : ℕ) (xs : List ℕ) → times n (xs ++ n ∷ []) ≡ times n xs + 1
times-same n xs = times-push n n xs ∙ ap (λ (t : Bool). times n xs + cond t 1 0) (eq-eqb n n refl)

times-other : (i n : ℕ) (xs : List ℕ) → n ≢ i → times i (xs ++ n ∷ []) ≡ times i xs
times-other i n xs h = times-push i n xs ∙ ap (λ (t : Bool). times i xs + cond t 1 0) (ne_eqb n i h) ∙ (omega arith)

pub tally_in : (table : List ℕ) (xs : List ℕ) (n count : ℕ) → n < length table → count ≡ min (get_or table n 0 + 1) 65535 → Tallies table xs
    → Tallies (set table n count) (xs ++ n ∷ [])
tally_in table xs n count h is t = record {
  says = λ i l.
      let same : length (set table n count) ≡ length table = length-set table n count in
      ⊎_elim
      (λ (e : i ≡ n).
      let old = t.says n h in
      let more = times-same n xs in
      let now : count ≡ min (times n (xs ++ n ∷ [])) 65535 = omega arith in
      ap (λ (k : ℕ). get_or (set table n count) k 0) e ∙ get_or-set_same table n count 0 h ∙ now ∙ ap (λ (k : ℕ). min (times k (xs ++ n ∷ [])) 65535) (sym e))
      (λ (ne : i ≡ n → ⊥).
      get_or-set_other table n i count 0 ne ∙ t.says i (omega arith) ∙ ap (λ (k : ℕ). min k 65535) (sym (times-other i n xs (λ e. ne (sym e)))))
      (cases_eq i n);
}

pub tallies_fresh : (n : ℕ) → Tallies (replicate n 0) []
tallies_fresh n = record {
  says = λ i l.
      let zeros : List ℕ = replicate n 0 in
      let e : length zeros ≡ n = length-replicate n 0 in
      get_or-replicate n i 0 0 (omega arith);
}
