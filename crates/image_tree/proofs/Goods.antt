-- What recovery's writes keep of the superblock and the log's head.
use Rattle.image_tree.proofs.Vocabulary.{Version, ◌≡◌, ◌≢◌, ◌⊎◌, inl, inr, ℕ, ◌+◌, ◌-◌, ◌<◌, ◌≤◌, List, [], ◌∷◌, length, get_or, set, replicate, refl, sym, ◌∙◌, ap, subst, arith, All, length-set, Super, u32_at, block_at, sizes_of, logged, log_count, log_head_at, block_at-set_same, block_at-set_other, sizes_of-set, logged-set, IsOnce, IsGoodSuper, HasGoodLog, UpToLog, block_len}
use Rattle.image_tree.proofs.Layouts.{length-logged}
use Rattle.image_tree.proofs.Installs.{Installed}

empty_list : (xs : List ℕ) → length xs ≡ 0 → xs ≡ []
empty_list [] e = refl
empty_list (x ∷ xs) e = absurd (omega (arith, e))

module _ (v : Version) (d : List (List ℕ)) (good : UpToLog v d) where
  two : 2 ≤ length d
  two = (let a = good.0 in let b = a.0 in b.0)

  behind : 2 ≤ (sizes_of d).logstart
  behind = (let a = good.0 in let b = a.0 in b.1.1.logstart)

  front : (sizes_of d).logstart + (sizes_of d).nlog ≤ (sizes_of d).inodestart
  front = (let a = good.0 in let b = a.0 in b.1.1.log)

  eleven : 11 ≤ (sizes_of d).nlog
  eleven = (let a = good.0 in let b = a.0 in b.1.1.nlog)

  within_disk : (sizes_of d).size ≤ length d
  within_disk = good.0.1

  -- after a write to a block other than the superblock's
  rest_of : (c : ℕ) (block : List ℕ) → c ≢ 1 → HasGoodLog (set d c block) → UpToLog v (set d c block)
  rest_of c block ne head =
      let a = good.0 in let b = a.0 in
      let same : sizes_of (set d c block) ≡ sizes_of d = sizes_of-set d c block ne in (
        (
          (
            subst (λ (n : ℕ). 2 ≤ n) (sym (length-set d c block)) two,
            (ap (λ (bytes : List ℕ). u32_at bytes 0) (block_at-set_other d c 1 block (λ e. ne (sym e))) ∙ b.1.0, subst IsGoodSuper (sym same) b.1.1),
          ),
          (let l = length-set d c block in let z = ap (λ (z : Super). z.size) same in omega (arith, l, z, within_disk)),
        ),
        head,
      )

  pub home_keeps : (c : ℕ) (block : List ℕ) → (sizes_of d).inodestart ≤ c → c < (sizes_of d).size → UpToLog v (set d c block)
  home_keeps c block le lt =
      let ne : c ≢ 1 = (λ e. let f = front in let b = behind in absurd (omega (arith, f, b, le, e))) in
      let apart : c ≢ (sizes_of d).logstart = (λ e. let f = front in let m = eleven in absurd (omega (arith, f, m, le, e))) in
      let same : sizes_of (set d c block) ≡ sizes_of d = sizes_of-set d c block ne in
      let named : logged (set d c block) ≡ logged d = logged-set d c block ne apart in
      let count : log_count (set d c block) ≡ log_count d = sym (length-logged (set d c block)) ∙ ap (λ (l : List ℕ). length l) named ∙ length-logged d in
      rest_of c block ne (record {
        count = subst (λ (k : ℕ). k ≤ (sizes_of (set d c block)).nlog - 1) (sym count) (subst (λ (s : Super). log_count d ≤ s.nlog - 1) (sym same) good.1.count);
        room = subst (λ (k : ℕ). k ≤ 255) (sym count) good.1.room;
        within = subst (λ (l : List ℕ). All (λ b. ((sizes_of (set d c block)).inodestart ≤ b) × (b < (sizes_of (set d c block)).size)) l) (sym named)
            (subst (λ (s : Super). All (λ b. (s.inodestart ≤ b) × (b < s.size)) (logged d)) (sym same) good.1.within);
        once = subst (λ (l : List ℕ). IsOnce l) (sym named) good.1.once;
      })

  pub clear_keeps : UpToLog v (set d (sizes_of d).logstart (replicate block_len 0))
  unfolding u32_at
  clear_keeps =
      let c = (sizes_of d).logstart in
      let block : List ℕ = replicate block_len 0 in
      let ne : c ≢ 1 = (λ e. let b = behind in absurd (omega (arith, b, e))) in
      let same : sizes_of (set d c block) ≡ sizes_of d = sizes_of-set d c block ne in
      let on_disk : c < length d = (let f = front in let m = eleven in let w = within_disk in let g = good.0.0.1.1 in omega (arith, f, m, w, g.inodes, g.bitmap)) in
      let head : log_head_at (set d c block) ≡ block = ap (λ (s : Super). block_at (set d c block) s.logstart) same ∙ block_at-set_same d c block on_disk in
      let count : log_count (set d c block) ≡ 0 = ap (λ (bytes : List ℕ). u32_at bytes 0) head in
      let none : logged (set d c block) ≡ [] = empty_list (logged (set d c block)) (length-logged (set d c block) ∙ count) in
      rest_of c block ne (record {
        count = omega (arith, count);
        room = omega (arith, count);
        within = subst (λ (l : List ℕ). All (λ b. ((sizes_of (set d c block)).inodestart ≤ b) × (b < (sizes_of (set d c block)).size)) l) (sym none) (λ k z lt. absurd (omega (arith, lt)));
        once = subst (λ (l : List ℕ). IsOnce l) (sym none) (record { apart = λ j k z lt below. absurd (omega (arith, below)) });
      })

module _ (v : Version) (d e : List (List ℕ)) (sizes : Super) (f : ℕ → List ℕ) (ks : List ℕ) (size i : ℕ) (at : Installed d sizes f ks size i) (good : UpToLog v d) where
  pub copy_good : (blocks : List ℕ) (block : List ℕ) → blocks ≡ ks → i < length blocks → (e ≡ d) ⊎ (e ≡ set d (get_or blocks i 0) block) → UpToLog v e
  copy_good blocks block same lt may = elim may [
    | inl is ↦ subst (UpToLog v) (sym is) good
    | inr is ↦
        let bounds : ((sizes_of d).inodestart ≤ get_or blocks i 0) × (get_or blocks i 0 < (sizes_of d).size) =
        subst (λ (l : List ℕ). All (λ b. ((sizes_of d).inodestart ≤ b) × (b < (sizes_of d).size)) l) (at.head ∙ sym same) good.1.within i 0 lt in
        subst (UpToLog v) (sym is) (home_keeps v d good (get_or blocks i 0) block bounds.0 bounds.1)
  ]

  pub clear_good : (e ≡ d) ⊎ (e ≡ set d sizes.logstart (replicate block_len 0)) → UpToLog v e
  clear_good may = elim may [
    | inl is ↦ subst (UpToLog v) (sym is) good
    | inr is ↦ subst (UpToLog v) (sym (is ∙ ap (λ (s : Super). set d s.logstart (replicate block_len 0)) (sym at.sizes_are))) (clear_keeps v d good)
  ]
