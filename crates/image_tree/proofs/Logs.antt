-- What a write keeps of the superblock and the log's head.
use Rattle.image_tree.proofs.Vocabulary.{Version, ◌≡◌, ◌≢◌, ℕ, ◌-◌, ◌<◌, ◌≤◌, List, [], length, set, sym, ◌∙◌, ap, subst, arith, All, length-set, Super, u32_at, sizes_of, logged, log_count, block_at-set_other, sizes_of-set, IsOnce, IsGoodSuper, HasGoodLog, UpToLog}
use Rattle.image_tree.proofs.Layouts.{length-logged}

module _ (v : Version) (d : List (List ℕ)) (good : UpToLog v d) where
  -- after a write to a block other than the superblock's
  rest_of : (c : ℕ) (block : List ℕ) → c ≢ 1 → HasGoodLog (set d c block) → UpToLog v (set d c block)
  rest_of c block ne head =
      let a = good.0 in let b = a.0 in
      let same : sizes_of (set d c block) ≡ sizes_of d = sizes_of-set d c block ne in (
        (
          (
            subst (λ (n : ℕ). 2 ≤ n) (sym (length-set d c block)) b.0,
            (ap (λ (bytes : List ℕ). u32_at bytes 0) (block_at-set_other d c 1 block (λ e. ne (sym e))) ∙ b.1.0, subst IsGoodSuper (sym same) b.1.1),
          ),
          (let l = length-set d c block in let z = ap (λ (z : Super). z.size) same in let w = a.1 in omega (arith, l, z, w)),
        ),
        head,
      )

  -- if the log's head begins to name these blocks, which are after the log, each once
  pub names_keep : (c : ℕ) (block blocks : List ℕ) → c ≢ 1 → logged (set d c block) ≡ blocks → length blocks ≤ 10
      → All (λ b. ((sizes_of d).inodestart ≤ b) × (b < (sizes_of d).size)) blocks → IsOnce blocks → UpToLog v (set d c block)
  names_keep c block blocks ne named few within once =
      let same : sizes_of (set d c block) ≡ sizes_of d = sizes_of-set d c block ne in
      let count : log_count (set d c block) ≡ length blocks = sym (length-logged (set d c block)) ∙ ap (λ (l : List ℕ). length l) named in
      rest_of c block ne (record {
        count = subst (λ (s : Super). log_count (set d c block) ≤ s.nlog - 1) (sym same) (let a = good.0 in let b = a.0 in let m = b.1.1.nlog in omega (arith, count, few, m));
        room = omega (arith, count, few);
        within = subst (λ (l : List ℕ). All (λ b. ((sizes_of (set d c block)).inodestart ≤ b) × (b < (sizes_of (set d c block)).size)) l) (sym named)
            (subst (λ (s : Super). All (λ b. (s.inodestart ≤ b) × (b < s.size)) blocks) (sym same) within);
        once = subst (λ (l : List ℕ). IsOnce l) (sym named) once;
      })

  pub empty_keeps : (c : ℕ) (block : List ℕ) → c ≢ 1 → logged (set d c block) ≡ [] → UpToLog v (set d c block)
  empty_keeps c block ne none =
      names_keep c block [] ne none (omega arith) (λ k z lt. absurd (omega (arith, lt))) (record { apart = λ j k z lt below. absurd (omega (arith, below)) })
