-- A commit's step, with its parts as the calls give them.
use Rattle.group_log.proofs.Vocabulary.{◌≡◌, ◌≢◌, ◌⊎◌, ◌∙◌, ◌≤◌, inl, inr, ap, sym, subst, ℕ, List, length, Option, set, if◌then◌else◌, Super, recovered, IsOutsideLog, count_of, SeatState, has_block, seen_in, Phase, Open, Halted, IsUnderWay, write_to, write_of, next_phase, group_in, is_point, IsSoundLog, seats_after, StaysOrBecomes}
use Rattle.group_log.proofs.Steps.{under_way, write_step, write_recovered, halted}

module _ (d e : List (List ℕ)) (ss zs : List SeatState) (sizes : Super) (ks gs : List ℕ) (ms : List (Option ℕ)) (p : Phase) (sound : IsSoundLog d ss sizes ks ms p) (begun : (p ≢ Open) × (p ≢ Halted)) (same_group : gs ≡ ks) where
  runs : IsUnderWay (length ks) p
  runs = under_way d ss sizes ks ms p sound begun.0 begun.1

  written_as : e ≡ set d (write_to sizes gs p) (write_of (seen_in d ss) gs p) → e ≡ set d (write_to sizes ks p) (write_of (seen_in d ss) ks p)
  written_as is = is ∙ ap (λ (l : List ℕ). set d (write_to sizes l p) (write_of (seen_in d ss) l p)) same_group

  maybe_as : (e ≡ d) ⊎ (e ≡ set d (write_to sizes gs p) (write_of (seen_in d ss) gs p)) → (e ≡ d) ⊎ (e ≡ set d (write_to sizes ks p) (write_of (seen_in d ss) ks p))
  maybe_as may = elim may [ inl is ↦ inl is | inr is ↦ inr (written_as is) ]

  pub failed_good : (e ≡ d) ⊎ (e ≡ set d (write_to sizes gs p) (write_of (seen_in d ss) gs p)) → ((b : ℕ) → IsOutsideLog sizes b → seen_in e zs b ≡ seen_in d ss b) → IsSoundLog e zs sizes ks ms Halted
  failed_good may same = halted d e ss zs sizes ks ms same p sound runs (maybe_as may)

  pub done_recovered : e ≡ set d (write_to sizes gs p) (write_of (seen_in d ss) gs p) → ((b : ℕ) → IsOutsideLog sizes b → seen_in e zs b ≡ seen_in d ss b) → (b : ℕ) → IsOutsideLog sizes b
      → recovered e b ≡ (if is_point (length ks) p then seen_in d ss b else recovered d b)
  done_recovered is same b out = write_recovered d e ss zs sizes ks ms same p b sound runs (written_as is) out

  pub failed_recovered : (e ≡ d) ⊎ (e ≡ set d (write_to sizes gs p) (write_of (seen_in d ss) gs p)) → ((b : ℕ) → IsOutsideLog sizes b → seen_in e zs b ≡ seen_in d ss b)
      → StaysOrBecomes sizes (recovered d) (λ b. if is_point (length ks) p then seen_in d ss b else recovered d b) (recovered e)
  failed_recovered may same = elim may [
    | inl is ↦ inl (λ b out. ap (λ (x : List (List ℕ)). recovered x b) is)
    | inr is ↦ inr (λ b out. done_recovered is same b out)
  ]

  pub done_good : (ends : List ℕ) (q : Phase) (n : ℕ) → ((b : ℕ) → count_of (has_block b) ss ≤ 1) → e ≡ set d (write_to sizes gs p) (write_of (seen_in d ss) gs p) → zs ≡ seats_after gs p ss
      → ((b : ℕ) → IsOutsideLog sizes b → seen_in e zs b ≡ seen_in d ss b) → n ≡ length ks → q ≡ next_phase n p → ends ≡ group_in q ks → IsSoundLog e zs sizes ends ms q
  done_good ends q n once is seats same counted phase group =
      let next : q ≡ next_phase (length ks) p = phase ∙ ap (λ (k : ℕ). next_phase k p) counted in
      let left : ends ≡ group_in (next_phase (length ks) p) ks = group ∙ ap (λ (x : Phase). group_in x ks) next in
      subst (λ (l : List ℕ). IsSoundLog e zs sizes l ms q) (sym left)
      (subst (λ (x : Phase). IsSoundLog e zs sizes (group_in (next_phase (length ks) p) ks) ms x) (sym next)
      (write_step d e ss zs sizes ks ms same p once sound runs (written_as is) (seats ∙ ap (λ (l : List ℕ). seats_after l p ss) same_group)))
