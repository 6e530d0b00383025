-- A stop after any events.
use Rattle.group_log.proofs.Vocabulary.{◌≡◌, ℕ, zero, suc, ◌+◌, ◌<◌, ◌≤◌, Bool, true, refl, sym, ◌∙◌, ap, subst, arith, add-one, if◌then◌else◌, Super, Blocks, AgreeOutside, begun, commit_cut, IsLoggedRun, StopsAtACut}
use Rattle.group_log.proofs.Seats.{pick}

module _ (sizes : Super) (n : ℕ) (seen recovered : ℕ → Blocks) (runs begins stands : ℕ → Bool) (run : IsLoggedRun sizes n seen recovered runs begins stands) where
  pub record Kept (i : ℕ) : Type 0 where
    pub stable : AgreeOutside sizes (seen (commit_cut begins stands i)) (recovered i)
    pub pending : runs i ≡ true → AgreeOutside sizes (seen (begun begins i)) (seen i)

  -- what holds at i + 1 holds at suc i
  next : (P : ℕ → Type 0) (i : ℕ) → P (i + 1) → P (suc i)
  next P i p = subst P (add-one i) p

  step : (i : ℕ) → i < n → Kept i → Kept (suc i)
  step i lt kept = record {
    stable = λ b out.
        next (λ j. recovered j b ≡ (if stands i then seen i else recovered i) b) i (run.moves i lt b out)
        ∙ pick (stands i) (λ t. stands i ≡ t → (if t then seen i else recovered i) b ≡ seen (if t then begun begins i else commit_cut begins stands i) b)
        (λ _ is. kept.pending (run.in_commit i lt is) b out)
        (λ _ isnt. kept.stable b out)
        refl;
    pending = λ now b out.
        let runs_next : runs (i + 1) ≡ true = ap runs (add-one i) ∙ now in
        pick (begins i) (λ t. begins i ≡ t → seen (suc i) b ≡ seen (if t then suc i else begun begins i) b)
        (λ _ is. refl)
        (λ _ isnt. next (λ j. seen j b ≡ seen i b) i (run.still i lt runs_next b out) ∙ kept.pending (run.begun_before i lt runs_next isnt) b out)
        refl;
  }

  all : (i : ℕ) → i ≤ n → Kept i
  all zero le = record { stable = run.fresh; pending = λ now. absurd (cc (sym now ∙ run.idle)) }
  all (suc i) le = step i (omega (arith, le)) (all i (omega (arith, le)))

pub stops_at_a_cut : StopsAtACut
stops_at_a_cut sizes n seen recovered runs begins stands run = (all sizes n seen recovered runs begins stands run n (omega arith)).stable
