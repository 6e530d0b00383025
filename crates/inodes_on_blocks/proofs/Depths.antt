-- How far below the root a directory is.
use Rattle.inodes_on_blocks.proofs.Vocabulary.{◌≡◌, ◌≢◌, ℕ, zero, suc, ◌<◌, Bool, true, false, eqb, ◌⊎◌, inl, inr, refl, sym, ◌∙◌, ap, arith, List, false≢true, is_live_directory, up, climb, HasGoodSlots, IsOneTree, either, eq_not, same_or}
use Rattle.inodes_on_blocks.proofs.Links.{up_live}

abbrev one_more_unless : Bool → ℕ → ℕ
one_more_unless true n = 0
one_more_unless false n = suc n

-- the first of at most n steps that leads to the root
first_step : ℕ → (ℕ → ℕ) → ℕ → ℕ
first_step zero f d = 0
first_step (suc n) f d = one_more_unless (eqb d 1) (first_step n f (f d))

step_at_root : (n : ℕ) (f : ℕ → ℕ) (d : ℕ) → d ≡ 1 → first_step n f d ≡ 0
unfolding first_step
step_at_root zero f d e = refl
step_at_root (suc n) f d e = ap (λ (b : Bool). one_more_unless b (first_step n f (f d))) (ap (λ (k : ℕ). eqb k 1) e)

step_below : (n : ℕ) (f : ℕ → ℕ) (d : ℕ) → d ≢ 1 → first_step (suc n) f d ≡ suc (first_step n f (f d))
unfolding first_step
step_below n f d ne = ap (λ (b : Bool). one_more_unless b (first_step n f (f d))) (eq_not d 1 ne)

climb_none : (f : ℕ → ℕ) (d : ℕ) → climb f 0 d ≡ 1 → d ≡ 1
unfolding climb
climb_none f d h = h

climb_more : (f : ℕ → ℕ) (n d : ℕ) → climb f (suc n) d ≡ climb f n (f d)
unfolding climb
climb_more f n d = refl

-- it doesn't matter how many steps may be taken
same_step : (m n : ℕ) (f : ℕ → ℕ) (d : ℕ) → climb f m d ≡ 1 → climb f n d ≡ 1 → first_step m f d ≡ first_step n f d
same_step zero n f d g h = step_at_root 0 f d (climb_none f d g) ∙ sym (step_at_root n f d (climb_none f d g))
same_step (suc m) zero f d g h = step_at_root (suc m) f d (climb_none f d h) ∙ sym (step_at_root 0 f d (climb_none f d h))
same_step (suc m) (suc n) f d g h = elim (same_or d 1) [
  | inl e ↦ step_at_root (suc m) f d e ∙ sym (step_at_root (suc n) f d e)
  | inr ne ↦ step_below m f d ne ∙ ap suc (same_step m n f (f d) (sym (climb_more f m d) ∙ g) (sym (climb_more f n d) ∙ h)) ∙ sym (step_below n f d ne)
]

module _ (disk : List (List ℕ)) (good : HasGoodSlots disk) (one : IsOneTree disk) where
  depth_by : (d : ℕ) → (is_live_directory disk d ≡ true) ⊎ (is_live_directory disk d ≡ false) → ℕ
  depth_by d (inl live) = first_step (one.reaches d live).steps.0 (up disk) d
  depth_by d (inr not) = 0

  pub depth_in : ℕ → ℕ
  depth_in d = depth_by d (either (is_live_directory disk d))

  depth_is : (d n : ℕ) → is_live_directory disk d ≡ true → climb (up disk) n d ≡ 1 → depth_in d ≡ first_step n (up disk) d
  unfolding depth_in depth_by
  depth_is d n live h = go (either (is_live_directory disk d))
    where
      go : (w : (is_live_directory disk d ≡ true) ⊎ (is_live_directory disk d ≡ false)) → depth_by d w ≡ first_step n (up disk) d
      go (inl y) = same_step (one.reaches d y).steps.0 n (up disk) d (one.reaches d y).steps.1 h
      go (inr y) = absurd (false≢true (sym y ∙ live))

  deeper : (d n : ℕ) → is_live_directory disk d ≡ true → d ≢ 1 → climb (up disk) n d ≡ 1 → depth_in (up disk d) < depth_in d
  deeper d zero live ne h = absurd (ne (climb_none (up disk) d h))
  deeper d (suc n) live ne h =
      let here : depth_in d ≡ suc (first_step n (up disk) (up disk d)) = depth_is d (suc n) live h ∙ step_below n (up disk) d ne in
      let above : depth_in (up disk d) ≡ first_step n (up disk) (up disk d) = depth_is (up disk d) n (up_live disk good one d live) (sym (climb_more (up disk) n d) ∙ h) in
      omega (arith, here, above)

  -- the ".." of a directory is higher
  pub higher : (d : ℕ) → is_live_directory disk d ≡ true → d ≢ 1 → depth_in (up disk d) < depth_in d
  higher d live ne = deeper d (one.reaches d live).steps.0 live ne (one.reaches d live).steps.1
