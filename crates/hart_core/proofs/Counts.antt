-- Counts of events, and the last of them.
use Rattle.hart_core.proofs.Vocabulary.{◌≡◌, ◌⊎◌, inl, inr, ℕ, zero, suc, ◌+◌, ◌≤◌, Option, Some, None, refl, sym, ◌∙◌, ap, arith, Marks, IsMarked, IsMarkedBy, doubt_of, last_of, up_to}

pub up_to_last : (n : ℕ) → n ≡ up_to (last_of n)
up_to_last zero = refl
up_to_last (suc n) = omega arith

pub marked_by : (cut : ℕ) (doubt : Option ℕ) (k : ℕ) → ((j : ℕ) → doubt ≡ Some j → cut ≤ j) → (k ≡ cut) ⊎ (doubt ≡ Some k) → IsMarkedBy (last_of cut) (doubt_of doubt) k
marked_by cut doubt k after (inl is) = inl (is ∙ up_to_last cut)
marked_by cut doubt zero after (inr is) = let low = after zero is in inl ((let z : 0 ≡ cut = omega (arith, low) in z) ∙ up_to_last cut)
marked_by cut doubt (suc n) after (inr is) = inr (n, ap doubt_of is, omega arith)

doubted : (o : Option ℕ) (n : ℕ) → doubt_of o ≡ Some n → o ≡ Some (n + 1)
doubted None n e = absurd cc
doubted (Some zero) n e = absurd cc
doubted (Some (suc j)) n e = ap (λ (z : ℕ). Some z) (let same : j ≡ n = cc in omega (arith, same))

pub marked_so : (m : Marks) (k : ℕ) → IsMarkedBy (last_of m.cut) (doubt_of m.doubt) k → IsMarked m k
marked_so m k (inl is) = inl (is ∙ sym (up_to_last m.cut))
marked_so m k (inr is) = inr (doubted m.doubt is.0 is.1 ∙ ap (λ (n : ℕ). Some n) (sym is.2))
