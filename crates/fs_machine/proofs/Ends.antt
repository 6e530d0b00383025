-- How the end of a transaction goes on.
use Rattle.fs_machine.proofs.Vocabulary.{◌≡◌, ◌<◌, ◌-◌, ℕ, zero, suc, Bool, ap, ◌∙◌, arith, P, finish, after_leave, commits, commit_unless, Hand, Answer, answer_in, yes_in, left_by, Goes}
use Rattle.fs_machine.specs.declared.op.Op.TheVariants as ops

module _ (a : Answer) (h : Hand) where
  pub leave-goes : (says : Bool) → yes_in a ≡ says → let p : P (Unit {0}) = finish in Goes p (answer_in ops.Leave a h) (after_leave (left_by says))
  unfolding answer_in
  leave-goes says e = ap (λ (b : Bool). after_leave (left_by b)) e

  pub commit-goes : (says : Bool) (n : ℕ) → 0 < n → yes_in a ≡ says → Goes (commits n) (answer_in ops.Commit a h) (commit_unless (commits (n - 1)) says)
  unfolding answer_in
  commit-goes says zero some e = absurd (omega (arith, some))
  commit-goes says (suc n) some e =
      let less : n ≡ suc n - 1 = omega arith in
      ap (λ (b : Bool). commit_unless (commits n) b) e ∙ ap (λ (k : ℕ). commit_unless (commits k) says) less
