use Rattle.fs_machine.proofs.Lemmas.{ℕ, true, false, sym, subst, ◌∙◌, arith, Ret, P, commits, answer_in, Goes, leave-goes, commit-goes}
use Rattle.fs_machine.specs.declared.op.Op.TheVariants as ops
use Rattle.fs_machine.proofs.finish.FinishControl.next.Goals as goal

pub returns-then-yes-clause-goes : goal.returns-then-yes-clause-goes
returns-then-yes-clause-goes c before =
    rw c.in-Leave.is (λ ready after. leave-goes c.args.answer.now c.args.hand.now true (sym c.yes.ensures ∙ c.if-yes.true))

pub returns-else-yes-clause-goes : goal.returns-else-yes-clause-goes
returns-else-yes-clause-goes c before =
    rw c.in-Leave.is (λ ready after. leave-goes c.args.answer.now c.args.hand.now false (sym c.yes.ensures ∙ c.if-yes.false))

pub returns-then-yes-2-clause-goes : goal.returns-then-yes-2-clause-goes
returns-then-yes-2-clause-goes c before =
    rw c.in-Commit.is (λ ready after. commit-goes c.args.answer.now c.args.hand.now true c.in-Commit.left ready.0 (sym c.yes-in-Commit.ensures ∙ c.if-yes-2.true))

pub returns-then-left-eq1-clause-goes : goal.returns-then-left-eq1-clause-goes
returns-then-left-eq1-clause-goes c before =
    rw c.in-Commit.is (λ ready after. subst (λ (n : ℕ). let p : P (Unit {0}) = commits n in Goes p (answer_in ops.Commit c.args.answer.now c.args.hand.now) (Ret tt)) (sym c.if-left-eq1.true)
    (commit-goes c.args.answer.now c.args.hand.now false 1 (omega arith) (sym c.yes-in-Commit.ensures ∙ c.if-yes-2.false)))

pub returns-else-left-eq1-clause-goes : goal.returns-else-left-eq1-clause-goes
returns-else-left-eq1-clause-goes c before =
    rw c.in-Commit.is (λ ready after. commit-goes c.args.answer.now c.args.hand.now false c.in-Commit.left ready.0 (sym c.yes-in-Commit.ensures ∙ c.if-yes-2.false))
