use Rattle.image_tree.proofs.Lemmas.{sym, subst, Marks, IsOnce, held, refuted, kept_zero, kept_other, marks_push, push_once, push_twice, false_mark, true_mark}
use Rattle.image_tree.proofs.once.mark.Goals as goal

pub returns-then-b-eq0 : goal.returns-then-b-eq0
returns-then-b-eq0 c = record {
  once = λ xs m o. held _ (subst IsOnce (sym (kept_zero xs c.args.b c.if-b-eq0.true)) o);
  marks = λ xs m o yes. subst (Marks c.args.seen.now) (sym (kept_zero xs c.args.b c.if-b-eq0.true)) m;
}

pub returns-then-seen-b-clause-once : goal.returns-then-seen-b-clause-once
returns-then-seen-b-clause-once c =
    λ xs m o.
    refuted _ (λ once.
    push_twice xs c.args.b (true_mark c.args.seen.now xs c.args.b c.requires.small m c.if-seen-b.true) (subst IsOnce (kept_other xs c.args.b c.if-b-eq0.false) once))

pub returns : goal.returns
returns c = record {
  once = λ xs m o.
      held _ (subst IsOnce (sym (kept_other xs c.args.b c.if-b-eq0.false)) (push_once xs c.args.b o (false_mark c.args.seen.now xs c.args.b c.requires.small m c.if-seen-b.false)));
  marks = λ xs m o yes. subst (Marks _) (sym (kept_other xs c.args.b c.if-b-eq0.false)) (marks_push c.args.seen.now xs c.args.b c.requires.length c.requires.small m);
}
