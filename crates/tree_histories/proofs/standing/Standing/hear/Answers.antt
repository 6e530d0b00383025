use Rattle.tree_histories.proofs.Lemmas.{None, ap, inr, subst, ◌∙◌, Reply, Call, Ret, P, reply_to, HearsSo, Under}
use Rattle.tree_histories.proofs.standing.Standing.hear.Goals as goal

pub returns-then-next : goal.returns-then-next
returns-then-next c =
    subst (λ (u : Under). HearsSo c.args.version u c.args.heard.now None) c.self.view_is
    (inr (c.next.new.says, c.if-next.ensures.goes ∙ ap (λ (call : Call). let p : P Reply = Ret (reply_to call c.next.new.says) in p) c.if-next.ensures.call))
