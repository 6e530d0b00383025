use Rattle.tree_histories.proofs.Lemmas.{Some, ap, sym, ◌∙◌, Under, walking, with_hart, put_back_changed}
use Rattle.tree_histories.proofs.kept.Kept.set_walk.Goals as goal

pub returns : goal.returns
returns c =
    put_back_changed c.args.self.now c.args.hart (walking c.args.walk) c.in-Some.standing c.take.new.self c.put.new.self (sym c.in-Some.ensures.call) c.in-Some.ensures.rest
    (c.put.ensures ∙ ap (λ (u : Under). with_hart c.take.new.self c.args.hart (Some u)) c.set_walk.ensures)
