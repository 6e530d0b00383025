use Rattle.tree_histories.proofs.Lemmas.{Version, KeptTree, HearsSo, Option, Some, sym, subst, ap, ◌∙◌, Heard, HasHeard, Under, with_hart, heard_begun, heard_on}
use Rattle.tree_histories.proofs.kept.Kept.hears.Goals as goal

pub returns-in-Some-heard : goal.returns-in-Some-heard
returns-in-Some-heard c =
    let version = ap (λ (k : KeptTree). k.version) c.self.view_is ∙ ap (λ (k : KeptTree). k.version) c.in-Some.ensures.rest in
    let goes = subst (λ (v : Version). HearsSo v c.in-Some.standing c.in-Some-heard.heard c.hear-goes_on.result) version c.hear-goes_on.ensures in
    subst (λ (x : Option Heard). HasHeard c.args.self.now c.args.hart x c.put.new.self) (sym c.in-Some-heard.is)
    (heard_on c.args.self.now c.take.new.self c.put.new.self c.args.hart c.in-Some.standing (sym c.in-Some.ensures.call) c.in-Some.ensures.rest c.in-Some-heard.heard c.hear-goes_on.result goes c.put.ensures)

pub returns-in-None : goal.returns-in-None
returns-in-None c =
    subst (λ (x : Option Heard). HasHeard c.args.self.now c.args.hart x c.put-in-None.new.self) (sym c.in-None.is)
    (heard_begun c.args.self.now c.take.new.self c.put-in-None.new.self c.args.hart c.in-Some.standing (sym c.in-Some.ensures.call) c.in-Some.ensures.rest
    (c.put-in-None.ensures ∙ ap (λ (u : Under). with_hart c.take.new.self c.args.hart (Some u)) c.begin.ensures))
