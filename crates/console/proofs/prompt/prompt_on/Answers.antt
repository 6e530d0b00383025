use Rattle.console.proofs.Lemmas.{rules, refl, ◌≡◌, ◌∙◌, Err, inr, Memory, Some, beside_in, history_at, history_from, history_kept, at_is, prompts_again, lines_answered, nothing_kept, ends_as}
use Rattle.console.proofs.prompt.prompt_on.Goals as goal

pub returns-in_err-running : goal.returns-in_err-running
returns-in_err-running g c =
    let memory = c.in_err-running.ensures.memory.0 in
    let is : c.from_residual.result ≡ Err Memory = search (rules, memory) in
    inr (record { memory = is; same = c.in_err-running.ensures.memory.1; silent = refl })

pub returns : goal.returns
returns g c =
    let kept = beside_in c.hand_back-keeper.result in
    let first = Some (nothing_kept c.args.session.now.world.sizes.version c.args.base.now) in
    let ended =
    ends_as c.args.mode (history_kept kept) (history_from c.args.session.now.world.sizes.version c.args.base.now first kept) (λ run text told. (refl, told)) c.prompt_all-ended.new.running.notes c.prompt_all-ended.result c.finish.result (g.W.Write.contents c.prompt_all-ended.new.out) (g.W.Write.contents c.finish.new.out) c.finish.ensures in
    prompts_again g.D.Device.contents g.D.Device.failures c.args.mode (history_from c.args.session.now.world.sizes.version c.args.base.now) (history_at g.D.Device.contents g.D.Device.failures c.args.session.now c.args.base.now) c.args.session.now
    (λ wanted. at_is g.D.Device.contents g.D.Device.failures c.args.base.now c.args.session.now) _ (g.R.Read.remaining c.args.typed.now) c.finish.result c.hand_back-keeper.new.self _ _
    (lines_answered g.D.Device.contents g.D.Device.failures _ c.args.mode (history_from c.args.session.now.world.sizes.version c.args.base.now) c.args.session.now c.script_state.new.session c.prompt_all-ended.new.session c.hand_back-keeper.new.self _ c.in_ok-running.running.queues c.prompt_all-ended.new.running.queues first kept c.prompt_all-ended.result c.finish.result _ _ _ _ _
    (c.in_ok-running.ensures.state.0 ∙ c.new.ensures) c.in_ok-running.ensures.state.1 c.in_ok-running.ensures.keeps c.hand_back-keeper.ensures.left c.hand_back-keeper.ensures.kept c.prompt_all-ended.ensures ended)
