use Rattle.console.proofs.Lemmas.{rules, ◌≡◌, Err, subst, asked_by, GivesAsked, asked_in, answered, bad_answered, bad_unanswered, no_memory_to_answer}
use Rattle.console.proofs.prompt.answer.Goals as goal

pub returns-in-Ok : goal.returns-in-Ok
returns-in-Ok g c = answered g.D.Device.contents g.D.Device.failures c.args.help.now c.args.number c.args.line.now (asked_by c.in-Ok.asked) _ _ _ _ _ _ c.do_asked.result c.in-Ok.ensures c.do_asked.ensures

pub returns-in_ok-tell_bad-in-Err-Line : goal.returns-in_ok-tell_bad-in-Err-Line
returns-in_ok-tell_bad-in-Err-Line g c =
    let bad = subst (λ e. GivesAsked c.args.number (Err e) (asked_in c.args.line.now)) c.in-Err-Line.field-0-is c.in-Err-Line.ensures in
    bad_answered g.D.Device.contents g.D.Device.failures c.args.help.now c.args.number c.in-Err-Line.number c.args.line.now _ _ _ _ bad.0 bad.1 c.in_ok-tell_bad-in-Err-Line.ensures

pub returns-in_err-tell_bad-in-Err-Line : goal.returns-in_err-tell_bad-in-Err-Line
returns-in_err-tell_bad-in-Err-Line g c =
    let bad = subst (λ e. GivesAsked c.args.number (Err e) (asked_in c.args.line.now)) c.in-Err-Line.field-0-is c.in-Err-Line.ensures in
    let fails : c.from_residual.result ≡ Err c.in_err-tell_bad-in-Err-Line.field-0.0 = search rules in
    bad_unanswered g.D.Device.contents g.D.Device.failures c.args.help.now c.args.number c.in-Err-Line.number c.args.line.now c.in_err-tell_bad-in-Err-Line.field-0.0 c.from_residual.result _ _ _ _ fails bad.1 c.in_err-tell_bad-in-Err-Line.ensures

pub returns-in-Err-Memory : goal.returns-in-Err-Memory
returns-in-Err-Memory g c = no_memory_to_answer g.D.Device.contents g.D.Device.failures c.args.help.now c.args.number c.args.line.now _ _ _ _ _
