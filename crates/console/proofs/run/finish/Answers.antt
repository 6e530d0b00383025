use Rattle.console.proofs.Lemmas.{rules, refl, ◌≡◌, Ok, Err, Stopped, beside_in, history_kept, stopped_so}
use Rattle.console.proofs.run.finish.Goals as goal

pub returns-in_ok-write_rest-in-Err-Stopped : goal.returns-in_ok-write_rest-in-Err-Stopped
returns-in_ok-write_rest-in-Err-Stopped g c =
    let was : c.args.ended ≡ Err (Stopped c.in-Err-Stopped.stop) = search rules in
    stopped_so c.args.mode (history_kept (beside_in c.args.keeper)) c.args.running.notes c.args.ended c.in-Err-Stopped.stop (Ok tt) _ _ _ was c.in_ok-write_rest-in-Err-Stopped.ensures refl

pub returns-in_err-write_rest-in-Err-Stopped : goal.returns-in_err-write_rest-in-Err-Stopped
returns-in_err-write_rest-in-Err-Stopped g c =
    let was : c.args.ended ≡ Err (Stopped c.in-Err-Stopped.stop) = search rules in
    let is : c.from_residual.result ≡ Err c.in_err-write_rest-in-Err-Stopped.field-0.0 = search rules in
    stopped_so c.args.mode (history_kept (beside_in c.args.keeper)) c.args.running.notes c.args.ended c.in-Err-Stopped.stop (Err c.in_err-write_rest-in-Err-Stopped.field-0.0) c.from_residual.result _ _ was c.in_err-write_rest-in-Err-Stopped.ensures is
