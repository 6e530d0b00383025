use Rattle.console.proofs.Lemmas.{rules, ◌≡◌, Err, Memory, call_said, not_started, started}
use Rattle.console.proofs.commands.start.Goals as goal

pub returns-in_err-call : goal.returns-in_err-call
returns-in_err-call g c =
    let is : c.from_residual.result ≡ Err Memory = search rules in
    not_started g.D.Device.contents g.D.Device.failures c.args.hart (call_said c.args.call) _ _ _ c.from_residual.result is

pub returns-in_err-copy : goal.returns-in_err-copy
returns-in_err-copy g c =
    let is : c.from_residual-in_err-copy.result ≡ Err Memory = search rules in
    not_started g.D.Device.contents g.D.Device.failures c.args.hart (call_said c.args.call) _ _ _ c.from_residual-in_err-copy.result is

pub returns : goal.returns
returns g c = started g.D.Device.contents g.D.Device.failures c.args.hart (call_said c.args.call) c.in_ok-call.call c.of-verb.result _ _ _ _ _ _ c.happen.result c.in_ok-call.ensures c.of-verb.ensures c.happen.ensures
