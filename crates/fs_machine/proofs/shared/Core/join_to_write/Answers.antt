use Rattle.fs_machine.proofs.Lemmas.{ap, sym, ◌∙◌, Some, None, ExecResult, file_named, LogPart, State, exec, in_log, joins, state_of, join_tried, join_refused, join_ran}
use Rattle.fs_machine.proofs.shared.Core.join_to_write.Goals as goal

pub returns-in-Some-clause-ran : goal.returns-in-Some-clause-ran
unfolding exec
returns-in-Some-clause-ran g c x =
    join_refused c.args.hart (state_of g.D.Device.contents g.D.Device.failures c.args.self.now) (file_named c.args.hart c.args.fd c.args.self.now.tables) c.in-Some.why (sym c.check.ensures ∙ c.in-Some.is)

pub returns-in-None-join-clause-ran : goal.returns-in-None-join-clause-ran
unfolding exec
returns-in-None-join-clause-ran g c x =
    let d = g.D.Device.contents in
    let f = g.D.Device.failures in
    let old = c.args.self.now in
    let s : State = state_of d f old in
    join_tried c.args.hart s (file_named c.args.hart c.args.fd old.tables) c.in-Some-file.file (sym c.check.ensures ∙ c.in-None.is) (sym c.file.ensures ∙ c.in-Some-file.is)
    ∙ ap (λ (r : ExecResult (Unit {0}) LogPart). joins c.in-Some-file.file (in_log s r)) (join_ran d f c.args.hart old.log c.join.new.self None c.in-None-join.ensures.waits c.in-None-join.ensures.joins)

pub returns-in-Some-join-clause-ran : goal.returns-in-Some-join-clause-ran
unfolding exec
returns-in-Some-join-clause-ran g c x =
    let d = g.D.Device.contents in
    let f = g.D.Device.failures in
    let old = c.args.self.now in
    let s : State = state_of d f old in
    join_tried c.args.hart s (file_named c.args.hart c.args.fd old.tables) c.in-Some-file.file (sym c.check.ensures ∙ c.in-None.is) (sym c.file.ensures ∙ c.in-Some-file.is)
    ∙ ap (λ (r : ExecResult (Unit {0}) LogPart). joins c.in-Some-file.file (in_log s r)) (join_ran d f c.args.hart old.log c.join.new.self (Some c.in-Some-join.txn) c.in-Some-join.ensures.waits c.in-Some-join.ensures.joins)
