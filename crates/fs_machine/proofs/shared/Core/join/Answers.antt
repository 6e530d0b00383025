use Rattle.fs_machine.proofs.Lemmas.{ap, ◌∙◌, exec_result_in, LogPart, part_of, State, exec, join_ran, joined-in}
use Rattle.fs_machine.proofs.shared.Core.join.Goals as goal

pub returns-clause-ran : goal.returns-clause-ran
unfolding exec
returns-clause-ran g c x =
    let d = g.D.Device.contents in
    let f = g.D.Device.failures in
    let old = c.args.self.now in
    let into : LogPart → State = λ l. record { log = l; tables = old.tables } in
    ap (exec_result_in into) (join_ran d f c.args.hart old.log c.join.new.self c.join.result c.join.ensures.waits c.join.ensures.joins) ∙ joined-in into (part_of d f c.join.new.self) c.join.result
