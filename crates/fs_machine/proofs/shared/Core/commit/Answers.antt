use Rattle.fs_machine.proofs.Lemmas.{ap, ◌∙◌, arith, exec_result_in, LogPart, part_of, State, exec, May, Honest, commit_ran, commit_honest, committed-in}
use Rattle.fs_machine.proofs.shared.Core.commit.Goals as goal

pub commit_step-requires-clause-hart : goal.commit_step-requires-clause-hart
unfolding May
commit_step-requires-clause-hart g c = c.requires.may.0

pub commit_step-requires-clause-few : goal.commit_step-requires-clause-few
unfolding May
commit_step-requires-clause-few g c = let none = c.requires.may.1 in omega (arith, none)

pub commit_step-requires-clause-begun : goal.commit_step-requires-clause-begun
unfolding May
commit_step-requires-clause-begun g c = (c.requires.may.2, c.requires.may.3)

pub returns-clause-ran : goal.returns-clause-ran
unfolding exec
returns-clause-ran g c =
    let d = g.D.Device.contents in
    let f = g.D.Device.failures in
    let old = c.args.self.now in
    let e = c.commit_step.ensures in
    let into : LogPart → State = λ l. record { log = l; tables = old.tables } in
    ap (exec_result_in into)
    (commit_ran d f c.args.hart old.log c.commit_step.new.self c.commit_step.result
    e.waits e.write e.phase e.group e.progress e.seats e.halted e.stays e.left e.faults e.members e.sizes)
    ∙ committed-in into (part_of d f c.commit_step.new.self) c.commit_step.result

pub returns-clause-honest : goal.returns-clause-honest
unfolding Honest
returns-clause-honest g c = commit_honest g.D.Device.contents g.D.Device.failures c.args.hart c.args.self.now.log c.commit_step.new.self c.commit_step.result c.commit_step.ensures.torn
