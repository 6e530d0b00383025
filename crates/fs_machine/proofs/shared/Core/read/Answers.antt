use Rattle.fs_machine.proofs.Lemmas.{ap, ◌∙◌, exec_result_in, LogPart, part_of, State, exec, May, Honest, read_ran, read_honest, read-in}
use Rattle.fs_machine.proofs.shared.Core.read.Goals as goal

pub fill-requires-clause-within : goal.fill-requires-clause-within
unfolding May
fill-requires-clause-within g c = c.requires.may.3

pub returns-clause-ran : goal.returns-clause-ran
unfolding exec
returns-clause-ran g c =
    let d = g.D.Device.contents in
    let f = g.D.Device.failures in
    let old = c.args.self.now in
    let e = c.fill.ensures in
    let into : LogPart → State = λ l. record { log = l; tables = old.tables } in
    ap (exec_result_in into)
    (read_ran d f c.args.hart old.log c.fill.new.self c.args.guard.now.value.block c.args.guard.now c.fill.new.guard c.fill.result
    e.filled e.seats e.err e.contents e.faults e.rest)
    ∙ read-in into (part_of d f c.fill.new.self) c.fill.result c.fill.new.guard

pub returns-clause-honest : goal.returns-clause-honest
unfolding Honest
returns-clause-honest g c = read_honest (g.D.Device.contents c.args.self.now.log.cache.device) (g.D.Device.contents c.fill.new.self.cache.device) c.fill.result c.fill.ensures.contents
