use Rattle.fs_machine.proofs.Lemmas.{ap, ◌∙◌, exec_result_in, LogPart, part_of, State, exec, May, get_ran, get_still, get_own, got-in}
use Rattle.fs_machine.proofs.shared.Core.get.Goals as goal

pub returns-clause-ran : goal.returns-clause-ran
unfolding exec
returns-clause-ran g c x =
    let d = g.D.Device.contents in
    let f = g.D.Device.failures in
    let old = c.args.self.now in
    let into : LogPart → State = λ l. record { log = l; tables = old.tables } in
    ap (exec_result_in into) (get_ran d f c.args.hart old.log c.get.new.self c.args.b c.get.result c.get.ensures.gives c.get.ensures.rest) ∙ got-in into (part_of d f c.get.new.self) c.get.result

pub returns-clause-still : goal.returns-clause-still
returns-clause-still g c = get_still c.args.hart c.args.b c.args.self.now.log c.get.new.self c.args.self.now.tables c.get.result c.get.ensures.gives c.get.ensures.rest

pub returns-clause-own : goal.returns-clause-own
unfolding May
returns-clause-own g c =
    get_own g.D.Device.contents g.D.Device.failures c.args.hart c.args.b c.args.self.now.log c.get.new.self c.args.self.now.tables c.get.result c.requires.may.2 c.get.ensures.held c.get.ensures.bytes c.get.ensures.rest c.get.ensures.seen
