use Rattle.fs_machine.proofs.Lemmas.{ap, exec_result_in, TablesState, part_of, State, exec, May}
use Rattle.fs_machine.proofs.shared.Core.take_descriptor.Goals as goal

pub open-requires : goal.open-requires
unfolding May
open-requires g c = c.requires.may.0

pub returns-clause-ran : goal.returns-clause-ran
unfolding exec
returns-clause-ran g c x =
    let old = c.args.self.now in
    let into : TablesState → State = λ t. record { log = part_of g.D.Device.contents g.D.Device.failures old.log; tables = t } in
    ap (exec_result_in into) c.open.ensures.ran

pub returns-clause-others : goal.returns-clause-others
returns-clause-others g c = record { buffers = λ guard ne tied. tied; inodes = λ guard ne locked. c.open.ensures.others guard locked }
