use Rattle.fs_machine.proofs.Lemmas.{ap, exec_result_in, TablesState, part_of, State, exec, May}
use Rattle.fs_machine.proofs.shared.Core.give.Goals as goal

pub give-requires-clause-hart : goal.give-requires-clause-hart
unfolding May
give-requires-clause-hart g c = c.requires.may.0

pub give-requires-clause-child : goal.give-requires-clause-child
unfolding May
give-requires-clause-child g c = c.requires.may.1

pub give-requires-clause-room : goal.give-requires-clause-room
unfolding May
give-requires-clause-room g c = c.requires.may.4.1

pub returns-clause-ran : goal.returns-clause-ran
unfolding exec
returns-clause-ran g c x =
    let old = c.args.self.now in
    let into : TablesState → State = λ t. record { log = part_of g.D.Device.contents g.D.Device.failures old.log; tables = t } in
    ap (exec_result_in into) c.give.ensures.ran

pub returns-clause-others : goal.returns-clause-others
returns-clause-others g c = record { buffers = λ guard ne tied. tied; inodes = λ guard ne locked. c.give.ensures.others guard locked }
