use Rattle.fs_machine.proofs.Lemmas.{◌≡◌, ap, subst, exec_result_in, TablesState, part_of, State, exec, Ran, settle_inode, settled}
use Rattle.fs_machine.proofs.shared.Core.settle.Goals as goal

pub unlock-requires-clause-own : goal.unlock-requires-clause-own
unlock-requires-clause-own g c = c.requires.own.hand

pub unlock-requires-clause-locked : goal.unlock-requires-clause-locked
unlock-requires-clause-locked g c = c.requires.own.locked

pub returns-clause-ran : goal.returns-clause-ran
unfolding exec settle_inode
returns-clause-ran g c x =
    let old = c.args.self.now in
    let v = c.args.guard.value in
    let into : TablesState → State = λ t. record { log = part_of g.D.Device.contents g.D.Device.failures old.log; tables = t } in
    ap (exec_result_in into)
    (subst (λ (t : TablesState). settled c.args.hart v.number t ≡ Ran c.set_directory.result c.set_directory.new.self) c.unlock.ensures.ran
    (subst (λ n. settled c.args.hart n c.unlock.new.self ≡ Ran c.set_directory.result c.set_directory.new.self) c.requires.reference c.set_directory.ensures.ran))

pub returns-clause-others : goal.returns-clause-others
returns-clause-others g c = record { buffers = λ guard ne tied. tied; inodes = λ guard ne locked. c.set_directory.ensures.others guard (c.unlock.ensures.others guard ne locked) }
