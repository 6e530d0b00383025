use Rattle.fs_machine.proofs.Lemmas.{◌≡◌, ◌+◌, ◌<◌, ◌^◌, ap, sym, subst, exec_result_in, TablesState, part_of, State, exec, May, Ran, references_of, up_directory, up_inode}
use Rattle.fs_machine.proofs.shared.Core.up_directory.Goals as goal

pub up-requires : goal.up-requires
unfolding May
up-requires g c = record { room = subst (λ n. references_of n c.args.self.now.tables + 1 < 2 ^ 32) (sym c.directory-number.ensures) c.requires.may.1.1 }

pub returns-clause-ran : goal.returns-clause-ran
unfolding exec up_directory
returns-clause-ran g c x =
    let old = c.args.self.now in
    let into : TablesState → State = λ t. record { log = part_of g.D.Device.contents g.D.Device.failures old.log; tables = t } in
    ap (exec_result_in into) (subst (λ n. up_inode n old.tables ≡ Ran c.up.result c.up.new.self) c.directory-number.ensures c.up.ensures.ran)

pub returns-clause-others : goal.returns-clause-others
returns-clause-others g c = record { buffers = λ guard ne tied. tied; inodes = λ guard ne locked. c.up.ensures.others guard locked }
