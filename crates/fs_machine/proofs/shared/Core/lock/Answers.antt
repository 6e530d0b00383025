use Rattle.fs_machine.proofs.Lemmas.{◌≡◌, ap, ◌∙◌, subst, IfSome, exec_result_in, TablesState, lock_inode, locked_as, IsOwnInode, part_of, State, exec, locked-in, HasNone, still-in, own-in, lock-apart}
use Rattle.fs_machine.proofs.shared.Core.lock.Goals as goal

pub returns-clause-ran : goal.returns-clause-ran
unfolding exec
returns-clause-ran g c x =
    let old = c.args.self.now in
    let into : TablesState → State = λ t. record { log = part_of g.D.Device.contents g.D.Device.failures old.log; tables = t } in
    subst (λ n. exec_result_in into (lock_inode c.args.hart n old.tables) ≡ exec_result_in into (locked_as c.lock.result c.lock.new.self)) c.number.ensures (ap (exec_result_in into) c.lock.ensures.ran) ∙ locked-in into c.lock.new.self c.lock.result

pub returns-clause-still : goal.returns-clause-still
returns-clause-still g c = still-in c.args.self.now.log c.args.self.now.tables c.lock.new.self c.lock.result c.lock.ensures.still

pub returns-clause-own : goal.returns-clause-own
returns-clause-own g c =
    let l = part_of g.D.Device.contents g.D.Device.failures c.args.self.now.log in
    subst (λ n. IfSome c.lock.result (λ guard. IsOwnInode c.args.hart n guard (record { log = l; tables = c.lock.new.self }))) c.number.ensures (own-in c.args.hart c.number.result l c.lock.new.self c.lock.result c.lock.ensures.own)

pub returns-clause-others : goal.returns-clause-others
returns-clause-others g c = record { buffers = λ guard ne tied. tied; inodes = λ guard ne locked. c.lock.ensures.others guard locked }

pub returns-clause-apart : goal.returns-clause-apart
returns-clause-apart g c =
    let l = part_of g.D.Device.contents g.D.Device.failures c.args.self.now.log in
    subst (λ n. IfSome c.lock.result (λ _. HasNone n (IsOwnInode c.args.hart) (record { log = l; tables = c.args.self.now.tables }))) c.number.ensures
    (lock-apart c.args.hart c.number.result l c.args.self.now.tables c.lock.result c.lock.ensures.apart)
