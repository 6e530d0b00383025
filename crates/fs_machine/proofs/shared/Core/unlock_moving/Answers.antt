use Rattle.fs_machine.proofs.Lemmas.{◌≡◌, ◌∙◌, ap, sym, Some, None, TablesState, part_of, State, exec, Ran, unlock_inode}
use Rattle.fs_machine.proofs.shared.Core.unlock_moving.Goals as goal

pub move_offset-requires : goal.move_offset-requires
move_offset-requires g c = c.requires.hart

pub unlock-requires-clause-own : goal.unlock-requires-clause-own
unlock-requires-clause-own g c = c.requires.own.hand

pub unlock-requires-clause-locked : goal.unlock-requires-clause-locked
unlock-requires-clause-locked g c = c.move_offset.ensures.others c.args.guard c.requires.own.locked

pub returns-clause-ran : goal.returns-clause-ran
unfolding exec unlock_inode
returns-clause-ran g c x =
    let old = c.args.self.now in
    let v = c.args.guard.value in
    let into : TablesState → State = λ t. record { log = part_of g.D.Device.contents g.D.Device.failures old.log; tables = t } in
    let moved : unlock_inode c.args.hart v None c.move_offset.new.self ≡ unlock_inode c.args.hart v (Some (c.args.fd, c.args.offset)) old.tables = ap (unlock_inode c.args.hart v None) c.move_offset.ensures.ran in
    ap (λ (t : TablesState). Ran tt (into t)) (sym (c.unlock.ensures.ran ∙ moved))

pub returns-clause-others : goal.returns-clause-others
returns-clause-others g c = record { buffers = λ guard ne tied. tied; inodes = λ guard ne locked. c.unlock.ensures.others guard ne (c.move_offset.ensures.others guard locked) }
