use Rattle.fs_machine.proofs.Lemmas.{ap, sym, Ran, TablesState, part_of, exec}
use Rattle.fs_machine.proofs.shared.Core.unlock.Goals as goal

pub unlock-requires-clause-own : goal.unlock-requires-clause-own
unlock-requires-clause-own g c = c.requires.own.hand

pub unlock-requires-clause-locked : goal.unlock-requires-clause-locked
unlock-requires-clause-locked g c = c.requires.own.locked

pub returns-clause-ran : goal.returns-clause-ran
unfolding exec
returns-clause-ran g c x =
    let old = c.args.self.now in
    ap (λ (t : TablesState). Ran tt (record { log = part_of g.D.Device.contents g.D.Device.failures old.log; tables = t })) (sym c.unlock.ensures.ran)

pub returns-clause-others : goal.returns-clause-others
returns-clause-others g c = record { buffers = λ guard ne tied. tied; inodes = c.unlock.ensures.others }
