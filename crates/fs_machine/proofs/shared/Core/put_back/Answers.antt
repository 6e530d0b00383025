use Rattle.fs_machine.proofs.Lemmas.{ap, Ran, LogPart, exec, put_back_ran}
use Rattle.fs_machine.proofs.shared.Core.put_back.Goals as goal

pub returns-clause-ran : goal.returns-clause-ran
unfolding exec
returns-clause-ran g c x =
    let old = c.args.self.now in
    ap (λ (l : LogPart). Ran tt (record { log = l; tables = old.tables }))
    (put_back_ran g.D.Device.contents g.D.Device.failures c.args.hart old.log c.release.new.self c.args.guard.value.block c.release.ensures.seats c.release.ensures.rest)
