use Rattle.fs_machine.proofs.Lemmas.{◌≡◌, false, ap, subst, sym, has, IsMember, HasRoom, Ran, LogPart, exec, May, put_changed_ran}
use Rattle.fs_machine.proofs.shared.Core.put_changed.Goals as goal

pub record-requires-clause-member : goal.record-requires-clause-member
unfolding May
record-requires-clause-member g c = subst (λ h. IsMember c.args.self.now.log.members h) (sym c.requires.txn) c.requires.may.2.1

pub record-requires-clause-running : goal.record-requires-clause-running
unfolding May
record-requires-clause-running g c = c.requires.may.2.2

pub record-requires-clause-home : goal.record-requires-clause-home
unfolding May
record-requires-clause-home g c = c.requires.may.2.3

pub record-requires-clause-room : goal.record-requires-clause-room
unfolding May
record-requires-clause-room g c =
    subst (λ h. has c.args.self.now.log.group c.args.guard.value.block ≡ false → HasRoom c.args.self.now.log.members h) (sym c.requires.txn) c.requires.may.2.4

pub returns-clause-ran : goal.returns-clause-ran
unfolding exec
returns-clause-ran g c x =
    let old = c.args.self.now in
    ap (λ (l : LogPart). Ran tt (record { log = l; tables = old.tables }))
    (put_changed_ran g.D.Device.contents g.D.Device.failures c.args.hart old.log c.record.new.self c.args.guard.value.block c.args.guard.value.content c.args.txn.now
    c.requires.valid c.requires.txn c.record.ensures.records)
