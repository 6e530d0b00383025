use Rattle.fs_machine.proofs.Lemmas.{ap, subst, sym, IsMember, exec_result_in, LogPart, State, exec, May, leave_ran}
use Rattle.fs_machine.proofs.shared.Core.leave.Goals as goal

pub leave-requires-clause-member : goal.leave-requires-clause-member
unfolding May
leave-requires-clause-member g c = subst (λ h. IsMember c.args.self.now.log.members h) (sym c.requires.own) c.requires.may.0

pub returns-clause-ran : goal.returns-clause-ran
unfolding exec
returns-clause-ran g c x =
    let old = c.args.self.now in
    let into : LogPart → State = λ l. record { log = l; tables = old.tables } in
    ap (exec_result_in into) (leave_ran g.D.Device.contents g.D.Device.failures c.args.hart old.log c.leave.new.self c.args.txn c.leave.result c.requires.own c.leave.ensures.leaves c.leave.ensures.left)
