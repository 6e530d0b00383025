use Rattle.fs_machine.proofs.Lemmas.{ap, sym, Ran, exec, state_of, May}
use Rattle.fs_machine.proofs.shared.Core.check_file.Goals as goal

pub check-requires : goal.check-requires
unfolding May
check-requires g c = c.requires.may

pub returns : goal.returns
unfolding exec
returns g c x = ap (λ o. Ran o (state_of g.D.Device.contents g.D.Device.failures c.args.self.now)) (sym c.check.ensures)
