use Rattle.fs_machine.proofs.Lemmas.{ap, ◌∙◌, arith, exec_result_in, TablesState, part_of, State, exec, May, dropped-in, dying-in, dying-apart}
use Rattle.fs_machine.proofs.shared.Core.drop_reference.Goals as goal

pub drop_reference-requires-clause-some : goal.drop_reference-requires-clause-some
unfolding May
drop_reference-requires-clause-some g c = let some = c.requires.may.0 in omega (arith, some)

pub drop_reference-requires-clause-last : goal.drop_reference-requires-clause-last
unfolding May
drop_reference-requires-clause-last g c = c.requires.may.1

pub returns-clause-ran : goal.returns-clause-ran
unfolding exec
returns-clause-ran g c x =
    let old = c.args.self.now in
    let into : TablesState → State = λ t. record { log = part_of g.D.Device.contents g.D.Device.failures old.log; tables = t } in
    ap (exec_result_in into) c.drop_reference.ensures.ran ∙ dropped-in into c.drop_reference.new.self c.drop_reference.result

pub returns-clause-own : goal.returns-clause-own
returns-clause-own g c =
    dying-in c.args.hart c.args.reference (part_of g.D.Device.contents g.D.Device.failures c.args.self.now.log) c.drop_reference.new.self c.drop_reference.result c.drop_reference.ensures.own

pub returns-clause-others : goal.returns-clause-others
returns-clause-others g c = record { buffers = λ guard ne tied. tied; inodes = λ guard ne locked. c.drop_reference.ensures.others guard locked }

pub returns-clause-apart : goal.returns-clause-apart
returns-clause-apart g c =
    dying-apart c.args.hart c.args.reference (part_of g.D.Device.contents g.D.Device.failures c.args.self.now.log) c.args.self.now.tables c.drop_reference.result c.drop_reference.ensures.apart
