use Rattle.fs_machine.proofs.Lemmas.{ap, sym, ◌∙◌, exec_result_in, TablesState, with_file, part_of, State, exec, file_refused, file_tried}
use Rattle.fs_machine.proofs.shared.Core.lock_file.Goals as goal

pub returns-in-Some-clause-ran : goal.returns-in-Some-clause-ran
unfolding exec
returns-in-Some-clause-ran g c x =
    let old = c.args.self.now in
    let into : TablesState → State = λ t. record { log = part_of g.D.Device.contents g.D.Device.failures old.log; tables = t } in
    ap (exec_result_in into) (file_refused c.args.hart c.args.fd c.args.want old.tables c.in-Some.why (sym c.check.ensures ∙ c.in-Some.is))

pub returns-in-None-lock-clause-ran : goal.returns-in-None-lock-clause-ran
unfolding exec
returns-in-None-lock-clause-ran g c x =
    let old = c.args.self.now in
    let f = c.in-Some-file.file in
    let into : TablesState → State = λ t. record { log = part_of g.D.Device.contents g.D.Device.failures old.log; tables = t } in
    ap (exec_result_in into) (file_tried c.args.hart c.args.fd c.args.want old.tables f (sym c.check.ensures ∙ c.in-None.is) (sym c.file.ensures ∙ c.in-Some-file.is) ∙ ap (with_file f) c.in-None-lock.ensures.ran)

pub returns-in-Some-lock-clause-ran : goal.returns-in-Some-lock-clause-ran
unfolding exec
returns-in-Some-lock-clause-ran g c x =
    let old = c.args.self.now in
    let f = c.in-Some-file.file in
    let into : TablesState → State = λ t. record { log = part_of g.D.Device.contents g.D.Device.failures old.log; tables = t } in
    ap (exec_result_in into) (file_tried c.args.hart c.args.fd c.args.want old.tables f (sym c.check.ensures ∙ c.in-None.is) (sym c.file.ensures ∙ c.in-Some-file.is) ∙ ap (with_file f) c.in-Some-lock.ensures.ran)
