use Rattle.fs_machine.proofs.Lemmas.{ap, sym, ◌∙◌, exec_result_in, TablesState, part_of, State, exec, with_open, open_tried}
use Rattle.fs_machine.proofs.shared.Core.lock_open.Goals as goal

pub returns-in-None-lock-clause-ran : goal.returns-in-None-lock-clause-ran
unfolding exec
returns-in-None-lock-clause-ran g c x =
    let old = c.args.self.now in
    let f = c.in-Some.file in
    let into : TablesState → State = λ t. record { log = part_of g.D.Device.contents g.D.Device.failures old.log; tables = t } in
    ap (exec_result_in into) (open_tried c.args.hart c.args.fd old.tables f (sym c.file.ensures ∙ c.in-Some.is) ∙ ap (with_open f) c.in-None-lock.ensures.ran)

pub returns-in-Some-lock-clause-ran : goal.returns-in-Some-lock-clause-ran
unfolding exec
returns-in-Some-lock-clause-ran g c x =
    let old = c.args.self.now in
    let f = c.in-Some.file in
    let into : TablesState → State = λ t. record { log = part_of g.D.Device.contents g.D.Device.failures old.log; tables = t } in
    ap (exec_result_in into) (open_tried c.args.hart c.args.fd old.tables f (sym c.file.ensures ∙ c.in-Some.is) ∙ ap (with_open f) c.in-Some-lock.ensures.ran)
