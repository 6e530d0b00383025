use Rattle.console.proofs.Lemmas.{sym, history_on, run_in, found_on, list_told, unfound_on, why_told}
use Rattle.console.proofs.history.write_history_on.Goals as goal

pub returns-in-Err : goal.returns-in-Err
returns-in-Err g c =
    why_told (history_on c.args.image.now) (run_in c.args.notes.now.kept) c.in-Err.why c.tell_why.result _ _
    (unfound_on c.args.image.now (run_in c.args.notes.now.kept) c.kept_events.result.now c.kept_events.ensures c.in-Err.why c.in-Err.ensures) c.tell_why.ensures

pub returns-in-Ok : goal.returns-in-Ok
returns-in-Ok g c =
    list_told (history_on c.args.image.now) (run_in c.args.notes.now.kept) c.as_slice.result.now c.tell_list.result _ _
    (found_on c.args.image.now (run_in c.args.notes.now.kept) c.kept_events.result.now c.kept_events.ensures c.in-Ok.list.items c.as_slice.result.now (sym c.as_slice.ensures.value) c.in-Ok.ensures) c.tell_list.ensures.written c.tell_list.ensures.prints
