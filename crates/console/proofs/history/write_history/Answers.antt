use Rattle.console.proofs.Lemmas.{◌<◌, ◌^◌, length, arith, sym, history_kept, run_in, found, list_told, unfound, why_told}
use Rattle.console.proofs.history.write_history.Goals as goal

pub returns-in-Err : goal.returns-in-Err
returns-in-Err g c =
    let few : length c.kept_events.result.now < 2 ^ 64 = omega arith in
    why_told (history_kept c.args.keeper) (run_in c.args.notes.now.kept) c.in-Err.why c.tell_why.result _ _
    (unfound c.args.keeper (run_in c.args.notes.now.kept) c.kept_events.result.now c.kept_outcomes.result.now few c.kept_events.ensures c.kept_outcomes.ensures c.in-Err.why c.in-Err.ensures.kept) c.tell_why.ensures

pub returns-in-Ok : goal.returns-in-Ok
returns-in-Ok g c =
    let few : length c.kept_events.result.now < 2 ^ 64 = omega arith in
    list_told (history_kept c.args.keeper) (run_in c.args.notes.now.kept) c.as_slice.result.now c.tell_list.result _ _
    (found c.args.keeper (run_in c.args.notes.now.kept) c.kept_events.result.now c.kept_outcomes.result.now few c.kept_events.ensures c.kept_outcomes.ensures c.in-Ok.list.items c.as_slice.result.now (sym c.as_slice.ensures.value) c.in-Ok.ensures.kept) c.tell_list.ensures.written c.tell_list.ensures.prints
