use Rattle.console_threads.proofs.Lemmas.{rules, ◌≡◌, None, map, all_closed, if_none}
use Rattle.console_threads.proofs.work.run_calls.Goals as goal

pub returns-in-Ok-None-clause-ok : goal.returns-in-Ok-None-clause-ok
returns-in-Ok-None-clause-ok g c =
    let none : c.seats_of-seats.result.1 ≡ None = search rules in
    all_closed c.in-Ok-None.closed.stored c.args.seats c.seats_of-seats.result.0 (map (λ v. v.items) c.args.calls) c.tasks_of.result c.eight_work-worked.result c.tasks_of.ensures.seats c.tasks_of.ensures.calls c.eight_work-worked.ensures c.seats_of-seats.ensures.seats
    (if_none c.seats_of-seats.result.1 none c.seats_of-seats.ensures.none) c.requires.harts c.requires.fresh c.in-Ok-None.ensures.same c.in-Ok-None.ensures.counted
