use Rattle.console_threads.proofs.Lemmas.{rules, ◌≡◌, Err, map, subst, Console, EachStarted, eight_harts}
use Rattle.console_threads.proofs.run.tell.Goals as goal

pub returns-in_err-print : goal.returns-in_err-print
returns-in_err-print g c =
    let is : c.from_residual-in_err-print.result ≡ Err (Console c.in_err-print.field-0.0) = search rules in
    rw is c.in_err-print.ensures.unprinted

pub returns : goal.returns
returns g c =
    let on = c.is_run_on.ensures.0 (search rules) in
    let same : c.as_slice-events.result.now ≡ c.args.closed.stored.events = search rules in
    record {
      run = c.args.closed;
      image_is = on.0;
      lasts = on.1;
      leaves = c.into_disk.ensures.disk;
      started = subst (λ es. EachStarted es eight_harts (map (λ v. v.items) c.args.asked)) same (c.are_started.ensures (search rules));
      answered = c.requires;
      explained = c.one_list_explains_it.ensures;
      printed = c.in_ok-print.ensures.printed;
    }
