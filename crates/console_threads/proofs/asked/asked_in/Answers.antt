use Rattle.console_threads.proofs.Lemmas.{rules, ◌≡◌, ◌∙◌, Ok, ap, map, sym, Round, called, course, script_course, queues_called}
use Rattle.console_threads.proofs.asked.asked_in.Goals as goal

pub returns-clause-calls : goal.returns-clause-calls
returns-clause-calls g c =
    let same : c.as_slice.result.now ≡ c.in_ok-text.text.items = search rules in
    let says : script_course Round c.in_ok-text.text.items ≡ Ok (course c.in_ok-queues.field-0) = ap (script_course Round) (sym same) ∙ c.in_ok-queues.ensures in (
      c.in_ok-text.text.items,
      c.in_ok-text.ensures.text,
      record {
        course = course c.in_ok-queues.field-0;
        says = says;
        calls_are = c.in_ok-calls.ensures ∙ queues_called (λ q. q.items) c.into_calls.result ∙ ap (map (map called)) c.into_calls.ensures;
      },
    )
