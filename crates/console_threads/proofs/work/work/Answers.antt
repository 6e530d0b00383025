use Rattle.console_threads.proofs.Lemmas.{◌∙◌, sym, subst, map-id, IfNone, YieldsList-from_vec, YieldsList-end, HasMade, none_made, one_made, broken, whole}
use Rattle.console_threads.proofs.work.work.Goals as goal

pub loop-call-init : goal.loop-call-init
loop-call-init g c = none_made c.args.task.seat

pub loop-call-preserved : goal.loop-call-preserved
loop-call-preserved g c =
    let made : HasMade c.loop-call.seat c.in-Some.call c.make-made.result.seat = subst (λ b. IfNone b (HasMade c.loop-call.seat c.in-Some.call c.make-made.result.seat)) c.in-None-broke.is c.make-made.ensures.made in
    one_made c.args.task.seat c.loop-call.seat c.make-made.result.seat c.loop-call.yielded c.in-Some.call c.loop-call.invariant made

pub returns-in-Some-broke : goal.returns-in-Some-broke
returns-in-Some-broke g c = broken c.args.task c.make-made.result c.loop-call.yielded c.loop-call.seat c.in-Some-broke.field-0 c.loop-call.invariant c.make-made.ensures.hart c.in-Some-broke.is

pub returns : goal.returns
returns g c =
    let end = YieldsList-end (YieldsList-from_vec {s = c.into_iter-call-iterator.result} c.args.task.calls.items c.into_iter-call-iterator.ensures.into_iter_gives.0 (c.into_iter-call-iterator.ensures.into_iter_gives.1 ∙ c.args.task.calls.ok.0)) c.loop-call.yielded c.loop-call.call-iterator c.loop-call.yielded_by c.next.result c.next.new.self c.in-None.is c.next.ensures.steps in
    whole c.args.task c.loop-call.yielded c.loop-call.seat (sym (map-id c.loop-call.yielded) ∙ end.0) c.loop-call.invariant
