use Rattle.console.proofs.Lemmas.{arith, refl, length, ◌<◌, ◌≤◌, call_said, none_past, taken}
use Rattle.console.proofs.queues.Queues.take_next.Goals as goal

pub returns-then-place-lt8 : goal.returns-then-place-lt8
returns-then-place-lt8 c =
    let lt : c.args.hart < length c.self.inside.calls = omega (arith, c.self.invariant, c.if-place-lt8.true) in
    rw (← c.self.view_is)
    (taken call_said (λ q. q.items) c.self.inside.calls c.args.hart c.index-self-place.result c.pop_front.new.self c.pop_front.result lt c.pop_front.ensures.items c.pop_front.ensures.rest)

pub returns-else-place-lt8 : goal.returns-else-place-lt8
returns-else-place-lt8 c =
    let le : length c.self.inside.calls ≤ c.args.hart = omega (arith, c.self.invariant, c.if-place-lt8.false) in
    (rw (← c.self.view_is) (none_past call_said (λ q. q.items) c.self.inside.calls c.args.hart le), refl)
