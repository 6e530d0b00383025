use Rattle.console.proofs.Lemmas.{arith, length, ◌<◌, call_said, put_last}
use Rattle.console.proofs.queues.Queues.put.Goals as goal

pub returns : goal.returns
returns c =
    let lt : c.args.hart < length c.self.inside.calls = omega (arith, c.self.invariant, c.requires) in
    rw (← c.self.view_is) (put_last call_said (λ q. q.items) c.self.inside.calls c.args.hart c.index-self-hart.result c.push_back.new.self c.args.call lt c.in_ok-push_back.ensures.items)
