use Rattle.tree_histories.proofs.Lemmas.{◌<◌, ◌≤◌, ℕ, ◌+◌, ◌*◌, IsDead, IsDeadWith, IsKept, steps_left}
use Rattle.tree_histories.proofs.position.Position.+exploring.Given as goal

abbrev pub decreases-explore : goal.decreases-explore
decreases-explore l = 4 * steps_left l.trace.now l.self.now + 3

abbrev pub decreases-explore_call : goal.decreases-explore_call
decreases-explore_call l = 4 * steps_left l.trace.now l.self.now + 2

abbrev pub decreases-explore_numbers : goal.decreases-explore_numbers
decreases-explore_numbers l = 4 * steps_left l.trace.now l.self.now + 1

abbrev pub decreases-explore_step : goal.decreases-explore_step
decreases-explore_step l = 4 * steps_left l.trace.now l.self.now

abbrev pub invariant-explore-loop-id : goal.invariant-explore-loop-id
invariant-explore-loop-id l = record {
  kept : IsKept l.version l.base l.trace l.fn.self l.self;
  first : IsDead l.version l.trace l.fn.self l.first;
  due : IsDead l.version l.trace l.fn.self l.due.id;
  dead : (k : ℕ) → k < l.id → IsDead l.version l.trace l.fn.self k;
}

abbrev pub invariant-explore_numbers-loop-number : goal.invariant-explore_numbers-loop-number
invariant-explore_numbers-loop-number l = record {
  kept : IsKept l.version l.base l.trace l.fn.self l.self;
  dead : (n : ℕ) → 1 ≤ n → n < l.number → IsDeadWith l.version l.trace l.fn.self l.id n;
}
