use Rattle.plain_tree.proofs.Lemmas.{◌≡◌, ℕ, ◌<◌, Some, slice_get, TracedCall, IsWritten, acts_of}
use Rattle.plain_tree.proofs.explains.all_written.Given as goal

abbrev pub invariant-loop-id : goal.invariant-loop-id
invariant-loop-id l = (k : ℕ) → k < l.id → (c : TracedCall) → slice_get l.calls k ≡ Some c → IsWritten c.call (acts_of k l.list) c.finished
