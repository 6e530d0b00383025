use Rattle.tree_histories.proofs.Lemmas.{◌≡◌, ◌<◌, ℕ, length, get_or, Some, None, slice_get, TracedCall, is_nothing, next_from, start, end_of}
use Rattle.tree_histories.proofs.position.Position.begin.Given as goal

abbrev pub invariant-loop-traced : goal.invariant-loop-traced
invariant-loop-traced l = record {
  stands : length l.stands.items ≡ l.traced-index;
  ends : length l.ends.items ≡ l.traced-index;
  all_start : (k : ℕ) → get_or l.stands.items k start ≡ start;
  all_end : (k : ℕ) (c : TracedCall) → k < l.traced-index → slice_get l.trace.calls k ≡ Some c → get_or l.ends.items k None ≡ end_of c (is_nothing (next_from c.call start));
}
