use Rattle.buffer_cache.proofs.Lemmas.{◌≡◌, ◌<◌, ◌+◌, ℕ, length, get_or}
use Rattle.buffer_cache.proofs.links.link_all.Given as goal

abbrev pub invariant-loop-number : goal.invariant-loop-number
invariant-loop-number l = record {
  long : length l.next ≡ l.last + 1;
  same : length l.previous ≡ l.last + 1;
  next : (k : ℕ) → k < l.number → get_or l.next k 0 ≡ k + 1;
  previous : (k : ℕ) → k < l.number → get_or l.previous (k + 1) 0 ≡ k;
  first : get_or l.next l.last 0 ≡ 0;
  last : get_or l.previous 0 0 ≡ l.last;
}
