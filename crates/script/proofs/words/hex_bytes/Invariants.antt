use Rattle.script.proofs.Lemmas.{◌≡◌, chunks_rest, chunks_size, pairs_in, with_front}
use Rattle.script.proofs.words.hex_bytes.Given as goal

abbrev pub invariant-loop-pair : goal.invariant-loop-pair
invariant-loop-pair l =
    (goal.iterator-loop-pair).can_next l.pair-iterator ×
    (goal.iterator-loop-pair).is_finite l.pair-iterator ×
    (chunks_size l.pair-iterator ≡ 2) ×
    (with_front l.bytes.items (pairs_in (chunks_rest l.pair-iterator)) ≡ pairs_in l.digits)
