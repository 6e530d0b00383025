use Rattle.script.proofs.Lemmas.{◌≡◌, [], length, drop, words_of, single_spaced}
use Rattle.script.proofs.asked.single_spaced.Given as goal

abbrev pub invariant-loop-word : goal.invariant-loop-word
invariant-loop-word l =
    (goal.iterator-loop-word).can_next l.word-iterator ×
    (goal.iterator-loop-word).is_finite l.word-iterator ×
    (single_spaced l.single.items (drop (length l.yielded) (words_of l.line)) ≡ single_spaced [] (words_of l.line))
