use Rattle.script.proofs.Lemmas.{◌≡◌, ◌+◌, length, map, drop, numbered, lines_from, lines_of, with_lines}
use Rattle.script.proofs.text.parse_front.Given as goal

abbrev pub invariant-loop-line : goal.invariant-loop-line
invariant-loop-line l =
    (goal.iterator-loop-line).can_next l.line-iterator ×
    (goal.iterator-loop-line).is_finite l.line-iterator ×
    (l.number ≡ length l.yielded) ×
    (with_lines (map numbered l.lines.items) (lines_from (l.number + 1) (drop (length l.yielded) (lines_of l.text))) ≡ lines_from 1 (lines_of l.text))
