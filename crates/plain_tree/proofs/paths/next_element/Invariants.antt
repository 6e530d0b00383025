use Rattle.plain_tree.proofs.Lemmas.{◌≡◌, ◌≤◌, length, elements}
use Rattle.plain_tree.specs.Code.{IsEnd}
use Rattle.plain_tree.proofs.paths.next_element.Given as goal

abbrev pub invariant-loop-rest : goal.invariant-loop-rest
invariant-loop-rest l = (elements l.version l.rest ≡ elements l.version l.path) × (length l.rest ≤ length l.path) × IsEnd l.path l.rest

abbrev pub decreases-loop-rest : goal.decreases-loop-rest
decreases-loop-rest l = length l.rest
