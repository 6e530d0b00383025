use Rattle.plain_tree.proofs.Vocabulary.{arith, ◌∙◌}
use Rattle.std.proofs.Common.{below_more}
use Rattle.plain_tree.proofs.PathLemmas.{pieces_more}
use Rattle.plain_tree.proofs.PathLemmas.{found_slash, found_end}
use Rattle.path_walk.proofs.elements.name_len.Goals as goal

pub returns-then-byte-eq-SLASH-clause-cut : goal.returns-then-byte-eq-SLASH-clause-cut
returns-then-byte-eq-SLASH-clause-cut c = λ v. found_slash v _ _ c.loop-i-test.true c.if-byte-eq-SLASH.true c.loop-i.invariant.0

pub loop-i-preserved : goal.loop-i-preserved
loop-i-preserved c =
    (pieces_more _ _ c.loop-i-test.true c.if-byte-eq-SLASH.false ∙ c.loop-i.invariant.0, below_more _ _ c.loop-i.invariant.1 c.if-byte-eq-SLASH.false)

pub returns-clause-cut : goal.returns-clause-cut
returns-clause-cut c = λ v. found_end v _ c.loop-i.i (omega arith) c.loop-i.invariant.0
