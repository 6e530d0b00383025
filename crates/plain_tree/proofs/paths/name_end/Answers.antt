use Rattle.plain_tree.proofs.Lemmas.{arith, ◌∙◌, pieces_more, found_slash, found_end}
use Rattle.plain_tree.proofs.paths.name_end.Goals as goal

pub returns-then-byte-eq-SLASH-clause-cut : goal.returns-then-byte-eq-SLASH-clause-cut
returns-then-byte-eq-SLASH-clause-cut c = λ v. found_slash v _ _ c.loop-i-test.true c.if-byte-eq-SLASH.true c.loop-i.invariant

pub loop-i-preserved : goal.loop-i-preserved
loop-i-preserved c = pieces_more _ _ c.loop-i-test.true c.if-byte-eq-SLASH.false ∙ c.loop-i.invariant

pub returns-clause-cut : goal.returns-clause-cut
returns-clause-cut c = λ v. found_end v _ c.loop-i.i (omega arith) c.loop-i.invariant
