use Rattle.image_tree.proofs.Lemmas.{◌-◌, refl, arith, differ_once, differ_sorted, once_from_places}
use Rattle.image_tree.proofs.names.neighbours_differ.Goals as goal

pub returns-then-eq : goal.returns-then-eq
returns-then-eq c = (λ never. absurd (cc), λ once. let differ = differ_once c.args.names.now (c.loop-k.k - 1) c.loop-k.k once (omega arith) c.loop-k-test.true in grind arith)

pub returns : goal.returns
returns c = (λ _. once_from_places c.args.names.now (differ_sorted c.args.names.now c.requires (λ k h. c.loop-k.invariant k (omega arith))), λ _. refl)
