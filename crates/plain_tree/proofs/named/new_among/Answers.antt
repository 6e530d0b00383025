use Rattle.plain_tree.proofs.Lemmas.{arith, all_found}
use Rattle.plain_tree.proofs.named.new_among.Goals as goal

pub returns : goal.returns
returns c = all_found c.args.slots.now c.args.marks.now (λ k s n lt h f. c.loop-slot.invariant k s n (omega (arith, lt)) h f)
