use Rattle.hart_core.proofs.Lemmas.{arith, bytes_below}
use Rattle.hart_core.proofs.starts.find_part_fault.Goals as goal

pub returns-then-part-gt-LONGEST_PART-clause-bytes : goal.returns-then-part-gt-LONGEST_PART-clause-bytes
returns-then-part-gt-LONGEST_PART-clause-bytes c = bytes_below c.args.part.now (λ k. omega (arith, c.type_inv.part k))

pub returns-else-part-gt-LONGEST_PART-clause-bytes : goal.returns-else-part-gt-LONGEST_PART-clause-bytes
returns-else-part-gt-LONGEST_PART-clause-bytes c = bytes_below c.args.part.now (λ k. omega (arith, c.type_inv.part k))
