use Rattle.hart_core.proofs.Lemmas.{arith, bytes_below}
use Rattle.hart_core.proofs.starts.find_path_fault.Goals as goal

pub returns-then-path-gt-LONGEST_PATH-clause-bytes : goal.returns-then-path-gt-LONGEST_PATH-clause-bytes
returns-then-path-gt-LONGEST_PATH-clause-bytes c = bytes_below c.args.path.now (λ k. omega (arith, c.type_inv.path k))

pub returns-then-contains-clause-bytes : goal.returns-then-contains-clause-bytes
returns-then-contains-clause-bytes c = bytes_below c.args.path.now (λ k. omega (arith, c.type_inv.path k))

pub returns-clause-bytes : goal.returns-clause-bytes
returns-clause-bytes c = bytes_below c.args.path.now (λ k. omega (arith, c.type_inv.path k))
