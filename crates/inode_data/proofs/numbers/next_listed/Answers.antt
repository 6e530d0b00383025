use Rattle.inode_data.proofs.Lemmas.{◌<◌, ◌≤◌, ⊎_elim, arith, cases_lt, get_or_past, length-u32s_at, numbers_in, numbers_per_block}
use Rattle.inode_data.proofs.numbers.next_listed.Goals as goal

pub returns-clause-next : goal.returns-clause-next
returns-clause-next c k low =
    ⊎_elim
    (λ (l : k < numbers_per_block). c.loop-i.invariant k low (omega arith))
    (λ (m : numbers_per_block ≤ k). get_or_past (numbers_in c.args.table.now) k 0
    (omega (arith, m, length-u32s_at numbers_per_block c.args.table.now 0)))
    (cases_lt k numbers_per_block)
