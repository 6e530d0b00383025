use Rattle.inodes_on_blocks.proofs.Lemmas.{[], ◌<◌, arith, inode_block, size, with_record, with_contents, most_recorded, Clear, alone, IsDone, Answers, HasSpent, alone_laws, alone_keeps, lasts_done, clear_acts, spent_gives, other_spends, record_spent, record_more}
use Rattle.inodes_on_blocks.proofs.storing.clears_act_once.Goals as goal

pub returns : goal.returns
returns c = λ sizes n name h s m c' w lt few todo stands spent.
    let t = with_record n s in
    let one : size t < most_recorded = omega (arith, few) in
    clear_acts sizes alone (alone_laws sizes.version) alone_keeps h lt n name m (HasSpent sizes h t) (HasSpent sizes h (with_contents 1 t)) (λ b. other_spends sizes h b t one)
    (spent_gives sizes h (inode_block sizes.inodestart n) (with_contents 1 t) (record_spent sizes n (with_contents 1 s)) few).gives c' (IsDone (Clear n name)) (Answers (Clear n name)) (lasts_done sizes.version (Clear n name) h) [] w
    todo stands (stands.1, record_more h n s w.real spent)
