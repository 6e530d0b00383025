use Rattle.inodes_on_blocks.proofs.Lemmas.{[], inode_block, spent_after, Store, alone, IsDone, Answers, HasSpent, alone_laws, alone_keeps, lasts_done, spent_gives, record_spent, record_more, store_acts}
use Rattle.inodes_on_blocks.proofs.storing.stores_act_once.Goals as goal

pub returns : goal.returns
returns c = λ sizes n count h s m c' w lt few todo stands spent.
    let t = spent_after (Store n count) s in
    store_acts sizes alone (alone_laws sizes.version) alone_keeps h lt n count m (HasSpent sizes h t) (spent_gives sizes h (inode_block sizes.inodestart n) t (record_spent sizes n s) few).gives c' (IsDone (Store n count)) (Answers (Store n count)) [] w
    (lasts_done sizes.version (Store n count) h) todo stands (stands.1, record_more h n s w.real spent)
