use Rattle.inodes_on_blocks.proofs.Lemmas.{[], inode_block, spent_after, with_bitmap, Empty, alone, IsDone, Answers, HasSpent, alone_laws, alone_keeps, lasts_done, spent_gives, record_spent, bitmap_spent, both_more, empty_acts}
use Rattle.inodes_on_blocks.proofs.storing.empties_act_once.Goals as goal

pub returns : goal.returns
returns c = λ sizes n h s m c' w lt few todo stands spent.
    let t = spent_after (Empty n) s in
    empty_acts sizes alone (alone_laws sizes.version) alone_keeps h lt n m (HasSpent sizes h t) (spent_gives sizes h sizes.bmapstart t (bitmap_spent sizes n s) few) (spent_gives sizes h (inode_block sizes.inodestart n) t (record_spent sizes n (with_bitmap s)) few).gives c' (IsDone (Empty n)) (Answers (Empty n)) [] w
    (lasts_done sizes.version (Empty n) h) todo stands (stands.1, both_more h n s w.real spent)
