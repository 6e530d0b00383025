use Rattle.inode_table.proofs.Lemmas.{ℕ, None, sym, subst, Dinode, unindexed, Ret, Do, bind, unmarked, give_back, block_at, answer_in, Goes, fetch_left, fetch_asked, fetch_block, fetched_goes}
use Rattle.fs_machine.specs.Steps as steps
use Rattle.inode_table.proofs.locking_inodes.LoadInodePart.next.Goals as goal

pub returns-in_ok-fetched-in-Fetching-clause-goes : goal.returns-in_ok-fetched-in-Fetching-clause-goes
returns-in_ok-fetched-in-Fetching-clause-goes c before =
    let f = c.in-Fetching.fetch in
    let k = c.args.hand.now in
    let out = c.in_ok-fetched-in-Fetching.fetched in
    let n = c.in-Fetching.number in
    let did = c.in_ok-fetched-in-Fetching.ensures in
    let answer = answer_in (fetch_asked f) c.args.answer.now c.args.hand.now in
    rw c.in-Fetching.is (λ ready after.
    subst (λ (d : Dinode). Goes (bind (fetch_left f before) (give_back (fetch_block f) n)) answer (Do (steps.Put (block_at out.place k) None) unmarked (λ _. Ret (unindexed d)))) (sym c.dinode_at-inode.ensures)
    (fetched_goes f before k answer out (λ (b : ℕ). give_back b n) (did.goes before ready after) did.ends))
