use Rattle.inode_table.proofs.Lemmas.{◌≡◌, ◌∙◌, sym, ap, ℕ, Loaded, Inode, P, load_unless, inode_in, number_at, answer_in, number_in, inode-there}
use Rattle.inode_table.proofs.locking_inodes.LockInodeRoutine.next.Goals as goal

pub returns-in-None-clause-goes : goal.returns-in-None-clause-goes
unfolding answer_in
returns-in-None-clause-goes c before =
    let h = c.args.hand.now in
    let k = c.in-Lock.seat in
    rw c.in-Lock.is (λ ready after.
    let named : number_at k before ≡ number_in k h = sym (ap (λ (v : Inode). v.number) (ap (inode_in k) after.1 ∙ inode-there k after.0 before) ∙ after.2) in
    ap (λ (n : ℕ). let p : P Loaded = load_unless c.in-Lock.inodestart n (inode_in k h).content in p) named ∙ sym c.in-None.ensures.program)

pub returns-in-Some-clause-goes : goal.returns-in-Some-clause-goes
unfolding answer_in
returns-in-Some-clause-goes c before =
    let h = c.args.hand.now in
    let k = c.in-Lock.seat in
    rw c.in-Lock.is (λ ready after.
    let named : number_at k before ≡ number_in k h = sym (ap (λ (v : Inode). v.number) (ap (inode_in k) after.1 ∙ inode-there k after.0 before) ∙ after.2) in
    ap (λ (n : ℕ). let p : P Loaded = load_unless c.in-Lock.inodestart n (inode_in k h).content in p) named ∙ sym c.in-Some.ensures.program)
