use Rattle.file_table.proofs.Lemmas.{◌≡◌, ◌∙◌, sym, ap, ℕ, Loaded, bind, Inode, P, load_unless, inode_in, answer_in, number_in, opens, inode-there}
use Rattle.file_table.proofs.lock_open.LockOpenRoutine.next.Goals as goal

pub returns-in-None-clause-goes : goal.returns-in-None-clause-goes
unfolding answer_in
returns-in-None-clause-goes c before =
    let h = c.args.hand.now in
    let k = c.in-Lock.seat in
    let f = c.in-File.file in
    rw (c.in-Lock.is, c.in-File.is) (λ ready after.
    let named : f.number ≡ number_in k h = sym (ap (λ (v : Inode). v.number) (ap (inode_in k) after.1 ∙ inode-there k after.0 before) ∙ after.2) in
    ap (λ (n : ℕ). bind (load_unless c.in-Lock.inodestart n (inode_in k h).content) (opens f)) named ∙ ap (λ (p : P Loaded). bind p (opens f)) (sym c.in-None.ensures.program))

pub returns-in-Some-clause-goes : goal.returns-in-Some-clause-goes
unfolding answer_in
returns-in-Some-clause-goes c before =
    let h = c.args.hand.now in
    let k = c.in-Lock.seat in
    let f = c.in-File.file in
    rw (c.in-Lock.is, c.in-File.is) (λ ready after.
    let named : f.number ≡ number_in k h = sym (ap (λ (v : Inode). v.number) (ap (inode_in k) after.1 ∙ inode-there k after.0 before) ∙ after.2) in
    ap (λ (n : ℕ). bind (load_unless c.in-Lock.inodestart n (inode_in k h).content) (opens f)) named ∙ ap (λ (p : P Loaded). bind p (opens f)) (sym c.in-Some.ensures.program))
