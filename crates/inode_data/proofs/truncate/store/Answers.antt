use Rattle.inode_data.proofs.Lemmas.{◌≡◌, ap, ◌∙◌, Dinode, Ret, bind, P, record_of, store as store_at, without_content, inode_in, record_in}
use Rattle.inode_data.proofs.truncate.store.Goals as goal

pub returns-clause-program : goal.returns-clause-program
returns-clause-program c =
    let e = c.args.emptying in
    let v = inode_in e.seat c.args.hand.now in
    let d : c.without-inode.result ≡ without_content (record_of v) = c.without-inode.ensures ∙ ap without_content c.record_at.ensures in
    ap (λ (p : P (Unit {0})). bind p (λ _. Ret (record_in e.seat c.with-store.new.hand))) c.with-store.ensures.program
    ∙ ap (λ (d : Dinode). bind (store_at e.sizes.inodestart v.number c.without-inode.result) (λ _. Ret d)) c.with-store.ensures.record
    ∙ ap (λ (d : Dinode). bind (store_at e.sizes.inodestart v.number d) (λ _. Ret d)) d
