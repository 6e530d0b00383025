use Rattle.inode_data.proofs.Lemmas.{◌+◌, ◌∙◌, ◌<◌, take, sym, ap, subst, get_or, Some, None, List, ℕ, get_or-take, Dinode, bind, P, free_block, record_of, IsNext, direct, none_next, some_next, inode_in, own_rest, indirect_rest}
use Rattle.inode_data.proofs.truncate.free_own.Goals as goal

pub returns-in-None-clause-program : goal.returns-in-None-clause-program
returns-in-None-clause-program c =
    let e = c.args.emptying in
    let v = inode_in e.seat c.args.hand.now in
    c.free_indirect.ensures.program ∙ sym (none_next e.sizes.bmapstart (take direct (record_of v).addrs) c.args.from (indirect_rest e v)
    (subst (λ (d : Dinode). IsNext (take direct d.addrs) c.args.from None) c.record_at-inode.ensures c.in-None.ensures.next))

pub returns-in-Some-clause-program : goal.returns-in-Some-clause-program
returns-in-Some-clause-program c =
    let e = c.args.emptying in
    let v = inode_in e.seat c.args.hand.now in
    let i : ℕ = c.in-Some.at in
    let d : Dinode = c.record_at-inode.result.now in
    let below : i < direct = c.in-Some.ensures.within in
    let there = get_or-take direct d.addrs i 0 below in
    let numbers : List ℕ = take direct (record_of v).addrs in
    ap (λ (p : P (Unit {0})). bind p (λ _. own_rest e (i + 1) v))
    (c.new-free.ensures.program c.args.hand.now ∙ ap (free_block e.sizes.bmapstart) (sym there ∙ ap (λ (d : Dinode). get_or (take direct d.addrs) i 0) c.record_at-inode.ensures))
    ∙ sym (some_next e.sizes.bmapstart numbers c.args.from i (indirect_rest e v) (subst (λ (d : Dinode). IsNext (take direct d.addrs) c.args.from (Some i)) c.record_at-inode.ensures c.in-Some.ensures.next))
