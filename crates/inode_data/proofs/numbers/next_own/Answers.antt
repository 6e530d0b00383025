use Rattle.inode_data.proofs.Lemmas.{◌≡◌, ◌<◌, ◌≤◌, ⊎_elim, length, take, arith, ◌∙◌, cases_eq, cases_lt, get_or-take, get_or_past, length-take, direct}
use Rattle.inode_data.proofs.numbers.next_own.Goals as goal

pub returns-then-inode-i-ne0-clause-next : goal.returns-then-inode-i-ne0-clause-next
returns-then-inode-i-ne0-clause-next c =
    let there = get_or-take direct c.args.inode.now.addrs c.loop-i.i 0 c.loop-i-test.true in
    (c.loop-i.auto.i, rw there c.if-inode-i-ne0.true, c.loop-i.invariant)

pub loop-i-preserved : goal.loop-i-preserved
loop-i-preserved c k low high =
    ⊎_elim
    (λ (e : k ≡ c.loop-i.i). rw e (get_or-take direct c.args.inode.now.addrs c.loop-i.i 0 c.loop-i-test.true ∙ c.if-inode-i-ne0.false))
    (λ (n : k ≡ c.loop-i.i → ⊥). c.loop-i.invariant k low (omega arith))
    (cases_eq k c.loop-i.i)

pub returns-clause-next : goal.returns-clause-next
returns-clause-next c k low =
    ⊎_elim
    (λ (l : k < direct). c.loop-i.invariant k low (omega arith))
    (λ (m : direct ≤ k). get_or_past (take direct c.args.inode.now.addrs) k 0 (let t : length (take direct c.args.inode.now.addrs) ≤ direct = omega (arith, length-take direct c.args.inode.now.addrs) in omega (arith, t, m)))
    (cases_lt k direct)
