use Rattle.inode_data.proofs.Lemmas.{◌≡◌, ◌+◌, ◌∙◌, sym, ap, ℕ, List, Option, None, GuardState, BufferState, Dinode, Ret, bind, Inode, P, record_of, free_in_table, Place, Second, block_at, bytes_at, inode_in, answer_in, Goes, fetch_left, fetch_asked, fetch_block, fetch_place, free_left, free_asked, free_place, record_left, record_asked, record_place, own_rest, listed_rest, record_rest, fetched_goes, goes_with, goes_to, inode-beside, inode-kept, second-kept}
use Rattle.inode_data.proofs.truncate.TruncateRoutine.next.Goals as goal

pub returns-in_err-next-in-Own-clause-goes : goal.returns-in_err-next-in-Own-clause-goes
returns-in_err-next-in-Own-clause-goes c before =
    let h = c.args.hand.now in
    let e = c.in-Own.emptying in
    let m = c.in-Own.free in
    let did = c.in_err-next-in-Own.ensures in
    let rest : Inode → Unit {0} → P Dinode = λ v _. own_rest e (c.in-Own.at + 1) v in
    rw (c.in-Own.is, c.from_residual.ensures) (λ ready after.
    goes_with (free_left m before) (free_left c.next.new.self h) (rest (inode_in e.seat before)) (rest (inode_in e.seat h)) (answer_in (free_asked m) c.args.answer.now h)
    (ap rest (sym (inode-kept (free_place m) e.seat h before (did.beside before after)))) (did.goes before ready.0.0.0 after))

pub returns-in_ok-next-in-Own-clause-goes : goal.returns-in_ok-next-in-Own-clause-goes
returns-in_ok-next-in-Own-clause-goes c before =
    let h = c.args.hand.now in
    let e = c.in-Own.emptying in
    let m = c.in-Own.free in
    let did = c.in_ok-next-in-Own.ensures in
    let answer = answer_in (free_asked m) c.args.answer.now h in
    let rest : Inode → Unit {0} → P Dinode = λ v _. own_rest e (c.in-Own.at + 1) v in
    rw c.in-Own.is (λ ready after.
    goes_to (bind (free_left m before) (rest (inode_in e.seat before))) (rest (inode_in e.seat h) tt) _ answer
    (goes_with (free_left m before) (Ret tt) (rest (inode_in e.seat before)) (rest (inode_in e.seat h)) answer
    (ap rest (sym (inode-kept (free_place m) e.seat h before (did.beside before after)))) (did.goes before ready.0.0.0 after))
    (sym c.free_own.ensures.program))

pub returns-in_err-next-in-Indirect-clause-goes : goal.returns-in_err-next-in-Indirect-clause-goes
returns-in_err-next-in-Indirect-clause-goes c before =
    let h = c.args.hand.now in
    let e = c.in-Indirect.emptying in
    let f = c.in-Indirect.fetch in
    let did = c.in_err-next-in-Indirect.ensures in
    let rest : ℕ → Inode → List ℕ → P Dinode = λ b v. free_in_table e.sizes.bmapstart b (record_rest e v) in
    rw (c.in-Indirect.is, c.from_residual-in_err-next-in-Indirect.ensures) (λ ready after.
    goes_with (fetch_left f before) (fetch_left c.next-in-Indirect.new.self h) (rest (fetch_block f) (inode_in e.seat before)) (rest (fetch_block c.next-in-Indirect.new.self) (inode_in e.seat h))
    (answer_in (fetch_asked f) c.args.answer.now h)
    (ap (λ (b : ℕ). rest b (inode_in e.seat before)) (sym did.about) ∙ ap (rest (fetch_block c.next-in-Indirect.new.self)) (sym (inode-kept (fetch_place f) e.seat h before (did.beside before after))))
    (did.goes before ready.0.0 after))

pub returns-in_ok-next-in-Indirect-clause-goes : goal.returns-in_ok-next-in-Indirect-clause-goes
returns-in_ok-next-in-Indirect-clause-goes c before =
    let h = c.args.hand.now in
    let e = c.in-Indirect.emptying in
    let f = c.in-Indirect.fetch in
    let did = c.in_ok-next-in-Indirect.ensures in
    let out = c.in_ok-next-in-Indirect.field-0 in
    let answer = answer_in (fetch_asked f) c.args.answer.now h in
    let rest : Inode → ℕ → List ℕ → P Dinode = λ v b. free_in_table e.sizes.bmapstart b (record_rest e v) in
    rw c.in-Indirect.is (λ ready after.
    let went : Goes (bind (fetch_left f before) (rest (inode_in e.seat before) (fetch_block f))) answer (rest (inode_in e.seat before) (block_at out.place h) (bytes_at out.place h)) =
    fetched_goes f before h answer out (rest (inode_in e.seat before)) (did.goes before ready.0.0 after) did.ends in
    goes_to (bind (fetch_left f before) (rest (inode_in e.seat before) (fetch_block f))) _ _ answer went
    (ap (λ (p : Place). rest (inode_in e.seat before) (block_at p h) (bytes_at p h)) (did.ends.2 ∙ ready.0.1)
    ∙ ap (λ (v : Inode). rest v (block_at Second h) (bytes_at Second h)) (sym (inode-kept (fetch_place f) e.seat h before (did.beside before after)))
    ∙ sym c.free_listed.ensures.program))

pub returns-in_err-next-in-Listed-clause-goes : goal.returns-in_err-next-in-Listed-clause-goes
returns-in_err-next-in-Listed-clause-goes c before =
    let h = c.args.hand.now in
    let e = c.in-Listed.emptying in
    let m = c.in-Listed.free in
    let did = c.in_err-next-in-Listed.ensures in
    let rest : Inode → Option (GuardState BufferState) → Unit {0} → P Dinode = λ v table _. listed_rest e (c.in-Listed.at + 1) v table in
    rw (c.in-Listed.is, c.from_residual-in_err-next-in-Listed.ensures) (λ ready after.
    let kept = did.beside before after in
    goes_with (free_left m before) (free_left c.next-in-Listed.new.self h) (rest (inode_in e.seat before) before.second) (rest (inode_in e.seat h) h.second) (answer_in (free_asked m) c.args.answer.now h)
    (ap (λ (v : Inode). rest v before.second) (sym (inode-kept (free_place m) e.seat h before kept)) ∙ ap (rest (inode_in e.seat h)) (second-kept (free_place m) before h ready.0.0.1 (sym kept)))
    (did.goes before ready.0.0.0 after))

pub returns-in_ok-next-in-Listed-clause-goes : goal.returns-in_ok-next-in-Listed-clause-goes
returns-in_ok-next-in-Listed-clause-goes c before =
    let h = c.args.hand.now in
    let e = c.in-Listed.emptying in
    let m = c.in-Listed.free in
    let did = c.in_ok-next-in-Listed.ensures in
    let answer = answer_in (free_asked m) c.args.answer.now h in
    let rest : Inode → Option (GuardState BufferState) → Unit {0} → P Dinode = λ v table _. listed_rest e (c.in-Listed.at + 1) v table in
    rw c.in-Listed.is (λ ready after.
    let kept = did.beside before after in
    goes_to (bind (free_left m before) (rest (inode_in e.seat before) before.second)) (rest (inode_in e.seat h) h.second tt) _ answer
    (goes_with (free_left m before) (Ret tt) (rest (inode_in e.seat before) before.second) (rest (inode_in e.seat h) h.second) answer
    (ap (λ (v : Inode). rest v before.second) (sym (inode-kept (free_place m) e.seat h before kept)) ∙ ap (rest (inode_in e.seat h)) (second-kept (free_place m) before h ready.0.0.1 (sym kept)))
    (did.goes before ready.0.0.0 after))
    (sym c.free_listed-in-Listed.ensures.program))

pub returns-in-GiveBack-clause-goes : goal.returns-in-GiveBack-clause-goes
unfolding answer_in
returns-in-GiveBack-clause-goes c before =
    let h = c.args.hand.now in
    let e = c.in-GiveBack.emptying in
    let rest : Inode → Unit {0} → P Dinode = λ v _. record_rest e v in
    rw c.in-GiveBack.is (λ ready after.
    let same : inode_in e.seat h ≡ inode_in e.seat before = ap (inode_in e.seat) after ∙ inode-beside Second e.seat None before in
    ap (λ (p : P (Unit {0})). bind p (rest (inode_in e.seat before))) (sym (c.new-free.ensures.program h)) ∙ ap (λ (v : Inode). bind (free_left c.new-free.result h) (rest v)) (sym same))

pub returns-in_err-next-in-Table-clause-goes : goal.returns-in_err-next-in-Table-clause-goes
returns-in_err-next-in-Table-clause-goes c before =
    let h = c.args.hand.now in
    let e = c.in-Table.emptying in
    let m = c.in-Table.free in
    let did = c.in_err-next-in-Table.ensures in
    let rest : Inode → Unit {0} → P Dinode = λ v _. record_rest e v in
    rw (c.in-Table.is, c.from_residual-in_err-next-in-Table.ensures) (λ ready after.
    goes_with (free_left m before) (free_left c.next-in-Table.new.self h) (rest (inode_in e.seat before)) (rest (inode_in e.seat h)) (answer_in (free_asked m) c.args.answer.now h)
    (ap rest (sym (inode-kept (free_place m) e.seat h before (did.beside before after)))) (did.goes before ready.0.0.0 after))

pub returns-in_ok-next-in-Table-clause-goes : goal.returns-in_ok-next-in-Table-clause-goes
returns-in_ok-next-in-Table-clause-goes c before =
    let h = c.args.hand.now in
    let e = c.in-Table.emptying in
    let m = c.in-Table.free in
    let did = c.in_ok-next-in-Table.ensures in
    let answer = answer_in (free_asked m) c.args.answer.now h in
    let rest : Inode → Unit {0} → P Dinode = λ v _. record_rest e v in
    rw c.in-Table.is (λ ready after.
    goes_to (bind (free_left m before) (rest (inode_in e.seat before))) (rest (inode_in e.seat h) tt) _ answer
    (goes_with (free_left m before) (Ret tt) (rest (inode_in e.seat before)) (rest (inode_in e.seat h)) answer
    (ap rest (sym (inode-kept (free_place m) e.seat h before (did.beside before after)))) (did.goes before ready.0.0.0 after))
    (sym c.store.ensures.program))

pub returns-in_err-next-in-Record-clause-goes : goal.returns-in_err-next-in-Record-clause-goes
returns-in_err-next-in-Record-clause-goes c before =
    let h = c.args.hand.now in
    let e = c.in-Record.emptying in
    let m = c.in-Record.store in
    let did = c.in_err-next-in-Record.ensures in
    let rest : Inode → Unit {0} → P Dinode = λ v _. Ret (record_of v) in
    rw (c.in-Record.is, c.from_residual-in_err-next-in-Record.ensures) (λ ready after.
    goes_with (record_left m before) (record_left c.next-in-Record.new.self h) (rest (inode_in e.seat before)) (rest (inode_in e.seat h)) (answer_in (record_asked m) c.args.answer.now h)
    (ap rest (sym (inode-kept (record_place m) e.seat h before (did.beside before after)))) (did.goes before ready.0.0 after))
