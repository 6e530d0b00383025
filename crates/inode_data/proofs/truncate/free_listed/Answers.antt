use Rattle.inode_data.proofs.Lemmas.{◌+◌, ◌∙◌, sym, ap, ℕ, numbers_in, bind, P, free_block, free_table, none_next, some_next, Second, block_at, bytes_at, inode_in, listed_rest, record_rest}
use Rattle.inode_data.proofs.truncate.free_listed.Goals as goal

pub returns-in-None-clause-program : goal.returns-in-None-clause-program
returns-in-None-clause-program c =
    let e = c.args.emptying in
    let h = c.args.hand.now in
    let v = inode_in e.seat h in
    ap (λ (b : ℕ). free_table e.sizes.bmapstart b (record_rest e v)) c.block_number.ensures
    ∙ sym (none_next e.sizes.bmapstart (numbers_in (bytes_at Second h)) c.args.from (free_table e.sizes.bmapstart (block_at Second h) (record_rest e v)) c.in-None.ensures.next)

pub returns-in-Some-clause-program : goal.returns-in-Some-clause-program
returns-in-Some-clause-program c =
    let e = c.args.emptying in
    let h = c.args.hand.now in
    let v = inode_in e.seat h in
    let i : ℕ = c.in-Some.at in
    ap (λ (p : P (Unit {0})). bind p (λ _. listed_rest e (i + 1) v h.second)) (c.new-free.ensures.program h ∙ ap (free_block e.sizes.bmapstart) c.number_at-number.ensures)
    ∙ sym (some_next e.sizes.bmapstart (numbers_in (bytes_at Second h)) c.args.from i (free_table e.sizes.bmapstart (block_at Second h) (record_rest e v)) c.in-Some.ensures.next)
