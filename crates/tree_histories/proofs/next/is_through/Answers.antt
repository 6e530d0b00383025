use Rattle.tree_histories.proofs.next.is_through.Goals as goal

pub returns-in-Write : goal.returns-in-Write
returns-in-Write c =
    let through = c.is_write_through.ensures c.in-Write.fd in
    rw (c.in-Write.is, ← c.as_slice.ensures) through
