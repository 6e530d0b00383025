use Rattle.fs_layout.proofs.Lemmas.{ℕ, ◌≡◌, ◌≤◌, ◌+◌, ◌-◌, arith, ◌*◌, length, replicate, overwrite, dirent_len_of, name_len_of, spell_dirent, inside, wrote_used, reads_back, others_stay}
use Rattle.fs_layout.proofs.entry.write_dirent.Goals as goal

free : (c : goal.After-put_zeros) → c.put_zeros.new.bytes ≡ overwrite c.args.block.now (dirent_len_of c.args.version * c.args.place) (spell_dirent c.args.version c.args.entry.now)
free c = rw (c.in-Free.is, ← c.dirent_len-len.ensures) c.put_zeros.ensures

used : (c : goal.After-put_zeros-in-Used)
    → c.put_zeros-in-Used.new.bytes ≡ overwrite c.args.block.now (dirent_len_of c.args.version * c.args.place) (spell_dirent c.args.version c.args.entry.now)
used c =
    let at : ℕ = c.dirent_len-len.result * c.args.place in
    let name = c.as_bytes-bytes.result.now in
    let pad : c.put_zeros-in-Used.new.bytes ≡ overwrite c.put_bytes.new.bytes (at + 2 + length name) (replicate (name_len_of c.args.version - length name) 0) =
    rw (← c.name_len.ensures) c.put_zeros-in-Used.ensures in
    let starts : at ≤ length c.args.block.now = rw c.dirent_len-len.ensures (omega (arith, inside c.args.version c.args.place c.requires.place)) in
    let e = wrote_used c.args.version c.args.block.now c.put_u16.new.bytes c.put_bytes.new.bytes c.put_zeros-in-Used.new.bytes name c.in-Used.number at starts
    c.put_u16.ensures c.put_bytes.ensures pad in
    rw (c.in-Used.is, ← c.as_bytes-bytes.ensures.value, ← c.dirent_len-len.ensures) e

pub returns-in-Free-clause-reads_back : goal.returns-in-Free-clause-reads_back
returns-in-Free-clause-reads_back c = reads_back c.args.version c.args.block.now c.put_zeros.new.bytes c.args.place c.args.entry.now (omega (arith, inside c.args.version c.args.place c.requires.place)) c.requires.entry (free c)

pub returns-in-Free-clause-others : goal.returns-in-Free-clause-others
returns-in-Free-clause-others c = λ q h ne. others_stay c.args.version c.args.block.now c.put_zeros.new.bytes c.args.place q c.args.entry.now (omega (arith, inside c.args.version c.args.place c.requires.place)) c.requires.entry ne (free c)

pub returns-in-Used-clause-bytes : goal.returns-in-Used-clause-bytes
returns-in-Used-clause-bytes c = used c

pub returns-in-Used-clause-reads_back : goal.returns-in-Used-clause-reads_back
returns-in-Used-clause-reads_back c = reads_back c.args.version c.args.block.now c.put_zeros-in-Used.new.bytes c.args.place c.args.entry.now (omega (arith, inside c.args.version c.args.place c.requires.place)) c.requires.entry (used c)

pub returns-in-Used-clause-others : goal.returns-in-Used-clause-others
returns-in-Used-clause-others c = λ q h ne. others_stay c.args.version c.args.block.now c.put_zeros-in-Used.new.bytes c.args.place q c.args.entry.now (omega (arith, inside c.args.version c.args.place c.requires.place)) c.requires.entry ne (used c)
