use Rattle.inode_parts.proofs.Lemmas.{◌≡◌, ℕ, sym, subst, arith, rules, ◌<◌, ◌^◌, None, replicate, length-replicate, Ret, Dinode, inode_at, InodePlace, IsLoadedAt, filled_to, read_left, other, begun_fills, begun_is_part, may_move}
use Rattle.inode_parts.proofs.part.InodePart.begin_read_file.Goals as goal

pub returns-in-Runs-clause-part : goal.returns-in-Runs-clause-part
returns-in-Runs-clause-part c sizes path offset begins =
    let f = c.locked_file-file in
    let h = c.args.hand.now in
    begun_is_part sizes path c.args.notes.now c.args.number c.args.fd offset c.args.count h begins.0 begins.4 f.result c.record_at-inode.result.now (λ (d : Dinode). read_left d path c.in-Runs.part h)
    f.ensures.seat f.ensures.fd (f.ensures.offset offset begins.3) c.record_at-inode.ensures (c.in-Runs.ensures.program path h)

pub returns-in-Runs-clause-fills : goal.returns-in-Runs-clause-fills
returns-in-Runs-clause-fills c path =
    let h = c.args.hand.now in
    begun_fills path c.args.count c.locked_file-file.result h c.record_at-inode.result.now (λ (d : Dinode). read_left d path c.in-Runs.part h) c.record_at-inode.ensures (c.in-Runs.ensures.program path h)

pub returns-in-Runs-clause-ready : goal.returns-in-Runs-clause-ready
returns-in-Runs-clause-ready c =
    let f = c.locked_file-file in
    let h = c.args.hand.now in
    let begins = c.requires.begins.1 in
    let few : f.result.offset < 2 ^ 32 = search rules in
    let count = c.args.count in (
      subst (λ (k : InodePlace). IsLoadedAt k h) (sym f.ensures.seat) begins.1,
      subst (λ (k : InodePlace). inode_at (other k) h ≡ None) (sym f.ensures.seat) begins.4,
      may_move f.result c.record_at-inode.result.now count _ few c.in-Runs.ensures.count,
      (replicate count 0, c.in-Runs.ensures.ready (replicate count 0) h begins.2 (omega (arith, length-replicate {A = ℕ} count 0))),
    )

pub returns-in-Is-clause-part : goal.returns-in-Is-clause-part
returns-in-Is-clause-part c sizes path offset begins =
    let f = c.locked_file-file in
    let h = c.args.hand.now in
    begun_is_part sizes path c.args.notes.now c.args.number c.args.fd offset c.args.count h begins.0 begins.4 f.result c.record_at-inode.result.now (λ (d : Dinode). Ret (filled_to c.in-Is.count path))
    f.ensures.seat f.ensures.fd (f.ensures.offset offset begins.3) c.record_at-inode.ensures (c.in-Is.ensures.program path h)

pub returns-in-Is-clause-fills : goal.returns-in-Is-clause-fills
returns-in-Is-clause-fills c path =
    let h = c.args.hand.now in
    begun_fills path c.args.count c.locked_file-file.result h c.record_at-inode.result.now (λ (d : Dinode). Ret (filled_to c.in-Is.count path)) c.record_at-inode.ensures (c.in-Is.ensures.program path h)
