use Rattle.inode_data.proofs.Lemmas.{arith, block_left, filled_in, next_read}
use Rattle.inode_data.proofs.read_part.next.Goals as goal

pub returns-clause-program : goal.returns-clause-program
returns-clause-program c bytes h =
    let r = c.args.reading.now in
    next_read r.left c.args.inode.now r.from r.upto (filled_in r bytes) (block_left c.new-fetch.result h) c.if-reading-eq0.false (c.new-fetch.ensures.program h)

pub returns-clause-ready : goal.returns-clause-ready
returns-clause-ready c bytes h none room = (record { within = c.requires.within; blocks = omega arith }, room, c.new-fetch.ensures.ready h none)
