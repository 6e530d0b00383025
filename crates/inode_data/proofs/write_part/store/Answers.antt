use Rattle.inode_data.proofs.Lemmas.{stored_so}
use Rattle.inode_data.proofs.write_part.store.Goals as goal

pub returns-clause-program : goal.returns-clause-program
returns-clause-program c bytes h = stored_so c.args.writing.now c.args.so_far.now c.grown-inode.result c.new-store.result h (c.new-store.ensures.program h) c.grown-inode.ensures
