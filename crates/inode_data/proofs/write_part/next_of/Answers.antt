use Rattle.inode_data.proofs.Lemmas.{◌∙◌, Ret, locate_left, goes_on_so}
use Rattle.inode_data.proofs.write_part.next_of.Goals as goal

pub returns-in-Runs-clause-program : goal.returns-in-Runs-clause-program
returns-in-Runs-clause-program c bytes h = goes_on_so c.args.writing.now c.args.so_far.now bytes (locate_left c.in-Runs.locate h) c.requires.some (c.in-Runs.ensures.program h)

pub returns-in-Is-clause-program : goal.returns-in-Is-clause-program
returns-in-Is-clause-program c bytes h = c.found.ensures.program bytes h ∙ goes_on_so c.args.writing.now c.args.so_far.now bytes (Ret c.in-Is.located) c.requires.some (c.in-Is.ensures.program h)
