use Rattle.std.proofs.Common.{rules}
use Rattle.image_reports.specs.Vocabulary.{blocks_of}
use Rattle.image_reports.proofs.Counting.{prints_log}
use Rattle.image_reports.proofs.dump.dump_log.Goals as goal

pub returns-clause-prints : goal.returns-clause-prints
returns-clause-prints g c =
    prints_log (blocks_of c.args.image.items) c.in_ok-layout.layout.head.blocks.items (g.W.Write.contents c.args.out.now) (g.W.Write.contents c.write_log.new.out) c.map_err.result
    c.in_ok-layout.ensures.0 c.in_ok-layout.ensures.1.blocks (search rules)
