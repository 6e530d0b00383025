use Rattle.std.proofs.Common.{rules}
use Rattle.image_reports.specs.Vocabulary.{blocks_of}
use Rattle.image_reports.proofs.Counting.{tells_usage}
use Rattle.image_reports.proofs.usage.write_usage.Goals as goal

pub returns-clause-tells : goal.returns-clause-tells
returns-clause-tells g c =
    tells_usage (blocks_of c.args.image.items) c.in_ok-usage.usage (g.W.Write.contents c.args.out.now) (g.W.Write.contents c.write_lines.new.out) c.map_err.result
    c.in_ok-usage.ensures.0 c.in_ok-usage.ensures.1 (search rules)
