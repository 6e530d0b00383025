use Rattle.std.proofs.Common.{append_assoc}
use Rattle.image_reports.proofs.fields.write_sizes.Goals as goal

pub returns : goal.returns
returns g c = simp append_assoc c.writeln.ensures.bytes
