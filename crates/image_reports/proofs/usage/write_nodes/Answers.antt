use Rattle.std.proofs.Common.{append_assoc}
use Rattle.image_reports.proofs.usage.write_nodes.Goals as goal

pub returns : goal.returns
returns g c = simp append_assoc c.write.ensures.bytes
