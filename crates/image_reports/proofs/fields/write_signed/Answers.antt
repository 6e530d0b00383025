use Rattle.std.proofs.Common.{rules, append_assoc, to_z-of_z}
use Rattle.image_reports.proofs.fields.write_signed.Goals as goal

pub returns : goal.returns
returns g c = search (rules, append_assoc, to_z-of_z c.ranges.value)
