use Rattle.run_laws.proofs.ShortWrites.{short_writes_end}
use Rattle.run_laws.proofs.short_writes_end_before_missing.Goals as goal

pub returns : goal.returns
returns c = short_writes_end
