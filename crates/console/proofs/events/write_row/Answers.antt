use Rattle.console.proofs.Lemmas.{tells_five}
use Rattle.console.proofs.events.write_row.Goals as goal

pub returns : goal.returns
returns g c = tells_five _ _ _ _ _ _ c.writeln.result _ _ _ _ _ c.in_ok-write_number.ensures c.in_ok-write_spaces.ensures c.in_ok-write_mark.ensures c.in_ok-write_cell.ensures c.writeln.ensures.bytes
