use Rattle.std.proofs.Common.{◌≡◌, ◌-◌, ◌≤◌}
use Rattle.image_reports.specs.Vocabulary.{count_upto}
use Rattle.image_reports.specs.Usage.{is_marked_data}
use Rattle.image_reports.proofs.usage.count_marked.Given as goal

abbrev pub invariant-loop-b : goal.invariant-loop-b
invariant-loop-b g l = record {
  counted : l.marked ≡ count_upto (is_marked_data (g.D.Device.contents l.fn.device)) (l.b - 1);
  few : l.marked ≤ l.b - 1;
}
