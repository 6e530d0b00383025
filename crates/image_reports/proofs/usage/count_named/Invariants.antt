use Rattle.std.proofs.Common.{◌≡◌, ◌-◌, ◌*◌, ◌≤◌, length}
use Rattle.image_reports.specs.Vocabulary.{gathered}
use Rattle.image_reports.specs.Usage.{blocks_by}
use Rattle.image_reports.proofs.usage.count_named.Given as goal

abbrev pub invariant-loop-i : goal.invariant-loop-i
invariant-loop-i g l = record {
  same : g.D.Device.contents l.device ≡ g.D.Device.contents l.fn.device;
  counted : l.blocks ≡ length (gathered (blocks_by (g.D.Device.contents l.fn.device) l.live) (l.i - 1));
  few : l.blocks ≤ 269 * (l.i - 1);
}
