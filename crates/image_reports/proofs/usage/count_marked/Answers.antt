use Rattle.std.proofs.Common.{rules, arith, ◌≡◌, ◌≤◌, ◌-◌, cond}
use Rattle.image_reports.specs.Usage.{is_marked_data}
use Rattle.image_reports.proofs.Counting.{none_counted, one_counted, at_most_one}
use Rattle.image_reports.proofs.usage.count_marked.Goals as goal

pub loop-b-init : goal.loop-b-init
loop-b-init g c = record { counted = none_counted (is_marked_data (g.D.Device.contents c.args.device.now)); few = omega arith }

pub loop-b-preserved : goal.loop-b-preserved
loop-b-preserved g c =
    let one : c.count_mark-marked.result ≡ cond (is_marked_data (g.D.Device.contents c.args.device.now) c.loop-b.b) 1 0 = search rules in
    let few : c.count_mark-marked.result ≤ 1 = at_most_one c.count_mark-marked.result _ one in
    let had : c.loop-b.marked ≤ c.loop-b.b - 1 = c.loop-b.invariant.few in
    let low : 1 ≤ c.loop-b.b = c.loop-b.auto.b in
    record {
      counted = one_counted (is_marked_data (g.D.Device.contents c.args.device.now)) c.loop-b.b c.loop-b.marked c.count_mark-marked.result low c.loop-b.invariant.counted one;
      few = omega arith;
    }
