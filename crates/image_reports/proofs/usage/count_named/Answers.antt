use Rattle.std.proofs.Common.{arith, ◌≡◌, ◌≤◌, ◌-◌, ◌*◌, ◌∙◌, ap, refl, length}
use Rattle.image_reports.specs.Usage.{blocks_by}
use Rattle.image_reports.proofs.Counting.{none_gathered, one_gathered}
use Rattle.image_reports.proofs.usage.count_named.Goals as goal

pub loop-i-init : goal.loop-i-init
loop-i-init g c = record { same = refl; counted = none_gathered (blocks_by (g.D.Device.contents c.args.device.now) c.args.live); few = omega arith }

pub loop-i-preserved : goal.loop-i-preserved
loop-i-preserved g c =
    let one : c.in_ok-blocks.field-0 ≡ length (blocks_by (g.D.Device.contents c.args.device.now) c.args.live c.loop-i.i) =
    c.in_ok-blocks.ensures.blocks ∙ ap (λ disk. length (blocks_by disk c.args.live c.loop-i.i)) c.loop-i.invariant.same in
    let few : c.in_ok-blocks.field-0 ≤ 269 = c.in_ok-blocks.ensures.few in
    let had : c.loop-i.blocks ≤ 269 * (c.loop-i.i - 1) = c.loop-i.invariant.few in
    let low : 1 ≤ c.loop-i.i = c.loop-i.auto.i in
    record {
      same = c.in_ok-blocks.ensures.device ∙ c.loop-i.invariant.same;
      counted = one_gathered (blocks_by (g.D.Device.contents c.args.device.now) c.args.live) c.loop-i.i c.loop-i.blocks c.in_ok-blocks.field-0 low c.loop-i.invariant.counted one;
      few = omega arith;
    }
