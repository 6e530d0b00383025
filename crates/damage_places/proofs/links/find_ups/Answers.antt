use Rattle.image_tree.proofs.Lemmas.{◌∙◌, refl, arith, common_steps, in_order, up-one, up_table_is}
use Rattle.damage_places.proofs.links.find_ups.Goals as goal

pub loop-i-init : goal.loop-i-init
loop-i-init g c =
    let one = up-one c.args.layout.now.version (g.D.Device.contents c.args.device.now) c.new-ups.result.items c.push.new.items.items c.new-ups.ensures.items c.in_ok-push.ensures in
    (refl, refl, one.0, one.1)

pub loop-i-preserved : goal.loop-i-preserved
loop-i-preserved g c = (
  c.in_ok-slots.ensures.device.contents ∙ c.loop-i.invariant.0,
  c.in_ok-slots.ensures.device.faults ∙ c.loop-i.invariant.1,
  grind (arith, common_steps),
  grind (arith, common_steps),
)

pub returns-clause-table : goal.returns-clause-table
returns-clause-table g c =
    let two = (in_order (g.D.Device.contents c.args.device.now) c.args.layout.now c.requires.layout).two in
    up_table_is (g.D.Device.contents c.args.device.now) c.args.layout.now c.loop-i.i c.loop-i.ups.items c.requires.layout (omega arith) c.loop-i.invariant.2 c.loop-i.invariant.3
