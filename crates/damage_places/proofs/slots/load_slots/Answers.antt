use Rattle.image_tree.proofs.Lemmas.{◌∙◌, sym, refl, first_slots-none, first_slots-more}
use Rattle.damage_places.proofs.slots.load_slots.Goals as goal

pub loop-s-init : goal.loop-s-init
loop-s-init g c = (refl, refl, c.new-slots.ensures.items ∙ sym (first_slots-none c.args.layout.now.version (g.D.Device.contents c.args.device.now) c.args.inode.now))

pub loop-s-preserved : goal.loop-s-preserved
loop-s-preserved g c = (
  c.in_ok-slot.ensures.device.contents ∙ c.loop-s.invariant.0,
  c.in_ok-slot.ensures.device.faults ∙ c.loop-s.invariant.1,
  first_slots-more c.args.layout.now.version (g.D.Device.contents c.args.device.now) (g.D.Device.contents c.loop-s.device) c.args.inode.now c.args.numbers.now c.loop-s.s c.loop-s.slots.items
      c.push.new.items.items c.in_ok-slot.slot c.loop-s.invariant.0 c.requires.numbers c.in_ok-slot.ensures.slot c.loop-s.invariant.2 c.in_ok-push.ensures,
)
