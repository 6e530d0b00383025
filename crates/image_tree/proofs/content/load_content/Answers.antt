use Rattle.image_tree.proofs.Lemmas.{◌∙◌, sym, refl, none, calls_after, front_blocks-none, front_blocks-more}
use Rattle.image_tree.proofs.content.load_content.Goals as goal

pub loop-k-init : goal.loop-k-init
loop-k-init g c = (refl, refl, c.new-bytes.ensures.items ∙ sym (front_blocks-none (g.D.Device.contents c.args.device.now) c.args.inode.now), none)

pub loop-k-preserved : goal.loop-k-preserved
loop-k-preserved g c = (
  c.in_ok-load.ensures.device.contents ∙ c.loop-k.invariant.0,
  c.in_ok-load.ensures.device.faults ∙ c.loop-k.invariant.1,
  front_blocks-more (g.D.Device.contents c.args.device.now) (g.D.Device.contents c.loop-k.device) c.args.inode.now c.args.numbers.now c.loop-k.k c.block_number.result
      c.loop-k.bytes.items c.append_block.new.bytes.items c.load.new.to c.loop-k.invariant.0 c.requires.numbers c.block_number.ensures c.in_ok-load.ensures.read c.loop-k.invariant.2
      c.in_ok-append_block.ensures,
  calls_after c.loop-k.invariant.3 c.in_ok-load.ensures.calls,
)
