use Rattle.image_tree.proofs.Lemmas.{◌∙◌, ℕ, List, refl, ap, rules, none, calls_after, inode_of, shape_none, shape_more}
use Rattle.image_tree.proofs.shape.find_shape.Goals as goal

pub loop-i-init : goal.loop-i-init
loop-i-init g c = (refl, refl, shape_none (g.D.Device.contents c.args.device.now), none)

pub loop-i-preserved : goal.loop-i-preserved
loop-i-preserved g c =
    let disk : List (List ℕ) = g.D.Device.contents c.args.device.now in
    let few = c.count_blocks-blocks.ensures.few in (
      c.in_ok-numbers.ensures.device.contents ∙ c.in_ok-inode.ensures.device.contents ∙ c.loop-i.invariant.0,
      c.in_ok-numbers.ensures.device.faults ∙ c.in_ok-inode.ensures.device.faults ∙ c.loop-i.invariant.1,
      shape_more disk (g.D.Device.contents c.load_inode.new.device) c.args.layout.now c.loop-i.i c.in_ok-inode.inode c.as_slice.result.now c.in_ok-numbers.numbers.items c.loop-i.live
          c.loop-i.orphans c.loop-i.blocks c.count_live-live.result c.count_orphan-orphans.result c.count_blocks-blocks.result c.requires.layout c.loop-i.auto.i c.loop-i-test.true
          (c.in_ok-inode.ensures.inode ∙ ap (λ (d : List (List ℕ)). inode_of d c.loop-i.i) c.loop-i.invariant.0)
          (c.in_ok-inode.ensures.device.contents ∙ c.loop-i.invariant.0) c.as_slice.ensures.value c.in_ok-numbers.ensures.numbers (search rules) c.count_live-live.ensures c.count_orphan-orphans.ensures
          c.count_blocks-blocks.ensures.blocks (search rules) c.loop-i.invariant.2,
      calls_after (calls_after c.loop-i.invariant.3 c.in_ok-inode.ensures.calls) c.in_ok-numbers.ensures.calls,
    )
