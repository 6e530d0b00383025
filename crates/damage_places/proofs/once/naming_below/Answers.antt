use Rattle.image_tree.proofs.Lemmas.{◌∙◌, refl, ap, ℕ, List, numbers_by}
use Rattle.damage_places.proofs.RepeatLemmas.{none_more, none_yet}
use Rattle.damage_places.proofs.once.naming_below.Goals as goal

pub loop-i-init : goal.loop-i-init
loop-i-init g c = (refl, refl, none_yet (g.D.Device.contents c.args.device.now) c.args.b)

pub loop-i-preserved : goal.loop-i-preserved
loop-i-preserved g c =
    let disk : List (List ℕ) = g.D.Device.contents c.args.device.now in (
      c.in_ok-numbers.ensures.device.contents ∙ c.loop-i.invariant.0,
      c.in_ok-numbers.ensures.device.faults ∙ c.loop-i.invariant.1,
      none_more disk c.args.b c.loop-i.i c.as_slice.result.now c.loop-i.auto.i
          (c.as_slice.ensures.value ∙ c.in_ok-numbers.ensures.numbers ∙ ap (λ (d : List (List ℕ)). numbers_by d c.loop-i.i) c.loop-i.invariant.0) c.in_default.ensures
          c.loop-i.invariant.2,
    )
