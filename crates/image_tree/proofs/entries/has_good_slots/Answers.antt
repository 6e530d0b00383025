use Rattle.image_tree.proofs.Lemmas.{◌≡◌, ◌∙◌, subst, ℕ, ◌<◌, List, true, arith, calls_after, held, is_node, is_live_directory, slots_in, AreGoodSlots, directory_is, one_more}
use Rattle.image_tree.proofs.entries.has_good_slots.Goals as goal

pub loop-i-preserved : goal.loop-i-preserved
loop-i-preserved g c =
    let disk : List (List ℕ) = g.D.Device.contents c.args.device.now in
    let Good = λ (d : List (List ℕ)) (k : ℕ). is_live_directory d k ≡ true → AreGoodSlots (is_node d) k (slots_in c.args.layout.now.version d k) in
    let here : Good (g.D.Device.contents c.loop-i.device) c.loop-i.i = c.in_ok-good.ensures.good.0 c.if-not-good.false in (
      c.in_ok-good.ensures.device.contents ∙ c.loop-i.invariant.0,
      c.in_ok-good.ensures.device.faults ∙ c.loop-i.invariant.1,
      one_more (Good disk) c.loop-i.i c.loop-i.invariant.2 (subst (λ (d : List (List ℕ)). Good d c.loop-i.i) c.loop-i.invariant.0 here),
      calls_after c.loop-i.invariant.3 c.in_ok-good.ensures.calls,
    )

pub returns-clause-good : goal.returns-clause-good
returns-clause-good g c =
    held _ (λ i live.
    let is = directory_is (g.D.Device.contents c.args.device.now) i live in
    let bound : i < c.args.layout.now.sizes.ninodes = rw c.requires.layout.sizes is.bound in
    c.loop-i.invariant.2 i is.low (omega arith) live)
