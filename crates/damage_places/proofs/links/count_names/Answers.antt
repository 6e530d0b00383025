use Rattle.image_tree.proofs.Lemmas.{◌≡◌, ◌∙◌, ℕ, ◌-◌, ◌≤◌, List, refl, named_in, further_in, proper_in, gathered, tallies_more, tallies_none, named_loaded, further_loaded, proper_loaded}
use Rattle.damage_places.proofs.links.count_names.Goals as goal

pub loop-i-init : goal.loop-i-init
loop-i-init g c =
    let disk : List (List ℕ) = g.D.Device.contents c.args.device.now in (
      refl,
      refl,
      tallies_none (named_in c.args.layout.now.version disk) c.args.names.now c.requires.names,
      tallies_none (further_in c.args.layout.now.version disk) c.args.further.now c.requires.further,
      tallies_none (proper_in c.args.layout.now.version disk) c.args.proper.now c.requires.proper,
    )

pub loop-i-preserved : goal.loop-i-preserved
loop-i-preserved g c =
    let disk : List (List ℕ) = g.D.Device.contents c.args.device.now in
    let now : List (List ℕ) = g.D.Device.contents c.loop-i.device in
    let i : ℕ = c.loop-i.i in
    let same : now ≡ disk = c.loop-i.invariant.0 in
    let low : 1 ≤ i = c.loop-i.auto.i in (
      c.in_ok-slots.ensures.device.contents ∙ same,
      c.in_ok-slots.ensures.device.faults ∙ c.loop-i.invariant.1,
      tallies_more (named_in c.args.layout.now.version disk) c.tally_slots.new.table i _ low
          (named_loaded c.args.layout.now.version disk now i c.as_slice.result.now c.in_ok-slots.slots.items same c.as_slice.ensures.value c.in_ok-slots.ensures.slots)
          (c.tally_slots.ensures (gathered (named_in c.args.layout.now.version disk) (i - 1)) c.loop-i.invariant.2),
      tallies_more (further_in c.args.layout.now.version disk) c.tally_slots-in-loop-i.new.table i _ low
          (further_loaded c.args.layout.now.version disk now i c.past_dots.result.now c.as_slice-in-loop-i.result.now c.in_ok-slots.slots.items same c.past_dots.ensures c.as_slice-in-loop-i.ensures.value
          c.in_ok-slots.ensures.slots)
          (c.tally_slots-in-loop-i.ensures (gathered (further_in c.args.layout.now.version disk) (i - 1)) c.loop-i.invariant.3),
      tallies_more (proper_in c.args.layout.now.version disk) c.tally_proper.new.table i _ low
          (proper_loaded c.args.layout.now.version disk now i c.args.ups.now c.past_dots-in-loop-i.result.now c.as_slice-in-loop-i-2.result.now c.in_ok-slots.slots.items c.requires.ups same
          c.past_dots-in-loop-i.ensures c.as_slice-in-loop-i-2.ensures.value c.in_ok-slots.ensures.slots)
          (c.tally_proper.ensures (gathered (proper_in c.args.layout.now.version disk) (i - 1)) c.loop-i.invariant.4),
    )
