use Rattle.image_tree.proofs.Lemmas.{ℕ, List}
use Rattle.damage_places.proofs.PlaceLemmas.{sizes_passed, slots_place}
use Rattle.damage_places.proofs.finding.find_in_nodes.Goals as goal

pub returns-clause-place : goal.returns-clause-place
returns-clause-place g c =
    let disk : List (List ℕ) = g.D.Device.contents c.args.device.now in
    let v = c.args.layout.now.version in
    slots_place v disk (g.D.Device.contents c.find_inode.new.device) c.in_ok-slots.slots c.in_ok-sizes.ensures.device.contents c.requires.passed
    (sizes_passed v disk c.in_ok-sizes.sizes c.in_default.is c.in_ok-sizes.ensures.place) c.in_ok-slots.ensures.place
