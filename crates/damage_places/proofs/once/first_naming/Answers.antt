use Rattle.image_tree.proofs.Lemmas.{◌∙◌, ap, ℕ, List, numbers_by, take}
use Rattle.damage_places.proofs.PlaceLemmas.{first_none}
use Rattle.damage_places.proofs.RepeatLemmas.{named_somewhere}
use Rattle.damage_places.proofs.once.first_naming.Goals as goal

pub returns-in-None-clause-naming : goal.returns-in-None-clause-naming
returns-in-None-clause-naming g c =
    let disk : List (List ℕ) = g.D.Device.contents c.args.device.now in
    let below = first_none c.in_ok-below.below _ _ c.in_default.is c.in_ok-below.ensures.naming in
    absurd (named_somewhere disk c.args.b c.args.second (take c.args.second.place c.as_slice.result.now) c.requires.repeat
    (ap (take c.args.second.place)
    (c.as_slice.ensures.value ∙ c.in_ok-numbers.ensures.numbers ∙ ap (λ (d : List (List ℕ)). numbers_by d c.args.second.inode) c.in_ok-below.ensures.device.contents))
    below c.in-None.ensures)
