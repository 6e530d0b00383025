use Rattle.image_versions.specs.Shared.{numbers_per_block}
use Rattle.mkfs.proofs.Lemmas.{◌++◌, ◌∙◌, ap, List, ℕ, spell_numbers, range-padded, ok_items}
use Rattle.mkfs.proofs.parts.push_numbers.Goals as goal

pub returns : goal.returns
returns c =
    ok_items c.extend_from_slice.result _ _ _ _ c.extend_from_slice.ensures.items
    (ap (λ (xs : List ℕ). c.args.image.now.items ++ xs)
    (c.write_numbers.ensures.bytes ∙ ap spell_numbers (c.set_rising.ensures ∙ range-padded numbers_per_block c.args.count c.args.first)))
