use Rattle.mkfs.proofs.Lemmas.{◌-◌, ◌^◌, ◌*◌, ◌/◌, ◌%◌, ◌++◌, ◌∙◌, ap, List, [], ◌∷◌, ℕ, replicate, IfOk-equal, bitmap-parts}
use Rattle.mkfs.proofs.parts.push_bitmap.Goals as goal

pub returns : goal.returns
returns c =
    let used : ℕ = c.args.used in
    let last : List ℕ = (1 * 2 ^ (used % 8) % 256 - 1) ∷ [] in
    IfOk-equal c.push_many-2.result _ _ _ c.push_many-2.ensures
    (ap (λ (xs : List ℕ). xs ++ replicate (1023 - used / 8) 0)
    (c.in_ok-extend_from_slice.ensures.items ∙ ap (λ (xs : List ℕ). xs ++ last) c.in_ok-push_many.ensures)
    ∙ bitmap-parts c.args.image.now.items used)
