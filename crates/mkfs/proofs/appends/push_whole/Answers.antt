use Rattle.fs_layout.specs.Widths.{block_len}
use Rattle.mkfs.proofs.Lemmas.{◌-◌, ◌%◌, ◌++◌, List, ℕ, length, replicate, ap, ◌∙◌, refl, append_assoc, IfOk-equal, whole-missing}
use Rattle.mkfs.proofs.appends.push_whole.Goals as goal

pub returns : goal.returns
returns c =
    let m : ℕ = (block_len - length c.args.bytes.now % block_len) % block_len in
    IfOk-equal c.push_many.result _ _ _ c.push_many.ensures
    (ap (λ (xs : List ℕ). xs ++ replicate m 0) c.in_ok-extend_from_slice.ensures.items
    ∙ append_assoc c.args.image.now.items c.args.bytes.now (replicate m 0)
    ∙ ap (λ (xs : List ℕ). c.args.image.now.items ++ xs) (whole-missing c.args.bytes.now m refl))
