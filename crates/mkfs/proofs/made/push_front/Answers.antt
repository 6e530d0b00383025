use Rattle.fs_layout.specs.Widths.{block_len}
use Rattle.mkfs.proofs.Lemmas.{◌++◌, ◌∙◌, ℕ, List, ap, replicate, IfOk-equal, Super, spell_super, super_for, padded, front-parts}
use Rattle.mkfs.proofs.made.push_front.Goals as goal

pub returns : goal.returns
returns c =
    let old : List ℕ = c.args.image.now.items in
    let block : Super → List ℕ = λ s. padded block_len (spell_super s) in
    IfOk-equal c.push_many-2.result _ _ _ c.push_many-2.ensures
    (ap (λ (xs : List ℕ). xs ++ replicate 31744 0)
    (c.in_ok-push_super.ensures ∙ ap (λ (s : Super). c.push_many.new.image.items ++ block s) c.super_for.ensures
    ∙ ap (λ (xs : List ℕ). xs ++ block (super_for c.args.version c.args.size c.args.ninodes)) c.in_ok-push_many.ensures)
    ∙ front-parts c.args.version old c.args.size c.args.ninodes)
