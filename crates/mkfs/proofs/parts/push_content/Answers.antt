use Rattle.image_versions.specs.Shared.{addresses, direct, numbers_per_block}
use Rattle.mkfs.proofs.Lemmas.{◌++◌, ◌∙◌, ◌+◌, ◌-◌, ap, sym, arith, List, ℕ, range_with_len, IfOk-equal, spell_numbers, padded, whole, node_bytes-small, content-parts}
use Rattle.mkfs.proofs.parts.push_content.Goals as goal

pub returns-then-content-le-DIRECT_LEN : goal.returns-then-content-le-DIRECT_LEN
returns-then-content-le-DIRECT_LEN c =
    IfOk-equal c.push_whole.result _ _ _ c.push_whole.ensures
    (ap (λ (xs : List ℕ). c.args.image.now.items ++ xs) (sym (node_bytes-small c.args.first c.args.content.now (omega arith))))

pub returns : goal.returns
returns c =
    let old : List ℕ = c.args.image.now.items in
    let first : ℕ = c.args.first in
    let n : ℕ = c.blocks_for-numbers.result in
    let numbers : List ℕ = spell_numbers (padded numbers_per_block (range_with_len (first + addresses) (n - direct))) in
    let front : List ℕ = c.split_at.result.0.now in
    let rest : List ℕ = c.split_at.result.1.now in
    IfOk-equal c.push_whole-3.result _ _ _ c.push_whole-3.ensures
    (ap (λ (xs : List ℕ). xs ++ whole rest) (c.in_ok-push_numbers.ensures ∙ ap (λ (xs : List ℕ). xs ++ numbers) c.in_ok-push_whole.ensures)
    ∙ content-parts old c.args.content.now front rest first n (omega arith) c.split_at.ensures.front c.split_at.ensures.back c.blocks_for-numbers.ensures)
