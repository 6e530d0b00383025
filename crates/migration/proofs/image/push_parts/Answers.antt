use Rattle.std.proofs.Common.{◌≡◌, ◌∙◌, ap, ℕ, ◌-◌, ◌*◌, List, ◌++◌, map, replicate}
use Rattle.std.proofs.lemmas.Result.{IfOk-equal}
use Rattle.fs_layout.specs.Widths.{block_len}
use Rattle.migration.specs.Vocabulary.{bitmap, data_start}
use Rattle.migration.specs.Nodes.{Node, node_of}
use Rattle.migration.specs.Image.{data_from, inode_table, used_by}
use Rattle.migration.proofs.Steps.{image-parts}
use Rattle.migration.proofs.image.push_parts.Goals as goal

pub returns : goal.returns
returns c =
    let old : List ℕ = c.args.image.now.items in
    let nodes : List Node = map node_of c.args.nodes.now in
    let first : ℕ = data_start c.args.ninodes in
    let used : ℕ = c.used_blocks-used.result in
    let at : c.data_start-first.result ≡ first = c.data_start-first.ensures in
    let same : used ≡ used_by first nodes = c.used_blocks-used.ensures ∙ ap (λ (n : ℕ). used_by n nodes) at in
    IfOk-equal c.push_many.result _ _ _ c.push_many.ensures
    (ap (λ (xs : List ℕ). xs ++ replicate (block_len * (c.args.size - used)) 0)
    (c.in_ok-push_data.ensures
    ∙ ap (λ (n : ℕ). c.push_bitmap.new.image.items ++ data_from n nodes) at
    ∙ ap (λ (xs : List ℕ). xs ++ data_from first nodes)
    (c.in_ok-push_bitmap.ensures
    ∙ ap (λ (xs : List ℕ). xs ++ bitmap used) (c.in_ok-push_table.ensures ∙ ap (λ (xs : List ℕ). xs ++ inode_table c.args.ninodes first nodes) c.in_ok-push_front.ensures)))
    ∙ image-parts c.args.version old c.args.size c.args.ninodes used nodes same)
