use Rattle.image_versions.specs.Shared.{largest_size}
use Rattle.mkfs.proofs.Lemmas.{rules, ◌≡◌, ◌≤◌, ◌∙◌, ℕ, List, sym, subst, length, data_start, names_of, contents_of, image_of, nodes_with, used_by, is-made, same-length, root_few, room}
use Rattle.mkfs.proofs.made.image_bytes.Goals as goal

pub push_parts-requires-clause-root : goal.push_parts-requires-clause-root
push_parts-requires-clause-root c =
    let is = c.as_slice.ensures.value ∙ c.in_ok-root.ensures in
    let few = root_few c.args.version c.args.size c.args.ninodes (names_of c.args.files.now) (contents_of c.args.files.now) (same-length c.args.files.now) c.requires in
    subst (λ (root : List ℕ). length root ≤ largest_size) (sym is) few

pub push_parts-requires-clause-blocks : goal.push_parts-requires-clause-blocks
push_parts-requires-clause-blocks c =
    let contents : List (List ℕ) = contents_of c.args.files.now in
    let is = c.as_slice.ensures.value ∙ c.in_ok-root.ensures in
    let enough = room c.args.version c.args.size c.args.ninodes (names_of c.args.files.now) contents (same-length c.args.files.now) c.requires in
    subst (λ (root : List ℕ). used_by (data_start c.args.ninodes) (nodes_with root contents) ≤ c.args.size) (sym is) enough

pub returns : goal.returns
returns c =
    let bytes : c.push_parts.new.image.items ≡ image_of c.args.version c.args.size c.args.ninodes (names_of c.args.files.now) (contents_of c.args.files.now) = search rules in
    is-made c.args.version c.args.size c.args.ninodes c.args.files.now c.push_parts.new.image.items c.requires bytes
