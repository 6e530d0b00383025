use Rattle.image_tree.proofs.Lemmas.{◌≡◌, ◌∙◌, ◌<◌, ap, sym, ℕ, List, sizes_of, gathered, get_or, last, further_in, proper_in, further_names_of, proper_in, up, no_directory, table_at}
use Rattle.image_tree.specs.Links.{proper_names_of}
use Rattle.image_tree.proofs.Vocabulary.{get_or_default}
use Rattle.damage_places.proofs.InodeLemmas.{live_here, reach_here, root_reached, tree_here}
use Rattle.damage_places.proofs.tree.tree_fault.Goals as goal

pub returns-then-not-is_live_directory-clause-fault : goal.returns-then-not-is_live_directory-clause-fault
returns-then-not-is_live_directory-clause-fault g c =
    λ t. absurd (no_directory (g.D.Device.contents c.args.device.now) c.args.i c.in_ok-inode.inode c.in_ok-inode.ensures.inode
    (sym c.is_live_directory.ensures ∙ c.if-not-is_live_directory.true) t)

pub returns-clause-fault : goal.returns-clause-fault
returns-clause-fault g c =
    let disk : List (List ℕ) = g.D.Device.contents c.args.device.now in
    let v = c.args.layout.now.version in
    let i : ℕ = c.args.i in
    let n : ℕ = (sizes_of disk).ninodes in
    let bound : i < n = rw (← c.requires.layout.sizes) c.requires.bound in
    let links = c.requires.links in
    let live = live_here disk c.args.layout.now i c.in_ok-inode.inode c.requires.layout c.requires.low c.requires.bound c.in_ok-inode.ensures.inode
    (sym c.is_live_directory.ensures ∙ c.if-not-is_live_directory.false) in
    let f : ℕ → ℕ = λ k. get_or c.as_slice-ups.result.now k 0 in
    let ups = c.as_slice-ups.ensures.value in
    let same : (k : ℕ) → f k ≡ up v disk k = λ k. ap (λ (xs : List ℕ). get_or xs k 0) ups ∙ links.ups.says k in
    let table = links.ups.length in
    let parent : c.index.result.now ≡ up v disk i = c.index.ensures ∙ get_or_default c.args.links.now.ups.items i c.index.result.now 0 (rw table bound) ∙ links.ups.says i in
    tree_here v disk i c.index.result.now c.reaches_root-reaches.result c.misplaced.result live parent (reach_here f (up v disk) i c.reaches_root-reaches.result same c.reaches_root-reaches.ensures)
    (c.misplaced.ensures (further_names_of v disk i) (proper_names_of v disk i)
    (table_at c.args.links.now.further.items (gathered (further_in v disk) (last disk)) i n c.index-2.result.now links.further links.further_length bound c.index-2.ensures)
    (table_at c.args.links.now.proper.items (gathered (proper_in v disk) (last disk)) i n c.index-3.result.now links.proper links.proper_length bound c.index-3.ensures)
    (root_reached f i c.reaches_root-reaches.result c.reaches_root-reaches.ensures))
