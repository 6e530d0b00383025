use Rattle.image_tree.proofs.Lemmas.{◌∙◌, ◌<◌, sym, ℕ, List, sizes_of, gathered, last, named_in, further_in, parent_of, names_of, further_names_of, children_of, free_count, table_at}
use Rattle.damage_places.proofs.InodeLemmas.{count_here, node_here}
use Rattle.damage_places.proofs.counts.count_fault.Goals as goal

pub returns-then-is_free-clause-fault : goal.returns-then-is_free-clause-fault
returns-then-is_free-clause-fault g c =
    free_count c.args.layout.now.version (g.D.Device.contents c.args.device.now) c.args.i c.in_ok-inode.inode c.in_ok-inode.ensures.inode (sym c.is_free.ensures ∙ c.if-is_free.true)

pub returns-clause-fault : goal.returns-clause-fault
returns-clause-fault g c =
    let disk : List (List ℕ) = g.D.Device.contents c.args.device.now in
    let v = c.args.layout.now.version in
    let i : ℕ = c.args.i in
    let n : ℕ = (sizes_of disk).ninodes in
    let bound : i < n = rw (← c.requires.layout.sizes) c.requires.bound in
    let links = c.requires.links in
    let node = node_here disk c.args.layout.now i c.in_ok-inode.inode c.requires.layout c.requires.low c.requires.bound c.in_ok-inode.ensures.inode (sym c.is_free.ensures ∙ c.if-is_free.false) in
    count_here v disk i c.in_ok-inode.inode c.miscounted.result c.in_ok-inode.ensures.inode node
    (c.miscounted.ensures (names_of v disk i) (further_names_of v disk i) (children_of v disk i)
    (table_at c.args.links.now.names.items (gathered (named_in v disk) (last disk)) i n c.index.result.now links.names links.names_length bound c.index.ensures)
    (table_at c.args.links.now.further.items (gathered (further_in v disk) (last disk)) i n c.index-2.result.now links.further links.further_length bound c.index-2.ensures)
    (table_at c.args.links.now.children.items (gathered (parent_of v disk) (last disk)) i n c.index-3.result.now links.children links.children_length bound c.index-3.ensures))
