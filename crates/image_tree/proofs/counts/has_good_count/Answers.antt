use Rattle.image_tree.proofs.Lemmas.{◌∙◌, ◌<◌, sym, ℕ, List, sizes_of, gathered, last, named_in, further_in, parent_of, names_of, further_names_of, children_of, held, free_count, table_at, count_told}
use Rattle.image_tree.proofs.counts.has_good_count.Goals as goal

pub returns-then-is_free-clause-good : goal.returns-then-is_free-clause-good
returns-then-is_free-clause-good g c =
    held _ (free_count c.args.layout.now.version (g.D.Device.contents c.args.device.now) c.args.i c.in_ok-inode.inode c.in_ok-inode.ensures.inode (sym c.is_free.ensures ∙ c.if-is_free.true))

pub returns-clause-good : goal.returns-clause-good
returns-clause-good g c =
    let disk : List (List ℕ) = g.D.Device.contents c.args.device.now in
    let i : ℕ = c.args.i in
    let n : ℕ = (sizes_of disk).ninodes in
    let bound : i < n = rw (← c.requires.layout.sizes) c.requires.bound in
    let links = c.requires.links in
    count_told disk c.args.layout.now i c.in_ok-inode.inode c.is_good_count.result c.requires.layout c.requires.low c.requires.bound c.in_ok-inode.ensures.inode
    (sym c.is_free.ensures ∙ c.if-is_free.false)
    (c.is_good_count.ensures (names_of c.args.layout.now.version disk i) (further_names_of c.args.layout.now.version disk i) (children_of c.args.layout.now.version disk i)
    (table_at c.args.links.now.names.items (gathered (named_in c.args.layout.now.version disk) (last disk)) i n c.index.result.now links.names links.names_length bound c.index.ensures)
    (table_at c.args.links.now.further.items (gathered (further_in c.args.layout.now.version disk) (last disk)) i n c.index-2.result.now links.further links.further_length bound c.index-2.ensures)
    (table_at c.args.links.now.children.items (gathered (parent_of c.args.layout.now.version disk) (last disk)) i n c.index-3.result.now links.children links.children_length bound c.index-3.ensures))
