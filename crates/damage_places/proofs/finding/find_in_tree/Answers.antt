use Rattle.image_tree.proofs.Lemmas.{◌∙◌, ℕ, List}
use Rattle.damage_places.proofs.PlaceLemmas.{counts_place, tree_passed}
use Rattle.damage_places.proofs.finding.find_in_tree.Goals as goal

pub returns-clause-place : goal.returns-clause-place
returns-clause-place g c =
    let disk : List (List ℕ) = g.D.Device.contents c.args.device.now in
    let v = c.args.layout.now.version in
    let same = c.in_ok-links.ensures.device.contents in
    counts_place v disk (g.D.Device.contents c.find_inode.new.device) c.in_ok-counts.counts (c.in_ok-tree.ensures.device.contents ∙ same) c.requires.passed
    (tree_passed v disk (g.D.Device.contents c.find_links.new.device) c.in_ok-tree.tree same c.requires.layout.good.0.0.1.1.few_inodes c.requires.passed.0.0.0.0.0.1 c.in_default.is
    c.in_ok-tree.ensures.place)
    c.in_ok-counts.ensures.place
