use Rattle.image_tree.proofs.Lemmas.{◌≡◌, ◌∙◌, ℕ, List, ap, AreFreed, block_at, recovered, sizes_of, IsOutsideLog, trees_see_recovered, on_ok, on_ok_any, freed_seen, named_seen, well_seen}
use Rattle.image_tree.proofs.settling.settle.Goals as goal

pub returns-in_err-install-clause-well : goal.returns-in_err-install-clause-well
returns-in_err-install-clause-well g c =
    well_seen c.args.version (g.D.Device.contents c.args.device.now) (g.D.Device.contents c.install.new.device) c.install.ensures.view c.requires.well

pub returns-in_err-install-clause-tree : goal.returns-in_err-install-clause-tree
returns-in_err-install-clause-tree g c =
    trees_see_recovered c.args.version (g.D.Device.contents c.args.device.now) (g.D.Device.contents c.install.new.device) c.install.ensures.view c.requires.well

pub reclaim-requires-clause-well : goal.reclaim-requires-clause-well
reclaim-requires-clause-well g c =
    well_seen c.args.version (g.D.Device.contents c.args.device.now) (g.D.Device.contents c.install.new.device) c.install.ensures.view c.requires.well

pub returns-clause-tree : goal.returns-clause-tree
returns-clause-tree g c =
    c.reclaim.ensures.tree ∙ trees_see_recovered c.args.version (g.D.Device.contents c.args.device.now) (g.D.Device.contents c.install.new.device) c.install.ensures.view c.requires.well

pub returns-clause-freed : goal.returns-clause-freed
returns-clause-freed g c =
    let d : List (List ℕ) = g.D.Device.contents c.args.device.now in
    let e : List (List ℕ) = g.D.Device.contents c.install.new.device in
    let n : List (List ℕ) = g.D.Device.contents c.reclaim.new.device in
    on_ok c.reclaim.result (AreFreed e n) (AreFreed d n)
    (λ freed. freed_seen c.args.version d e c.install.ensures.view c.requires.well n freed) c.reclaim.ensures.freed

pub returns-clause-home : goal.returns-clause-home
returns-clause-home g c = λ all.
    let d : List (List ℕ) = g.D.Device.contents c.args.device.now in
    let e : List (List ℕ) = g.D.Device.contents c.install.new.device in
    let n : List (List ℕ) = g.D.Device.contents c.reclaim.new.device in
    let left : n ≡ e = c.reclaim.ensures.same (named_seen c.args.version d e c.install.ensures.view c.requires.well all) in
    on_ok_any c.reclaim.result ((b : ℕ) → IsOutsideLog (sizes_of d) b → block_at n b ≡ recovered d b)
    (λ b out. ap (λ (disk : List (List ℕ)). block_at disk b) left ∙ c.in_ok-install.ensures.home b out)
