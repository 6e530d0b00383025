use Rattle.image_tree.proofs.Lemmas.{Version, ◌≡◌, subst, ℕ, List, IsViewOf, checks_see_recovered, trees_see_recovered}
use Rattle.image_tree.proofs.recovery.recover.Goals as goal

from_same : (v w : Version) (first old new : List (List ℕ)) → w ≡ v → old ≡ first → IsViewOf w old new → IsViewOf v first new
from_same v w first old new version same view = subst (λ (x : List (List ℕ)). IsViewOf v x new) same (subst (λ (u : Version). IsViewOf u old new) version view)

pub returns-in_err-install-clause-well : goal.returns-in_err-install-clause-well
returns-in_err-install-clause-well g c well =
    checks_see_recovered c.args.version (g.D.Device.contents c.args.device.now) (g.D.Device.contents c.install.new.device)
    (from_same c.args.version c.in_ok-layout.layout.version _ (g.D.Device.contents c.find_layout.new.device) _ c.in_ok-layout.ensures.judges.1 c.find_layout.ensures.device.contents (record { sizes = c.install.ensures.sizes; good = c.install.ensures.good; same = c.install.ensures.kept })) well

pub returns-in_err-install-clause-tree : goal.returns-in_err-install-clause-tree
returns-in_err-install-clause-tree g c well =
    trees_see_recovered c.args.version (g.D.Device.contents c.args.device.now) (g.D.Device.contents c.install.new.device)
    (from_same c.args.version c.in_ok-layout.layout.version _ (g.D.Device.contents c.find_layout.new.device) _ c.in_ok-layout.ensures.judges.1 c.find_layout.ensures.device.contents (record { sizes = c.install.ensures.sizes; good = c.install.ensures.good; same = c.install.ensures.kept })) well

pub returns-clause-well : goal.returns-clause-well
returns-clause-well g c well =
    checks_see_recovered c.args.version (g.D.Device.contents c.args.device.now) (g.D.Device.contents c.install.new.device)
    (from_same c.args.version c.in_ok-layout.layout.version _ (g.D.Device.contents c.find_layout.new.device) _ c.in_ok-layout.ensures.judges.1 c.find_layout.ensures.device.contents (record { sizes = c.install.ensures.sizes; good = c.install.ensures.good; same = c.install.ensures.kept })) well

pub returns-clause-tree : goal.returns-clause-tree
returns-clause-tree g c well =
    trees_see_recovered c.args.version (g.D.Device.contents c.args.device.now) (g.D.Device.contents c.install.new.device)
    (from_same c.args.version c.in_ok-layout.layout.version _ (g.D.Device.contents c.find_layout.new.device) _ c.in_ok-layout.ensures.judges.1 c.find_layout.ensures.device.contents (record { sizes = c.install.ensures.sizes; good = c.install.ensures.good; same = c.install.ensures.kept })) well
