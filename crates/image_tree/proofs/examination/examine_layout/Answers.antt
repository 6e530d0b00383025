use Rattle.image_tree.proofs.Lemmas.{Version, ◌≡◌, ◌∙◌, sym, subst, ℕ, List, iff_false, HasGoodCounts, IsLinks, IsOneTree}
use Rattle.image_tree.proofs.examination.examine_layout.Goals as goal

pub returns-then-not-branch-2-clause-judges : goal.returns-then-not-branch-2-clause-judges
returns-then-not-branch-2-clause-judges g c =
    let disk : List (List ℕ) = g.D.Device.contents c.args.device.now in
    let own : c.in_ok-layout.layout.version ≡ c.args.version = c.in_ok-layout.ensures.judges.1 in
    let same : g.D.Device.contents c.examine_slots.new.device ≡ disk = c.in_ok-layout.ensures.device.contents in
    let links : IsLinks c.in_ok-layout.layout.version disk c.in_ok-links.links = subst (λ (d : List (List ℕ)). IsLinks c.in_ok-layout.layout.version d c.in_ok-links.links) same c.in_ok-links.ensures.links in
    let links_own : IsLinks c.args.version disk c.in_ok-links.links = subst (λ (v : Version). IsLinks v disk c.in_ok-links.links) own links in
    let tree : IsOneTree c.args.version disk = (c.in_ok-is_one_tree.ensures c.args.version disk links_own c.in_ok-layout.ensures.judges.2.1).0 c.if-not-branch.false in
    let later : g.D.Device.contents c.find_links.new.device ≡ disk = c.in_ok-links.ensures.device.contents ∙ same in
    let bad : HasGoodCounts c.in_ok-layout.layout.version (g.D.Device.contents c.find_links.new.device) → ⊥ = iff_false c.in_ok-has_good_counts.ensures.good c.if-not-branch-2.true in (
      (c.in_ok-layout.ensures.judges.2, tree),
      λ good. bad (subst (λ (v : Version). HasGoodCounts v (g.D.Device.contents c.find_links.new.device)) (sym own) (subst (λ (d : List (List ℕ)). HasGoodCounts c.args.version d) (sym later) good)),
    )

pub returns-clause-judges : goal.returns-clause-judges
returns-clause-judges g c =
    let disk : List (List ℕ) = g.D.Device.contents c.args.device.now in
    let own : c.in_ok-layout.layout.version ≡ c.args.version = c.in_ok-layout.ensures.judges.1 in
    let same : g.D.Device.contents c.examine_slots.new.device ≡ disk = c.in_ok-layout.ensures.device.contents in
    let links : IsLinks c.in_ok-layout.layout.version disk c.in_ok-links.links = subst (λ (d : List (List ℕ)). IsLinks c.in_ok-layout.layout.version d c.in_ok-links.links) same c.in_ok-links.ensures.links in
    let links_own : IsLinks c.args.version disk c.in_ok-links.links = subst (λ (v : Version). IsLinks v disk c.in_ok-links.links) own links in
    let tree : IsOneTree c.args.version disk = (c.in_ok-is_one_tree.ensures c.args.version disk links_own c.in_ok-layout.ensures.judges.2.1).0 c.if-not-branch.false in
    let later : g.D.Device.contents c.find_links.new.device ≡ disk = c.in_ok-links.ensures.device.contents ∙ same in
    let good : HasGoodCounts c.in_ok-layout.layout.version (g.D.Device.contents c.find_links.new.device) = c.in_ok-has_good_counts.ensures.good.0 c.if-not-branch-2.false in
    let good_own : HasGoodCounts c.args.version disk = subst (λ (v : Version). HasGoodCounts v disk) own (subst (λ (d : List (List ℕ)). HasGoodCounts c.in_ok-layout.layout.version d) later good) in
    (c.in_ok-layout.ensures.judges.0, own, ((c.in_ok-layout.ensures.judges.2, tree), good_own))
