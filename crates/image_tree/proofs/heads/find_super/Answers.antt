use Rattle.image_tree.proofs.Lemmas.{◌∙◌, sym, ℕ, List, subst, iff_false, IsGoodSuper, super_is}
use Rattle.image_tree.proofs.heads.find_super.Goals as goal

pub returns-then-not-is_good-clause-judges : goal.returns-then-not-is_good-clause-judges
returns-then-not-is_good-clause-judges g c =
    let disk : List (List ℕ) = g.D.Device.contents c.args.device.now in
    let is = super_is c.args.version disk c.read.new.to c.in-Some.sizes c.in_ok-read.ensures.read (sym c.read_super.ensures ∙ c.in-Some.is) in
    (c.requires, λ h. iff_false c.is_good.ensures c.if-not-is_good.true (subst IsGoodSuper (sym is.1) h.1))

pub returns-clause-judges : goal.returns-clause-judges
returns-clause-judges g c =
    let disk : List (List ℕ) = g.D.Device.contents c.args.device.now in
    let is = super_is c.args.version disk c.read.new.to c.in-Some.sizes c.in_ok-read.ensures.read (sym c.read_super.ensures ∙ c.in-Some.is) in
    (is.1, (is.0, subst IsGoodSuper is.1 (c.is_good.ensures.0 c.if-not-is_good.false)))
