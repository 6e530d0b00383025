use Rattle.image_tree.proofs.Lemmas.{◌≡◌, ◌≢◌, ◌∙◌, sym, ap, ℕ, List, subst, super_is}
use Rattle.image_tree.proofs.Vocabulary.{IsGoodSuper, Super, block_at, magic_of, u32_at}
use Rattle.damage_places.specs.Places.{Keeps, KeepsBefore}
use Rattle.damage_places.proofs.NumberLemmas.{first_number, other_magic}
use Rattle.damage_places.proofs.heads.find_super.Goals as goal

pub returns-in_default-clause-found : goal.returns-in_default-clause-found
returns-in_default-clause-found g c =
    let disk : List (List ℕ) = g.D.Device.contents c.args.device.now in
    let begins : u32_at c.read.new.to 0 ≡ u32_at (block_at disk 1) 0 = ap (λ (b : List ℕ). u32_at b 0) c.in_ok-read.ensures.read in
    let other : u32_at c.read.new.to 0 ≢ magic_of c.args.version = other_magic c.args.version c.read.new.to (sym c.read_super.ensures ∙ c.in_default.is) in
    let is = c.read_number-found.ensures ∙ first_number c.read.new.to in
    (c.requires, is ∙ begins, λ e. other (sym is ∙ e))

pub returns-in-Some-broken_rule-clause-found : goal.returns-in-Some-broken_rule-clause-found
returns-in-Some-broken_rule-clause-found g c =
    let disk : List (List ℕ) = g.D.Device.contents c.args.device.now in
    let is = super_is c.args.version disk c.read.new.to c.in-Some.sizes c.in_ok-read.ensures.read (sym c.read_super.ensures ∙ c.in-Some.is) in
    let rule = c.in-Some-broken_rule.rule in (
      c.requires,
      is.0,
      is.1,
      subst (λ (s : Super). KeepsBefore s rule) is.1 c.in-Some-broken_rule.ensures.0,
      subst (λ (s : Super). ¬ Keeps s rule) is.1 c.in-Some-broken_rule.ensures.1,
    )

pub returns-in-None-clause-found : goal.returns-in-None-clause-found
returns-in-None-clause-found g c =
    let disk : List (List ℕ) = g.D.Device.contents c.args.device.now in
    let is = super_is c.args.version disk c.read.new.to c.in-Some.sizes c.in_ok-read.ensures.read (sym c.read_super.ensures ∙ c.in-Some.is) in
    (is.1, (is.0, subst IsGoodSuper is.1 c.in-None.ensures))
