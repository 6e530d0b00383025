use Rattle.hart_core.proofs.Lemmas.{◌≡◌, true, false, refl, sym, ◌∙◌, ap, subst, is_some, file_named, any_below, below_true, below_more, HartsOf}
use Rattle.hart_core.proofs.harts.Harts.has_file.Goals as goal

pub loop-fd-init : goal.loop-fd-init
unfolding any_below
loop-fd-init g c = refl

pub returns-then-is_some : goal.returns-then-is_some
returns-then-is_some g c =
    sym (below_true 16 c.loop-fd.fd _ c.loop-fd-test.true
    (subst (λ (v : HartsOf _). is_some (file_named c.args.hart c.loop-fd.fd v.core.tables) ≡ true) c.self.view_is (ap is_some (sym c.file.ensures) ∙ sym c.is_some.ensures ∙ c.if-is_some.true)))

pub loop-fd-preserved : goal.loop-fd-preserved
loop-fd-preserved g c =
    below_more c.loop-fd.fd _ c.loop-fd.invariant
    (subst (λ (v : HartsOf _). is_some (file_named c.args.hart c.loop-fd.fd v.core.tables) ≡ false) c.self.view_is (ap is_some (sym c.file.ensures) ∙ sym c.is_some.ensures ∙ c.if-is_some.false))
