use Rattle.explain.proofs.Lemmas.{sym, subst, ap, ExplainRefused, IsRefusedMount, blocks_of, refused_tree}
use Rattle.explain.proofs.play.base_of.Goals as goal

pub returns : goal.returns
returns c =
    subst (λ (e : ExplainRefused). IsRefusedMount c.args.image.now e) (sym c.refusal.ensures)
    (refused_tree c.args.image.now _ _ c.in-Ok-find_version.version c.in-Err.fault (ap blocks_of c.in-Ok.ensures) c.find_version.ensures.device.contents c.in-Ok-find_version.ensures.version
    c.in-Err.ensures.judges)
