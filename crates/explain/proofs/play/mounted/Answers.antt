use Rattle.explain.proofs.Lemmas.{sym, subst, ExplainRefused, IsRefusedMount, refused_mount}
use Rattle.explain.proofs.play.mounted.Goals as goal

pub returns-in-Err : goal.returns-in-Err
returns-in-Err c = subst (λ (e : ExplainRefused). IsRefusedMount c.args.image.now e) (sym c.refusal.ensures) (refused_mount c.args.image.now c.in-Ok.disk c.in-Err.fault c.in-Ok.ensures c.in-Err.ensures.err.judges)
