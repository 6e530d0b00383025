use Rattle.explain.proofs.Lemmas.{◌∙◌, ap, same_name, same_pointwise}
use Rattle.explain.proofs.climbs.is_dotdot.Goals as goal

pub returns : goal.returns
returns c = c.eq.ensures ∙ same_pointwise _ _ ∙ ap (λ name. same_name c.args.name.now name) c.as_slice.ensures
