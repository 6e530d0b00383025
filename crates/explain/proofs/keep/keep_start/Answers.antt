use Rattle.explain.proofs.Lemmas.{sym, subst, ◌∙◌, Call, IsCall, right_call}
use Rattle.explain.proofs.keep.keep_start.Goals as goal

pub starts-requires : goal.starts-requires
starts-requires c = subst (λ (call : Call). IsCall c.args.kept.now.version call) (sym c.in_ok-copied-in-None.ensures) (right_call c.args.kept.now.version c.args.call.now (sym c.find_fault.ensures.fault ∙ c.in-None.is))
