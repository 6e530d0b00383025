use Rattle.tree_histories.proofs.Lemmas.{None, ◌∙◌, length-set, put_fits}
use Rattle.tree_histories.proofs.kept.Kept.take.Goals as goal

pub invariant_of-self : goal.invariant_of-self
invariant_of-self c =
    rw c.replace.ensures.after
    (length-set c.self.inside.harts c.from-2.result None ∙ c.self.invariant.0, put_fits c.self.inside.version c.self.inside.harts c.from-2.result None c.self.invariant.1 tt)
