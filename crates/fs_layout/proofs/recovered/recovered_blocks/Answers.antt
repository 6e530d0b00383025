use Rattle.fs_layout.proofs.Lemmas.{refl, recovered-copy, recovered-own}
use Rattle.fs_layout.proofs.recovered.recovered_blocks.Goals as goal

pub returns-clause-copied : goal.returns-clause-copied
returns-clause-copied c = λ disk i h first. recovered-copy disk _ i (record { within = h; is = refl; before = first })

pub returns-clause-others : goal.returns-clause-others
returns-clause-others c = recovered-own
