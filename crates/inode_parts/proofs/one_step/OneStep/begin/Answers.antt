use Rattle.inode_parts.proofs.Lemmas.{Some}
use Rattle.inode_parts.specs.declared.one_step.OneStep.TheVariants as step
use Rattle.inode_parts.proofs.one_step.OneStep.begin.Goals as goal

pub returns-in-Install : goal.returns-in-Install
returns-in-Install c = record { is = λ path. rw c.in-Install.is (λ i. Some (step.Install (c.reference_seat-in-Install.ensures i) (c.new_file.ensures c.in-Install.number i))) }
