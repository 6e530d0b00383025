use Rattle.fs_machine.proofs.Lemmas.{◌++◌, ◌∷◌, ◌∙◌, [], List, ap, replicate, replicate_more, Inode, root_inode}
use Rattle.fs_machine.proofs.tables.places.Goals as goal

pub loop-preserved : goal.loop-preserved
loop-preserved c = c.in_ok-push.ensures.items ∙ (ap (λ (l : List Inode). l ++ c.in_ok-new.field-0 ∷ []) c.loop.invariant ∙ (ap (λ (v : Inode). replicate c.loop.counter root_inode ++ v ∷ []) c.in_ok-new.ensures ∙ replicate_more c.loop.counter root_inode))
