use Rattle.fs_machine.proofs.Vocabulary.{◌∙◌, ap, sym, IsOut}
use Rattle.fs_machine.specs.InMemory.{Inode}
use Rattle.layer_tests.proofs.tables.loaded.Goals as goal

pub returns-clause-locked : goal.returns-clause-locked
unfolding IsOut
returns-clause-locked c =
    let l = c.requires in
    let number = l.number ∙ sym (ap (λ (v : Inode). v.number) c.set_record.ensures ∙ ap (λ (v : Inode). v.number) c.value_mut.ensures.value) in
    record { out = l.out; entry = l.entry; there = l.there; number = number; referenced = l.referenced }
