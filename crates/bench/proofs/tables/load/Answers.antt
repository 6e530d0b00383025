use Rattle.bench.proofs.Lemmas.{◌≡◌, ◌∙◌, ap, sym, GuardState, IsOut, Inode, TablesState, IsLocked}
use Rattle.bench.proofs.tables.load.Goals as goal

-- a guard stays its hart's, whatever it says of the disk
loaded : (guard : GuardState Inode) (v : Inode) (t : TablesState) → v.number ≡ guard.value.number → IsLocked guard t → IsLocked (record guard { value = v }) t
unfolding IsOut
loaded guard v t same l = record { out = l.out; entry = l.entry; there = l.there; number = l.number ∙ sym same; referenced = l.referenced }

pub unlock-requires-clause-locked : goal.unlock-requires-clause-locked
unlock-requires-clause-locked c =
    let number = ap (λ (v : Inode). v.number) c.set_record.ensures ∙ ap (λ (v : Inode). v.number) c.value_mut.ensures.value in
    loaded c.in-Some.guard c.set_record.new.self c.lock.new.self number c.in-Some.ensures.own.2
