use Rattle.inodes_on_blocks.proofs.Lemmas.{Slot, slot, alone, slot_acts, alone_laws, alone_keeps, does_it}
use Rattle.inodes_on_blocks.proofs.acting.slots_act_once.Goals as goal

pub returns : goal.returns
returns c = does_it Slot slot (λ sizes h lt m. slot_acts sizes alone (alone_laws sizes.version) alone_keeps h lt m)
