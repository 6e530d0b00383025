use Rattle.plain_tree.proofs.Lemmas.{ap, sym, ◌∙◌, ◌++◌, entry_bytes, entries_more, entries_nil}
use Rattle.plain_tree.proofs.slots.entries.Goals as goal

pub loop-slot-init : goal.loop-slot-init
loop-slot-init c = c.new-out.ensures.items ∙ sym (entries_nil c.args.version)

pub loop-slot-preserved : goal.loop-slot-preserved
loop-slot-preserved c = c.in_ok-push_entry.ensures ∙ (ap (λ y. y ++ entry_bytes c.args.version c.slot-item.result) c.loop-slot.invariant ∙ sym (entries_more c.args.version c.args.slots.now c.loop-slot.slot-index c.slot-item.result c.loop-slot-test.true c.slot-item.is))
