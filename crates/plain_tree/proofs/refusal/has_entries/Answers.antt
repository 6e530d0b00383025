use Rattle.plain_tree.proofs.Lemmas.{sym, ◌∙◌, few_unused, few_not}
use Rattle.plain_tree.proofs.refusal.has_entries.Goals as goal

pub returns-else-slots-gt2 : goal.returns-else-slots-gt2
returns-else-slots-gt2 c = few_not c.args.slots.now c.if-slots-gt2.false ∙ sym (few_unused c.args.slots.now c.if-slots-gt2.false)
