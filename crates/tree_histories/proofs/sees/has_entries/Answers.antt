use Rattle.tree_histories.proofs.Lemmas.{sym, ◌∙◌, few_unused, few_not}
use Rattle.tree_histories.proofs.sees.has_entries.Goals as goal

pub returns-else-slots-gt-FIRST_SLOTS : goal.returns-else-slots-gt-FIRST_SLOTS
returns-else-slots-gt-FIRST_SLOTS c = few_not c.args.slots.now c.if-slots-gt-FIRST_SLOTS.false ∙ sym (few_unused c.args.slots.now c.if-slots-gt-FIRST_SLOTS.false)
