use Rattle.image_tree.proofs.Lemmas.{refuted, few_slots}
use Rattle.image_tree.proofs.entries.has_dots.Goals as goal

pub returns-then-slots-lt2 : goal.returns-then-slots-lt2
returns-then-slots-lt2 c = refuted _ (λ h. few_slots c.args.slots.now c.if-slots-lt2.true h.1)
