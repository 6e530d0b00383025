use Rattle.group_log.proofs.Lemmas.{◌∙◌, ap, List, ℕ, overwrite, spell_log_head, head_block}
use Rattle.group_log.proofs.copies.name_blocks.Goals as goal

pub returns : goal.returns
unfolding head_block
returns c = c.write_log_head.ensures.bytes ∙ ap (λ (l : List ℕ). overwrite l 0 (spell_log_head c.args.blocks.now)) c.requires.zeros
