use Rattle.plain_tree.proofs.Lemmas.{refl, pieces, put, any_below, same_name, first_slot, look, follow, parent_from, parent_of, file_in, is_named, settle, entries, any_used, lowest_from, refusal_with, place_of, first_free, cleared, has_fd, effect_with, answer_with, answers}
use Rattle.plain_tree.proofs.rows.makes_longer_directory.Goals as goal

pub returns : goal.returns
unfolding pieces put any_below same_name first_slot look follow parent_from parent_of file_in is_named settle entries any_used lowest_from refusal_with place_of first_free cleared has_fd effect_with answer_with answers
returns c = refl
