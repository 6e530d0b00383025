-- Computed runs.
use Rattle.image_versions.specs.declared.version.Version.TheVariants.{One}
use Rattle.tree_laws.proofs.Vocabulary.{refl, pieces, put, any_below, same_name, first_slot, look, follow, parent_from, parent_of, file_in, is_named, settle, tree_of, entries_by, any_used, lowest_from, refusal_by, place_of, first_free, cleared, has_fd, effect_by, answer_by, last_cause, next_of, first_cause, reply_of, had_room, fresh, World, all_fall, opened, removed_under, made_again, opens_below_a, WalkerFails, WalkerStaysFailed, WalkerFailsAtAFile}
use Rattle.tree_laws.proofs.Played.{first_unused, acted, moved, played, may_all, events_of, end_of, script_of, events_run}

abbrev first : World
first = opened (tree_of (fresh One 200))

pub walker_fails : WalkerFails
unfolding pieces put any_below same_name first_slot look follow parent_from parent_of file_in is_named settle entries_by any_used lowest_from refusal_by place_of first_free cleared has_fd effect_by answer_by last_cause next_of first_cause reply_of had_room all_fall first_unused acted moved played may_all events_of end_of
walker_fails = (end_of One first (script_of removed_under), events_run One first removed_under refl refl, refl)

pub walker_stays_failed : WalkerStaysFailed
unfolding pieces put any_below same_name first_slot look follow parent_from parent_of file_in is_named settle entries_by any_used lowest_from refusal_by place_of first_free cleared has_fd effect_by answer_by last_cause next_of first_cause reply_of had_room all_fall first_unused acted moved played may_all events_of end_of
walker_stays_failed = (end_of One first (script_of made_again), events_run One first made_again refl refl, refl)

pub walker_fails_at_a_file : WalkerFailsAtAFile
unfolding pieces put any_below same_name first_slot look follow parent_from parent_of file_in is_named settle entries_by any_used lowest_from refusal_by place_of first_free cleared has_fd effect_by answer_by last_cause next_of first_cause reply_of had_room all_fall first_unused acted moved played may_all events_of end_of
walker_fails_at_a_file = (end_of One first (script_of opens_below_a), events_run One first opens_below_a refl refl, refl)
