-- Computed runs in which two harts meet.
use Rattle.inode_machine.proofs.Vocabulary.{refl, pieces, put, any_below, same_name, first_slot, look, follow, parent_from, parent_of, file_in, is_named, settle, entries_by, any_used, lowest_from, refusal_by, place_of, first_free, cleared, has_fd, effect_by, answer_by, sum_below, one_if, all_used, first_from, steps, WalkFails, WalkFailsStill, StaysInTheRemoved, LinksWhileUnlinked, RaiseIsSeen, OffsetIsShared, ClimbsAcross}

pub walk_fails : WalkFails
unfolding pieces put any_below same_name first_slot look follow parent_from parent_of file_in is_named settle entries_by any_used lowest_from refusal_by place_of first_free cleared has_fd effect_by answer_by sum_below one_if all_used first_from steps
walk_fails = (refl, refl)

pub walk_fails_still : WalkFailsStill
unfolding pieces put any_below same_name first_slot look follow parent_from parent_of file_in is_named settle entries_by any_used lowest_from refusal_by place_of first_free cleared has_fd effect_by answer_by sum_below one_if all_used first_from steps
walk_fails_still = (refl, refl)

pub stays_in_the_removed : StaysInTheRemoved
unfolding pieces put any_below same_name first_slot look follow parent_from parent_of file_in is_named settle entries_by any_used lowest_from refusal_by place_of first_free cleared has_fd effect_by answer_by sum_below one_if all_used first_from steps
stays_in_the_removed = (refl, refl)

pub links_while_unlinked : LinksWhileUnlinked
unfolding pieces put any_below same_name first_slot look follow parent_from parent_of file_in is_named settle entries_by any_used lowest_from refusal_by place_of first_free cleared has_fd effect_by answer_by sum_below one_if all_used first_from steps
links_while_unlinked = (refl, refl)

pub raise_is_seen : RaiseIsSeen
unfolding pieces put any_below same_name first_slot look follow parent_from parent_of file_in is_named settle entries_by any_used lowest_from refusal_by place_of first_free cleared has_fd effect_by answer_by sum_below one_if all_used first_from steps
raise_is_seen = (refl, refl)

pub offset_is_shared : OffsetIsShared
unfolding pieces put any_below same_name first_slot look follow parent_from parent_of file_in is_named settle entries_by any_used lowest_from refusal_by place_of first_free cleared has_fd effect_by answer_by sum_below one_if all_used first_from steps
offset_is_shared = (refl, refl)

pub climbs_across : ClimbsAcross
unfolding pieces put any_below same_name first_slot look follow parent_from parent_of file_in is_named settle entries_by any_used lowest_from refusal_by place_of first_free cleared has_fd effect_by answer_by sum_below one_if all_used first_from steps
climbs_across = (refl, refl)
