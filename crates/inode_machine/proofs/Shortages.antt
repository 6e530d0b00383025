-- Computed runs that fill a table.
use Rattle.image_versions.specs.declared.version.Version.TheVariants.{One}
use Rattle.inode_machine.proofs.Vocabulary.{◌≡◌, true, false, List, refl, Reply, Call, pieces, put, any_below, same_name, first_slot, look, follow, parent_from, parent_of, file_in, is_named, settle, entries_by, any_used, lowest_from, refusal_by, place_of, first_free, cleared, has_fd, effect_by, answer_by, same_is, sum_below, one_if, Event, State, run, Outside, all_used, first_from, covered_calls, steps, replies, opens_by, opens_for, opened_by, opened_for, each, overview, all_open, opens_more, opens_no_more, all_placed, places_more, places_no_more, ChangesNothing, NoOpenFileLeft, NoOpenFileForNew, NoPlaceLeft}

-- two overviews are compared number by number
same_after :
    (s : State (covered_calls One)) (events : List (Event Call Outside)) (rs : List Reply) → s.world.clean ≡ true → replies One (run (covered_calls One) events s).finished ≡ rs
    → (run (covered_calls One) events s).world.clean ≡ false → same_name (overview (run (covered_calls One) events s).world) (overview s.world) ≡ true → ChangesNothing s events rs
same_after s events rs first given last same = (first, given, last, same_is (overview (run (covered_calls One) events s).world) (overview s.world) same)

pub no_open_file_left : NoOpenFileLeft
unfolding pieces put any_below same_name first_slot look follow parent_from parent_of file_in is_named settle entries_by any_used lowest_from refusal_by place_of first_free cleared has_fd effect_by answer_by sum_below one_if all_used first_from steps opens_by opens_for opened_by opened_for each
no_open_file_left = same_after all_open opens_more opens_no_more refl refl refl refl

pub no_open_file_for_new : NoOpenFileForNew
unfolding pieces put any_below same_name first_slot look follow parent_from parent_of file_in is_named settle entries_by any_used lowest_from refusal_by place_of first_free cleared has_fd effect_by answer_by sum_below one_if all_used first_from steps opens_by opens_for opened_by opened_for each
no_open_file_for_new = refl

pub no_place_left : NoPlaceLeft
unfolding pieces put any_below same_name first_slot look follow parent_from parent_of file_in is_named settle entries_by any_used lowest_from refusal_by place_of first_free cleared has_fd effect_by answer_by sum_below one_if all_used first_from steps opens_by opens_for opened_by opened_for each
no_place_left = same_after all_placed places_more places_no_more refl refl refl refl
