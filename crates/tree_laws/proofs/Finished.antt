-- Computed runs.
use Rattle.image_versions.specs.declared.version.Version.TheVariants.{One}
use Rattle.tree_laws.proofs.Vocabulary.{refl, pieces, put, any_below, same_name, first_slot, look, follow, parent_from, parent_of, file_in, is_named, settle, tree_of, entries_by, any_used, lowest_from, refusal_by, place_of, first_free, cleared, has_fd, effect_by, answer_by, last_cause, next_of, first_cause, reply_of, had_room, fresh, World, all_fall, opened, opens_a, reads, links, unlinks, makes, changes, doubles, asks, closes, inherits, OpenFinishes, ReadFinishes, WriteFinishes, LinkFinishes, UnlinkFinishes, MkdirFinishes, ChdirFinishes, DupFinishes, FstatFinishes, CloseFinishes, InheritFinishes}
use Rattle.tree_laws.specs.Examples.{writes}
use Rattle.tree_laws.proofs.Played.{first_unused, acted, moved, played, may_all, events_of, end_of, script_of, events_run}

abbrev first : World
first = opened (tree_of (fresh One 200))

pub open_finishes : OpenFinishes
unfolding pieces put any_below same_name first_slot look follow parent_from parent_of file_in is_named settle entries_by any_used lowest_from refusal_by place_of first_free cleared has_fd effect_by answer_by last_cause next_of first_cause reply_of had_room all_fall first_unused acted moved played may_all events_of end_of
open_finishes = (end_of One first (script_of opens_a), events_run One first opens_a refl refl, refl)

pub read_finishes : ReadFinishes
unfolding pieces put any_below same_name first_slot look follow parent_from parent_of file_in is_named settle entries_by any_used lowest_from refusal_by place_of first_free cleared has_fd effect_by answer_by last_cause next_of first_cause reply_of had_room all_fall first_unused acted moved played may_all events_of end_of
read_finishes = (end_of One first (script_of reads), events_run One first reads refl refl, refl)

pub write_finishes : WriteFinishes
unfolding pieces put any_below same_name first_slot look follow parent_from parent_of file_in is_named settle entries_by any_used lowest_from refusal_by place_of first_free cleared has_fd effect_by answer_by last_cause next_of first_cause reply_of had_room all_fall first_unused acted moved played may_all events_of end_of
write_finishes = (end_of One first (script_of writes), events_run One first writes refl refl, refl)

pub link_finishes : LinkFinishes
unfolding pieces put any_below same_name first_slot look follow parent_from parent_of file_in is_named settle entries_by any_used lowest_from refusal_by place_of first_free cleared has_fd effect_by answer_by last_cause next_of first_cause reply_of had_room all_fall first_unused acted moved played may_all events_of end_of
link_finishes = (end_of One first (script_of links), events_run One first links refl refl, refl)

pub unlink_finishes : UnlinkFinishes
unfolding pieces put any_below same_name first_slot look follow parent_from parent_of file_in is_named settle entries_by any_used lowest_from refusal_by place_of first_free cleared has_fd effect_by answer_by last_cause next_of first_cause reply_of had_room all_fall first_unused acted moved played may_all events_of end_of
unlink_finishes = (end_of One first (script_of unlinks), events_run One first unlinks refl refl, refl)

pub mkdir_finishes : MkdirFinishes
unfolding pieces put any_below same_name first_slot look follow parent_from parent_of file_in is_named settle entries_by any_used lowest_from refusal_by place_of first_free cleared has_fd effect_by answer_by last_cause next_of first_cause reply_of had_room all_fall first_unused acted moved played may_all events_of end_of
mkdir_finishes = (end_of One first (script_of makes), events_run One first makes refl refl, refl)

pub chdir_finishes : ChdirFinishes
unfolding pieces put any_below same_name first_slot look follow parent_from parent_of file_in is_named settle entries_by any_used lowest_from refusal_by place_of first_free cleared has_fd effect_by answer_by last_cause next_of first_cause reply_of had_room all_fall first_unused acted moved played may_all events_of end_of
chdir_finishes = (end_of One first (script_of changes), events_run One first changes refl refl, refl)

pub dup_finishes : DupFinishes
unfolding pieces put any_below same_name first_slot look follow parent_from parent_of file_in is_named settle entries_by any_used lowest_from refusal_by place_of first_free cleared has_fd effect_by answer_by last_cause next_of first_cause reply_of had_room all_fall first_unused acted moved played may_all events_of end_of
dup_finishes = (end_of One first (script_of doubles), events_run One first doubles refl refl, refl)

pub fstat_finishes : FstatFinishes
unfolding pieces put any_below same_name first_slot look follow parent_from parent_of file_in is_named settle entries_by any_used lowest_from refusal_by place_of first_free cleared has_fd effect_by answer_by last_cause next_of first_cause reply_of had_room all_fall first_unused acted moved played may_all events_of end_of
fstat_finishes = (end_of One first (script_of asks), events_run One first asks refl refl, refl)

pub close_finishes : CloseFinishes
unfolding pieces put any_below same_name first_slot look follow parent_from parent_of file_in is_named settle entries_by any_used lowest_from refusal_by place_of first_free cleared has_fd effect_by answer_by last_cause next_of first_cause reply_of had_room all_fall first_unused acted moved played may_all events_of end_of
close_finishes = (end_of One first (script_of closes), events_run One first closes refl refl, refl)

pub inherit_finishes : InheritFinishes
unfolding pieces put any_below same_name first_slot look follow parent_from parent_of file_in is_named settle entries_by any_used lowest_from refusal_by place_of first_free cleared has_fd effect_by answer_by last_cause next_of first_cause reply_of had_room all_fall first_unused acted moved played may_all events_of end_of
inherit_finishes = (end_of One first (script_of inherits), events_run One first inherits refl refl, refl)
