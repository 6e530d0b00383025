-- Computed runs.
use Rattle.inode_machine.proofs.Vocabulary.{refl, pieces, put, any_below, same_name, first_slot, look, follow, parent_from, parent_of, file_in, is_named, settle, entries_by, any_used, lowest_from, refusal_by, place_of, first_free, cleared, has_fd, effect_by, answer_by, sum_below, one_if, all_used, first_from, LongNamesAreTold, NoSlotForDirectory, NoSlotForFile, NoSlotForName, doubled_to, doubles, steps, OpenFinishes, StatFinishes, ReadFinishes, DupFinishes, CloseFinishes, MkdirFinishes, ChdirFinishes, UnlinkFinishes, CreateFinishes, WriteFinishes, WalkerFails, NoInodeLeft, NoBlockLeft, LinkFinishes, LinkToTaken, LinkBelowNothing, LinkToNoName, LinkOfNothing, LinkOfDirectory, NoBlockForName, NoInodeForFile, NoBlockForFile, NoBlockForDirectory, NoBlockForPart, NoDescriptorToDouble, NoDescriptorToOpen, LinkOfMany, InheritFinishes, InheritMoves, InheritFrees, StartsRefused}

pub open_finishes : OpenFinishes
unfolding pieces put any_below same_name first_slot look follow parent_from parent_of file_in is_named settle entries_by any_used lowest_from refusal_by place_of first_free cleared has_fd effect_by answer_by sum_below one_if all_used first_from steps
open_finishes = (refl, refl)

pub stat_finishes : StatFinishes
unfolding pieces put any_below same_name first_slot look follow parent_from parent_of file_in is_named settle entries_by any_used lowest_from refusal_by place_of first_free cleared has_fd effect_by answer_by sum_below one_if all_used first_from steps
stat_finishes = (refl, refl)

pub read_finishes : ReadFinishes
unfolding pieces put any_below same_name first_slot look follow parent_from parent_of file_in is_named settle entries_by any_used lowest_from refusal_by place_of first_free cleared has_fd effect_by answer_by sum_below one_if all_used first_from steps
read_finishes = (refl, refl)

pub dup_finishes : DupFinishes
unfolding pieces put any_below same_name first_slot look follow parent_from parent_of file_in is_named settle entries_by any_used lowest_from refusal_by place_of first_free cleared has_fd effect_by answer_by sum_below one_if all_used first_from steps
dup_finishes = (refl, refl)

pub close_finishes : CloseFinishes
unfolding pieces put any_below same_name first_slot look follow parent_from parent_of file_in is_named settle entries_by any_used lowest_from refusal_by place_of first_free cleared has_fd effect_by answer_by sum_below one_if all_used first_from steps
close_finishes = (refl, refl)

pub mkdir_finishes : MkdirFinishes
unfolding pieces put any_below same_name first_slot look follow parent_from parent_of file_in is_named settle entries_by any_used lowest_from refusal_by place_of first_free cleared has_fd effect_by answer_by sum_below one_if all_used first_from steps
mkdir_finishes = (refl, refl)

pub chdir_finishes : ChdirFinishes
unfolding pieces put any_below same_name first_slot look follow parent_from parent_of file_in is_named settle entries_by any_used lowest_from refusal_by place_of first_free cleared has_fd effect_by answer_by sum_below one_if all_used first_from steps
chdir_finishes = (refl, refl)

pub unlink_finishes : UnlinkFinishes
unfolding pieces put any_below same_name first_slot look follow parent_from parent_of file_in is_named settle entries_by any_used lowest_from refusal_by place_of first_free cleared has_fd effect_by answer_by sum_below one_if all_used first_from steps
unlink_finishes = (refl, refl)

pub walker_fails : WalkerFails
unfolding pieces put any_below same_name first_slot look follow parent_from parent_of file_in is_named settle entries_by any_used lowest_from refusal_by place_of first_free cleared has_fd effect_by answer_by sum_below one_if all_used first_from steps
walker_fails = (refl, refl)

pub no_inode_left : NoInodeLeft
unfolding pieces put any_below same_name first_slot look follow parent_from parent_of file_in is_named settle entries_by any_used lowest_from refusal_by place_of first_free cleared has_fd effect_by answer_by sum_below one_if all_used first_from steps
no_inode_left = (refl, refl)

pub no_block_left : NoBlockLeft
unfolding pieces put any_below same_name first_slot look follow parent_from parent_of file_in is_named settle entries_by any_used lowest_from refusal_by place_of first_free cleared has_fd effect_by answer_by sum_below one_if all_used first_from steps
no_block_left = (refl, refl)

pub create_finishes : CreateFinishes
unfolding pieces put any_below same_name first_slot look follow parent_from parent_of file_in is_named settle entries_by any_used lowest_from refusal_by place_of first_free cleared has_fd effect_by answer_by sum_below one_if all_used first_from steps
create_finishes = (refl, refl)

pub write_finishes : WriteFinishes
unfolding pieces put any_below same_name first_slot look follow parent_from parent_of file_in is_named settle entries_by any_used lowest_from refusal_by place_of first_free cleared has_fd effect_by answer_by sum_below one_if all_used first_from steps
write_finishes = (refl, refl)

pub link_finishes : LinkFinishes
unfolding pieces put any_below same_name first_slot look follow parent_from parent_of file_in is_named settle entries_by any_used lowest_from refusal_by place_of first_free cleared has_fd effect_by answer_by sum_below one_if all_used first_from steps
link_finishes = (refl, refl)

pub link_to_taken : LinkToTaken
unfolding pieces put any_below same_name first_slot look follow parent_from parent_of file_in is_named settle entries_by any_used lowest_from refusal_by place_of first_free cleared has_fd effect_by answer_by sum_below one_if all_used first_from steps
link_to_taken = (refl, refl)

pub link_below_nothing : LinkBelowNothing
unfolding pieces put any_below same_name first_slot look follow parent_from parent_of file_in is_named settle entries_by any_used lowest_from refusal_by place_of first_free cleared has_fd effect_by answer_by sum_below one_if all_used first_from steps
link_below_nothing = (refl, refl)

pub link_to_no_name : LinkToNoName
unfolding pieces put any_below same_name first_slot look follow parent_from parent_of file_in is_named settle entries_by any_used lowest_from refusal_by place_of first_free cleared has_fd effect_by answer_by sum_below one_if all_used first_from steps
link_to_no_name = (refl, refl)

pub link_of_nothing : LinkOfNothing
unfolding pieces put any_below same_name first_slot look follow parent_from parent_of file_in is_named settle entries_by any_used lowest_from refusal_by place_of first_free cleared has_fd effect_by answer_by sum_below one_if all_used first_from steps
link_of_nothing = (refl, refl)

pub link_of_directory : LinkOfDirectory
unfolding pieces put any_below same_name first_slot look follow parent_from parent_of file_in is_named settle entries_by any_used lowest_from refusal_by place_of first_free cleared has_fd effect_by answer_by sum_below one_if all_used first_from steps
link_of_directory = (refl, refl)

pub no_block_for_name : NoBlockForName
unfolding pieces put any_below same_name first_slot look follow parent_from parent_of file_in is_named settle entries_by any_used lowest_from refusal_by place_of first_free cleared has_fd effect_by answer_by sum_below one_if all_used first_from steps
no_block_for_name = (refl, refl)

pub no_inode_for_file : NoInodeForFile
unfolding pieces put any_below same_name first_slot look follow parent_from parent_of file_in is_named settle entries_by any_used lowest_from refusal_by place_of first_free cleared has_fd effect_by answer_by sum_below one_if all_used first_from steps
no_inode_for_file = (refl, refl)

pub no_block_for_file : NoBlockForFile
unfolding pieces put any_below same_name first_slot look follow parent_from parent_of file_in is_named settle entries_by any_used lowest_from refusal_by place_of first_free cleared has_fd effect_by answer_by sum_below one_if all_used first_from steps
no_block_for_file = (refl, refl)

pub no_block_for_directory : NoBlockForDirectory
unfolding pieces put any_below same_name first_slot look follow parent_from parent_of file_in is_named settle entries_by any_used lowest_from refusal_by place_of first_free cleared has_fd effect_by answer_by sum_below one_if all_used first_from steps
no_block_for_directory = (refl, refl)

pub no_block_for_part : NoBlockForPart
unfolding pieces put any_below same_name first_slot look follow parent_from parent_of file_in is_named settle entries_by any_used lowest_from refusal_by place_of first_free cleared has_fd effect_by answer_by sum_below one_if all_used first_from steps
no_block_for_part = (refl, refl)

pub no_descriptor_to_double : NoDescriptorToDouble
unfolding pieces put any_below same_name first_slot look follow parent_from parent_of file_in is_named settle entries_by any_used lowest_from refusal_by place_of first_free cleared has_fd effect_by answer_by sum_below one_if all_used first_from steps doubles doubled_to
no_descriptor_to_double = (refl, refl)

pub no_descriptor_to_open : NoDescriptorToOpen
unfolding pieces put any_below same_name first_slot look follow parent_from parent_of file_in is_named settle entries_by any_used lowest_from refusal_by place_of first_free cleared has_fd effect_by answer_by sum_below one_if all_used first_from steps doubles doubled_to
no_descriptor_to_open = (refl, refl)

pub link_of_many : LinkOfMany
unfolding pieces put any_below same_name first_slot look follow parent_from parent_of file_in is_named settle entries_by any_used lowest_from refusal_by place_of first_free cleared has_fd effect_by answer_by sum_below one_if all_used first_from steps
link_of_many = refl

pub inherit_finishes : InheritFinishes
unfolding pieces put any_below same_name first_slot look follow parent_from parent_of file_in is_named settle entries_by any_used lowest_from refusal_by place_of first_free cleared has_fd effect_by answer_by sum_below one_if all_used first_from steps
inherit_finishes = (refl, refl)

pub inherit_moves : InheritMoves
unfolding pieces put any_below same_name first_slot look follow parent_from parent_of file_in is_named settle entries_by any_used lowest_from refusal_by place_of first_free cleared has_fd effect_by answer_by sum_below one_if all_used first_from steps
inherit_moves = (refl, refl)

pub inherit_frees : InheritFrees
unfolding pieces put any_below same_name first_slot look follow parent_from parent_of file_in is_named settle entries_by any_used lowest_from refusal_by place_of first_free cleared has_fd effect_by answer_by sum_below one_if all_used first_from steps
inherit_frees = (refl, refl)

pub starts_refused : StartsRefused
unfolding pieces put any_below same_name first_slot look follow parent_from parent_of file_in is_named settle entries_by any_used lowest_from refusal_by place_of first_free cleared has_fd effect_by answer_by sum_below one_if all_used first_from steps
starts_refused = refl

pub no_slot_for_directory : NoSlotForDirectory
unfolding pieces put any_below same_name first_slot look follow parent_from parent_of file_in is_named settle entries_by any_used lowest_from refusal_by place_of first_free cleared has_fd effect_by answer_by sum_below one_if all_used first_from steps
no_slot_for_directory = refl

pub no_slot_for_file : NoSlotForFile
unfolding pieces put any_below same_name first_slot look follow parent_from parent_of file_in is_named settle entries_by any_used lowest_from refusal_by place_of first_free cleared has_fd effect_by answer_by sum_below one_if all_used first_from steps
no_slot_for_file = refl

pub no_slot_for_name : NoSlotForName
unfolding pieces put any_below same_name first_slot look follow parent_from parent_of file_in is_named settle entries_by any_used lowest_from refusal_by place_of first_free cleared has_fd effect_by answer_by sum_below one_if all_used first_from steps
no_slot_for_name = (refl, refl)

pub long_names_are_told : LongNamesAreTold
unfolding pieces put any_below same_name first_slot look follow parent_from parent_of file_in is_named settle entries_by any_used lowest_from refusal_by place_of first_free cleared has_fd effect_by answer_by sum_below one_if all_used first_from steps
long_names_are_told = (refl, refl)
