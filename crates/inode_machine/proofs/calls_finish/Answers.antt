-- Computed runs.
use Rattle.inode_machine.proofs.Examples.{long_names_are_told, chdir_finishes, close_finishes, create_finishes, dup_finishes, mkdir_finishes, no_block_left, no_inode_left, open_finishes, read_finishes, stat_finishes, unlink_finishes, walker_fails, write_finishes, link_finishes, link_to_taken, link_below_nothing, link_to_no_name, link_of_nothing, link_of_directory, no_block_for_name, no_inode_for_file, no_block_for_file, no_block_for_directory, no_block_for_part, no_slot_for_directory, no_slot_for_file, no_slot_for_name, no_descriptor_to_double, no_descriptor_to_open, link_of_many, inherit_finishes, inherit_frees, inherit_moves, starts_refused}
use Rattle.inode_machine.proofs.Shortages.{no_open_file_for_new, no_open_file_left, no_place_left}
use Rattle.inode_machine.proofs.calls_finish.Goals as goal

pub returns-clause-open : goal.returns-clause-open
returns-clause-open c = open_finishes

pub returns-clause-stat : goal.returns-clause-stat
returns-clause-stat c = stat_finishes

pub returns-clause-read : goal.returns-clause-read
returns-clause-read c = read_finishes

pub returns-clause-dup : goal.returns-clause-dup
returns-clause-dup c = dup_finishes

pub returns-clause-close : goal.returns-clause-close
returns-clause-close c = close_finishes

pub returns-clause-mkdir : goal.returns-clause-mkdir
returns-clause-mkdir c = mkdir_finishes

pub returns-clause-chdir : goal.returns-clause-chdir
returns-clause-chdir c = chdir_finishes

pub returns-clause-unlink : goal.returns-clause-unlink
returns-clause-unlink c = unlink_finishes

pub returns-clause-removed : goal.returns-clause-removed
returns-clause-removed c = walker_fails

pub returns-clause-inodes : goal.returns-clause-inodes
returns-clause-inodes c = no_inode_left

pub returns-clause-blocks : goal.returns-clause-blocks
returns-clause-blocks c = no_block_left

pub returns-clause-create : goal.returns-clause-create
returns-clause-create c = create_finishes

pub returns-clause-write : goal.returns-clause-write
returns-clause-write c = write_finishes

pub returns-clause-link : goal.returns-clause-link
returns-clause-link c = link_finishes

pub returns-clause-taken : goal.returns-clause-taken
returns-clause-taken c = link_to_taken

pub returns-clause-below : goal.returns-clause-below
returns-clause-below c = link_below_nothing

pub returns-clause-nameless : goal.returns-clause-nameless
returns-clause-nameless c = link_to_no_name

pub returns-clause-unfound : goal.returns-clause-unfound
returns-clause-unfound c = link_of_nothing

pub returns-clause-directory : goal.returns-clause-directory
returns-clause-directory c = link_of_directory

pub returns-clause-name : goal.returns-clause-name
returns-clause-name c = no_block_for_name

pub returns-clause-file_inode : goal.returns-clause-file_inode
returns-clause-file_inode c = no_inode_for_file

pub returns-clause-file_block : goal.returns-clause-file_block
returns-clause-file_block c = no_block_for_file

pub returns-clause-directory_block : goal.returns-clause-directory_block
returns-clause-directory_block c = no_block_for_directory

pub returns-clause-full_directory : goal.returns-clause-full_directory
returns-clause-full_directory c = no_slot_for_directory

pub returns-clause-full_for_file : goal.returns-clause-full_for_file
returns-clause-full_for_file c = no_slot_for_file

pub returns-clause-full_for_name : goal.returns-clause-full_for_name
returns-clause-full_for_name c = no_slot_for_name

pub returns-clause-part_block : goal.returns-clause-part_block
returns-clause-part_block c = no_block_for_part

pub returns-clause-doubled : goal.returns-clause-doubled
returns-clause-doubled c = no_descriptor_to_double

pub returns-clause-opened : goal.returns-clause-opened
returns-clause-opened c = no_descriptor_to_open

pub returns-clause-many : goal.returns-clause-many
returns-clause-many c = link_of_many

pub returns-clause-inherit : goal.returns-clause-inherit
returns-clause-inherit c = inherit_finishes

pub returns-clause-moves : goal.returns-clause-moves
returns-clause-moves c = inherit_moves

pub returns-clause-frees : goal.returns-clause-frees
returns-clause-frees c = inherit_frees

pub returns-clause-refused : goal.returns-clause-refused
returns-clause-refused c = starts_refused

pub returns-clause-files : goal.returns-clause-files
returns-clause-files c = no_open_file_left

pub returns-clause-made : goal.returns-clause-made
returns-clause-made c = no_open_file_for_new

pub returns-clause-places : goal.returns-clause-places
returns-clause-places c = no_place_left

pub returns-clause-long_names : goal.returns-clause-long_names
returns-clause-long_names c = long_names_are_told
