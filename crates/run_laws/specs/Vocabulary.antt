-- What the crates below call things: the words that this crate's definitions and contracts use.
pub use Rattle.inodes_on_blocks.specs.Vocabulary.{Answer as AnswerBelow, Both, Claim, Desk, ExecResult, Do, Enter, Entry, Handover, Inv, IsMember, IsNamedPart, LockFile, LockOpen, LowerLayer, Machine, Name, Outside, Prog, Put, Ran, Ret, Short, StatFile, Stops, TablesState, Take, Tree, Waits, World, WriteFile, Wrote, all_slots, bit_of, descriptor_count, dinode_at, entry_of, file_count, go, hart_count, inode_block, joined, option_map, place_of as place_in_memory, tree_in, tree_of, bind}
unfoldable pub use Rattle.inodes_on_blocks.specs.Vocabulary.{one_if, sizes_of}
pub use Rattle.inode_machine.specs.Vocabulary.{AllHonest, Deed, DidEnd, DidRun, DidStop, DidWait, Event as EventOf, FinishedCall, Outcome, Refused as WasRefused, Run, Start, Started, State, Step, Theory, TreeData, WasIdle, WasStopped, fresh, next, node_or, outcomes, run, EventOutcome, MoveStep, makes}
pub use Rattle.plain_tree.specs.Explains.{Explains}
pub use Rattle.image_versions.specs.Versions.{name_len_of}
unfoldable pub use Rattle.inode_machine.specs.Vocabulary.{look, sum_below}
pub use Rattle.calls_on_blocks.specs.Vocabulary.{IsMarked, IsMountable, Leave, P, before, first_world, handlers, lowered_calls, or_else}
unfoldable pub use Rattle.calls_on_blocks.specs.Vocabulary.{exec}
pub use Rattle.hart_core.specs.Vocabulary.{block_calls, first}
pub use Rattle.syscalls.specs.Vocabulary.{nothing, program}
pub use Rattle.hart_core.specs.Harts.{AreIdle, HartsOf, shared_of}
pub use Rattle.hart_core.specs.Runs.{FoundRoom, HasHistory, IsHistory, IsMounted, NoneClimbs, OneHart, events_of, outcomes_of, trace_in}
pub use Rattle.hart_core.specs.Worlds.{WorldOf}
pub use Rattle.hart_core.specs.declared.events.Came.{Came}
pub use Rattle.hart_core.specs.declared.events.Event.{Event}
pub use Rattle.atomic_programs.specs.Explained.{Chain, In, IsOfCall, IsRising, history, steps_of}
pub use Rattle.inode_machine.specs.World.{Answer, Mark, Op}
pub use Rattle.atomic_programs.specs.Calls.{BeginsWhole, PlacedStep, hart_of, changed, Made}
pub use Rattle.calls_on_blocks.specs.Layer.{layer}
pub use Rattle.fs_machine.specs.Steps.{Get, Join, JoinResult, JoinToWrite, Joins, NoInode as HasNoInode, Read, RefusesJoin}
pub use Rattle.inode_machine.specs.World.Mark.{Fills, Frees, Makes, Mends, Orphans, Spoils}
pub use Rattle.inode_table.specs.NewInodes.{is_zero}
pub use Rattle.inode_table.specs.Programs.{place_of}
pub use Rattle.inodes_on_blocks.specs.Lowering.{Carry, Labels, labelled}
pub use Rattle.atomic_programs.specs.Joined.{Handlers, ActOf, lowered}
pub use Rattle.atomic_programs.specs.Logic.{OpWithAnswer, own}
pub use Rattle.calls_on_blocks.specs.History.{block_moves}
pub use Rattle.calls_on_blocks.specs.Theory.{begins, served_calls}
pub use Rattle.fs_machine.specs.Tables.{is_file_of, owed, references_of}
pub use Rattle.group_log.specs.Group.{with_block}
pub use Rattle.group_log.specs.declared.limits.TheConstants.{BLOCKS_OF_A_TRANSACTION}
pub use Rattle.hart_core.specs.Promised.{ShowsImage}
pub use Rattle.hart_core.specs.Stops.{after_first, marks_of}
pub use Rattle.inode_machine.specs.Exec.{entry_moved, place_count, referenced, slot_limit, with_bytes}
pub use Rattle.inode_machine.specs.Inodes.{seen_in}
pub use Rattle.inode_machine.specs.Kept.{history_of, placed}
pub use Rattle.inode_machine.specs.Marks.{made_by, new_id, places}
pub use Rattle.inode_machine.specs.Parts.{P as Above}
pub use Rattle.inode_machine.specs.Programs.{limit}
pub use Rattle.inode_machine.specs.Rooms.{says_no_room}
pub use Rattle.inode_machine.specs.Rules.{Honest, May, machine, reference_limit}
pub use Rattle.inodes_on_blocks.specs.Making.{HasInodes}
pub use Rattle.inodes_on_blocks.specs.ShownTables.{Shows, loaded}
pub use Rattle.image_versions.specs.declared.version.Version.{Version}
pub use Rattle.fs_layout.specs.Recovered.{version_in}
pub use Rattle.fs_layout.specs.declared.superblock.Super.{Super}
pub use Rattle.fs_machine.specs.declared.files.FilePlace.TheVariants.{Taken}
pub use Rattle.plain_tree.specs.declared.answer.Full.{Full}
pub use Rattle.plain_tree.specs.declared.answer.Full.TheVariants.{Blocks, Descriptors, Directory, DiskInodes, MemInodes, OpenFiles}
pub use Rattle.plain_tree.specs.declared.answer.Reply.{Reply}
pub use Rattle.plain_tree.specs.declared.call.Call.{Call}
pub use Rattle.plain_tree.specs.declared.node.Node.{Node}
pub use Rattle.plain_tree.specs.declared.trace.Placed.{Placed}
pub use Rattle.plain_tree.specs.declared.trace.TracedCall.{TracedCall}
