-- What the crates below call things: the words that this crate's definitions and contracts use.
pub use Rattle.hart_core.specs.Vocabulary.{Answer, CallsOnce, ComesByCalls, Op, Other, P, Replied, Shown, StartOf, Started, StepOf, tree_in, version_in}
pub use Rattle.inode_table.specs.Vocabulary.{Do, Ret, block_len}
pub use Rattle.hart_core.specs.declared.events.Came.{Came}
pub use Rattle.hart_core.specs.declared.events.Event.{Event}
pub use Rattle.block_device.specs.Fuse.{Fuse, IsFusedCall}
pub use Rattle.hart_core.specs.Worlds.{Answers as MayAnswer, Makes, WorldOf, calls_of}
unfoldable pub use Rattle.block_device.specs.Blocks.{blocks_of}
pub use Rattle.hart_core.specs.Events.{came_of}
pub use Rattle.hart_core.specs.Harts.{outcome_of, said, shared_of}
pub use Rattle.hart_core.specs.Runs.{FoundRoom, HasHistory, IsExplained, IsMounted, NoneClimbs, OneHart, all_shown, trace_in}
pub use Rattle.hart_core.specs.declared.events.Event.TheVariants.{Start, Step}
pub use Rattle.hart_core.specs.declared.outcome.Outcome.{Outcome}
pub use Rattle.hart_core.specs.declared.outcome.Stop.{Stop}
pub use Rattle.plain_tree.specs.declared.answer.Reply.{Reply}
pub use Rattle.plain_tree.specs.declared.call.Call.{Call}
pub use Rattle.plain_tree.specs.declared.call.Call.TheVariants.{Chdir, Close, Dup, Fstat, Inherit, Link, Mkdir, Open, Read, Unlink, Write}
