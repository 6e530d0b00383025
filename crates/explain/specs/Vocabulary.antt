-- What the crates below call things: the words that this crate's definitions and contracts use.
pub use Rattle.hart_core.specs.Vocabulary.{EventOf, Explains, IsWellFormed, Outside, TreeData, fault_count_of, tree_in}
unfoldable pub use Rattle.block_device.specs.Blocks.{blocks_of}
pub use Rattle.hart_core.specs.Runs.{FoundRoom, HasHistory, IsHistory, IsMounted, trace_in}
pub use Rattle.hart_core.specs.declared.events.Event.{Event}
pub use Rattle.std.specs.declared.alloc.Global.{Global}
pub use Rattle.hart_core.specs.Harts.{HartsOf}
pub use Rattle.hart_core.specs.Worlds.{WorldOf}
pub use Rattle.hart_core.specs.declared.events.Came.{Came}
pub use Rattle.image_tree.specs.Images.{IsFirstDamage}
pub use Rattle.image_versions.specs.declared.version.Version.{Version}
pub use Rattle.fs_layout.specs.Recovered.{version_in}
pub use Rattle.image_tree.specs.Faults.{damage_name, damage_number}
pub use Rattle.tree_histories.specs.Told.{any_climbs, any_full}
pub use Rattle.image_tree.specs.declared.fault.MountFault.{MountFault}
pub use Rattle.plain_tree.specs.declared.call.Call.{Call}
pub use Rattle.plain_tree.specs.declared.trace.Placed.{Placed}
pub use Rattle.hart_core.specs.Telling.{NotesEvent, heard_in, some_lacks_place}
pub use Rattle.fs_layout.specs.declared.superblock.Super.{Super}
pub use Rattle.path_walk.specs.declared.asks.Heard.{Heard}
pub use Rattle.tree_histories.specs.Keeping.{KeptTree, ended, nothing_kept}
pub use Rattle.hart_core.specs.Starts.{fault_of}
pub use Rattle.tree_histories.specs.Vocabulary.{call_climbs, climbs, dotdot}
unfoldable pub use Rattle.tree_histories.specs.Vocabulary.{same_name}
