-- What the crates below call things: the words that this crate's definitions and contracts use.
pub use Rattle.locked_world.specs.Kept.{StoredRun, replies_of}
pub use Rattle.locked_world.specs.declared.locked.Receipt.{Receipt}
pub use Rattle.locked_world.specs.HandedBack.{HandsBack}
pub use Rattle.plain_tree.specs.declared.answer.Reply.{Reply}
pub use Rattle.plain_tree.specs.declared.call.Call.{Call}
