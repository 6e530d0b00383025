-- What this crate's proofs speak of: its own definitions, and what the crates below and the library call things.
pub use Rattle.hart_core.proofs.Vocabulary.{All, All-cons, All-nil, Explains, IsWellFormed, List, Rests, TreeData, WorldOf, [], call_climbs, false, inl, inr, subst, trace_in, tree_in, ℕ, ◌∙◌, ◌∷◌, ◌≡◌}
unfoldable pub use Rattle.hart_core.proofs.Vocabulary.{sizes_of}
pub use Rattle.explain.specs.Vocabulary.{Global, any_climbs}
unfoldable pub use Rattle.explain.specs.Vocabulary.{blocks_of}
pub use Rattle.image_tree.proofs.Vocabulary.{Err, Ok, Result, Vec}
pub use Rattle.explain.specs.Explained.{IsRefusedMount, IsRefusedSo, RunOn, StartsOn, never, refused_by}
pub use Rattle.explain.specs.declared.refused.ExplainRefused.{ExplainRefused}
pub use Rattle.image_tree.specs.Images.{JudgesFault}
pub use Rattle.image_tree.specs.declared.fault.MountFault.TheVariants.{Damaged, DeviceFault, NoMemory}
pub use Rattle.std.proofs.Common.{MatchResult}
pub use Rattle.std.proofs.lemmas.Bool.{or_parts}
pub use Rattle.hart_core.specs.declared.events.Came.{Came}
pub use Rattle.hart_core.specs.declared.events.Event.{Event}
pub use Rattle.image_tree.specs.declared.fault.MountFault.{MountFault}
pub use Rattle.plain_tree.specs.declared.trace.Placed.{Placed}
pub use Rattle.plain_tree.specs.declared.trace.Trace.{Trace}
pub use Rattle.plain_tree.specs.declared.trace.TracedCall.{TracedCall}
