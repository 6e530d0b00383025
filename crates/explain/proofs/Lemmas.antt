-- What the proofs of this crate's functions use: its lemmas, and what they speak of.
pub use Rattle.explain.proofs.Vocabulary.{ExplainRefused, IsRefusedMount, Ok, subst, ◌∙◌}
pub use Rattle.hart_core.proofs.Vocabulary.{IsCall, Option, ap, refl, sym}
pub use Rattle.explain.proofs.Handing.{climbs_out, full_out, list_out, short_out}
pub use Rattle.explain.proofs.Mounting.{refused_mount, refused_tree}
pub use Rattle.explain.proofs.Running.{so_told, told_of}
pub use Rattle.explain.proofs.Climbing.{starts_end, starts_more, trace_climbs}
pub use Rattle.explain.specs.Climbs.{starts_climb}
pub use Rattle.tree_histories.proofs.Lemmas.{climbs, climbs_after, climbs_here, climbs_nowhere, same_name, same_pointwise}
pub use Rattle.explain.proofs.Noting.{keeps_from, was_told}
pub use Rattle.std.specs.Option.{option_map}
pub use Rattle.explain.specs.Vocabulary.{ended, some_lacks_place}
pub use Rattle.explain.specs.Vocabulary.{KeptTree}
pub use Rattle.explain.proofs.Vocabulary.{blocks_of, never, ◌≡◌}
pub use Rattle.std.specs.Prelude.{◌<◌, ◌≤◌, ◌+◌, ◌^◌, ◌||◌, drop, length, min, Bool}
pub use Rattle.std.proofs.Common.{arith}
pub use Rattle.hart_core.proofs.RightCalls.{right_call}
pub use Rattle.std.proofs.Common.{rules}
pub use Rattle.plain_tree.specs.declared.call.Call.{Call}
pub use Rattle.explain.proofs.Vocabulary.{Err}
pub use Rattle.explain.specs.declared.refused.ExplainRefused.TheVariants.{Climbs, FullSeen, NoMemory}
