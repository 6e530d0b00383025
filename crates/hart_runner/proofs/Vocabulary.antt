-- What this crate's proofs speak of: its own definitions, and what the crates below and the library call things.
pub use Rattle.hart_core.proofs.Vocabulary.{List, Some, [], ap, arith, get_or-append_seam, length, length-map, map, refl, slice_get, subst, sym, take, ℕ, ◌++◌, ◌+◌, ◌<◌, ◌∙◌, ◌∷◌, ◌≡◌, ◌≢◌, ◌≤◌}
pub use Rattle.locked_world.proofs.Vocabulary.{StoredRun, replies_of, slice_get_read, slice_index_or}
pub use Rattle.hart_runner.specs.Seats.{Differs, IsListed, OneDiffers, SeatV, kept_of, kept_view}
pub use Rattle.std.proofs.Common.{All}
pub use Rattle.block_device.specs.declared.device.Device.{Ghosts as DeviceGhosts}
pub use Rattle.hart_runner.specs.declared.kernel.Kept.{Kept}
pub use Rattle.std.proofs.Crossing.{crosses}
pub use Rattle.std.proofs.lemmas.List.{get_or-map, length-append, take_all}
pub use Rattle.std.proofs.lemmas.List.Elements.{All-more, Contains-get_or}
pub use Rattle.std.specs.declared.sync.ledger.Ledger.{Ghosts as LedgerGhosts}
pub use Rattle.plain_tree.specs.declared.answer.Reply.{Reply}
