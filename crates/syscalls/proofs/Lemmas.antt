-- What the proofs of this crate's functions use: its lemmas, and what they speak of.
pub use Rattle.syscalls.proofs.Vocabulary.{Bool, Call, IsCall, IsEmpty, MatchOption, None, Option, Reply, Running, Some, Version, [], ap, call_at, refl, subst, sym, ◌++◌, ◌∙◌, ◌≡◌}
unfoldable pub use Rattle.syscalls.proofs.Vocabulary.{running_of}
pub use Rattle.syscalls.specs.Vocabulary.{Done, Ran, RunsByParts, Stopped, Waits, path_of, state_of}
pub use Rattle.syscalls.proofs.Closing.{close_runs, inherit_runs, stat_runs}
pub use Rattle.syscalls.proofs.Describing.{dup_runs, read_runs, write_runs}
pub use Rattle.syscalls.proofs.Linking.{link_runs}
pub use Rattle.syscalls.proofs.Making.{mkdir_runs}
pub use Rattle.syscalls.proofs.Opening.{open_runs}
pub use Rattle.syscalls.proofs.Unlinking.{unlink_runs}
pub use Rattle.syscalls.proofs.Walking.{chdir_runs}
pub use Rattle.fs_machine.proofs.Stepping.{bare-fits}
pub use Rattle.fs_machine.specs.Machines.{MayNext}
pub use Rattle.path_walk.specs.Asks.{reply_to}
pub use Rattle.syscalls.proofs.Places.{busy_is, busy_on, has_nothing, idle_is, nothing_fits}
pub use Rattle.syscalls.specs.Machines.{heard_of}
pub use Rattle.syscalls.specs.Places.{StepsAt}
pub use Rattle.whole_calls.specs.Wholes.{call_in}
