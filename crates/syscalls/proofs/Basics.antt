-- The lemmas that most of this crate's other lemmas use.
pub use Rattle.syscalls.proofs.Holdings.{at_its_lock, forget_found, forgot, found, free_found, gave, install_found, installed, lock_found, locked, locked_seat, may_refer, no_txn, none_locked, opened, referred, reloaded, stays, take_found, txn_joined, unlearned, upped}
pub use Rattle.syscalls.proofs.Names.{AllNames, path_names}
pub use Rattle.syscalls.proofs.Running.{drop_runs, ends, give_opened_runs, give_runs, give_up_runs, join_runs, leave_runs, release_runs, say_ends}
pub use Rattle.syscalls.proofs.Seats.{Apart, Around, Finds, Held, HeldAt, InHand, Locks, Nothing, Opens, Refers, empty_in, swapped}
pub use Rattle.syscalls.proofs.Walking.{all_of, beside_it, came, fresh, from_none, in_parent_runs, look_runs, start_runs, tail_runs, take_runs, turned, walk_parent_runs, walk_runs}
