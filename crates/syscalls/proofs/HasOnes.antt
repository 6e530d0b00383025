-- A call that is under way has an operation to make.
use Rattle.syscalls.proofs.Vocabulary.{ℕ, State, HasOne, lowered_has, Running, running_of, RunningFits}

pub has_running : (h : ℕ) (s : State) (m : Running) → RunningFits h s m → HasOne (running_of m)
unfolding running_of
has_running h s m fits = lowered_has m.control m.hand fits.ready
