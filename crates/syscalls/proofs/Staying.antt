-- What a call under way has in hand stays its hart's while another hart makes a step.
use Rattle.syscalls.proofs.Vocabulary.{◌≢◌, ℕ, sym, ◌∙◌, LeavesAll, State, IsOwn, IsOwnInode, LeavesTied, hand-stays, Running, RunningFits}

-- hart g steps from s to t, and hart h is another one
module _ (h g : ℕ) (s t : State) (other : h ≢ g) (leaves : LeavesTied g s t) where
  buffers : LeavesAll (IsOwn h) s t
  buffers = λ b guard own. record { hand = own.hand; block = own.block; tied = leaves.buffers guard (λ e. other (sym own.hand ∙ e)) own.tied }

  inodes : LeavesAll (IsOwnInode h) s t
  inodes = λ n guard own. record { hand = own.hand; number = own.number; locked = leaves.inodes guard (λ e. other (sym own.hand ∙ e)) own.locked }

  pub stays : (m : Running) → RunningFits h s m → RunningFits h t m
  stays m fits = record { ready = fits.ready; fits = hand-stays h s t m.hand fits.fits buffers inodes }
