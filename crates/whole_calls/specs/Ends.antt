-- The rest of a call that ends.
use Rattle.std.specs.Prelude.{ℕ, Bool, true, false, List, Some}
use Rattle.whole_calls.specs.Vocabulary.{Reply, Call, Do, unmarked, AtNothing, Take, UnlockInode, Free, Forget, Leave, Frees, P, drop, give_up, free_listed, free_all, tail, say, reply_to}
use Rattle.whole_calls.specs.declared.dropping.Dropping.{Dropping}
use Rattle.whole_calls.specs.declared.dropping.Dropping.TheVariants as dropping
use Rattle.whole_calls.specs.declared.ending.Freeing.{Freeing}
use Rattle.whole_calls.specs.declared.ending.Freeing.TheVariants as freeing
use Rattle.whole_calls.specs.declared.ending.Ending.{Ending}
use Rattle.whole_calls.specs.declared.ending.Ending.TheVariants as ending

-- ---- a reference is dropped, and then k

abbrev pub freed : ℕ → P Reply → P Reply
freed n k = Do (Forget n) unmarked (λ _. k)

abbrev pub freed_locked : ℕ → P Reply → P Reply
freed_locked n k = Do (UnlockInode n) unmarked (λ _. freed n k)

abbrev pub dropping_of : P Reply → Dropping → P Reply
dropping_of k (dropping.UnlockInode n) = give_up n k
dropping_of k (dropping.Down n) = drop n k
dropping_of k (dropping.Free n) = Do (Free n) (λ _. Some (Frees n)) (λ _. freed_locked n k)
dropping_of k (dropping.GiveFreed n) = freed_locked n k
dropping_of k (dropping.Forget n) = freed n k

-- after a step, with the drop as the step left it, and over or not
abbrev pub after_drop : P Reply → Dropping → Bool → P Reply
after_drop k d true = k
after_drop k d false = dropping_of k d

-- ---- an inode of the list is freed, and then k

abbrev pub freeing_of : P Reply → Freeing → P Reply
freeing_of k (freeing.Join n) = free_listed n k
freeing_of k (freeing.Take n) = Do (Take n AtNothing) unmarked (λ _. dropping_of (Do Leave unmarked (λ _. k)) (dropping.Free n))
freeing_of k (freeing.Frees d) = dropping_of (Do Leave unmarked (λ _. k)) d
freeing_of k freeing.Leave = Do Leave unmarked (λ _. k)

abbrev pub after_free : P Reply → Freeing → Bool → P Reply
after_free k f true = k
after_free k f false = freeing_of k f

-- ---- the end of a call: what it has in hand is given up; its transaction is left; the inodes of its list are freed; and it replies

abbrev pub ending_of : Call → List ℕ → Ending → P Reply
ending_of call ns (ending.GivesTwo d n a) = dropping_of (give_up n (tail ns (reply_to call a))) d
ending_of call ns (ending.Gives d a) = dropping_of (tail ns (reply_to call a)) d
ending_of call ns (ending.Leaves a) = tail ns (reply_to call a)
ending_of call ns (ending.Frees f a) = freeing_of (free_all ns (say (reply_to call a))) f
ending_of call ns (ending.Says a) = say (reply_to call a)
