-- close, fstat and inherit run with nothing in hand.
use Rattle.syscalls.proofs.Vocabulary.{ℕ, zero, suc, ◌+◌, List, [], true, false, Option, Some, None, BadDescriptor, Reply, descriptor_count, Ret, Do, unmarked, IsEmpty, close_on, close_program, stat_on, stat_program, stat_reply, Face, inherit_end, inherit_program, lend_from, lend_on, lent_directory, P, done, drop, failed, say, BeginsWith, Having, Leaves, Runs, Version}
use Rattle.plain_tree.specs.declared.call.Call.TheVariants as calls
use Rattle.inode_machine.specs.World as above
use Rattle.syscalls.proofs.Basics.{InHand, Nothing, Refers, empty_in, free_found, none_locked, opened, referred, stays, unlearned, drop_runs, ends, give_opened_runs, join_runs, leave_runs, release_runs, say_ends}
use Rattle.syscalls.proofs.Running as running

-- these calls have no path
module _ (version : Version) (path : List ℕ) where
  -- from nothing in hand on it runs
  abbrev From0 : P Reply → Type 0
  From0 p = running.From version path (false, [], None) Nothing Nothing p

  abbrev R : P Reply → Having → Type 0
  R p s = running.R version path p s

  -- ---- close

  -- after the last descriptor there is the open file's reference
  closes : (fd n : ℕ) → running.From version path (false, [], None) (Refers n) Nothing (Do above.Join unmarked (λ _. drop n (Do above.Leave unmarked (λ _. say (done (calls.Close fd))))))
  closes fd n =
      let rest : P Reply = Do above.Leave unmarked (λ _. say (done (calls.Close fd))) in
      join_runs version path unmarked (λ _. drop n rest) [] (Refers n) Nothing
      (drop_runs version path [] n Nothing tt rest (leave_runs version path unmarked (λ _. say (done (calls.Close fd))) [] Nothing Nothing (say_ends version path (done (calls.Close fd)))))

  closes_on : (fd : ℕ) (s u : Having) → InHand (false, [], None) Nothing Nothing s → (a : Option (Option ℕ)) → Leaves version path (above.Shut fd) a s u → R (close_on fd a) u
  closes_on fd s u held None e = ends version path (failed (calls.Close fd) BadDescriptor) u (stays (false, [], None) Nothing Nothing s u held e.0 e.1)
  closes_on fd s u held (Some None) e = say_ends version path (done (calls.Close fd)) u (stays (false, [], None) Nothing Nothing s u held e.0 e.1)
  closes_on fd s u held (Some (Some n)) e = closes fd n u (referred (false, [], None) Nothing s u tt held n e.0 e.1)

  closes_all : (fd : ℕ) → From0 (close_program fd)
  unfolding Runs
  closes_all fd s held = (free_found (false, [], None) Nothing s s tt held, λ a u e. closes_on fd s u held a e)

  -- ---- fstat

  -- the lock of the descriptor's inode is in hand, without a reference
  tells : (fd : ℕ) (s u : Having) → InHand (false, [], None) Nothing Nothing s → (a : Option (ℕ × Face)) → Leaves version path (above.StatFile fd) a s u → R (stat_on fd a) u
  tells fd s u held None e = ends version path (failed (calls.Fstat fd) BadDescriptor) u (unlearned (false, [], None) s u held e.0)
  tells fd s u held (Some p) e = give_opened_runs version path unmarked (λ _. say (stat_reply fd p.0 p.1)) (false, [], None) p.0 Nothing tt (say_ends version path (stat_reply fd p.0 p.1)) u (opened (false, [], None) s u held p.0 e.0)

  stats : (fd : ℕ) → From0 (stat_program fd)
  unfolding Runs
  stats fd s held = let none = none_locked (false, [], None) s s held in ((none.0, none.1, held.1.buffers), λ a u e. tells fd s u held a e)

  -- ---- inherit

  -- the reference to the child's old directory is in hand
  lent_all : (child old : ℕ) → running.From version path (false, [], None) (Refers old) Nothing (inherit_end child old)
  lent_all child old =
      let release : P Reply = Do (above.Release child) unmarked (λ _. Ret (done (calls.Inherit child))) in
      let leave : P Reply = Do above.Leave unmarked (λ _. release) in
      join_runs version path unmarked (λ _. drop old leave) [] (Refers old) Nothing
      (drop_runs version path [] old Nothing tt leave (leave_runs version path unmarked (λ _. release) [] Nothing Nothing
      (release_runs version path unmarked (λ _. Ret (done (calls.Inherit child))) (false, [], None) Nothing Nothing child (ends version path (done (calls.Inherit child))))))

  lends_directory : (child : ℕ) → From0 (lent_directory child)
  unfolding Runs
  lends_directory child s held = (free_found (false, [], None) Nothing s s tt held, λ a u e. lent_all child a u (referred (false, [], None) Nothing s u tt held a e.0 e.1))

  lends_on : (child from : ℕ) (again : ℕ → P Reply) → ((from : ℕ) → From0 (again from)) → (s u : Having) → InHand (false, [], None) Nothing Nothing s → (a : above.LoanResult) → Leaves version path (above.Lend child from) a s u → R (lend_on child again a) u
  lends_on child from again on s u held (above.Lent i true) e = on (i + 1) u (stays (false, [], None) Nothing Nothing s u held e.0 e.1)
  lends_on child from again on s u held (above.Lent i false) e = lends_directory child u (stays (false, [], None) Nothing Nothing s u held e.0 e.1)
  lends_on child from again on s u held (above.Moved old) e = lent_all child old u (referred (false, [], None) Nothing s u tt held old e.0 e.1)

  lends_from : (child left from : ℕ) → From0 (lend_from child left from)
  unfolding Runs
  lends_from child zero from = lends_directory child
  lends_from child (suc left) from = λ s held. (free_found (false, [], None) Nothing s s tt held, λ a u e. lends_on child from (lend_from child left) (lends_from child left) s u held a e)

  -- ---- from an empty hand

  module _ (s : Having) (empty : IsEmpty s.hand) where
    pub close_runs : (fd : ℕ) → Runs version path (BeginsWith version path) (close_program fd) s
    close_runs fd = closes_all fd s (empty_in s empty)

    pub stat_runs : (fd : ℕ) → Runs version path (BeginsWith version path) (stat_program fd) s
    stat_runs fd = stats fd s (empty_in s empty)

    pub inherit_runs : (child : ℕ) → Runs version path (BeginsWith version path) (inherit_program child) s
    inherit_runs child = lends_from child descriptor_count 0 s (empty_in s empty)
