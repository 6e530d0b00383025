-- Programs within calls run with what they need in hand: for every program after them.
use Rattle.syscalls.proofs.Vocabulary.{ℕ, List, [], Bool, true, false, Option, Some, None, refl, ap, if◌then◌else◌, Reply, Ret, Do, unmarked, P, drop, give_up, say, Frees, note_at, other, seat_of_reference, BeginsWith, Having, Leaves, Runs, Version}
use Rattle.inode_machine.specs.World as above
use Rattle.syscalls.proofs.Seats.{Apart, Around, Freed, Held, InHand, Locks, Nothing, Opens, Refers, in_empty}
use Rattle.syscalls.proofs.Holdings.{at_its_lock, down_found, dropped, gave, joined, left, lock_found, locked, no_txn, reference_found, reloaded, stays}

module _ (version : Version) (path : List ℕ) where
  abbrev pub R : P Reply → Having → Type 0
  R p s = Runs version path (BeginsWith version path) p s

  -- from what is in hand on, this program runs
  abbrev pub From : Around → Held → Held → P Reply → Type 0
  From t x y p = (s : Having) → InHand t x y s → R p s

  -- ---- one operation, and then k

  module _ (m : Unit {0} → Option above.Mark) (k : Unit {0} → P Reply) where
    pub join_runs : (ns : List ℕ) (x y : Held) → From (true, ns, None) x y (k tt) → From (false, ns, None) x y (Do above.Join m k)
    unfolding Runs
    join_runs ns x y on s held = (no_txn ns x y s held, λ a u e. on u (joined version ns x y s u held e))

    pub leave_runs : (ns : List ℕ) (x y : Held) → From (false, ns, None) x y (k tt) → From (true, ns, None) x y (Do above.Leave m k)
    unfolding Runs
    leave_runs ns x y on s held = (held.1.txn, λ a u e. on u (left version ns x y s u held e))

    pub say_runs : (t : Around) (x y : Held) → From t x y (k tt) → From t x y (Do above.Say m k)
    unfolding Runs
    say_runs t x y on s held = (tt, λ a u e. on u (stays t x y s u held e.0 e.1))

    pub release_runs : (t : Around) (x y : Held) (child : ℕ) → From t x y (k tt) → From t x y (Do (above.Release child) m k)
    unfolding Runs
    release_runs t x y child on s held = (tt, λ a u e. on u (stays t x y s u held e.0 e.1))

    module _ (t : Around) (n : ℕ) (y : Held) (apart : Apart n y) where
      pub give_runs : From t (Refers n) y (k tt) → From t (Locks n) y (Do (above.UnlockInode n) m k)
      unfolding Runs
      give_runs on s held = (
        lock_found t y s s n apart (Locks n) held.0 held.1 held.1.here.1,
        λ a u e. on u (gave t y s u n apart (Locks n) held.0 held.1 held.1.here.1 (Refers n) e.0 e.1 (λ o. ((at_its_lock t y s u n apart (Locks n) held.0 held.1 held.1.here.1).here.0, refl))),
      )

      pub give_freed_runs : From t (Refers n) y (k tt) → From t (Freed n) y (Do (above.UnlockInode n) m k)
      unfolding Runs
      give_freed_runs on s held = (
        lock_found t y s s n apart (Freed n) held.0 held.1 held.1.here.1,
        λ a u e. on u (gave t y s u n apart (Freed n) held.0 held.1 held.1.here.1 (Refers n) e.0 e.1 (λ o. ((at_its_lock t y s u n apart (Freed n) held.0 held.1 held.1.here.1).here.0, refl))),
      )

      pub give_opened_runs : From t Nothing y (k tt) → From t (Opens n) y (Do (above.UnlockInode n) m k)
      unfolding Runs
      give_opened_runs on s held = (
        lock_found t y s s n apart (Opens n) held.0 held.1 held.1.here.1,
        λ a u e. on u (gave t y s u n apart (Opens n) held.0 held.1 held.1.here.1 Nothing e.0 e.1 (λ o. ((at_its_lock t y s u n apart (Opens n) held.0 held.1 held.1.here.1).here.0, refl))),
      )

      pub forget_runs : From t Nothing y (k tt) → From t (Refers n) y (Do (above.Forget n) m k)
      unfolding Runs
      forget_runs on s held = (reference_found t y s s n apart held, λ a u e. on u (dropped t y s u n apart held e.0 (ap (note_at (other (seat_of_reference n s.hand))) e.1)))

    pub free_runs : (ns : List ℕ) (n : ℕ) (y : Held) → Apart n y → From (true, ns, None) (Freed n) y (k tt) → From (true, ns, None) (Locks n) y (Do (above.Free n) m k)
    unfolding Runs
    free_runs ns n y apart on s held =
        let at = at_its_lock (true, ns, None) y s s n apart (Locks n) held.0 held.1 held.1.here.1 in (
          (lock_found (true, ns, None) y s s n apart (Locks n) held.0 held.1 held.1.here.1, at.here.2, at.txn, at.buffers),
          λ a u e. on u (reloaded (true, ns, None) y s u n apart (Locks n) held.0 held.1 held.1.here.1 (Freed n) e.0 e.1 (λ is. (at.here.0, is))),
        )

  -- ---- a reference is dropped, within a transaction

  module _ (ns : List ℕ) (n : ℕ) (y : Held) (apart : Apart n y) (k : P Reply) (on : From (true, ns, None) Nothing y k) where
    abbrev freed : P Reply
    freed = Do (above.Free n) (λ _. Some (Frees n)) (λ _. Do (above.UnlockInode n) unmarked (λ _. Do (above.Forget n) unmarked (λ _. k)))

    pub free_all_runs : From (true, ns, None) (Locks n) y freed
    free_all_runs = free_runs (λ _. Some (Frees n)) (λ _. Do (above.UnlockInode n) unmarked (λ _. Do (above.Forget n) unmarked (λ _. k))) ns n y apart
        (give_freed_runs unmarked (λ _. Do (above.Forget n) unmarked (λ _. k)) (true, ns, None) n y apart
        (forget_runs unmarked (λ _. k) (true, ns, None) n y apart on))

    dropped_on : (s u : Having) → InHand (true, ns, None) (Refers n) y s → (a : Bool) → Leaves version path (above.Down n) a s u → R (if a then freed else k) u
    dropped_on s u held true e = free_all_runs u (locked (true, ns, None) y s u n apart held e.0 e.1)
    dropped_on s u held false e = on u (dropped (true, ns, None) y s u n apart held e.0 e.1)

    pub drop_runs : From (true, ns, None) (Refers n) y (drop n k)
    unfolding Runs
    drop_runs s held = (down_found (true, ns, None) y s s n apart held, λ a u e. dropped_on s u held a e)

    -- the lock is given up before
    pub give_up_runs : From (true, ns, None) (Locks n) y (give_up n k)
    give_up_runs = give_runs unmarked (λ _. drop n k) (true, ns, None) n y apart drop_runs

  -- ---- the end of a call

  pub ends : (r : Reply) → From (false, [], None) Nothing Nothing (Ret r)
  unfolding Runs
  ends r s held = in_empty s held

  pub say_ends : (r : Reply) → From (false, [], None) Nothing Nothing (say r)
  say_ends r = say_runs unmarked (λ _. Ret r) (false, [], None) Nothing Nothing (ends r)
