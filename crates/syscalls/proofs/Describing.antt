-- dup, read and write run with nothing in hand.
use Rattle.syscalls.proofs.Vocabulary.{ℕ, zero, suc, ◌+◌, ◌-◌, List, [], ◌∷◌, Option, Some, None, true, false, refl, BadDescriptor, Blocks, Descriptors, Reply, piece_count, Do, unmarked, IsEmpty, checked_reply, dup_on, dup_program, joined_on, read_on, read_program, read_reply, write_from, write_piece, write_program, write_reply, wrote_on, P, failed, full, say, BeginsWith, HasOpened, MayOpen, Having, Leaves, LearnsFile, Runs, Version}
use Rattle.plain_tree.specs.declared.answer.Answer.TheVariants as answers
use Rattle.plain_tree.specs.declared.call.Call.TheVariants as calls
use Rattle.inode_machine.specs.World as above
use Rattle.syscalls.proofs.Basics.{Around, Held, InHand, Nothing, Opens, empty_in, at_its_lock, gave, lock_found, no_txn, none_locked, opened, stays, txn_joined, unlearned, ends, join_runs, leave_runs, say_ends}
use Rattle.syscalls.proofs.Running as running

module _ (version : Version) (path : List ℕ) where
  abbrev R : P Reply → Having → Type 0
  R p s = running.R version path p s

  abbrev From : Around → Held → Held → P Reply → Type 0
  From t x y p = running.From version path t x y p

  -- with nothing in hand
  abbrev From0 : P Reply → Type 0
  From0 p = From (false, [], None) Nothing Nothing p

  -- ---- dup

  doubles_on : (fd : ℕ) (a : Option (Option ℕ)) → From0 (dup_on fd a)
  doubles_on fd None = ends version path (failed (calls.Dup fd) BadDescriptor)
  doubles_on fd (Some None) = say_ends version path (full (calls.Dup fd) Descriptors)
  doubles_on fd (Some (Some f)) = say_ends version path (record { answer = answers.Fd f; call = calls.Dup fd })

  doubles : (fd : ℕ) → From0 (dup_program fd)
  unfolding Runs
  doubles fd s held = (tt, λ a u e. doubles_on fd a u (stays (false, [], None) Nothing Nothing s u held e.0 e.1))

  -- ---- a descriptor's inode locked

  module _ (t : Around) (s u : Having) (held : InHand t Nothing Nothing s) where
    may_open : MayOpen s.hand
    may_open = let none = none_locked t s s held in (none.0, none.1, held.1.buffers)

  -- its lock is in hand, without a reference
  has_opened : (t : Around) (fd n offset : ℕ) (s : Having) → InHand t (Opens n) Nothing s → LearnsFile fd n offset s → HasOpened fd n offset s
  has_opened t fd n offset s held learned =
      let at = at_its_lock t Nothing s s n tt (Opens n) held.0 held.1 held.1.here.1 in
      (lock_found t Nothing s s n tt (Opens n) held.0 held.1 held.1.here.1, at.here.2, at.buffers, learned, at.there.1)

  -- .. and is given up
  gives : (t : Around) (n : ℕ) (s u : Having) → InHand t (Opens n) Nothing s → Leaves version path (above.UnlockInode n) tt s u → InHand t Nothing Nothing u
  gives t n s u held e = gave t Nothing s u n tt (Opens n) held.0 held.1 held.1.here.1 Nothing e.0 e.1 (λ o. ((at_its_lock t Nothing s u n tt (Opens n) held.0 held.1 held.1.here.1).here.0, refl))

  -- ---- read

  reads : (fd : ℕ) (buffer : List ℕ) (s u : Having) → InHand (false, [], None) Nothing Nothing s → (a : above.LockResult) → Leaves version path (above.LockFile fd) a s u → R (read_on fd buffer a) u
  unfolding Runs
  reads fd buffer s u held (above.NotLocked c) e = ends version path (failed (calls.Read fd buffer) c) u (unlearned (false, [], None) s u held e.0)
  reads fd buffer s u held (above.LocksIt n offset) e =
      let is = opened (false, [], None) s u held n e.0 in
      (has_opened (false, [], None) fd n offset u is e.1, λ b v left. say_ends version path (read_reply fd buffer b) v (gives (false, [], None) n u v is left))

  reads_all : (fd : ℕ) (buffer : List ℕ) → From0 (read_program fd buffer)
  unfolding Runs
  reads_all fd buffer s held = (may_open (false, [], None) s s held, λ a u e. reads fd buffer s u held a e)

  -- ---- write

  module _ (fd : ℕ) (bytes : List ℕ) (more : P Reply) (more_runs : From0 more) where
    wrote : (a : above.Wrote) → From0 (wrote_on fd bytes more a)
    wrote above.Whole = more_runs
    wrote (above.Refused c) = say_ends version path (failed (calls.Write fd bytes) c)
    wrote (above.Short k) = say_ends version path (full (calls.Write fd bytes) Blocks)

    writes_piece : (n i : ℕ) → From (true, [], None) Nothing Nothing (write_piece fd n bytes i more)
    unfolding Runs
    writes_piece n i s held = (
      may_open (true, [], None) s s held,
      λ at u e. (
          let is = opened (true, [], None) s u held at.0 e.0 in (
            (has_opened (true, [], None) fd at.0 at.1 u is e.1, is.1.txn),
            λ a v left. leave_runs version path unmarked (λ _. wrote_on fd bytes more a) [] Nothing Nothing (wrote a) v (gives (true, [], None) at.0 u v is left),
          )),
    )

  module _ (fd n : ℕ) (bytes : List ℕ) where
    writes_from : (left i : ℕ) → From (true, [], None) Nothing Nothing (write_from fd n bytes left i)
    writes_from zero i = writes_piece fd bytes (say (write_reply fd bytes)) (say_ends version path (write_reply fd bytes)) n i
    writes_from (suc left) i =
        let more : P Reply = Do above.Join unmarked (λ _. write_from fd n bytes left (i + 1)) in
        writes_piece fd bytes more (join_runs version path unmarked (λ _. write_from fd n bytes left (i + 1)) [] Nothing Nothing (writes_from left (i + 1))) n i

  joins_on : (fd : ℕ) (bytes : List ℕ) (s u : Having) → InHand (false, [], None) Nothing Nothing s → (a : above.JoinResult) → Leaves version path (above.JoinFile fd) a s u → R (joined_on fd bytes a) u
  joins_on fd bytes s u held (above.NotJoined c) e = ends version path (failed (calls.Write fd bytes) c) u (stays (false, [], None) Nothing Nothing s u held e.0 e.1)
  joins_on fd bytes s u held (above.Joined n) e = writes_from fd n bytes (piece_count bytes - 1) 0 u (txn_joined [] Nothing Nothing s u held e.0 e.1)

  writes_all : (fd : ℕ) (bytes : List ℕ) → From0 (write_program fd bytes)
  unfolding Runs
  writes_all fd [] s held = (tt, λ o u e. ends version path (checked_reply fd o) u (stays (false, [], None) Nothing Nothing s u held e.0 e.1))
  writes_all fd (b ∷ bs) s held = (no_txn [] Nothing Nothing s held, λ a u e. joins_on fd (b ∷ bs) s u held a e)

  -- ---- from an empty hand

  module _ (s : Having) (empty : IsEmpty s.hand) where
    pub dup_runs : (fd : ℕ) → Runs version path (BeginsWith version path) (dup_program fd) s
    dup_runs fd = doubles fd s (empty_in s empty)

    pub read_runs : (fd : ℕ) (buffer : List ℕ) → Runs version path (BeginsWith version path) (read_program fd buffer) s
    read_runs fd buffer = reads_all fd buffer s (empty_in s empty)

    pub write_runs : (fd : ℕ) (bytes : List ℕ) → Runs version path (BeginsWith version path) (write_program fd bytes) s
    write_runs fd bytes = writes_all fd bytes s (empty_in s empty)
