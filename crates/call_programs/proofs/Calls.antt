-- The other calls, and so each call, ask so.
use Rattle.call_programs.proofs.Vocabulary.{◌≡◌, ◌<◌, inl, inr, ℕ, zero, suc, ◌+◌, ◌-◌, true, false, List, [], ◌∷◌, ◌++◌, length, Option, Some, None, refl, arith, Call, Reply, NotDirectory, failed, Face, Cause, is_directory_face, Lent, LoanResult, LockResult, LocksIt, NotLocked, JoinResult, Joined, NotJoined, Whole, Refused, Short, Leave, Do, Ret, unmarked, say, done, Join, Release, Version, P, checked_reply, close_on, dup_on, joined_on, read_on, stat_on, write_from, write_piece, write_program, write_reply, wrote_on, chdir_at, chdir_program, inherit_end, lend_from, lend_on, descriptor_count, piece, piece_count, CallsAskSo, Nothing, Spending, fresh, holding, loose, or_still, saw, sighting, with_more, Change, MovedOn, WroteBytes, by_double, by_shut, by_write, Double, Lend, LendDirectory, SetDirectory, Shut, wanted_to_double, wanted_to_write}
use Rattle.inode_machine.proofs.Vocabulary.{Moved, Wrote}
use Rattle.plain_tree.specs.declared.call.Call.TheVariants as calls
use Rattle.plain_tree.specs.declared.step.Action.TheVariants as steps
use Rattle.call_programs.proofs.Parts as parts
use Rattle.call_programs.proofs.Writes.{WroteBefore, a_part, none_before, one_more}
use Rattle.call_programs.proofs.LinkCalls.{link_asks}
use Rattle.call_programs.proofs.Marks.{dup_tells, join_tells, lend_tells, piece_tells, read_tells}
use Rattle.call_programs.proofs.MkdirCalls.{mkdir_asks}
use Rattle.call_programs.proofs.OpenCalls.{open_asks}
use Rattle.call_programs.proofs.Parts.{drop_asks, either, lost, lost_asks, path_asks, refused_asks, tail_asks}
use Rattle.call_programs.proofs.Pieces.{some_pieces}
use Rattle.call_programs.proofs.UnlinkCalls.{unlink_asks}

module _ (version : Version) where
  -- ---- chdir and inherit

  chdir_asks : (path : List ℕ) → parts.Asking version (calls.Chdir path) (holding [] fresh []) (chdir_program version path)
  chdir_asks path = ((λ _. refl, tt), λ _. path_asks version c [] fresh [] (lost c) (lost_asks version c refl) (steps.Chdir path) (chdir_at path) at_asks path [])
    where
      c : Call
      c = calls.Chdir path

      at_asks : (n : ℕ) (ns : List ℕ) → parts.Asking version c (holding (n ∷ []) fresh []) (chdir_at path n ns)
      at_asks n ns = (
        (λ _. refl, inl (λ a b. refl)),
        λ a. either version c (λ _. sighting (n ∷ []) fresh (saw n a) []) (is_directory_face a.face) _ _ (
          (λ _. refl, tt),
          λ old. drop_asks version c Nothing (MovedOn (SetDirectory n) ∷ []) fresh old _ (inr refl) (tail_asks version c Nothing (MovedOn (SetDirectory n) ∷ []) (record { named = old ∷ []; bound = 2 }) ns (done c) (refl, tt)),
        )
            (refused_asks version c Nothing [] fresh n ns (failed c NotDirectory) (inr refl) (refl, tt)),
      )

  module _ (child : ℕ) where
    abbrev c : Call
    c = calls.Inherit child

    inherited_asks : (cs : List Change) (old : ℕ) → parts.Asking version c (loose fresh Nothing cs) (inherit_end child old)
    inherited_asks cs old = (
      (λ _. refl, tt),
      λ _. drop_asks version c Nothing cs fresh old (Do Leave unmarked (λ _. Do (Release child) unmarked (λ _. Ret (done c)))) (inr refl) ((λ _. refl, tt), λ _. ((λ _. refl, tt), λ _. (refl, tt))),
    )

    on_asks : (again : ℕ → P Reply) → ((cs : List Change) (k : ℕ) → parts.Asking version c (loose fresh Nothing cs) (again k)) → (cs : List Change) (a : LoanResult)
        → parts.Asking version c (loose fresh Nothing cs) (lend_on child again a)
    on_asks again goes cs (Lent i true) = goes cs (i + 1)
    on_asks again goes cs (Lent i false) = ((λ _. refl, tt), λ old. inherited_asks (cs ++ MovedOn (LendDirectory child) ∷ []) old)
    on_asks again goes cs (Moved old) = inherited_asks cs old

    lend_asks : (left : ℕ) (cs : List Change) (from : ℕ) → parts.Asking version c (loose fresh Nothing cs) (lend_from child left from)
    lend_asks zero cs from = ((λ _. refl, tt), λ old. inherited_asks (cs ++ MovedOn (LendDirectory child) ∷ []) old)
    lend_asks (suc left) cs from = ((lend_tells child, tt), λ a. on_asks (lend_from child left) (λ ds k. lend_asks left ds k) (cs ++ MovedOn (Lend child from) ∷ []) a)

  -- ---- write

  module _ (fd n b : ℕ) (bs : List ℕ) where
    abbrev w : Call
    w = calls.Write fd (b ∷ bs)

    abbrev spent : ℕ → Spending
    spent k = record { named = k ∷ []; bound = 7 }

    abbrev WroteTo : ℕ → List Change → Type 0
    WroteTo i cs = WroteBefore fd (b ∷ bs) i cs

    module _ (i : ℕ) (below : i < piece_count (b ∷ bs)) (cs : List Change) (before : WroteTo i cs) (more : P Reply)
        (goes : (k : ℕ) (ds : List Change) → WroteTo (i + 1) ds → parts.Asking version w (loose (spent k) Nothing ds) more) where
      wrote_asks : (k : ℕ) (a : Wrote) → parts.Asking version w (loose (spent k) (or_still (wanted_to_write a) Nothing) (with_more cs (by_write fd (piece (b ∷ bs) i) a))) (wrote_on fd (b ∷ bs) more a)
      wrote_asks k Whole = goes k (cs ++ WroteBytes fd (piece (b ∷ bs) i) ∷ []) (one_more fd (b ∷ bs) i cs before)
      wrote_asks k (Refused why) = ((λ _. refl, tt), λ _. (refl, tt))
      wrote_asks k (Short j) = ((λ _. refl, tt), λ _. (refl, (refl, a_part fd (b ∷ bs) i cs before j)))

      piece_asks : parts.Asking version w (loose fresh Nothing cs) (write_piece fd n (b ∷ bs) i more)
      piece_asks = (
        (λ _. refl, λ a b. refl),
        λ at. ((piece_tells fd (piece (b ∷ bs) i), ((omega arith, (i, below, refl)), (inr refl, refl))), λ a. ((λ _. refl, tt), λ _. wrote_asks at.0 a)),
      )

    from_asks : (left i : ℕ) (cs : List Change) → WroteTo i cs → i + left + 1 ≡ piece_count (b ∷ bs) → parts.Asking version w (loose fresh Nothing cs) (write_from fd n (b ∷ bs) left i)
    from_asks zero i cs before e = piece_asks i (omega (arith, e)) cs before (say (write_reply fd (b ∷ bs))) (λ k ds wrote. ((λ _. refl, tt), λ _. (refl, tt)))
    from_asks (suc left) i cs before e =
        piece_asks i (omega (arith, e)) cs before (Do Join unmarked (λ _. write_from fd n (b ∷ bs) left (i + 1))) (λ k ds wrote. ((λ _. refl, tt), λ _. from_asks left (i + 1) ds wrote (omega (arith, e))))

  joined_asks : (fd b : ℕ) (bs : List ℕ) (a : JoinResult) → parts.Asking version (calls.Write fd (b ∷ bs)) (loose fresh Nothing []) (joined_on fd (b ∷ bs) a)
  joined_asks fd b bs (NotJoined why) = (refl, tt)
  joined_asks fd b bs (Joined n) = from_asks fd n b bs (piece_count (b ∷ bs) - 1) 0 [] (none_before fd (b ∷ bs)) (some_pieces b bs)

  checked_asks : (fd : ℕ) (o : Option Cause) → parts.Fine version (calls.Write fd []) Nothing [] (checked_reply fd o)
  checked_asks fd None = (refl, tt)
  checked_asks fd (Some why) = (refl, tt)

  write_asks : (fd : ℕ) (bytes : List ℕ) → parts.Asking version (calls.Write fd bytes) (holding [] fresh []) (write_program fd bytes)
  write_asks fd [] = ((λ _. refl, tt), λ o. checked_asks fd o)
  write_asks fd (b ∷ bs) = ((join_tells fd (piece (b ∷ bs) 0), tt), λ a. joined_asks fd b bs a)

  -- ---- what is done on a descriptor

  dup_asks : (fd : ℕ) (a : Option (Option ℕ)) → parts.Asking version (calls.Dup fd) (loose fresh (or_still (wanted_to_double a) Nothing) (with_more [] (by_double (Double fd) a))) (dup_on fd a)
  dup_asks fd None = (refl, tt)
  dup_asks fd (Some None) = ((λ _. refl, tt), λ _. (refl, (refl, refl)))
  dup_asks fd (Some (Some f)) = ((λ _. refl, tt), λ _. (refl, tt))

  close_asks : (fd : ℕ) (a : Option (Option ℕ)) → parts.Asking version (calls.Close fd) (loose fresh Nothing (with_more [] (by_shut (Shut fd) a))) (close_on fd a)
  close_asks fd None = (refl, tt)
  close_asks fd (Some None) = ((λ _. refl, tt), λ _. (refl, tt))
  close_asks fd (Some (Some n)) = (
    (λ _. refl, tt),
    λ _. drop_asks version (calls.Close fd) Nothing (MovedOn (Shut fd) ∷ []) fresh n (Do Leave unmarked (λ _. say (done (calls.Close fd)))) (inr refl)
        ((λ _. refl, tt), λ _. ((λ _. refl, tt), λ _. (refl, tt))),
  )

  stat_asks : (fd : ℕ) (a : Option (ℕ × Face)) → parts.Asking version (calls.Fstat fd) (loose fresh Nothing []) (stat_on fd a)
  stat_asks fd None = (refl, tt)
  stat_asks fd (Some p) = ((λ _. refl, tt), λ _. ((λ _. refl, tt), λ _. (refl, tt)))

  read_asks : (fd : ℕ) (buffer : List ℕ) (a : LockResult) → parts.Asking version (calls.Read fd buffer) (loose fresh Nothing []) (read_on fd buffer a)
  read_asks fd buffer (NotLocked why) = (tt, tt)
  read_asks fd buffer (LocksIt n offset) = ((λ _. refl, tt), λ b. ((λ _. refl, tt), λ _. (tt, tt)))

  pub calls_ask : CallsAskSo version
  calls_ask (calls.Open path flags) = open_asks version path flags
  calls_ask (calls.Read fd buffer) = ((read_tells fd (length buffer), (tt, λ n k offset at. refl)), λ a. read_asks fd buffer a)
  calls_ask (calls.Write fd bytes) = write_asks fd bytes
  calls_ask (calls.Link old new) = link_asks version old new
  calls_ask (calls.Unlink path) = unlink_asks version path
  calls_ask (calls.Mkdir path) = mkdir_asks version path
  calls_ask (calls.Chdir path) = chdir_asks path
  calls_ask (calls.Dup fd) = ((dup_tells fd, tt), λ a. dup_asks fd a)
  calls_ask (calls.Fstat fd) = ((λ _. refl, λ a b. refl), λ a. stat_asks fd a)
  calls_ask (calls.Close fd) = ((λ _. refl, tt), λ a. close_asks fd a)
  calls_ask (calls.Inherit child) = lend_asks child descriptor_count [] 0
