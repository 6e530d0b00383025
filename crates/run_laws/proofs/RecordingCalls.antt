-- What a call records in its transactions: at most ten blocks in each.
use Rattle.run_laws.proofs.Vocabulary.{◌≡◌, ◌≤◌, ◌+◌, ◌-◌, ℕ, zero, suc, true, List, [], ◌∷◌, Option, None, refl, sym, subst, arith, Super, Blocks, Reply, Call, Cause, piece, piece_count, one_if, AfterLeave, Ret, Do, unmarked, holding, lowered, after_leave, HasRoom, Spent, size, spent_after, unspent, with_bitmap, with_contents, with_record, checked_reply, joined_on, refused_to, write_from, write_piece, write_program, write_reply, writes, wrote_on, P as Above, failed, full, own_step, say, program, machine, JoinResult, Joined, NotJoined, Refused, Short, Whole, Wrote, Take, UnlockInode, UpStart, Up, WalkDown, Down, Free, Forget, Claim, Store, Fill, Enter, Clear, Empty, Slot, Install, StatFile, LockFile, ReadFile, CheckFile, JoinFile, LockOpen, WriteFile, Double, Shut, SetDirectory, Lend, LendDirectory, Release, Join, Leave, Say, transactions_are_small, join, join_file, leave, Carry, nothing, handlers, layer, is_served, AreAtMostTen, recorded_after}
use Rattle.plain_tree.specs.declared.call.Call.TheVariants as calls
use Rattle.plain_tree.specs.declared.step.Action.TheVariants as actions
use Rattle.fs_machine.specs.Steps as steps
use Rattle.inode_machine.specs.World as above
use Rattle.run_laws.proofs.CallFits.{call_fits, most_written, piece_few}
use Rattle.run_laws.proofs.Fits.{AllFit, AllFitUpTo, Fits}
use Rattle.run_laws.proofs.Recording.{Covers, Recorded, StaysSmall, Within, ended, quiet, small_bind, small_of, then_}
use Rattle.run_laws.proofs.RecordingParts.{claims_inode, clears, empties, frees_inode, locks_file, locks_open, no_commit, reads_file, stats, stores, takes}
use Rattle.run_laws.proofs.RecordingWrites.{enters, fills, writes_piece}

few_at_first : size unspent ≤ 10
unfolding one_if
few_at_first = let z : 0 ≤ 10 = omega arith in z

few_written : (n : ℕ) → size (with_record n (with_bitmap (with_contents 8 unspent))) ≤ 10
unfolding one_if
few_written n = let z : 10 ≤ 10 = omega arith in z

module _ (sizes : Super) where
  -- ---- operations

  module _ (s : Spent) (few : size s ≤ 10) (c : Carry) where
    joins : (m : Unit {0} → Option above.Mark) → Within sizes s (join c m) unspent
    joins m = record { stays = λ o covers. (small_of sizes o s covers few, λ apart a. omega arith) }

    joins_file : (fd : ℕ) (m : JoinResult → Option above.Mark) → Within sizes s (join_file fd c m) unspent
    joins_file fd m = record { stays = λ o covers. (small_of sizes o s covers few, λ apart a. by o apart a) }
      where
        by : (o : Recorded) → o ≡ None → (a : steps.JoinResult) → Covers sizes (recorded_after (steps.JoinToWrite fd) a o) unspent
        by o apart (steps.RefusesJoin why) = subst (λ (z : Recorded). Covers sizes z unspent) (sym apart) tt
        by o apart (steps.Joins n) = omega arith

    leaves : (m : Unit {0} → Option above.Mark) → Within sizes s (leave c m) s
    leaves m = record { stays = λ o covers. (small_of sizes o s covers few, λ _ a. (rest a).stays None tt) }
      where
        rest : (a : AfterLeave) → Within sizes s (holding c (after_leave a)) s
        rest a = then_ sizes (after_leave a) (λ b. Ret (record { answer = b; carry = c })) (no_commit sizes s few a) (λ b. ended sizes)

    -- each records what it spends
    operation : (op : above.Op) (m : above.Answer op → Option above.Mark) → Fits sizes.version 0 op → size (spent_after op s) ≤ 10
        → Within sizes s (handlers sizes c op m) (spent_after op s)
    operation (Take n looking) m fits ok = takes sizes s few n looking c m
    operation (UnlockInode n) m fits ok = quiet sizes few (λ a o. refl) (λ a. ended sizes)
    operation (UpStart absolute) m fits ok = quiet sizes few (λ a o. refl) (λ a. ended sizes)
    operation (Up n) m fits ok = quiet sizes few (λ a o. refl) (λ a. ended sizes)
    operation (WalkDown n) m fits ok = quiet sizes few (λ a o. refl) (λ a. ended sizes)
    operation (Down n) m fits ok = quiet sizes few (λ a o. refl) (λ a. ended sizes)
    operation (Free n) m fits ok = frees_inode sizes n c s m ok
    operation (Forget n) m fits ok = quiet sizes few (λ a o. refl) (λ a. ended sizes)
    operation (Claim inode_type) m fits ok = claims_inode sizes s few inode_type c m
    operation (Store n count) m fits ok = stores sizes n c s count m ok
    operation (Fill n d) m fits ok = fills sizes n d c m s ok
    operation (Enter d e n) m fits ok = enters sizes d e n c m s fits ok
    operation (Clear n e) m fits ok = clears sizes n c s e m ok
    operation (Empty n) m fits ok = empties sizes n c s m ok
    operation Slot m fits ok = quiet sizes few (λ a o. refl) (λ a. ended sizes)
    operation (Install f inode_type) m fits ok = quiet sizes few (λ a o. refl) (λ a. ended sizes)
    operation (StatFile fd) m fits ok = stats sizes s few fd c m
    operation (LockFile fd) m fits ok = locks_file sizes s few fd c m
    operation (ReadFile fd n offset count) m fits ok = reads_file sizes s few fd n offset count c m
    operation (CheckFile fd) m fits ok = quiet sizes few (λ a o. refl) (λ a. ended sizes)
    operation (JoinFile fd) m fits ok = joins_file fd m
    operation (LockOpen fd n) m fits ok = locks_open sizes s few fd n c m
    operation (WriteFile fd n offset bytes) m fits ok = absurd (let some = fits.0 in let none = fits.2 in omega (arith, some, none))
    operation (Double fd) m fits ok = quiet sizes few (λ a o. refl) (λ a. ended sizes)
    operation (Shut fd) m fits ok = quiet sizes few (λ a o. refl) (λ a. ended sizes)
    operation (SetDirectory n) m fits ok = quiet sizes few (λ a o. refl) (λ a. ended sizes)
    operation (Lend child start) m fits ok = quiet sizes few (λ a o. refl) (λ a. ended sizes)
    operation (LendDirectory child) m fits ok = quiet sizes few (λ a o. refl) (λ a. ended sizes)
    operation (Release child) m fits ok = quiet sizes few (λ a o. refl) (λ a. ended sizes)
    operation Join m fits ok = joins m
    operation Leave m fits ok = leaves m
    operation Say m fits ok = quiet sizes few (λ a o. refl) (λ a. ended sizes)

  -- ---- programs of operations

  abbrev IsSmall : Recorded → Carry → Above Reply → Type 0
  IsSmall o c p = StaysSmall o (lowered (machine sizes.version) (layer sizes) (handlers sizes) c p) (λ reply u. AreAtMostTen u)

  step : (op : above.Op) (m : above.Answer op → Option above.Mark) (k : above.Answer op → Above Reply) (c : Carry) (s t : Spent) (o : Recorded)
      → Within sizes s (handlers sizes c op m) t → Covers sizes o s
      → ((a : above.Answer op) (d : Carry) (u : Recorded) → Covers sizes u t → IsSmall u d (k a)) → IsSmall o c (Do op m k)
  step op m k c s t o within covers rest =
      small_bind (handlers sizes c op m) (λ r. lowered (machine sizes.version) (layer sizes) (handlers sizes) r.carry (k r.answer)) (λ a u. Covers sizes u t)
      (λ reply u. AreAtMostTen u) o (within.stays o covers) (λ r u known. rest r.answer r.carry u known)

  program_small : (p : Above Reply) (c : Carry) (s : Spent) (o : Recorded) → AllFit sizes.version p → HasRoom s p → size s ≤ 10 → Covers sizes o s → IsSmall o c p
  program_small (Ret reply) c s o fits room few covers = small_of sizes o s covers few
  program_small (Do op m k) c s o fits room few covers =
      step op m k c s (spent_after op s) o (operation s few c op m fits.0 room.0) covers
      (λ a d u known. program_small (k a) d (spent_after op s) u (fits.2 a) (room.1 a) room.0 known)

  -- ---- write

  module _ (fd n : ℕ) (bytes : List ℕ) where
    says : (reply : Reply) (c : Carry) (s : Spent) (o : Recorded) → size s ≤ 10 → Covers sizes o s → IsSmall o c (say reply)
    says reply c s o few covers =
        step Say unmarked (λ _. Ret reply) c s s o (operation s few c Say unmarked tt few) covers (λ a d u known. small_of sizes u s known few)

    wrote_small : (more : Above Reply) (s : Spent) → size s ≤ 10 → ((d : Carry) (u : Recorded) → Covers sizes u s → IsSmall u d more)
        → (a : Wrote) (d : Carry) (u : Recorded) → Covers sizes u s → IsSmall u d (wrote_on fd bytes more a)
    wrote_small more s few rest Whole d u covers = rest d u covers
    wrote_small more s few rest (Refused why) d u covers = says (failed (calls.Write fd bytes) why) d s u few covers
    wrote_small more s few rest (Short k) d u covers = says (full (calls.Write fd bytes) Blocks) d s u few covers

    piece_small : (i : ℕ) (more : Above Reply)
        → ((s : Spent) → size s ≤ 10 → (d : Carry) (u : Recorded) → Covers sizes u s → IsSmall u d more)
        → (c : Carry) (o : Recorded) → Covers sizes o unspent → IsSmall o c (write_piece fd n bytes i more)
    piece_small i more rest c o covers =
        step (LockOpen fd n) unmarked (λ at. writing at) c unspent unspent o (operation unspent few_at_first c (LockOpen fd n) unmarked tt few_at_first) covers
        (λ at d u known. step (WriteFile fd at.0 at.1 (piece bytes i)) (writes fd (piece bytes i)) (λ a. leaving a) d unspent (written at.0) u
        (writes_piece sizes fd at.0 at.1 (piece bytes i) d (writes fd (piece bytes i)) unspent (piece_few bytes i) (few_written at.0)) known
        (λ a e v covered. step Leave unmarked (λ _. wrote_on fd bytes more a) e (written at.0) (written at.0) v
        (operation (written at.0) (few_written at.0) e Leave unmarked tt (few_written at.0)) covered
        (λ _ f w last. wrote_small more (written at.0) (few_written at.0) (rest (written at.0) (few_written at.0)) a f w last)))
      where
        written : ℕ → Spent
        written k = with_record k (with_bitmap (with_contents 8 unspent))

        leaving : Wrote → Above Reply
        leaving a = Do Leave unmarked (λ _. wrote_on fd bytes more a)

        writing : ℕ × ℕ → Above Reply
        writing at = Do (WriteFile fd at.0 at.1 (piece bytes i)) (writes fd (piece bytes i)) leaving

    pieces_small : (left i : ℕ) (c : Carry) (o : Recorded) → Covers sizes o unspent → IsSmall o c (write_from fd n bytes left i)
    pieces_small zero i c o covers =
        piece_small i (say (write_reply fd bytes)) (λ s few d u known. says (write_reply fd bytes) d s u few known) c o covers
    pieces_small (suc left) i c o covers =
        piece_small i (Do Join unmarked (λ _. write_from fd n bytes left (i + 1)))
        (λ s few d u known. step Join unmarked (λ _. write_from fd n bytes left (i + 1)) d s unspent u (operation s few d Join unmarked tt few_at_first) known
        (λ _ e v covered. pieces_small left (i + 1) e v covered)) c o covers

  write_small : (fd : ℕ) (bytes : List ℕ) (c : Carry) (o : Recorded) → Covers sizes o unspent → IsSmall o c (write_program fd bytes)
  write_small fd [] c o covers =
      let m : Option Cause → Option above.Mark = λ why. own_step (actions.WritePart fd []) in
      step (CheckFile fd) m (λ why. Ret (checked_reply fd why)) c unspent unspent o (operation unspent few_at_first c (CheckFile fd) m tt few_at_first) covers
      (λ a d u known. small_of sizes u unspent known few_at_first)
  write_small fd (b ∷ bs) c o covers =
      let m : JoinResult → Option above.Mark = refused_to fd (piece (b ∷ bs) 0) in
      step (JoinFile fd) m (joined_on fd (b ∷ bs)) c unspent unspent o (operation unspent few_at_first c (JoinFile fd) m tt few_at_first) covers
      (λ a d u known. by a d u known)
    where
      by : (a : JoinResult) (d : Carry) (u : Recorded) → Covers sizes u unspent → IsSmall u d (joined_on fd (b ∷ bs) a)
      by (NotJoined why) d u known = small_of sizes u unspent known few_at_first
      by (Joined n) d u known = pieces_small fd n (b ∷ bs) (piece_count (b ∷ bs) - 1) 0 d u known

  -- ---- calls

  -- one that writes nothing
  other_small : (call : Call) → is_served call ≡ true → most_written call ≡ 0 → IsSmall None nothing (program sizes.version call)
  other_small call served none =
      program_small (program sizes.version call) nothing unspent None
      (subst (λ (k : ℕ). AllFitUpTo sizes.version k (program sizes.version call)) none (call_fits sizes.version call served))
      (transactions_are_small sizes.version call) few_at_first tt

  pub call_small : (call : Call) → is_served call ≡ true → IsSmall None nothing (program sizes.version call)
  call_small (calls.Open path flags) served = other_small (calls.Open path flags) served refl
  call_small (calls.Read fd buffer) served = other_small (calls.Read fd buffer) served refl
  call_small (calls.Write fd bytes) served = write_small fd bytes nothing None tt
  call_small (calls.Link old new) served = other_small (calls.Link old new) served refl
  call_small (calls.Unlink path) served = other_small (calls.Unlink path) served refl
  call_small (calls.Mkdir path) served = other_small (calls.Mkdir path) served refl
  call_small (calls.Chdir path) served = other_small (calls.Chdir path) served refl
  call_small (calls.Dup fd) served = other_small (calls.Dup fd) served refl
  call_small (calls.Fstat fd) served = other_small (calls.Fstat fd) served refl
  call_small (calls.Close fd) served = other_small (calls.Close fd) served refl
  call_small (calls.Inherit child) served = other_small (calls.Inherit child) served refl
