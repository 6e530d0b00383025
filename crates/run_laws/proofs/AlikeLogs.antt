-- Two states that differ in the log's own blocks alone: an operation has the same answer in both, and leaves two such states.
use Rattle.run_laws.proofs.Vocabulary.{◌≡◌, ◌⊎◌, inl, inr, ℕ, ◌+◌, ◌<◌, ◌≤◌, ◌==◌, Bool, true, false, List, [], length, if◌then◌else◌, Option, Some, None, refl, sym, ◌∙◌, ap, subst, arith, cases_lt, min, slice_set, slice_index, SeatState, LogPart, Outside, Passes, Fails, ExecResult, Waits, Ran, Stops, TablesState, in_log, in_tables, join_if, join_unless, joins, got_by, read_block, commit_if, claims, claim_first, drop_which, lock_open, up_whom, first_free, file_named, refusal_of, turn_is_out, join_waits, limit_of, get_of, lock_inode, lock_file, settle_inode, up_inode, take_place, open_file, double_descriptor, shut_descriptor, give_next, Super}
use Rattle.std.proofs.lemmas.List.{get_or_past}
use Rattle.std.proofs.Common.{length-set}
use Rattle.std.specs.Option.{unwrap_or}
use Rattle.group_log.specs.Group.{joined}
use Rattle.group_log.proofs.Vocabulary.{cases_eq}
use Rattle.block_device.specs.BlockLaws.{block_at-set_same, block_at-set_other}
use Rattle.block_device.specs.Blocks.{block_at, most_faults}
use Rattle.buffer_cache.specs.Seats.{seen_in, kept, with_seat, with_content}
use Rattle.buffer_cache.specs.declared.got.Got.{Got}
use Rattle.buffer_cache.specs.declared.got.Got.TheVariants as got
use Rattle.fs_layout.specs.Recovered.{IsOutsideLog}
use Rattle.fs_machine.specs.LogPart.{put_block, with_seats, write_log, written}
use Rattle.fs_machine.specs.Premises.{May}
use Rattle.fs_machine.specs.Whole.{IsWholeLog}
use Rattle.fs_machine.specs.declared.files.OpenFile.{OpenFile}
use Rattle.fs_machine.specs.declared.files.Refused.{Refused}
use Rattle.fs_machine.specs.declared.files.Want.TheVariants as want
use Rattle.fs_machine.specs.Steps as steps
use Rattle.fs_machine.specs.Steps.{State, JoinResult, ClaimResult}
use Rattle.group_log.specs.Phases.{head_block, write_of, write_to}
use Rattle.group_log.specs.Soundness.{DiskFits}
use Rattle.group_log.specs.declared.phase.Phase.{Phase}
use Rattle.group_log.specs.declared.phase.Phase.TheVariants.{Open, Staging, Installing, Halted}

-- the same blocks outside the log, and as many
pub record AgreeApart (sizes : Super) (one other : List (List ℕ)) : Type 0 where
  pub long : length other ≡ length one
  pub same : (b : ℕ) → IsOutsideLog sizes b → block_at other b ≡ block_at one b

-- over other blocks, with another count of the device's failures
abbrev pub over_disk : List (List ℕ) → ℕ → LogPart → LogPart
over_disk c n l = record l { contents = c; failures = n }

abbrev pub state_over : List (List ℕ) → ℕ → State → State
state_over c n s = record s { log = over_disk c n s.log }

pub record AlikeStates (s t : State) : Type 0 where
  pub disk : List (List ℕ)
  pub count : ℕ
  pub is : state_over disk count s ≡ t
  pub agree : AgreeApart s.log.sizes s.log.contents disk

-- the device has failed
abbrev pub HasFailed : State → Type 0
HasFailed s = s.log.failures ≡ 0 → ⊥

-- The same came of an operation in both, and such states; or the device failed.
abbrev pub Near : {A : Type 0} → ExecResult A State → ExecResult A State → Type 0
Near Waits Waits = Unit {0}
Near Waits (Ran b t) = ⊥
Near Waits (Stops t) = HasFailed t
Near (Ran a s) Waits = ⊥
Near (Ran a s) (Ran b t) = (a ≡ b) × AlikeStates s t
Near (Ran a s) (Stops t) = HasFailed t
Near (Stops s) Waits = HasFailed s
Near (Stops s) (Ran b t) = HasFailed s
Near (Stops s) (Stops t) = AlikeStates s t ⊎ (HasFailed s ⊎ HasFailed t)

-- ---- a write to both

-- the same bytes are put at the same place
set_agrees : (sizes : Super) (one other : List (List ℕ)) (i : ℕ) (x y : List ℕ) → x ≡ y → AgreeApart sizes one other
    → AgreeApart sizes (slice_set one i x) (slice_set other i y)
set_agrees sizes one other i x y is agree = record {
  long = length-set other i y ∙ agree.long ∙ sym (length-set one i x);
  same = at;
}
  where
    at_same : (j : ℕ) → j ≡ i → block_at (slice_set other i y) j ≡ block_at (slice_set one i x) j
    at_same j e = elim (cases_lt i (length one)) [
      | inl lt ↦
          ap (block_at (slice_set other i y)) e ∙ block_at-set_same other i y (subst (λ (n : ℕ). i < n) (sym agree.long) lt) ∙ sym is
          ∙ sym (block_at-set_same one i x lt) ∙ ap (block_at (slice_set one i x)) (sym e)
      | inr past ↦
          get_or_past (slice_set other i y) j [] (omega (arith, past, e, length-set other i y, agree.long))
          ∙ sym (get_or_past (slice_set one i x) j [] (omega (arith, past, e, length-set one i x)))
    ]

    at : (j : ℕ) → IsOutsideLog sizes j → block_at (slice_set other i y) j ≡ block_at (slice_set one i x) j
    at j out = elim (cases_eq j i) [
      | inl e ↦ at_same j e
      | inr ne ↦ block_at-set_other other i j y ne ∙ agree.same j out ∙ sym (block_at-set_other one i j x ne)
    ]

-- ---- an operation

module _ (h : ℕ) (s : State) (c : List (List ℕ)) (n : ℕ) (agree : AgreeApart s.log.sizes s.log.contents c) where
  abbrev t : State
  t = state_over c n s

  -- with another log that has the same sizes and contents, or with other tables
  still_alike : (l : LogPart) (u : TablesState) → AgreeApart l.sizes l.contents c
      → AlikeStates (record { log = l; tables = u }) (record { log = over_disk c n l; tables = u })
  still_alike l u a = record { disk = c; count = n; is = refl; agree = a }

  in_tables_near : {A : Type 0} (d : ExecResult A TablesState) → Near (in_tables s d) (in_tables t d)
  in_tables_near Waits = tt
  in_tables_near (Ran a u) = (refl, still_alike s.log u agree)
  in_tables_near (Stops u) = inl (still_alike s.log u agree)

  join_near : (b : Bool) → Near (in_log s (join_if h s.log b)) (in_log t (join_if h t.log b))
  join_near true = tt
  join_near false = (refl, still_alike (record s.log { members = slice_set s.log.members h (Some 0) }) s.tables agree)

  joins_near : (f : OpenFile) (b : Bool) → Near (joins f (in_log s (join_if h s.log b))) (joins f (in_log t (join_if h t.log b)))
  joins_near f true = tt
  joins_near f false = (refl, still_alike (record s.log { members = slice_set s.log.members h (Some 0) }) s.tables agree)

  unless_near : (f : Option OpenFile) (why : Option Refused) → Near (join_unless h s f why) (join_unless h t f why)
  unless_near f (Some why) = (refl, still_alike s.log s.tables agree)
  unless_near None None = tt
  unless_near (Some f) None = joins_near f (join_waits s.log.phase (length s.log.group) (joined s.log.members) (limit_of s.log.sizes))

  got_near : (r : List SeatState × Got) → Near (in_log s (got_by s.log r)) (in_log t (got_by t.log r))
  got_near (zs, got.Held guard) = (refl, still_alike (with_seats s.log zs) s.tables agree)
  got_near (zs, got.Waits) = tt

  put_alike : (b : ℕ) (change : Option (List ℕ)) → AlikeStates (record s { log = put_block h b change s.log }) (record t { log = put_block h b change t.log })
  put_alike b None = still_alike (put_block h b None s.log) s.tables agree
  put_alike b (Some bytes) = still_alike (put_block h b (Some bytes) s.log) s.tables agree

  claims_near : (d : ExecResult (Option ℕ) TablesState) → Near (claims (in_tables s d)) (claims (in_tables t d))
  claims_near Waits = tt
  claims_near (Ran None u) = (refl, still_alike s.log u agree)
  claims_near (Ran (Some k) u) = (refl, still_alike s.log u agree)
  claims_near (Stops u) = inl (still_alike s.log u agree)

  claim_near : (b : ℕ) (o : Option ℕ) → Near (claim_first h b s o) (claim_first h b t o)
  claim_near b None = (refl, put_alike b None)
  claim_near b (Some k) = claims_near (up_inode k s.tables)

  failed_once : (k : ℕ) → min (k + 1) most_faults ≡ 0 → ⊥
  failed_once k e = omega (arith, e)

  read_near : (b : ℕ) (x y : Outside) → IsOutsideLog s.log.sizes b → Near (in_log s (read_block b x s.log)) (in_log t (read_block b y t.log))
  read_near b Passes Passes out = (
    sym (agree.same b out),
    record {
      disk = c;
      count = n;
      is = ap (λ (bytes : List ℕ). record t { log = with_seats t.log (with_seat b (with_content bytes) s.log.seats) }) (sym (agree.same b out));
      agree = agree;
    },
  )
  read_near b Passes (Fails after) out = failed_once n
  read_near b (Fails after) Passes out = failed_once s.log.failures
  read_near b (Fails after) (Fails other) out = inr (inl (failed_once s.log.failures))

  -- ---- a write of a commit

  module _ (whole : IsWholeLog s.log) where
    -- the group's blocks are seen as the same, since none is the log's
    seen_same : (k : ℕ) → k < length s.log.group
        → seen_in s.log.contents s.log.seats (slice_index s.log.group k) ≡ seen_in c s.log.seats (slice_index s.log.group k)
    seen_same k lt =
        ap (λ (bytes : List ℕ). unwrap_or (kept (slice_index s.log.group k) s.log.seats) bytes)
        (sym (agree.same (slice_index s.log.group k) (whole.log.homes k lt).outside))

    bytes_if : (i : ℕ) (head : List ℕ) → i ≤ length s.log.group → (b : Bool) → (i == length s.log.group) ≡ b
        → ◌≡◌ {A = List ℕ} (if b then head else seen_in s.log.contents s.log.seats (slice_index s.log.group i))
        (if b then head else seen_in c s.log.seats (slice_index s.log.group i))
    bytes_if i head le true e = refl
    bytes_if i head le false e = seen_same i (grind (arith, le, e))

    bytes_same : (p : Phase) → DiskFits s.log.sizes s.log.contents (seen_in s.log.contents s.log.seats) s.log.group p
        → write_of (seen_in s.log.contents s.log.seats) s.log.group p ≡ write_of (seen_in c s.log.seats) s.log.group p
    bytes_same Open fits = refl
    bytes_same (Staging i) fits = bytes_if i (head_block s.log.group) fits.0 (i == length s.log.group) refl
    bytes_same (Installing i) fits = bytes_if i (head_block []) fits.0 (i == length s.log.group) refl
    bytes_same Halted fits = refl

    write_near : (x y : Outside) → Near (in_log s (write_log x s.log)) (in_log t (write_log y t.log))
    write_near Passes Passes = (
      refl,
      record {
        disk = written t.log;
        count = n;
        is = refl;
        agree =
            set_agrees s.log.sizes s.log.contents c (write_to s.log.sizes s.log.group s.log.phase)
            (write_of (seen_in s.log.contents s.log.seats) s.log.group s.log.phase)
            (write_of (seen_in c s.log.seats) s.log.group s.log.phase) (bytes_same s.log.phase whole.log.blocks) agree;
      },
    )
    write_near Passes (Fails after) = failed_once n
    write_near (Fails after) Passes = failed_once s.log.failures
    write_near (Fails after) (Fails other) = inr (inl (failed_once s.log.failures))

    commit_near : (x y : Outside) (out : Bool) → Near (in_log s (commit_if x s.log out)) (in_log t (commit_if y t.log out))
    commit_near x y true = tt
    commit_near x y false = write_near x y

    pub exec_near : (x y : Outside) (op : steps.Op) → May h op s → Near (steps.exec h x op s) (steps.exec h y op (state_over c n s))
    unfolding steps.exec May
    exec_near x y steps.Join may = join_near (join_waits s.log.phase (length s.log.group) (joined s.log.members) (limit_of s.log.sizes))
    exec_near x y (steps.JoinToWrite fd) may = unless_near (file_named h fd s.tables) (refusal_of want.Write (file_named h fd s.tables))
    exec_near x y steps.Leave may = (refl, record { disk = c; count = n; is = refl; agree = agree })
    exec_near x y (steps.Get b) may = got_near (get_of h b s.log.seats)
    exec_near x y (steps.Read b) may = read_near b x y may.1
    exec_near x y (steps.Put b change) may = (refl, put_alike b change)
    exec_near x y steps.Commit may = commit_near x y (turn_is_out s.log.seats s.log.group s.log.phase)
    exec_near x y (steps.Lock k) may = in_tables_near (lock_inode h k s.tables)
    exec_near x y (steps.LockFile w fd) may = in_tables_near (lock_file h w fd s.tables)
    exec_near x y (steps.LockOpen fd) may = in_tables_near (steps.lock_open h s.tables (file_named h fd s.tables))
    exec_near x y (steps.Unlock v moved) may = (refl, record { disk = c; count = n; is = refl; agree = agree })
    exec_near x y (steps.SetDirectory v) may = in_tables_near (settle_inode h v s.tables)
    exec_near x y (steps.Up whom) may = in_tables_near (up_whom h whom s.tables)
    exec_near x y (steps.Claim b candidates) may = claim_near b (first_free s.tables.entries candidates)
    exec_near x y (steps.Down drop) may = in_tables_near (drop_which h drop s.tables)
    exec_near x y (steps.CheckFile w fd) may = (refl, record { disk = c; count = n; is = refl; agree = agree })
    exec_near x y steps.TakePlace may = in_tables_near (take_place h s.tables)
    exec_near x y (steps.TakeDescriptor k file) may = in_tables_near (open_file h k file s.tables)
    exec_near x y (steps.Double fd) may = in_tables_near (double_descriptor h fd s.tables)
    exec_near x y (steps.Close fd) may = in_tables_near (shut_descriptor h fd s.tables)
    exec_near x y (steps.GiveDescriptor child from) may = in_tables_near (give_next h child from s.tables)
    exec_near x y steps.Reply may = (refl, record { disk = c; count = n; is = refl; agree = agree })
