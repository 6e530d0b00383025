-- What an operation on blocks makes of the log.
use Rattle.std.specs.Prelude.{◌≡◌, ◌⊎◌, ℕ, ◌+◌, List, length, Bool, true, false, min, Option, Some, None, slice_set}
use Rattle.fs_machine.specs.Vocabulary.{Super, block_at, most_faults, get_of, SeatState, seen_in, with_seat, with_content, with_pin, given_back, Got, Phase, Open, Staging, Installing, Halted, AfterLeave, joined, with_block, members_with, write_to, write_of, next_phase, group_in, phase_at_leave, LogState, limit_of, turn_is_out, seats_after, seats_at_fault, join_waits, left_at, ExecResult, Waits, Ran, Stops}
use Rattle.buffer_cache.specs.declared.got.Got.TheVariants as got

-- a log and its cache, with the blocks of the disk and the count of its failures in the device's place
pub record LogPart : Type 0 where
  pub contents : List (List ℕ)
  pub failures : ℕ
  pub seats : List SeatState
  pub sizes : Super
  pub group : List ℕ
  pub members : List (Option ℕ)
  pub phase : Phase

abbrev pub part_of : {D : Type 0} → (D → List (List ℕ)) → (D → ℕ) → LogState D → LogPart
part_of contents failures l =
    record {
      contents = contents l.cache.device;
      failures = failures l.cache.device;
      seats = l.cache.seats;
      sizes = l.sizes;
      group = l.group;
      members = l.members;
      phase = l.phase;
    }

-- what the device answers to a read or a write: it passes, or fails and leaves these blocks
pub data Outside : Type 0 where
  Passes : Outside
  Fails : List (List ℕ) → Outside

-- after the device failed and left these blocks
abbrev pub failed : LogPart → List (List ℕ) → LogPart
failed l after = record l { contents = after; failures = min (l.failures + 1) most_faults }

abbrev pub with_seats : LogPart → List SeatState → LogPart
with_seats l seats = record l { seats = seats }

abbrev pub join_if : ℕ → LogPart → Bool → ExecResult (Unit {0}) LogPart
join_if h l true = Waits
join_if h l false = Ran tt (record l { members = slice_set l.members h (Some 0) })

abbrev pub join_log : ℕ → LogPart → ExecResult (Unit {0}) LogPart
join_log h l = join_if h l (join_waits l.phase (length l.group) (joined l.members) (limit_of l.sizes))

abbrev pub leave_log : ℕ → LogPart → ExecResult AfterLeave LogPart
leave_log h l =
    Ran (left_at (joined (slice_set l.members h None)) l.group)
    (record l { members = slice_set l.members h None; phase = phase_at_leave (joined (slice_set l.members h None)) l.group })

-- the guard that was got holds these bytes
abbrev pub got_by : LogPart → List SeatState × Got → ExecResult (Option (List ℕ)) LogPart
got_by l (seats, got.Held guard) = Ran guard.value.content (with_seats l seats)
got_by l (seats, got.Waits) = Waits

abbrev pub get_block : ℕ → ℕ → LogPart → ExecResult (Option (List ℕ)) LogPart
get_block h b l = got_by l (get_of h b l.seats)

abbrev pub read_block : ℕ → Outside → LogPart → ExecResult (List ℕ) LogPart
read_block b Passes l = Ran (block_at l.contents b) (with_seats l (with_seat b (with_content (block_at l.contents b)) l.seats))
read_block b (Fails after) l = Stops (failed l after)

abbrev pub put_block : ℕ → ℕ → Option (List ℕ) → LogPart → LogPart
put_block h b None l = with_seats l (given_back b l.seats)
put_block h b (Some bytes) l =
    record l {
      seats = given_back b (with_seat b (with_content bytes) (with_seat b (with_pin true) l.seats));
      group = with_block l.group b;
      members = members_with l.group b l.members h;
    }

abbrev pub is_open : Phase → Bool
is_open Open = true
is_open (Staging i) = false
is_open (Installing i) = false
is_open Halted = false

-- the disk after the commit's next write
abbrev pub written : LogPart → List (List ℕ)
written l = slice_set l.contents (write_to l.sizes l.group l.phase) (write_of (seen_in l.contents l.seats) l.group l.phase)

abbrev pub write_log : Outside → LogPart → ExecResult Bool LogPart
write_log Passes l =
    Ran (is_open (next_phase (length l.group) l.phase))
    (record l {
      contents = written l;
      seats = seats_after l.group l.phase l.seats;
      group = group_in (next_phase (length l.group) l.phase) l.group;
      phase = next_phase (length l.group) l.phase;
    })
write_log (Fails after) l = Stops (record (failed l after) { seats = seats_at_fault l.group l.phase l.seats; phase = Halted })

abbrev pub commit_if : Outside → LogPart → Bool → ExecResult Bool LogPart
commit_if x l true = Waits
commit_if x l false = write_log x l

abbrev pub commit_log : Outside → LogPart → ExecResult Bool LogPart
commit_log x l = commit_if x l (turn_is_out l.seats l.group l.phase)

-- how the blocks may be after a failure: as before, or with this write
abbrev pub LeavesIt : List (List ℕ) → Outside → Type 0
LeavesIt old Passes = Unit {0}
LeavesIt old (Fails after) = after ≡ old

abbrev pub LeavesOne : List (List ℕ) → List (List ℕ) → Outside → Type 0
LeavesOne old new Passes = Unit {0}
LeavesOne old new (Fails after) = (after ≡ old) ⊎ (after ≡ new)
