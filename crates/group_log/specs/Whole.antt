-- What each call of the log keeps, if it may be made.
use Rattle.std.specs.Prelude.{◌≡◌, ◌≢◌, ◌⊎◌, ℕ, ◌<◌, ◌≤◌, List, length, true, false, Option, Some, None, IsSome, slice_get, slice_set}
use Rattle.group_log.specs.Vocabulary.{Super, IsOutsideLog, block_at, count_of, get_of, SeatState, is_held_by, holder_of, kept, seen_in, with_seat, with_content, with_pin, given_back, IsSound, HARTS}
use Rattle.group_log.specs.declared.phase.Phase.{Phase}
use Rattle.group_log.specs.declared.phase.Phase.TheVariants.{Open, Halted}
use Rattle.group_log.specs.Group.{joined, has, with_block, members_with, HasRoom, IsMember}
use Rattle.group_log.specs.Phases.{write_to, write_of, next_phase, group_in, phase_at_leave}
use Rattle.group_log.specs.Soundness.{IsSoundLog, IsHome, limit_of}
use Rattle.group_log.specs.Turns.{seats_after, seats_at_fault}
use Rattle.group_log.specs.Waiting.{join_waits}

-- what always holds of a log's cache, and of the log
pub record IsWhole (disk : List (List ℕ)) (seats : List SeatState) (sizes : Super) (group : List ℕ) (members : List (Option ℕ))
    (phase : Phase) : Type 0 where
  pub cache : IsSound disk seats
  pub log : IsSoundLog disk seats sizes group members phase

-- the disk after the commit's next write
abbrev pub written : List (List ℕ) → List SeatState → Super → List ℕ → Phase → List (List ℕ)
written disk seats sizes group phase = slice_set disk (write_to sizes group phase) (write_of (seen_in disk seats) group phase)

-- what each call leads to
pub record LeadsToWhole (disk : List (List ℕ)) (seats : List SeatState) (sizes : Super) (group : List ℕ) (members : List (Option ℕ))
    (phase : Phase) : Type 0 where
  pub join : (hart : ℕ) → slice_get members hart ≡ Some None → join_waits phase (length group) (joined members) (limit_of sizes) ≡ false
      → IsWhole disk seats sizes group (slice_set members hart (Some 0)) phase
  pub leave : (hart : ℕ) → IsMember members hart → phase ≢ Halted
      → IsWhole disk seats sizes group (slice_set members hart None) (phase_at_leave (joined (slice_set members hart None)) group)
  pub get : (hart b : ℕ) → hart < HARTS → count_of (is_held_by hart) seats ≤ 1 → IsOutsideLog sizes b
      → IsWhole disk (get_of hart b seats).0 sizes group members phase
  -- even if the read fails: nothing changes then
  pub fill : (holder b : ℕ) → holder_of b seats ≡ Some holder → kept b seats ≡ None → IsOutsideLog sizes b
      → IsWhole disk (with_seat b (with_content (block_at disk b)) seats) sizes group members phase
  pub release : (b : ℕ) → IsOutsideLog sizes b → IsWhole disk (given_back b seats) sizes group members phase
  pub put : (holder hart b : ℕ) (bytes : List ℕ) → holder_of b seats ≡ Some holder → IsSome (kept b seats) → IsMember members hart
      → phase ≢ Halted → IsHome disk sizes b
      → (has group b ≡ false → HasRoom members hart)
      → IsWhole disk (given_back b (with_seat b (with_content bytes) (with_seat b (with_pin true) seats))) sizes (with_block group b)
      (members_with group b members hart) phase
  pub commit : phase ≢ Open → phase ≢ Halted
      → IsWhole (written disk seats sizes group phase) (seats_after group phase seats) sizes
      (group_in (next_phase (length group) phase) group) members (next_phase (length group) phase)
  -- if the write failed, and left the new block or didn't
  pub fault : phase ≢ Open → phase ≢ Halted → (new : List (List ℕ)) → (new ≡ disk) ⊎ (new ≡ written disk seats sizes group phase)
      → IsWhole new (seats_at_fault group phase seats) sizes group members Halted

abbrev pub CallsKeepWhole : Type 0
CallsKeepWhole =
    (disk : List (List ℕ)) (seats : List SeatState) (sizes : Super) (group : List ℕ) (members : List (Option ℕ)) (phase : Phase)
    → IsWhole disk seats sizes group members phase → LeadsToWhole disk seats sizes group members phase
