-- The superblock and the log's head of a log's disk.
use Rattle.std.specs.Prelude.{ℕ, ◌<◌, ◌^◌, List, Option, length}
use Rattle.calls_on_blocks.specs.Vocabulary.{Super, sizes_of, SeatState, Phase, IsPlaced, IsSoundLog, IsGoodSuper, UpToLog}

-- whatever it was doing, the disk of a log passes the checks up to the log's, if its sizes are those of a good
-- superblock
abbrev pub LogsLeaveGoodHeads : Type 0
LogsLeaveGoodHeads =
    (disk : List (List ℕ)) (seats : List SeatState) (sizes : Super) (group : List ℕ) (members : List (Option ℕ)) (phase : Phase)
    → IsSoundLog disk seats sizes group members phase → IsGoodSuper sizes → UpToLog disk

-- a disk that passes them is one on which a log may begin
abbrev pub LogsMayBegin : Type 0
LogsMayBegin = (disk : List (List ℕ)) → UpToLog disk → length disk < 2 ^ 32 → IsPlaced disk (sizes_of disk)
