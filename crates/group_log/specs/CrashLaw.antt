-- A stop at any event, for any machine. After the first i events of a run there is what it has seen, and what
-- recovery would make of its disk.
use Rattle.std.specs.Prelude.{◌≡◌, ℕ, zero, suc, ◌+◌, ◌<◌, List, Bool, true, false, if◌then◌else◌}
use Rattle.group_log.specs.Vocabulary.{Super, IsOutsideLog}

-- the blocks of a disk by their numbers
abbrev pub Blocks : Type 0
Blocks = ℕ → List ℕ

-- two disks have the same blocks outside the log
abbrev pub AgreeOutside : Super → Blocks → Blocks → Type 0
AgreeOutside sizes old new = (b : ℕ) → IsOutsideLog sizes b → new b ≡ old b

-- how many of the first n events there are up to the last leave that began a commit
abbrev pub begun : (begins : ℕ → Bool) → ℕ → ℕ
begun begins zero = 0
begun begins (suc n) = if begins n then suc n else begun begins n

-- up to the leave that began the commit of the last group that the head named: 0 if none was committed
abbrev pub commit_cut : (begins stands : ℕ → Bool) → ℕ → ℕ
commit_cut begins stands zero = 0
commit_cut begins stands (suc n) = if stands n then begun begins n else commit_cut begins stands n

-- A run of n events of a machine over a log. Event i leads from the state after i events to that after i + 1. It
-- begins a commit, or the head begins to name the group, or neither. The head begins to name it even if that write
-- failed and left the new head. A commit runs in a state or doesn't.
pub record IsLoggedRun (sizes : Super) (n : ℕ) (seen recovered : ℕ → Blocks) (runs begins stands : ℕ → Bool) : Type 0 where
  -- first recovery would make what is seen, and no commit runs
  pub fresh : AgreeOutside sizes (seen 0) (recovered 0)
  pub idle : runs 0 ≡ false
  -- the recovered disk becomes what is seen when the head begins to name the group, and else it stays
  pub moves : (i : ℕ) → i < n → AgreeOutside sizes (if stands i then seen i else recovered i) (recovered (i + 1))
  -- the leave that begins a commit changes nothing that is seen, nor does any event while one runs
  pub still : (i : ℕ) → i < n → runs (i + 1) ≡ true → AgreeOutside sizes (seen i) (seen (i + 1))
  -- the head begins to name the group only while a commit runs
  pub in_commit : (i : ℕ) → i < n → stands i ≡ true → runs i ≡ true
  -- a commit runs after an event that began it, or ran before
  pub begun_before : (i : ℕ) → i < n → runs (i + 1) ≡ true → begins i ≡ false → runs i ≡ true

-- after any events recovery makes what was seen at the leave that began the last commit
abbrev pub StopsAtACut : Type 0
StopsAtACut = (sizes : Super) (n : ℕ) (seen recovered : ℕ → Blocks) (runs begins stands : ℕ → Bool)
    → IsLoggedRun sizes n seen recovered runs begins stands
    → AgreeOutside sizes (seen (commit_cut begins stands n)) (recovered n)
