-- The marks that a run on the blocks keeps beside its log: counts of its events.
use Rattle.std.specs.Prelude.{ℕ, ◌+◌, Bool, true, false, if◌then◌else◌, List, [], ◌∷◌, length, Option, Some, None}
use Rattle.calls_on_blocks.specs.Vocabulary.{Super, Reply, Call, Progress, Wrote, Ended, Failed, Marks, Phase, Open, Staging, Installing, Halted, is_point, after_leave, after_write, ExecResult, Ran, Stops, Ret, Do, P, Theory, Event, Start, Step, Run, State as StateOf, next, LogPart, Outside, is_open, Op, Answer, Leave, Commit, exec}
use Rattle.fs_machine.specs.Steps.{State}
use Rattle.calls_on_blocks.specs.Theory.{block_calls}

-- the answer of a commit's write, by whether it was the last
abbrev pub progress_of : Bool → Progress
progress_of true = Ended
progress_of false = Wrote

-- the commit's next write is the one after which the head names the group
abbrev pub at_point : LogPart → Bool
at_point l = is_point (length l.group) l.phase

-- after event n, in which an operation had this outcome, over this log
abbrev pub marks_by : ℕ → LogPart → (op : Op) → ExecResult (Answer op) State → Marks → Marks
marks_by n l Leave (Ran left s) m = after_leave n left m
marks_by n l Commit (Ran ended s) m = after_write (at_point l) (progress_of ended) m
marks_by n l Commit (Stops s) m = after_write (at_point l) Failed m
marks_by n l op d m = m

module _ (sizes : Super) where
  -- a hart's program makes its next operation
  abbrev pub marks_asked : ℕ → ℕ → Outside → State → P (block_calls sizes).M Reply → Marks → Marks
  marks_asked n h x s (Ret reply) m = m
  marks_asked n h x s (Do op mark k) m = marks_by n s.log op (exec h x op s) m

  -- of a hart with a call, unless the device has failed before
  abbrev pub marks_unless : ℕ → ℕ → Outside → State → Bool → Option (Run (block_calls sizes)) → Marks → Marks
  marks_unless n h x s true r m = m
  marks_unless n h x s false None m = m
  marks_unless n h x s false (Some r) m = marks_asked n h x s r.prog m

  abbrev pub marks_next : Event Call Outside → StateOf (block_calls sizes) → Marks → Marks
  marks_next (Start h call) s m = m
  marks_next (Step h x) s m = marks_unless s.now h x s.world.real.blocks.state s.stopped (s.running h) m

  abbrev pub marks_after : List (Event Call Outside) → StateOf (block_calls sizes) → Marks → Marks
  marks_after [] s m = m
  marks_after (e ∷ es) s m = marks_after es (next (block_calls sizes) e s) (marks_next e s m)

-- ---- the same by the phase of the commit

-- The last of n events took the commit from one phase, at the point or not, to another.
abbrev pub marks_told : ℕ → Phase → Bool → Phase → Marks → Marks
marks_told n p point Open m = m
marks_told n p point (Staging i) m = if is_open p then record m { begun = n } else m
marks_told n p point (Installing i) m = after_write point Wrote m
marks_told n p point Halted m = after_write point Failed m

-- what is noted of each event, by the states before and after it
abbrev pub noted : (L : Theory) → (StateOf L → StateOf L → Marks → Marks) → List (Event L.Call L.M.Outside) → StateOf L → Marks → Marks
noted L note [] s m = m
noted L note (e ∷ es) s m = noted L note es (next L e s) (note s (next L e s) m)

module _ (sizes : Super) where
  abbrev pub log_at : StateOf (block_calls sizes) → LogPart
  log_at s = s.world.real.blocks.state.log

  -- the marks after the event between two states
  abbrev pub told_between : StateOf (block_calls sizes) → StateOf (block_calls sizes) → Marks → Marks
  told_between s t m = marks_told (s.now + 1) (log_at s).phase (at_point (log_at s)) (log_at t).phase m
