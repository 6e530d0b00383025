-- Whose commit is under way, event by event.
use Rattle.calls_on_blocks.proofs.Vocabulary.{◌≡◌, ◌⊎◌, inl, inr, ℕ, Bool, true, false, List, Option, Some, None, length, refl, sym, ap, ◌∙◌, slice_set, Super, Reply, Call, put, AfterLeave, Free, Commits, Marks, Phase, Open, Staging, Installing, Halted, joined, is_settled, group_in, next_phase, phase_at_leave, left_at, open_of, Ret, Do, ExecResult, Waits, Ran, Stops, exec_result_in, asks, OfNext, PartOf as P, Theory, Began, Refuses, Begins, Event, Start, Step, Run, State as StateOf, busy_in, begun, hart_of, moved, next, start_run, step_prog, step_run, step_unless, tried, Sound, ActOf, Both, both, began_to, may_make, sound_keeps, begun_both, Outside, Passes, Fails, commit_if, is_open, written, Op, Answer, JoinToWrite, Get, Read, Put, Commit, Lock, LockFile, LockOpen, Unlock, Up, Claim, Down, CheckFile, TakePlace, TakeDescriptor, Double, Close, AnswerIt, exec, in_log, May, IsWholeLog, seats_after, turn_is_out, machine, commits_after, World, shared_of, served_calls, child_of, begins, block_calls, marks_by, marks_asked, marks_unless, marks_next, log_at}
use Rattle.fs_machine.specs.Steps.{State, Join, Leave, SetDirectory, GiveDescriptor}
use Rattle.inode_machine.specs.World as above
use Rattle.inodes_on_blocks.specs.Below as below
use Rattle.calls_on_blocks.proofs.Lawful.{lawful}
use Rattle.calls_on_blocks.proofs.Starting.{begun_here}
use Rattle.calls_on_blocks.proofs.Events.{both_at, moved_world, none_marks}

settled_open : (p : Phase) → is_open p ≡ true → is_settled p ≡ true
settled_open Open e = refl
settled_open (Staging i) e = absurd (let x : false ≡ true = e in cc)
settled_open (Installing i) e = refl
settled_open Halted e = absurd (let x : false ≡ true = e in cc)

-- ---- an operation

module _ (n h : ℕ) (s : State) (was : Option ℕ) (m : Marks) where
  -- It begins no commit, and the one that was under way still is, or has ended. Or it begins one, when none waited
  -- for its head.
  abbrev pub CommitsBy : (op : Op) → ExecResult (Answer op) State → Type 0
  CommitsBy op Waits = (marks_by n s.log op Waits m).begun ≡ m.begun
  CommitsBy op (Ran a t) =
      (((marks_by n s.log op (Ran a t) m).begun ≡ m.begun) × ((commits_after h op a was ≡ was) ⊎ (is_settled t.log.phase ≡ true)))
      ⊎ ((commits_after h op a was ≡ Some h) × (is_settled s.log.phase ≡ true))
  CommitsBy op (Stops t) = (marks_by n s.log op (Stops t) m).begun ≡ m.begun

  -- of most operations
  none_begins : (op : Op) → ((d : ExecResult (Answer op) State) → marks_by n s.log op d m ≡ m) → ((a : Answer op) → commits_after h op a was ≡ was) → (d : ExecResult (Answer op) State) → CommitsBy op d
  none_begins op marks same Waits = ap (λ (z : Marks). z.begun) (marks Waits)
  none_begins op marks same (Ran a t) = inl (ap (λ (z : Marks). z.begun) (marks (Ran a t)), inl (same a))
  none_begins op marks same (Stops t) = ap (λ (z : Marks). z.begun) (marks (Stops t))

  left_commits : (answer : AfterLeave) (t : State) → s.log.phase ≡ Open → CommitsBy Leave (Ran answer t)
  left_commits Free t opens = inl (refl, inl refl)
  left_commits Commits t opens = inr (refl, ap is_settled opens)

  wrote_commits : (ended : Bool) (t : State) → is_open t.log.phase ≡ ended → CommitsBy Commit (Ran ended t)
  wrote_commits true t e = inl (refl, inr (settled_open t.log.phase e))
  wrote_commits false t e = inl (refl, inl refl)

  -- the states after a write of the commit, and after a leave
  abbrev wrote : State
  wrote =
      record s {
        log = record (s.log) {
          contents = written s.log;
          seats = seats_after s.log.group s.log.phase s.log.seats;
          group = group_in (next_phase (length s.log.group) s.log.phase) s.log.group;
          phase = next_phase (length s.log.group) s.log.phase;
        };
      }

  abbrev left : State
  left = record s { log = record (s.log) { members = slice_set s.log.members h None; phase = phase_at_leave (joined (slice_set s.log.members h None)) s.log.group } }

  commit_commits : (x : Outside) (out : Bool) → CommitsBy Commit (in_log s (commit_if x s.log out))
  commit_commits x true = refl
  commit_commits Passes false = wrote_commits (is_open (next_phase (length s.log.group) s.log.phase)) wrote refl
  commit_commits (Fails after) false = refl

op_commits : (n h : ℕ) (s : State) (was : Option ℕ) (m : Marks) → IsWholeLog s.log → (x : Outside) (op : Op) → May h op s → CommitsBy n h s was m op (exec h x op s)
unfolding exec May
op_commits n h s was m whole x Join may = none_begins n h s was m Join (λ d. refl) (λ a. refl) (exec h x Join s)
op_commits n h s was m whole x (JoinToWrite fd) may = none_begins n h s was m (JoinToWrite fd) (λ d. refl) (λ a. refl) (exec h x (JoinToWrite fd) s)
op_commits n h s was m whole x Leave may = left_commits n h s was m (left_at (joined (slice_set s.log.members h None)) s.log.group) (left n h s was m) (open_of s.log.phase s.log.members h whole.log.quiet may.1 may.0)
op_commits n h s was m whole x (Get b) may = none_begins n h s was m (Get b) (λ d. refl) (λ a. refl) (exec h x (Get b) s)
op_commits n h s was m whole x (Read b) may = none_begins n h s was m (Read b) (λ d. refl) (λ a. refl) (exec h x (Read b) s)
op_commits n h s was m whole x (Put b change) may = none_begins n h s was m (Put b change) (λ d. refl) (λ a. refl) (exec h x (Put b change) s)
op_commits n h s was m whole x Commit may = commit_commits n h s was m x (turn_is_out s.log.seats s.log.group s.log.phase)
op_commits n h s was m whole x (Lock k) may = none_begins n h s was m (Lock k) (λ d. refl) (λ a. refl) (exec h x (Lock k) s)
op_commits n h s was m whole x (LockFile w fd) may = none_begins n h s was m (LockFile w fd) (λ d. refl) (λ a. refl) (exec h x (LockFile w fd) s)
op_commits n h s was m whole x (LockOpen fd) may = none_begins n h s was m (LockOpen fd) (λ d. refl) (λ a. refl) (exec h x (LockOpen fd) s)
op_commits n h s was m whole x (Unlock v moved) may = none_begins n h s was m (Unlock v moved) (λ d. refl) (λ a. refl) (exec h x (Unlock v moved) s)
op_commits n h s was m whole x (SetDirectory v) may = none_begins n h s was m (SetDirectory v) (λ d. refl) (λ a. refl) (exec h x (SetDirectory v) s)
op_commits n h s was m whole x (Up whom) may = none_begins n h s was m (Up whom) (λ d. refl) (λ a. refl) (exec h x (Up whom) s)
op_commits n h s was m whole x (Claim b candidates) may = none_begins n h s was m (Claim b candidates) (λ d. refl) (λ a. refl) (exec h x (Claim b candidates) s)
op_commits n h s was m whole x (Down drop) may = none_begins n h s was m (Down drop) (λ d. refl) (λ a. refl) (exec h x (Down drop) s)
op_commits n h s was m whole x (CheckFile w fd) may = none_begins n h s was m (CheckFile w fd) (λ d. refl) (λ a. refl) (exec h x (CheckFile w fd) s)
op_commits n h s was m whole x TakePlace may = none_begins n h s was m TakePlace (λ d. refl) (λ a. refl) (exec h x TakePlace s)
op_commits n h s was m whole x (TakeDescriptor k file) may = none_begins n h s was m (TakeDescriptor k file) (λ d. refl) (λ a. refl) (exec h x (TakeDescriptor k file) s)
op_commits n h s was m whole x (Double fd) may = none_begins n h s was m (Double fd) (λ d. refl) (λ a. refl) (exec h x (Double fd) s)
op_commits n h s was m whole x (Close fd) may = none_begins n h s was m (Close fd) (λ d. refl) (λ a. refl) (exec h x (Close fd) s)
op_commits n h s was m whole x (GiveDescriptor child from) may = none_begins n h s was m (GiveDescriptor child from) (λ d. refl) (λ a. refl) (exec h x (GiveDescriptor child from) s)
op_commits n h s was m whole x AnswerIt may = none_begins n h s was m AnswerIt (λ d. refl) (λ a. refl) (exec h x AnswerIt s)

-- ---- an event

module _ (sizes : Super) where
  abbrev T : Theory
  T = block_calls sizes

  -- the hart whose commit is under way
  abbrev pub commits_of : StateOf T → Option ℕ
  commits_of s = s.world.real.blocks.commits

  -- the same of an event of hart h
  abbrev pub EventCommits : ℕ → (s t : StateOf T) → (m m' : Marks) → Type 0
  EventCommits h s t m m' =
      ((m'.begun ≡ m.begun) × ((commits_of t ≡ commits_of s) ⊎ ((is_settled (log_at sizes t).phase ≡ true) ⊎ (t.stopped ≡ true))))
      ⊎ ((commits_of t ≡ Some h) × (is_settled (log_at sizes s).phase ≡ true))

  op_event : (h : ℕ) (x : Outside) (s : StateOf T) (r : Run T) (op : Op) (mark : Answer op → Option (ActOf (machine sizes.version))) (k : Answer op → P T.M Reply) (m : Marks) → IsWholeLog (log_at sizes s) → T.M.May h op s.world
      → EventCommits h s (step_prog T h x s r (Do op mark k)).after m (marks_asked sizes s.now h x s.world.real.blocks.state (Do op mark k) m)
  op_event h x s r op mark k m whole may = by (exec h x op s.world.real.blocks.state) (op_commits s.now h s.world.real.blocks.state (commits_of s) m whole x op may)
    where
      by : (d : ExecResult (Answer op) State) → CommitsBy s.now h s.world.real.blocks.state (commits_of s) m op d
          → EventCommits h s (tried T h s r op (λ a. T.M.places h op a (mark a) s.world) k (both (machine sizes.version) h mark s.world.seen (exec_result_in (λ v. record (s.world.real) { blocks = v }) (below.came_to h op s.world.real.blocks d)))).after m
          (marks_by s.now (log_at sizes s) op d m)
      by Waits c = inl (c, inl refl)
      by (Ran a t) c =
          let w = both_at sizes h op mark s.world a t in
          let ps : List (ℕ × T.M.Step) = T.M.places h op a (mark a) s.world in
          let same : (moved T h s r (op, a) ps (k a) w).after.world ≡ w = moved_world sizes h s r (op, a) ps (k a) w in
          let commits : commits_of (moved T h s r (op, a) ps (k a) w).after ≡ commits_after h op a (commits_of s) = ap (λ (z : Both World above.World). z.real.blocks.commits) same in
          elim c [
            | inl p ↦ inl (p.0, elim p.1 [ inl q ↦ inl (commits ∙ q) | inr q ↦ inr (inl (ap (λ (z : Both World above.World). is_settled z.real.blocks.state.log.phase) same ∙ q)) ])
            | inr p ↦ inr (commits ∙ p.0, p.1)
          ]
      by (Stops t) c = inl (c, inr (inr refl))

  prog_event : (h : ℕ) (x : Outside) (s : StateOf T) (r : Run T) (p : P T.M Reply) (m : Marks) → IsWholeLog (log_at sizes s) → OfNext (T.M.May h) (asks p) s.world
      → EventCommits h s (step_prog T h x s r p).after m (marks_asked sizes s.now h x s.world.real.blocks.state p m)
  prog_event h x s r (Ret reply) m whole may = inl (refl, inl refl)
  prog_event h x s r (Do op mark k) m whole may = op_event h x s r op mark k m whole may

  unless_event : (h : ℕ) (x : Outside) (s : StateOf T) (r : Run T) (m : Marks) → IsWholeLog (log_at sizes s) → (b : Bool) → s.stopped ≡ b → (s.stopped ≡ false → OfNext (T.M.May h) (asks r.prog) s.world)
      → EventCommits h s (step_unless T h x s b r).after m (marks_unless sizes s.now h x s.world.real.blocks.state b (Some r) m)
  unless_event h x s r m whole true is may = inl (refl, inl refl)
  unless_event h x s r m whole false is may = prog_event h x s r r.prog m whole (may is)

  step_event : (h : ℕ) (x : Outside) (s : StateOf T) (m : Marks) → IsWholeLog (log_at sizes s) → (o : Option (Run T)) → ((r : Run T) → s.stopped ≡ false → o ≡ Some r → OfNext (T.M.May h) (asks r.prog) s.world)
      → EventCommits h s (step_run T h x s o).after m (marks_unless sizes s.now h x s.world.real.blocks.state s.stopped o m)
  step_event h x s m whole None may = inl (ap (λ (z : Marks). z.begun) (none_marks sizes s.now h x s.world.real.blocks.state s.stopped m), inl refl)
  step_event h x s m whole (Some r) may = unless_event h x s r m whole s.stopped refl (λ is. may r is refl)

  begun_event : (h : ℕ) (call : Call) (s : StateOf T) (m : Marks) → (o : Began T.Refusal T.M.World) → T.start h call (busy_in T s) s.world ≡ o → EventCommits h s (begun T h call s o).after m m
  begun_event h call s m (Refuses why) e = inl (refl, inl refl)
  begun_event h call s m (Begins u) e =
      let t : World = record (s.world.real) { children = put s.world.real.children h (child_of call) } in
      let b = begun_both (began_to s.world.seen ((served_calls sizes.version).start h call (busy_in T s) s.world.seen)) (begins sizes h call (busy_in T s) s.world.real) u e in
      inl (refl, inl (ap (λ (z : World). z.blocks.commits) (sym (begun_here h call (busy_in T s) (shared_of s.world.real) t u.real b.0).same)))

  start_event : (h : ℕ) (call : Call) (s : StateOf T) (m : Marks) → (o : Option (Run T)) → EventCommits h s (start_run T h call s o).after m m
  start_event h call s m (Some r) = inl (refl, inl refl)
  start_event h call s m None = begun_event h call s m (T.start h call (busy_in T s) s.world) refl

  pub event_commits : (e : Event Call Outside) (s : StateOf T) (m : Marks) → Sound T s → IsWholeLog (log_at sizes s) → EventCommits (hart_of e) s (next T e s) m (marks_next sizes e s m)
  event_commits (Start h call) s m sound whole = start_event h call s m (s.running h)
  event_commits (Step h x) s m sound whole = step_event h x s m whole (s.running h) (λ r runs is. may_make T (lawful sizes) (T.M.tree sound.first) s (sound_keeps T (lawful sizes) s sound) h r runs is)
