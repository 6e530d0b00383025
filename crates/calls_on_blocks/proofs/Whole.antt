-- The states after each event, and what their marks leave whole.
use Rattle.calls_on_blocks.proofs.Vocabulary.{◌≡◌, ◌≢◌, ◌⊎◌, inl, inr, ℕ, zero, suc, ◌+◌, ◌-◌, ◌≤◌, ◌<◌, Bool, true, false, List, [], ◌∷◌, ◌++◌, Option, Some, None, length, get_or, take, refl, sym, subst, ap, ◌∙◌, arith, add-one, take_more, take_all, get_or_from_slice_get, slice_get_within, Super, sizes_of, Reply, Call, Progress, WaitsFor, Wrote, Ended, Failed, AfterLeave, Free, Commits, Marks, Phase, Open, Staging, Installing, Halted, joined, begins_at, is_running, is_settled, LogState, no_marks, after_leave, after_write, Does, IsMarked, IsMarkedRun, cuts_have_replies, Ret, Do, ExecResult, Waits, Ran, Stops, OpWithAnswer, PartOf as P, Theory, Event, Step, Run, State, DidEnd, IsHonest, AllHonest, all_told, hart_of, makes, moved, next, run, step_prog, step_run, step_unless, tried, Sound, Some-inj, changed_same, inv_of, sound_keeps, run-append, sound_run, steady, Outside, Passes, IsWholeLog, mounts_show_their_trees, block_calls, at_point, log_at, marks_after, marks_next, AreEventsOn, marks_at, BeganCommit, CutsHaveReplies, MarksPartNone, HasReplied, state_up_to}
use Rattle.calls_on_blocks.proofs.Lawful.{lawful}
use Rattle.calls_on_blocks.proofs.Commits.{EventCommits, commits_of, event_commits}
use Rattle.calls_on_blocks.proofs.Events.{EventGoes, event_goes, next_now}
use Rattle.calls_on_blocks.proofs.Moves.{itself, log_in}
use Rattle.calls_on_blocks.proofs.Stops.{first_agrees, first_sound, first_state, nobody}

-- ---- a list's first events

honest_first : (L : Theory) (n : ℕ) (es : List (Event L.Call L.M.Outside)) (s : State L) → AllHonest L es s → AllHonest L (take n es) s
honest_first L zero es s honest = tt
honest_first L (suc n) [] s honest = tt
honest_first L (suc n) (e ∷ es) s honest = (honest.0, honest_first L n es (next L e s) honest.1)

honest_next : (L : Theory) (n : ℕ) (es : List (Event L.Call L.M.Outside)) (d : Event L.Call L.M.Outside) (s : State L) → n < length es → AllHonest L es s → IsHonest L (get_or es n d) (run L (take n es) s)
honest_next L n [] d s lt honest = absurd (omega (arith, lt))
honest_next L zero (e ∷ es) d s lt honest = honest.0
honest_next L (suc n) (e ∷ es) d s lt honest = honest_next L n es d (next L e s) (omega (arith, lt)) honest.1

running : (p : Phase) → p ≢ Halted → is_running p ≡ true
running Open runs = refl
running (Staging i) runs = refl
running (Installing i) runs = refl
running Halted runs = absurd (runs refl)

left_low : (n : ℕ) (r : AfterLeave) (m : Marks) → m.begun ≤ n → (after_leave n r m).begun ≤ n + 1
left_low n Free m low = omega (arith, low)
left_low n Commits m low = omega arith

written_low : (point : Bool) (r : Progress) (m : Marks) → (after_write point r m).begun ≡ m.begun
written_low point WaitsFor m = refl
written_low point Wrote m = refl
written_low point Ended m = refl
written_low point Failed m = refl

-- a hart whose reply was given has no call, and the world goes on
module _ (L : Theory) (h : ℕ) (s : State L) (reply : L.Reply) where
  abbrev IsOver : State L → Type 0
  IsOver t = (t.running h ≡ None) × (t.stopped ≡ false)

  over_moved : (r : Run L) (did : OpWithAnswer L.M) (ps : List (ℕ × L.M.Step)) (p : P L.M L.Reply) (w : L.M.World) → s.stopped ≡ false → (moved L h s r did ps p w).came ≡ DidEnd reply → IsOver (moved L h s r did ps p w).after
  over_moved r did ps (Ret a) w runs e = (changed_same (all_told L ps s.running) h None h refl, runs)
  over_moved r did ps (Do op m k) w runs e = absurd cc

  over_tried : (r : Run L) (op : L.M.Op) (ps : L.M.Answer op → List (ℕ × L.M.Step)) (k : L.M.Answer op → P L.M L.Reply) (d : ExecResult (L.M.Answer op) L.M.World) → s.stopped ≡ false → (tried L h s r op ps k d).came ≡ DidEnd reply → IsOver (tried L h s r op ps k d).after
  over_tried r op ps k Waits runs e = absurd cc
  over_tried r op ps k (Ran a w) runs e = over_moved r (op, a) (ps a) (k a) w runs e
  over_tried r op ps k (Stops w) runs e = absurd cc

  over_prog : (x : L.M.Outside) (r : Run L) (p : P L.M L.Reply) → s.stopped ≡ false → (step_prog L h x s r p).came ≡ DidEnd reply → IsOver (step_prog L h x s r p).after
  over_prog x r (Ret a) runs e = absurd cc
  over_prog x r (Do op m k) runs e = over_tried r op (λ a. L.M.places h op a (m a) s.world) k (L.M.go h x op m s.world) runs e

  over_unless : (x : L.M.Outside) (r : Run L) (b : Bool) → s.stopped ≡ b → (step_unless L h x s b r).came ≡ DidEnd reply → IsOver (step_unless L h x s b r).after
  over_unless x r true is e = absurd cc
  over_unless x r false is e = over_prog x r r.prog is e

  over_run : (x : L.M.Outside) (o : Option (Run L)) → (step_run L h x s o).came ≡ DidEnd reply → IsOver (step_run L h x s o).after
  over_run x None e = absurd cc
  over_run x (Some r) e = over_unless x r s.stopped refl e

  over : (x : L.M.Outside) → (makes L (Step h x) s).came ≡ DidEnd reply → IsOver (next L (Step h x) s)
  over x e = over_run x (s.running h) e

module _ (sizes : Super) (events : List (Event Call Outside)) (start : State (block_calls sizes)) (sound : Sound (block_calls sizes) start) (whole : IsWholeLog (log_at sizes start)) (now : start.now ≡ 0) (honest : AllHonest (block_calls sizes) events start) where
  abbrev T : Theory
  T = block_calls sizes

  -- after the first n events
  abbrev state : ℕ → State T
  state n = run T (take n events) start

  abbrev marks : ℕ → Marks
  marks n = marks_after sizes (take n events) start no_marks

  abbrev event : ℕ → Event Call Outside
  event n = get_or events n (Step 0 Passes)

  abbrev log : ℕ → LogState (List (List ℕ))
  log n = log_in (log_at sizes (state n))

  marks_more : (es : List (Event Call Outside)) (e : Event Call Outside) (s : State T) (m : Marks) → marks_after sizes (es ++ e ∷ []) s m ≡ marks_next sizes e (run T es s) (marks_after sizes es s m)
  marks_more [] e s m = refl
  marks_more (x ∷ es) e s m = marks_more es e (next T x s) (marks_next sizes x s m)

  state_next : (n : ℕ) → n < length events → state (n + 1) ≡ next T (event n) (state n)
  state_next n lt = ap (λ (es : List (Event Call Outside)). run T es start) (take_more events n (Step 0 Passes) lt) ∙ run-append T (take n events) (event n ∷ []) start

  marks_next_are : (n : ℕ) → n < length events → marks (n + 1) ≡ marks_next sizes (event n) (state n) (marks n)
  marks_next_are n lt = ap (λ (es : List (Event Call Outside)). marks_after sizes es start no_marks) (take_more events n (Step 0 Passes) lt) ∙ marks_more (take n events) (event n) start no_marks

  sound_at : (n : ℕ) → Sound T (state n)
  sound_at n = sound_run T (take n events) start sound (honest_first T n events start honest)

  honest_at : (n : ℕ) → n < length events → IsHonest T (event n) (state n)
  honest_at n lt = honest_next T n events (Step 0 Passes) start lt honest

  -- its log is whole, and there were n events
  abbrev IsAt : ℕ → Type 0
  IsAt n = IsWholeLog (log_at sizes (state n)) × ((state n).now ≡ n)

  goes_from : (n : ℕ) → n < length events → IsWholeLog (log_at sizes (state n)) → EventGoes sizes (state n) (state (n + 1)) (marks n) (marks (n + 1))
  goes_from n lt whole_here =
      subst (λ (t : State T). EventGoes sizes (state n) t (marks n) (marks (n + 1))) (sym (state_next n lt))
      (subst (λ (m : Marks). EventGoes sizes (state n) (next T (event n) (state n)) (marks n) m) (sym (marks_next_are n lt)) (event_goes sizes (event n) (state n) (marks n) (sound_at n) whole_here (honest_at n lt)))

  is_at : (n : ℕ) → n ≤ length events → IsAt n
  is_at zero le = (whole, now)
  is_at (suc n) le =
      let lt : n < length events = omega (arith, le) in
      let before = is_at n (omega (arith, le)) in
      let after : IsAt (n + 1) = ((goes_from n lt before.0).whole, (let a : (state (n + 1)).now ≡ (state n).now + 1 = ap (λ (t : State T). t.now) (state_next n lt) ∙ next_now sizes (event n) (state n) in let b = before.1 in omega (arith, a, b))) in
      subst IsAt (add-one n) after

  goes_at : (n : ℕ) → n < length events → EventGoes sizes (state n) (state (n + 1)) (marks n) (marks (n + 1))
  goes_at n lt = goes_from n lt (is_at n (omega (arith, lt))).0

  commits_at : (n : ℕ) → n < length events → EventCommits sizes (hart_of (event n)) (state n) (state (n + 1)) (marks n) (marks (n + 1))
  commits_at n lt =
      subst (λ (t : State T). EventCommits sizes (hart_of (event n)) (state n) t (marks n) (marks (n + 1))) (sym (state_next n lt))
      (subst (λ (m : Marks). EventCommits sizes (hart_of (event n)) (state n) (next T (event n) (state n)) (marks n) m) (sym (marks_next_are n lt)) (event_commits sizes (event n) (state n) (marks n) (sound_at n) (is_at n (omega (arith, lt))).0))

  still_runs : (n : ℕ) → (state n).stopped ≡ false → is_running (log_at sizes (state n)).phase ≡ true
  still_runs n on = let inv = inv_of T (state n).stopped (state n).world (sound_keeps T (lawful sizes) (state n) (sound_at n)).holds on in running (log_at sizes (state n)).phase inv.0.0.runs

  does : (n : ℕ) → n < length events → Does itself n (log n) (log (n + 1)) (marks n) (marks (n + 1))
  does n lt =
      let count : (state n).now ≡ n = (is_at n (omega (arith, lt))).1 in
      elim (goes_at n lt).goes [
        | inl p ↦ inl p
        | inr rest ↦ elim rest [
          | inl p ↦ inr (inl (p.0, p.1, p.2, still_runs (n + 1) p.4, subst (λ (j : ℕ). marks (n + 1) ≡ after_leave j p.0 (marks n)) count p.3))
          | inr p ↦ inr (inr p)
        ]
      ]

  -- ---- no mark is in a transaction

  abbrev IsQuiet : ℕ → Type 0
  IsQuiet k = joined (log_at sizes (state k)).members ≡ 0

  -- all that the marks say
  record AreQuiet (m : Marks) : Type 0 where
    pub begun : IsQuiet m.begun
    pub cut : IsQuiet m.cut
    pub doubt : (k : ℕ) → m.doubt ≡ Some k → IsQuiet k

  quiet_left : (n : ℕ) (r : AfterLeave) (m : Marks) → (begins_at r ≡ true → IsQuiet (n + 1)) → AreQuiet m → AreQuiet (after_leave n r m)
  quiet_left n Free m alone q = q
  quiet_left n Commits m alone q = record { begun = alone refl; cut = q.cut; doubt = q.doubt }

  quiet_cut : (point : Bool) (m : Marks) → AreQuiet m → AreQuiet (after_write point Wrote m)
  quiet_cut true m q = record { begun = q.begun; cut = q.begun; doubt = q.doubt }
  quiet_cut false m q = record { begun = q.begun; cut = q.cut; doubt = q.doubt }

  quiet_doubt : (point : Bool) (m : Marks) → AreQuiet m → AreQuiet (after_write point Failed m)
  quiet_doubt true m q = record { begun = q.begun; cut = q.cut; doubt = λ k e. subst IsQuiet (Some-inj m.begun k e) q.begun }
  quiet_doubt false m q = record { begun = q.begun; cut = q.cut; doubt = q.doubt }

  quiet_written : (point : Bool) (r : Progress) (m : Marks) → AreQuiet m → AreQuiet (after_write point r m)
  quiet_written point WaitsFor m q = q
  quiet_written point Wrote m q = quiet_cut point m q
  quiet_written point Ended m q = quiet_cut point m q
  quiet_written point Failed m q = quiet_doubt point m q

  quiet_marks : joined (log_at sizes start).members ≡ 0 → (n : ℕ) → n ≤ length events → AreQuiet (marks n)
  quiet_marks none zero le = record { begun = none; cut = none; doubt = λ k e. absurd cc }
  quiet_marks none (suc n) le =
      let lt : n < length events = omega (arith, le) in
      let before : AreQuiet (marks n) = quiet_marks none n (omega (arith, le)) in
      let after : AreQuiet (marks (n + 1)) = elim (does n lt) [
        | inl p ↦ subst AreQuiet (sym p.1) before
        | inr rest ↦ elim rest [
          | inl p ↦ subst AreQuiet (sym p.4) (quiet_left n p.0 (marks n) p.1.alone before)
          | inr p ↦ subst AreQuiet (sym p.3) (quiet_written (at_point (log_at sizes (state n))) p.0 (marks n) before)
        ]
      ] in
      subst (λ (k : ℕ). AreQuiet (marks k)) (add-one n) after

  -- ---- a commit ends before its hart replies

  -- Of the commit that hart h began with event i: at some event after it, up to n, its head had been written. Or the
  -- commit is under way, or the world has stopped.
  abbrev Goes : (i h n : ℕ) → Type 0
  Goes i h n =
      ((later : ℕ) × (more : ℕ) × (i + 1 + later + more ≡ n) × (is_settled (log_at sizes (state (i + 1 + later))).phase ≡ true))
      ⊎ ((commits_of sizes (state n) ≡ Some h) ⊎ ((state n).stopped ≡ true))

  begun_low : (n : ℕ) → n ≤ length events → (marks n).begun ≤ n
  begun_low zero le = omega arith
  begun_low (suc n) le =
      let lt : n < length events = omega (arith, le) in
      let before = begun_low n (omega (arith, le)) in
      let after : (marks (n + 1)).begun ≤ n + 1 = elim (does n lt) [
        | inl p ↦ (let e = ap (λ (m : Marks). m.begun) p.1 in omega (arith, e, before))
        | inr rest ↦ elim rest [
          | inl p ↦ (let e = ap (λ (m : Marks). m.begun) p.4 in let b = left_low n p.0 (marks n) before in omega (arith, e, b))
          | inr p ↦ (let e = ap (λ (m : Marks). m.begun) p.3 in let b = written_low (at_point (log_at sizes (state n))) p.0 (marks n) in omega (arith, e, b, before))
        ]
      ] in
      subst (λ (k : ℕ). (marks k).begun ≤ k) (add-one n) after

  -- event i began it
  begins : (i h : ℕ) → i < length events → hart_of (event i) ≡ h → (marks (i + 1)).begun ≡ i + 1 → Goes i h (i + 1)
  begins i h lt his begun = elim (commits_at i lt) [
    | inl p ↦ (let same = p.0 in let low = begun_low i (omega (arith, lt)) in absurd (omega (arith, same, low, begun)))
    | inr p ↦ inr (inl (p.0 ∙ ap (λ (k : ℕ). Some k) his))
  ]

  goes_on : (i h n : ℕ) → i + 1 ≤ n → n < length events → Goes i h n → Goes i h (n + 1)
  goes_on i h n le lt (inl g) = let sum = g.2 in inl (g.0, g.1 + 1, omega (arith, sum), g.3)
  goes_on i h n le lt (inr (inr stopped)) = inr (inr (ap (λ (t : State T). t.stopped) (state_next n lt) ∙ (steady T).stays_stopped (event n) (state n) stopped))
  goes_on i h n le lt (inr (inl his)) = elim (commits_at n lt) [
    | inl p ↦ elim p.1 [
      | inl same ↦ inr (inl (same ∙ his))
      | inr rest ↦ elim rest [
        | inl settled ↦ inl (n - i, 0, omega (arith, le), subst (λ (k : ℕ). is_settled (log_at sizes (state k)).phase ≡ true) (let sum : n + 1 ≡ i + 1 + (n - i) = omega (arith, le) in sum) settled)
        | inr stopped ↦ inr (inr stopped)
      ]
    ]
    | inr p ↦ inl (n - (i + 1), 1, omega (arith, le), subst (λ (k : ℕ). is_settled (log_at sizes (state k)).phase ≡ true) (let sum : n ≡ i + 1 + (n - (i + 1)) = omega (arith, le) in sum) p.1)
  ]

  goes_up_to : (i h : ℕ) → i < length events → hart_of (event i) ≡ h → (marks (i + 1)).begun ≡ i + 1 → (more : ℕ) → i + 1 + more ≤ length events → Goes i h (i + 1 + more)
  goes_up_to i h lt his begun zero le = subst (Goes i h) (let e : i + 1 ≡ i + 1 + 0 = omega arith in e) (begins i h lt his begun)
  goes_up_to i h lt his begun (suc more) le =
      subst (Goes i h) (let e : i + 1 + more + 1 ≡ i + 1 + suc more = omega arith in e)
      (goes_on i h (i + 1 + more) (omega arith) (omega (arith, le)) (goes_up_to i h lt his begun more (omega (arith, le))))

  -- once its hart has no call, and the world goes on, its head was written
  ended : (i h n : ℕ) → (state n).running h ≡ None → (state n).stopped ≡ false → Goes i h n → (later : ℕ) × (more : ℕ) × (i + 1 + later + more ≡ n) × (is_settled (log_at sizes (state (i + 1 + later))).phase ≡ true)
  ended i h n idle on (inl g) = g
  ended i h n idle on (inr (inl his)) = absurd (((sound_keeps T (lawful sizes) (state n) (sound_at n)).idle h idle).0.0.through.commits his)
  ended i h n idle on (inr (inr stopped)) = absurd (let e : true ≡ false = sym stopped ∙ on in cc)

  replied_at : (j h : ℕ) (x : Outside) (reply : Reply) → j < length events → event j ≡ Step h x → (makes T (Step h x) (state j)).came ≡ DidEnd reply → ((state (j + 1)).running h ≡ None) × ((state (j + 1)).stopped ≡ false)
  replied_at j h x reply lt is came =
      subst (λ (t : State T). (t.running h ≡ None) × (t.stopped ≡ false)) (sym (state_next j lt ∙ ap (λ (e : Event Call Outside). next T e (state j)) is)) (over T h (state j) reply x came)

module _ (disk : List (List ℕ)) (failures : ℕ) (events : List (Event Call Outside)) (on : AreEventsOn disk failures events) where
  abbrev all : ℕ
  all = length events

  abbrev sizes_here : Super
  sizes_here = sizes_of disk

  abbrev L : Theory
  L = block_calls sizes_here

  abbrev start : State L
  start = first_state disk failures on.mountable

  -- the first `all` events are all events
  marks_all : marks_after sizes_here (take all events) start no_marks ≡ marks_at disk failures events
  marks_all = ap (λ (es : List (Event Call Outside)). marks_after sizes_here es start no_marks) (take_all all events (omega arith))

  sound_start : Sound L start
  sound_start = first_sound disk failures on.mountable

  whole_start : IsWholeLog (log_at sizes_here start)
  whole_start = (mounts_show_their_trees disk failures on.mountable).shows.whole

  quiet_at : (k : ℕ) → IsMarked (marks_at disk failures events) k → joined (log_at sizes_here (state_up_to disk failures events k)).members ≡ 0
  quiet_at k marked =
      let q = subst (AreQuiet sizes_here events start sound_start whole_start refl on.honest) marks_all (quiet_marks sizes_here events start sound_start whole_start refl on.honest (nobody disk failures on.mountable) all (omega arith)) in
      elim marked [
        | inl is ↦ subst (λ (n : ℕ). joined (log_at sizes_here (state_up_to disk failures events n)).members ≡ 0) (sym is) q.cut
        | inr is ↦ q.doubt k is
      ]

  marked_run : IsMarkedRun itself all (log sizes_here events start sound_start whole_start refl on.honest) (marks sizes_here events start sound_start whole_start refl on.honest)
  marked_run = record { fresh = first_agrees disk failures on.mountable; idle = refl; unmarked = refl; does = does sizes_here events start sound_start whole_start refl on.honest }

  cut_has : (i j h : ℕ) → BeganCommit disk failures events i h → i < j → HasReplied disk failures events j h → i < (marks_at disk failures events).cut
  cut_has i j h began lt replied =
      let past : j < all = slice_get_within events j (Step h replied.outside) replied.event in
      let over_at = replied_at sizes_here events start sound_start whole_start refl on.honest j h replied.outside replied.reply past (get_or_from_slice_get events j (Step h replied.outside) (Step 0 Passes) replied.event) replied.came in
      let same : j + 1 ≡ i + 1 + (j - i) = omega (arith, lt) in
      let goes : Goes sizes_here events start sound_start whole_start refl on.honest i h (j + 1) =
      subst (Goes sizes_here events start sound_start whole_start refl on.honest i h) (sym same)
      (goes_up_to sizes_here events start sound_start whole_start refl on.honest i h (omega (arith, lt, past)) (ap hart_of (get_or_from_slice_get events i (Step h began.outside) (Step 0 Passes) began.event)) began.begun (j - i) (omega (arith, lt, past))) in
      let e = ended sizes_here events start sound_start whole_start refl on.honest i h (j + 1) over_at.0 over_at.1 goes in
      let sum = e.2 in
      let more : ℕ = all - (i + 1 + e.0) in
      let long : i + 1 + e.0 + more ≡ all = omega (arith, sum, past) in
      let low = cuts_have_replies itself all (log sizes_here events start sound_start whole_start refl on.honest) (marks sizes_here events start sound_start whole_start refl on.honest) marked_run i e.0 more began.begun (omega (arith, long)) e.3 in
      subst (λ (m : Marks). i < m.cut) marks_all (subst (λ (n : ℕ). i < (marks sizes_here events start sound_start whole_start refl on.honest n).cut) long low)

pub marks_part_none : MarksPartNone
marks_part_none disk failures events on k marked = quiet_at disk failures events on k marked

pub the_cuts_have_replies : CutsHaveReplies
the_cuts_have_replies disk failures events on i j h began lt replied = cut_has disk failures events on i j h began lt replied
