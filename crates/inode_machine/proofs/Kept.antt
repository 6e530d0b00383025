-- The list that is kept beside a run is the one that explains it.
use Rattle.image_versions.specs.declared.version.Version.{Version}
use Rattle.inode_machine.proofs.Vocabulary.{◌≡◌, ◌≢◌, ◌⊎◌, inl, inr, ℕ, suc, ◌<◌, ◌≤◌, Bool, true, false, List, [], ◌∷◌, ◌++◌, map, length, Option, Some, None, refl, sym, ◌∙◌, ap, subst, arith, append_assoc, Reply, Call, Act, Shown, Chain, Explains, trace_of, TreeData, Placed, Tree, put, tree_of, hart_count, eq_self, eq_not, put_same, put_other, Deed, Move, Stage, Step as MoveStep, IsNext, MayEnd, TakesMove, IsPlayedSoFar, IsWholeCall, after, begins, told_by, History, starts, passes, Busy, Told, Turn, Happens, BeginsNext, PlaysAny, Goings, Calm, Lone, IsStartBy, climbing, finishes, moves_on, opened, shown_of, stepped, Starts, Steps, Nothing, Tells, runs_more, runs_none, grows, before, NeverClimbs, IsHart, apart_alone, apart_calm, opened_ok, run_explained, run_ok, starts_alone, starts_calm, AllMayStart, Apart, event_tells, played_end, told_more, Prog, Ret, Do, ExecResult, Waits, Ran, Stops, asks, OfNext, OpWithAnswer, Goes, Good, Grown, PlacesOne, Wp, onto, oldest_first, own, Theory, Began, Begins, Begun, EventOutcome, Refuses, busy_in, Ends, Event, Start, StepOf as Step, HonestStep, IsHonest, Run, Sound, State, AllHonest, all_told, fresh, moved, next, run, start_run, step_prog, step_run, step_unless, told, tried, unchanged, append_nil, oldest_first_more, Keeps, changed_tells, inv_of, sound_keeps, leads, sound_fresh, sound_run, MoveMachine, IsMoving, HasOneHistory, RunsFrom, Alone, NoneClimbs, StartsBy, climbs_at, machine_of, shown_by, shows, theory_of, IsTheHistory, history_of, kept, kept_by, kept_on, nothing_yet, placed, placed_prog, placed_run, placed_tried, placed_unless, told_of}
use Rattle.inode_machine.proofs.SoFar.{next_so_far}
use Rattle.inode_machine.specs.Making.{hart_of}
use Rattle.tree_laws.specs.History.HartStanding.{Free}
use Rattle.atomic_programs.specs.Calls.{begun, makes}

module _ (version : Version) (N : MoveMachine) (moving : IsMoving version N) where
  abbrev pub L : Theory
  L = theory_of version N

  abbrev P : Type 0 → Type 0
  P A = Prog N.Op N.Answer N.Mark A

  -- The calls of a state as they are beside a history of moves.
  pub record Beside (s : State L) (t : Told) : Type 0 where
    pub stage : t.stage ≡ N.tree s.world
    pub free : (h : ℕ) → s.running h ≡ None → t.history.calls h ≡ Free
    pub busy : (h : ℕ) (r : Run L) → s.running h ≡ Some r → (id : ℕ) × (t.history.calls h ≡ Busy id r.call (told_by [] (oldest_first r.done)))
    pub harts : (h : ℕ) (r : Run L) → s.running h ≡ Some r → h < hart_count

  -- what hart h's event places is one move at most, its own, and is made; if it places none the tree and all walks
  -- stay
  abbrev pub Places : ℕ → Stage → List (ℕ × MoveStep) → Stage → Type 0
  Places h m [] m' = m' ≡ m
  Places h m (p ∷ ps) m' = (ps ≡ []) × (p.0 ≡ h) × (h < hart_count) × TakesMove version m h p.1 m'

  -- An event that led to s2 and placed these, as one of moves.
  pub record Turns (e : Event Call N.Outside) (came : EventOutcome L) (s2 : State L) (t : Told) (ps : List (ℕ × MoveStep)) : Type 0 where
    pub event : Turn
    pub then_ : Told
    pub happens : Happens version t event then_
    pub beside : Beside s2 then_
    pub places : Places (hart_of e) t.stage ps (N.tree s2.world)
    pub written : then_.history ≡ kept_by N e came t.stage (N.tree s2.world) (told_of N ps) t.history
    pub shown : shown_of event ≡ shown_by e came
    pub calm : climbs_at e ≡ false → climbing event ≡ false
    pub alone : (h : ℕ) → StartsBy h e → IsStartBy h event

  nothing_turns : (e : Event Call N.Outside) (came : EventOutcome L) (s s2 : State L) (t : Told) → Beside s t → s2.running ≡ s.running → N.tree s2.world ≡ N.tree s.world → Shown.Other ≡ shown_by e came → passes t.history ≡ kept_by N e came t.stage (N.tree s2.world) None t.history → Turns e came s2 t []
  nothing_turns e came s s2 t b same stage shown written = record {
    event = Nothing;
    then_ = record { stage = t.stage; history = passes t.history };
    happens = refl;
    places = stage ∙ sym b.stage;
    written = written;
    beside = record {
      stage = b.stage ∙ sym stage;
      free = λ h q. b.free h (sym (ap (λ (f : ℕ → Option (Run L)). f h) same) ∙ q);
      busy = λ h r q. b.busy h r (sym (ap (λ (f : ℕ → Option (Run L)). f h) same) ∙ q);
      harts = λ h r q. b.harts h r (sym (ap (λ (f : ℕ → Option (Run L)). f h) same) ∙ q);
    };
    shown = shown;
    calm = λ q. refl;
    alone = λ h q. tt;
  }

  -- Starts.

  begun_turns : (h : ℕ) (call : Call) (s : State L) (t : Told) → Beside s t → s.running h ≡ None → (o : Began N.Refusal N.World) → L.start h call (busy_in L s) s.world ≡ o → Turns (Start h call) (begun L h call s o).came (begun L h call s o).after t []
  begun_turns h call s t b none (Refuses why) q = nothing_turns (Start h call) _ s (unchanged L s) t b refl refl refl refl
  begun_turns h call s t b none (Begins u) q = record {
    event = Starts h call;
    then_ = record { stage = t.stage; history = starts t.history h call };
    happens = record { hart = begins.0; free = b.free h none; world = refl };
    places = begins.1 ∙ sym b.stage;
    written = refl;
    beside = record {
      stage = b.stage ∙ sym begins.1;
      free = λ j e. elim (changed_tells s.running h (Some new) j None e) [ inl x ↦ absurd (let a = x.1 in cc (a)) | inr x ↦ put_other t.history.calls h (Busy (length t.history.trace.calls) call []) j x.0 ∙ b.free j x.1 ];
      busy = λ j r e. elim (changed_tells s.running h (Some new) j (Some r) e) [
        | inl x ↦ (let a : new ≡ r = run_is new r x.1 in subst (λ (z : Run L). (id : ℕ) × (put t.history.calls h (Busy (length t.history.trace.calls) call []) j ≡ Busy id z.call (told_by [] (oldest_first z.done)))) a (length t.history.trace.calls, ap (put t.history.calls h (Busy (length t.history.trace.calls) call [])) x.0 ∙ put_same t.history.calls h (Busy (length t.history.trace.calls) call [])))
        | inr x ↦ (let a = b.busy j r x.1 in (a.0, put_other t.history.calls h (Busy (length t.history.trace.calls) call []) j x.0 ∙ a.1))
      ];
      harts = λ j r e. elim (changed_tells s.running h (Some new) j (Some r) e) [ inl x ↦ subst (λ (z : ℕ). z < hart_count) (sym x.0) begins.0 | inr x ↦ b.harts j r x.1 ];
    };
    shown = refl;
    calm = λ z. z;
    alone = λ j z. z;
  }
    where
      begins : (h < hart_count) × (N.tree u ≡ N.tree s.world)
      begins = moving.begins h call (busy_in L s) s.world u q

      new : Run L
      new = record { call = call; start = s.now; prog = N.program call; count = 0; done = [] }

      run_is : (x y : Run L) → ◌≡◌ {A = Option (Run L)} (Some x) (Some y) → x ≡ y
      run_is x y e = cc

  start_turns : (h : ℕ) (call : Call) (s : State L) (t : Told) → Beside s t → (x : Option (Run L)) → s.running h ≡ x → Turns (Start h call) (start_run L h call s x).came (start_run L h call s x).after t []
  start_turns h call s t b (Some r) q = nothing_turns (Start h call) _ s (unchanged L s) t b refl refl refl refl
  start_turns h call s t b None q = begun_turns h call s t b q (L.start h call (busy_in L s) s.world) refl

  -- Steps.

  -- a step places nothing, or one move of its hart
  abbrev PlacesAny : ℕ → List (ℕ × MoveStep) → Type 0
  PlacesAny h ps = (ps ≡ []) ⊎ ((e : MoveStep) × (ps ≡ (h, e) ∷ []))

  places_one : PlacesOne (machine_of version N)
  places_one h op a m w inv = at (N.places h op a m w) (moving.one h op a m w)
    where
      at : (ps : List (ℕ × MoveStep)) → PlacesAny h ps → length (own h ps) ≤ 1
      at ps (inl e) = subst (λ (z : List (ℕ × MoveStep)). length (own h z) ≤ 1) (sym e) (omega arith)
      at ps (inr e) = subst (λ (z : List (ℕ × MoveStep)). length (own h z) ≤ 1) (sym e.1) (rw (eq_self h) (omega arith))

  -- it reports nothing to another hart's call
  told_other : (h j : ℕ) (ps : List (ℕ × MoveStep)) → PlacesAny h ps → j ≢ h → (o : Option (Run L)) → told L (own j ps) o ≡ o
  told_other h j ps (inl e) ne o = ap (λ (z : List (ℕ × MoveStep)). told L (own j z) o) e ∙ same o
    where
      same : (o : Option (Run L)) → told L [] o ≡ o
      same None = refl
      same (Some r) = refl
  told_other h j ps (inr e) ne o = ap (λ (z : List (ℕ × MoveStep)). told L (own j z) o) e.1 ∙ rw (eq_not h j (λ q. ne (sym q))) (same o)
    where
      same : (o : Option (Run L)) → told L [] o ≡ o
      same None = refl
      same (Some r) = refl

  -- What a step of call r makes of the moves.
  record OneMove (h : ℕ) (r : Run L) (ps : List (ℕ × MoveStep)) (w : N.World) (t : Told) : Type 0 where
    pub move : Option Move
    pub deed : Option Deed
    pub plays : PlaysAny version t.stage h move deed (N.tree w)
    pub next : BeginsNext r.call (told_by [] (oldest_first r.done)) move
    pub is : deed ≡ told_of N ps
    pub places : Places h t.stage ps (N.tree w)
    pub acts : after deed (told_by [] (oldest_first r.done)) ≡ told_by [] (oldest_first (onto (own h ps) r.done))

  one_move : (h : ℕ) (s : State L) (r : Run L) (ps : List (ℕ × MoveStep)) (w : N.World) (t : Told) → h < hart_count → t.stage ≡ N.tree s.world → PlacesAny h ps → Goes (machine_of version N) (N.tree s.world) ps (N.tree w) → Grown (Begun L r.call) (own h ps) r.done → OneMove h r ps w t
  one_move h s r ps w t hart stage (inl e) goes grown = record {
    move = None;
    deed = None;
    plays = (refl, went ∙ sym stage);
    next = tt;
    is = (λ z. told_of N (sym e z));
    places = subst (λ (z : List (ℕ × MoveStep)). Places h t.stage z (N.tree w)) (sym e) (went ∙ sym stage);
    acts = (λ z. told_by [] (oldest_first (onto (own h (sym e z)) r.done)));
  }
    where
      went : N.tree w ≡ N.tree s.world
      went = subst (λ (z : List (ℕ × MoveStep)). Goes (machine_of version N) (N.tree s.world) z (N.tree w)) e goes
  one_move h s r ps w t hart stage (inr p) goes grown = record {
    move = Some e.move;
    deed = e.told;
    plays = takes.0;
    next = begins_next;
    is = (λ z. told_of N (sym p.1 z));
    places = subst (λ (z : List (ℕ × MoveStep)). Places h t.stage z (N.tree w)) (sym p.1) (refl, refl, hart, takes);
    acts = sym (told_more [] (oldest_first r.done) e) ∙ ap (told_by []) (sym (oldest_first_more e r.done)) ∙ (λ z. told_by [] (oldest_first (onto (sym mine z) r.done)));
  }
    where
      e : MoveStep
      e = p.0

      mine : own h ps ≡ e ∷ []
      mine = ap (own h) p.1 ∙ rw (eq_self h) refl

      went : (mid : Stage) × TakesMove version (N.tree s.world) h e mid × (N.tree w ≡ mid)
      went = subst (λ (z : List (ℕ × MoveStep)). Goes (machine_of version N) (N.tree s.world) z (N.tree w)) p.1 goes

      takes : TakesMove version t.stage h e (N.tree w)
      takes = subst (λ (z : Stage). TakesMove version z h e (N.tree w)) (sym stage) (subst (λ (z : Stage). TakesMove version (N.tree s.world) h e z) (sym went.2) went.1)

      begins_next : IsNext r.call (told_by [] (oldest_first r.done)) (begins e.move)
      begins_next = elim (subst (λ (z : List MoveStep). Grown (Begun L r.call) z r.done) mine grown) [
        | inl n ↦ absurd (let x : ◌≡◌ {A = List MoveStep} (e ∷ []) [] = n in cc (x))
        | inr b ↦ next_so_far r.call [] (oldest_first r.done) e (subst (λ (z : List MoveStep). IsPlayedSoFar r.call [] z) (oldest_first_more e r.done) b)
      ]

  -- when the program ends, the call's moves are written, and its hart walks no more
  abbrev EndsSo : ℕ → Run L → List (ℕ × MoveStep) → P Reply → N.World → Type 0
  EndsSo h r ps (Ret reply) w = IsWholeCall r.call (oldest_first (onto (own h ps) r.done)) reply × ((N.tree w).walk h ≡ None)
  EndsSo h r ps (Do op m k) w = Unit {0}

  moved_turns : (h : ℕ) (x : N.Outside) (s : State L) (t : Told) (r : Run L) (did : OpWithAnswer (machine_of version N)) (ps : List (ℕ × MoveStep)) (p : P Reply) (w : N.World) → Beside s t → s.running h ≡ Some r → PlacesAny h ps → Goes (machine_of version N) (N.tree s.world) ps (N.tree w) → Grown (Begun L r.call) (own h ps) r.done → EndsSo h r ps p w
      → Turns (Step h x) (moved L h s r did ps p w).came (moved L h s r did ps p w).after t ps
  moved_turns h x s t r did ps (Do op m k) w b is any goes grown end = record {
    event = Steps h v.move None;
    then_ = stepped t h v.deed (N.tree w) None;
    happens = record { hart = b.harts h r is; id = (b.busy h r is).0; c = r.call; acts = told_by [] (oldest_first r.done); busy = (b.busy h r is).1; next = v.next; told = v.deed; stage = N.tree w; plays = v.plays; reply = tt; world = refl };
    places = v.places;
    written = (λ z. finishes None h (moves_on t.stage (N.tree w) h (v.is z) t.history));
    beside = record {
      stage = refl;
      free = λ j e. elim (changed_tells (all_told L ps s.running) h (Some new) j None e) [ inl y ↦ absurd (let a = y.1 in cc (a)) | inr y ↦ tells.others None j y.0 ∙ b.free j (sym (told_other h j ps any y.0 (s.running j)) ∙ y.1) ];
      busy = λ j q e. elim (changed_tells (all_told L ps s.running) h (Some new) j (Some q) e) [
        | inl y ↦ (let a : new ≡ q = run_is new q y.1 in subst (λ (z : Run L). (id : ℕ) × ((stepped t h v.deed (N.tree w) None).history.calls j ≡ Busy id z.call (told_by [] (oldest_first z.done)))) a ((b.busy h r is).0, ap (stepped t h v.deed (N.tree w) None).history.calls y.0 ∙ tells.goes_on ∙ (λ z. Busy (b.busy h r is).0 r.call (v.acts z))))
        | inr y ↦ (let a = b.busy j q (sym (told_other h j ps any y.0 (s.running j)) ∙ y.1) in (a.0, tells.others None j y.0 ∙ a.1))
      ];
      harts = λ j q e. elim (changed_tells (all_told L ps s.running) h (Some new) j (Some q) e) [ inl y ↦ subst (λ (z : ℕ). z < hart_count) (sym y.0) (b.harts h r is) | inr y ↦ b.harts j q (sym (told_other h j ps any y.0 (s.running j)) ∙ y.1) ];
    };
    shown = refl;
    calm = λ z. refl;
    alone = λ j z. tt;
  }
    where
      v : OneMove h r ps w t
      v = one_move h s r ps w t (b.harts h r is) b.stage any goes grown

      new : Run L
      new = record { call = r.call; start = r.start; prog = Do op m k; count = suc r.count; done = onto (own h ps) r.done }

      run_is : (a c : Run L) → ◌≡◌ {A = Option (Run L)} (Some a) (Some c) → a ≡ c
      run_is a c e = cc

      tells : Tells t h (b.busy h r is).0 r.call (told_by [] (oldest_first r.done)) v.deed (N.tree w)
      tells = event_tells t h (b.busy h r is).0 r.call (told_by [] (oldest_first r.done)) v.deed (N.tree w) (b.busy h r is).1
  moved_turns h x s t r did ps (Ret reply) w b is any goes grown end = record {
    event = Steps h v.move (Some reply);
    then_ = stepped t h v.deed (N.tree w) (Some reply);
    happens = record { hart = b.harts h r is; id = (b.busy h r is).0; c = r.call; acts = told_by [] (oldest_first r.done); busy = (b.busy h r is).1; next = v.next; told = v.deed; stage = N.tree w; plays = v.plays; reply = (end.1, subst (λ (z : List Act). MayEnd r.call z reply) (sym v.acts) (played_end r.call [] (oldest_first (onto (own h ps) r.done)) reply end.0)); world = refl };
    places = v.places;
    written = (λ z. finishes (Some reply) h (moves_on t.stage (N.tree w) h (v.is z) t.history));
    beside = record {
      stage = refl;
      free = λ j e. elim (changed_tells (all_told L ps s.running) h None j None e) [ inl y ↦ ap (stepped t h v.deed (N.tree w) (Some reply)).history.calls y.0 ∙ tells.ends reply | inr y ↦ tells.others (Some reply) j y.0 ∙ b.free j (sym (told_other h j ps any y.0 (s.running j)) ∙ y.1) ];
      busy = λ j q e. elim (changed_tells (all_told L ps s.running) h None j (Some q) e) [
        | inl y ↦ absurd (let a = y.1 in cc (a))
        | inr y ↦ (let a = b.busy j q (sym (told_other h j ps any y.0 (s.running j)) ∙ y.1) in (a.0, tells.others (Some reply) j y.0 ∙ a.1))
      ];
      harts = λ j q e. elim (changed_tells (all_told L ps s.running) h None j (Some q) e) [ inl y ↦ absurd (let a = y.1 in cc (a)) | inr y ↦ b.harts j q (sym (told_other h j ps any y.0 (s.running j)) ∙ y.1) ];
    };
    shown = refl;
    calm = λ z. refl;
    alone = λ j z. tt;
  }
    where
      v : OneMove h r ps w t
      v = one_move h s r ps w t (b.harts h r is) b.stage any goes grown

      tells : Tells t h (b.busy h r is).0 r.call (told_by [] (oldest_first r.done)) v.deed (N.tree w)
      tells = event_tells t h (b.busy h r is).0 r.call (told_by [] (oldest_first r.done)) v.deed (N.tree w) (b.busy h r is).1

  world_moved : (h : ℕ) (s : State L) (r : Run L) (did : OpWithAnswer (machine_of version N)) (ps : List (ℕ × MoveStep)) (p : P Reply) (w : N.World) → (moved L h s r did ps p w).after.world ≡ w
  world_moved h s r did ps (Ret reply) w = refl
  world_moved h s r did ps (Do op m k) w = refl

  ends_so : (h n : ℕ) (r : Run L) (ps : List (ℕ × MoveStep)) (p : P Reply) (w : N.World) → Wp (machine_of version N) h (Begun L r.call) (Ends L h r.call) p n (onto (own h ps) r.done) w → N.Clean w → EndsSo h r ps p w
  ends_so h n r ps (Ret reply) w g clean = (g.0 clean, moving.rests h w g.1)
  ends_so h n r ps (Do op m k) w g clean = tt

  tried_turns : (h n more : ℕ) (x : N.Outside) (s : State L) (t : Told) (r : Run L) (op : N.Op) (m : N.Answer op → Option N.Mark) (k : N.Answer op → P Reply) (wait : Type 0) (d : ExecResult (N.Answer op) N.World) → Beside s t → s.running h ≡ Some r
      → Good (machine_of version N) (N.Answer op) h (λ a. N.places h op a (m a) s.world) more n (Begun L r.call) r.done s.world wait d (λ l a u. Wp (machine_of version N) h (Begun L r.call) (Ends L h r.call) (k a) l (onto (own h (N.places h op a (m a) s.world)) r.done) u)
      → N.Clean (tried L h s r op (λ a. N.places h op a (m a) s.world) k d).after.world
      → Turns (Step h x) (tried L h s r op (λ a. N.places h op a (m a) s.world) k d).came (tried L h s r op (λ a. N.places h op a (m a) s.world) k d).after t (placed_tried N (λ a. N.places h op a (m a) s.world) d)
  tried_turns h n more x s t r op m k wait Waits b is g clean = nothing_turns (Step h x) _ s (unchanged L s) t b refl refl refl refl
  tried_turns h n more x s t r op m k wait (Ran a w) b is g clean =
      let c : N.Clean w = subst N.Clean (world_moved h s r (op, a) (N.places h op a (m a) s.world) (k a) w) clean in
      moved_turns h x s t r (op, a) (N.places h op a (m a) s.world) (k a) w b is (moving.one h op a (m a) s.world) (g.goes c) (g.begun c) (ends_so h g.left r (N.places h op a (m a) s.world) (k a) w g.next c)
  tried_turns h n more x s t r op m k wait (Stops w) b is g clean = nothing_turns (Step h x) _ s (tried L h s r op (λ a. N.places h op a (m a) s.world) k (Stops w)).after t b refl (g.tree clean) refl refl

  prog_turns : (h n : ℕ) (x : N.Outside) (s : State L) (t : Told) (r : Run L) (p : P Reply) → Beside s t → s.running h ≡ Some r → N.Inv s.world → OfNext (λ op v. N.Honest h op v x) (asks p) s.world → Wp (machine_of version N) h (Begun L r.call) (Ends L h r.call) p n r.done s.world
      → N.Clean (step_prog L h x s r p).after.world → Turns (Step h x) (step_prog L h x s r p).came (step_prog L h x s r p).after t (placed_prog N h x s.world p)
  prog_turns h n x s t r (Ret reply) b is inv honest g clean = nothing_turns (Step h x) _ s (unchanged L s) t b refl refl refl refl
  prog_turns h n x s t r (Do op m k) b is inv honest g clean = tried_turns h n (N.more op) x s t r op m k (N.MayWait h op s.world) (N.go h x op m s.world) b is ((g s.world [] (moving.lawful.laws.same h s.world) inv).2 x honest) clean

  unless_turns : (base : Stage) (h : ℕ) (x : N.Outside) (s : State L) (t : Told) (r : Run L) → Keeps L base s → Beside s t → s.running h ≡ Some r → (b : Bool) → s.stopped ≡ b → HonestStep L h x s.world b (Some r)
      → N.Clean (step_unless L h x s b r).after.world → Turns (Step h x) (step_unless L h x s b r).came (step_unless L h x s b r).after t (placed_unless N h x s.world b r.prog)
  unless_turns base h x s t r keeps b is true q honest clean = nothing_turns (Step h x) _ s (unchanged L s) t b refl refl refl refl
  unless_turns base h x s t r keeps b is false q honest clean = prog_turns h (keeps.going h r is).left x s t r r.prog b is (inv_of L s.stopped s.world keeps.holds q) honest ((keeps.going h r is).wp q) clean

  step_turns : (base : Stage) (h : ℕ) (x : N.Outside) (s : State L) (t : Told) → Keeps L base s → Beside s t → (o : Option (Run L)) → s.running h ≡ o → HonestStep L h x s.world s.stopped o
      → N.Clean (step_run L h x s o).after.world → Turns (Step h x) (step_run L h x s o).came (step_run L h x s o).after t (placed_run version N h x s o)
  step_turns base h x s t keeps b None q honest clean = nothing_turns (Step h x) _ s (unchanged L s) t b refl refl refl refl
  step_turns base h x s t keeps b (Some r) q honest clean = unless_turns base h x s t r keeps b q s.stopped refl honest clean

  pub event_turns : (base : Stage) (e : Event Call N.Outside) (s : State L) (t : Told) → Keeps L base s → Beside s t → IsHonest L e s → N.Clean (next L e s).world → Turns e (makes L e s).came (next L e s) t (placed version N e s)
  event_turns base (Start h call) s t keeps b honest clean = start_turns h call s t b (s.running h) refl
  event_turns base (Step h x) s t keeps b honest clean = step_turns base h x s t keeps b (s.running h) refl honest clean

  -- Runs.

  pub record Turned (base : Tree) (events : List (Event Call N.Outside)) (s : State L) (b : History) (before : List Turn) : Type 0 where
    pub more : List Turn
    pub end : Told
    pub runs : Goings version (opened base) (before ++ more) end
    pub beside : Beside (run L events s) end
    pub written : end.history ≡ kept version N events s b
    pub shown : map shown_of more ≡ shows version N events s
    pub calm : NoneClimbs events → Calm more
    pub alone : (h : ℕ) → Alone h events → Lone h more

  pub clean_before : (events : List (Event Call N.Outside)) (s : State L) → Sound L s → AllHonest L events s → N.Clean (run L events s).world → N.Clean s.world
  clean_before [] s sound honest clean = clean
  clean_before (e ∷ es) s sound honest clean = (leads L moving.lawful places_one s e sound honest.0).clean (clean_before es (next L e s) (sound_run L (e ∷ []) s sound (honest.0, tt)) honest.1 clean)

  more_calm : (e : Turn) (es : List Turn) → climbing e ≡ false → Calm es → Calm (e ∷ es)
  unfolding Calm
  more_calm e es a b = (a, b)

  none_calm : Calm []
  unfolding Calm
  none_calm = tt

  more_alone : (h : ℕ) (e : Turn) (es : List Turn) → IsStartBy h e → Lone h es → Lone h (e ∷ es)
  unfolding Lone
  more_alone h e es a b = (a, b)

  none_alone : (h : ℕ) → Lone h []
  unfolding Lone
  none_alone h = tt

  run_turns : (base : Tree) (events : List (Event Call N.Outside)) (s : State L) (t : Told) (before : List Turn) → Sound L s → Beside s t → Goings version (opened base) before t → AllHonest L events s → N.Clean (run L events s).world → Turned base events s t.history before
  run_turns base [] s t before sound b runs honest clean = record {
    more = [];
    end = t;
    runs = subst (λ (z : List Turn). Goings version (opened base) z t) (sym (append_nil before)) runs;
    beside = b;
    written = refl;
    shown = refl;
    calm = λ z. none_calm;
    alone = λ h z. none_alone h;
  }
  run_turns base (e ∷ es) s t before sound b runs honest clean =
      let sound2 = sound_run L (e ∷ []) s sound (honest.0, tt) in
      let x = event_turns (N.tree sound.first) e s t (sound_keeps L moving.lawful s sound) b honest.0 (clean_before es (next L e s) sound2 honest.1 clean) in
      let y = run_turns base es (next L e s) x.then_ (before ++ x.event ∷ []) sound2 x.beside (runs_more version (opened base) t x.then_ before x.event runs x.happens) honest.1 clean in
      record {
        more = x.event ∷ y.more;
        end = y.end;
        runs = subst (λ (z : List Turn). Goings version (opened base) z y.end) (append_assoc before (x.event ∷ []) y.more) y.runs;
        beside = y.beside;
        written = y.written ∙ ap (kept version N es (next L e s)) (x.written ∙ (λ z. kept_by N e (makes L e s).came (b.stage z) (N.tree (next L e s).world) (told_of N (placed version N e s)) t.history));
        shown = λ z. x.shown z ∷ y.shown z;
        calm = λ z. more_calm x.event y.more (x.calm z.0) (y.calm z.1);
        alone = λ h z. more_alone h x.event y.more (x.alone h z.0) (y.alone h z.1);
      }

  pub turned : (base : TreeData) (w : N.World) (events : List (Event Call N.Outside)) → RunsFrom version N base w events → Turned (tree_of base) events (fresh L w) nothing_yet []
  turned base w events r = run_turns (tree_of base) events (fresh L w) (opened (tree_of base)) [] (sound_fresh L w r.holds r.idle) (record {
    stage = λ z. record { tree = sym r.tree z; walk = λ h. sym (moving.rests h w (r.idle h)) z };
    free = λ h q. refl;
    busy = λ h x q. absurd cc;
    harts = λ h x q. absurd cc;
  }) (runs_none version (opened (tree_of base))) r.honest r.clean

  history : (Ok : ℕ → Call → Type 0) (base : TreeData) (w : N.World) (events : List (Event Call N.Outside)) → RunsFrom version N base w events → Apart Ok → (x : Turned (tree_of base) events (fresh L w) nothing_yet []) → AllMayStart Ok x.more → IsTheHistory version N base w events
  history Ok base w events r apart x may = record {
    explains = subst (λ (z : List Placed). Explains version base (trace_of (shows version N events (fresh L w))) z) same (subst (λ (z : List Shown). Explains version base (trace_of z) x.end.history.list) x.shown (run_explained version Ok base x.end x.more apart may r.well x.runs));
    leads = subst (λ (z : List Placed). Chain version (tree_of base) z (N.tree (run L events (fresh L w)).world).tree) same
        (subst (λ (z : Tree). Chain version (tree_of base) x.end.history.list z) (ap (λ (z : Stage). z.tree) x.beside.stage) (run_ok version Ok (tree_of base) (opened (tree_of base)) x.end x.more apart may (opened_ok version Ok (tree_of base) r.well) x.runs).book.chain);
  }
    where
      same : x.end.history.list ≡ history_of version N w events
      same = ap (λ (z : History). z.list) x.written

  -- If no path climbs, one list of tree steps explains the run.
  pub the_history : (base : TreeData) (w : N.World) (events : List (Event Call N.Outside)) → RunsFrom version N base w events → NoneClimbs events → IsTheHistory version N base w events
  the_history base w events r calm = let x = turned base w events r in history NeverClimbs base w events r apart_calm x (starts_calm x.more (x.calm calm))

  -- And if one hart alone makes calls.
  pub the_history_alone : (base : TreeData) (w : N.World) (h : ℕ) (events : List (Event Call N.Outside)) → RunsFrom version N base w events → Alone h events → IsTheHistory version N base w events
  the_history_alone base w h events r alone = let x = turned base w events r in history (IsHart h) base w events r (apart_alone h) x (starts_alone h x.more (x.alone h alone))

  pub moves_history : (base : TreeData) (w : N.World) (events : List (Event Call N.Outside)) → RunsFrom version N base w events → NoneClimbs events → HasOneHistory version N base w events
  moves_history base w events r calm = let x = the_history base w events r calm in record { list = history_of version N w events; explains = x.explains; leads = x.leads }

  pub moves_alone : (base : TreeData) (w : N.World) (h : ℕ) (events : List (Event Call N.Outside)) → RunsFrom version N base w events → Alone h events → HasOneHistory version N base w events
  moves_alone base w h events r alone = let x = the_history_alone base w h events r alone in record { list = history_of version N w events; explains = x.explains; leads = x.leads }

  -- ---- the list only grows

  record Going (events : List (Event Call N.Outside)) (s : State L) (t : Told) : Type 0 where
    pub more : List Turn
    pub end : Told
    pub runs : Goings version t more end
    pub beside : Beside (run L events s) end
    pub written : end.history ≡ kept version N events s t.history
    pub long : length more ≡ length events

  one_more : (t : Told) (e : Turn) (es : List Turn) (mid end : Told) → Happens version t e mid → Goings version mid es end → Goings version t (e ∷ es) end
  unfolding Goings
  one_more t e es mid end o r = (mid, o, r)

  going : (base : Tree) (events : List (Event Call N.Outside)) (s : State L) (t : Told) → Sound L s → Beside s t → AllHonest L events s → N.Clean (run L events s).world → Going events s t
  going base [] s t sound b honest clean = record { more = []; end = t; runs = runs_none version t; beside = b; written = refl; long = refl }
  going base (e ∷ es) s t sound b honest clean =
      let sound2 = sound_run L (e ∷ []) s sound (honest.0, tt) in
      let x = event_turns (N.tree sound.first) e s t (sound_keeps L moving.lawful s sound) b honest.0 (clean_before es (next L e s) sound2 honest.1 clean) in
      let y = going base es (next L e s) x.then_ sound2 x.beside honest.1 clean in
      record {
        more = x.event ∷ y.more;
        end = y.end;
        runs = one_more t x.event y.more x.then_ y.end x.happens y.runs;
        beside = y.beside;
        written = y.written ∙ ap (kept version N es (next L e s)) (x.written ∙ (λ z. kept_by N e (makes L e s).came (b.stage z) (N.tree (next L e s).world) (told_of N (placed version N e s)) t.history));
        long = ap (λ (n : ℕ). suc n) y.long;
      }

  pub kept_append : (es later : List (Event Call N.Outside)) (s : State L) (b : History) → kept version N (es ++ later) s b ≡ kept version N later (run L es s) (kept version N es s b)
  kept_append [] later s b = refl
  kept_append (e ∷ es) later s b = kept_append es later (next L e s) (kept_on version N e s b)

  -- the entries of the first events are the list as it was kept then
  pub history_grows : (base : TreeData) (w : N.World) (es later : List (Event Call N.Outside)) → RunsFrom version N base w es → AllHonest L later (run L es (fresh L w)) → N.Clean (run L later (run L es (fresh L w))).world
      → before (length es) (history_of version N w (es ++ later)) ≡ history_of version N w es
  history_grows base w es later r honest clean =
      ap (λ (b : History). before (length es) b.list) (kept_append es later (fresh L w) nothing_yet)
      ∙ ap (λ (b : History). before (length es) (kept version N later (run L es (fresh L w)) b).list) (sym x.written)
      ∙ grown
      ∙ ap (λ (b : History). b.list) x.written
    where
      start : Told
      start = opened (tree_of base)

      x : Going es (fresh L w) start
      x = going (tree_of base) es (fresh L w) start (sound_fresh L w r.holds r.idle) (record {
        stage = λ z. record { tree = sym r.tree z; walk = λ h. sym (moving.rests h w (r.idle h)) z };
        free = λ h q. refl;
        busy = λ h y q. absurd cc;
        harts = λ h y q. absurd cc;
      }) r.honest r.clean

      y : Going later (run L es (fresh L w)) x.end
      y = going (tree_of base) later (run L es (fresh L w)) x.end (sound_run L es (fresh L w) (sound_fresh L w r.holds r.idle) r.honest) x.beside honest clean

      grown : before (length es) (kept version N later (run L es (fresh L w)) x.end.history).list ≡ x.end.history.list
      grown =
          ap (λ (b : History). before (length es) b.list) (sym y.written)
          ∙ ap (λ (n : ℕ). before n y.end.history.list) (sym x.long)
          ∙ grows version (tree_of base) x.end y.end x.more y.more x.runs y.runs
