-- What notes keep of events is a run of them, of which what is kept beside was kept. A step without a call, which
-- isn't noted, changes nothing, and nothing is kept after it.
use Rattle.console.proofs.Vocabulary.{◌≡◌, ℕ, Bool, true, false, List, [], ◌∷◌, ◌++◌, Option, Some, None, refl, sym, ◌∙◌, ap, subst, Super, Call, Ret, Do, ExecResult, Waits, Ran, Stops, Theory, Began, Refuses, Begins, EventOf, Start, Step, OutcomeOf, Started, Refused, WasIdle, DidWait, DidRun, DidEnd, DidStop, WasStopped, with_answer, Code, Plain, PlainMade, UnmarkedProgram, plain_makes, plain_start, plain_begun, plain_step, plain_unless, plain_prog, plain_tried, plain_moved, Outside, block_calls, block_code, Event, Came, event_of, came_of, said_of, HartsOf, shared_of, HasHistory, Answers, Makes, calls_of, history_more, no_history, KeptRun, NotesOf, all_noted, none_kept, noted, run_in, what_of, with_kept, with_what, SessionOf, EventOfCall, Happens, hart_in, is_event, IfSome, KeptTree, HasNoted, NotesEvent, heard_in}
use Rattle.explain.specs.Vocabulary.{Heard}
use Rattle.kept_histories.specs.Keeps.{KeepsEvent, KeepsRun}
use Rattle.hart_core.specs.declared.events.Came.TheVariants as came
use Rattle.hart_core.specs.declared.outcome.Outcome.TheVariants as outcome
use Rattle.console.proofs.Chaining.{Chain}

-- ---- a step without a call

module _ (L : Theory) (C : Code L) where
  abbrev pub SameIfIdle : Plain L C → OutcomeOf C.Kind L.Reply L.Refusal → Plain L C → Type 0
  SameIfIdle p WasIdle after = after ≡ p
  SameIfIdle p Started after = Unit {0}
  SameIfIdle p (Refused why) after = Unit {0}
  SameIfIdle p DidWait after = Unit {0}
  SameIfIdle p (DidRun kind) after = Unit {0}
  SameIfIdle p (DidEnd reply) after = Unit {0}
  SameIfIdle p DidStop after = Unit {0}
  SameIfIdle p WasStopped after = Unit {0}

  abbrev Idles : Plain L C → PlainMade L C → Type 0
  Idles p m = SameIfIdle p m.came m.after

  moved_idles : (h : ℕ) (p : Plain L C) (kind : C.Kind) (q : UnmarkedProgram L) (t : C.Shared) → Idles p (plain_moved L C h p kind q t)
  moved_idles h p kind (Ret reply) t = tt
  moved_idles h p kind (Do op m k) t = tt

  tried_idles : (h : ℕ) (p : Plain L C) (op : L.M.Op) (k : L.M.Answer op → UnmarkedProgram L) (d : ExecResult (L.M.Answer op) C.Shared) → Idles p (plain_tried L C h p op k d)
  tried_idles h p op k Waits = tt
  tried_idles h p op k (Ran a t) = moved_idles h p (C.kind op a) (k a) t
  tried_idles h p op k (Stops t) = tt

  prog_idles : (h : ℕ) (x : L.M.Outside) (p : Plain L C) (q : UnmarkedProgram L) → Idles p (plain_prog L C h x p q)
  prog_idles h x p (Ret reply) = refl
  prog_idles h x p (Do op m k) = tried_idles h p op k (C.exec h x op p.shared)

  unless_idles : (h : ℕ) (x : L.M.Outside) (p : Plain L C) (b : Bool) (q : UnmarkedProgram L) → Idles p (plain_unless L C h x p b q)
  unless_idles h x p true q = tt
  unless_idles h x p false q = prog_idles h x p q

  step_idles : (h : ℕ) (x : L.M.Outside) (p : Plain L C) (o : Option (UnmarkedProgram L)) → Idles p (plain_step L C h x p o)
  step_idles h x p None = refl
  step_idles h x p (Some q) = unless_idles h x p p.stopped q

  begun_idles : (h : ℕ) (call : L.Call) (p : Plain L C) (b : Began L.Refusal C.Shared) → Idles p (plain_begun L C h call p b)
  begun_idles h call p (Refuses why) = tt
  begun_idles h call p (Begins t) = tt

  start_idles : (h : ℕ) (call : L.Call) (p : Plain L C) (o : Option (UnmarkedProgram L)) → Idles p (plain_start L C h call p o)
  start_idles h call p (Some q) = tt
  start_idles h call p None = begun_idles h call p _

  pub makes_idles : (e : EventOf L.Call L.M.Outside) (p : Plain L C) → Idles p (plain_makes L C e p)
  makes_idles (Start h call) p = start_idles h call p (p.running h)
  makes_idles (Step h x) p = step_idles h x p (p.running h)

-- ---- from these harts on, and from what was kept beside them

-- if something is kept after an event, it was before
record WasKept (o : Option KeptTree) (e : Event) (c : Came) (x : Option Heard) (k' : KeptTree) : Type 0 where
  pub kept : KeptTree
  pub is : o ≡ Some kept
  pub keeps : KeepsEvent kept e c x k'

was_kept : (o : Option KeptTree) (e : Event) (c : Came) (x : Option Heard) (k' : KeptTree) → HasNoted o e c x (Some k') → WasKept o e c x k'
was_kept None e c x k' noted = absurd noted
was_kept (Some k) e c x k' noted = record { kept = k; is = refl; keeps = noted }

module _ {D : Type 0} (contents : D → List (List ℕ)) (failures : D → ℕ) (sizes : Super) where
  -- an event that the keeper noted
  abbrev Notes : Event → HartsOf D → KeptTree → Came → HartsOf D → KeptTree → Type 0
  Notes e old k c new k' = NotesEvent contents failures (λ a d x b. KeepsEvent a e d x b) sizes e old k c new k'

  keeps_more : (es : List Event) (cs : List Came) (old mid new : HartsOf D) (k a k' : KeptTree) (e : Event) (c : Came) → KeepsRun contents failures sizes old k es cs mid a → Notes e mid a c new k' → KeepsRun contents failures sizes old k (es ++ e ∷ []) (cs ++ c ∷ []) new k'
  keeps_more [] [] old mid new k a k' e c run one = (
    new,
    k',
    subst (λ (h : HartsOf D). Notes e h k c new k') run.0 (subst (λ (b : KeptTree). Notes e mid b c new k') run.1 one),
    (refl, refl),
  )
  keeps_more [] (d ∷ cs) old mid new k a k' e c run one = absurd run
  keeps_more (x ∷ es) [] old mid new k a k' e c run one = absurd run
  keeps_more (x ∷ es) (d ∷ cs) old mid new k a k' e c run one = (run.0, run.1, run.2, keeps_more es cs run.0 mid new run.1 a k' e c run.3 one)

module _ {D : Type 0} (contents : D → List (List ℕ)) (failures : D → ℕ) (sizes : Super) (first : HartsOf D) (begun : Option KeptTree) where
  -- what is kept in the end was kept of this run
  abbrev pub KeepsTo : List Event → List Came → HartsOf D → Option KeptTree → Type 0
  KeepsTo events outcomes now beside =
      (k k' : KeptTree) → begun ≡ Some k → beside ≡ Some k' → KeepsRun contents failures sizes first k events outcomes now k'

  -- a run is kept, and has led to these harts
  pub record IsKept (kept : Option KeptRun) (beside : Option KeptTree) (now : HartsOf D) : Type 0 where
    pub run : KeptRun
    pub is : kept ≡ Some run
    pub history : HasHistory contents failures sizes first run.events run.outcomes now
    pub keeps : KeepsTo run.events run.outcomes now beside

  pub kept_first : IsKept (none_kept true) begun first
  kept_first = record {
    run = record { events = []; outcomes = [] };
    is = refl;
    history = ([], no_history contents failures sizes first);
    keeps = λ k k' is same. (refl, let e : Some k' ≡ Some k = sym same ∙ is in cc e);
  }

  abbrev Goes : Event → HartsOf D → Option KeptTree → Came → HartsOf D → Option KeptTree → Type 0
  Goes e old o c new o' = IfSome o' (λ kept. (is_event c ≡ true) × NotesEvent contents failures (λ a d x b. HasNoted a e d x b) sizes e old o c new o')

  keeps_on : (es : List Event) (cs : List Came) (mid new : HartsOf D) (o o' : Option KeptTree) (e : Event) (c : Came) → KeepsTo es cs mid o → Goes e mid o c new o' → KeepsTo (es ++ e ∷ []) (cs ++ c ∷ []) new o'
  keeps_on es cs mid new o None e c keeps goes k k' is same = absurd (cc same)
  keeps_on es cs mid new o (Some kept) e c keeps goes k k' is same =
      let this : kept ≡ k' = cc same in
      let one : NotesEvent contents failures (λ a d x b. HasNoted a e d x b) sizes e mid o c new (Some kept) = goes.1 in
      let was : WasKept o e c (heard_in c one.heard) kept = was_kept o e c (heard_in c one.heard) kept one.took in
      subst (λ (l : KeptTree). KeepsRun contents failures sizes first k (es ++ e ∷ []) (cs ++ c ∷ []) new l) this
      (keeps_more contents failures sizes es cs first mid new k was.kept kept e c (keeps k was.kept is was.is)
      (record { makes = one.makes; answers = one.answers; heard = one.heard; tells = one.tells; fits = one.fits; took = was.keeps }))

  kept_more : (kept : Option KeptRun) (o o' : Option KeptTree) (old new : HartsOf D) (e : Event) (c : Came) → IsKept kept o old
      → Makes contents failures sizes (with_answer (event_of e) (said_of c (shared_of contents failures new))) old (came_of c) new
      → Answers contents failures sizes (with_answer (event_of e) (said_of c (shared_of contents failures new))) old → Goes e old o c new o' → IsKept (with_kept kept (Some e) c) o' new
  kept_more kept o o' old new e c was makes honest goes = record {
    run = record { events = was.run.events ++ e ∷ []; outcomes = was.run.outcomes ++ c ∷ [] };
    is = ap (λ (k : Option KeptRun). with_kept k (Some e) c) was.is;
    history = (
      was.history.0 ++ with_answer (event_of e) (said_of c (shared_of contents failures new)) ∷ [],
      history_more contents failures sizes first old new was.run.events e was.run.outcomes c was.history.0 (said_of c (shared_of contents failures new)) was.history.1 honest makes,
    );
    keeps = keeps_on was.run.events was.run.outcomes old new o o' e c was.keeps goes;
  }

  idle_keeps : (es : List Event) (cs : List Came) (old new : HartsOf D) (o o' : Option KeptTree) (e : Event) → Goes e old o (came.Stepped outcome.Idle) new o' → KeepsTo es cs new o'
  idle_keeps es cs old new o None e goes k k' is same = absurd (cc same)
  idle_keeps es cs old new o (Some kept) e goes k k' is same = let no : false ≡ true = goes.0 in absurd (cc no)

  kept_idle : (kept : Option KeptRun) (o o' : Option KeptTree) (old new : HartsOf D) (e : EventOf Call Outside) (x : Event) → IsKept kept o old → Makes contents failures sizes e old WasIdle new → Goes x old o (came.Stepped outcome.Idle) new o' → IsKept kept o' new
  kept_idle kept o o' old new e x was makes goes =
      let p : Plain (block_calls sizes) (block_code sizes) = calls_of contents failures sizes old in
      let same : calls_of contents failures sizes new ≡ p = subst (λ (m : PlainMade (block_calls sizes) (block_code sizes)). SameIfIdle (block_calls sizes) (block_code sizes) p m.came m.after) makes (makes_idles (block_calls sizes) (block_code sizes) e p) in
      let is = was.history.1 in
      record {
        run = was.run;
        is = was.is;
        history = (was.history.0, record { asks = is.asks; answers = is.answers; comes_to = is.comes_to; makes = is.makes ∙ sym same });
        keeps = idle_keeps was.run.events was.run.outcomes old new o o' x goes;
      }

  -- what happened is noted, if it is an event
  event_kept : (n : NotesOf) (s t : SessionOf D) (x : EventOfCall) → s.world.sizes ≡ sizes → IsKept n.kept s.beside s.world.harts → Happens contents failures s x t → IsKept (noted n x).kept t.beside t.world.harts
  event_kept n s t x is was happens =
      by x.came
      (subst (λ (z : Super). Makes contents failures z (with_answer (event_of x.event) (said_of x.came (shared_of contents failures t.world.harts))) s.world.harts (came_of x.came) t.world.harts) is happens.makes)
      (subst (λ (z : Super). Answers contents failures z (with_answer (event_of x.event) (said_of x.came (shared_of contents failures t.world.harts))) s.world.harts) is happens.honest)
      (subst (λ (z : Super). IfSome t.beside (λ kept. (is_event x.came ≡ true) × NotesEvent contents failures (λ a d h b. HasNoted a x.event d h b) z x.event s.world.harts s.beside x.came t.world.harts t.beside)) is happens.beside)
    where
      by : (c : Came) → Makes contents failures sizes (with_answer (event_of x.event) (said_of c (shared_of contents failures t.world.harts))) s.world.harts (came_of c) t.world.harts
          → Answers contents failures sizes (with_answer (event_of x.event) (said_of c (shared_of contents failures t.world.harts))) s.world.harts → Goes x.event s.world.harts s.beside c t.world.harts t.beside
          → IsKept (with_what n (hart_in x.event) (what_of x.verb c) (Some x.event) c).kept t.beside t.world.harts
      by came.Started makes honest goes = kept_more n.kept s.beside t.beside s.world.harts t.world.harts x.event came.Started was makes honest goes
      by (came.Refused why) makes honest goes = kept_more n.kept s.beside t.beside s.world.harts t.world.harts x.event (came.Refused why) was makes honest goes
      by (came.Stepped outcome.Idle) makes honest goes = kept_idle n.kept s.beside t.beside s.world.harts t.world.harts _ x.event was makes goes
      by (came.Stepped outcome.Waits) makes honest goes = kept_more n.kept s.beside t.beside s.world.harts t.world.harts x.event (came.Stepped outcome.Waits) was makes honest goes
      by (came.Stepped (outcome.Ran kind)) makes honest goes = kept_more n.kept s.beside t.beside s.world.harts t.world.harts x.event (came.Stepped (outcome.Ran kind)) was makes honest goes
      by (came.Stepped (outcome.Done reply)) makes honest goes = kept_more n.kept s.beside t.beside s.world.harts t.world.harts x.event (came.Stepped (outcome.Done reply)) was makes honest goes
      by (came.Stepped (outcome.Stopped stop)) makes honest goes = kept_more n.kept s.beside t.beside s.world.harts t.world.harts x.event (came.Stepped (outcome.Stopped stop)) was makes honest goes

  pub events_kept : (xs : List EventOfCall) (n : NotesOf) (s t : SessionOf D) → s.world.sizes ≡ sizes → IsKept n.kept s.beside s.world.harts → Chain contents failures s xs t → IsKept (all_noted n xs).kept t.beside t.world.harts
  unfolding all_noted
  events_kept [] n s t is was chain = subst (λ (v : SessionOf D). IsKept n.kept v.beside v.world.harts) (sym chain) was
  events_kept (x ∷ xs) n s t is was chain = events_kept xs (noted n x) chain.0 t (chain.1.sizes ∙ is) (event_kept n s chain.0 x is was chain.1) chain.2

  -- the run that is kept is made, and what is kept beside it is kept of it
  abbrev pub IsRun : KeptRun → HartsOf D → Option KeptTree → Type 0
  IsRun run now beside = HasHistory contents failures sizes first run.events run.outcomes now × KeepsTo run.events run.outcomes now beside

  pub kept_run : (kept : Option KeptRun) (beside : Option KeptTree) (now : HartsOf D) → IsKept kept beside now → IsRun (run_in kept) now beside
  kept_run kept beside now was = subst (λ (k : Option KeptRun). IsRun (run_in k) now beside) (sym was.is) (was.history, was.keeps)
