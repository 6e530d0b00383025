-- Over a device that never fails no call is stopped.
use Rattle.console.proofs.Vocabulary.{◌≡◌, ℕ, zero, suc, Bool, true, false, List, [], ◌∷◌, Option, Some, None, Result, Ok, Err, sym, ap, subst, inl, inr, IsWellFormed, Stop, ConsoleFault, Flow, PlanOf, Until, Verb, Doing, Behaviour, GoesOn, gives, in_case, followed_by, takes_memory, prints, IsOrMemory, IsWritten, RunOf, IsPassed, acts, acts_as, all_harts, flow_of, goes_on, happens, in_steps, is_enough, joined, line, lines, settles, starts, tells_flow, tells_waits, to_end, turn, turns, up_to, called, left_to, SessionOf, EventOfCall, Happens, doing_at, verb_of, Mode, History, HistoryBeside, IsUntold, TellsHistory, WhereSet, JudgesImage, CourseOf, TellsLine, NotesOf, run_in, EndsSo, RunsReader, RunsScript, known_at}
use Rattle.script.specs.Said as said
use Rattle.console.specs.declared.fault.ConsoleFault.TheVariants as faults
use Rattle.console.specs.declared.flow.Flow.TheVariants as flows

-- ---- behaviours

-- lines end, or no more is had of the writer or of the memory
abbrev pub IsNoStop : {A : Type 0} → Result A ConsoleFault → Type 0
IsNoStop (Ok a) = Unit {0}
IsNoStop (Err faults.Memory) = Unit {0}
IsNoStop (Err (faults.Write e)) = Unit {0}
IsNoStop (Err (faults.Stopped stop)) = ⊥
IsNoStop (Err (faults.Read e)) = ⊥
IsNoStop (Err (faults.Image f)) = ⊥
IsNoStop (Err (faults.Line n why)) = ⊥

same_fault : (A B : Type 0) (fault : ConsoleFault) → IsNoStop {A = A} (Err fault) → IsNoStop {A = B} (Err fault)
same_fault A B (faults.Stopped stop) unstopped = unstopped
same_fault A B faults.Memory unstopped = tt
same_fault A B (faults.Write e) unstopped = tt
same_fault A B (faults.Read e) unstopped = unstopped
same_fault A B (faults.Image f) unstopped = unstopped
same_fault A B (faults.Line n why) unstopped = unstopped

-- what is known of an event in a file system that hasn't stopped
abbrev pub KeepsStill : {D : Type 0} → (D → List (List ℕ)) → (D → ℕ) → Type 0
KeepsStill {D} contents failures = (s t : SessionOf D) (x : EventOfCall) → s.world.harts.stopped ≡ false → Happens contents failures s x t → (t.world.harts.stopped ≡ false) × ((stop : Stop) → flow_of x.came ≡ Err (faults.Stopped stop) → ⊥)

module _ {D : Type 0} (contents : D → List (List ℕ)) (failures : D → ℕ) (calm : KeepsStill contents failures) where
  abbrev pub IsStill : RunOf D → Type 0
  IsStill s = s.session.world.harts.stopped ≡ false

  -- run in a file system that hasn't stopped, it leaves one that hasn't, and isn't stopped
  abbrev pub StaysStill : {A : Type 0} → Behaviour (RunOf D) A → Type 0
  StaysStill {A} behaviour = (s : RunOf D) (es : List EventOfCall) (text : List ℕ) (r : Result A ConsoleFault) (t : RunOf D) → IsStill s → behaviour s es text r t → IsStill t × IsNoStop r

  gives_still : {A : Type 0} (a : A) → StaysStill (gives a)
  unfolding gives
  gives_still a s es text r t still does = (subst (λ x. IsStill x) (sym does.0.same) still, subst (λ x. IsNoStop x) (sym does.1) tt)

  then_still : {A B : Type 0} (one : Behaviour (RunOf D) A) (second : A → Behaviour (RunOf D) B) → StaysStill one → ((a : A) → StaysStill (second a)) → StaysStill (followed_by one second)
  unfolding followed_by
  then_still {A} {B} one second first rest s es text r t still does = by does.2 (first s does.0 does.1 does.2 does.3 still does.4) does.5
    where
      by : (ends : Result A ConsoleFault) → IsStill does.3 × IsNoStop ends → GoesOn second does.0 does.1 ends does.3 es text r t → IsStill t × IsNoStop r
      by (Ok a) both goes = rest a does.3 goes.0 goes.1 r t both.0 goes.2
      by (Err fault) both goes = (subst (λ x. IsStill x) (sym goes.3) both.0, subst (λ x. IsNoStop x) (sym goes.2) (same_fault A B fault both.1))

  or_memory : {A : Type 0} (a : A) (r : Result A ConsoleFault) → IsOrMemory a r → IsNoStop r
  or_memory a (Ok b) is = tt
  or_memory a (Err faults.Memory) is = tt
  or_memory a (Err (faults.Image f)) is = absurd is
  or_memory a (Err (faults.Read e)) is = absurd is
  or_memory a (Err (faults.Write e)) is = absurd is
  or_memory a (Err (faults.Line n why)) is = absurd is
  or_memory a (Err (faults.Stopped stop)) is = absurd is

  memory_still : {A : Type 0} (a : A) → StaysStill (takes_memory a)
  unfolding takes_memory
  memory_still a s es text r t still does = (subst (λ x. IsStill x) (sym does.0.same) still, or_memory a r does.1)

  written : (r : Result (Unit {0}) ConsoleFault) → IsWritten r → IsNoStop r
  written (Ok u) is = tt
  written (Err (faults.Write e)) is = tt
  written (Err faults.Memory) is = absurd is
  written (Err (faults.Image f)) is = absurd is
  written (Err (faults.Read e)) is = absurd is
  written (Err (faults.Line n why)) is = absurd is
  written (Err (faults.Stopped stop)) is = absurd is

  prints_still : (words : RunOf D → List ℕ) → StaysStill (prints words)
  unfolding prints
  prints_still words s es text r t still does = (subst (λ x. IsStill x) (sym does.2) still, written r does.3)

  passed : (c : _) (r : Result Flow ConsoleFault) → ((stop : Stop) → flow_of c ≡ Err (faults.Stopped stop) → ⊥) → IsPassed c r → IsNoStop r
  passed c (Ok flow) unstopped is = tt
  passed c (Err (faults.Write e)) unstopped is = tt
  passed c (Err faults.Memory) unstopped is = tt
  passed c (Err (faults.Stopped stop)) unstopped is = unstopped stop is
  passed c (Err (faults.Image f)) unstopped is = absurd is
  passed c (Err (faults.Read e)) unstopped is = absurd is
  passed c (Err (faults.Line n why)) unstopped is = absurd is

  happens_still : (e : _) (verb : Verb) → StaysStill (happens contents failures e verb)
  unfolding happens
  happens_still e verb s es text r t still does =
      let both = calm s.session t.session _ still does.happens in
      (both.0, passed does.came r both.1 does.passed)

  case_still : {A : Type 0} (b : Bool) (this other : Behaviour (RunOf D) A) → StaysStill this → StaysStill other → StaysStill (in_case b this other)
  case_still true this other one two = one
  case_still false this other one two = two

  starts_still : (hart : ℕ) (call : said.Call) → StaysStill (starts contents failures hart call)
  starts_still hart call = then_still _ _ (memory_still (called call)) (λ c. happens_still _ (verb_of c))

  as_still : (until : Option Until) (hart : ℕ) (d : Option Doing) (cs : List said.Call) → StaysStill (acts_as contents failures until hart d cs)
  as_still until hart (Some d) cs = case_still (is_enough until d) _ _ (gives_still flows.Rests) (happens_still _ d.verb)
  as_still until hart None [] = gives_still flows.Rests
  as_still until hart None (call ∷ cs) = λ s es text r t still does. starts_still hart call _ es text r t still does

  acts_still : (until : Option Until) (hart : ℕ) → StaysStill (acts contents failures until hart)
  unfolding acts
  acts_still until hart s es text r t still does = as_still until hart (doing_at hart s.session.doing) (left_to hart s.left) s es text r t still does

  turn_still : (until : Option Until) (harts : List ℕ) (flow : Flow) → StaysStill (turn contents failures until harts flow)
  unfolding turn
  turn_still until [] flow = gives_still flow
  turn_still until (hart ∷ harts) flow = then_still _ _ (acts_still until hart) (λ more. turn_still until harts (joined flow more))

  turns_still : (plan : PlanOf) (harts : List ℕ) (n : ℕ) (last : Flow) → StaysStill (turns contents failures plan harts n last)
  unfolding turns
  turns_still plan harts zero last = gives_still last
  turns_still plan harts (suc n) last = case_still (goes_on last) _ _ (then_still _ _ (turn_still plan.until harts flows.Rests) (λ flow. turns_still plan harts n flow)) (gives_still last)

  waits_still : (harts : List ℕ) → StaysStill (tells_waits contents failures harts)
  unfolding tells_waits
  waits_still [] = gives_still tt
  waits_still (hart ∷ harts) = then_still _ _ (prints_still _) (λ u. waits_still harts)

  flow_still : (harts : List ℕ) (flow : Flow) → StaysStill (tells_flow contents failures harts flow)
  flow_still harts flows.Waits = waits_still harts
  flow_still harts flows.Moves = gives_still tt
  flow_still harts flows.Rests = gives_still tt

  settles_still : (plan : PlanOf) (harts : List ℕ) → StaysStill (settles contents failures plan harts)
  unfolding settles
  settles_still plan harts = then_still _ _ (turns_still plan harts plan.most flows.Moves) (flow_still harts)

  line_still : (l : said.Line) → StaysStill (line contents failures l)
  unfolding line
  line_still (said.Start hart call) = then_still _ _ (starts_still hart call) (λ flow. gives_still tt)
  line_still (said.Run hart call) = then_still _ _ (starts_still hart call) (λ flow. settles_still to_end (hart ∷ []))
  line_still (said.Step hart steps) = then_still _ _ (turns_still (in_steps steps) (hart ∷ []) steps flows.Moves) (λ flow. gives_still tt)
  line_still (said.Upto hart kind steps) = settles_still (up_to kind steps) (hart ∷ [])
  line_still (said.End hart) = settles_still to_end (hart ∷ [])
  line_still said.All = settles_still to_end all_harts

  pub lines_still : (ls : List said.Line) → StaysStill (lines contents failures ls)
  unfolding lines
  lines_still [] = gives_still tt
  lines_still (l ∷ ls) = then_still _ _ (line_still l) (λ u. lines_still ls)

-- ---- a script

untold : (fault : ConsoleFault) → IsUntold (Err fault) → IsNoStop {A = Unit {0}} (Err fault)
untold (faults.Write e) un = tt
untold faults.Memory un = tt
untold (faults.Image f) un = absurd un
untold (faults.Read e) un = absurd un
untold (faults.Line n why) un = absurd un
untold (faults.Stopped stop) un = absurd un

ended : (mode : Mode) (history : History) (notes : NotesOf) (ends : Result (Unit {0}) ConsoleFault) (fault : ConsoleFault) (between out : Option (List ℕ)) → IsNoStop ends → EndsSo mode history notes ends between (Err fault) out → IsNoStop {A = Unit {0}} (Err fault)
ended mode history notes (Ok u) fault between out unstopped (inl printed) = wanted mode.explain printed.2
  where
    wanted : (b : Bool) → WhereSet b (TellsHistory history (run_in notes.kept) (Err fault) printed.0 out) ((◌≡◌ {A = Result (Unit {0}) ConsoleFault} (Err fault) (Ok tt)) × (out ≡ printed.0)) → IsNoStop {A = Unit {0}} (Err fault)
    wanted false same = let e = same.0 in absurd (cc e)
    wanted true (inl told) = let e = told.ends in absurd (cc e)
    wanted true (inr un) = untold fault un
ended mode history notes (Ok u) faults.Memory between out unstopped (inr un) = absurd un
ended mode history notes (Ok u) (faults.Write e) between out unstopped (inr un) = tt
ended mode history notes (Ok u) (faults.Image f) between out unstopped (inr un) = absurd un
ended mode history notes (Ok u) (faults.Read e) between out unstopped (inr un) = absurd un
ended mode history notes (Ok u) (faults.Line n why) between out unstopped (inr un) = absurd un
ended mode history notes (Ok u) (faults.Stopped stop) between out unstopped (inr un) = absurd un
ended mode history notes (Err faults.Memory) fault between out unstopped same = subst (λ x. IsNoStop x) (sym same) tt
ended mode history notes (Err (faults.Write e)) fault between out unstopped same = subst (λ x. IsNoStop x) (sym same) tt
ended mode history notes (Err (faults.Image f)) fault between out unstopped same = absurd unstopped
ended mode history notes (Err (faults.Read e)) fault between out unstopped same = absurd unstopped
ended mode history notes (Err (faults.Line n why)) fault between out unstopped same = absurd unstopped
ended mode history notes (Err (faults.Stopped stop)) fault between out unstopped same = absurd unstopped

of_run : (disk : List (List ℕ)) (fault : ConsoleFault) → IsWellFormed disk → IsNoStop {A = Unit {0}} (Err fault) → JudgesImage disk fault
of_run disk faults.Memory mounted unstopped = tt
of_run disk (faults.Write e) mounted unstopped = mounted
of_run disk (faults.Image f) mounted unstopped = absurd unstopped
of_run disk (faults.Read e) mounted unstopped = absurd unstopped
of_run disk (faults.Line n why) mounted unstopped = absurd unstopped
of_run disk (faults.Stopped stop) mounted unstopped = absurd unstopped

of_line : (disk : List (List ℕ)) (n : ℕ) (fault : ConsoleFault) → IsWellFormed disk → TellsLine n fault → JudgesImage disk fault
of_line disk n faults.Memory mounted tells = tt
of_line disk n (faults.Line m why) mounted tells = mounted
of_line disk n (faults.Write e) mounted tells = absurd tells
of_line disk n (faults.Image f) mounted tells = absurd tells
of_line disk n (faults.Read e) mounted tells = absurd tells
of_line disk n (faults.Stopped stop) mounted tells = absurd tells

module _ {D : Type 0} (contents : D → List (List ℕ)) (failures : D → ℕ) (calm : KeepsStill contents failures) (disk : List (List ℕ)) (mounted : IsWellFormed disk) where
  script_judged : (mode : Mode) (history : HistoryBeside) (s t : SessionOf D) (course : Result CourseOf ℕ) (fault : ConsoleFault) (out out' : Option (List ℕ)) → s.world.harts.stopped ≡ false → RunsScript contents failures mode history s course (Err fault) t out out' → JudgesImage disk fault
  script_judged mode history s t (Err n) fault out out' still runs = of_line disk n fault mounted runs.0
  script_judged mode history s t (Ok course) fault out out' still (inl runs) =
      of_run disk fault mounted
      (ended mode (history runs.first (known_at t runs.kept)) runs.notes runs.ends fault runs.between out' (lines_still contents failures calm course.lines _ runs.runs.events runs.runs.text runs.ends _ still runs.runs.does).1 runs.end)
  script_judged mode history s t (Ok course) fault out out' still (inr nothing) = subst (λ f. JudgesImage disk f) (sym (memory fault nothing.memory)) tt
    where
      fault_in : Result (Unit {0}) ConsoleFault → ConsoleFault
      fault_in (Ok u) = faults.Memory
      fault_in (Err f) = f

      memory : (f : ConsoleFault) → ◌≡◌ {A = Result (Unit {0}) ConsoleFault} (Err f) (Err faults.Memory) → f ≡ faults.Memory
      memory f e = ap fault_in e

  pub run_judged : (mode : Mode) (history : HistoryBeside) (s t : SessionOf D) (script : Option (List ℕ)) (fault : ConsoleFault) (out out' : Option (List ℕ)) → s.world.harts.stopped ≡ false → RunsReader contents failures mode history s script (Err fault) t out out' → JudgesImage disk fault
  run_judged mode history s t script fault out out' still (inr read) = script_judged mode history s t _ fault out out' still read.2
  run_judged mode history s t script (faults.Read e) out out' still (inl unread) = mounted
  run_judged mode history s t script faults.Memory out out' still (inl unread) = tt
  run_judged mode history s t script (faults.Write e) out out' still (inl unread) = mounted
  run_judged mode history s t script (faults.Line n why) out out' still (inl unread) = mounted
  run_judged mode history s t script (faults.Image f) out out' still (inl unread) = absurd unread.fault
  run_judged mode history s t script (faults.Stopped stop) out out' still (inl unread) = absurd unread.fault
