-- What a script does, and what typed lines do, is its events, one after the other.
use Rattle.console.proofs.Vocabulary.{◌≡◌, ℕ, zero, suc, ◌+◌, Bool, true, false, List, [], ◌∷◌, ◌++◌, Option, Some, None, Result, Ok, Err, refl, sym, ap, subst, codes, Asked, Nothing, Help, Quit, Run, asked_in, ConsoleFault, Flow, PlanOf, Until, Verb, Doing, Event, Behaviour, GoesOn, gives, in_case, followed_by, takes_memory, prints, RunOf, acts, acts_as, all_harts, goes_on, happens, in_steps, is_enough, joined, line, lines, settles, starts, tells_flow, tells_waits, to_end, turn, turns, up_to, called, answers, answers_next, bad_text, does, does_or_tells, mark, prompts, prompts_all, reads, state_text, tells_bad, left_to, SessionOf, EventOfCall, Happens, doing_at, verb_of}
use Rattle.console.specs.Prompts.{does_line, hint_of, started_on, stepless}
use Rattle.script.specs.Asking.{State}
use Rattle.script.specs.Said as said
use Rattle.console.specs.declared.flow.Flow.TheVariants as flows

module _ {D : Type 0} (contents : D → List (List ℕ)) (failures : D → ℕ) where
  -- these events, one after the other, make one file system of another
  abbrev pub Chain : SessionOf D → List EventOfCall → SessionOf D → Type 0
  Chain s [] t = t ≡ s
  Chain s (x ∷ xs) t = (u : SessionOf D) × Happens contents failures s x u × Chain u xs t

  both : (s u t : SessionOf D) (xs ys : List EventOfCall) → Chain s xs u → Chain u ys t → Chain s (xs ++ ys) t
  both s u t [] ys first rest = subst (λ v. Chain v ys t) first rest
  both s u t (x ∷ xs) ys first rest = (first.0, first.1, both first.0 u t xs ys first.2 rest)

  -- what a behaviour does is its events
  abbrev pub Chains : {A : Type 0} → Behaviour (RunOf D) A → Type 0
  Chains {A} behaviour = (s : RunOf D) (es : List EventOfCall) (text : List ℕ) (r : Result A ConsoleFault) (t : RunOf D) → behaviour s es text r t → Chain s.session es t.session

  nothing : (s t : RunOf D) (es : List EventOfCall) → es ≡ [] → t ≡ s → Chain s.session es t.session
  nothing s t es none same = subst (λ (xs : List EventOfCall). Chain s.session xs t.session) (sym none) (ap (λ (x : RunOf D). x.session) same)

  gives_chain : {A : Type 0} (a : A) → Chains (gives a)
  unfolding gives
  gives_chain a s es text r t does = nothing s t es does.0.events_are does.0.same

  then_chain : {A B : Type 0} (one : Behaviour (RunOf D) A) (second : A → Behaviour (RunOf D) B) → Chains one → ((a : A) → Chains (second a)) → Chains (followed_by one second)
  unfolding followed_by
  then_chain {A} {B} one second first rest s es text r t does = by does.2 (first s does.0 does.1 does.2 does.3 does.4) does.5
    where
      by : (ends : Result A ConsoleFault) → Chain s.session does.0 does.3.session → GoesOn second does.0 does.1 ends does.3 es text r t → Chain s.session es t.session
      by (Ok a) front goes =
          subst (λ (xs : List EventOfCall). Chain s.session xs t.session) (sym goes.3)
          (both s.session does.3.session t.session does.0 goes.0 front (rest a does.3 goes.0 goes.1 r t goes.2))
      by (Err fault) front goes =
          subst (λ (xs : List EventOfCall). Chain s.session xs t.session) (sym goes.0)
          (subst (λ (v : RunOf D). Chain s.session does.0 v.session) (sym goes.3) front)

  memory_chain : {A : Type 0} (a : A) → Chains (takes_memory a)
  unfolding takes_memory
  memory_chain a s es text r t does = nothing s t es does.0.events_are does.0.same

  prints_chain : (words : RunOf D → List ℕ) → Chains (prints words)
  unfolding prints
  prints_chain words s es text r t does = nothing s t es does.0 does.2

  happens_chain : (e : Event) (verb : Verb) → Chains (happens contents failures e verb)
  unfolding happens
  happens_chain e verb s es text r t does =
      subst (λ (xs : List EventOfCall). Chain s.session xs t.session) (sym does.events_are) (t.session, does.happens, refl)

  case_chain : {A : Type 0} (b : Bool) (this other : Behaviour (RunOf D) A) → Chains this → Chains other → Chains (in_case b this other)
  case_chain true this other one two = one
  case_chain false this other one two = two

  -- ---- lines

  starts_chain : (hart : ℕ) (call : said.Call) → Chains (starts contents failures hart call)
  starts_chain hart call = then_chain _ _ (memory_chain (called call)) (λ c. happens_chain _ (verb_of c))

  as_chain : (until : Option Until) (hart : ℕ) (d : Option Doing) (cs : List said.Call) → Chains (acts_as contents failures until hart d cs)
  as_chain until hart (Some d) cs = case_chain (is_enough until d) _ _ (gives_chain flows.Rests) (happens_chain _ d.verb)
  as_chain until hart None [] = gives_chain flows.Rests
  as_chain until hart None (call ∷ cs) = λ s es text r t does. starts_chain hart call _ es text r t does

  acts_chain : (until : Option Until) (hart : ℕ) → Chains (acts contents failures until hart)
  unfolding acts
  acts_chain until hart s es text r t does = as_chain until hart (doing_at hart s.session.doing) (left_to hart s.left) s es text r t does

  turn_chain : (until : Option Until) (harts : List ℕ) (flow : Flow) → Chains (turn contents failures until harts flow)
  unfolding turn
  turn_chain until [] flow = gives_chain flow
  turn_chain until (hart ∷ harts) flow = then_chain _ _ (acts_chain until hart) (λ more. turn_chain until harts (joined flow more))

  turns_chain : (plan : PlanOf) (harts : List ℕ) (n : ℕ) (last : Flow) → Chains (turns contents failures plan harts n last)
  unfolding turns
  turns_chain plan harts zero last = gives_chain last
  turns_chain plan harts (suc n) last =
      case_chain (goes_on last) _ _ (then_chain _ _ (turn_chain plan.until harts flows.Rests) (λ flow. turns_chain plan harts n flow)) (gives_chain last)

  waits_chain : (harts : List ℕ) → Chains (tells_waits contents failures harts)
  unfolding tells_waits
  waits_chain [] = gives_chain tt
  waits_chain (hart ∷ harts) = then_chain _ _ (prints_chain _) (λ u. waits_chain harts)

  flow_chain : (harts : List ℕ) (flow : Flow) → Chains (tells_flow contents failures harts flow)
  flow_chain harts flows.Waits = waits_chain harts
  flow_chain harts flows.Moves = gives_chain tt
  flow_chain harts flows.Rests = gives_chain tt

  settles_chain : (plan : PlanOf) (harts : List ℕ) → Chains (settles contents failures plan harts)
  unfolding settles
  settles_chain plan harts = then_chain _ _ (turns_chain plan harts plan.most flows.Moves) (flow_chain harts)

  line_chain : (l : said.Line) → Chains (line contents failures l)
  unfolding line
  line_chain (said.Start hart call) = then_chain _ _ (starts_chain hart call) (λ flow. gives_chain tt)
  line_chain (said.Run hart call) = then_chain _ _ (starts_chain hart call) (λ flow. settles_chain to_end (hart ∷ []))
  line_chain (said.Step hart steps) = then_chain _ _ (turns_chain (in_steps steps) (hart ∷ []) steps flows.Moves) (λ flow. gives_chain tt)
  line_chain (said.Upto hart kind steps) = settles_chain (up_to kind steps) (hart ∷ [])
  line_chain (said.End hart) = settles_chain to_end (hart ∷ [])
  line_chain said.All = settles_chain to_end all_harts

  pub lines_chain : (ls : List said.Line) → Chains (lines contents failures ls)
  unfolding lines
  lines_chain [] = gives_chain tt
  lines_chain (l ∷ ls) = then_chain _ _ (line_chain l) (λ u. lines_chain ls)

  -- ---- typed lines

  reads_chain : Chains (reads {S = RunOf D})
  unfolding reads
  reads_chain s es text r t does = nothing s t es does.0.events_are does.0.same

  bad_chain : (n : ℕ) → Chains (tells_bad {S = RunOf D} n)
  unfolding tells_bad
  bad_chain n s es text r t does = prints_chain (λ u. bad_text n does.0) s es text r t does.1

  does_line_chain : (l : said.Line) → Chains (does_line contents failures l)
  does_line_chain l s =
      then_chain (line contents failures l) (λ u. prints (λ t. hint_of (stepless (started_on l) s.session.doing))) (line_chain l)
      (λ u. prints_chain (λ t. hint_of (stepless (started_on l) s.session.doing))) s

  module _ (help : List ℕ) where
    does_chain : (asked : Asked) → Chains (does contents failures help asked)
    does_chain Nothing = gives_chain true
    does_chain Help = then_chain _ _ (prints_chain (λ s. help)) (λ u. gives_chain true)
    does_chain State = then_chain _ _ (prints_chain (λ s. state_text all_harts s.session)) (λ u. gives_chain true)
    does_chain Quit = gives_chain false
    does_chain (Run l) = then_chain _ _ (does_line_chain l) (λ u. gives_chain true)

    does_or_tells_chain : (n : ℕ) (asked : Option Asked) → Chains (does_or_tells contents failures help n asked)
    does_or_tells_chain n None = then_chain _ _ (bad_chain n) (λ u. gives_chain true)
    does_or_tells_chain n (Some asked) = does_chain asked

    answers_chain : (n : ℕ) (line : List ℕ) → Chains (answers contents failures help n line)
    unfolding answers
    answers_chain n line = then_chain _ _ (memory_chain {A = Unit {0}} tt) (λ u. does_or_tells_chain n (asked_in line))

    next_chain : (n : ℕ) (next : Option (List ℕ)) → Chains (answers_next contents failures help n next)
    next_chain n None = then_chain _ _ (prints_chain (λ s. codes "\n")) (λ u. gives_chain false)
    next_chain n (Some line) = answers_chain n line

    prompts_chain : (n : ℕ) (next : Option (List ℕ)) → Chains (prompts contents failures help n next)
    unfolding prompts
    prompts_chain n next = then_chain _ _ (prints_chain (λ s. mark)) (λ u. then_chain _ _ reads_chain (λ v. next_chain n next))

    pub prompts_all_chain : (n : ℕ) (lines : List (List ℕ)) → Chains (prompts_all contents failures help n lines)
    unfolding prompts_all
    prompts_all_chain n [] = then_chain _ _ (prompts_chain n None) (λ more. gives_chain tt)
    prompts_all_chain n (line ∷ lines) =
        then_chain _ _ (prompts_chain n (Some line)) (λ more. case_chain more _ _ (prompts_all_chain (n + 1) lines) (gives_chain tt))
