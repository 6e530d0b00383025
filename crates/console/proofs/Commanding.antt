-- What lines do, part by part.
use Rattle.console.proofs.Vocabulary.{◌≡◌, ℕ, zero, suc, ◌+◌, ◌<◌, ◌≤◌, List, [], ◌∷◌, length, drop, get_or, set, true, false, Option, Some, None, Result, Ok, Err, refl, ap, sym, ◌∙◌, subst, at_drop_more, at_drop_all, Appends, Event, Came, Call, Kind, Upto, End, All, ConsoleFault, Flow, What, Rests, Moves, PlanOf as Plan, Until, Verb, Doing, gives, followed_by, takes_memory, prints, IfTold, IsWritten, IsPrintedAndNoted, Runs, RunOf, IsPassed, acts, acts_as, all_harts, goes_on, happens, in_steps, is_enough, joined, line, lines, settles, starts, state, tells_flow, tells_waits, to_end, turn, turns, up_to, wait_text, called, KeptRun, NotesOf, all_noted, copy_for, what_of, with_kept, with_note, with_what, QueuedCalls, TakesNext, left_to, SessionOf, Happens, doing_at, hart_in, told_of, verb_of}
use Rattle.hart_core.specs.declared.events.Event.TheVariants as event
use Rattle.script.specs.Said as said
use Rattle.script.specs.Said.{Start, Run, Step}
use Rattle.console.specs.declared.fault.ConsoleFault.TheVariants as faults
use Rattle.console.proofs.Behaving.{ends_in_fault, gives_at_once, goes_on as then, has_memory, if_told_both, if_told_map, in_other_case, in_this_case, no_memory, printed_so}

module _ {D : Type 0} (contents : D → List (List ℕ)) (failures : D → ℕ) where
  -- ---- an event

  kept_same : (kept : Option KeptRun) (e : Event) (came : Came) → with_kept kept (copy_for kept e) came ≡ with_kept kept (Some e) came
  kept_same None e came = refl
  kept_same (Some run) e came = refl

  -- a copy of the event is the event, if events are kept
  copied : (n : NotesOf) (hart : ℕ) (what : Option What) (e : Event) (came : Came) → with_what n hart what (copy_for n.kept e) came ≡ with_what n hart what (Some e) came
  copied n hart None e came = refl
  copied n hart (Some what) e came = ap (λ k. record (with_note n hart what (Some e) came) { kept = k }) (kept_same n.kept e came)

  told_and_noted : (e : Event) (verb : Verb) (came : Came) (copy : Option Event) (out end : Option (List ℕ)) (n l : NotesOf) → copy ≡ copy_for n.kept e → Appends out end (told_of (hart_in e) verb came) × (l ≡ with_what n (hart_in e) (what_of verb came) copy came)
      → IsPrintedAndNoted out n (record { event = e; verb = verb; came = came } ∷ []) (told_of (hart_in e) verb came) end l
  unfolding all_noted
  told_and_noted e verb came copy out end n l again both = record { printed = both.0; noted = both.1 ∙ ap (λ c. with_what n (hart_in e) (what_of verb came) c came) again ∙ copied n (hart_in e) (what_of verb came) e came }

  pub happened : (e : Event) (verb : Verb) (came : Came) (hart : ℕ) (copy : Option Event) (s t : SessionOf D) (left : QueuedCalls) (out end : Option (List ℕ)) (n l : NotesOf) (r : Result Flow ConsoleFault) → hart ≡ hart_in e → copy ≡ copy_for n.kept e
      → Happens contents failures s (record { event = e; verb = verb; came = came }) t → IsPassed came r → IfTold r (Appends out end (told_of hart verb came)) → IfTold r (l ≡ with_what n hart (what_of verb came) copy came)
      → Runs (happens contents failures e verb) (state s left) out n r (state t left) end l
  unfolding happens
  happened e verb came hart copy s t left out end n l r is again happens passed prints notes = record {
    events = record { event = e; verb = verb; came = came } ∷ [];
    text = told_of (hart_in e) verb came;
    does = record { came = came; happens = happens; left = refl; passed = passed; events_are = refl; text_is = refl };
    told = if_told_map r (told_and_noted e verb came copy out end n l again)
        (subst (λ h. IfTold r (Appends out end (told_of h verb came) × (l ≡ with_what n h (what_of verb came) copy came))) is (if_told_both _ _ r prints notes));
  }

  pub started : (hart : ℕ) (said : said.Call) (call : Call) (verb : Verb) (s t : RunOf D) (out end : Option (List ℕ)) (n l : NotesOf) (r : Result Flow ConsoleFault) → call ≡ called said → verb ≡ verb_of call
      → Runs (happens contents failures (event.Start hart call) verb) s out n r t end l → Runs (starts contents failures hart said) s out n r t end l
  started hart said call verb s t out end n l r is word runs =
      then (takes_memory (called said)) (λ c. happens contents failures (event.Start hart c) (verb_of c)) call s s t out out end n n l r (has_memory (called said) call s out n is)
      (subst (λ v. Runs (happens contents failures (event.Start hart call) v) s out n r t end l) word runs)

  pub not_started : (hart : ℕ) (said : said.Call) (s : RunOf D) (out : Option (List ℕ)) (n : NotesOf) (r : Result Flow ConsoleFault) → r ≡ Err faults.Memory → Runs (starts contents failures hart said) s out n r s out n
  not_started hart said s out n r is =
      subst (λ x. Runs (starts contents failures hart said) s out n x s out n) (sym is)
      (ends_in_fault (takes_memory (called said)) (λ c. happens contents failures (event.Start hart c) (verb_of c)) faults.Memory s s out out n n (no_memory (called said) s out n))

  -- ---- an act

  acts_so : (until : Option Until) (hart : ℕ) (d : Option Doing) (cs : List said.Call) (s t : RunOf D) (out end : Option (List ℕ)) (n l : NotesOf) (r : Result Flow ConsoleFault) → doing_at hart s.session.doing ≡ d → left_to hart s.left ≡ cs
      → Runs (acts_as contents failures until hart d cs) s out n r t end l → Runs (acts contents failures until hart) s out n r t end l
  unfolding acts
  acts_so until hart d cs s t out end n l r is left runs = record {
    events = runs.events;
    text = runs.text;
    does = subst (λ x. acts_as contents failures until hart x (left_to hart s.left) s runs.events runs.text r t) (sym is)
        (subst (λ x. acts_as contents failures until hart d x s runs.events runs.text r t) (sym left) runs.does);
    told = runs.told;
  }

  pub had_enough : (until : Option Until) (hart : ℕ) (d : Doing) (s : RunOf D) (out : Option (List ℕ)) (n : NotesOf) → Some d ≡ doing_at hart s.session.doing → is_enough until d ≡ true → Runs (acts contents failures until hart) s out n (Ok Rests) s out n
  had_enough until hart d s out n is enough =
      acts_so until hart (Some d) _ s s out out n n (Ok Rests) (sym is) refl
      (in_this_case (is_enough until d) (gives Rests) (happens contents failures (event.Step hart) d.verb) s s out out n n (Ok Rests) enough (gives_at_once Rests s out n))

  pub made_step : (until : Option Until) (hart : ℕ) (d : Doing) (s t : RunOf D) (out end : Option (List ℕ)) (n l : NotesOf) (r : Result Flow ConsoleFault) → Some d ≡ doing_at hart s.session.doing → is_enough until d ≡ false
      → Runs (happens contents failures (event.Step hart) d.verb) s out n r t end l → Runs (acts contents failures until hart) s out n r t end l
  made_step until hart d s t out end n l r is enough runs =
      acts_so until hart (Some d) _ s t out end n l r (sym is) refl
      (in_other_case (is_enough until d) (gives Rests) (happens contents failures (event.Step hart) d.verb) s t out end n l r enough runs)

  pub had_none : (until : Option Until) (hart : ℕ) (session : SessionOf D) (left after : QueuedCalls) (out : Option (List ℕ)) (n : NotesOf) → None ≡ doing_at hart session.doing → TakesNext hart left None after
      → Runs (acts contents failures until hart) (state session left) out n (Ok Rests) (state session after) out n
  had_none until hart session left after out n is takes =
      subst (λ x. Runs (acts contents failures until hart) (state session left) out n (Ok Rests) (state session x) out n) (sym takes.1)
      (acts_so until hart None [] (state session left) (state session left) out out n n (Ok Rests) (sym is) takes.0 (gives_at_once Rests (state session left) out n))

  pub began_next : (until : Option Until) (hart : ℕ) (call : said.Call) (session : SessionOf D) (left after : QueuedCalls) (t : RunOf D) (out end : Option (List ℕ)) (n l : NotesOf) (r : Result Flow ConsoleFault) → None ≡ doing_at hart session.doing
      → TakesNext hart left (Some call) after → Runs (starts contents failures hart call) (state session after) out n r t end l → Runs (acts contents failures until hart) (state session left) out n r t end l
  began_next until hart call session left after t out end n l r is takes runs =
      let at : Runs (starts contents failures hart call) (state session (set left hart takes.0)) out n r t end l = subst (λ x. Runs (starts contents failures hart call) (state session x) out n r t end l) takes.2 runs in
      acts_so until hart None (call ∷ takes.0) (state session left) t out end n l r (sym is) takes.1
      (record { events = at.events; text = at.text; does = at.does; told = at.told })

  -- ---- a turn, and turns

  pub turn_more : (until : Option Until) (harts : List ℕ) (i : ℕ) (hart : ℕ) (flow more next : Flow) (s u t : RunOf D) (out mid end : Option (List ℕ)) (n m l : NotesOf) (r : Result Flow ConsoleFault) → i < length harts → hart ≡ get_or harts i 0 → next ≡ joined flow more
      → Runs (acts contents failures until hart) s out n (Ok more) u mid m → Runs (turn contents failures until (drop (i + 1) harts) next) u mid m r t end l → Runs (turn contents failures until (drop i harts) flow) s out n r t end l
  unfolding turn
  turn_more until harts i hart flow more next s u t out mid end n m l r lt is join first rest =
      let split : drop i harts ≡ hart ∷ drop (i + 1) harts = at_drop_more (λ hs. hs) harts i 0 lt ∙ ap (λ h. h ∷ drop (i + 1) harts) (sym is) in
      subst (λ hs. Runs (turn contents failures until hs flow) s out n r t end l) (sym split)
      (then (acts contents failures until hart) (λ more. turn contents failures until (drop (i + 1) harts) (joined flow more)) more s u t out mid end n m l r first
      (subst (λ f. Runs (turn contents failures until (drop (i + 1) harts) f) u mid m r t end l) join rest))

  pub turn_fault : (until : Option Until) (harts : List ℕ) (i : ℕ) (hart : ℕ) (flow : Flow) (fault : ConsoleFault) (r : Result Flow ConsoleFault) (s t : RunOf D) (out end : Option (List ℕ)) (n l : NotesOf) → r ≡ Err fault → i < length harts → hart ≡ get_or harts i 0
      → Runs (acts contents failures until hart) s out n (Err fault) t end l → Runs (turn contents failures until (drop i harts) flow) s out n r t end l
  unfolding turn
  turn_fault until harts i hart flow fault r s t out end n l fails lt is first =
      subst (λ y. Runs (turn contents failures until (drop i harts) flow) s out n y t end l) (sym fails)
      (
      let split : drop i harts ≡ hart ∷ drop (i + 1) harts = at_drop_more (λ hs. hs) harts i 0 lt ∙ ap (λ h. h ∷ drop (i + 1) harts) (sym is) in
      subst (λ hs. Runs (turn contents failures until hs flow) s out n (Err fault) t end l) (sym split)
      (ends_in_fault (acts contents failures until hart) (λ more. turn contents failures until (drop (i + 1) harts) (joined flow more)) fault s t out end n l first)
      )

  pub turn_end : (until : Option Until) (harts : List ℕ) (i : ℕ) (flow : Flow) (s : RunOf D) (out : Option (List ℕ)) (n : NotesOf) → length harts ≤ i → Runs (turn contents failures until (drop i harts) flow) s out n (Ok flow) s out n
  unfolding turn
  turn_end until harts i flow s out n le = subst (λ hs. Runs (turn contents failures until hs flow) s out n (Ok flow) s out n) (sym (at_drop_all (λ hs. hs) harts i le)) (gives_at_once flow s out n)

  pub turns_more : (plan : Plan) (harts : List ℕ) (k k' : ℕ) (last flow : Flow) (s u t : RunOf D) (out mid end : Option (List ℕ)) (n m l : NotesOf) (r : Result Flow ConsoleFault) → k ≡ suc k' → goes_on last ≡ true
      → Runs (turn contents failures plan.until harts Rests) s out n (Ok flow) u mid m → Runs (turns contents failures plan harts k' flow) u mid m r t end l → Runs (turns contents failures plan harts k last) s out n r t end l
  unfolding turns
  turns_more plan harts k k' last flow s u t out mid end n m l r is goes first rest =
      subst (λ x. Runs (turns contents failures plan harts x last) s out n r t end l) (sym is)
      (in_this_case (goes_on last) (followed_by (turn contents failures plan.until harts Rests) (λ f. turns contents failures plan harts k' f)) (gives last) s t out end n l r goes
      (then (turn contents failures plan.until harts Rests) (λ f. turns contents failures plan harts k' f) flow s u t out mid end n m l r first rest))

  pub turns_fault : (plan : Plan) (harts : List ℕ) (k k' : ℕ) (last : Flow) (fault : ConsoleFault) (r : Result Flow ConsoleFault) (s t : RunOf D) (out end : Option (List ℕ)) (n l : NotesOf) → r ≡ Err fault → k ≡ suc k' → goes_on last ≡ true
      → Runs (turn contents failures plan.until harts Rests) s out n (Err fault) t end l → Runs (turns contents failures plan harts k last) s out n r t end l
  unfolding turns
  turns_fault plan harts k k' last fault r s t out end n l fails is goes first =
      subst (λ y. Runs (turns contents failures plan harts k last) s out n y t end l) (sym fails)
      (
      subst (λ x. Runs (turns contents failures plan harts x last) s out n (Err fault) t end l) (sym is)
      (in_this_case (goes_on last) (followed_by (turn contents failures plan.until harts Rests) (λ f. turns contents failures plan harts k' f)) (gives last) s t out end n l (Err fault) goes
      (ends_in_fault (turn contents failures plan.until harts Rests) (λ f. turns contents failures plan harts k' f) fault s t out end n l first))
      )

  pub turns_rest : (plan : Plan) (harts : List ℕ) (k : ℕ) (last : Flow) (s : RunOf D) (out : Option (List ℕ)) (n : NotesOf) → goes_on last ≡ false → Runs (turns contents failures plan harts k last) s out n (Ok last) s out n
  unfolding turns
  turns_rest plan harts zero last s out n goes = gives_at_once last s out n
  turns_rest plan harts (suc k) last s out n goes =
      in_other_case (goes_on last) (followed_by (turn contents failures plan.until harts Rests) (λ f. turns contents failures plan harts k f)) (gives last) s s out out n n (Ok last) goes (gives_at_once last s out n)

  pub turns_end : (plan : Plan) (harts : List ℕ) (k : ℕ) (last : Flow) (s : RunOf D) (out : Option (List ℕ)) (n : NotesOf) → k ≡ 0 → Runs (turns contents failures plan harts k last) s out n (Ok last) s out n
  unfolding turns
  turns_end plan harts k last s out n is = subst (λ x. Runs (turns contents failures plan harts x last) s out n (Ok last) s out n) (sym is) (gives_at_once last s out n)

  -- ---- who waits

  pub wait_more : (harts : List ℕ) (i : ℕ) (hart : ℕ) (s t : RunOf D) (out mid end : Option (List ℕ)) (n l : NotesOf) (r : Result (Unit {0}) ConsoleFault) → i < length harts → hart ≡ get_or harts i 0
      → Appends out mid (wait_text hart (doing_at hart s.session.doing)) → Runs (tells_waits contents failures (drop (i + 1) harts)) s mid n r t end l → Runs (tells_waits contents failures (drop i harts)) s out n r t end l
  unfolding tells_waits
  wait_more harts i hart s t out mid end n l r lt is text rest =
      let split : drop i harts ≡ hart ∷ drop (i + 1) harts = at_drop_more (λ hs. hs) harts i 0 lt ∙ ap (λ h. h ∷ drop (i + 1) harts) (sym is) in
      subst (λ hs. Runs (tells_waits contents failures hs) s out n r t end l) (sym split)
      (then (prints (λ s. wait_text hart (doing_at hart s.session.doing))) (λ u. tells_waits contents failures (drop (i + 1) harts)) tt s s t out mid end n n l r
      (printed_so (λ s. wait_text hart (doing_at hart s.session.doing)) s out mid n (Ok tt) tt text) rest)

  pub wait_fault : (harts : List ℕ) (i : ℕ) (hart : ℕ) (fault : ConsoleFault) (r : Result (Unit {0}) ConsoleFault) (s : RunOf D) (out end : Option (List ℕ)) (n : NotesOf) → r ≡ Err fault → i < length harts → hart ≡ get_or harts i 0 → IsWritten (Err fault)
      → Runs (tells_waits contents failures (drop i harts)) s out n r s end n
  unfolding tells_waits
  wait_fault harts i hart fault r s out end n fails lt is may =
      subst (λ y. Runs (tells_waits contents failures (drop i harts)) s out n y s end n) (sym fails)
      (
      let split : drop i harts ≡ hart ∷ drop (i + 1) harts = at_drop_more (λ hs. hs) harts i 0 lt ∙ ap (λ h. h ∷ drop (i + 1) harts) (sym is) in
      subst (λ hs. Runs (tells_waits contents failures hs) s out n (Err fault) s end n) (sym split)
      (ends_in_fault (prints (λ s. wait_text hart (doing_at hart s.session.doing))) (λ u. tells_waits contents failures (drop (i + 1) harts)) fault s s out end n n
      (printed_so (λ s. wait_text hart (doing_at hart s.session.doing)) s out end n (Err fault) may tt))
      )

  pub wait_end : (harts : List ℕ) (i : ℕ) (s : RunOf D) (out : Option (List ℕ)) (n : NotesOf) → length harts ≤ i → Runs (tells_waits contents failures (drop i harts)) s out n (Ok tt) s out n
  unfolding tells_waits
  wait_end harts i s out n le = subst (λ hs. Runs (tells_waits contents failures hs) s out n (Ok tt) s out n) (sym (at_drop_all (λ hs. hs) harts i le)) (gives_at_once tt s out n)

  -- ---- lines

  pub line_more : (ls : List said.Line) (i j : ℕ) (l' : said.Line) (s u t : RunOf D) (out mid end : Option (List ℕ)) (n m l : NotesOf) (r : Result (Unit {0}) ConsoleFault) → drop i ls ≡ l' ∷ drop j ls
      → Runs (line contents failures l') s out n (Ok tt) u mid m → Runs (lines contents failures (drop j ls)) u mid m r t end l → Runs (lines contents failures (drop i ls)) s out n r t end l
  unfolding lines
  line_more ls i j l' s u t out mid end n m l r split first rest =
      subst (λ x. Runs (lines contents failures x) s out n r t end l) (sym split)
      (then (line contents failures l') (λ u. lines contents failures (drop j ls)) tt s u t out mid end n m l r first rest)

  pub line_fault : (ls : List said.Line) (i j : ℕ) (l' : said.Line) (fault : ConsoleFault) (r : Result (Unit {0}) ConsoleFault) (s t : RunOf D) (out end : Option (List ℕ)) (n l : NotesOf) → r ≡ Err fault → drop i ls ≡ l' ∷ drop j ls
      → Runs (line contents failures l') s out n (Err fault) t end l → Runs (lines contents failures (drop i ls)) s out n r t end l
  unfolding lines
  line_fault ls i j l' fault r s t out end n l fails split first =
      subst (λ y. Runs (lines contents failures (drop i ls)) s out n y t end l) (sym fails)
      (
      subst (λ x. Runs (lines contents failures x) s out n (Err fault) t end l) (sym split)
      (ends_in_fault (line contents failures l') (λ u. lines contents failures (drop j ls)) fault s t out end n l first)
      )

  pub lines_end : (ls : List said.Line) (i : ℕ) (s : RunOf D) (out : Option (List ℕ)) (n : NotesOf) → length ls ≤ i → Runs (lines contents failures (drop i ls)) s out n (Ok tt) s out n
  unfolding lines
  lines_end ls i s out n le = subst (λ x. Runs (lines contents failures x) s out n (Ok tt) s out n) (sym (at_drop_all (λ x. x) ls i le)) (gives_at_once tt s out n)

  -- ---- settling

  pub settled : (plan : Plan) (harts : List ℕ) (flow : Flow) (s u t : RunOf D) (out mid end : Option (List ℕ)) (n m l : NotesOf) (r : Result (Unit {0}) ConsoleFault) → Runs (turns contents failures plan harts plan.most Moves) s out n (Ok flow) u mid m
      → Runs (tells_flow contents failures harts flow) u mid m r t end l → Runs (settles contents failures plan harts) s out n r t end l
  unfolding settles
  settled plan harts flow s u t out mid end n m l r first rest = then (turns contents failures plan harts plan.most Moves) (tells_flow contents failures harts) flow s u t out mid end n m l r first rest

  pub settle_fault : (plan : Plan) (harts : List ℕ) (fault : ConsoleFault) (r : Result (Unit {0}) ConsoleFault) (s t : RunOf D) (out end : Option (List ℕ)) (n l : NotesOf) → r ≡ Err fault
      → Runs (turns contents failures plan harts plan.most Moves) s out n (Err fault) t end l → Runs (settles contents failures plan harts) s out n r t end l
  unfolding settles
  settle_fault plan harts fault r s t out end n l fails first =
      subst (λ y. Runs (settles contents failures plan harts) s out n y t end l) (sym fails)
      (ends_in_fault (turns contents failures plan harts plan.most Moves) (tells_flow contents failures harts) fault s t out end n l first)

  -- ---- one line

  pub start_line : (hart : ℕ) (call : said.Call) (flow : Flow) (s t : RunOf D) (out end : Option (List ℕ)) (n l : NotesOf) → Runs (starts contents failures hart call) s out n (Ok flow) t end l → Runs (line contents failures (Start hart call)) s out n (Ok tt) t end l
  unfolding line
  start_line hart call flow s t out end n l first = then (starts contents failures hart call) (λ f. gives tt) flow s t t out end end n l l (Ok tt) first (gives_at_once tt t end l)

  pub start_line_fault : (hart : ℕ) (call : said.Call) (fault : ConsoleFault) (r : Result (Unit {0}) ConsoleFault) (s t : RunOf D) (out end : Option (List ℕ)) (n l : NotesOf) → r ≡ Err fault → Runs (starts contents failures hart call) s out n (Err fault) t end l
      → Runs (line contents failures (Start hart call)) s out n r t end l
  unfolding line
  start_line_fault hart call fault r s t out end n l fails first =
      subst (λ y. Runs (line contents failures (Start hart call)) s out n y t end l) (sym fails) (ends_in_fault (starts contents failures hart call) (λ f. gives tt) fault s t out end n l first)

  pub run_line : (hart : ℕ) (call : said.Call) (flow : Flow) (s u t : RunOf D) (out mid end : Option (List ℕ)) (n m l : NotesOf) (r : Result (Unit {0}) ConsoleFault) → Runs (starts contents failures hart call) s out n (Ok flow) u mid m
      → Runs (settles contents failures to_end (hart ∷ [])) u mid m r t end l → Runs (line contents failures (Run hart call)) s out n r t end l
  unfolding line
  run_line hart call flow s u t out mid end n m l r first rest = then (starts contents failures hart call) (λ f. settles contents failures to_end (hart ∷ [])) flow s u t out mid end n m l r first rest

  pub run_line_fault : (hart : ℕ) (call : said.Call) (fault : ConsoleFault) (r : Result (Unit {0}) ConsoleFault) (s t : RunOf D) (out end : Option (List ℕ)) (n l : NotesOf) → r ≡ Err fault → Runs (starts contents failures hart call) s out n (Err fault) t end l
      → Runs (line contents failures (Run hart call)) s out n r t end l
  unfolding line
  run_line_fault hart call fault r s t out end n l fails first =
      subst (λ y. Runs (line contents failures (Run hart call)) s out n y t end l) (sym fails) (ends_in_fault (starts contents failures hart call) (λ f. settles contents failures to_end (hart ∷ [])) fault s t out end n l first)

  pub step_line : (hart steps : ℕ) (flow : Flow) (s t : RunOf D) (out end : Option (List ℕ)) (n l : NotesOf) → Runs (turns contents failures (in_steps steps) (hart ∷ []) steps Moves) s out n (Ok flow) t end l
      → Runs (line contents failures (Step hart steps)) s out n (Ok tt) t end l
  unfolding line
  step_line hart steps flow s t out end n l first = then (turns contents failures (in_steps steps) (hart ∷ []) steps Moves) (λ f. gives tt) flow s t t out end end n l l (Ok tt) first (gives_at_once tt t end l)

  pub step_line_fault : (hart steps : ℕ) (fault : ConsoleFault) (r : Result (Unit {0}) ConsoleFault) (s t : RunOf D) (out end : Option (List ℕ)) (n l : NotesOf) → r ≡ Err fault → Runs (turns contents failures (in_steps steps) (hart ∷ []) steps Moves) s out n (Err fault) t end l
      → Runs (line contents failures (Step hart steps)) s out n r t end l
  unfolding line
  step_line_fault hart steps fault r s t out end n l fails first =
      subst (λ y. Runs (line contents failures (Step hart steps)) s out n y t end l) (sym fails) (ends_in_fault (turns contents failures (in_steps steps) (hart ∷ []) steps Moves) (λ f. gives tt) fault s t out end n l first)

  pub settle_line : (said : said.Line) (plan : Plan) (harts : List ℕ) (s t : RunOf D) (out end : Option (List ℕ)) (n l : NotesOf) (r : Result (Unit {0}) ConsoleFault) → line contents failures said ≡ settles contents failures plan harts
      → Runs (settles contents failures plan harts) s out n r t end l → Runs (line contents failures said) s out n r t end l
  settle_line said plan harts s t out end n l r is runs = subst (λ b. Runs b s out n r t end l) (sym is) runs

  pub upto_is : (hart : ℕ) (kind : Kind) (steps : ℕ) → line contents failures (Upto hart kind steps) ≡ settles contents failures (up_to kind steps) (hart ∷ [])
  unfolding line
  upto_is hart kind steps = refl

  pub end_is : (hart : ℕ) → line contents failures (End hart) ≡ settles contents failures to_end (hart ∷ [])
  unfolding line
  end_is hart = refl

  pub all_is : line contents failures All ≡ settles contents failures to_end all_harts
  unfolding line
  all_is = refl

  pub settled_so : (plan : Plan) (harts : List ℕ) (flow want : Flow) (s u t : RunOf D) (out mid end : Option (List ℕ)) (n m l : NotesOf) (r : Result (Unit {0}) ConsoleFault) → flow ≡ want → Runs (turns contents failures plan harts plan.most Moves) s out n (Ok flow) u mid m
      → Runs (tells_flow contents failures harts want) u mid m r t end l → Runs (settles contents failures plan harts) s out n r t end l
  settled_so plan harts flow want s u t out mid end n m l r is first rest = settled plan harts flow s u t out mid end n m l r first (subst (λ f. Runs (tells_flow contents failures harts f) u mid m r t end l) (sym is) rest)

  pub quiet : (s : RunOf D) (out : Option (List ℕ)) (n : NotesOf) → Runs {S = RunOf D} {A = Unit {0}} (gives tt) s out n (Ok tt) s out n
  quiet s out n = gives_at_once {A = Unit {0}} tt s out n

  pub with_plan : (plan want : Plan) (harts : List ℕ) (s t : RunOf D) (out end : Option (List ℕ)) (n l : NotesOf) (r : Result (Unit {0}) ConsoleFault) → plan ≡ want → Runs (settles contents failures plan harts) s out n r t end l → Runs (settles contents failures want harts) s out n r t end l
  with_plan plan want harts s t out end n l r is runs = subst (λ p. Runs (settles contents failures p harts) s out n r t end l) is runs

  pub with_turns : (plan want : Plan) (harts : List ℕ) (s t : RunOf D) (out end : Option (List ℕ)) (n l : NotesOf) (r : Result Flow ConsoleFault) → plan ≡ want → Runs (turns contents failures plan harts plan.most Moves) s out n r t end l
      → Runs (turns contents failures want harts want.most Moves) s out n r t end l
  with_turns plan want harts s t out end n l r is runs = subst (λ p. Runs (turns contents failures p harts p.most Moves) s out n r t end l) is runs

  pub of_line : (l' want : said.Line) (s t : RunOf D) (out end : Option (List ℕ)) (n l : NotesOf) (r : Result (Unit {0}) ConsoleFault) → l' ≡ want → Runs (line contents failures want) s out n r t end l → Runs (line contents failures l') s out n r t end l
  of_line l' want s t out end n l r is runs = subst (λ x. Runs (line contents failures x) s out n r t end l) (sym is) runs
