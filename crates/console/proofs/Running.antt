-- A script that was run, and why it had no end.
use Rattle.console.proofs.Vocabulary.{◌≡◌, ℕ, Bool, true, false, TellsHistory, WhereSet, KeptRun, run_in, ◌<◌, min, arith, List, [], length, take, Option, Some, None, option_map, Result, Ok, Err, refl, ap, sym, ◌∙◌, subst, inl, inr, take_all, length-take, IfSome, Stop, ConsoleFault, Mode, Runs, lines, state, History, HistoryBeside, CourseOf, FailsTo, IsMemory, script_course, NotesOf, no_notes, QueuedCalls, EndsOn, EndsSo, FailsUnread, PrintsAll, RunsCourse, RunsReader, RunsScript, or_stopped, KeptTree, SessionOf, with_beside, known_at}
use Rattle.console.specs.declared.fault.ConsoleFault.TheVariants as faults

any_text : (script : Option (List ℕ)) → (text : List ℕ) × IfSome script (λ bytes. text ≡ bytes)
any_text None = ([], tt)
any_text (Some bytes) = (bytes, refl)

-- what is shorter than the limit is the whole
pub whole_text : (script : Option (List ℕ)) (limit : ℕ) (items : List ℕ) → IfSome (option_map (take limit) script) (λ xs. items ≡ xs) → length items < limit → IfSome script (λ bytes. items ≡ bytes)
whole_text None limit items is few = tt
whole_text (Some bytes) limit items is few =
    let count : length items ≡ min limit (length bytes) = ap length is ∙ length-take limit bytes in
    is ∙ take_all limit bytes (omega (arith, count, few))

-- a call was stopped, and all else is printed
pub stopped_so : (mode : Mode) (history : History) (notes : NotesOf) (ended : Result (Unit {0}) ConsoleFault) (stop : Stop) (told result : Result (Unit {0}) ConsoleFault) (out out' : Option (List ℕ)) → ended ≡ Err (faults.Stopped stop)
    → PrintsAll mode history notes out told out' → result ≡ or_stopped stop told → EndsSo mode history notes ended out result out'
stopped_so mode history notes ended stop told result out out' was printed is = subst (λ r. EndsSo mode history notes r out result out') (sym was) (told, printed, is)

-- ---- a history is another one

module _ (mode : Mode) (one other : History) (so : (run : KeptRun) (text : List ℕ) → one run text → other run text) where
  told_as : (run : KeptRun) (result : Result (Unit {0}) ConsoleFault) (out out' : Option (List ℕ)) → TellsHistory one run result out out' → TellsHistory other run result out out'
  told_as run result out out' (inl told) = inl (record { text = told.text; is_history = so run told.text told.is_history; ends = told.ends; printed = told.printed })
  told_as run result out out' (inr untold) = inr untold

  wanted_as : (b : Bool) (run : KeptRun) (result : Result (Unit {0}) ConsoleFault) (out out' : Option (List ℕ)) (Else : Type 0) → WhereSet b (TellsHistory one run result out out') Else → WhereSet b (TellsHistory other run result out out') Else
  wanted_as true run result out out' Else told = told_as run result out out' told
  wanted_as false run result out out' Else told = told

  printed_as : (notes : NotesOf) (out : Option (List ℕ)) (result : Result (Unit {0}) ConsoleFault) (out' : Option (List ℕ)) → PrintsAll mode one notes out result out' → PrintsAll mode other notes out result out'
  printed_as notes out result out' (inl printed) = inl (printed.0, printed.1, wanted_as mode.explain (run_in notes.kept) result printed.0 out' ((result ≡ Ok tt) × (out' ≡ printed.0)) printed.2)
  printed_as notes out result out' (inr unwritten) = inr unwritten

  pub ends_as : (notes : NotesOf) (ends result : Result (Unit {0}) ConsoleFault) (out out' : Option (List ℕ)) → EndsSo mode one notes ends out result out' → EndsSo mode other notes ends out result out'
  ends_as notes (Ok u) result out out' printed = printed_as notes out result out' printed
  ends_as notes (Err (faults.Stopped stop)) result out out' printed = (printed.0, printed_as notes out printed.0 out' printed.1, printed.2)
  ends_as notes (Err faults.Memory) result out out' is = is
  ends_as notes (Err (faults.Write e)) result out out' is = is
  ends_as notes (Err (faults.Image f)) result out out' is = is
  ends_as notes (Err (faults.Read e)) result out out' is = is
  ends_as notes (Err (faults.Line n why)) result out out' is = is

module _ {D : Type 0} (contents : D → List (List ℕ)) (failures : D → ℕ) where
  pub no_memory : (mode : Mode) (history : HistoryBeside) (s : SessionOf D) (course : Result CourseOf ℕ) (out : Option (List ℕ)) → RunsScript contents failures mode history s course (Err faults.Memory) s out out
  no_memory mode history s (Ok course) out = inr (record { memory = refl; same = refl; silent = refl })
  no_memory mode history s (Err n) out = (tt, refl, refl)

  pub unread : (mode : Mode) (history : HistoryBeside) (s : SessionOf D) (script : Option (List ℕ)) (fault : ConsoleFault) (out : Option (List ℕ)) → FailsUnread fault → RunsReader contents failures mode history s script (Err fault) s out out
  unread mode history s script (faults.Read e) out may = inl (record { fault = tt; same = refl; silent = refl })
  unread mode history s script faults.Memory out may = let text = any_text script in inr (text.0, text.1, no_memory mode history s _ out)
  unread mode history s script (faults.Write e) out may = absurd may
  unread mode history s script (faults.Line n why) out may = absurd may
  unread mode history s script (faults.Image f) out may = absurd may
  unread mode history s script (faults.Stopped stop) out may = absurd may

  -- ---- a course

  -- from begins it, and to is left when its lines are run; shown: what is known beside it then
  pub course_run : (mode : Mode) (history : HistoryBeside) (course : CourseOf) (s from to t : SessionOf D) (queues left : QueuedCalls) (beside shown : Option KeptTree) (ends result : Result (Unit {0}) ConsoleFault) (out between out' : Option (List ℕ)) (first notes : NotesOf)
      → queues ≡ course.left → first ≡ no_notes mode → from ≡ with_beside beside s → t ≡ with_beside None to → shown ≡ known_at to to.beside
      → Runs (lines contents failures course.lines) (state from queues) out first ends (state to left) between notes → EndsSo mode (history beside shown) notes ends between result out' → RunsCourse contents failures mode history s course result t out out'
  course_run mode history course s from to t queues left beside shown ends result out between out' first notes same is begins gone has runs end =
      let over : with_beside to.beside t ≡ to = ap (with_beside to.beside) gone in
      let known : shown ≡ known_at t to.beside = has ∙ sym (ap (λ (u : SessionOf D). known_at u to.beside) gone) in
      inl (record {
        left = left;
        ends = ends;
        between = between;
        notes = notes;
        first = beside;
        kept = to.beside;
        runs = subst (λ (v : SessionOf D). Runs (lines contents failures course.lines) (state (with_beside beside s) course.left) out (no_notes mode) ends (state v left) between notes) (sym over)
            (subst (λ (u : SessionOf D). Runs (lines contents failures course.lines) (state u course.left) out (no_notes mode) ends (state to left) between notes) begins
            (subst (λ n. Runs (lines contents failures course.lines) (state from course.left) out n ends (state to left) between notes) is
            (subst (λ q. Runs (lines contents failures course.lines) (state from q) out first ends (state to left) between notes) same runs)));
        end = subst (λ (k : Option KeptTree). EndsSo mode (history beside k) notes ends between result out') known end;
      })

  pub with_course : (mode : Mode) (history : HistoryBeside) (script : Result CourseOf ℕ) (course : CourseOf) (s t : SessionOf D) (result : Result (Unit {0}) ConsoleFault) (out out' : Option (List ℕ)) → script ≡ Ok course → RunsCourse contents failures mode history s course result t out out'
      → RunsScript contents failures mode history s script result t out out'
  with_course mode history script course s t result out out' is runs = subst (λ x. RunsScript contents failures mode history s x result t out out') (sym is) runs

  memory_only : (mode : Mode) (history : HistoryBeside) (course : CourseOf) (s : SessionOf D) (fault : ConsoleFault) (out : Option (List ℕ)) → IsMemory fault → RunsCourse contents failures mode history s course (Err fault) s out out
  memory_only mode history course s faults.Memory out is = inr (record { memory = refl; same = refl; silent = refl })
  memory_only mode history course s (faults.Line n why) out is = absurd is
  memory_only mode history course s (faults.Image f) out is = absurd is
  memory_only mode history course s (faults.Read e) out is = absurd is
  memory_only mode history course s (faults.Write e) out is = absurd is
  memory_only mode history course s (faults.Stopped stop) out is = absurd is

  pub failed_course : (mode : Mode) (history : HistoryBeside) (script : Result CourseOf ℕ) (s : SessionOf D) (fault : ConsoleFault) (result : Result (Unit {0}) ConsoleFault) (out : Option (List ℕ)) → result ≡ Err fault → FailsTo fault script → RunsScript contents failures mode history s script result s out out
  failed_course mode history (Ok course) s fault result out is fails = subst (λ r. RunsCourse contents failures mode history s course r s out out) (sym is) (memory_only mode history course s fault out fails)
  failed_course mode history (Err n) s fault result out is fails = (subst (λ r. EndsOn n r) (sym is) fails, refl, refl)

  pub was_read : (mode : Mode) (history : HistoryBeside) (s t : SessionOf D) (script : Option (List ℕ)) (text slice : List ℕ) (result : Result (Unit {0}) ConsoleFault) (out out' : Option (List ℕ)) → IfSome script (λ bytes. text ≡ bytes) → slice ≡ text
      → RunsScript contents failures mode history s (script_course mode.schedule slice) result t out out' → RunsReader contents failures mode history s script result t out out'
  was_read mode history s t script text slice result out out' is same runs = inr (text, is, subst (λ x. RunsScript contents failures mode history s (script_course mode.schedule x) result t out out') same runs)
